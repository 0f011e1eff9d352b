-- The rows of names: the row that has a link, and what the code stores in a row.
use Rattle.std.specs.Prelude.{List, ℕ, ◌+◌, eqb, length, set}
use Rattle.std.proofs.lemmas.List.Edits.{sets}
use Rattle.model.specs.Table.{put, seek}
use Rattle.model.specs.Names.{Titles}
use Rattle.model.specs.Layout.{title_cell, letters_cell}

-- the first row that has this link, as a link: with 0 the first empty row
unfoldable pub row_with : Titles → ℕ → ℕ
row_with X link = seek (λ i. eqb (X.owner i) link) 0 32

-- row i has another link: its name goes to another record
unfoldable pub with_owner : Titles → ℕ → ℕ → Titles
with_owner X i link = record { owner = put X.owner i link; text = X.text }

-- ── in the tables t ──

-- row i has this link and the name l: link, length and letters are stored
unfoldable pub title_put : List ℕ → ℕ → ℕ → List ℕ → List ℕ
title_put t i link l = sets (set (set t (title_cell i) link) (title_cell i + 1) (length l)) (letters_cell i) l

-- row i becomes empty: nothing but its link is stored
unfoldable pub title_off : List ℕ → ℕ → List ℕ
title_off t i = set t (title_cell i) 0
