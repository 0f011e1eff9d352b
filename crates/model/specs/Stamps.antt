-- Stamps: one table for all records, in which the mark of a round is its number.
use Rattle.std.specs.Prelude.{cond, List, [], ◌∷◌, ℕ, eqb}
use Rattle.model.specs.Table.{put}

-- v at each number of l
unfoldable pub stamped : ℕ → (ℕ → ℕ) → List ℕ → ℕ → ℕ
stamped v f [] = f
stamped v f (b ∷ l) = stamped v (put f b v) l

-- the marks that stamps with v are
abbrev pub stamps : ℕ → (ℕ → ℕ) → ℕ → ℕ
stamps v f b = cond (eqb (f b) v) 1 0
