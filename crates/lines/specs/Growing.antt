-- The tables with a new record in slot f, in two steps; and a name that goes to it.
use Rattle.std.specs.Prelude.{cond, List, ℕ, zero, suc, ◌+◌, eqb, get_or, set}
use Rattle.geometry.specs.declared.Geometry.{Geometry}
use Rattle.model.specs.View.{View, page_of}
use Rattle.model.specs.State.{Notes, with_view, with_notes}
use Rattle.model.specs.Layout.{num_cell, open_cell, prev_cell, base_cell, length_cell, window_cell, name_cell, title_cell, titles_of, state_of, stored}
use Rattle.tables.specs.Puts.{with_row}
use Rattle.tables.specs.Titles.{row_with}

-- the pages of slot f are those behind the link l
unfoldable pub paged : Geometry → List ℕ → ℕ → ℕ → List ℕ
paged g t f l = stored g (with_row (state_of g t) f (page_of (state_of g t).view l)) t

-- the next number is given to slot f, which is open, with the links p and q, an empty deadlist, the window w and the count of names c
unfoldable pub opened : List ℕ → ℕ → ℕ → ℕ → ℕ → ℕ → List ℕ
opened t f p q w c =
    let n = get_or t 6 0 + 1 in
    let u = set (set (set (set (set (set t 6 n) (num_cell f) n) (open_cell f) 1) (prev_cell f) p) (base_cell f) q) (length_cell f) 0 in
    set (set u (window_cell f) w) (name_cell f) c

-- the row that a link leads to goes to slot f; with no row nothing changes
unfoldable pub handed : List ℕ → ℕ → ℕ → List ℕ
handed t zero f = t
handed t (suc i) f = set t (title_cell i) (suc f)

-- the first row of slot s goes to slot f, and the count of s becomes 0
unfoldable pub renamed : List ℕ → ℕ → ℕ → List ℕ
renamed t s f = set (handed t (row_with (titles_of t) (suc s)) f) (name_cell s) 0

-- the same where s has a name; else nothing changes
unfoldable pub passed : List ℕ → ℕ → ℕ → List ℕ
passed t s f = cond (eqb (get_or t (name_cell s) 0) 0) t (renamed t s f)

-- the tables t with the view K and the notes N
unfoldable pub viewed : Geometry → List ℕ → View → Notes → List ℕ
viewed g t K N = stored g (with_notes (with_view (state_of g t) K) N) t
