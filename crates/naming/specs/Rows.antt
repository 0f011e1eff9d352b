-- What the code stores in the counts of the records, and where a name is taken off.
use Rattle.std.specs.Prelude.{List, ℕ, pred, ◌+◌, get_or, set}
use Rattle.model.specs.Layout.{name_cell, title_cell}
use Rattle.tables.specs.Titles.{title_off}

-- slot s has one name more, and one less
unfoldable pub count_up : List ℕ → ℕ → List ℕ
count_up t s = set t (name_cell s) (get_or t (name_cell s) 0 + 1)

unfoldable pub count_down : List ℕ → ℕ → List ℕ
count_down t s = set t (name_cell s) (pred (get_or t (name_cell s) 0))

-- the record of row i has one name less, and the row becomes empty
unfoldable pub taken_off : List ℕ → ℕ → List ℕ
taken_off t i = title_off (count_down t (pred (get_or t (title_cell i) 0))) i
