-- What each stage of a T makes of the tables t, of R slots and N blocks.
use Rattle.std.specs.Prelude.{List, [], ◌∷◌, ℕ, ◌-◌, min, get_or, set}
use Rattle.std.proofs.lemmas.List.Edits.{sets}
use Rattle.model.specs.Layout.{queue_cell, queue_birth_cell, numbers}
use Rattle.tables.specs.Births.{waited}

-- how many blocks a turn of k frees
unfoldable pub turn : List ℕ → ℕ → ℕ
turn t k = min k (get_or t 10 0)

-- the blocks of a list lose their births in the queue, and wait, one after another
unfoldable pub ended_all : ℕ → ℕ → List ℕ → List ℕ → List ℕ
ended_all R N t [] = t
ended_all R N t (b ∷ l) = ended_all R N (waited R N (set t (queue_birth_cell R N b) 0) b) l

-- the first n blocks leave the queue: the others move down
unfoldable pub shortened : ℕ → ℕ → List ℕ → ℕ → List ℕ
shortened R N t n = set (sets t (queue_cell R N 0) (numbers t (queue_cell R N n) (get_or t 10 0 - n))) 10 (get_or t 10 0 - n)
