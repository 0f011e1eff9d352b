-- The queue of a stranger's tables: its blocks get marks, one after another.
use Rattle.std.specs.Prelude.{◌≡◌, ℕ, ◌<◌, Bool, true, ◌&&◌, List, [], ◌∷◌, ◌==◌, nat_le, nat_lt, slice_index, slice_set}
use Rattle.geometry.specs.declared.Geometry.{Geometry}
use Rattle.geometry.specs.Limits.{blocks}
use Rattle.alloc_log.specs.Marks.{held_in}
use Rattle.model.specs.Layout.{queue_cell, numbers}

-- of the first n blocks those that pass a test have a mark, and no others
abbrev pub Marked : ℕ → List ℕ → (ℕ → Bool) → Type 0
Marked n own test = (b : ℕ) → b < n → held_in own b ≡ test b

-- the first n places of the queue
abbrev pub first_queued : Geometry → List ℕ → ℕ → List ℕ
first_queued g t n = numbers t (queue_cell g.records (blocks g) 0) n

-- the marks, and a mark for each of a list
unfoldable pub marking : List ℕ → List ℕ → List ℕ
marking own [] = own
marking own (b ∷ l) = marking (slice_set own b 1) l

-- each of a list is below n, has no mark before, and its birth f is a number from 1 to `last`
unfoldable pub marks? : ℕ → (ℕ → ℕ) → ℕ → List ℕ → List ℕ → Bool
marks? n f last own [] = true
marks? n f last own (b ∷ l) = nat_lt b n && (slice_index own b == 0 && (nat_lt 0 (f b) && (nat_le (f b) last && marks? n f last (slice_set own b 1) l)))
