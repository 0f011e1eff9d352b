-- A block leaves a page: what its kill answers, and the states that it leaves.
use Rattle.std.specs.Prelude.{List, [], ◌∷◌, ◌++◌, ℕ, Option, Some, None}
use Rattle.geometry.specs.declared.Geometry.{Geometry}
use Rattle.model.specs.State.{State, with_view, free_all}
use Rattle.model.specs.Effects.{erase}
use Rattle.model.specs.Layout.{state_of}
use Rattle.tables.specs.Puts.{with_list}
use Rattle.paging.specs.Target.{frees_of}
use Rattle.paging.specs.declared.kill.Freed.{Freed}

-- block b is freed, with birth v
abbrev pub freed_at : ℕ → ℕ → Option Freed
freed_at b v = Some (record { block = b; birth = v })

-- the answer of a kill that freed these blocks, one or none
unfoldable pub killed_of : (ℕ → ℕ) → List ℕ → Option Freed
killed_of birth [] = None
killed_of birth (b ∷ l) = freed_at b (birth b)

-- what t says, with block b at the end of the deadlist of the record in slot s
unfoldable pub dead_on : Geometry → List ℕ → ℕ → ℕ → State
dead_on g t s b = with_list (state_of g t) s ((state_of g t).view.list s ++ (b ∷ []))

-- what t says, with page x of the record in slot s empty: a block that is freed waits
unfoldable pub emptied : Geometry → List ℕ → ℕ → ℕ → State
emptied g t s x = free_all (frees_of g t s x) (with_view (state_of g t) (erase (state_of g t).view s x))
