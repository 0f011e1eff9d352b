-- The verdict on an S, as its code looks for it: the first of 8, 9, 11 and 12 that holds, or the slots that it works on.
use Rattle.std.specs.Prelude.{List, [], ◌∷◌, ℕ, Result}
use Rattle.answer.specs.Refusal.{Condition}
use Rattle.geometry.specs.declared.Geometry.{Geometry}
use Rattle.model.specs.State.{State}
use Rattle.model.specs.Calls.{slot, new_slot, no_record, is_sealed, table_full, numbers_used}
use Rattle.model.specs.Layout.{state_of}
use Rattle.lines.specs.Verdicts.{verdict_of}

-- the refusals of an S on record r
abbrev pub first : State → ℕ → List Condition
first T r = no_record T r ∷ is_sealed T r ∷ table_full T ∷ numbers_used T ∷ []

unfoldable pub verdict_on : Geometry → List ℕ → ℕ → Result (ℕ × ℕ) ℕ
verdict_on g t r = verdict_of (first (state_of g t) r) (slot (state_of g t) r) (new_slot (state_of g t))
