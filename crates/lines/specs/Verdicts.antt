-- The verdict on a call that opens a record, as its code looks for it: the first condition that is true, or the slots it works on.
use Rattle.std.specs.Prelude.{cond, List, [], ◌∷◌, ℕ, pred, Result, Ok, Err}
use Rattle.answer.specs.declared.Refusal.{Refusal}
use Rattle.answer.specs.Number.{number_of}
use Rattle.answer.specs.Refusal.{Condition}
use Rattle.geometry.specs.declared.Geometry.{Geometry}
use Rattle.model.specs.Command.{Command}
use Rattle.model.specs.Actions.{vacant}
use Rattle.model.specs.Calls.{conditions}
use Rattle.model.specs.Layout.{state_of}

-- what a verdict's code answers, with the number of the refusal in its place
abbrev pub numbered : {A : Type 0} → Result A Refusal → Result A ℕ
numbered (Ok x) = Ok x
numbered (Err r) = Err (number_of r)

-- of these conditions, with the slots s and f
unfoldable pub verdict_of : List Condition → ℕ → ℕ → Result (ℕ × ℕ) ℕ
verdict_of [] s f = Ok (s, f)
verdict_of (c ∷ cs) s f = cond c.1 (Err c.0) (verdict_of cs s f)

-- of a call on the record in slot s
unfoldable pub verdict : Geometry → List ℕ → Command → ℕ → Result (ℕ × ℕ) ℕ
verdict g t c s = verdict_of (conditions g (state_of g t) c) s (pred (vacant (state_of g t).view))
