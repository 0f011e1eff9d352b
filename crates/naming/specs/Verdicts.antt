-- The verdict on a call of a name, as its code looks for it: the first condition that is true, or the row that it works on.
use Rattle.std.specs.Prelude.{List, [], ◌∷◌, ℕ, pred, Result, Ok, Err}
use Rattle.answer.specs.declared.Refusal.{Refusal}
use Rattle.answer.specs.Number.{number_of}
use Rattle.answer.specs.Reply.{Reply, accepted, refused}
use Rattle.answer.specs.Refusal.{decide}
use Rattle.geometry.specs.declared.Geometry.{Geometry}
use Rattle.model.specs.Names.{row_of, empty_row}
use Rattle.model.specs.Command.{Attach, Resolve}
use Rattle.model.specs.Calls.{conditions}
use Rattle.model.specs.Layout.{titles_of, state_of}

-- a verdict as a reply that gives the row
unfoldable pub verdict_of : Result ℕ Refusal → Reply
verdict_of (Ok i) = accepted (i ∷ [])
verdict_of (Err r) = refused (number_of r)

-- N of the name l on record r: the first empty row
unfoldable pub attach_verdict : Geometry → List ℕ → List ℕ → ℕ → Reply
attach_verdict g t l r = decide (conditions g (state_of g t) (Attach l r)) (pred (empty_row (titles_of t)) ∷ [])

-- U and M of the name l: its row. The two have the same refusals
unfoldable pub find_verdict : Geometry → List ℕ → List ℕ → Reply
find_verdict g t l = decide (conditions g (state_of g t) (Resolve l)) (pred (row_of (titles_of t) l) ∷ [])
