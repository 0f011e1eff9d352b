-- What the verdict of an E says: the refusal that is replied, or that no condition holds, and the slot of the record.
use Rattle.std.specs.Prelude.{◌≡◌, List, ℕ, Result, Ok, Err}
use Rattle.answer.specs.Reply.{refused}
use Rattle.answer.specs.Refusal.{NoneHolds}
use Rattle.answer.specs.Number.{number_of}
use Rattle.answer.specs.declared.Refusal.{Refusal}
use Rattle.geometry.specs.declared.Geometry.{Geometry}
use Rattle.model.specs.Command.{Erase}
use Rattle.model.specs.Calls.{slot, conditions}
use Rattle.model.specs.Layout.{state_of}
use Rattle.tables.specs.Outcome.{replied}

abbrev pub Judged : Geometry → List ℕ → ℕ → ℕ → Result ℕ Refusal → Type 0
Judged g t n x (Err r) = replied g t (Erase n x) ≡ refused (number_of r)
Judged g t n x (Ok s) = NoneHolds (conditions g (state_of g t) (Erase n x)) × (slot (state_of g t) n ≡ s)
