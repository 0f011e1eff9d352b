-- What the verdict of a W says: the refusal that is replied, or that no condition holds, the slot of the record, the place of the block and its birth.
use Rattle.std.specs.Prelude.{◌≡◌, List, ℕ, Result, Ok, Err, Some}
use Rattle.answer.specs.Reply.{refused}
use Rattle.answer.specs.Refusal.{NoneHolds}
use Rattle.answer.specs.Number.{number_of}
use Rattle.answer.specs.declared.Refusal.{Refusal}
use Rattle.geometry.specs.declared.Geometry.{Geometry}
use Rattle.model.specs.Command.{Write}
use Rattle.model.specs.Calls.{slot, found, conditions}
use Rattle.model.specs.Layout.{state_of}
use Rattle.tables.specs.Outcome.{replied}
use Rattle.paging.specs.declared.place.Spot.{Spot}

abbrev pub Judged : Geometry → List ℕ → ℕ → ℕ → ℕ → Result (ℕ × Spot) Refusal → Type 0
Judged g t n x k (Err r) = replied g t (Write n x k) ≡ refused (number_of r)
Judged g t n x k (Ok a) =
    NoneHolds (conditions g (state_of g t) (Write n x k)) × (slot (state_of g t) n ≡ a.0) × (found g (state_of g t) k ≡ Some a.1.place) ×
    (a.1.birth ≡ n)
