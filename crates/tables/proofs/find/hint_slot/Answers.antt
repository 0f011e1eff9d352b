-- A link is a byte, and it stands where the number's hint does.
use mathlib.Core.Path.{ap}
use lib.ListN.{set}
use Rattle.tables.specs.Hints.{noted}
use Rattle.tables.proofs.find.hint_slot.Goals as goal

pub returns : goal.returns
unfolding noted
returns c = let a = c.args in ap (λ i. set a.hints.now i a.link) c.hint_at.ensures.is
