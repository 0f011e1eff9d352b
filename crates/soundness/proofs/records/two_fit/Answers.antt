-- `two_fit`: the clause itself.
use Rattle.std.proofs.Common.{refl}
use Rattle.model.specs.Check.{imp}
use Rattle.soundness.proofs.records.two_fit.Goals as goal

pub returns : goal.returns
unfolding imp
returns c = refl
