-- `window_fits`: the clause itself.
use Rattle.std.proofs.Common.{refl}
use Rattle.soundness.proofs.records.window_fits.Goals as goal

pub returns : goal.returns
returns c = refl
