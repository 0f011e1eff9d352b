-- `count_up`: the store itself.
use mathlib.Core.Path.{refl}
use Rattle.naming.specs.Rows.{count_up}
use Rattle.naming.proofs.rows.count_up.Goals as goal

pub returns : goal.returns
unfolding count_up
returns c = refl
