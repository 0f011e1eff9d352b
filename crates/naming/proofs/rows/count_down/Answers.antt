-- `count_down`: the store itself.
use mathlib.Core.Path.{ap}
use Prim.Native.Nat.{◌+◌}
use native.Mathlib.Omega.{arith}
use lib.ListN.{set}
use Rattle.naming.specs.Rows.{count_down}
use Rattle.naming.proofs.rows.count_down.Goals as goal

pub returns : goal.returns
unfolding count_down
returns c = ap (set c.args.t.now (640 + c.args.s)) (omega arith)
