-- The other blocks of the queue move down; then its length is stored.
use native.Mathlib.Omega.{arith}
use mathlib.Core.Path.{ap}
use Prim.Native.Nat.{◌-◌}
use Rattle.geometry.specs.Limits.{blocks}
use Rattle.reclaiming.proofs.Ending
use Rattle.reclaiming.proofs.shorten_queue.Goals as goal

pub returns : goal.returns
returns c =
    let a = c.args in
    Ending.moved a.g.records (blocks a.g) a.t.now a.n _ _ _ _ c.copy_within.ensures.after c.queue_at-at.ensures (omega arith)
    (ap (λ m. m - a.n) c.wide.ensures) (omega (arith, c.requires.0.room))
