-- The blocks that leave it, counted along the deadlist.
use mathlib.Core.Path.{◌≡◌}
use Prim.Native.Nat.{◌≤◌}
use lib.ListN.{length, take}
use Rattle.model.specs.Layout.{view_of}
use Rattle.deleting.specs.Stages.{younger}
use Rattle.deleting.proofs.next.count_gone.Given as goal

abbrev pub invariant-loop-i : goal.invariant-loop-i
invariant-loop-i l = (l.count ≤ l.i) × (l.len ≤ 256) ×
    (l.count ≡ length (younger (view_of l.g l.t) l.p (take l.i ((view_of l.g l.t).list l.n))))
