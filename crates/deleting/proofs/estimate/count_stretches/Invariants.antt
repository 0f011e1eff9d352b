-- Where a block's birth is not that of the block before it, a stretch begins.
use mathlib.Core.Path.{◌≡◌}
use Prim.Native.Nat.{◌+◌, ◌≤◌}
use lib.ListN.{take, drop}
use Rattle.model.specs.Layout.{view_of}
use Rattle.model.specs.Sorted.{stretches}
use Rattle.deleting.proofs.estimate.count_stretches.Given as goal

abbrev pub invariant-loop-i : goal.invariant-loop-i
invariant-loop-i l = (l.count ≤ l.i) × (l.count + stretches (view_of l.g l.t).birth l.last (drop l.i (take l.n l.young)) ≡ stretches
    (view_of l.g l.t).birth l.p (take l.n l.young))
