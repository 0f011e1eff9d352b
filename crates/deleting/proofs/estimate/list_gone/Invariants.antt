-- The blocks of a deadlist that would be queued, listed.
use mathlib.Core.Path.{◌≡◌}
use Prim.Native.Nat.{◌≤◌}
use lib.ListN.{length, take}
use lib.Seq.{sets}
use Rattle.model.specs.Layout.{view_of}
use Rattle.deleting.specs.Stages.{younger}
use Rattle.deleting.proofs.estimate.list_gone.Given as goal

abbrev pub invariant-loop-i : goal.invariant-loop-i
invariant-loop-i l = (length l.young ≡ length l.initial.young) × (l.count ≤ l.i) × (l.len ≤ 256) ×
    (l.count ≡ length (younger (view_of l.g l.t) l.p (take l.i ((view_of l.g l.t).list l.n)))) ×
    (l.young ≡ sets l.initial.young 0 (younger (view_of l.g l.t) l.p (take l.i ((view_of l.g l.t).list l.n))))
