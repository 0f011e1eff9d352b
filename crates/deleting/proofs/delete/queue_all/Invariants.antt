-- Blocks are queued, one after another.
use mathlib.Core.Path.{◌≡◌}
use Prim.Native.Nat.{◌+◌}
use lib.ListN.{length, get_or, take}
use Rattle.geometry.specs.Limits.{blocks}
use Rattle.deleting.specs.Stages.{queued_all}
use Rattle.deleting.proofs.delete.queue_all.Given as goal

abbrev pub invariant-loop-b : goal.invariant-loop-b
invariant-loop-b l = (length l.t ≡ length l.initial.t) × (l.t ≡ queued_all l.g.records (blocks l.g) l.initial.t (take l.b-index l.gone)) ×
    (get_or l.t 10 0 ≡ get_or l.initial.t 10 0 + l.b-index)
