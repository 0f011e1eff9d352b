-- Blocks lose their births in the queue and wait, one after another.
use mathlib.Core.Path.{◌≡◌}
use Prim.Native.Nat.{◌+◌}
use lib.ListN.{get_or}
use Rattle.geometry.specs.Limits.{blocks}
use Rattle.reclaiming.specs.Stages.{ended_all}
use Rattle.reclaiming.proofs.Listing.{firsts}
use Rattle.reclaiming.proofs.free_queued.Given as goal

abbrev pub invariant-loop-i : goal.invariant-loop-i
invariant-loop-i l =
    (l.t ≡ ended_all l.g.records (blocks l.g) l.initial.t (firsts l.i l.out)) × (get_or l.t 11 0 ≡ get_or l.initial.t 11 0 + l.i)
