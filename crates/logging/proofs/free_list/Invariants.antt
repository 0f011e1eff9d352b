-- `free_list`: the pairs that the loops have still to write complete the free list.
use mathlib.Core.Path.{◌≡◌}
use Prim.Native.Nat.{◌-◌, ◌*◌, ◌≤◌}
use Rattle.geometry.specs.Limits.{blocks}
use Rattle.choice.specs.Words.{free_in}
use Rattle.logging.proofs.Listing.{pairs_from, Stands}
use Rattle.logging.proofs.free_list.Given as goal

abbrev pub invariant-loop-b : goal.invariant-loop-b
invariant-loop-b l =
    Stands l.initial.out l.initial.at l.g.per (free_in l.words) (blocks l.g)
    (pairs_from l.g.per (free_in l.words) l.initial.b (blocks l.g - l.initial.b)) l.out l.at l.b ×
    (l.b ≤ l.edge) × (l.edge ≤ blocks l.g) × (l.initial.b ≤ l.b)

abbrev pub decreases-loop-b : goal.decreases-loop-b
decreases-loop-b l = l.edge - l.b

abbrev pub invariant-loop-arena : goal.invariant-loop-arena
invariant-loop-arena l =
    Stands l.initial.out 0 l.g.per (free_in l.words) (blocks l.g) (pairs_from l.g.per (free_in l.words) 0 (blocks l.g)) l.out l.at
    (l.arena * l.g.per)
