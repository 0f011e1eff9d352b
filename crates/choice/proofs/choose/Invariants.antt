-- The two loops: what is left of the search is the whole, at the head of each.
use Prim.Native.Nat.{◌+◌, ◌-◌}
use Rattle.choice.specs.Words.{free_in, mark_in}
use Rattle.choice.proofs.Left.{AtArena, AtBlock}
use Rattle.choice.proofs.choose.Given as goal

abbrev pub invariant-loop-at : goal.invariant-loop-at
invariant-loop-at l = AtBlock (free_in l.words) (mark_in l.marks) l.arenas l.per (l.counter + l.kind) l.tried l.arena l.at l.end l.more

abbrev pub decreases-loop-at : goal.decreases-loop-at
decreases-loop-at l = l.end - l.at + l.more

abbrev pub invariant-search : goal.invariant-search
invariant-search l = AtArena (free_in l.words) (mark_in l.marks) l.arenas l.per (l.counter + l.kind) l.tried l.arena

abbrev pub decreases-search : goal.decreases-search
decreases-search l = l.arenas - l.tried
