-- The walk along the line: at each turn, what is done and what is left to do are the whole.
use Prim.Native.Nat.{◌-◌}
use lib.ListN.{get_or}
use Rattle.retaining.proofs.Trimming.{Walk}
use Rattle.retaining.proofs.oldest.delete_oldest.Given as goal

abbrev pub invariant-loop-i : goal.invariant-loop-i
invariant-loop-i l = Walk l.g l.initial.t l.line (get_or l.line 0 0) l.most l.t l.left (l.i - 1)
