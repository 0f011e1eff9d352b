-- `settled_end`: no word from the i-th on is a barrier.
use Rattle.std.proofs.Common.{◌*◌, drop}
use Rattle.alloc_log.specs.Word.{words}
use Rattle.alloc_log.specs.Settled.{NoBarrier}
use Rattle.alloc_log.proofs.tool.settled_end.Given as goal

abbrev pub invariant-loop-i : goal.invariant-loop-i
invariant-loop-i l = NoBarrier (words (drop (8 * l.i) l.log))
