-- The words of the freed blocks join the log, word after word.
use mathlib.Core.Path.{◌≡◌}
use Prim.Native.Nat.{◌*◌}
use Rattle.alloc_log.specs.Word.{write_at}
use Rattle.reclaiming.proofs.Logging.{freed}
use Rattle.reclaiming.proofs.log_frees.Given as goal

abbrev pub invariant-loop-i : goal.invariant-loop-i
invariant-loop-i l = l.log ≡ write_at l.initial.log (8 * l.used) (freed l.i l.out)
