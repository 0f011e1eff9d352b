-- The words so far are written.
use mathlib.Core.Path.{◌≡◌}
use Prim.Native.Nat.{◌*◌}
use lib.ListN.{take}
use Rattle.alloc_log.specs.Word.{write_at, bytes_of}
use Rattle.paging.proofs.words.log_words.Given as goal

abbrev pub invariant-loop-i : goal.invariant-loop-i
invariant-loop-i l = l.log ≡ write_at l.initial.log (8 * l.used) (bytes_of (take l.i l.words))
