-- `put_numbers` meets its contract: at the head of the loop the numbers from x on are left to write.
use Prim.Native.Nat.{◌≤◌, ◌+◌, ◌*◌}
use mathlib.Core.Path.{◌≡◌}
use lib.ListN.{length, take, drop}
use Rattle.script.specs.Decimal.{spaced}
use Rattle.script.proofs.Printing.{Left}
use Rattle.script.proofs.reply.put_numbers.Given as goal

abbrev pub invariant-loop-x : goal.invariant-loop-x
invariant-loop-x l = (length l.text ≡ length l.initial.text) × (l.end ≤ l.at + 11 * l.x-index)
    × Left l.initial.text l.at (spaced (take l.n l.out)) l.text l.end (spaced (drop l.x-index (take l.n l.out)))
