-- `put_blocks` meets its contract: at the head of the loop the blocks from i on are left to write.
use Prim.Native.Nat.{◌≤◌, ◌+◌, ◌*◌}
use mathlib.Core.Path.{◌≡◌}
use lib.ListN.{length, take, drop}
use Rattle.model.specs.Results.{born_in}
use Rattle.script.specs.ReplyText.{items_text}
use Rattle.script.proofs.Printing.{Left}
use Rattle.script.proofs.reply.put_blocks.Given as goal

abbrev pub invariant-loop-i : goal.invariant-loop-i
invariant-loop-i l = (length l.text ≡ length l.initial.text) × (l.end ≤ l.at + 22 * l.i)
    × Left l.initial.text l.at (items_text (born_in (take l.n l.out))) l.text l.end (items_text (born_in (drop (2 * l.i) (take l.n l.out))))
