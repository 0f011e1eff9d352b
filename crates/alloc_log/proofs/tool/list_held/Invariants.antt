-- `list_held`: the held blocks that are left complete the list.
use Rattle.std.proofs.Common.{◌≡◌, ◌+◌, ◌-◌, ◌≤◌, length}
use lib.Seq.{sets}
use Rattle.alloc_log.specs.Marks.{held_in, passing, held_blocks}
use Rattle.alloc_log.proofs.tool.list_held.Given as goal

abbrev pub invariant-loop-b : goal.invariant-loop-b
invariant-loop-b l = (l.count ≤ l.b) × (length l.out ≡ length l.initial.out)
    × (l.count + length (passing (held_in l.marks) l.b (l.n - l.b)) ≡ length (held_blocks l.marks l.n))
    × (sets l.out l.count (passing (held_in l.marks) l.b (l.n - l.b)) ≡ sets l.initial.out 0 (held_blocks l.marks l.n))
