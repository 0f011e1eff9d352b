-- `compress`: the words that the loops have still to write complete the compressed log.
use Rattle.std.proofs.Common.{◌+◌, ◌-◌, ◌*◌, ◌≤◌}
use Rattle.alloc_log.specs.Marks.{held_in}
use Rattle.alloc_log.specs.Compress.{compressed}
use Rattle.alloc_log.proofs.Compressing.{words_from, Stands}
use Rattle.alloc_log.proofs.compress.compress.Given as goal

abbrev pub invariant-loop-b : goal.invariant-loop-b
invariant-loop-b l = Stands l.initial.log l.initial.used l.per (held_in l.marks) (l.arenas * l.per)
    (words_from l.per (held_in l.marks) l.start 0 (l.arenas * l.per - l.start)) l.log l.used l.run l.b
    × (l.start + l.run ≤ l.b)

abbrev pub invariant-loop-arena : goal.invariant-loop-arena
invariant-loop-arena l = Stands l.initial.log 0 l.per (held_in l.marks) (l.arenas * l.per) (compressed l.arenas l.per (held_in l.marks)) l.log l.used 0
    (l.arena * l.per)
