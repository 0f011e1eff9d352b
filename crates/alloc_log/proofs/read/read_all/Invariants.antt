-- `read_all`: the words that are left, read from the state so far, lead to the same as all of them.
use Rattle.std.proofs.Common.{◌≡◌, Some, ◌-◌, ◌*◌, ◌%◌, ◌≤◌, length, drop}
use Rattle.alloc_log.specs.Word.{words}
use Rattle.alloc_log.specs.Marks.{Table}
use Rattle.alloc_log.specs.Read.{RunInside, read_words}
use Rattle.alloc_log.specs.declared.read.Progress.TheVariants.{Ready}
use Rattle.alloc_log.proofs.read.read_all.Given as goal

abbrev pub invariant-loop-at : goal.invariant-loop-at
invariant-loop-at l = (l.at ≤ length l.log) × (l.at % 8 ≡ 0) × RunInside (l.arenas * l.per) (Some l.p) × Table (l.arenas * l.per) l.marks
    × (read_words l.arenas l.per (Some l.p, l.marks) (words (drop l.at l.log)) ≡ read_words l.arenas l.per (Some Ready, l.initial.marks) (words l.log))

abbrev pub decreases-loop-at : goal.decreases-loop-at
decreases-loop-at l = length l.log - l.at
