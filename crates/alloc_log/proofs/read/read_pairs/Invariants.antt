-- `read_pairs`: the log was read up to `at`.
use Rattle.std.proofs.Common.{◌-◌, length}
use Rattle.alloc_log.specs.Read.{ReadOn}
use Rattle.alloc_log.proofs.read.read_pairs.Given as goal

abbrev pub invariant-loop-at : goal.invariant-loop-at
invariant-loop-at l = ReadOn l.arenas l.per l.log l.initial.marks l.from l.marks l.at

abbrev pub decreases-loop-at : goal.decreases-loop-at
decreases-loop-at l = length l.log - l.at
