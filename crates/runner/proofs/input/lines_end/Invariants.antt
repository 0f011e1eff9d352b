-- `input::lines_end`: the last line feed is looked for from the end; each turn leaves one byte out.
use Rattle.runner.proofs.Feeds.{Looking}
use Rattle.runner.proofs.input.lines_end.Given as goal

abbrev pub invariant-loop-i : goal.invariant-loop-i
invariant-loop-i l = Looking l.text l.from l.i
