-- `count_rows`: the rows before i are counted.
use Rattle.soundness.proofs.NamesCounts.{Counted}
use Rattle.soundness.proofs.names.count_rows.Given as goal

abbrev pub invariant-loop-i : goal.invariant-loop-i
invariant-loop-i l = Counted l.tables.cells.now l.rows l.i
