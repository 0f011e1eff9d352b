-- `counts_fit`: so far they fit just where those of the slots before s do.
use Rattle.std.proofs.Common.{◌≡◌}
use Rattle.model.specs.Table.{all}
use Rattle.soundness.proofs.NamesCounts.{counts?}
use Rattle.soundness.proofs.names.counts_fit.Given as goal

abbrev pub invariant-loop-s : goal.invariant-loop-s
invariant-loop-s l = l.fit ≡ all l.s (counts? l.fn.tables.g l.t l.rows)
