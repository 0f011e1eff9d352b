-- `is_short`: one law for each test that stops it.
use Rattle.std.proofs.Common.{sym, ◌∙◌, lt-ltb, ltb-true, ltb-false}
use mathlib.Core.Bool.{false≢true}
use Rattle.soundness.proofs.Short.{short_tables, short_log, short_out}
use Rattle.soundness.proofs.lengths.is_short.Goals.{then-tables-g, else-tables-g}
use Rattle.soundness.proofs.lengths.is_short.Goals as goal

pub returns-then-log-g : goal.returns-then-log-g
returns-then-log-g c =
    c.if-log-g.true ∙
    elim c.if-tables-g.branch [
      | then-tables-g w ↦ short_tables _ _ w.if-tables-g.true
      | else-tables-g w ↦ short_log _ _ w.if-tables-g.false (ltb-true _ _ (sym w.value-is ∙ c.if-log-g.true))
    ]

pub returns-else-log-g : goal.returns-else-log-g
returns-else-log-g c =
    elim c.if-tables-g.branch [
      | then-tables-g w ↦ absurd (false≢true (sym c.if-log-g.false ∙ w.value-is ∙ lt-ltb _ _ w.if-tables-g.true))
      | else-tables-g w ↦ short_out _ _ w.if-tables-g.false (ltb-false _ _ (sym w.value-is ∙ c.if-log-g.false))
    ]
