-- `names_fit`: the rows fit, so that their links lead into the table; then the counts.
use Rattle.std.proofs.Common.{sym, ◌∙◌}
use Rattle.soundness.proofs.NamesCounts.{names_no, names_rest, links_low}
use Rattle.soundness.proofs.names.names_fit.Goals as goal

pub count_rows-requires : goal.count_rows-requires
count_rows-requires c = links_low _ _ c.args.tables.now.roomy (sym c.rows_fit.ensures ∙ c.if-rows_fit.true)

pub returns-then-rows_fit : goal.returns-then-rows_fit
returns-then-rows_fit c = names_rest _ _ (sym c.rows_fit.ensures ∙ c.if-rows_fit.true) c.counts_fit.ensures

pub returns-else-rows_fit : goal.returns-else-rows_fit
returns-else-rows_fit c = c.if-rows_fit.false ∙ names_no _ _ (sym c.rows_fit.ensures ∙ c.if-rows_fit.false)
