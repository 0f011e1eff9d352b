-- `link_fits`: the clause, of the numbers that were read.
use Rattle.model.specs.Layout.{view_of}
use Rattle.tables.specs.Lent.{view_in}
use Rattle.soundness.proofs.Clauses.{base_none, base_some}
use Rattle.soundness.proofs.records.link_fits.Goals as goal

pub returns-then-link-eq0 : goal.returns-then-link-eq0
returns-then-link-eq0 c = let a = c.args in base_none (view_in a.tables.now) a.s c.if-link-eq0.true

pub returns : goal.returns
unfolding view_of
returns c =
    let a = c.args in
    base_some (view_in a.tables.now) a.s a.link c.if-link-eq0.false c.column_number-older.ensures c.column_number-opened.ensures
    c.column_number-number.ensures
