-- `prev_fits`: the clause, of the numbers that were read.
use Rattle.model.specs.Layout.{view_of}
use Rattle.tables.specs.Lent.{view_in}
use Rattle.soundness.proofs.Clauses.{prev_none, prev_some}
use Rattle.soundness.proofs.records.prev_fits.Goals as goal

pub returns-then-link-eq0 : goal.returns-then-link-eq0
unfolding view_of
returns-then-link-eq0 c = let a = c.args in prev_none (view_in a.tables.now) a.s c.column_number-link.ensures c.if-link-eq0.true

pub returns : goal.returns
unfolding view_of
returns c =
    let a = c.args in
    prev_some (view_in a.tables.now) a.s c.column_number-link.ensures c.if-link-eq0.false c.link_fits-older.ensures
    c.column_number-before.ensures c.column_number-base.ensures
