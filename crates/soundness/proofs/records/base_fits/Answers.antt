-- `base_fits`: the clause, of the link that was read.
use Rattle.model.specs.Layout.{view_of}
use Rattle.tables.specs.Lent.{view_in}
use Rattle.soundness.proofs.Clauses.{base_is}
use Rattle.soundness.proofs.records.base_fits.Goals as goal

pub returns : goal.returns
unfolding view_of
returns c = let a = c.args in base_is (view_in a.tables.now) a.s c.column_number-link.ensures c.link_fits.ensures
