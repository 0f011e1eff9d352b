-- `column_number`: a slot inside the range, and one outside.
use Rattle.std.proofs.Common.{sym, lt-ltb}
use Rattle.model.specs.Layout.{field}
use Rattle.model.proofs.ShapeFacts.{field_out}
use Rattle.tables.proofs.lent.Tables.column_number.Goals as goal

pub returns-then-s-self : goal.returns-then-s-self
unfolding field
returns-then-s-self c = rw (lt-ltb _ _ c.if-s-self.true) c.wide.ensures

pub returns : goal.returns
returns c = sym (field_out _ _ _ _ c.if-s-self.false)
