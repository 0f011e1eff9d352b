-- `record_fits`: an empty slot fits; of another each clause of `linked_to?` was tested.
use Rattle.model.specs.Layout.{view_of}
use Rattle.tables.specs.Lent.{view_in}
use Rattle.soundness.proofs.Clauses.{slot_none, slot_some}
use Rattle.soundness.proofs.records.record_fits.Goals as goal

pub returns-then-number-eq0 : goal.returns-then-number-eq0
unfolding view_of
returns-then-number-eq0 c = let a = c.args in slot_none (view_in a.tables.now) a.s c.column_number-number.ensures c.if-number-eq0.true

pub returns : goal.returns
unfolding view_of
returns c =
    let a = c.args in
    slot_some (view_in a.tables.now) a.s c.column_number-number.ensures c.if-number-eq0.false c.header_number.ensures
    c.others_fit-others.ensures c.prev_fits-prev.ensures c.base_fits-base.ensures
