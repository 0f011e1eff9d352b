-- `slot_fits`: an empty slot; a walk that fails; a walk and its deadlist.
use Rattle.std.proofs.Common.{arith}
use mathlib.Core.Bool.{false≢true}
use Rattle.model.specs.Layout.{view_of}
use Rattle.soundness.proofs.PagesSlots.{slot_empty, empty_marks, live, slot_fails, slot_marks, slot_lists, slot_stamps}
use Rattle.soundness.proofs.pages.slot_fits.Goals as goal

pub returns-then-tables-s-eq0 : goal.returns-then-tables-s-eq0
returns-then-tables-s-eq0 c = let a = c.args in let g = a.tables.now.g in let t = a.tables.now.cells.now in record {
  is = slot_empty g t a.s a.own.now c.requires.0 c.if-tables-s-eq0.true;
  marked = λ e. empty_marks g t a.s a.own.now c.requires.0 c.if-tables-s-eq0.true;
  stamps = (c.requires.1, c.requires.2, λ e b. omega (arith, c.requires.3 b));
}

pub returns-in_default : goal.returns-in_default
unfolding view_of
returns-in_default c = let a = c.args in let g = a.tables.now.g in let t = a.tables.now.cells.now in
    let w = c.row_walk.ensures in
    record {
      is = slot_fails (view_of g t) a.s a.own.now a.gone.now (live g t a.s c.requires.0 c.if-tables-s-eq0.false) w c.in_default.is;
      marked = λ e. absurd (false≢true e);
      stamps = (w.own_size, w.gone_size, λ e. absurd (false≢true e));
    }

pub returns : goal.returns
unfolding view_of
returns c =
    let a = c.args in let g = a.tables.now.g in let t = a.tables.now.cells.now in
    let w = c.row_walk.ensures in
    let f = c.list_fits.ensures in
    let o = live g t a.s c.requires.0 c.if-tables-s-eq0.false in
    let v = view_of g t in
    record {
      is = slot_lists v a.s a.own.now a.gone.now o w c.in-Some.is c.requires.3 f.is;
      marked = λ e. slot_marks v a.s a.own.now a.gone.now o w c.in-Some.is;
      stamps = (w.own_size, f.stamps.0, λ e. slot_stamps v a.s a.own.now a.gone.now o w c.in-Some.is c.list_fits.new.gone c.requires.3 f.stamps.1);
    }
