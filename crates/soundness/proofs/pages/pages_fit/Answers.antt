-- `pages_fit`: what is left of the slots comes to the same.
use mathlib.Core.Bool.{false≢true}
use Rattle.model.specs.Layout.{view_of}
use Rattle.tables.specs.Lent.{view_in}
use Rattle.soundness.proofs.PagesSlots.{slots_start, slots_stop, slots_go, slots_end}
use Rattle.soundness.proofs.pages.pages_fit.Goals as goal

pub loop-s-init : goal.loop-s-init
loop-s-init c = let a = c.args in
    slots_start (view_in a.tables.now) a.own.now c.requires

pub returns-then-not-slot_fits : goal.returns-then-not-slot_fits
unfolding view_of
returns-then-not-slot_fits c = let a = c.args in
    let f = c.slot_fits.ensures in
    record {
      passes = slots_stop (view_in a.tables.now) a.own.now c.loop-s.invariant c.loop-s-test.true f.is c.if-not-slot_fits.true-raw;
      marked = λ e. absurd (false≢true e);
      size = f.stamps.0;
    }

pub loop-s-preserved : goal.loop-s-preserved
unfolding view_of
loop-s-preserved c = let a = c.args in
    let e = c.slot_fits.ensures in
    slots_go (view_in a.tables.now) a.own.now c.loop-s.invariant c.loop-s-test.true e.is c.if-not-slot_fits.false-raw e.stamps.0 e.stamps.1 e.marked e.stamps.2

pub returns : goal.returns
unfolding view_of
returns c = let a = c.args in
    let r = slots_end (view_in a.tables.now) a.own.now c.loop-s.invariant c.loop-s-test.false in
    record {
      passes = r.0;
      marked = λ e. r.1;
      size = c.loop-s.invariant.own_size;
    }
