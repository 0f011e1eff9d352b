-- The slot of a new record: its own, or the first empty one. From the last to the first, what was found is the result of the slots that were seen.
use native.Mathlib.Omega.{arith}
use mathlib.Core.Path.{◌≡◌, sym, ap, ◌∙◌}
use Prim.Native.Nat.{◌+◌, ◌-◌}
use borrow.Author.Tests.{eq-eqb, ne_eqb}
use Rattle.model.specs.Table.{seek}
use Rattle.tables.specs.Columns.{empty_in}
use Rattle.tables.proofs.Seeks
use Rattle.tables.proofs.find.vacant_slot.Goals as goal

pub returns-then-t-own-eq0-clause-is : goal.returns-then-t-own-eq0-clause-is
returns-then-t-own-eq0-clause-is c = (Seeks.vacant_own _ _ _ c.own_slot-own.ensures.is c.own_slot-own.ensures.range c.if-t-own-eq0.true).0

pub returns-then-g-eq64-clause-is : goal.returns-then-g-eq64-clause-is
returns-then-g-eq64-clause-is c =
    let o = c.own_slot-own.ensures in
    Seeks.vacant_found _ _ _ _ o.is o.range c.if-t-own-eq0.false
    (c.first_empty.ensures.is ∙ ap (seek (empty_in c.args.t.now) 0) (sym c.if-g-eq64.true))

pub loop-s-init : goal.loop-s-init
loop-s-init c = (omega arith, Seeks.down_start (empty_in c.args.t.now) c.args.g.records)

pub loop-s-preserved-then-t-s-eq0 : goal.loop-s-preserved-then-t-s-eq0
unfolding empty_in
loop-s-preserved-then-t-s-eq0 c =
    let l = c.loop-s in
    (omega arith, Seeks.down_here (empty_in c.args.t.now) c.args.g.records l.s (omega arith) (omega arith) l.invariant.1 (eq-eqb _ 0 c.if-t-s-eq0.true))

pub loop-s-preserved : goal.loop-s-preserved
unfolding empty_in
loop-s-preserved c =
    let l = c.loop-s in
    (l.invariant.0, Seeks.down_next (empty_in c.args.t.now) c.args.g.records l.s (omega arith) (omega arith) l.invariant.1 (ne_eqb _ 0 c.if-t-s-eq0.false))

pub returns-then-found-eq0-clause-is : goal.returns-then-found-eq0-clause-is
returns-then-found-eq0-clause-is c =
    let o = c.own_slot-own.ensures in
    sym c.if-found-eq0.true ∙ Seeks.vacant_found _ _ _ _ o.is o.range c.if-t-own-eq0.false
    (Seeks.down_end (empty_in c.args.t.now) c.args.g.records c.loop-s.s c.loop-s-test.false c.loop-s.invariant.1)

pub returns-clause-is : goal.returns-clause-is
returns-clause-is c =
    let o = c.own_slot-own.ensures in
    let found : c.loop-s.found - 1 + 1 ≡ c.loop-s.found = omega (arith, c.if-found-eq0.false) in
    found ∙ Seeks.vacant_found _ _ _ _ o.is o.range c.if-t-own-eq0.false
    (Seeks.down_end (empty_in c.args.t.now) c.args.g.records c.loop-s.s c.loop-s-test.false c.loop-s.invariant.1)
