-- The walk along the line: at each turn, what is done and what is left to do are the whole.
use native.Mathlib.Omega.{arith}
use mathlib.Core.Path.{◌≡◌, refl, sym, ◌∙◌}
use Prim.Native.Nat.{suc, ◌-◌, ◌<◌}
use Rattle.retaining.proofs.Lining
use Rattle.retaining.proofs.Trimming
use Rattle.retaining.proofs.Trimming.{Walk}
use Rattle.retaining.proofs.oldest.delete_oldest.Goals as goal

pub loop-i-init : goal.loop-i-init
loop-i-init c =
    let a = c.args in
    let some = Lining.lined_some c.requires.1 in
    Trimming.walk_first c.requires.0 _ _ a.most _ c.requires.1 _ (let z : suc (a.count - 1) ≡ a.count = omega arith in z)

pub shape_of-t-then-left-eq0 : goal.shape_of-t-then-left-eq0
shape_of-t-then-left-eq0 c = c.loop-i.invariant.same

pub returns-then-left-eq0 : goal.returns-then-left-eq0
returns-then-left-eq0 c =
    let turn = c.loop-i in
    Trimming.walk_none c.requires.0 _ _ c.args.most _ turn.left (turn.i - 1) turn.invariant c.if-left-eq0.true

pub is_bare-requires : goal.is_bare-requires
is_bare-requires c =
    let turn = c.loop-i in
    let slot = Trimming.walk_slot c.requires.0 _ _ c.args.most _ turn.left (turn.i - 1) turn.invariant in
    (turn.invariant.ready.roomy, omega (arith, c.wide-s.ensures, slot))

pub overflow_add-wide : goal.overflow_add-wide
overflow_add-wide c =
    let turn = c.loop-i in
    let some = (let z : 0 < turn.left = omega (arith, c.if-left-eq0.false) in z) in
    let bare = sym c.is_bare.ensures ∙ c.if-is_bare.true in
    let slot = Trimming.turn_slot c.requires.0 _ _ c.args.most _ turn.left (turn.i - 1) turn.invariant
    (omega arith) some _ _ c.wide-s.ensures c.wide.ensures bare in
    omega (arith, c.requires.0.roomy.inside.records_most)

pub delete_record-requires : goal.delete_record-requires
delete_record-requires c =
    let turn = c.loop-i in
    let some = (let z : 0 < turn.left = omega (arith, c.if-left-eq0.false) in z) in
    let bare = sym c.is_bare.ensures ∙ c.if-is_bare.true in (
      turn.invariant.ready,
      Trimming.turn_asks c.requires.0 _ _ c.args.most _ turn.left (turn.i - 1) turn.invariant
          (omega arith) some _ _ c.wide-s.ensures c.wide.ensures bare,
      Trimming.turn_follower c.requires.0 _ _ c.args.most _ turn.left (turn.i - 1) turn.invariant
          (omega arith) some _ _ c.wide-s.ensures c.wide.ensures bare,
    )

pub loop-i-preserved-then-is_bare : goal.loop-i-preserved-then-is_bare
loop-i-preserved-then-is_bare c =
    let turn = c.loop-i in
    let some = (let z : 0 < turn.left = omega (arith, c.if-left-eq0.false) in z) in
    let bare = sym c.is_bare.ensures ∙ c.if-is_bare.true in
    Trimming.walk_goes c.requires.0 _ _ c.args.most _ turn.left (turn.i - 1) turn.invariant
    (omega arith) some _ _ c.wide-s.ensures c.wide.ensures bare _ c.delete_record.ensures

pub loop-i-preserved : goal.loop-i-preserved
loop-i-preserved c =
    let turn = c.loop-i in
    let some = (let z : 0 < turn.left = omega arith in z) in
    let stays = sym c.is_bare.ensures ∙ c.if-is_bare.false in
    Trimming.walk_stays c.requires.0 _ _ c.args.most _ turn.left (turn.i - 1) turn.invariant
    (omega arith) some _ _ c.wide-s.ensures refl stays

pub shape_of-t : goal.shape_of-t
shape_of-t c = c.loop-i.invariant.same

pub returns : goal.returns
returns c =
    let turn = c.loop-i in
    Trimming.walk_last c.requires.0 _ _ c.args.most _ turn.left (turn.i - 1) turn.invariant (omega arith)
