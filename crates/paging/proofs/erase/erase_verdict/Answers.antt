-- The refusals of E in their order, or the slot.
use native.Mathlib.Omega.{arith}
use mathlib.Core.Path.{refl}
use Rattle.paging.proofs.Looking
use Rattle.paging.proofs.Erasing
use Rattle.paging.proofs.erase.erase_verdict.Goals as goal

pub returns-then-g-wide : goal.returns-then-g-wide
returns-then-g-wide c = Erasing.erase_5 _ _ _ _ _ c.wide.ensures c.if-g-wide.true

pub returns-then-link-eq0 : goal.returns-then-link-eq0
returns-then-link-eq0 c =
    Erasing.erase_8 _ _ _ _ _ c.wide.ensures _ c.if-g-wide.false c.requires.1.0 c.if-link-eq0.true

pub returns-then-t-s-eq0 : goal.returns-then-t-s-eq0
returns-then-t-s-eq0 c =
    Erasing.erase_9 _ _ _ _ _ c.wide.ensures c.requires.0 _ c.if-g-wide.false c.requires.1.0 c.if-link-eq0.false c.if-t-s-eq0.true

pub returns-then-wide-g : goal.returns-then-wide-g
returns-then-wide-g c =
    Erasing.erase_accepts _ _ _ _ _ c.wide.ensures c.requires.0 _ c.if-g-wide.false c.requires.1.0 c.if-link-eq0.false c.if-t-s-eq0.false
    _ _ _ c.wide-2.ensures refl refl (Erasing.one_enough _ _ _ _ _ c.if-wide-g.true)

pub frees_on-requires : goal.frees_on-requires
frees_on-requires c =
    Looking.copy_asked c.copied.ensures _ _ _ (
      c.requires.0,
      omega (arith, c.requires.1.1, c.if-link-eq0.false),
      Looking.named_live c.requires.0 _ _ c.requires.1.0 c.if-link-eq0.false,
      omega (arith, c.wide-3.ensures, c.wide.ensures, c.if-g-wide.false),
    )

pub returns-then-frees_on-gt0 : goal.returns-then-frees_on-gt0
returns-then-frees_on-gt0 c =
    Erasing.erase_14 _ _ _ _ _ c.wide.ensures c.requires.0 _ c.if-g-wide.false c.requires.1.0 c.if-link-eq0.false c.if-t-s-eq0.false
    _ _ _ c.wide-2.ensures c.wide-3.ensures
    (Looking.copy_frees c.copied.ensures _ _ _ _ c.frees_on.ensures) c.if-wide-g.false c.if-frees_on-gt0.true

pub returns : goal.returns
returns c =
    Erasing.erase_accepts _ _ _ _ _ c.wide.ensures c.requires.0 _ c.if-g-wide.false c.requires.1.0 c.if-link-eq0.false c.if-t-s-eq0.false
    _ _ _ c.wide-2.ensures c.wide-3.ensures
    (Looking.copy_frees c.copied.ensures _ _ _ _ c.frees_on.ensures) (omega (arith, c.if-frees_on-gt0.false))
