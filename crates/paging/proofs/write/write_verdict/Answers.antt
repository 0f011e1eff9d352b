-- The refusals of W in their order, or the slot, the place of the block and its birth.
use native.Mathlib.Omega.{arith}
use mathlib.Core.Path.{refl}
use Rattle.std.proofs.Common.{◌≡◌, Err}
use Rattle.answer.specs.declared.Refusal.TheVariants.{NoSuchKind}
use Rattle.paging.proofs.Looking
use Rattle.paging.proofs.Erasing
use Rattle.paging.proofs.Giving
use Rattle.paging.proofs.write.write_verdict.Goals as goal

pub returns-then-g-wide : goal.returns-then-g-wide
returns-then-g-wide c = Giving.write_5 _ _ _ _ _ _ c.wide.ensures c.if-g-wide.true

pub returns-in_err-kind : goal.returns-in_err-kind
returns-in_err-kind c =
    let e = c.in_err-kind.ensures in
    let gone : c.from_residual.result ≡ Err NoSuchKind = grind arith in
    rw gone (Giving.write_6 _ _ _ _ _ _ c.wide.ensures c.if-g-wide.false e.1)

pub returns-then-link-eq0 : goal.returns-then-link-eq0
returns-then-link-eq0 c =
    Giving.write_8 _ _ _ _ _ _ c.wide.ensures c.if-g-wide.false _ c.in_ok-kind.ensures _ c.requires.1.0 c.if-link-eq0.true

pub returns-then-t-s-eq0 : goal.returns-then-t-s-eq0
returns-then-t-s-eq0 c =
    Giving.write_9 _ _ _ _ _ _ c.wide.ensures c.if-g-wide.false _ c.in_ok-kind.ensures _ c.requires.1.0 c.requires.0
    c.if-link-eq0.false c.if-t-s-eq0.true

pub returns-in_default : goal.returns-in_default
returns-in_default c =
    Giving.write_13 _ _ _ _ _ _ c.wide.ensures c.if-g-wide.false _ c.in_ok-kind.ensures _ c.requires.1.0 c.requires.0
    c.if-link-eq0.false c.if-t-s-eq0.false _
    c.search.ensures c.in_default.is

pub overflow_sub-unused : goal.overflow_sub-unused
overflow_sub-unused c =
    omega (arith, Looking.used_le c.requires.0)

pub returns-then-unused-gt1 : goal.returns-then-unused-gt1
returns-then-unused-gt1 c =
    Giving.write_accepts _ _ _ _ _ _ c.wide.ensures c.if-g-wide.false _ c.in_ok-kind.ensures _ c.requires.1.0 c.requires.0
    c.if-link-eq0.false c.if-t-s-eq0.false _ c.search.ensures _ c.in-Some.is _ _ _
    c.wide-2.ensures refl refl (Erasing.two_enough _ _ _ _ c.if-unused-gt1.true)

pub frees_on-requires : goal.frees_on-requires
frees_on-requires c =
    let R = c.requires.0 in
    let k = c.requires.1 in
    let i = c.if-link-eq0.false in
    Looking.copy_asked c.copied.ensures _ _ _
    (R, omega (arith, k.1, i), Looking.named_live R _ _ k.0 i, omega (arith, c.wide-3.ensures, c.wide.ensures, c.if-g-wide.false))

pub overflow_add-frees_on : goal.overflow_add-frees_on
overflow_add-frees_on c = omega (arith, Erasing.few_freed _ _ _ _ c.frees_on.ensures)

pub returns-then-unused-frees_on : goal.returns-then-unused-frees_on
returns-then-unused-frees_on c =
    Giving.write_14 _ _ _ _ _ _ c.wide.ensures c.if-g-wide.false _ c.in_ok-kind.ensures _ c.requires.1.0 c.requires.0
    c.if-link-eq0.false c.if-t-s-eq0.false _ c.search.ensures _ c.in-Some.is _ _ _
    c.wide-2.ensures c.wide-3.ensures
    (Looking.copy_frees c.copied.ensures _ _ _ _ c.frees_on.ensures) c.if-unused-frees_on.true

pub returns : goal.returns
returns c =
    Giving.write_accepts _ _ _ _ _ _ c.wide.ensures c.if-g-wide.false _ c.in_ok-kind.ensures _ c.requires.1.0 c.requires.0
    c.if-link-eq0.false c.if-t-s-eq0.false _ c.search.ensures _ c.in-Some.is _ _ _
    c.wide-2.ensures c.wide-3.ensures
    (Looking.copy_frees c.copied.ensures _ _ _ _ c.frees_on.ensures) c.if-unused-frees_on.false
