-- The refusals of a deletion, one by one.
use native.Mathlib.Omega.{arith}
use Rattle.deleting.proofs.Verdicts
use Rattle.deleting.proofs.delete.delete_verdict.Goals as goal

pub returns-then-link-eq0 : goal.returns-then-link-eq0
returns-then-link-eq0 c = Verdicts.no_slot _ _ _ _ c.requires.1.0 c.if-link-eq0.true

pub is_forked-requires : goal.is_forked-requires
is_forked-requires c = (c.requires.0.roomy, omega arith)

pub returns-then-is_forked : goal.returns-then-is_forked
returns-then-is_forked c =
    Verdicts.has_fork _ _ _ _ c.requires.1.0 c.if-link-eq0.false _ c.is_forked.ensures
    c.if-is_forked.true

pub returns-then-t-s-gt0 : goal.returns-then-t-s-gt0
returns-then-t-s-gt0 c =
    Verdicts.has_name_lem _ _ _ _ c.requires.1.0 c.if-link-eq0.false _ c.is_forked.ensures c.if-is_forked.false
    c.requires.1.1 c.if-t-s-gt0.true

pub follower_of-requires : goal.follower_of-requires
follower_of-requires c = (c.requires.0, omega arith)

pub returns : goal.returns
returns c =
    Verdicts.goes _ _ _ _ c.requires.1.0 c.if-link-eq0.false _ c.is_forked.ensures c.if-is_forked.false c.requires.1.1
    c.if-t-s-gt0.false _ c.follower_of.ensures.is
