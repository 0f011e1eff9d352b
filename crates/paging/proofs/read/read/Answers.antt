-- R: two refusals, an empty page, a block with its birth.
use native.Mathlib.Omega.{arith}
use mathlib.Core.Path.{refl}
use lib.ListN.{length-set}
use Rattle.answer.specs.declared.Refusal.TheVariants.{NoSuchPage, NoSuchRecord}
use Rattle.paging.proofs.Answers
use Rattle.paging.proofs.Looking
use Rattle.geometry.specs.Limits.{blocks}
use Prim.Native.Nat.{◌≤◌}
use Rattle.paging.proofs.read.read.Goals as goal

pub returns-then-g-wide : goal.returns-then-g-wide
returns-then-g-wide c = let both = Answers.refused_out _ _ _ NoSuchPage (Looking.read_5 _ _ _ _ _ c.wide.ensures c.if-g-wide.true) _ in record {
  reply = both.0;
  out = both.1;
}

pub returns-then-link-eq0 : goal.returns-then-link-eq0
returns-then-link-eq0 c = let both = Answers.refused_out _ _ _ NoSuchRecord (Looking.read_8 _ _ _ _ _ c.wide.ensures _
    c.if-g-wide.false c.requires.2.0 c.if-link-eq0.true) _ in record {
      reply = both.0;
      out = both.1;
    }

pub returns-then-there-eq0 : goal.returns-then-there-eq0
returns-then-there-eq0 c = let both = Looking.read_empty _ _ _ _ _ c.wide.ensures c.requires.0 _ c.if-g-wide.false c.requires.2.0 c.if-link-eq0.false _ _
    c.wide-2.ensures c.wide-there.ensures _ c.if-there-eq0.true in record {
      reply = both.0;
      out = both.1;
    }

pub overflow_cast-out : goal.overflow_cast-out
overflow_cast-out c =
    let link_le : (c.wide-there.result ≤ blocks c.args.g) = (Looking.read_le _ _ _ _ _ c.wide.ensures c.requires.0 _ c.if-g-wide.false c.requires.2.0
    c.if-link-eq0.false _ _ c.wide-2.ensures c.wide-there.ensures) in
    omega (arith, link_le)

pub overflow_add-out-2 : goal.overflow_add-out-2
overflow_add-out-2 c =
    let link_le : (c.wide-there.result ≤ blocks c.args.g) = (Looking.read_le _ _ _ _ _ c.wide.ensures c.requires.0 _ c.if-g-wide.false c.requires.2.0
    c.if-link-eq0.false _ _ c.wide-2.ensures c.wide-there.ensures) in
    omega (arith, link_le)

pub offset_bounds-t-g : goal.offset_bounds-t-g
offset_bounds-t-g c =
    let link_le : (c.wide-there.result ≤ blocks c.args.g) = (Looking.read_le _ _ _ _ _ c.wide.ensures c.requires.0 _ c.if-g-wide.false c.requires.2.0
    c.if-link-eq0.false _ _ c.wide-2.ensures c.wide-there.ensures) in
    omega (arith, link_le)

pub bounds-t-g : goal.bounds-t-g
bounds-t-g c =
    let link_le : (c.wide-there.result ≤ blocks c.args.g) = (Looking.read_le _ _ _ _ _ c.wide.ensures c.requires.0 _ c.if-g-wide.false c.requires.2.0
    c.if-link-eq0.false _ _ c.wide-2.ensures c.wide-there.ensures) in
    omega (arith, link_le)

pub bounds-out-1 : goal.bounds-out-1
bounds-out-1 c =
    simp length-set (omega (arith, c.requires.1))

pub returns : goal.returns
returns c = let both = Looking.read_one _ _ _ _ _ c.wide.ensures c.requires.0 _ c.if-g-wide.false c.requires.2.0 c.if-link-eq0.false _ _
    c.wide-2.ensures c.wide-there.ensures _ _ refl c.requires.1 c.if-there-eq0.false in record {
      reply = both.0;
      out = both.1;
    }
