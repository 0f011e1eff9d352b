-- K: three refusals, then the window is stored.
use native.Mathlib.Omega.{arith}
use lib.ListN.{length-set}
use Rattle.std.proofs.lemmas.Bool.Decides.{nat_tests}
use Rattle.retaining.proofs.Retaining
use Rattle.retaining.proofs.retain.Goals as goal

pub returns-then-not-contains : goal.returns-then-not-contains
returns-then-not-contains c = let both = Retaining.outside c.requires.0 _ c.args.most (λ a b. grind (arith, nat_tests)) in record {
  reply = both.0;
  tables = both.1;
}

pub returns-then-link-eq0 : goal.returns-then-link-eq0
returns-then-link-eq0 c =
    let pre = c.requires in let both = Retaining.no_record_lem pre.0 _ c.args.most (grind (arith, nat_tests)) (grind (arith, nat_tests)) _ pre.1.0
    c.if-link-eq0.true in record {
      reply = both.0;
      tables = both.1;
    }

pub returns-then-t-link-eq0 : goal.returns-then-t-link-eq0
returns-then-t-link-eq0 c =
    let pre = c.requires in let both = Retaining.is_sealed_lem pre.0 _ c.args.most (grind (arith, nat_tests)) (grind (arith, nat_tests)) _ pre.1.0
    c.if-link-eq0.false pre.1.1 c.if-t-link-eq0.true in record {
      reply = both.0;
      tables = both.1;
    }

pub shape_of-t : goal.shape_of-t
shape_of-t c = simp length-set

pub returns : goal.returns
returns c =
    let pre = c.requires in let both = Retaining.is_open_lem pre.0 _ c.args.most (grind (arith, nat_tests)) (grind (arith, nat_tests)) _ pre.1.0
    c.if-link-eq0.false pre.1.1 c.if-t-link-eq0.false in record {
      reply = both.0;
      tables = both.1;
    }
