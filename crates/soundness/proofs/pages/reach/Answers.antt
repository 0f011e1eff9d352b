-- `reach`: a link to a slot stays, any other is 0.
use Rattle.std.proofs.Common.{arith}
use Rattle.soundness.proofs.PagesLinks.{reached_in, reached_out}
use Rattle.soundness.proofs.pages.reach.Goals as goal

pub returns-then-link-g : goal.returns-then-link-g
returns-then-link-g c = record {
  is = reached_in _ _ c.if-link-g.true;
  range = c.if-link-g.true;
}

pub returns-else-link-g : goal.returns-else-link-g
returns-else-link-g c = record {
  is = reached_out _ _ c.if-link-g.false;
  range = omega arith;
}
