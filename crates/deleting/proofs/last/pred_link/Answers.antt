-- The record before, or the line's base.
use Rattle.deleting.proofs.Owning
use Rattle.deleting.proofs.last.pred_link.Goals as goal

pub returns-then-prev-eq0 : goal.returns-then-prev-eq0
returns-then-prev-eq0 c = let both = Owning.link_base c.requires.0 _ c.requires.1 c.requires.2 _ c.wide-prev.ensures c.if-prev-eq0.true _ c.wide.ensures in record {
  is = both.0;
  range = both.1;
}

pub returns : goal.returns
returns c = let both = Owning.link_prev c.requires.0 _ c.requires.1 c.requires.2 _ c.wide-prev.ensures c.if-prev-eq0.false in record {
  is = both.0;
  range = both.1;
}
