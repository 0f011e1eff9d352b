-- `page_behind`: the page at the address of the slot behind the link.
use Rattle.soundness.proofs.PagesLinks.{page_none, page_some}
use Rattle.soundness.proofs.pages.page_behind.Goals as goal

pub returns-then-link-eq0 : goal.returns-then-link-eq0
returns-then-link-eq0 c = page_none _ _ _ _ c.if-link-eq0.true

pub returns : goal.returns
returns c = page_some _ _ _ _ c.if-link-eq0.false c.requires.0 c.requires.1 c.wide.ensures
