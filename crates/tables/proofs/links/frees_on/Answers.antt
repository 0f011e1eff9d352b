-- Whether a page frees its block: the page's link is in range, for the tables are sound.
use native.Mathlib.Omega.{arith}
use Rattle.tables.proofs.Behind
use Rattle.tables.proofs.Ranges
use Rattle.tables.proofs.links.frees_on.Goals as goal

pub returns-then-link-eq0 : goal.returns-then-link-eq0
returns-then-link-eq0 c = search (Behind.frees_none)

pub bounds-t-g : goal.bounds-t-g
bounds-t-g c = omega (arith, Ranges.page_cell_le c.requires.0 _ c.requires.2 _ c.requires.3)

pub returns-then-pred_number-t : goal.returns-then-pred_number-t
returns-then-pred_number-t c = Behind.frees_one _ _ _ _ c.requires.1 c.requires.3 _ c.wide-link.ensures c.if-link-eq0.false
    (omega (arith, Ranges.page_cell_le c.requires.0 _ c.requires.2 _ c.requires.3)) _ c.pred_number.ensures c.if-pred_number-t.true

pub returns : goal.returns
returns c = Behind.frees_kept _ _ _ _ c.requires.1 c.requires.3 _ c.wide-link.ensures c.if-link-eq0.false
    (omega (arith, Ranges.page_cell_le c.requires.0 _ c.requires.2 _ c.requires.3)) _ c.pred_number.ensures c.if-pred_number-t.false
