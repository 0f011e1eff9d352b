-- The choice, on the parts of the tables that it is lent; the birth is beside it.
use Rattle.paging.proofs.Searching
use Rattle.paging.proofs.place.search.Goals as goal

pub choose-requires : goal.choose-requires
choose-requires c = Searching.search_fine c.requires _ _ _ c.wide.ensures c.number.ensures

pub returns-in_err-place : goal.returns-in_err-place
returns-in_err-place c =
    rw c.from_residual.ensures
    (Searching.search_none c.requires _ _ _ _ c.wide.ensures c.number.ensures c.choose.ensures _ c.in_err-place.was)

pub returns : goal.returns
returns c =
    Searching.search_at c.requires _ _ _ _ c.wide.ensures c.number.ensures c.choose.ensures _ c.in_ok-place.was
