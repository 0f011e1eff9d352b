-- The mark and the turn after a block was given.
use native.Mathlib.Omega.{arith}
use lib.ListN.{length-set}
use Rattle.paging.proofs.Placing
use Rattle.paging.proofs.place.turn_on.Goals as goal

pub bounds-t-7-2 : goal.bounds-t-7-2
bounds-t-7-2 c = simp length-set (omega arith)

pub bounds-t-8-2 : goal.bounds-t-8-2
bounds-t-8-2 c = simp length-set (omega arith)

pub returns : goal.returns
returns c =
    Placing.turn_put c.requires.0 _ _ c.requires.1 _ _ _ c.wide.ensures c.wide-2.ensures c.turned_by-turned.ensures.is c.next_of.ensures.is
