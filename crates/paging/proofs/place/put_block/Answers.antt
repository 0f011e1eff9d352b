-- The number is read; the page and the birth are stored.
use mathlib.Core.Path.{refl}
use Rattle.paging.proofs.Killing
use Rattle.paging.proofs.Placing
use Rattle.paging.proofs.place.put_block.Goals as goal

pub give_block-requires : goal.give_block-requires
give_block-requires c = let p = c.requires in (Placing.paged_roomy p.0 _ _ _ p.1 p.2 p.3 p.4, p.4)

pub shape_of-t : goal.shape_of-t
shape_of-t c = let p = c.requires in Killing.stored_as_long _ _ _ _ (Placing.block_put p.0 _ _ _ p.1 p.2 p.3 p.4 _ _ refl c.give_block.ensures)

pub returns : goal.returns
returns c = let p = c.requires in Placing.block_put p.0 _ _ _ p.1 p.2 p.3 p.4 _ _ refl c.give_block.ensures
