-- The old block is killed, the new one is put there, the mark and the turn move.
use Rattle.paging.proofs.Placing
use Rattle.paging.proofs.place.fill_page.Goals as goal

pub put_block-requires : goal.put_block-requires
put_block-requires c = let A = c.requires.0 in let P = c.requires.1 in let k = c.kill_on-killed.ensures.tables in
    (Placing.emptied_kept A P _ k, A.slot, Placing.emptied_live A P _ k, A.page, P.block)

pub turn_on-requires : goal.turn_on-requires
turn_on-requires c = let A = c.requires.0 in let P = c.requires.1 in let k = c.kill_on-killed.ensures.tables in let p = c.put_block.ensures in
    (Placing.block_kept A P _ k _ p, P.arena, P.offset, Placing.block_counter A P _ k _ p, Placing.block_writes A P _ k _ p)

pub returns : goal.returns
returns c = record {
  freed = c.kill_on-killed.ensures.freed;
  tables = Placing.page_filled c.requires.0 c.requires.1 _ c.kill_on-killed.ensures.tables _ c.put_block.ensures _ c.turn_on.ensures;
}
