-- `held::print_blocks`: the numbers that a reading gives are inside the buffer.
use Rattle.std.proofs.Common.{sym, length-take-le}
use Rattle.alloc_log.proofs.Room.{read_room}
use Rattle.logtool.proofs.held.print_blocks.Goals as goal

pub slice_bounds-print_numbers-end : goal.slice_bounds-print_numbers-end
slice_bounds-print_numbers-end g c =
    read_room _ _ _ _ _ c.in-Ok.is c.read_held-answer.ensures.reply c.read_held-answer.auto.out

pub slice_bounds-print_numbers-end-in-Ok : goal.slice_bounds-print_numbers-end-in-Ok
slice_bounds-print_numbers-end-in-Ok g c = sym (length-take-le _ _ (slice_bounds-print_numbers-end g c))
