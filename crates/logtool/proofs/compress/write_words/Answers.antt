-- `compress::write_words`: the words that a compaction reports are inside the buffer.
use Rattle.std.proofs.Common.{arith}
use Rattle.alloc_log.proofs.Room.{compact_room}
use Rattle.logtool.proofs.compress.write_words.Goals as goal

pub keep-requires : goal.keep-requires
keep-requires g c =
    omega (arith, compact_room _ _ _ _ c.in-Ok.is c.compact-compaction.ensures.reply, c.compact-compaction.auto.out)
