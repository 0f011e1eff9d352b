-- `read_single`: a word that turns its block's mark.
use Rattle.std.proofs.Common.{◌≡◌, ◌+◌, ◌-◌, ◌/◌, ◌%◌, ◌^◌, ◌∙◌, true≢false, arith}
use Rattle.alloc_log.proofs.MarksFacts.{table_set}
use Rattle.alloc_log.proofs.ReadingOn.{turned_mark, single_word}
use Rattle.alloc_log.proofs.read.read_single.Goals as goal

pub overflow_cast-marks : goal.overflow_cast-marks
overflow_cast-marks c =
    let e = (c.args.word + 0xffff_ffff_ffff_ffff) % 2 ^ 64 in
    let d = c.if-mark-from.true ∙ c.from.ensures in
    omega (arith, turned_mark (e % 16384) (rw d (c.requires.1.mark (e / 16384))))

pub returns-then-mark-from : goal.returns-then-mark-from
returns-then-mark-from c =
    let n = c.args.blocks in
    let m = c.args.marks.now in
    let e = (c.args.word + 0xffff_ffff_ffff_ffff) % 2 ^ 64 in
    let l = c.if-blocks-block.false in
    let d = c.if-mark-from.true ∙ c.from.ensures in
    let k = c.requires.1.mark (e / 16384) in
    let x = turned_mark (e % 16384) (rw d k) in
    let f : (e + 1) % 2 ^ 64 ≡ c.args.word = omega (arith, c.ranges.word) in
    rw x (record {
      table = table_set n m (e / 16384) (1 - e % 16384) c.requires.1 l (omega arith);
      yes = λ y. single_word n m c.args.word e f c.requires.0 l d k;
      no = λ y. absurd (true≢false y);
    })
