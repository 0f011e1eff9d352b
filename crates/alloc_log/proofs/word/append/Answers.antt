-- `append`: a write at the start of the unused part is a write behind the used one.
use Rattle.std.proofs.Common.{◌-◌, ◌≤◌, length, refl, ap, ◌∙◌, arith}
use borrow.Rule.Slice.PartMut.{put_mid}
use Rattle.alloc_log.specs.Word.{word_bytes}
use Rattle.alloc_log.proofs.Parts.{tail_write}
use Rattle.alloc_log.proofs.word.append.Goals as goal

pub returns : goal.returns
returns c =
    let xs = c.args.log.now in
    let h : c.args.used ≤ length xs = omega arith in (
      refl,
      ap (put_mid c.args.used (length xs - c.args.used) xs) c.put_word.ensures
          ∙ tail_write xs c.args.used h (word_bytes c.args.word),
    )
