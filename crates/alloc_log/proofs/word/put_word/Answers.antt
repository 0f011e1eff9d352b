-- `put_word`: the word's bytes in the place of the first eight.
use Rattle.std.proofs.Common.{List, drop, ap, ◌∙◌, ◌++◌, ℕ}
use Rattle.alloc_log.specs.Word.{word_bytes, write_at}
use Rattle.alloc_log.proofs.word.put_word.Goals as goal

pub returns : goal.returns
unfolding write_at word_bytes
returns c =
    let e = c.copy_from_slice.ensures.after ∙ c.to_be_bytes.ensures in
    ap (λ (l : List ℕ). l ++ drop 8 c.args.part.now) e
