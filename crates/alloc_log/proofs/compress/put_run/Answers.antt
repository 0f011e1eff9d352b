-- `put_run`: no word, one word, or two.
use Rattle.std.proofs.Common.{◌≡◌, ℕ, ◌+◌, ◌*◌, List, [], ◌∷◌, ◌++◌, length, sym, ap, ◌∙◌, append-nil, arith}
use Rattle.alloc_log.specs.Word.{write_at, word_bytes}
use Rattle.alloc_log.specs.Compress.{run_words}
use Rattle.alloc_log.proofs.Writing.{write_none, write_write, length_word, entry_many}
use Rattle.alloc_log.proofs.compress.put_run.Goals as goal

pub returns-then-count-eq0 : goal.returns-then-count-eq0
returns-then-count-eq0 c =
    let s = c.args in
    let e : run_words s.block s.count ≡ [] = ap (run_words s.block) c.if-count-eq0.true in
    rw e (omega arith, sym (write_none s.log.now s.used))

pub returns-then-count-eq1 : goal.returns-then-count-eq1
returns-then-count-eq1 c =
    let s = c.args in
    let w = s.block * 16384 + 1 in
    let e : run_words s.block s.count ≡ w ∷ [] = ap (run_words s.block) c.if-count-eq1.true in
    rw e (omega (arith, c.append.ensures.0), c.append.ensures.1 ∙ ap (write_at s.log.now s.used) (sym (append-nil (word_bytes w))))

pub returns : goal.returns
returns c =
    let l = c.args.log.now in
    let v = c.args.block * 16384 + 4 in
    let w = c.args.count * 16384 in
    let e : run_words c.args.block c.args.count ≡ v ∷ w ∷ [] = entry_many c.args.block c.args.count c.if-count-eq0.false c.if-count-eq1.false in
    let k : c.append-next.result ≡ c.args.used + length (word_bytes v) = rw length_word c.append-next.ensures.0 in
    rw e (
      omega (arith, c.append-2.ensures.0, c.append-next.ensures.0),
      c.append-2.ensures.1
          ∙ ap (λ (x : List ℕ). write_at x c.append-next.result (word_bytes w)) c.append-next.ensures.1
          ∙ write_write l c.args.used c.append-next.result (word_bytes v) (word_bytes w) k (omega (arith, c.append-next.ensures.0, c.requires, c.if-count-eq0.false))
          ∙ ap (λ (x : List ℕ). write_at l c.args.used (word_bytes v ++ x)) (sym (append-nil (word_bytes w))),
    )
