-- `read_all`: the words that are left, read from the state so far, lead to the same as all of them.
use Rattle.std.proofs.Common.{◌+◌, ◌*◌, ◌≤◌, Some, length, drop, sym, ap, ◌∙◌, arith}
use Rattle.alloc_log.specs.Word.{word_at, words}
use Rattle.alloc_log.specs.Read.{first_word, by_progress, read_words}
use Rattle.alloc_log.specs.declared.read.Progress.{Progress}
use Rattle.alloc_log.specs.declared.read.Progress.TheVariants.{Ready}
use Rattle.alloc_log.proofs.Reading.{words_end}
use Rattle.alloc_log.proofs.ReadingOn.{word_read, word_bad}
use Rattle.alloc_log.proofs.read.read_all.Goals as goal

pub returns-in_err-p-in-Ready : goal.returns-in_err-p-in-Ready
unfolding by_progress
returns-in_err-p-in-Ready c =
    let s = c.args in
    let r = c.read_pairs-at in
    let left = words (drop c.loop-at.at s.log.now) in
    let start = sym (ap (λ (p : Progress). read_words s.arenas s.per (Some p, c.loop-at.marks) left) c.in-Ready.is) ∙ c.loop-at.invariant.4 in
    let h : r.result + 8 ≤ length s.log.now = omega (arith, r.ensures.whole) in
    let e = c.first_word.ensures ∙ ap (first_word (s.arenas * s.per) r.new.marks) c.get_word.ensures in
    rw c.from_residual.ensures
    (word_bad s.arenas s.per c.requires.0 s.log.now r.result h (Some Ready) c.first_word.result r.new.marks c.first_word.new.marks tt r.ensures.table e
    c.in_err-p-in-Ready.was
    ∙ r.ensures.same
    ∙ start)

pub loop-at-preserved-then-at-log : goal.loop-at-preserved-then-at-log
unfolding by_progress
loop-at-preserved-then-at-log c =
    let s = c.args in
    let r = c.read_pairs-at in
    let p = c.in_ok-p-in-Ready.p in
    let left = words (drop c.loop-at.at s.log.now) in
    let start = sym (ap (λ (p : Progress). read_words s.arenas s.per (Some p, c.loop-at.marks) left) c.in-Ready.is) ∙ c.loop-at.invariant.4 in
    let h : r.result + 8 ≤ length s.log.now = omega (arith, r.ensures.whole) in
    let e = c.in_ok-p-in-Ready.ensures ∙ ap (first_word (s.arenas * s.per) r.new.marks) c.get_word.ensures in
    let v = word_read s.arenas s.per c.requires.0 s.log.now r.result h (Some Ready) (Some p) r.new.marks c.first_word.new.marks tt r.ensures.table e in
    (h, omega (arith, r.ensures.whole), v.0, v.1, v.2 ∙ r.ensures.same ∙ start)

pub returns-in_err-p-in-Run : goal.returns-in_err-p-in-Run
unfolding by_progress
returns-in_err-p-in-Run c =
    let s = c.args in
    let l = c.loop-at in
    let h : l.at + 8 ≤ length s.log.now = omega arith in
    let w = word_at s.log.now l.at in
    let told = ap (λ (p : Progress). by_progress s.arenas s.per (Some p) l.marks w) c.in-Run.is in
    let e = rw c.get_word-in-Run.ensures at c.second_word.ensures ∙ sym told in
    rw c.from_residual-in_err-p-in-Run.ensures
    (word_bad s.arenas s.per c.requires.0 s.log.now l.at h (Some l.p) c.second_word.result l.marks c.second_word.new.marks l.invariant.2 l.invariant.3 e
    c.in_err-p-in-Run.was
    ∙ l.invariant.4)

pub loop-at-preserved : goal.loop-at-preserved
unfolding by_progress
loop-at-preserved c =
    let s = c.args in
    let l = c.loop-at in
    let h : l.at + 8 ≤ length s.log.now = omega arith in
    let w = word_at s.log.now l.at in
    let told = ap (λ (p : Progress). by_progress s.arenas s.per (Some p) l.marks w) c.in-Run.is in
    let e = rw c.get_word-in-Run.ensures at c.in_ok-p-in-Run.ensures ∙ sym told in
    let p = c.in_ok-p-in-Run.p in
    let v = word_read s.arenas s.per c.requires.0 s.log.now l.at h (Some l.p) (Some p) l.marks c.second_word.new.marks l.invariant.2 l.invariant.3 e in
    (h, omega arith, v.0, v.1, v.2 ∙ l.invariant.4)

pub returns : goal.returns
returns c =
    let s = c.args in
    sym (ap (read_words s.arenas s.per (Some c.loop-at.p, c.loop-at.marks)) (words_end s.log.now c.loop-at.at c.loop-at-test.false)) ∙ c.loop-at.invariant.4
