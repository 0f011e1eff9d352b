-- `row_words`: the whole words stand, and the one of the pages that are left.
use Rattle.std.proofs.Common.{◌≡◌, ℕ, ◌-◌, ◌*◌, ◌/◌, ◌<◌, min, length, ap, ◌∙◌, arith, length-set}
use Rattle.choice.specs.Words.{word_of}
use Rattle.model.specs.Layout.{view_of}
use Rattle.tables.specs.Rows.{differs}
use Rattle.soundness.proofs.PagesStep.{words_more}
use Rattle.soundness.proofs.pages.row_words.Goals as goal

pub returns-then-whole-g : goal.returns-then-whole-g
unfolding view_of
returns-then-whole-g c =
    let l = c.loop-k in
    let a = c.args in let g = a.tables.now.g in let t = a.tables.now.cells.now in
    let q = g.pages / 32 in
    let row = word_of (differs (view_of g t) a.s a.link) in
    let f : ℕ → ℕ = λ j. row (32 * j) (min 32 (g.pages - 32 * j)) in
    let h : q < length l.words = omega (arith, l.invariant.0, c.if-whole-g.true, c.args.tables.now.roomy.inside.pages_most) in
    let n : g.pages - 32 * q ≡ min 32 (g.pages - 32 * q) = omega arith in
    let e = c.differing.ensures ∙ ap (row (32 * q)) n in
    record {
      size = length-set l.words q c.differing.result ∙ l.invariant.0;
      word = λ j i. words_more l.words q c.differing.result f h (λ k m. l.invariant.1 k (omega (arith, c.loop-k-test.false))) e j (omega arith);
    }

pub returns-else-whole-g : goal.returns-else-whole-g
unfolding view_of
returns-else-whole-g c =
    let l = c.loop-k in
    record { size = l.invariant.0; word = λ j h. l.invariant.1 j (omega (arith, c.if-whole-g.false, c.loop-k-test.false)) }
