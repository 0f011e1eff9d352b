-- `row_walk`: what is left of the row comes to the same.
use Rattle.std.proofs.Common.{◌≡◌, ◌+◌, ◌-◌, ◌*◌, ◌<◌, min, arith, rules}
use Rattle.model.specs.Layout.{view_of}
use Rattle.soundness.proofs.PagesStep.{pred_range, row_word, row_goes}
use Rattle.soundness.proofs.pages.row_walk.Goals as goal

pub row_words-words-requires : goal.row_words-words-requires
row_words-words-requires c =
    let link = pred_range c.args.tables.now.g c.args.tables.now.cells.now c.args.s c.kin_of-kin.ensures in
    (c.requires.0, omega (arith, link, c.requires.0))

pub word_walk-requires : goal.word_walk-requires
word_walk-requires c =
    let l = c.loop-k in
    let a = c.args in let g = a.tables.now.g in let t = a.tables.now.cells.now in
    let h : 32 * l.k < g.pages = omega arith in
    let n : c.min-n.result ≡ min 32 (g.pages - 32 * l.k) = search rules in
    let W = l.invariant in (
      c.requires.0,
      omega arith,
      omega arith,
      omega (arith, W.few),
      c.kin_of-kin.ensures,
      W.own_size,
      W.gone_size,
      row_word g t
          a.s _ l.k c.row_words-words.ensures h n,
    )

pub loop-k-preserved : goal.loop-k-preserved
unfolding view_of
loop-k-preserved c =
    let l = c.loop-k in
    let a = c.args in let g = a.tables.now.g in let t = a.tables.now.cells.now in
    let h : 32 * l.k < g.pages = omega arith in
    let n : c.min-n.result ≡ min 32 (g.pages - 32 * l.k) = search rules in
    let e : min (32 * l.k) g.pages ≡ 32 * l.k = omega arith in
    let f : 32 * l.k + c.min-n.result ≡ min (32 * (l.k + 1)) g.pages = omega arith in
    let r = row_goes (view_of g t) a.s a.own.now a.gone.now (rw e at l.invariant) c.word_walk.ensures c.in_ok-found.was (omega arith) in
    rw f at r
