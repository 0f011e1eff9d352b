-- `fill_words`: the words so far.
use mathlib.Core.Path.{◌≡◌, sym, ap, ◌∙◌}
use Prim.Native.Nat.{suc, ◌+◌}
use lib.ListN.{set}
use lib.Seq.{sets}
use Rattle.model.specs.Layout.{listed}
use Rattle.store.specs.Fresh.{full_word}
use Rattle.store.proofs.Filling.{listed_none, listed_next}
use native.Mathlib.Omega.{arith}
use Rattle.store.proofs.make.fill_words.Goals as goal

pub loop-k-init : goal.loop-k-init
loop-k-init c = listed_none (full_word c.args.n) c.args.t.now 64 0

pub loop-k-preserved : goal.loop-k-preserved
loop-k-preserved c =
    let l = c.loop-k in
    let a = c.args in
    let f = full_word a.n in
    let e : l.k + 1 ≡ suc l.k = omega arith in
    let z : l.k ≡ 0 + l.k = omega arith in
    ap (λ v. set l.t (64 + l.k) v) (c.full_word.ensures ∙ ap f z) ∙ ap (λ u. set u (64 + l.k) (f (0 + l.k))) l.invariant ∙
    listed_next f a.t.now 64 0 l.k ∙ ap (λ k. sets a.t.now 64 (listed f 0 k)) (sym e)

pub returns : goal.returns
returns c =
    let l = c.loop-k in
    let a = c.args in
    let e : l.k ≡ 64 = omega arith in
    l.invariant ∙ ap (λ k. sets a.t.now 64 (listed (full_word a.n) 0 k)) e
