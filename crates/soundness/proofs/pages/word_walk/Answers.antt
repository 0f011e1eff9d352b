-- `word_walk`: what is left of the pages comes to the same, and the bits of those that are left are in the iterator's word.
use Rattle.std.proofs.Common.{◌≡◌, ◌∙◌, ap, None, arith, rules}
use Rattle.choice.specs.declared.bits.Bits.{Bits}
use Rattle.soundness.proofs.PagesStep.{word_starts, word_inside, word_few, word_differs, word_stops, word_goes, word_ends}
use Rattle.soundness.proofs.pages.word_walk.Goals as goal

pub loop-k-init : goal.loop-k-init
loop-k-init c = let a = c.args in let g = a.tables.now.g in let t = a.tables.now.cells.now in
    let q = c.requires in
    let e = ap (λ (b : Bits). b.word) (c.into_iter-k-iterator.ensures.into_iter_gives ∙ c.of-k-items.ensures) in
    word_starts g t a.s q.4 a.x a.n a.own.now a.gone.now a.count q.1 q.2 (e ∙ q.7) q.3 q.5 q.6

pub returns : goal.returns
returns c = let a = c.args in let g = a.tables.now.g in let t = a.tables.now.cells.now in
    let q = c.requires in
    word_ends g t a.s q.4 a.x a.n a.own.now a.gone.now a.count q.1 q.2 c.loop-k.invariant c.in-None.ensures.steps

pub page_walk-requires : goal.page_walk-requires
page_walk-requires c = let a = c.args in let g = a.tables.now.g in let t = a.tables.now.cells.now in
    let q = c.requires in
    let W = c.loop-k.invariant in
    let next = c.in-Some.ensures.steps in
    let some = next.0 in
    let h = word_inside g t a.s q.4 a.x a.n a.own.now a.gone.now a.count q.1 q.2 W some in
    let f = word_few g t a.s q.4 a.x a.n a.own.now a.gone.now a.count q.1 q.2 W some in
    let k = word_differs g t a.s q.4 a.x a.n a.own.now a.gone.now a.count q.1 q.2 W some in
    rw next.1 (q.0, omega (arith, h, q.2), f, q.4, k, W.own_size, W.gone_size)

pub returns-in_err-found : goal.returns-in_err-found
returns-in_err-found c =
    let a = c.args in let g = a.tables.now.g in let t = a.tables.now.cells.now in
    let q = c.requires in
    let next = c.in-Some.ensures.steps in
    let none : c.from_residual.result ≡ None = search rules in
    rw none (word_stops g t a.s q.4 a.x a.n a.own.now a.gone.now a.count q.1 q.2 c.loop-k.invariant next.0
    (rw next.1 at c.page_walk.ensures) c.in_err-found.was)

pub loop-k-preserved : goal.loop-k-preserved
loop-k-preserved c =
    let a = c.args in let g = a.tables.now.g in let t = a.tables.now.cells.now in
    let q = c.requires in
    let next = c.in-Some.ensures.steps in
    rw next.2 (word_goes g t a.s q.4 a.x a.n a.own.now a.gone.now a.count q.1 q.2 c.loop-k.invariant next.0
    (rw next.1 at c.page_walk.ensures) c.in_ok-found.was)
