-- The first block is in what is left of the first word, as it is seen, or in the first word after it that is not 0.
use mathlib.Core.Path.{sym}
use native.Mathlib.Omega.{arith}
use mir.Facts.{Fits-lt-pow}
use Rattle.choice.proofs.Firsts.{first_end}
use Rattle.choice.proofs.Runs.{seen_hit, seen_end, seen_word}
use Rattle.choice.proofs.first_seen.Goals as goal

pub returns-then-hi-lo : goal.returns-then-hi-lo
returns-then-hi-lo g c = sym (first_end _ _ c.if-hi-lo.true)

pub returns-then-rest-ne0 : goal.returns-then-rest-ne0
returns-then-rest-ne0 g c =
    seen_hit _ c.args.words.now (λ k. Fits-lt-pow (c.type_inv.words k)) c.args.hi c.args.lo
    c.seen.ensures c.rest_of-rest.ensures.is c.rest_of-rest.ensures.fits (omega arith) c.min.ensures

pub returns-then-end-k : goal.returns-then-end-k
returns-then-end-k g c =
    seen_end _ c.args.words.now (λ k. Fits-lt-pow (c.type_inv.words k)) c.args.hi c.args.lo c.next_word-k.result
    c.seen.ensures c.rest_of-rest.ensures.is c.if-rest-ne0.false (omega arith) c.seen-2.ensures c.next_word-k.ensures.passed (omega arith)

pub returns : goal.returns
returns g c =
    seen_word _ c.args.words.now (λ k. Fits-lt-pow (c.type_inv.words k)) c.args.hi c.args.lo c.next_word-k.result
    c.seen.ensures c.rest_of-rest.ensures.is c.if-rest-ne0.false (omega arith) c.seen-2.ensures c.next_word-k.ensures.passed
    (c.next_word-k.ensures.other (omega arith)) c.seen-3.ensures c.min-2.ensures
