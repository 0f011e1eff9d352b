-- What is left of the word of the block: its lowest 1, or nothing.
use lib.Count.{count_trailing_zeros}
use Rattle.choice.proofs.Gap.{told_free, gap_none, gap_inside, gap_below, gap_at}
use Prim.Native.Nat.{◌<◌}
use mathlib.Core.Path.{◌≡◌}
use native.Mathlib.Omega.{arith}
use Rattle.choice.specs.Words.{free_in}
use Rattle.choice.proofs.look.Goals as goal

pub returns-then-rest-ne0-clause-none : goal.returns-then-rest-ne0-clause-none
returns-then-rest-ne0-clause-none c = let s = c.args in
    let told = told_free s.words.now s.b c.rest_of-rest.ensures.is in
    λ j h l. gap_below (free_in s.words.now) s.b c.rest_of-rest.result told c.rest_of-rest.ensures.fits (omega arith) j (omega arith)

pub returns-then-rest-ne0-clause-hit : goal.returns-then-rest-ne0-clause-hit
returns-then-rest-ne0-clause-hit c = let s = c.args in
    let free = free_in s.words.now in
    let q = c.rest_of-rest.result in
    let told = told_free s.words.now s.b c.rest_of-rest.ensures.is in
    let fits = c.rest_of-rest.ensures.fits in
    let some : 0 < q = omega arith in
    λ h. let e : c.min.result ≡ count_trailing_zeros 32 q = omega arith in
    rw e (gap_inside free s.b q told fits some, gap_at free s.b q told fits some)

pub returns-clause-none : goal.returns-clause-none
returns-clause-none c = let s = c.args in
    let told = told_free s.words.now s.b c.rest_of-rest.ensures.is in
    λ j h l. gap_none (free_in s.words.now) s.b c.rest_of-rest.result told c.if-rest-ne0.false j (omega arith)
