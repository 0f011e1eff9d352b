-- `Geometry::new` answers as `making_of` says: the tests that passed, and the one that failed.
use borrow.Author.Tests.{le-leb, lt-leb, not-true, not-false}
use mathlib.Core.Path.{◌≡◌, sym, ◌∙◌}
use mathlib.Core.Bool.{Bool, true, false, not}
use lib.Dec.{lit<}
use native.Mathlib.Nat.{lt_of_le_of_lt, mul-le-mul}
use Rattle.geometry.specs.Limits.{max_arenas, max_per, fits, making_of}
use Rattle.geometry.proofs.Made.{within_most, replied}
use Rattle.geometry.proofs.Geometry.new.Goals as goal

-- a test that failed, and one that passed
failed : {r b : Bool} → r ≡ b → not r ≡ true → b ≡ false
failed e t = sym e ∙ not-true _ t

passed : {r b : Bool} → r ≡ b → not r ≡ false → b ≡ true
passed e t = sym e ∙ not-false _ t

pub overflow_mul-blocks : goal.overflow_mul-blocks
overflow_mul-blocks c =
    let arenas = passed c.inside.ensures c.if-not-inside.false-raw in
    let per = passed c.inside-2.ensures c.if-not-inside-2.false-raw in
    record { fits = lt_of_le_of_lt (mul-le-mul (within_most _ _ max_arenas arenas) (within_most _ _ max_per per)) (lit< tt) }

pub returns-then-not-inside-clause-is : goal.returns-then-not-inside-clause-is
unfolding making_of fits
returns-then-not-inside-clause-is c =
    simp (failed c.inside.ensures c.if-not-inside.true-raw)

pub returns-then-not-inside-clause-reply : goal.returns-then-not-inside-clause-reply
unfolding making_of fits
returns-then-not-inside-clause-reply c =
    replied _ _ _ _ _ _ _ (simp (failed c.inside.ensures c.if-not-inside.true-raw))

pub returns-then-not-inside-2-clause-is : goal.returns-then-not-inside-2-clause-is
unfolding making_of fits
returns-then-not-inside-2-clause-is c =
    simp (
      failed c.inside-2.ensures c.if-not-inside-2.true-raw,
      passed c.inside.ensures c.if-not-inside.false-raw,
    )

pub returns-then-not-inside-2-clause-reply : goal.returns-then-not-inside-2-clause-reply
unfolding making_of fits
returns-then-not-inside-2-clause-reply c =
    replied _ _ _ _ _ _ _ (simp (
      failed c.inside-2.ensures c.if-not-inside-2.true-raw,
      passed c.inside.ensures c.if-not-inside.false-raw,
    ))

pub returns-then-blocks-gt-MAX_BLOCKS-clause-is : goal.returns-then-blocks-gt-MAX_BLOCKS-clause-is
unfolding making_of fits
returns-then-blocks-gt-MAX_BLOCKS-clause-is c =
    simp (
      lt-leb _ _ c.if-blocks-gt-MAX_BLOCKS.true,
      passed c.inside-2.ensures c.if-not-inside-2.false-raw,
      passed c.inside.ensures c.if-not-inside.false-raw,
    )

pub returns-then-blocks-gt-MAX_BLOCKS-clause-reply : goal.returns-then-blocks-gt-MAX_BLOCKS-clause-reply
unfolding making_of fits
returns-then-blocks-gt-MAX_BLOCKS-clause-reply c =
    replied _ _ _ _ _ _ _ (simp (
      lt-leb _ _ c.if-blocks-gt-MAX_BLOCKS.true,
      passed c.inside-2.ensures c.if-not-inside-2.false-raw,
      passed c.inside.ensures c.if-not-inside.false-raw,
    ))

pub returns-then-not-inside-3-clause-is : goal.returns-then-not-inside-3-clause-is
unfolding making_of fits
returns-then-not-inside-3-clause-is c =
    simp (
      failed c.inside-3.ensures c.if-not-inside-3.true-raw,
      le-leb _ _ c.if-blocks-gt-MAX_BLOCKS.false,
      passed c.inside-2.ensures c.if-not-inside-2.false-raw,
      passed c.inside.ensures c.if-not-inside.false-raw,
    )

pub returns-then-not-inside-3-clause-reply : goal.returns-then-not-inside-3-clause-reply
unfolding making_of fits
returns-then-not-inside-3-clause-reply c =
    replied _ _ _ _ _ _ _ (simp (
      failed c.inside-3.ensures c.if-not-inside-3.true-raw,
      le-leb _ _ c.if-blocks-gt-MAX_BLOCKS.false,
      passed c.inside-2.ensures c.if-not-inside-2.false-raw,
      passed c.inside.ensures c.if-not-inside.false-raw,
    ))

pub returns-then-not-inside-4-clause-is : goal.returns-then-not-inside-4-clause-is
unfolding making_of fits
returns-then-not-inside-4-clause-is c =
    simp (
      failed c.inside-4.ensures c.if-not-inside-4.true-raw,
      passed c.inside-3.ensures c.if-not-inside-3.false-raw,
      le-leb _ _ c.if-blocks-gt-MAX_BLOCKS.false,
      passed c.inside-2.ensures c.if-not-inside-2.false-raw,
      passed c.inside.ensures c.if-not-inside.false-raw,
    )

pub returns-then-not-inside-4-clause-reply : goal.returns-then-not-inside-4-clause-reply
unfolding making_of fits
returns-then-not-inside-4-clause-reply c =
    replied _ _ _ _ _ _ _ (simp (
      failed c.inside-4.ensures c.if-not-inside-4.true-raw,
      passed c.inside-3.ensures c.if-not-inside-3.false-raw,
      le-leb _ _ c.if-blocks-gt-MAX_BLOCKS.false,
      passed c.inside-2.ensures c.if-not-inside-2.false-raw,
      passed c.inside.ensures c.if-not-inside.false-raw,
    ))

pub returns-then-not-inside-5-clause-is : goal.returns-then-not-inside-5-clause-is
unfolding making_of fits
returns-then-not-inside-5-clause-is c =
    simp (
      failed c.inside-5.ensures c.if-not-inside-5.true-raw,
      passed c.inside-4.ensures c.if-not-inside-4.false-raw,
      passed c.inside-3.ensures c.if-not-inside-3.false-raw,
      le-leb _ _ c.if-blocks-gt-MAX_BLOCKS.false,
      passed c.inside-2.ensures c.if-not-inside-2.false-raw,
      passed c.inside.ensures c.if-not-inside.false-raw,
    )

pub returns-then-not-inside-5-clause-reply : goal.returns-then-not-inside-5-clause-reply
unfolding making_of fits
returns-then-not-inside-5-clause-reply c =
    replied _ _ _ _ _ _ _ (simp (
      failed c.inside-5.ensures c.if-not-inside-5.true-raw,
      passed c.inside-4.ensures c.if-not-inside-4.false-raw,
      passed c.inside-3.ensures c.if-not-inside-3.false-raw,
      le-leb _ _ c.if-blocks-gt-MAX_BLOCKS.false,
      passed c.inside-2.ensures c.if-not-inside-2.false-raw,
      passed c.inside.ensures c.if-not-inside.false-raw,
    ))

pub returns-then-not-inside-6-clause-is : goal.returns-then-not-inside-6-clause-is
unfolding making_of fits
returns-then-not-inside-6-clause-is c =
    simp (
      failed c.inside-6.ensures c.if-not-inside-6.true-raw,
      passed c.inside-5.ensures c.if-not-inside-5.false-raw,
      passed c.inside-4.ensures c.if-not-inside-4.false-raw,
      passed c.inside-3.ensures c.if-not-inside-3.false-raw,
      le-leb _ _ c.if-blocks-gt-MAX_BLOCKS.false,
      passed c.inside-2.ensures c.if-not-inside-2.false-raw,
      passed c.inside.ensures c.if-not-inside.false-raw,
    )

pub returns-then-not-inside-6-clause-reply : goal.returns-then-not-inside-6-clause-reply
unfolding making_of fits
returns-then-not-inside-6-clause-reply c =
    replied _ _ _ _ _ _ _ (simp (
      failed c.inside-6.ensures c.if-not-inside-6.true-raw,
      passed c.inside-5.ensures c.if-not-inside-5.false-raw,
      passed c.inside-4.ensures c.if-not-inside-4.false-raw,
      passed c.inside-3.ensures c.if-not-inside-3.false-raw,
      le-leb _ _ c.if-blocks-gt-MAX_BLOCKS.false,
      passed c.inside-2.ensures c.if-not-inside-2.false-raw,
      passed c.inside.ensures c.if-not-inside.false-raw,
    ))

pub returns-clause-is : goal.returns-clause-is
unfolding making_of fits
returns-clause-is c =
    simp (
      passed c.inside-6.ensures c.if-not-inside-6.false-raw,
      passed c.inside-5.ensures c.if-not-inside-5.false-raw,
      passed c.inside-4.ensures c.if-not-inside-4.false-raw,
      passed c.inside-3.ensures c.if-not-inside-3.false-raw,
      le-leb _ _ c.if-blocks-gt-MAX_BLOCKS.false,
      passed c.inside-2.ensures c.if-not-inside-2.false-raw,
      passed c.inside.ensures c.if-not-inside.false-raw,
    )

pub returns-clause-reply : goal.returns-clause-reply
unfolding making_of fits
returns-clause-reply c =
    replied _ _ _ _ _ _ _ (simp (
      passed c.inside-6.ensures c.if-not-inside-6.false-raw,
      passed c.inside-5.ensures c.if-not-inside-5.false-raw,
      passed c.inside-4.ensures c.if-not-inside-4.false-raw,
      passed c.inside-3.ensures c.if-not-inside-3.false-raw,
      le-leb _ _ c.if-blocks-gt-MAX_BLOCKS.false,
      passed c.inside-2.ensures c.if-not-inside-2.false-raw,
      passed c.inside.ensures c.if-not-inside.false-raw,
    ))
