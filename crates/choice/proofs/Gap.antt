-- What is left of a word from a block on. Where it is 0, no block of the word from this one on passes; else its lowest 1 is the first that does.
use mathlib.Core.Path.{◌≡◌, sym, ap, ◌∙◌}
use mathlib.Core.List.{List}
use Prim.Native.Nat.{ℕ, ◌+◌, ◌-◌, ◌/◌, ◌%◌, ◌^◌, ◌≤◌, ◌<◌}
use native.Mathlib.Nat.{lt_of_lt_of_le}
use native.Mathlib.Omega.{arith}
use mathlib.Core.Bool.{Bool, true, false, not}
use lib.Count.{count_trailing_zeros}
use lib.ListN.{get_or}
use lib.Pow.{pow_mono, shr_lt}
use Rattle.answer.proofs.Cases.{cases, lt?}
use Rattle.choice.specs.Words.{bit, free_in, seen_as, is_seen}
use Rattle.choice.proofs.Finds.{true_false}
use Rattle.choice.proofs.Bit.{bit_shift, bit_not, bit_high, no_bit, tz_below, tz_at}

-- what is left of a word of 32 bits has a bit for each block from b on, and no more
pub rest_fits : (w b : ℕ) {q : ℕ} → w < 2 ^ 32 → q ≡ w / 2 ^ (b % 32) → (q ≡ w / 2 ^ (b % 32)) × (q < 2 ^ (32 - b % 32))
rest_fits w b h g = let e : 32 - b % 32 + b % 32 ≡ 32 = omega arith in (g, rw g (shr_lt (32 - b % 32) (b % 32) (rw e h)))

-- the number q tells by its bits of which blocks of block b's word, from b on, p holds
abbrev pub Told : (ℕ → Bool) → ℕ → ℕ → Type 0
Told p b q = (j : ℕ) → b % 32 + j < 32 → p (b + j) ≡ bit q j

module _ (p : ℕ → Bool) (b q : ℕ) (told : Told p b q) where
  pub gap_none : q ≡ 0 → (j : ℕ) → j < 32 - b % 32 → p (b + j) ≡ false
  gap_none e j h = told j (omega arith) ∙ ap (λ (x : ℕ). bit x j) e ∙ no_bit j

  module _ (fits : q < 2 ^ (32 - b % 32)) (some : 0 < q) where
    wide : q < 2 ^ 32
    wide = lt_of_lt_of_le fits (shorter (b % 32))
      where
        shorter : (k : ℕ) → 2 ^ (32 - k) ≤ 2 ^ 32
        shorter k = let e : 32 - k ≤ 32 = omega arith in pow_mono e

    pub gap_inside : b % 32 + count_trailing_zeros 32 q < 32
    gap_inside =
        cases (lt? (count_trailing_zeros 32 q) (32 - b % 32)) (λ h. omega arith)
        (λ h. absurd (true_false (tz_at 32 q some wide).1 (bit_high (32 - b % 32) q (count_trailing_zeros 32 q) fits h)))

    pub gap_below : (j : ℕ) → j < count_trailing_zeros 32 q → p (b + j) ≡ false
    gap_below j h = told j (omega (arith, gap_inside)) ∙ tz_below 32 q j h

    pub gap_at : p (b + count_trailing_zeros 32 q) ≡ true
    gap_at = told (count_trailing_zeros 32 q) gap_inside ∙ (tz_at 32 q some wide).1

same_word : (b j : ℕ) → b % 32 + j < 32 → (b + j) / 32 ≡ b / 32
same_word b j h = omega arith

same_bit : (b j : ℕ) → b % 32 + j < 32 → (b + j) % 32 ≡ b % 32 + j
same_bit b j h = omega arith

-- a word tells which of its blocks may be given, and the word turned over which may not
module _ (words : List ℕ) (b : ℕ) {q : ℕ} where
  pub told_free : q ≡ get_or words (b / 32) 0 / 2 ^ (b % 32) → Told (free_in words) b q
  unfolding free_in
  told_free e j h = rw (e, same_word b j h, same_bit b j h) (sym (bit_shift (get_or words (b / 32) 0) (b % 32) j))

  pub told_held : get_or words (b / 32) 0 < 2 ^ 32 → q ≡ (2 ^ 32 - 1 - get_or words (b / 32) 0) / 2 ^ (b % 32) → Told (λ c. not (free_in words c)) b q
  unfolding free_in
  told_held f e j h =
      rw (e, same_word b j h, same_bit b j h)
      (sym (bit_shift (2 ^ 32 - 1 - get_or words (b / 32) 0) (b % 32) j ∙ bit_not 32 (get_or words (b / 32) 0) (b % 32 + j) f h))

  pub told_seen : (given : Bool) → get_or words (b / 32) 0 < 2 ^ 32 → q ≡ seen_as given (get_or words (b / 32) 0) / 2 ^ (b % 32)
      → Told (is_seen given words) b q
  told_seen true f e = told_free e
  told_seen false f e = told_held f e

-- a word as it is seen: of 32 bits, and 0 exactly where the word is what 0 is seen as
pub seen_fits : (given : Bool) {w : ℕ} → w < 2 ^ 32 → seen_as given w < 2 ^ 32
seen_fits true h = h
seen_fits false h = omega arith

pub seen_none : (given : Bool) {w : ℕ} → w ≡ seen_as given 0 → seen_as given w ≡ 0
seen_none true e = e
seen_none false e = omega arith

pub seen_some : (given : Bool) {w : ℕ} → w < 2 ^ 32 → (w ≡ seen_as given 0 → ⊥) → 0 < seen_as given w
seen_some true h d = omega arith
seen_some false h d = omega arith

-- no block of a word that is 0 may be given
pub word_none : (words : List ℕ) (b : ℕ) → get_or words (b / 32) 0 ≡ 0 → free_in words b ≡ false
unfolding free_in
word_none words b e = rw e (no_bit (b % 32))
