-- A word of a test, its bits taken off one by one from the lowest: what is left of it.
use Rattle.std.proofs.Common.{◌≡◌, ℕ, ◌+◌, ◌-◌, ◌^◌, ◌<◌, ◌≤◌, Bool, true, false, sym, ◌∙◌, lt_of_lt_of_le, lt_of_le_of_lt, arith, pow_mono}
use lib.Bits.{bit_and, and_le_l}
use lib.Count.{count_trailing_zeros}
use Rattle.answer.proofs.Cases.{cases, same?, lt?}
use Rattle.choice.specs.Words.{bit, word_of}
use Rattle.choice.proofs.Bit.{bit_high, no_bit, tz_below, tz_at}
use Rattle.choice.proofs.Births.{word_bit, word_lt}
use Rattle.choice.proofs.Finds.{true_false}
use Rattle.choice.proofs.Lowest.{off_at, off_below, off_above}

-- of the n places from x on the first y are passed, and `rest` has the bits of the others
pub record Left (p : ℕ → Bool) (x n y rest : ℕ) : Type 0 where
  pub to : y ≤ n
  pub wide : rest < 2 ^ n
  pub used : (j : ℕ) → j < y → bit rest j ≡ false
  pub left : (j : ℕ) → y ≤ j → j < n → bit rest j ≡ p (x + j)

module _ (p : ℕ → Bool) (x n : ℕ) where
  pub left_all : {rest : ℕ} → rest ≡ word_of p x n → Left p x n 0 rest
  left_all e = record {
    to = omega arith;
    wide = rw e (word_lt p x n);
    used = λ j h. absurd (let z : ⊥ = omega arith in z);
    left = λ j h k. rw e (word_bit p x n j k);
  }

  module _ {y rest : ℕ} (few : n ≤ 32) (L : Left p x n y rest) where
    -- no bit is left
    pub left_none : rest ≡ 0 → (j : ℕ) → y ≤ j → j < n → p (x + j) ≡ false
    left_none z j h k = sym (L.left j h k) ∙ rw z (no_bit j)

    -- the lowest that is left
    module _ (some : rest ≡ 0 → ⊥) where
      more : 0 < rest
      more = pos rest some
        where
          pos : (k : ℕ) → (k ≡ 0 → ⊥) → 0 < k
          pos k m = omega arith

      fits : rest < 2 ^ 32
      fits = lt_of_lt_of_le L.wide (pow_mono few)

      lowest : bit rest (count_trailing_zeros 32 rest) ≡ true
      lowest = (tz_at 32 rest more fits).1

      pub left_inside : count_trailing_zeros 32 rest < n
      left_inside =
          cases (lt? (count_trailing_zeros 32 rest) n)
          (λ h. h)
          (λ h. absurd (true_false lowest (bit_high n rest (count_trailing_zeros 32 rest) L.wide h)))

      pub left_from : y ≤ count_trailing_zeros 32 rest
      left_from =
          cases (lt? (count_trailing_zeros 32 rest) y)
          (λ h. absurd (true_false lowest (L.used (count_trailing_zeros 32 rest) h)))
          (λ h. h)

      pub left_at : p (x + count_trailing_zeros 32 rest) ≡ true
      left_at = sym (L.left (count_trailing_zeros 32 rest) left_from left_inside) ∙ lowest

      pub left_below : (j : ℕ) → y ≤ j → j < count_trailing_zeros 32 rest → p (x + j) ≡ false
      left_below j h k = sym (L.left j h (omega (arith, left_inside))) ∙ tz_below 32 rest j k

      pub left_next : Left p x n (count_trailing_zeros 32 rest + 1) (bit_and rest (rest - 1))
      left_next = record {
        to = omega (arith, left_inside);
        wide = lt_of_le_of_lt (and_le_l rest (rest - 1)) L.wide;
        used = λ j h. cases (same? j (count_trailing_zeros 32 rest))
            (λ d. rw d (off_at 32 rest more fits))
            (λ d. off_below 32 rest more fits j (omega arith));
        left = λ j h k. off_above 32 rest more fits j (omega arith) ∙ L.left j (omega (arith, left_from)) k;
      }
