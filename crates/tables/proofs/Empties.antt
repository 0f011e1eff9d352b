-- The first empty one of 64 slots, by the bits of two words of 32.
use mathlib.Core.Path.{◌≡◌, sym, ap, ◌∙◌}
use mathlib.Core.Bool.{Bool, true, false}
use Prim.Native.Nat.{ℕ, zero, suc, ◌+◌, ◌-◌, ◌*◌, ◌%◌, ◌^◌, ◌≤◌, ◌<◌}
use native.Mathlib.Nat.{zero-add, zero-mul, add-mul, mul_comm}
use native.Mathlib.Omega.{arith}
use lib.Bits.{bit_or, or_shifted_r}
use lib.Count.{count_trailing_zeros}
use lib.Pow.{pow-add, shl_exact}
use Rattle.std.specs.Prelude.{Some, None}
use Rattle.answer.proofs.Cases.{cases, either, lt?}
use Rattle.choice.specs.Words.{bit, word_of}
use Rattle.choice.proofs.Bit.{no_bit, tz_below, tz_at}
use Rattle.choice.proofs.Births.{word_yes, word_no, word_lt, word_bit}
use Rattle.model.specs.Table.{seek}
use Rattle.tables.proofs.Seeks.{find_seeks}

module _ (p : ℕ → Bool) where
  -- ── two words, one after the other ──

  join_bit : (n m a : ℕ) → p (n + m) ≡ true → a ≡ word_of p n m * 2 ^ n + word_of p 0 n →
      a + 2 ^ (n + m) ≡ word_of p n (suc m) * 2 ^ n + word_of p 0 n
  join_bit n m a y e =
      rw (e, word_yes p n m y, pow-add 2 n m, add-mul (word_of p n m) (2 ^ m) (2 ^ n), mul_comm (2 ^ n) (2 ^ m)) (omega arith)

  word_split : (n m : ℕ) → word_of p 0 (n + m) ≡ word_of p n m * 2 ^ n + word_of p 0 n
  unfolding word_of
  word_split n zero =
      let e : n + 0 ≡ n = omega arith in
      ap (word_of p 0) e ∙ sym (ap (λ (x : ℕ). x + word_of p 0 n) (zero-mul (2 ^ n)) ∙ zero-add (word_of p 0 n))
  word_split n (suc m) =
      let e : n + suc m ≡ suc (n + m) = omega arith in
      let z : 0 + (n + m) ≡ n + m = omega arith in
      let more = word_split n m in
      let longer = ap (word_of p 0) e in
      cases (either (p (n + m)))
      (λ y. longer ∙ word_yes p 0 (n + m) (ap p z ∙ y) ∙ join_bit n m (word_of p 0 (n + m)) y more)
      (λ f. longer ∙ word_no p 0 (n + m) (ap p z ∙ f) ∙ more ∙ ap (λ (x : ℕ). x * 2 ^ n + word_of p 0 n) (sym (word_no p n m f)))

  -- joined bit by bit they are the word of all 64 places
  pub two_words : (low high : ℕ) → low ≡ word_of p 0 32 → high ≡ word_of p 32 32 → bit_or low (high * 2 ^ 32 % 2 ^ 64) ≡ word_of p 0 64
  two_words low high e d =
      rw (e, d, shl_exact 32 32 64 (word_lt p 32 32) (omega arith))
      (or_shifted_r (word_of p 32 32) 32 (word_of p 0 32) (word_lt p 0 32) ∙ sym (word_split 32 32))

  -- ── the first of n places, by the tests of those before it ──

  found_first : (n i : ℕ) → i < n → p i ≡ true → ((k : ℕ) → k < i → p k ≡ false) → i + 1 ≡ seek p 0 n
  found_first n i h y f =
      (find_seeks p n (λ i. p i ≡ true) (λ i. p i ≡ false) (λ i l e. e) (λ i l e. e) (Some i) (omega arith, h, y, λ k z l. f k l)).1

  found_none : (n : ℕ) → ((k : ℕ) → k < n → p k ≡ false) → 0 ≡ seek p 0 n
  found_none n f = find_seeks p n (λ i. p i ≡ true) (λ i. p i ≡ false) (λ i l e. e) (λ i l e. e) None (λ k z l. f k l)

  -- ── by the bits of one word ──

  module _ (n w : ℕ) (e : w ≡ word_of p 0 n) where
    bit_is : (k : ℕ) → k < n → p k ≡ bit w k
    bit_is k h = ap p (let z : k ≡ 0 + k = omega arith in z) ∙ sym (word_bit p 0 n k h) ∙ ap (λ (x : ℕ). bit x k) (sym e)

    bit_none : w ≡ 0 → (k : ℕ) → k < n → p k ≡ false
    bit_none z k h = bit_is k h ∙ ap (λ (x : ℕ). bit x k) z ∙ no_bit k

    -- the lowest bit is below n, it is that of the first place, and the places before it have none
    lowest : (w ≡ 0 → ⊥) → (count_trailing_zeros n w < n) × (p (count_trailing_zeros n w) ≡ true) ×
        ((k : ℕ) → k < count_trailing_zeros n w → p k ≡ false)
    lowest some =
        let a = tz_at n w (omega arith) (rw e (word_lt p 0 n)) in
        (a.0, bit_is (count_trailing_zeros n w) a.0 ∙ a.1, λ k l. bit_is k (omega (arith, a.0)) ∙ tz_below n w k l)

    -- a word that is 0 has no first place
    pub word_none : w ≡ 0 → 0 ≡ seek p 0 n
    word_none z = found_none n (bit_none z)

    -- of any other its lowest bit is the first place
    pub word_first : (w ≡ 0 → ⊥) → (count_trailing_zeros n w + 1 ≡ seek p 0 n) × (count_trailing_zeros n w + 1 ≤ n)
    word_first some = let a = lowest some in (found_first n (count_trailing_zeros n w) a.0 a.1 a.2, omega (arith, a.0))

  -- ── by the word of the first 32 places and that of the other 32 ──

  module _ (low high : ℕ) (first : low ≡ word_of p 0 32) (others : high ≡ word_of p 32 32) where
    high_is : (k : ℕ) → k < 32 → p (32 + k) ≡ bit high k
    high_is k h = sym (word_bit p 32 32 k h) ∙ ap (λ (x : ℕ). bit x k) (sym others)

    -- where the first 32 have none, one of the others is told by its bit
    after_low : low ≡ 0 → (k n : ℕ) → n ≤ 32 → k < 32 + n → ((j : ℕ) → j < n → bit high j ≡ false) → p k ≡ false
    after_low z k n m l f =
        cases (lt? k 32)
        (λ h. bit_none 32 low first z k h)
        (λ h.
        let e : k ≡ 32 + (k - 32) = omega arith in
        ap p e ∙ high_is (k - 32) (omega arith) ∙ f (k - 32) (omega arith))

    pub first_low : (low ≡ 0 → ⊥) → (count_trailing_zeros 32 low + 1 ≡ seek p 0 64) × (count_trailing_zeros 32 low < 32)
    first_low some =
        let a = lowest 32 low first some in
        (found_first 64 (count_trailing_zeros 32 low) (omega (arith, a.0)) a.1 a.2, a.0)

    pub first_high : low ≡ 0 → (high ≡ 0 → ⊥) → (32 + count_trailing_zeros 32 high + 1 ≡ seek p 0 64) × (count_trailing_zeros 32 high < 32)
    first_high z some =
        let i = count_trailing_zeros 32 high in
        let a = tz_at 32 high (omega arith) (rw others (word_lt p 32 32)) in (
          found_first 64 (32 + i) (omega (arith, a.0)) (high_is i a.0 ∙ a.1)
              (λ k l. after_low z k i (omega (arith, a.0)) l (λ j m. tz_below 32 high j m)),
          a.0,
        )

    pub first_none : low ≡ 0 → high ≡ 0 → 0 ≡ seek p 0 64
    first_none z y = found_none 64 (λ k l. after_low z k 32 (omega arith) l (λ j m. ap (λ (x : ℕ). bit x j) y ∙ no_bit j))
