-- The lowest 1 of a word, taken off: `w & (w - 1)`.
use Rattle.std.proofs.Common.{◌≡◌, ℕ, zero, suc, ◌-◌, ◌*◌, ◌/◌, ◌%◌, ◌^◌, ◌<◌, Bool, true, false, ◌&&◌, sym, refl, ap, ◌∙◌, pow-suc, arith}
use mathlib.Core.Bool.{and-false}
use lib.Bits.{bit_and}
use lib.Count.{count_trailing_zeros, under}
use Rattle.choice.specs.Words.{bit}
use Rattle.choice.proofs.Bit.{bit_zero, bit_suc, bit_and_lem, tz_below}

half_lt : (p q : ℕ) → q < p * 2 → q / 2 < p
half_lt p q h = omega arith

-- less 1 the bit at it is 0, and those above are the same
module _ (q : ℕ) (some : 0 < q) where
  odd_less : (r : ℕ) → q % 2 ≡ suc r → ((q - 1) % 2 ≡ 0) × ((q - 1) / 2 ≡ q / 2)
  odd_less r e = (omega arith, omega arith)

  even_less : q % 2 ≡ 0 → ((q - 1) / 2 ≡ q / 2 - 1) × (0 < q / 2)
  even_less e = (omega arith, omega arith)

-- what is said of bit i of a number less 1, where t is the place of its lowest 1
abbrev Less : ℕ → ℕ → ℕ → Type 0
Less q t i = (i ≡ t → bit (q - 1) i ≡ false) × (t < i → bit (q - 1) i ≡ bit q i)

less_bit : (d q : ℕ) → 0 < q → q < 2 ^ d → (i : ℕ) → Less q (count_trailing_zeros d q) i
unfolding count_trailing_zeros
less_bit zero q h k i = absurd (let z : ⊥ = omega arith in z)
less_bit (suc d) q h k i = go (q % 2) refl (λ p. less_bit d (q / 2) p (half_lt (2 ^ d) q (rw (pow-suc 2 d) at k))) i
  where
    go : (r : ℕ) → q % 2 ≡ r → (0 < q / 2 → (i : ℕ) → Less (q / 2) (count_trailing_zeros d (q / 2)) i) → (i : ℕ) → Less q
        (under r (count_trailing_zeros d (q / 2))) i
    go zero e f zero = (λ z. absurd (let y : ⊥ = omega arith in y), λ z. absurd (let y : ⊥ = omega arith in y))
    go zero e f (suc i) =
        let u = even_less q h e in
        let v = f u.1 i in
        let w : bit (q - 1) (suc i) ≡ bit (q / 2 - 1) i = bit_suc (q - 1) i ∙ ap (λ (n : ℕ). bit n i) u.0 in
        (λ z. w ∙ v.0 (omega arith), λ z. w ∙ v.1 (omega arith) ∙ sym (bit_suc q i))
    go (suc r) e f zero =
        (λ z. bit_zero (q - 1) ∙ rw (odd_less q h r e).0, λ z. absurd (let y : ⊥ = omega arith in y))
    go (suc r) e f (suc i) =
        (λ z. absurd (let y : ⊥ = omega arith in y), λ z. bit_suc (q - 1) i ∙ ap (λ (n : ℕ). bit n i) (odd_less q h r e).1 ∙ sym (bit_suc q i))

and_same : (a : Bool) → a && a ≡ a
and_same true = refl
and_same false = refl

-- w & (w - 1): no bit up to the lowest 1, and those above it
module _ (d q : ℕ) (some : 0 < q) (fits : q < 2 ^ d) where
  pub off_at : bit (bit_and q (q - 1)) (count_trailing_zeros d q) ≡ false
  off_at =
      bit_and_lem (count_trailing_zeros d q) q (q - 1) ∙ ap (λ (b : Bool). bit q (count_trailing_zeros d q) && b)
      ((less_bit d q some fits (count_trailing_zeros d q)).0 refl)
      ∙ and-false (bit q (count_trailing_zeros d q))

  pub off_below : (i : ℕ) → i < count_trailing_zeros d q → bit (bit_and q (q - 1)) i ≡ false
  off_below i h = bit_and_lem i q (q - 1) ∙ ap (λ (b : Bool). b && bit (q - 1) i) (tz_below d q i h)

  pub off_above : (i : ℕ) → count_trailing_zeros d q < i → bit (bit_and q (q - 1)) i ≡ bit q i
  off_above i h = bit_and_lem i q (q - 1) ∙ ap (λ (b : Bool). bit q i && b) ((less_bit d q some fits i).1 h) ∙ and_same (bit q i)
