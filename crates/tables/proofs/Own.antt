-- The slot that a number goes into first: numbers go round the largest power of two that is no more than the slots.
use mathlib.Core.Path.{◌≡◌, ap, ◌∙◌}
use Prim.Native.Nat.{ℕ, suc, ◌-◌, ◌*◌, ◌%◌, ◌^◌, ◌≤◌, ◌<◌}
use native.Mathlib.Nat.{pow-suc}
use native.Mathlib.Omega.{arith}
use lib.Bits.{bit_and, and_mask, mask_lt}
use lib.Count.{leading_top}
use lib.Pow.{pow_mono}
use Rattle.answer.proofs.Cases.{cases, lt?}
use Rattle.choice.proofs.Bit.{one_shl}
use Rattle.model.specs.Actions.{power}

-- of two powers of two that are no more than r, and whose doubles are more, neither is the smaller
not_less : (r i j : ℕ) → r < 2 ^ suc i → 2 ^ j ≤ r → i < j → ⊥
not_less r i j hi lo l = let m : 2 ^ suc i ≤ 2 ^ j = pow_mono l in omega (arith, m)

-- i is the logarithm of r
module _ (r : ℕ) (h : 0 < r) (l : r ≤ 64) (i : ℕ) (lo : 2 ^ i ≤ r) (hi : r < 2 * 2 ^ i) where
  pub log_few : i < 32
  log_few = cases (lt? i 32) (λ u. u) (λ u. let m : 2 ^ 32 ≤ 2 ^ i = pow_mono u in absurd (omega (arith, m)))

  log_is : 2 ^ i ≡ power r
  unfolding power
  log_is =
      let (j, e, low, high) = leading_top 32 r h (omega arith) in
      let more : r < 2 ^ suc i = rw (pow-suc 2 i) (omega arith) in
      cases (lt? i j) (λ u. absurd (not_less r i j more low u))
      (λ u. cases (lt? j i) (λ v. absurd (not_less r j i high lo v)) (λ v. ap (λ (x : ℕ). 2 ^ x) (omega (arith, e))))

  pub own_is : (k w : ℕ) → w ≡ bit_and k (1 * 2 ^ i % 2 ^ 32 - 1) → (w ≡ k % power r) × (w < r)
  own_is k w e =
      let d : w ≡ bit_and k (2 ^ i - 1) = e ∙ ap (λ (x : ℕ). bit_and k (x - 1)) (one_shl i log_few) in
      (d ∙ and_mask k i ∙ ap (λ (x : ℕ). k % x) log_is, omega (arith, d, mask_lt k i, lo))
