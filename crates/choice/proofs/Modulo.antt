-- A remainder by subtraction: "repeated subtraction does it" (order 3).
use mathlib.Core.Path.{◌≡◌, sym, ap, ◌∙◌}
use Prim.Native.Nat.{ℕ, ◌+◌, ◌-◌, ◌%◌, ◌≤◌, ◌<◌}
use native.Mathlib.Nat.{mod-eq_of_lt, add-mod_left}
use native.Mathlib.Omega.{arith}

module _ (n i : ℕ) where
  -- n less is the same modulo n
  pub minus_mod : n ≤ i → (i - n) % n ≡ i % n
  minus_mod h =
      let e : n + (i - n) ≡ i = omega arith in
      sym (add-mod_left n (i - n)) ∙ ap (λ (x : ℕ). x % n) e

  -- below n nothing is left to subtract
  pub below_mod : i < n → i ≡ i % n
  below_mod h = sym (mod-eq_of_lt h)
