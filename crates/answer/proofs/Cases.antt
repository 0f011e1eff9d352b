-- Case distinctions.
use mathlib.Core.Path.{◌≡◌, refl}
use mathlib.Core.Logic.{◌⊎◌, inl, inr}
use mathlib.Core.Bool.{Bool, true, false}
use Prim.Native.Nat.{ℕ, zero, suc, ◌≤◌, ◌<◌}
use native.Mathlib.Omega.{arith}
use lib.Dec.{eqb, ltb}
use borrow.Author.Tests.{eqb-true, eqb-false, ltb-true, ltb-false}

-- the case first, so that the types of what is known are there when the two arms are read
pub cases : {A B C : Type 0} → A ⊎ B → (A → C) → (B → C) → C
cases (inl a) f g = f a
cases (inr b) f g = g b

pub either : (t : Bool) → (t ≡ true) ⊎ (t ≡ false)
either true = inl refl
either false = inr refl

pub same? : (i j : ℕ) → (i ≡ j) ⊎ (i ≡ j → ⊥)
same? i j = cases (either (eqb i j)) (λ e. inl (eqb-true i j e)) (λ e. inr (eqb-false i j e))

pub lt? : (i j : ℕ) → (i < j) ⊎ (j ≤ i)
lt? i j = cases (either (ltb i j)) (λ e. inl (ltb-true i j e)) (λ e. inr (ltb-false i j e))

-- what holds at r, and of each other number, holds of all
pub split : (r : ℕ) {P : ℕ → Type 0} → P r → ((s : ℕ) → (s ≡ r → ⊥) → P s) → (s : ℕ) → P s
split r {P} here there s = go (same? s r)
  where
    go : (s ≡ r) ⊎ (s ≡ r → ⊥) → P s
    go (inl e) = rw e here
    go (inr n) = there s n

-- a number above 0 is one more than another
pub pos : (n : ℕ) → 0 < n → (m : ℕ) × (n ≡ suc m)
pos zero h = absurd (omega arith)
pos (suc m) h = (m, refl)
