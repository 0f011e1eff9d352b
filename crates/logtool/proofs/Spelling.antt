-- Numbers as arguments spell them: what the loop over digits keeps, and what each test tells.
use Prim.Native.Nat.{ℕ, suc, ◌+◌, ◌-◌, ◌*◌, ◌^◌, ◌≤◌, ◌<◌}
use native.Mathlib.Nat.{pow-le-pow_right, pow-succ'}
use native.Mathlib.Omega.{arith}
use mathlib.Core.Path.{◌≡◌, refl, sym}
use mathlib.Core.Bool.{Bool, true, false, true≢false}
use mathlib.Core.List.{List, [], ◌∷◌}
use lib.Dec.{eqb, leb}
use Rattle.answer.proofs.Cases.{cases, either}
use lib.ListN.{length, get_or, drop, drop_of_length-le}
use lib.Seq.{drop-cons}
use borrow.Author.Tests.{le-leb, lt-leb, leb-true, eq-eqb, ne_eqb}
use Rattle.std.specs.Prelude.{Some, None}
use Rattle.logtool.specs.Spelled.{is_digit, digits_of, short_enough, number_of}

-- ── digits ──

pub digit_range : (b : ℕ) → is_digit b ≡ true → (48 ≤ b) × (b ≤ 57)
digit_range b h =
    cases (either (leb 48 b)) (λ t. (leb-true 48 b t, leb-true b 57 (rw t at h))) (λ f. absurd (true≢false (sym (rw f at h))))

-- i digits were read, and what is left gives the whole
pub record Reading (text : List ℕ) (value i : ℕ) : Type 0 where
  pub inside : i ≤ length text
  pub small : value < 10 ^ i
  pub left : digits_of (drop i text) value ≡ digits_of text 0

pub begins : (text : List ℕ) → Reading text 0 0
begins text = record { inside = omega arith; small = omega arith; left = refl }

module _ (text : List ℕ) (value i : ℕ) (r : Reading text value i) where
  pub at_end : length text ≤ i → Some value ≡ digits_of text 0
  unfolding digits_of
  at_end h = rw (drop_of_length-le text {i = i} h) at r.left

  module _ (h : i < length text) where
    pub no_digit : is_digit (get_or text i 0) ≡ false → None ≡ digits_of text 0
    unfolding digits_of
    no_digit e = rw (drop-cons text i 0 h, e) at r.left

    module _ (digit : is_digit (get_or text i 0) ≡ true) where
      next_left : digits_of (drop (suc i) text) (value * 10 + (get_or text i 0 - 48)) ≡ digits_of text 0
      unfolding digits_of
      next_left = rw (drop-cons text i 0 h, digit) at r.left

      next_small : value * 10 + (get_or text i 0 - 48) < 10 ^ (i + 1)
      next_small =
          let e : i + 1 ≡ suc i = omega arith in
          rw (e, pow-succ' 10 i) (omega (arith, r.small, (digit_range (get_or text i 0) digit).1))

      pub goes_on_lem : Reading text (value * 10 + (get_or text i 0 - 48)) (i + 1)
      goes_on_lem =
          let e : i + 1 ≡ suc i = omega arith in
          record { inside = omega arith; small = next_small; left = rw e next_left }

    pub value_small : length text ≤ 7 → value < 1_000_000
    value_small m =
        let p : 10 ^ i ≤ 10 ^ 6 = pow-le-pow_right {n = 10} (omega arith) {i = i} {j = 6} (omega arith) in
        omega (arith, r.small)

-- ── numbers ──

module _ (text : List ℕ) where
  not_short : short_enough text ≡ false → None ≡ number_of text
  unfolding number_of
  not_short e = rw e

  is_short : short_enough text ≡ true → digits_of text 0 ≡ number_of text
  unfolding number_of
  is_short e = rw e

  pub empty : length text ≡ 0 → None ≡ number_of text
  empty e = not_short (rw e)

  module _ (some : length text ≡ 0 → ⊥) where
    least : 1 ≤ length text
    least = omega (arith, some)

    pub long : 7 < length text → None ≡ number_of text
    long h = not_short (rw (le-leb 1 (length text) least, lt-leb (length text) 7 h))

    module _ (most : length text ≤ 7) where
      -- the first is no 0
      pub first : (get_or text 0 0 ≡ 48 → ⊥) → digits_of text 0 ≡ number_of text
      first n = go (eqb (length text) 1) refl
        where
          go : (b : Bool) → eqb (length text) 1 ≡ b → digits_of text 0 ≡ number_of text
          go true e = is_short (rw (le-leb 1 (length text) least, le-leb (length text) 7 most, e))
          go false e = is_short (rw (le-leb 1 (length text) least, le-leb (length text) 7 most, e, ne_eqb (get_or text 0 0) 48 n))

      pub led : get_or text 0 0 ≡ 48 → 1 < length text → None ≡ number_of text
      led e h =
          let z : eqb (length text) 1 ≡ false = ne_eqb (length text) 1 (λ y. absurd (let w : ⊥ = omega arith in w)) in
          not_short (rw (le-leb 1 (length text) least, le-leb (length text) 7 most, z, eq-eqb (get_or text 0 0) 48 e))

      pub alone : length text ≤ 1 → digits_of text 0 ≡ number_of text
      alone h =
          let o : length text ≡ 1 = omega (arith, least) in
          is_short (rw (le-leb 1 (length text) least, le-leb (length text) 7 most, eq-eqb (length text) 1 o))

-- ── examples ──

-- `0`, `9999999`; no byte, `07`, `12345678`, `1a`
pub record Examples : Type 0 where
  pub zero_alone : number_of (48 ∷ []) ≡ Some 0
  pub seven_nines : number_of (57 ∷ 57 ∷ 57 ∷ 57 ∷ 57 ∷ 57 ∷ 57 ∷ []) ≡ Some 9_999_999
  pub none : number_of [] ≡ None
  pub zero_first : number_of (48 ∷ 55 ∷ []) ≡ None
  pub eight : number_of (49 ∷ 50 ∷ 51 ∷ 52 ∷ 53 ∷ 54 ∷ 55 ∷ 56 ∷ []) ≡ None
  pub letter : number_of (49 ∷ 97 ∷ []) ≡ None

pub examples : Examples
unfolding number_of digits_of
examples = record { zero_alone = refl; seven_nines = refl; none = refl; zero_first = refl; eight = refl; letter = refl }
