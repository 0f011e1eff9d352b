-- Laws of decimal digits: one digit or one more, how many there are, and the digits of a small number by fixed point.
use Prim.Native.Nat.{ℕ, zero, suc, ◌+◌, ◌*◌, ◌/◌, ◌%◌, ◌^◌, ◌<◌, ◌≤◌}
use mathlib.Core.Path.{◌≡◌, refl, ap, ◌∙◌}
use mathlib.Core.List.{List, [], ◌∷◌, ◌++◌}
use native.Mathlib.Nat.{pow-succ'}
use native.Mathlib.Omega.{arith}
use borrow.Author.Tests.{lt-ltb, le-ltb}
use lib.ListN.{length, length-append}
use Rattle.answer.proofs.Cases.{cases, lt?}
use Rattle.script.specs.Decimal.{digits, decimal}

-- what is asked for beyond the digits changes nothing
digits_same : (k j n : ℕ) → n ≤ k → n ≤ j → digits k n ≡ digits j n
unfolding digits
digits_same zero zero n h g = refl
digits_same zero (suc j) n h g = let e : n < 10 = omega arith in rw (lt-ltb n 10 e)
digits_same (suc k) zero n h g = let e : n < 10 = omega arith in rw (lt-ltb n 10 e)
digits_same (suc k) (suc j) n h g =
    cases (lt? n 10)
    (λ e. rw (lt-ltb n 10 e))
    (λ e. rw (le-ltb n 10 e) (ap (λ (l : List ℕ). l ++ ((48 + n % 10) ∷ [])) (digits_same k j (n / 10) (omega arith) (omega arith))))

pub decimal_one : (n : ℕ) → n < 10 → decimal n ≡ (48 + n) ∷ []
unfolding digits decimal
decimal_one zero h = refl
decimal_one (suc n) h = rw (lt-ltb (suc n) 10 h)

pub decimal_more : (n : ℕ) → 10 ≤ n → decimal n ≡ decimal (n / 10) ++ ((48 + n % 10) ∷ [])
unfolding digits decimal
decimal_more zero h = absurd (let z : ⊥ = omega arith in z)
decimal_more (suc n) h =
    rw (le-ltb (suc n) 10 h) (ap (λ (l : List ℕ). l ++ ((48 + suc n % 10) ∷ [])) (digits_same n (suc n / 10) (suc n / 10) (omega arith) (omega arith)))

pub length_one : (n : ℕ) → n < 10 → length (decimal n) ≡ 1
length_one n h = rw (decimal_one n h)

pub length_more : (n : ℕ) → 10 ≤ n → length (decimal n) ≡ length (decimal (n / 10)) + 1
length_more n h = rw (decimal_more n h) (length-append (decimal (n / 10)) _)

pub length_two : (n : ℕ) → 10 ≤ n → n < 100 → length (decimal n) ≡ 2
length_two n h k = omega (arith, length_more n h, length_one (n / 10) (omega arith))

pub length_three : (n : ℕ) → 100 ≤ n → n < 1000 → length (decimal n) ≡ 3
length_three n h k = omega (arith, length_more n (omega arith), length_two (n / 10) (omega arith) (omega arith))

pub length_four : (n : ℕ) → 1000 ≤ n → n < 10000 → length (decimal n) ≡ 4
length_four n h k = omega (arith, length_more n (omega arith), length_three (n / 10) (omega arith) (omega arith))

-- the digits of a number of two, three and four digits
pub decimal_two : (n : ℕ) → 10 ≤ n → n < 100 → decimal n ≡ (48 + n / 10 % 10) ∷ (48 + n % 10) ∷ []
decimal_two n h k =
    let t : n / 10 % 10 ≡ n / 10 = omega arith in
    rw t (decimal_more n h ∙ ap (λ (l : List ℕ). l ++ ((48 + n % 10) ∷ [])) (decimal_one (n / 10) (omega arith)))

pub decimal_three : (n : ℕ) → 100 ≤ n → n < 1000 → decimal n ≡ (48 + n / 10 / 10 % 10) ∷ (48 + n / 10 % 10) ∷ (48 + n % 10) ∷ []
decimal_three n h k =
    decimal_more n (omega arith) ∙ ap (λ (l : List ℕ). l ++ ((48 + n % 10) ∷ [])) (decimal_two (n / 10) (omega arith) (omega arith))

pub decimal_four : (n : ℕ) → 1000 ≤ n → n < 10000
    → decimal n ≡ (48 + n / 10 / 10 / 10) ∷ (48 + n / 10 / 10 % 10) ∷ (48 + n / 10 % 10) ∷ (48 + n % 10) ∷ []
decimal_four n h k =
    let t : n / 10 / 10 / 10 % 10 ≡ n / 10 / 10 / 10 = omega arith in
    rw (← t) (decimal_more n (omega arith) ∙ ap (λ (l : List ℕ). l ++ ((48 + n % 10) ∷ [])) (decimal_three (n / 10) (omega arith) (omega arith)))

-- the same digits by fixed point: 1000 times 4294968 is 2 to the 32nd and 704 more, which does not add up to another digit
module _ (n : ℕ) (small : n < 10000) where
  pub thousands_digit : n * 4294968 / 4294967296 ≡ n / 10 / 10 / 10
  thousands_digit = omega arith

  pub hundreds_digit : n * 4294968 % 4294967296 * 10 / 4294967296 ≡ n / 10 / 10 % 10
  hundreds_digit = omega (arith, thousands_digit)

  pub tens_digit : n * 4294968 % 4294967296 * 10 % 4294967296 * 10 / 4294967296 ≡ n / 10 % 10
  tens_digit = omega (arith, thousands_digit, hundreds_digit)

  pub ones_digit : n * 4294968 % 4294967296 * 10 % 4294967296 * 10 % 4294967296 * 10 / 4294967296 ≡ n % 10
  ones_digit = omega (arith, thousands_digit, hundreds_digit, tens_digit)

pub length_decimal : (j n : ℕ) → n < 10 ^ suc j → length (decimal n) ≤ suc j
length_decimal zero n h = omega (arith, length_one n (omega arith))
length_decimal (suc j) n h =
    let p = pow-succ' 10 (suc j) in
    cases (lt? n 10)
    (λ e. omega (arith, length_one n e))
    (λ e. omega (arith, length_more n e, length_decimal j (n / 10) (omega arith)))
