-- Laws of reading numbers: what the digits at a position are read as, and how large a number they make.
use Prim.Native.Nat.{ℕ, zero, suc, ◌+◌, ◌-◌, ◌*◌, ◌^◌, ◌<◌, ◌≤◌}
use mathlib.Core.Path.{◌≡◌, refl, sym, ap, ◌∙◌}
use mathlib.Core.Bool.{true, false, true≢false}
use mathlib.Core.List.{List, [], ◌∷◌, ◌++◌}
use mathlib.Core.Option.{none, some}
use native.Mathlib.Numerals.{add-one}
use native.Mathlib.Nat.{pow-le-pow_right, pow-succ'}
use native.Mathlib.Omega.{arith}
use borrow.Author.Tests.{le-leb, eq-eqb, ne_eqb}
use Rattle.answer.proofs.Cases.{cases, same?}
use lib.ListN.{length, get_or, take, drop, set, drop_of_length-le}
use lib.Seq.{drop-cons, take-suc-set}
use Rattle.std.specs.Prelude.{Some, None}
use Rattle.script.specs.Parse.{is_digit, digits_from, first_digit, number_from, numbers_from}
use Rattle.script.specs.Said.{behind_first}

-- what is read: a number, and the position after it
abbrev pub read : ℕ → ℕ → ℕ × ℕ
read v at = (v, at)

pub digit_yes : (b : ℕ) → 48 ≤ b → b ≤ 57 → is_digit b ≡ true
digit_yes b h k = rw (le-leb 48 b h, le-leb b 57 k)

pub digits_full : (l : List ℕ) (v at : ℕ) → digits_from l v 0 at ≡ (v, at)
unfolding digits_from
digits_full [] v at = refl
digits_full (b ∷ l) v at = refl

pub digits_over : (b : ℕ) (l : List ℕ) (v room at : ℕ) → is_digit b ≡ false → digits_from (b ∷ l) v room at ≡ (v, at)
unfolding digits_from
digits_over b l v zero at h = refl
digits_over b l v (suc room) at h = rw h

module _ (l : List ℕ) (i : ℕ) where
  pub digits_end : (v room at : ℕ) → length l ≤ i → digits_from (drop i l) v room at ≡ (v, at)
  unfolding digits_from
  digits_end v room at h = rw (drop_of_length-le l h)

  pub digits_other : (v room at : ℕ) → i < length l → is_digit (get_or l i 0) ≡ false → digits_from (drop i l) v room at ≡ (v, at)
  digits_other v room at h k = rw (drop-cons l i 0 h) (digits_over (get_or l i 0) (drop (suc i) l) v room at k)

  pub digits_more : (v r room at : ℕ) → r ≡ suc room → i < length l → is_digit (get_or l i 0) ≡ true
      → digits_from (drop i l) v r at ≡ digits_from (drop (i + 1) l) (v * 10 + (get_or l i 0 - 48)) room (at + 1)
  unfolding digits_from
  digits_more v r room at e h k = rw (e, add-one i, drop-cons l i 0 h, k)

-- the value of at most seven digits, with one digit more
module _ (from i v d : ℕ) (h : from ≤ i) (k : i < from + 6) (b : v < 10 ^ (i - from + 1)) (n : d ≤ 9) where
  pub value_small : v < 1_000_000
  value_small =
      let p : 10 ^ (i - from + 1) ≤ 10 ^ 6 = pow-le-pow_right {n = 10} (omega arith) {i = i - from + 1} {j = 6} (omega arith) in
      omega arith

  pub value_more : v * 10 + d < 10 ^ (i + 1 - from + 1)
  value_more =
      let e : i + 1 - from + 1 ≡ suc (i - from + 1) = omega arith in
      rw (e, pow-succ' 10 (i - from + 1)) (omega arith)

first_none : (at : ℕ) → first_digit [] at ≡ None
unfolding first_digit
first_none at = refl

-- a number at a position, test by test
module _ (l : List ℕ) (i : ℕ) where
  pub number_end : (at : ℕ) → length l ≤ i → number_from (drop i l) at ≡ None
  unfolding number_from
  number_end at h = rw (drop_of_length-le l h)

  pub number_other : (at : ℕ) → i < length l → (get_or l i 0 ≡ 32 → ⊥) → number_from (drop i l) at ≡ None
  unfolding number_from
  number_other at h k = rw (drop-cons l i 0 h, ne_eqb (get_or l i 0) 32 k)

  pub number_first : (at : ℕ) → i < length l → get_or l i 0 ≡ 32 → number_from (drop i l) at ≡ first_digit (drop (i + 1) l) (at + 1)
  unfolding number_from
  number_first at h k = rw (add-one i, drop-cons l i 0 h, eq-eqb (get_or l i 0) 32 k)

  pub first_end : (at : ℕ) → length l ≤ i → first_digit (drop i l) at ≡ None
  unfolding first_digit
  first_end at h = rw (drop_of_length-le l h)

  pub number_short : (at : ℕ) → i < length l → length l ≤ i + 1 → number_from (drop i l) at ≡ None
  number_short at h k =
      cases (same? (get_or l i 0) 32) (λ e. number_first at h e ∙ rw (drop_of_length-le l k, first_none (at + 1))) (λ n. number_other at h n)

  pub first_zero : (at : ℕ) → i < length l → get_or l i 0 ≡ 48 → first_digit (drop i l) at ≡ Some (0, at + 1)
  unfolding first_digit
  first_zero at h k = rw (drop-cons l i 0 h, eq-eqb (get_or l i 0) 48 k)

  pub first_other : (at : ℕ) → i < length l → (get_or l i 0 ≡ 48 → ⊥) → is_digit (get_or l i 0) ≡ false → first_digit (drop i l) at ≡ None
  unfolding first_digit
  first_other at h k d = rw (drop-cons l i 0 h, ne_eqb (get_or l i 0) 48 k, d)

  pub first_not : (at : ℕ) → i < length l → is_digit (get_or l i 0) ≡ false → first_digit (drop i l) at ≡ None
  first_not at h d =
      cases (same? (get_or l i 0) 48)
      (λ e. absurd (true≢false (ap is_digit (sym e) ∙ d)))
      (λ n. first_other at h n d)

  pub first_more : (at : ℕ) → i < length l → (get_or l i 0 ≡ 48 → ⊥) → is_digit (get_or l i 0) ≡ true
      → first_digit (drop i l) at ≡ Some (digits_from (drop (i + 1) l) (get_or l i 0 - 48) 6 (at + 1))
  unfolding first_digit
  first_more at h k d = rw (add-one i, drop-cons l i 0 h, ne_eqb (get_or l i 0) 48 k, d)

  -- behind a first digit
  pub first_behind : (at : ℕ) → i + 1 < length l → 48 ≤ get_or l i 0 → get_or l i 0 ≤ 57 →
      first_digit (drop i l) at ≡ behind_first (drop (i + 1) l) (get_or l i 0 - 48) (at + 1)
  first_behind at h lo hi =
      cases (same? (get_or l i 0) 48)
      (λ e. first_zero at (omega arith) e ∙ sym (rw (eq-eqb (get_or l i 0 - 48) 0 (omega arith))))
      (λ n. first_more at (omega arith) n (digit_yes (get_or l i 0) lo hi) ∙ sym (rw (ne_eqb (get_or l i 0 - 48) 0 (λ z. n (omega arith)))))

-- what is read up to i, where a 0 leads nothing
pub read_behind : (l : List ℕ) (first from v i : ℕ) → (first ≡ 0 → (i ≡ from) × (v ≡ 0)) → digits_from l first 6 from ≡ (v, i) →
    Some (v, i) ≡ behind_first l first from
read_behind l first from v i h e =
    cases (same? first 0)
    (λ z. let w = h z in rw (eq-eqb first 0 z, w.0, w.1))
    (λ n. rw (ne_eqb first 0 n, e))

-- the numbers end with the line
pub numbers_end : (l : List ℕ) (at n : ℕ) (bs : List ℕ) → at ≡ length l → numbers_from l at n bs ≡ some bs
unfolding numbers_from
numbers_end l at zero bs h = rw (eq-eqb at (length l) h)
numbers_end l at (suc n) bs h = rw (eq-eqb at (length l) h)

-- no more are to be read, and the line goes on
pub numbers_over : (l : List ℕ) (at : ℕ) (bs : List ℕ) → (at ≡ length l → ⊥) → numbers_from l at 0 bs ≡ none
unfolding numbers_from
numbers_over l at bs h = rw (ne_eqb at (length l) h)

-- one number more, or none
module _ (l : List ℕ) (at r n : ℕ) (bs : List ℕ) (e : r ≡ suc n) (goes : at ≡ length l → ⊥) where
  pub numbers_none : number_from (drop at l) at ≡ None → numbers_from l at r bs ≡ none
  unfolding numbers_from
  numbers_none h = rw (e, ne_eqb at (length l) goes, h)

  pub numbers_more : (v end : ℕ) → number_from (drop at l) at ≡ Some (v, end) → numbers_from l at r bs ≡ numbers_from l end n (bs ++ (v ∷ []))
  unfolding numbers_from
  numbers_more v end h = rw (e, ne_eqb at (length l) goes, h)

-- the number that is read at a position joins those that a buffer holds
pub numbers_step : (l : List ℕ) (at count i : ℕ) (o : List ℕ) (v end : ℕ) → i < count → i < length o → (at ≡ length l → ⊥)
    → number_from (drop at l) at ≡ Some (v, end)
    → numbers_from l at (count - i) (take i o) ≡ numbers_from l end (count - (i + 1)) (take (i + 1) (set o i v))
numbers_step l at count i o v end h k goes e =
    let r : count - i ≡ suc (count - (i + 1)) = omega arith in
    numbers_more l at (count - i) (count - (i + 1)) (take i o) r goes v end e
    ∙ ap (numbers_from l end (count - (i + 1))) (sym (take-suc-set o i v k) ∙ ap (λ (n : ℕ). take n (set o i v)) (sym (add-one i)))
