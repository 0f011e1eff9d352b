-- The word of a test: its bits are what the test says, and a free word that is the word of a test says the same of its blocks.
use mathlib.Core.Path.{◌≡◌, refl, sym, ap, ◌∙◌}
use mathlib.Core.List.{List}
use Prim.Native.Nat.{ℕ, zero, suc, ◌+◌, ◌*◌, ◌/◌, ◌%◌, ◌^◌, ◌≤◌, ◌<◌}
use native.Mathlib.Nat.{add_comm, one-mul, pow-suc, lt_of_lt_of_le}
use native.Mathlib.Numerals.{add-one}
use native.Mathlib.Omega.{arith}
use mathlib.Core.Bool.{Bool, true, false, ◌||◌, or-true, or-false}
use lib.Bits.{bit_or, or_shifted_r}
use lib.ListN.{get_or}
use lib.Pow.{pow_mono}
use borrow.Author.Tests.{eq-eqb, ne_eqb}
use Rattle.answer.proofs.Cases.{cases, same?, lt?, either}
use lib.Dec.{eqb}
use Rattle.choice.specs.Words.{bit, free_in, born_free, word_of}
use Rattle.choice.proofs.Bit.{bit_or_lem, bit_one, bit_high, bit_ext, one_shl}

-- a 1 above all digits of a number
pub above : (w n : ℕ) → w < 2 ^ n → bit_or w (2 ^ n) ≡ w + 2 ^ n
above w n h = ap (bit_or w) (sym (one-mul (2 ^ n))) ∙ or_shifted_r 1 n w h ∙ ap (λ (x : ℕ). x + w) (one-mul (2 ^ n)) ∙ add_comm (2 ^ n) w

module _ (p : ℕ → Bool) (i : ℕ) where
  pub word_yes : (n : ℕ) → p (i + n) ≡ true → word_of p i (suc n) ≡ word_of p i n + 2 ^ n
  unfolding word_of
  word_yes n t = rw t

  pub word_no : (n : ℕ) → p (i + n) ≡ false → word_of p i (suc n) ≡ word_of p i n
  unfolding word_of
  word_no n t = rw t (omega arith)

  pub word_lt : (n : ℕ) → word_of p i n < 2 ^ n
  unfolding word_of
  word_lt zero = omega arith
  word_lt (suc n) =
      cases (either (p (i + n)))
      (λ t. rw (word_yes n t, pow-suc 2 n) (omega (arith, word_lt n)))
      (λ t. rw (word_no n t, pow-suc 2 n) (omega (arith, word_lt n)))

  pub word_step : (n : ℕ) → p (i + n) ≡ true → bit_or (word_of p i n) (2 ^ n) ≡ word_of p i (suc n)
  word_step n t = above (word_of p i n) n (word_lt n) ∙ sym (word_yes n t)

  pub word_bit : (n k : ℕ) → k < n → bit (word_of p i n) k ≡ p (i + k)
  word_bit zero k h = absurd (omega arith)
  word_bit (suc n) k h =
      cases (either (p (i + n)))
      (λ t. ap (λ (x : ℕ). bit x k) (sym (word_step n t)) ∙ bit_or_lem k (word_of p i n) (2 ^ n) ∙ ap (λ (u : Bool). bit (word_of p i n) k || u) (bit_one n k)
      ∙ cases (same? k n)
      (λ e. ap (λ (u : Bool). bit (word_of p i n) k || u) (eq-eqb k n e) ∙ or-true (bit (word_of p i n) k) ∙ sym (ap (λ (x : ℕ). p (i + x)) e ∙ t))
      (λ d. ap (λ (u : Bool). bit (word_of p i n) k || u) (ne_eqb k n d) ∙ or-false (bit (word_of p i n) k) ∙ word_bit n k (omega arith)))
      (λ t. ap (λ (x : ℕ). bit x k) (word_no n t)
      ∙ cases (same? k n)
      (λ e. bit_high n (word_of p i n) k (word_lt n) (omega arith) ∙ sym (ap (λ (x : ℕ). p (i + x)) e ∙ t))
      (λ d. word_bit n k (omega arith)))

pub no_word : (p : ℕ → Bool) (i : ℕ) → 0 ≡ word_of p i 0
unfolding word_of
no_word p i = refl

-- one birth more
module _ (births : List ℕ) (at k word : ℕ) (e : word ≡ word_of (born_free births) at k) where
  pub one_free : k < 32 → get_or births (at + k) 0 ≡ 0 → bit_or word (1 * 2 ^ k % 2 ^ 32) ≡ word_of (born_free births) at (k + 1)
  unfolding born_free
  one_free h t = rw (one_shl k h, e, add-one k) (word_step (born_free births) at k (eq-eqb (get_or births (at + k) 0) 0 t))

  pub one_held : (get_or births (at + k) 0 ≡ 0 → ⊥) → word ≡ word_of (born_free births) at (k + 1)
  unfolding born_free
  one_held d = rw (e, add-one k) (sym (word_no (born_free births) at k (ne_eqb (get_or births (at + k) 0) 0 d)))

-- one place more, as the code gathers them: P says which bit a place may have
module _ (P : ℕ → Bool → Type 0) (k word : ℕ) (fits : word < 2 ^ k) (bits : (i : ℕ) → i < k → P i (bit word i)) where
  pub place_yes : k < 32 → P k true → (bit_or word (1 * 2 ^ k % 2 ^ 32) < 2 ^ (k + 1)) × ((i : ℕ) → i < k + 1 → P i (bit (bit_or word (1 * 2 ^ k % 2 ^ 32)) i))
  place_yes h t = rw (one_shl k h) (
    rw (above word k fits, add-one k, pow-suc 2 k) (omega arith),
    λ i l. let e : bit (bit_or word (2 ^ k)) i ≡ (bit word i || eqb i k) = bit_or_lem i word (2 ^ k) ∙ ap (λ (u : Bool). bit word i || u) (bit_one k i) in
        cases (same? i k)
        (λ s. rw (e, eq-eqb i k s, or-true (bit word i), s) t)
        (λ d. rw (e, ne_eqb i k d, or-false (bit word i)) (bits i (omega arith))),
  )

  pub place_no : P k false → (word < 2 ^ (k + 1)) × ((i : ℕ) → i < k + 1 → P i (bit word i))
  place_no t = (
    rw (add-one k, pow-suc 2 k) (omega arith),
    λ i l. cases (same? i k) (λ s. rw (bit_high k word i fits (omega arith), s) t) (λ d. bits i (omega arith)),
  )

-- a number of n bits that says what a test says is the word of the test
pub word_from : (p : ℕ → Bool) (i n : ℕ) {word : ℕ} → word < 2 ^ n → ((k : ℕ) → k < n → bit word k ≡ p (i + k)) → word ≡ word_of p i n
word_from p i n {word} f e = bit_ext n word (word_of p i n) f (word_lt p i n) (λ k l. e k l ∙ sym (word_bit p i n k l))

-- bit i of word k is that of block 32 k + i
block_word : (k i : ℕ) → i < 32 → (32 * k + i) / 32 ≡ k
block_word k i h = omega arith

block_bit : (k i : ℕ) → i < 32 → (32 * k + i) % 32 ≡ i
block_bit k i h = omega arith

free_bit : (words : List ℕ) (k i : ℕ) → i < 32 → free_in words (32 * k + i) ≡ bit (get_or words k 0) i
unfolding free_in
free_bit words k i h = rw (block_word k i h, block_bit k i h)

-- a free word that is the word of a test: what it says of its blocks, and of the bits behind the last block
split : (b : ℕ) → b ≡ 32 * (b / 32) + b % 32
split b = omega arith

low : (b : ℕ) → b % 32 < 32
low b = omega arith

module _ (p : ℕ → Bool) (words : List ℕ) (n b : ℕ) (e : get_or words (b / 32) 0 ≡ word_of p (32 * (b / 32)) n) where
  its_bit : free_in words b ≡ bit (word_of p (32 * (b / 32)) n) (b % 32)
  its_bit = ap (free_in words) (split b) ∙ free_bit words (b / 32) (b % 32) (low b) ∙ ap (λ (x : ℕ). bit x (b % 32)) e

  pub says : b % 32 < n → free_in words b ≡ p b
  says h = its_bit ∙ word_bit p (32 * (b / 32)) n (b % 32) h ∙ ap p (sym (split b))

  pub says_no_more : n ≤ b % 32 → free_in words b ≡ false
  says_no_more h = its_bit ∙ bit_high n (word_of p (32 * (b / 32)) n) (b % 32) (word_lt p (32 * (b / 32)) n) h

-- and a word of 32 bits that says what a test says of its n blocks, and nothing behind them, is the word of the test
pub is_word : (p : ℕ → Bool) (words : List ℕ) (k n : ℕ) → get_or words k 0 < 2 ^ 32 → n ≤ 32 → ((i : ℕ) → i < n → free_in words (32 * k + i) ≡ p (32 * k + i))
    → ((i : ℕ) → n ≤ i → i < 32 → free_in words (32 * k + i) ≡ false) → get_or words k 0 ≡ word_of p (32 * k) n
is_word p words k n f m s z =
    bit_ext 32 (get_or words k 0) (word_of p (32 * k) n) f (lt_of_lt_of_le (word_lt p (32 * k) n) (pow_mono m))
    (λ i l. sym (free_bit words k i l)
    ∙ cases (lt? i n) (λ h. s i h ∙ sym (word_bit p (32 * k) n i h)) (λ h. z i h l ∙ sym (bit_high n (word_of p (32 * k) n) i (word_lt p (32 * k) n) h)))
