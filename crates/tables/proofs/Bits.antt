-- The stores of a birth and its bit, as the code writes them, and what the bit makes of a free word.
use mathlib.Core.Path.{◌≡◌, sym, ap, ap₂, ◌∙◌}
use mathlib.Core.Bool.{Bool, false, not, ◌&&◌, ◌||◌, and-true, and-false, or-false}
use mathlib.Core.List.{List}
use Prim.Native.Nat.{ℕ, ◌+◌, ◌-◌, ◌*◌, ◌/◌, ◌%◌, ◌^◌, ◌≤◌, ◌<◌, min}
use native.Mathlib.Nat.{lt_of_lt_of_le, lt_of_le_of_lt}
use native.Mathlib.Omega.{arith}
use lib.Bits.{bit_and, bit_or, and_le_l, or_lt}
use lib.Dec.{eqb}
use lib.ListN.{length, get_or, set, length-set}
use lib.Seq.{get_or-set_other}
use lib.Pow.{pow-lt, pow_mono}
use borrow.Author.Tests.{eq-eqb, ne_eqb}
use Rattle.answer.proofs.Cases.{cases, same?, lt?}
use Rattle.choice.specs.Words.{bit, word_of}
use Rattle.choice.proofs.Bit.{bit_or_lem, bit_and_lem, bit_not, bit_one, bit_high, bit_ext}
use Rattle.choice.proofs.Births.{word_lt, word_bit}
use Rattle.model.specs.Table.{put}
use Rattle.model.specs.Lists.{elem}
use Rattle.model.specs.View.{with_birth}
use Rattle.model.specs.State.{State, with_view}
use Rattle.model.specs.Held.{waits, available}
use Rattle.model.specs.Layout.{free_cell, birth_cell, queue_cell, queue_birth_cell, wait_cell, free_word}
use Rattle.model.proofs.TabFacts.{put_at, put_other}
use Rattle.tables.specs.Births.{gave, queued, waited, freed, raised}

low : (b : ℕ) → b % 32 < 32
low b = omega arith

-- ── as the code writes them ──

-- x is the block's bit, alone in its word
module _ (R : ℕ) (t : List ℕ) (b x : ℕ) (e : x ≡ 2 ^ (b % 32)) where
  pub gave_is : (v : ℕ) → set (set t (birth_cell R b) v) (free_cell (b / 32)) (bit_and (get_or t (free_cell (b / 32)) 0) (2 ^ 32 - 1 - x)) ≡ gave R t b v
  unfolding gave
  gave_is v = ap (λ (y : ℕ). set (set t (birth_cell R b) v) (free_cell (b / 32)) (bit_and (get_or t (free_cell (b / 32)) 0) (2 ^ 32 - 1 - y))) e

pub raised_is : (t : List ℕ) (b x : ℕ) → x ≡ 2 ^ (b % 32) → set t (free_cell (b / 32)) (bit_or (get_or t (free_cell (b / 32)) 0) x) ≡ raised t b
unfolding raised
raised_is t b x e = ap (λ (y : ℕ). set t (free_cell (b / 32)) (bit_or (get_or t (free_cell (b / 32)) 0) y)) e

-- n is how many wait, a where their list begins
pub waited_is : (R N : ℕ) (t : List ℕ) (b n a : ℕ) → n ≡ get_or t 11 0 → a ≡ wait_cell R N 0 → set (set t (a + n) b) 11 (n + 1) ≡ waited R N t b
unfolding waited
waited_is R N t b n a e d =
    let f : a + n ≡ wait_cell R N (get_or t 11 0) = omega arith in
    ap₂ (λ (i m : ℕ). set (set t i b) 11 (m + 1)) f e

pub waited_length : (R N : ℕ) (t : List ℕ) (b : ℕ) → length (waited R N t b) ≡ length t
unfolding waited
waited_length R N t b =
    let n : ℕ = get_or t 11 0 in
    length-set (set t (wait_cell R N n) b) 11 (n + 1) ∙ length-set t (wait_cell R N n) b

-- a block that loses its birth, and waits
pub freed_is : (R N : ℕ) (t : List ℕ) (b : ℕ) → waited R N (set t (birth_cell R b) 0) b ≡ freed R N t b
unfolding waited freed
freed_is R N t b =
    let x : List ℕ = set t (birth_cell R b) 0 in
    let e : get_or x 11 0 ≡ get_or t 11 0 = get_or-set_other t (birth_cell R b) 11 0 0 (λ d. let z : ⊥ = omega arith in z) in
    ap (λ (n : ℕ). set (set x (wait_cell R N n) b) 11 (n + 1)) e

-- n is how many are queued, a where the queue begins, c where the births of queued blocks begin
pub queued_is : (R N : ℕ) (t : List ℕ) (b n a c : ℕ) → n ≡ get_or t 10 0 → a ≡ queue_cell R N 0 → c ≡ queue_birth_cell R N 0 →
    set (set (set (set t (c + b) (get_or t (birth_cell R b) 0)) (birth_cell R b) 0) (a + n) b) 10 (n + 1) ≡ queued R N t b
unfolding queued
queued_is R N t b n a c e d f =
    let i : a + n ≡ queue_cell R N (get_or t 10 0) = omega arith in
    let j : c + b ≡ queue_birth_cell R N b = omega arith in
    ap (λ (k : ℕ). set (set (set (set t k (get_or t (birth_cell R b) 0)) (birth_cell R b) 0) (a + n) b) 10 (n + 1)) j ∙
    ap₂ (λ (k m : ℕ). set (set (set (set t (queue_birth_cell R N b) (get_or t (birth_cell R b) 0)) (birth_cell R b) 0) k b) 10 (m + 1)) i e

-- ── the word of the block ──

-- two numbers of one word are one where their bits are
same_place : (b k : ℕ) → k < 32 → eqb k (b % 32) ≡ eqb (32 * (b / 32) + k) b
same_place b k h =
    cases (same? k (b % 32))
    (λ e. eq-eqb k (b % 32) e ∙ sym (eq-eqb (32 * (b / 32) + k) b (omega arith)))
    (λ d. ne_eqb k (b % 32) d ∙ sym (ne_eqb (32 * (b / 32) + k) b (λ e. d (omega arith))))

-- a word of n ≤ 32 tests p, of which another test q differs at b alone
module _ (p q : ℕ → Bool) (n b : ℕ) (short : n ≤ 32) (inside : b % 32 < n) where
  abbrev i : ℕ
  i = 32 * (b / 32)

  under : (r : ℕ → Bool) → word_of r i n < 2 ^ 32
  under r = lt_of_lt_of_le (word_lt r i n) (pow_mono short)

  -- the bits of a word, beyond its tests too
  bit_of_lem : (r : ℕ → Bool) (k : ℕ) (v : Bool) → (k < n → r (i + k) ≡ v) → (n ≤ k → false ≡ v) → bit (word_of r i n) k ≡ v
  bit_of_lem r k v y z =
      cases (lt? k n)
      (λ l. word_bit r i n k l ∙ y l)
      (λ l. bit_high n (word_of r i n) k (word_lt r i n) l ∙ z l)

  off : (k : ℕ) → n ≤ k → eqb k (b % 32) ≡ false
  off k l = ne_eqb k (b % 32) (λ e. let z : ⊥ = omega arith in z)

  pub word_with : ((c : ℕ) → q c ≡ (p c || eqb c b)) → bit_or (word_of p i n) (2 ^ (b % 32)) ≡ word_of q i n
  word_with h =
      bit_ext 32 _ _ (or_lt 32 (word_of p i n) (2 ^ (b % 32)) (under p) (pow-lt (low b))) (under q) (λ k l.
      bit_or_lem k (word_of p i n) (2 ^ (b % 32)) ∙ ap (λ (x : Bool). bit (word_of p i n) k || x) (bit_one (b % 32) k) ∙
      sym (bit_of_lem q k (bit (word_of p i n) k || eqb k (b % 32))
      (λ m. h (i + k) ∙ ap (λ (x : Bool). p (i + k) || x) (sym (same_place b k l)) ∙
      ap (λ (x : Bool). x || eqb k (b % 32)) (sym (word_bit p i n k m)))
      (λ m. sym (ap (λ (x : Bool). bit (word_of p i n) k || x) (off k m) ∙ or-false (bit (word_of p i n) k) ∙ bit_high n (word_of p i n) k (word_lt p i n) m))))

  pub word_without : ((c : ℕ) → q c ≡ (p c && not (eqb c b))) → bit_and (word_of p i n) (2 ^ 32 - 1 - 2 ^ (b % 32)) ≡ word_of q i n
  word_without h =
      bit_ext 32 _ _ (lt_of_le_of_lt (and_le_l (word_of p i n) (2 ^ 32 - 1 - 2 ^ (b % 32))) (under p)) (under q) (λ k l.
      bit_and_lem k (word_of p i n) (2 ^ 32 - 1 - 2 ^ (b % 32)) ∙
      ap (λ (x : Bool). bit (word_of p i n) k && x) (bit_not 32 (2 ^ (b % 32)) k (pow-lt (low b)) l ∙ ap not (bit_one (b % 32) k)) ∙
      sym (bit_of_lem q k (bit (word_of p i n) k && not (eqb k (b % 32)))
      (λ m. h (i + k) ∙ ap (λ (x : Bool). p (i + k) && not x) (sym (same_place b k l)) ∙
      ap (λ (x : Bool). x && not (eqb k (b % 32))) (sym (word_bit p i n k m)))
      (λ m. sym (ap (λ (x : Bool). x && not (eqb k (b % 32))) (bit_high n (word_of p i n) k (word_lt p i n) m)))))

-- ── the free word of a state with another birth of b ──

pub word_given : (T : State) (b : ℕ) → b < T.view.blocks → (v : ℕ) → 0 < v →
    bit_and (free_word T (b / 32)) (2 ^ 32 - 1 - 2 ^ (b % 32)) ≡ free_word (with_view T (with_birth T.view (put T.view.birth b v))) (b / 32)
unfolding free_word available waits
word_given T b inside v h =
    let f : ℕ → ℕ = T.view.birth in
    let rest : ℕ → Bool = λ c. eqb (T.queue.birth c) 0 && not (elem c T.waiting) in
    word_without (λ c. eqb (f c) 0 && rest c) (λ c. eqb (put f b v c) 0 && rest c) (min 32 (T.view.blocks - 32 * (b / 32))) b (omega arith)
    (omega arith) (λ c.
    cases (same? c b)
    (λ e. rw (put_at f b v c e, eq-eqb c b e, ne_eqb v 0 (λ z. let y : ⊥ = omega arith in y)) (sym (and-false (eqb (f c) 0 && rest c))))
    (λ d. rw (put_other f b v c d, ne_eqb c b d) (sym (and-true (eqb (f c) 0 && rest c)))))
