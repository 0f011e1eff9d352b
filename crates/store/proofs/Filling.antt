-- The tables of a fresh store as the code writes them: zeros, then the free words, then the six numbers.
use mathlib.Core.Path.{◌≡◌, refl, sym, ap, ◌∙◌}
use mathlib.Core.Logic.{◌⊎◌, inl, inr}
use mathlib.Core.List.{List, ◌++◌}
use Prim.Native.Nat.{ℕ, zero, suc, ◌+◌, ◌-◌, ◌*◌, ◌^◌, ◌≤◌, ◌<◌, min}
use native.Mathlib.Omega.{arith}
use lib.ListN.{length, get_or, set, take, drop, replicate, length-set, length-replicate, get_or-replicate, get_or-append}
use lib.Seq.{sets, sets-eq, length-sets, get_or-set_same, get_or-set_other, ext_get_or}
use Rattle.answer.proofs.Cases.{cases, same?, lt?}
use Rattle.geometry.specs.declared.Geometry.{Geometry}
use Rattle.geometry.specs.Limits.{Inside, blocks}
use Rattle.choice.specs.Words.{word_of}
use Rattle.model.specs.Lists.{elem}
use Rattle.model.specs.State.{fresh}
use Rattle.model.specs.Held.{waits, available}
use Rattle.model.specs.Layout.{need, made, listed, free_word}
use Rattle.model.proofs.LayoutFacts.{stored_beyond}
use Rattle.model.proofs.MadeFacts.{NoWord, made_zero, made_free, made_for, made_length}
use Rattle.store.specs.Fresh.{full_word, six_numbers}

-- zeros in place of the first n numbers
pub zeroed : (t ys : List ℕ) (n : ℕ) → n ≤ length t → ys ≡ replicate n 0 → ys ++ drop n t ≡ sets t 0 (replicate n 0)
zeroed t ys n h e =
    let k : length (replicate {A = ℕ} n 0) ≡ n = length-replicate n 0 in
    ap (λ l. l ++ drop n t) e ∙ ap (λ i. replicate n 0 ++ drop i t) (let z : n ≡ 0 + length (replicate {A = ℕ} n 0) = omega arith in z) ∙
    sym (sets-eq (replicate n 0) t 0 (omega arith))

pub listed_none : (f : ℕ → ℕ) (t : List ℕ) (a i : ℕ) → t ≡ sets t a (listed f i 0)
unfolding listed
listed_none f t a i = refl

-- one number of f more
pub listed_next : (f : ℕ → ℕ) (t : List ℕ) (a i n : ℕ) → set (sets t a (listed f i n)) (a + n) (f (i + n)) ≡ sets t a (listed f i (suc n))
unfolding listed
listed_next f t a i zero = ap (λ k. set t k (f (i + 0))) (omega arith) ∙ ap (λ k. set t a (f k)) (omega arith)
listed_next f t a i (suc n) =
    let u = sets (set t a (f i)) (suc a) (listed f (suc i) n) in
    let here : a + suc n ≡ suc a + n = omega arith in
    let there : i + suc n ≡ suc i + n = omega arith in
    ap (λ k. set u k (f (i + suc n))) here ∙ ap (λ k. set u (suc a + n) (f k)) there ∙ listed_next f (set t a (f i)) (suc a) (suc i) n

zeros_at : (t : List ℕ) (n i : ℕ) → n ≤ length t → i < n → get_or (sets t 0 (replicate n 0)) i 0 ≡ 0
zeros_at t n i h l =
    let e : length (replicate {A = ℕ} n 0) ≡ n = length-replicate n 0 in
    ap (λ m. get_or m i 0) (sets-eq (replicate n 0) t 0 (omega arith)) ∙
    get_or-append (replicate n 0) (drop (0 + length (replicate n 0)) t) 0 i (omega arith) ∙ get_or-replicate n i 0 0 l

-- a store of what u has there
stores : (t u : List ℕ) (i v : ℕ) → i < length t → get_or u i 0 ≡ v → (j : ℕ) → ((j ≡ i → ⊥) → get_or t j 0 ≡ get_or u j 0) →
    get_or (set t i v) j 0 ≡ get_or u j 0
stores t u i v h e j other =
    cases (same? j i)
    (λ s. rw s (get_or-set_same t i v 0 h ∙ sym e))
    (λ n. get_or-set_other t i j v 0 n ∙ other n)

-- n stores of what u has there
stores_listed : (f : ℕ → ℕ) (t u : List ℕ) (a i n : ℕ) → a + n ≤ length t → ((k : ℕ) → k < n → get_or u (a + k) 0 ≡ f (i + k)) →
    (j : ℕ) → ((j < a) ⊎ (a + n ≤ j) → get_or t j 0 ≡ get_or u j 0) → get_or (sets t a (listed f i n)) j 0 ≡ get_or u j 0
unfolding listed
stores_listed f t u a i zero h e j other = cases (lt? j a) (λ l. other (inl l)) (λ l. other (inr (omega arith)))
stores_listed f t u a i (suc n) h e j other =
    stores_listed f (set t a (f i)) u (suc a) (suc i) n (omega (arith, length-set t a (f i)))
    (λ k l. ap (λ m. get_or u m 0) (omega arith) ∙ e (suc k) (omega arith) ∙ ap f (omega arith)) j
    (λ o. stores t u a (f i) (omega arith) (ap (λ m. get_or u m 0) (omega arith) ∙ e 0 (omega arith) ∙ ap f (omega arith)) j
    (λ n. other (cases o (λ l. inl (omega arith)) (λ l. inr (omega arith)))))

-- ── the free words ──

module _ (g : Geometry) where
  all_free : (i n : ℕ) → word_of (available (fresh g)) i n ≡ 2 ^ n - 1
  unfolding word_of available waits elem fresh
  all_free i zero = refl
  all_free i (suc n) = omega (arith, all_free i n)

  full_is : (k : ℕ) → free_word (fresh g) k ≡ full_word (blocks g) k
  unfolding free_word full_word fresh
  full_is k = all_free (32 * k) (min 32 (blocks g - 32 * k))

module _ (g : Geometry) (inside : Inside g) (t : List ℕ) (room : need g ≤ length t) where
  abbrev zeros : List ℕ
  zeros = sets t 0 (replicate (need g) 0)

  abbrev words : List ℕ
  words = sets zeros 64 (listed (full_word (blocks g)) 0 64)

  blank : (i : ℕ) → 6 ≤ i → NoWord i → get_or zeros i 0 ≡ get_or (made g t) i 0
  unfolding made
  blank i h o =
      cases (lt? i (need g))
      (λ l. zeros_at t (need g) i room l ∙ sym (made_zero g t room i h o l))
      (λ l. sym (stored_beyond g (fresh g) zeros i l))

  behind : (i : ℕ) → 6 ≤ i → get_or words i 0 ≡ get_or (made g t) i 0
  behind i h =
      stores_listed (full_word (blocks g)) zeros (made g t) 64 0 64 (omega (arith, length-sets t 0 (replicate (need g) 0)))
      (λ k l. made_free g inside t room k l ∙ full_is g k ∙ ap (full_word (blocks g)) (omega arith)) i
      (λ o. blank i h o)

  -- with the first k of the six numbers
  abbrev first : ℕ → List ℕ
  first k = sets words 0 (take k (six_numbers g))

  length_words : length words ≡ length t
  length_words = length-sets zeros 64 (listed (full_word (blocks g)) 0 64) ∙ length-sets t 0 (replicate (need g) 0)

  long : (k : ℕ) → 32 ≤ length (first k)
  long k = omega (arith, length-sets words 0 (take k (six_numbers g)), length_words)

  pub filled : sets (sets (sets t 0 (replicate (need g) 0)) 64 (listed (full_word (blocks g)) 0 64)) 0 (six_numbers g) ≡ made g t
  filled =
      let m = made_for g t room in
      ext_get_or 0 (first 6) (made g t) (length-sets words 0 (six_numbers g) ∙ length_words ∙ sym (made_length g t))
      (λ i h.
      stores (first 5) (made g t) 5 g.words (omega (arith, long 5)) m.words i (λ n5.
      stores (first 4) (made g t) 4 g.turn (omega (arith, long 4)) m.turn i (λ n4.
      stores (first 3) (made g t) 3 g.records (omega (arith, long 3)) m.records i (λ n3.
      stores (first 2) (made g t) 2 g.pages (omega (arith, long 2)) m.pages i (λ n2.
      stores (first 1) (made g t) 1 g.per (omega (arith, long 1)) m.per i (λ n1.
      stores (first 0) (made g t) 0 g.arenas (omega (arith, long 0)) m.arenas i (λ n0.
      behind i (omega arith))))))))
