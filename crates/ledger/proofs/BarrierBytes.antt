-- What of a log counts, told of its bytes, is what is settled of it: a whole word is a barrier exactly where its eight bytes are those of 3.
use mathlib.Core.Path.{◌≡◌, refl, sym, ap, ◌∙◌, subst}
use mathlib.Core.Logic.{◌⊎◌, inl, inr}
use mathlib.Core.Bool.{cond}
use mathlib.Core.List.{List, [], ◌∷◌, ◌++◌}
use Prim.Native.Nat.{ℕ, zero, suc, pred, ◌+◌, ◌*◌, ◌≤◌, ◌<◌}
use native.Mathlib.Omega.{arith}
use lib.Dec.{eqb, ltb}
use lib.ListN.{length, take, drop, length-take, length-drop, take-append-drop}
use lib.Seq.{drop-drop}
use borrow.Author.Tests.{lt-ltb, eq-eqb, ne_eqb}
use Rattle.answer.proofs.Cases.{cases, lt?, same?}
use Rattle.alloc_log.specs.Word.{spell, words, word_at, barrier}
use Rattle.alloc_log.specs.Settled.{up_to_barrier, settled}
use Rattle.alloc_log.proofs.Reading.{words_step}
use Rattle.alloc_log.proofs.Settling.{words_count}
use Rattle.ledger.specs.LogMeans.{BarrierAt, SettledBytes}

-- word n is a barrier
abbrev BarrierIn : List ℕ → ℕ → Type 0
BarrierIn [] n = ⊥
BarrierIn (w ∷ ws) zero = w ≡ barrier
BarrierIn (w ∷ ws) (suc n) = BarrierIn ws n

-- ── up to the last one ──

up_ends : (ws : List ℕ) → (up_to_barrier ws ≡ 0) ⊎ BarrierIn ws (pred (up_to_barrier ws))
unfolding up_to_barrier
up_ends [] = inl refl
up_ends (w ∷ ws) = go (up_to_barrier ws) (up_ends ws)
  where
    go : (u : ℕ) → (u ≡ 0) ⊎ BarrierIn ws (pred u) →
        let k = cond (ltb 0 u) (suc u) (cond (eqb w barrier) 1 0) in (k ≡ 0) ⊎ BarrierIn (w ∷ ws) (pred k)
    go zero e = cases (same? w barrier) (λ b. rw (eq-eqb w barrier b) (inr b)) (λ b. rw (ne_eqb w barrier b) (inl refl))
    go (suc u) e = rw (lt-ltb 0 (suc u) (omega arith)) (cases e (λ z. absurd (let y : ⊥ = omega (arith, z) in y)) inr)

up_last : (ws : List ℕ) (n : ℕ) → up_to_barrier ws ≤ n → BarrierIn ws n → ⊥
unfolding up_to_barrier
up_last [] n h b = b
up_last (w ∷ ws) n h b = go n (up_to_barrier ws) (up_last ws) h b
  where
    go : (n u : ℕ) → ((m : ℕ) → u ≤ m → BarrierIn ws m → ⊥) → cond (ltb 0 u) (suc u) (cond (eqb w barrier) 1 0) ≤ n → BarrierIn (w ∷ ws) n → ⊥
    go zero zero none h b = let z : 1 ≤ 0 = rw (eq-eqb w barrier b) at h in omega (arith, z)
    go zero (suc u) none h b = let z : suc (suc u) ≤ 0 = rw (lt-ltb 0 (suc u) (omega arith)) at h in omega (arith, z)
    go (suc n) zero none h b = none n (omega arith) b
    go (suc n) (suc u) none h b = let z : suc (suc u) ≤ suc n = rw (lt-ltb 0 (suc u) (omega arith)) at h in none n (omega (arith, z)) b

-- ── a word and its bytes ──

-- bytes that spell 3, the highest first
eight : (l : List ℕ) → 8 ≤ length l → word_at l 0 ≡ barrier → take 8 l ≡ 0 ∷ 0 ∷ 0 ∷ 0 ∷ 0 ∷ 0 ∷ 0 ∷ 3 ∷ []
unfolding word_at spell
eight [] h e = absurd (omega arith)
eight (a ∷ []) h e = absurd (omega arith)
eight (a ∷ b ∷ []) h e = absurd (omega arith)
eight (a ∷ b ∷ c ∷ []) h e = absurd (omega arith)
eight (a ∷ b ∷ c ∷ d ∷ []) h e = absurd (omega arith)
eight (a ∷ b ∷ c ∷ d ∷ f ∷ []) h e = absurd (omega arith)
eight (a ∷ b ∷ c ∷ d ∷ f ∷ g ∷ []) h e = absurd (omega arith)
eight (a ∷ b ∷ c ∷ d ∷ f ∷ g ∷ i ∷ []) h e = absurd (omega arith)
eight (a ∷ b ∷ c ∷ d ∷ f ∷ g ∷ i ∷ j ∷ l) h e =
    let ea : a ≡ 0 = omega (arith, e) in
    let eb : b ≡ 0 = omega (arith, e) in
    let ec : c ≡ 0 = omega (arith, e) in
    let ed : d ≡ 0 = omega (arith, e) in
    let ef : f ≡ 0 = omega (arith, e) in
    let eg : g ≡ 0 = omega (arith, e) in
    let ei : i ≡ 0 = omega (arith, e) in
    let ej : j ≡ 3 = omega (arith, e) in
    λ k. ea k ∷ eb k ∷ ec k ∷ ed k ∷ ef k ∷ eg k ∷ ei k ∷ ej k ∷ []

-- the next word
later_word : (l : List ℕ) (n : ℕ) → drop (8 * n) (drop 8 l) ≡ drop (8 * suc n) l
later_word l n = drop-drop (8 * n) 8 l ∙ ap (λ (k : ℕ). drop k l) (let z : 8 + 8 * n ≡ 8 * suc n = omega arith in z)

-- whole words only
pub whole_word : (log : List ℕ) (n : ℕ) → BarrierAt log n → 8 * n + 8 ≤ length log
whole_word log n e = omega (arith, ap length e, length-take 8 (drop (8 * n) log), length-drop (8 * n) log)

in_words : (n : ℕ) (l : List ℕ) → BarrierAt l n → BarrierIn (words l) n
unfolding words
in_words zero l e = subst (λ (k : List ℕ). BarrierIn (words k) 0) (ap (λ (f : List ℕ). f ++ drop 8 l) (sym e) ∙ take-append-drop 8 l) refl
in_words (suc n) l e =
    let size = whole_word l (suc n) e in
    subst (λ (ws : List ℕ). BarrierIn ws (suc n)) (sym (words_step l 0 (omega (arith, size))))
    (in_words n (drop 8 l) (ap (take 8) (later_word l n) ∙ e))

-- fewer than eight bytes have no word
no_word : (l : List ℕ) (n : ℕ) → length l < 8 → BarrierIn (words l) n → ⊥
no_word l n h b = none (words l) (omega (arith, words_count l, h)) b
  where
    none : (ws : List ℕ) → length ws ≡ 0 → BarrierIn ws n → ⊥
    none [] e b = b
    none (w ∷ ws) e b = omega arith

in_bytes : (n : ℕ) (l : List ℕ) → BarrierIn (words l) n → BarrierAt l n
in_bytes zero l b =
    cases (lt? (length l) 8)
    (λ h. absurd (no_word l 0 h b))
    (λ h. eight l h (subst (λ (ws : List ℕ). BarrierIn ws 0) (words_step l 0 h) b))
in_bytes (suc n) l b =
    cases (lt? (length l) 8)
    (λ h. absurd (no_word l (suc n) h b))
    (λ h. ap (take 8) (sym (later_word l n)) ∙ in_bytes n (drop 8 l) (subst (λ (ws : List ℕ). BarrierIn ws (suc n)) (words_step l 0 h) b))

-- WHAT IS SETTLED IS WHAT COUNTS, by the bytes
pub settled_by_bytes : (log : List ℕ) → SettledBytes log (settled log)
unfolding settled
settled_by_bytes log = record {
  count = up_to_barrier (words log);
  is = refl;
  ends = cases (up_ends (words log)) inl (λ b. inr (in_bytes (pred (up_to_barrier (words log))) log b));
  last = λ n h b. up_last (words log) n (omega (arith, h)) (in_words n log b);
}

-- and nothing else is
pub settled_alone : (log part : List ℕ) → SettledBytes log part → part ≡ settled log
settled_alone log part s =
    let o = settled_by_bytes log in
    let most : (k m : ℕ) → (k ≡ 0) ⊎ BarrierAt log (pred k) → ((n : ℕ) → m ≤ n → BarrierAt log n → ⊥) → k ≤ m = λ k m ends last.
    cases (lt? m k) (λ h. cases ends (λ z. omega (arith, z)) (λ b. absurd (last (pred k) (omega arith) b))) (λ h. h) in
    let same : s.count ≡ o.count = omega (arith, most s.count o.count s.ends o.last, most o.count s.count o.ends s.last) in
    s.is ∙ ap (λ (k : ℕ). take (8 * k) log) same ∙ sym o.is
