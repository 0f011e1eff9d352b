-- The blocks that wait are released one after another: their bits of the free words are set, then none waits.
use mathlib.Core.Path.{◌≡◌, refl, sym, ap, ◌∙◌}
use mathlib.Core.Logic.{inl, inr}
use mathlib.Core.Bool.{Bool, true, not, ◌&&◌, ◌||◌, or-false, or_assoc}
use mathlib.Core.List.{List, [], ◌∷◌, ◌++◌}
use Prim.Native.Nat.{ℕ, zero, suc, ◌-◌, ◌*◌, ◌/◌, ◌%◌, ◌^◌, ◌<◌, min}
use native.Mathlib.Omega.{arith}
use lib.Dec.{eqb}
use lib.Bits.{bit_or}
use lib.ListN.{length, get_or, set, take, length-set}
use lib.Seq.{get_or-set_same, get_or-set_other}
use borrow.Author.Tests.{eq-eqb, ne_eqb}
use Rattle.answer.proofs.Cases.{cases, either, same?, lt?}
use Rattle.geometry.specs.declared.Geometry.{Geometry}
use Rattle.geometry.specs.Limits.{blocks}
use Rattle.choice.specs.Words.{word_of}
use Rattle.model.specs.Lists.{elem}
use Rattle.model.specs.Held.{waits, available}
use Rattle.model.specs.State.{State, synced}
use Rattle.model.specs.Layout.{free_cell, free_word, view_of, state_of, header_number, column_number, page_number, list_number, stored}
use Rattle.model.proofs.LayoutFacts.{stored_header}
use Rattle.model.proofs.StoredFacts.{free_number}
use Rattle.model.proofs.BirthPut.{word_ext}
use Rattle.model.proofs.MadeFacts.{NoWord}
use Rattle.model.proofs.Waiting.{elem_append, elem_in}
use Rattle.tables.specs.Ready.{Ready}
use Rattle.tables.specs.Births.{raised}
use Rattle.tables.proofs.Ranges.{in_get_d, waiting_in, waiting_le}
use Rattle.tables.proofs.Bits.{word_with}
use Rattle.tables.proofs.Freeing.{waits_header, wait_dropped}
use Rattle.tables.proofs.Stores.{header_same, several}

take_next : (l : List ℕ) (k : ℕ) → k < length l → take (suc k) l ≡ take k l ++ (get_or l k 0 ∷ [])
take_next [] k h = absurd (let z : ⊥ = omega arith in z)
take_next (x ∷ l) zero h = refl
take_next (x ∷ l) (suc k) h = ap (λ m. x ∷ m) (take_next l k (omega arith))

take_whole : (l : List ℕ) → take (length l) l ≡ l
take_whole [] = refl
take_whole (x ∷ l) = ap (λ m. x ∷ m) (take_whole l)

elem_one : (l : List ℕ) (b c : ℕ) → elem c (l ++ (b ∷ [])) ≡ (elem c l || eqb c b)
unfolding elem
elem_one l b c = elem_append c l (b ∷ []) ∙ ap (λ t. elem c l || t) (or-false (eqb c b))

-- block c may be given once the first k of those that t₀ lets wait are released
unfoldable pub may : Geometry → List ℕ → ℕ → ℕ → Bool
may g t₀ k c = available (state_of g t₀) c || elem c (take k (state_of g t₀).waiting)

-- how many bits word j has
abbrev pub width : Geometry → ℕ → ℕ
width g j = min 32 (blocks g - 32 * j)

-- the first k are released
pub record Raised (g : Geometry) (t₀ : List ℕ) (k : ℕ) (t : List ℕ) : Type 0 where
  pub long : length t ≡ length t₀
  pub words : (j : ℕ) → j < 64 → get_or t (free_cell j) 0 ≡ word_of (may g t₀ k) (32 * j) (width g j)
  pub rest : (i : ℕ) → NoWord i → get_or t i 0 ≡ get_or t₀ i 0

module _ (g : Geometry) (t₀ : List ℕ) (R : Ready g t₀) where
  pub raised_none : Raised g t₀ 0 t₀
  unfolding may free_word state_of view_of elem
  raised_none = record {
    long = refl;
    words = λ j h. R.free j h ∙ word_ext (available (state_of g t₀)) (may g t₀ 0) (width g j) (32 * j) (λ c l m. sym (or-false (available (state_of g t₀) c)));
    rest = λ i o. refl;
  }

  may_next : (k b c : ℕ) → k < length (state_of g t₀).waiting → b ≡ get_or (state_of g t₀).waiting k 0 → may g t₀ (suc k) c ≡ (may g t₀ k c || eqb c b)
  unfolding may
  may_next k b c h e =
      ap (λ l. available (state_of g t₀) c || elem c l) (take_next (state_of g t₀).waiting k h ∙ ap (λ x. take k (state_of g t₀).waiting ++ (x ∷ [])) (sym e)) ∙
      ap (λ s. available (state_of g t₀) c || s) (elem_one (take k (state_of g t₀).waiting) b c) ∙
      sym (or_assoc (available (state_of g t₀) c) (elem c (take k (state_of g t₀).waiting)) (eqb c b))

  pub place_low : (n k : ℕ) → n ≡ length (state_of g t₀).waiting → k < n → k < blocks g
  place_low n k e h = omega (arith, waiting_le R)

  pub waiting_low : (k b : ℕ) → k < length (state_of g t₀).waiting → b ≡ get_or (state_of g t₀).waiting k 0 → b < blocks g
  waiting_low k b h e = omega (arith, waiting_in R (get_or (state_of g t₀).waiting k 0) (in_get_d (state_of g t₀).waiting k h))

  pub raised_next : (k b : ℕ) (t : List ℕ) → Raised g t₀ k t → k < length (state_of g t₀).waiting → b ≡ get_or (state_of g t₀).waiting k 0 →
      Raised g t₀ (suc k) (raised t b)
  unfolding raised
  raised_next k b t H h e =
      let a : ℕ = free_cell (b / 32) in
      let w : ℕ = bit_or (get_or t a 0) (2 ^ (b % 32)) in
      let low = waiting_low k b h e in
      let short : b / 32 < 64 = omega (arith, low, R.roomy.inside.blocks_most) in
      record {
        long = length-set t a w ∙ H.long;
        words = λ j l. cases (same? j (b / 32))
            (λ d. rw d (get_or-set_same t a w 0 (omega (arith, H.long, R.roomy.room)) ∙ ap (λ x. bit_or x (2 ^ (b % 32))) (H.words (b / 32) short) ∙
            word_with (may g t₀ k) (may g t₀ (suc k)) (width g (b / 32)) b (omega arith) (omega arith) (λ c. may_next k b c h e)))
            (λ d. get_or-set_other t a (free_cell j) w 0 (λ z. d (omega arith)) ∙ H.words j l ∙
            word_ext (may g t₀ k) (may g t₀ (suc k)) (width g j) (32 * j) (λ c m n.
            sym (may_next k b c h e ∙ ap (λ s. may g t₀ k c || s) (ne_eqb c b (λ z. d (omega arith))) ∙ or-false (may g t₀ k c))));
        rest = λ i o. get_or-set_other t a i w 0 (λ z. cases o (λ l. let y : ⊥ = omega arith in y) (λ l. let y : ⊥ = omega arith in y)) ∙ H.rest i o;
      }

  -- all of them are
  may_all : (c : ℕ) → may g t₀ (length (state_of g t₀).waiting) c ≡ available (synced (state_of g t₀)) c
  unfolding may available waits elem
  may_all c =
      let T : State = state_of g t₀ in
      ap (λ l. (eqb (T.view.birth c) 0 && (eqb (T.queue.birth c) 0 && not (elem c T.waiting))) || elem c l) (take_whole T.waiting) ∙
      cases (either (elem c T.waiting))
      (λ y.
      let i = elem_in c T.waiting y in
      rw (y, eq-eqb (T.view.birth c) 0 (R.waiting.unborn c i), eq-eqb (T.queue.birth c) 0 (R.waiting.unqueued c i)))
      (λ n. rw n (or-false (eqb (T.view.birth c) 0 && (eqb (T.queue.birth c) 0 && true))))

  word_synced : (j : ℕ) → word_of (may g t₀ (length (state_of g t₀).waiting)) (32 * j) (width g j) ≡ free_word (synced (state_of g t₀)) j
  unfolding free_word state_of view_of
  word_synced j = word_ext (may g t₀ (length (state_of g t₀).waiting)) (available (synced (state_of g t₀))) (width g j) (32 * j) (λ c l m. may_all c)

  -- NONE WAITS
  pub raised_all : (t : List ℕ) → Raised g t₀ (length (state_of g t₀).waiting) t → set t 11 0 ≡ stored g (synced (state_of g t₀)) t₀
  unfolding column_number page_number list_number
  raised_all t H =
      let U : State = synced (state_of g t₀) in
      let room = R.roomy.room in
      several g t₀ R.roomy R.made R.free (set t 11 0) U (λ i. NoWord i × (i ≡ 11 → ⊥)) (record {
        header = λ i h p. header_same g U (state_of g t₀) t₀ i (λ e. refl) (λ e. refl) (λ e. refl) (λ e. refl) (λ e. refl) (λ e. absurd (p.1 e)) (λ e. refl)
            (λ l m. absurd (cases p.0 (λ k. let y : ⊥ = omega arith in y) (λ k. let y : ⊥ = omega arith in y)));
        column = λ f s hf hs p. refl;
        page = λ s x hs hx p. refl;
        list = λ s i hs hi p. refl;
        birth = λ b hb p. refl;
        note = λ i l h p. refl;
        queue = λ i l h p. refl;
        queue_birth = λ b hb p. refl;
        wait = λ i l h p. wait_dropped g t₀ i;
      })
      (length-set t 11 0 ∙ H.long)
      (λ i p. get_or-set_other t 11 i 0 0 p.1 ∙ H.rest i p.0)
      (λ i.
      cases (same? i 11)
      (λ e. inl (rw e (get_or-set_same t 11 0 0 (omega (arith, H.long)) ∙ sym (stored_header g U t₀ room 11 (omega arith) ∙ waits_header g U t₀))))
      (λ d. cases (lt? i 64) (λ l. inr (inl l, d))
      (λ l. cases (lt? i 128)
      (λ m.
      let j : ℕ = i - 64 in
      let e : i ≡ free_cell j = omega arith in
      inl (get_or-set_other t 11 i 0 0 d ∙ ap (λ k. get_or t k 0) e ∙ H.words j (omega arith) ∙ word_synced j ∙
      sym (stored_header g U t₀ room i (omega arith) ∙ ap (header_number g U t₀) e ∙ free_number g U t₀ j R.roomy.inside.arenas_most (omega arith))))
      (λ m. inr (inr m, d)))))
