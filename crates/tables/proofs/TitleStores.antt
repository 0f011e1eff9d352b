-- Stores into a row of names: its link, the whole row of a name, and that it becomes empty.
use mathlib.Core.Path.{◌≡◌, refl, sym, ap, ◌∙◌}
use mathlib.Core.Logic.{◌⊎◌, inl, inr}
use mathlib.Core.List.{List, []}
use Prim.Native.Nat.{ℕ, suc, ◌+◌, ◌-◌, ◌/◌, ◌%◌, ◌≤◌, ◌<◌}
use native.Mathlib.Omega.{arith}
use lib.ListN.{length, get_or, set, length-set}
use lib.Seq.{sets, get_or-set_same, get_or-set_other}
use borrow.Author.Tests.{eq-eqb, ne_eqb, le-leb, lt-leb, le-ltb}
use Rattle.answer.proofs.Cases.{cases, same?, lt?}
use Rattle.geometry.specs.declared.Geometry.{Geometry}
use Rattle.model.specs.Held.{waits, available}
use Rattle.model.specs.Names.{Titles, named, unnamed, moved}
use Rattle.model.specs.State.{State}
use Rattle.model.specs.SoundStore.{MadeFor}
use Rattle.model.specs.Layout.{title_cell, letters_cell, free_word, titles_of, state_of, header_number, title_number, stored}
use Rattle.model.proofs.TabFacts.{put_same, put_other}
use Rattle.model.proofs.LayoutFacts.{stored_spare}
use Rattle.model.proofs.StoredFacts.{title_number_lem, title_link, title_length, title_letter}
use Rattle.model.proofs.Restored.{title_said}
use Rattle.tables.specs.Ready.{Roomy, FreeWords}
use Rattle.tables.specs.Puts.{with_rows}
use Rattle.tables.specs.Titles.{with_owner, title_put, title_off}
use Rattle.tables.proofs.Fields
use Rattle.tables.proofs.Stores.{note_same, several}
use Rattle.tables.proofs.Puts.{shaped_link, shaped_put, shaped_off}
use Rattle.tables.proofs.Steps.{Holds, holds_as, holds_roomy, holds_made, holds_free, holds_says, step_rows}
use Rattle.tables.proofs.Sets.{sets_off, sets_on, sets_length}
use Rattle.tables.proofs.TitleRows.{moved_one}

-- ── number k of row i ──

-- rows that agree there say the same
pub title_same : (X Y : Titles) (t : List ℕ) (i k : ℕ) → X.owner i ≡ Y.owner i → X.text i ≡ Y.text i → title_number X t i k ≡ title_number Y t i k
unfolding title_number
title_same X Y t i k e d = rw (e, d)

-- in use, with the same name: all but the link
title_rest : (X Y : Titles) (t : List ℕ) (i k : ℕ) → (k ≡ 0 → ⊥) → (X.owner i ≡ 0 → ⊥) → (Y.owner i ≡ 0 → ⊥) → X.text i ≡ Y.text i →
    title_number X t i k ≡ title_number Y t i k
unfolding title_number
title_rest X Y t i k n a b d = rw (ne_eqb k 0 n, ne_eqb (X.owner i) 0 a, ne_eqb (Y.owner i) 0 b, d)

-- empty: all but the link stay
title_empty : (X : Titles) (t : List ℕ) (i k : ℕ) → (k ≡ 0 → ⊥) → X.owner i ≡ 0 → title_number X t i k ≡ get_or t (title_cell i + k) 0
unfolding title_number
title_empty X t i k n e = rw (ne_eqb k 0 n, eq-eqb (X.owner i) 0 e)

-- the numbers of a row in use that are neither link nor length nor letter
title_spare : (X : Titles) (t : List ℕ) (i k : ℕ) → (k ≡ 0 → ⊥) → (X.owner i ≡ 0 → ⊥) → (k ≡ 1 → ⊥) → (k < 8) ⊎ (8 + length (X.text i) ≤ k) →
    title_number X t i k ≡ get_or t (title_cell i + k) 0
unfolding title_number
title_spare X t i k n a b o =
    rw (ne_eqb k 0 n, ne_eqb (X.owner i) 0 a, ne_eqb k 1 b)
    (cases o
    (λ l. rw (lt-leb 8 k l))
    (λ l. rw (le-leb 8 k (omega arith), le-ltb (k - 8) (length (X.text i)) (omega arith))))

-- outside row i
abbrev pub OffRow : ℕ → ℕ → Type 0
OffRow i a = (a < title_cell i) ⊎ (title_cell i + 40 ≤ a)

module _ (g : Geometry) (t : List ℕ) (roomy : Roomy g t) (made : MadeFor g t) (free : FreeWords g t) (i : ℕ) (low : i < 32) where
  abbrev T : State
  T = state_of g t

  abbrev X : Titles
  X = T.notes.titles

  -- THE GENERAL STORE into row i: rows that differ from those of t in row i alone
  pub store_row : (Y : Titles) (u : List ℕ) → ((j : ℕ) → (j ≡ i → ⊥) → Y.owner j ≡ X.owner j) → ((j : ℕ) → (j ≡ i → ⊥) → Y.text j ≡ X.text j) →
      length u ≡ length t → ((a : ℕ) → OffRow i a → get_or u a 0 ≡ get_or t a 0) →
      ((k : ℕ) → k < 40 → get_or u (title_cell i + k) 0 ≡ title_number Y t i k) → u ≡ stored g (with_rows T Y) t
  unfolding with_rows header_number free_word available waits
  store_row Y u owners texts len same row =
      let U : State = with_rows T Y in
      several g t roomy made free u U (OffRow i) (record {
        header = λ a h p. refl;
        column = λ f r hf hr p. refl;
        page = λ r x hr hx p. refl;
        list = λ r a hr ha p. refl;
        birth = λ b hb p. refl;
        note = λ a l h p. note_same g.records U.notes T.notes t a (λ e. refl) (λ e. refl) (λ e.
            let n : (a - 768) / 40 ≡ i → ⊥ = λ d. cases p (λ q. let z : ⊥ = omega arith in z) (λ q. let z : ⊥ = omega arith in z) in
            title_same Y X t ((a - 768) / 40) ((a - 768) % 40) (owners _ n) (texts _ n));
        queue = λ a l h p. refl;
        queue_birth = λ b hb p. refl;
        wait = λ a l h p. refl;
      })
      len same
      (λ a.
      cases (lt? a (title_cell i)) (λ l. inr (inl l)) (λ l.
      cases (lt? a (title_cell i + 40))
      (λ h.
      let k : ℕ = a - title_cell i in
      let e : a ≡ title_cell i + k = omega arith in
      inl (ap (λ b. get_or u b 0) e ∙ row k (omega arith) ∙
      sym (ap (λ b. get_or (stored g U t) b 0) e ∙ stored_spare g U t roomy.room (title_cell i + k) (omega arith) (omega arith) ∙
      title_number_lem g.records U.notes t i k roomy.inside.records_most low (omega arith))))
      (λ h. inr (inr h))))

  -- one number of t is stored: its link
  module _ (v : ℕ) where
    abbrev u : List ℕ
    u = set t (title_cell i) v

    link_off : (a : ℕ) → OffRow i a → get_or u a 0 ≡ get_or t a 0
    link_off a o = get_or-set_other t (title_cell i) a v 0 (λ e. cases o (λ h. let z : ⊥ = omega arith in z) (λ h. let z : ⊥ = omega arith in z))

    -- the row with Y in it, which has the link v and else is as t says it
    link_row : (Y : Titles) → Y.owner i ≡ v → ((k : ℕ) → (k ≡ 0 → ⊥) → title_number Y t i k ≡ get_or t (title_cell i + k) 0) →
        (k : ℕ) → k < 40 → get_or u (title_cell i + k) 0 ≡ title_number Y t i k
    link_row Y e rest k h =
        cases (same? k 0)
        (λ z. rw z (ap (λ a. get_or u a 0) (let z : title_cell i + 0 ≡ title_cell i = omega arith in z) ∙
        get_or-set_same t (title_cell i) v 0 (omega (arith, roomy.room)) ∙ sym e ∙ sym (title_link Y t i)))
        (λ n. get_or-set_other t (title_cell i) (title_cell i + k) v 0 (λ e. n (omega arith)) ∙ sym (rest k n))

  -- row i, which is in use, goes to another record
  pub store_link : (link : ℕ) → 0 < X.owner i → 0 < link → set t (title_cell i) link ≡ stored g (with_rows T (with_owner X i link)) t
  unfolding with_owner
  store_link link used some =
      let Y : Titles = with_owner X i link in
      let here : Y.owner i ≡ link = put_same X.owner i link in
      store_row Y (set t (title_cell i) link) (λ j n. put_other X.owner i link j n) (λ j n. refl) (length-set t (title_cell i) link) (link_off link)
      (link_row link Y here (λ k n.
      title_rest Y X t i k n (λ e. let z : ⊥ = omega arith in z) (λ e. let z : ⊥ = omega arith in z) refl ∙
      ap (λ Z. title_number Z t i k) (Fields.titles_is g t) ∙ title_said g t i k low))

  -- U: row i becomes empty
  pub store_off : title_off t i ≡ stored g (with_rows T (unnamed X i)) t
  unfolding title_off unnamed
  store_off =
      let Y : Titles = unnamed X i in
      let here : Y.owner i ≡ 0 = put_same X.owner i 0 in
      store_row Y (set t (title_cell i) 0) (λ j n. put_other X.owner i 0 j n) (λ j n. put_other X.text i [] j n)
      (length-set t (title_cell i) 0) (link_off 0) (link_row 0 Y here (λ k n. title_empty Y t i k n here))

  -- N: row i gets the link of slot s and the name l
  module _ (s : ℕ) (l : List ℕ) (short : length l ≤ 32) where
    abbrev a : List ℕ
    a = set t (title_cell i) (suc s)

    abbrev b : List ℕ
    b = set a (title_cell i + 1) (length l)

    abbrev c : List ℕ
    c = sets b (letters_cell i) l

    long_a : length a ≡ length t
    long_a = length-set t (title_cell i) (suc s)

    long_b : length b ≡ length t
    long_b = length-set a (title_cell i + 1) (length l) ∙ long_a

    -- a number that is none of those stored
    put_other_number : (k : ℕ) → (k ≡ title_cell i → ⊥) → (k ≡ title_cell i + 1 → ⊥) → (k < letters_cell i) ⊎ (letters_cell i + length l ≤ k) →
        get_or c k 0 ≡ get_or t k 0
    put_other_number k n m o =
        sets_off l b (letters_cell i) k o ∙ get_or-set_other a (title_cell i + 1) k (length l) 0 m ∙ get_or-set_other t (title_cell i) k (suc s) 0 n

    put_outside : (k : ℕ) → OffRow i k → get_or c k 0 ≡ get_or t k 0
    put_outside k o =
        cases o
        (λ h. put_other_number k (λ e. let z : ⊥ = omega arith in z) (λ e. let z : ⊥ = omega arith in z) (inl (omega arith)))
        (λ h. put_other_number k (λ e. let z : ⊥ = omega arith in z) (λ e. let z : ⊥ = omega arith in z) (inr (omega arith)))

    put_link : get_or c (title_cell i) 0 ≡ suc s
    put_link =
        sets_off l b (letters_cell i) (title_cell i) (inl (omega arith)) ∙
        get_or-set_other a (title_cell i + 1) (title_cell i) (length l) 0 (λ e. let z : ⊥ = omega arith in z) ∙
        get_or-set_same t (title_cell i) (suc s) 0 (omega (arith, roomy.room))

    put_length : get_or c (title_cell i + 1) 0 ≡ length l
    put_length =
        sets_off l b (letters_cell i) (title_cell i + 1) (inl (omega arith)) ∙
        get_or-set_same a (title_cell i + 1) (length l) 0 (omega (arith, roomy.room, long_a))

    module _ (Y : Titles) (owner : Y.owner i ≡ suc s) (text : Y.text i ≡ l) where
      used : Y.owner i ≡ 0 → ⊥
      used e = let z : ⊥ = omega arith in z

      put_row_lem : (k : ℕ) → k < 40 → get_or c (title_cell i + k) 0 ≡ title_number Y t i k
      put_row_lem k h =
          let len : length (Y.text i) ≡ length l = ap length text in
          cases (same? k 0)
          (λ e. rw e (ap (λ n. get_or c n 0) (let z : title_cell i + 0 ≡ title_cell i = omega arith in z) ∙ put_link ∙ sym owner ∙ sym (title_link Y t i))) (λ n.
          cases (same? k 1) (λ e. rw e (put_length ∙ sym len ∙ sym (title_length Y t i used))) (λ m.
          cases (lt? k 8)
          (λ q. spare k n m (inl q) (inl (omega arith)))
          (λ q. cases (lt? k (8 + length l))
          (λ r.
          let d : ℕ = k - 8 in
          let e : k ≡ 8 + d = omega arith in
          rw e (ap (λ n. get_or c n 0) (let z : title_cell i + (8 + d) ≡ letters_cell i + d = omega arith in z) ∙
          sets_on l b (letters_cell i) d (omega (arith, roomy.room, long_b)) (omega arith) ∙ ap (λ (w : List ℕ). get_or w d 0) (sym text) ∙
          sym (title_letter Y t i d used (omega arith))))
          (λ r. spare k n m (inr (omega arith)) (inr (omega arith))))))
        where
          spare : (k : ℕ) → (k ≡ 0 → ⊥) → (k ≡ 1 → ⊥) → (k < 8) ⊎ (8 + length (Y.text i) ≤ k) →
              (title_cell i + k < letters_cell i) ⊎ (letters_cell i + length l ≤ title_cell i + k) → get_or c (title_cell i + k) 0 ≡ title_number Y t i k
          spare k n m o p =
              put_other_number (title_cell i + k) (λ e. n (omega arith)) (λ e. m (omega arith)) p ∙ sym (title_spare Y t i k n used m o)

    pub store_put : title_put t i (suc s) l ≡ stored g (with_rows T (named X i s l)) t
    unfolding title_put named
    store_put =
        let Y : Titles = named X i s l in
        store_row Y c (λ j n. put_other X.owner i (suc s) j n) (λ j n. put_other X.text i l j n) (sets_length l b (letters_cell i) ∙ long_b)
        put_outside (put_row_lem Y (put_same X.owner i (suc s)) (put_same X.text i l))

-- ── as steps, from tables whose rows of names are those of t₀ ──

module _ (g : Geometry) (t₀ : List ℕ) (roomy : Roomy g t₀) {T : State} {t : List ℕ} (H : Holds g t₀ T t) (rows : T.notes.titles ≡ titles_of t₀)
    (i : ℕ) (low : i < 32) where
  pub step_link : (link : ℕ) → 0 < T.notes.titles.owner i → 0 < link →
      Holds g t₀ (with_rows T (with_owner T.notes.titles i link)) (set t (title_cell i) link)
  step_link link used some =
      step_rows g t₀ roomy H (λ X. with_owner X i link) _
      (store_link g t (holds_roomy g t₀ roomy H) (holds_made g t₀ roomy H) (holds_free g t₀ roomy H) i low link
      (omega (arith, used, ap (λ U. U.notes.titles.owner i) (holds_says g t₀ roomy H))) some)
      (shaped_link g T H.shaped i link low some) rows

  pub step_off : Holds g t₀ (with_rows T (unnamed T.notes.titles i)) (title_off t i)
  step_off =
      step_rows g t₀ roomy H (λ X. unnamed X i) _
      (store_off g t (holds_roomy g t₀ roomy H) (holds_made g t₀ roomy H) (holds_free g t₀ roomy H) i low) (shaped_off g T H.shaped i low) rows

  pub step_put : (s : ℕ) (l : List ℕ) → length l ≤ 32 → Holds g t₀ (with_rows T (named T.notes.titles i s l)) (title_put t i (suc s) l)
  step_put s l short =
      step_rows g t₀ roomy H (λ X. named X i s l) _
      (store_put g t (holds_roomy g t₀ roomy H) (holds_made g t₀ roomy H) (holds_free g t₀ roomy H) i low s l short)
      (shaped_put g T H.shaped i s l low short) rows

  -- row i is the only one of slot r: all names of r go to slot f
  pub step_moved : (r f : ℕ) → T.notes.titles.owner i ≡ suc r → ((j : ℕ) → T.notes.titles.owner j ≡ suc r → j ≡ i) →
      Holds g t₀ (with_rows T (moved T.notes.titles r f)) (set t (title_cell i) (suc f))
  step_moved r f e one =
      holds_as g t₀ refl (ap (with_rows T) (moved_one T.notes.titles r f i e one)) (step_link (suc f) (omega arith) (omega arith))
