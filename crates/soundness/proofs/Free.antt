-- The free words, as the check of them reads them: a copy of them, which the blocks that wait and those that are queued join, against the births.
use Rattle.std.proofs.Common.{
  ◌≡◌,
  ℕ,
  zero,
  suc,
  ◌+◌,
  ◌-◌,
  ◌*◌,
  ◌^◌,
  ◌<◌,
  ◌≤◌,
  min,
  Bool,
  true,
  false,
  ◌&&◌,
  ◌||◌,
  eqb,
  List,
  length,
  get_or,
  take,
  drop,
  sym,
  refl,
  ap,
  ◌∙◌,
  ap₂,
  arith,
  pow_pos,
  eq-eqb,
  eqb-true,
}
use mathlib.Core.Bool.{and-true, or-true, or-false}
use lib.ListN.{get_or-eq_default}
use Rattle.answer.proofs.Cases.{cases, either, lt?}
use Rattle.choice.specs.Words.{free_in, born_free, word_of, words_agree}
use Rattle.choice.proofs.Agree.{Agrees, agrees_iff}
use Rattle.geometry.specs.declared.Geometry.{Geometry}
use Rattle.geometry.specs.Limits.{blocks}
use Rattle.model.specs.Table.{all}
use Rattle.model.specs.Lists.{In, elem}
use Rattle.model.specs.State.{State, QueueFits, WaitingFits}
use Rattle.model.specs.Held.{waits, available}
use Rattle.model.specs.Layout.{free_cell, queue_cell, wait_cell, free_word, numbers, view_of, queue_of, state_of}
use Rattle.model.specs.Memory.{waiting?, free?}
use Rattle.model.proofs.Reflect.{Says, ◌&◌}
use Rattle.model.proofs.SoundTest.{says_waiting}
use Rattle.model.proofs.Waiting.{in_elem, elem_in, not_in_elem, elem_not_in, once_short, waits_unavailable, queued_unavailable}
use Rattle.tables.specs.Ready.{Roomy}
use Rattle.tables.proofs.Fields
use Rattle.tables.proofs.Freeing.{waiting_length}
use Rattle.soundness.specs.Waiting.{joined, joins?}
use Rattle.soundness.proofs.Cells.{part_at, part_long}
use Rattle.soundness.proofs.Joining.{Joins, one_test, joined_long, joined_bit, joined_fits, or_none, says_joins}
use Rattle.std.proofs.lemmas.Bool.{and_left, and_right}
use Rattle.soundness.proofs.Loops.{all_none, all_next}

-- words that are w, compared with those of a test
words_are : (words : List ℕ) (w : ℕ → ℕ) (p : ℕ → Bool) (n m : ℕ) → ((k : ℕ) → k < m → get_or words k 0 ≡ w k) →
    words_agree words p n m ≡ all m (λ k. eqb (w k) (word_of p (32 * k) (min 32 (n - 32 * k))))
unfolding words_agree
words_are words w p n zero h = sym (all_none _)
words_are words w p n (suc m) h =
    ap₂ ◌&&◌ (words_are words w p n m (λ k l. h k (omega arith))) (ap (λ (x : ℕ). eqb x (word_of p (32 * m) (min 32 (n - 32 * m)))) (h m (omega arith))) ∙
    sym (all_next m (λ k. eqb (w k) (word_of p (32 * k) (min 32 (n - 32 * k)))))

-- ── the words with the blocks that wait and the queue's are those without a birth ──

says_agree : (words : List ℕ) (p : ℕ → Bool) (n : ℕ) → ((k : ℕ) → get_or words k 0 < 2 ^ 32) → Says (words_agree words p n 64) (Agrees words p n 64)
says_agree words p n fits = let i = agrees_iff words p n fits 64 in record { holds = i.0; passes = i.1 }

-- 64 words, and a test p that a block has no birth; the queue fits
module _ (T : State) (words : List ℕ) (p : ℕ → Bool) (size : length words ≡ 64) (few : T.view.blocks ≤ 2048) (fits : (k : ℕ) → get_or words k 0 < 2 ^ 32)
    (born : (b : ℕ) → b < T.view.blocks → p b ≡ eqb (T.view.birth b) 0) (Q : QueueFits T) where
  abbrev N : ℕ
  N = T.view.blocks

  -- the blocks that wait, and the words with them; those that are queued
  abbrev l : List ℕ
  l = T.waiting

  abbrev more : List ℕ
  more = joined words l

  abbrev q : List ℕ
  q = T.queue.list

  abbrev Joined : Type 0
  Joined = Joins N words l × (Joins N more q × Agrees (joined more q) p N 64)

  abbrev Apart : Type 0
  Apart = WaitingFits T × Agrees words (available T) N 64

  waits_bit : ((b : ℕ) → In b l → b < N) → (c : ℕ) → free_in more c ≡ (free_in words c || elem c l)
  waits_bit h c = joined_bit l words (λ b i. omega (arith, h b i)) c

  its_bit : ((b : ℕ) → In b l → b < N) → (c : ℕ) → free_in (joined more q) c ≡ ((free_in words c || elem c l) || elem c q)
  its_bit h c =
      joined_bit q more (λ b i. omega (arith, Q.below b i, joined_long l words)) c ∙ ap (λ (x : Bool). x || elem c q) (waits_bit h c)

  -- a block that neither waits nor is queued may be given just where it has no birth
  plainly : (b : ℕ) → elem b l ≡ false → elem b q ≡ false → available T b ≡ eqb (T.view.birth b) 0
  unfolding available waits
  plainly b n m =
      let z : T.queue.birth b ≡ 0 = cases (lt? 0 (T.queue.birth b)) (λ k. absurd (elem_not_in b q m ((Q.births b).1 k))) (λ k. omega arith) in
      rw (n, eq-eqb (T.queue.birth b) 0 z) (and-true (eqb (T.view.birth b) 0))

  apart : Joined → Apart
  apart w =
      let J = w.0 in
      let M = w.1.0 in
      let A = w.1.1 in
      let at : (b : ℕ) → b < N → ((free_in words b || elem b l) || elem b q) ≡ eqb (T.view.birth b) 0 =
      λ b h. sym (its_bit J.below b) ∙ A.blocks b (omega arith) h ∙ born b h in
      let off : (b : ℕ) → In b q → (free_in words b ≡ false) × (elem b l ≡ false) =
      λ b i. or_none (free_in words b) (elem b l) (sym (waits_bit J.below b) ∙ M.apart b i) in (
        record {
          below = J.below;
          unborn = λ b i. eqb-true (T.view.birth b) 0 (sym (at b (J.below b i)) ∙ rw (in_elem b l i, or-true (free_in words b)));
          unqueued = λ b i. cases (lt? 0 (T.queue.birth b))
              (λ k. absurd (elem_not_in b l (off b ((Q.births b).1 k)).1 i))
              (λ k. omega arith);
          once = J.once;
        },
        record {
          blocks = λ b h k. cases (either (elem b l))
              (λ y. J.apart b (elem_in b l y) ∙ sym (waits_unavailable T b (elem_in b l y)))
              (λ n. cases (either (elem b q))
              (λ y. (off b (elem_in b q y)).0 ∙ sym (queued_unavailable T b ((Q.births b).0 (elem_in b q y))))
              (λ m. sym (or-false (free_in words b)) ∙ sym (or-false (free_in words b || false)) ∙ rw (n, m) at (at b k) ∙ sym (plainly b n m)));
          behind = λ b h k.
              (or_none (free_in words b) (elem b l)
              (or_none (free_in words b || elem b l) (elem b q) (sym (its_bit J.below b) ∙ A.behind b h k)).0).0;
        },
      )

  joins : Apart → Joined
  joins w =
      let W = w.0 in
      let A = w.1 in
      let apart-q : (b : ℕ) → In b q → elem b l ≡ false =
      λ b i. not_in_elem b l (λ j. let z : ⊥ = omega (arith, W.unqueued b j, (Q.births b).0 i) in z) in (
        record {
          below = W.below;
          apart = λ b i. A.blocks b (omega (arith, W.below b i)) (W.below b i) ∙ waits_unavailable T b i;
          once = W.once;
        },
        (
          record {
            below = Q.below;
            apart = λ b i.
                waits_bit W.below b ∙
                rw (apart-q b i, A.blocks b (omega (arith, Q.below b i)) (Q.below b i), queued_unavailable T b ((Q.births b).0 i));
            once = Q.once;
          },
          record {
            blocks = λ b h k. its_bit W.below b ∙ cases (either (elem b l))
                (λ y. rw (y, or-true (free_in words b)) (sym (born b k ∙ eq-eqb (T.view.birth b) 0 (W.unborn b (elem_in b l y)))))
                (λ n. cases (either (elem b q))
                (λ y. rw y (or-true (free_in words b || elem b l)) ∙ sym (born b k ∙ eq-eqb (T.view.birth b) 0 (Q.unborn b (elem_in b q y))))
                (λ m. rw (n, m) (or-false (free_in words b || false) ∙ or-false (free_in words b)) ∙ A.blocks b h k ∙ plainly b n m ∙ sym (born b k)));
            behind = λ b h k. its_bit W.below b ∙ rw (
              A.behind b h k,
              not_in_elem b l (λ i. absurd (let z : ⊥ = omega (arith, W.below b i) in z)),
              not_in_elem b q (λ i. absurd (let z : ⊥ = omega (arith, Q.below b i) in z)),
            );
          },
        ),
      )

  pub waiting_is : joins? N words l && (joins? N more q && words_agree (joined more q) p N 64) ≡ waiting? T && words_agree words (available T) N 64
  waiting_is =
      one_test
      (says_joins N l words (omega arith) & (says_joins N q more (omega (arith, joined_long l words)) &
      says_agree (joined more q) p N (joined_fits q more (joined_fits l words fits))))
      (says_waiting T & says_agree words (available T) N fits) apart joins

-- ── of the tables ──

-- a copy of the free words has numbers of 32 bits
pub copy_fits : (t : List ℕ) {words : List ℕ} → 128 ≤ length t → words ≡ take 64 (drop 64 t) → ((k : ℕ) → get_or t k 0 < 2 ^ 32) →
    (k : ℕ) → get_or words k 0 < 2 ^ 32
copy_fits t {words} room copied fits k =
    cases (lt? k 64)
    (λ h. rw (copied, part_at t 64 64 k h) (fits (64 + k)))
    (λ h. rw (get_or-eq_default words 0 {n = k} (omega (arith, ap length copied ∙ part_long t 64 64 room))) (pow_pos 32))

module _ (g : Geometry) (t : List ℕ) (roomy : Roomy g t) where
  abbrev start : ℕ
  start = 2048 + 512 * g.records

  abbrev free_words : List ℕ
  free_words = take 64 (drop 64 t)

  abbrev births : List ℕ
  births = take (length t - start) (drop start t)

  -- what `words_fit` answers
  abbrev Fit : Bool
  Fit = waiting? (state_of g t) && free? (state_of g t) t

  pub copy_long : {words : List ℕ} → words ≡ take 64 (drop 64 t) → length words ≡ 64
  copy_long e = ap length e ∙ part_long t 64 64 (omega (arith, roomy.room))

  pub births_long : (blocks g ≤ 2048) × (blocks g ≤ length births)
  births_long = let room = roomy.room in (omega (arith, roomy.inside.blocks_most), omega (arith, part_long t start (length t - start) (omega arith)))

  free_is : words_agree free_words (available (state_of g t)) (blocks g) 64 ≡ free? (state_of g t) t
  unfolding free? free_word state_of view_of
  free_is = words_are free_words (λ k. get_or t (free_cell k) 0) (available (state_of g t)) (blocks g) 64 (λ k h. part_at t 64 64 k h)

  born : (b : ℕ) → b < blocks g → born_free births b ≡ eqb ((view_of g t).birth b) 0
  unfolding born_free
  born b h = ap (λ (v : ℕ). eqb v 0) (part_at t start (length t - start) b (omega (arith, roomy.room)) ∙ sym (Fields.birth_is g t b h))

  -- more entries than blocks: one is none, or stands twice
  pub fit_many : {n : ℕ} → n ≡ get_or t 11 0 → blocks g < n → false ≡ Fit
  unfolding state_of view_of
  fit_many en h =
      cases (either (waiting? (state_of g t)))
      (λ y.
      let w = (says_waiting (state_of g t)).holds y in
      absurd (let z : ⊥ = omega (arith, en, once_short (state_of g t).waiting (blocks g) w.once w.below, waiting_length g t) in z))
      (λ y. rw y)

  module _ (Q : QueueFits (state_of g t)) {words : List ℕ} (copied : words ≡ take 64 (drop 64 t)) (fits : (k : ℕ) → get_or words k 0 < 2 ^ 32) where
    -- the words with the blocks that wait, and with the queue's too
    abbrev waiting_words : List ℕ
    waiting_words = joined free_words (state_of g t).waiting

    abbrev all_words_lem : List ℕ
    all_words_lem = joined waiting_words (state_of g t).queue.list

    fit_of : joins? (blocks g) free_words (state_of g t).waiting &&
        (joins? (blocks g) waiting_words (state_of g t).queue.list && words_agree all_words_lem (born_free births) (blocks g) 64) ≡ Fit
    unfolding state_of view_of
    fit_of =
        waiting_is (state_of g t) free_words (born_free births) (copy_long refl) births_long.0 (rw copied at fits) born Q ∙
        ap (λ (x : Bool). waiting? (state_of g t) && x) free_is

    module _ {n : ℕ} (en : n ≡ get_or t 11 0) where
      module _ {after : List ℕ} {set : Bool} {from : ℕ} (ef : from ≡ wait_cell g.records (blocks g) 0)
          (is : (set ≡ joins? (blocks g) words (numbers t from n)) × (set ≡ true → after ≡ joined words (numbers t from n))) where
        tested : set ≡ joins? (blocks g) free_words (state_of g t).waiting
        unfolding state_of
        tested = rw (en, ef, copied) at is.0

        pub fit_fails : set ≡ false → false ≡ Fit
        fit_fails z = sym (and_left _ _ (sym tested ∙ z)) ∙ fit_of

        module _ (z : set ≡ true) where
          left : after ≡ waiting_words
          unfolding state_of
          left = rw (en, ef, copied) at (is.1 z)

          module _ {end : List ℕ} {also : Bool} {at m : ℕ} (em : m ≡ get_or t 10 0) (ea : at ≡ queue_cell g.records (blocks g) 0)
              (does : (also ≡ joins? (blocks g) after (numbers t at m)) × (also ≡ true → end ≡ joined after (numbers t at m))) where
            also_tested : also ≡ joins? (blocks g) waiting_words (state_of g t).queue.list
            unfolding state_of queue_of
            also_tested = rw (em, ea, left) at does.0

            also_left : also ≡ true → end ≡ all_words_lem
            unfolding state_of queue_of
            also_left y = rw (em, ea, left) at (does.1 y)

            pub fit_stops : also ≡ false → false ≡ Fit
            fit_stops y = sym (and_right (joins? (blocks g) free_words (state_of g t).waiting) _ (and_left _ _ (sym also_tested ∙ y))) ∙ fit_of

            pub fit_is : also ≡ true → {r : Bool} → r ≡ words_agree end (born_free births) (blocks g) 64 → r ≡ Fit
            fit_is y e = rw (also_left y) at e ∙ sym (rw (sym tested ∙ z, sym also_tested ∙ y)) ∙ fit_of
