-- The queue of a stranger's tables: its blocks have got marks, the births in it are counted, and both together are the test of it.
use Rattle.std.proofs.Common.{
  ◌≡◌,
  ℕ,
  zero,
  suc,
  ◌+◌,
  ◌<◌,
  ◌≤◌,
  Bool,
  true,
  false,
  not,
  ◌&&◌,
  ◌||◌,
  eqb,
  List,
  length,
  get_or,
  sym,
  refl,
  ap,
  ◌∙◌,
  ap₂,
  add-one,
  arith,
  eq-eqb,
  ne_eqb,
  eqb-true,
}
use mathlib.Core.Bool.{false≢true}
use mir.Val.{bool_byte}
use borrow.Author.Tests.{not-false}
use Rattle.answer.proofs.Cases.{cases, either, same?, lt?}
use Rattle.geometry.specs.declared.Geometry.{Geometry}
use Rattle.geometry.specs.Limits.{blocks}
use Rattle.alloc_log.specs.Marks.{held_in}
use Rattle.model.specs.Lists.{In, elem}
use Rattle.model.specs.Held.{bit, tally, on_pages, queued, held}
use Rattle.model.specs.State.{State, QueueFits}
use Rattle.model.specs.Layout.{queue_cell, queue_birth_cell, numbers, view_of, queue_of, state_of}
use Rattle.model.specs.Memory.{queue?}
use Rattle.model.proofs.Reflect.{Says, says_eq, ◌&◌}
use Rattle.model.proofs.SoundTest.{says_queue}
use Rattle.model.proofs.Tally.{length_is, tally_le}
use Rattle.model.proofs.Waiting.{in_elem, elem_in, not_in_elem, once_short}
use Rattle.tables.proofs.Fields
use Rattle.soundness.specs.Queue.{marking, marks?}
use Rattle.soundness.proofs.Joining.{one_test}
use Rattle.soundness.proofs.Marking.{Marks, marking_bit, says_marks}
use Rattle.std.proofs.lemmas.Bool.{and_left}

-- ── counting ──

-- fewer pass a test that asks more
bit_most : (x y : Bool) → (x ≡ true → y ≡ true) → bit x ≤ bit y
bit_most true y h = omega (arith, ap bit (h refl))
bit_most false y h = omega arith

tally_most : (t u : ℕ → Bool) (k : ℕ) → ((b : ℕ) → b < k → t b ≡ true → u b ≡ true) → tally t k ≤ tally u k
unfolding tally
tally_most t u zero h = omega arith
tally_most t u (suc k) h = omega (arith, bit_most (t k) (u k) (h k (omega arith)), tally_most t u k (λ b l. h b (omega arith)))

bit_all : (x y : Bool) → bit x ≡ bit y → y ≡ true → x ≡ true
bit_all true y e h = refl
bit_all false y e h = absurd (let z : ⊥ = omega (arith, ap bit h) in z)

-- and where as many pass it, the same do
tally_all : (t u : ℕ → Bool) (k : ℕ) → ((b : ℕ) → b < k → t b ≡ true → u b ≡ true) → tally t k ≡ tally u k →
    (b : ℕ) → b < k → u b ≡ true → t b ≡ true
unfolding tally
tally_all t u zero h e b l y = absurd (let z : ⊥ = omega arith in z)
tally_all t u (suc k) h e b l y =
    let p = bit_most (t k) (u k) (h k (omega arith)) in
    let q = tally_most t u k (λ c m. h c (omega arith)) in
    cases (same? b k)
    (λ d. rw d (bit_all (t k) (u k) (omega arith) (rw d at y)))
    (λ d. tally_all t u k (λ c m. h c (omega arith)) (omega arith) b (omega arith) y)

-- the blocks before b that have a birth in the queue, as the code counts them
module _ (g : Geometry) (t : List ℕ) where
  pub counted_none : 0 ≡ tally (queued (state_of g t)) 0
  unfolding tally
  counted_none = refl

  byte_bit : (x : Bool) → bool_byte x ≡ bit x
  byte_bit true = refl
  byte_bit false = refl

  module _ {from count b x : ℕ} (h : b < blocks g) (ef : from ≡ queue_birth_cell g.records (blocks g) 0) (ex : x ≡ get_or t (from + b) 0)
      (e : count ≡ tally (queued (state_of g t)) b) where
    pub counted_next : count + bool_byte (not (eqb x 0)) ≡ tally (queued (state_of g t)) (b + 1)
    unfolding tally queued
    counted_next =
        let k : (state_of g t).queue.birth b ≡ x = Fields.queue_birth_is g t b h ∙ ap (λ j. get_or t j 0) (omega arith) ∙ sym ex in
        rw (add-one b, k) (omega (arith, e, byte_bit (not (eqb x 0))))

    pub counted_most : count + bool_byte (not (eqb x 0)) ≤ b + 1
    counted_most = omega (arith, counted_next, tally_le (queued (state_of g t)) (b + 1))

-- ── the test of the queue ──

-- marks that tell the blocks on pages
module _ (T : State) (own : List ℕ) (long : T.view.blocks ≤ length own) (zeros : (b : ℕ) → T.view.blocks ≤ b → T.queue.birth b ≡ 0)
    (pages : (b : ℕ) → b < T.view.blocks → held_in own b ≡ on_pages T.view b) where
  abbrev N : ℕ
  N = T.view.blocks

  abbrev l : List ℕ
  l = T.queue.list

  abbrev f : ℕ → ℕ
  f = T.queue.birth

  some_queued : (b : ℕ) → 0 < f b → queued T b ≡ true
  unfolding queued
  some_queued b h = rw (ne_eqb (f b) 0 (λ e. let z : ⊥ = omega arith in z))

  queued_some : (b : ℕ) → queued T b ≡ true → 0 < f b
  unfolding queued
  queued_some b e = cases (lt? 0 (f b)) (λ h. h) (λ h. absurd (false≢true (rw (eq-eqb (f b) 0 (omega arith)) at e)))

  -- what the code looks at: the queue's blocks one by one, and how many blocks have a birth in it
  abbrev Looked : Type 0
  Looked = Marks N f T.view.last own l × (tally (queued T) N ≡ length l)

  -- as many blocks have a birth in the queue as stand in it, and each of these has one: so no other has
  looked_fits : Looked → QueueFits T
  unfolding held_in on_pages
  looked_fits w =
      let M = w.0 in
      let many : length l ≡ tally (λ b. elem b l) N =
      length_is l (λ b. elem b l) N M.once (λ b i. (M.below b i, in_elem b l i)) (λ b h y. elem_in b l y) in
      let back : (b : ℕ) → 0 < f b → In b l =
      λ b h. cases (lt? b N)
      (λ k. elem_in b l (tally_all (λ c. elem c l) (queued T) N (λ c m y. some_queued c (M.born c (elem_in c l y)))
      (sym many ∙ sym w.1) b k (some_queued b h)))
      (λ k. absurd (let z : ⊥ = omega (arith, zeros b k) in z)) in
      record {
        below = M.below;
        once = M.once;
        births = λ b. (M.born b, back b);
        given = λ b. cases (lt? 0 (f b)) (λ h. M.given b (back b h)) (λ h. omega arith);
        unborn = λ b i. eqb-true (T.view.birth b) 0
            (not-false (eqb (T.view.birth b) 0) (sym (pages b (M.below b i)) ∙ rw (eq-eqb (get_or own b 0) 0 (M.unmarked b i))));
      }

  fits_looked : QueueFits T → Looked
  unfolding held_in on_pages
  fits_looked Q = (
    record {
      below = Q.below;
      unmarked = λ b i. eqb-true (get_or own b 0) 0
          (not-false (eqb (get_or own b 0) 0) (pages b (Q.below b i) ∙ rw (eq-eqb (T.view.birth b) 0 (Q.unborn b i))));
      once = Q.once;
      born = λ b i. (Q.births b).0 i;
      given = λ b i. Q.given b;
    },
    sym (length_is l (queued T) N Q.once (λ b i. (Q.below b i, some_queued b ((Q.births b).0 i))) (λ b h y. (Q.births b).1 (queued_some b y))),
  )

  queue_is : marks? N f T.view.last own l && eqb (tally (queued T) N) (length l) ≡ queue? T
  queue_is =
      one_test (says_marks N f T.view.last l own long & says_eq (tally (queued T) N) (length l)) (says_queue T zeros) looked_fits fits_looked

  -- with the marks of the queue they tell the held blocks
  held_is : queue? T ≡ true → (b : ℕ) → b < N → held_in (marking own l) b ≡ held T b
  unfolding held
  held_is e b h =
      let Q = (says_queue T zeros).holds e in
      let in_queue : elem b l ≡ queued T b = cases (either (queued T b))
      (λ y. in_elem b l ((Q.births b).1 (queued_some b y)) ∙ sym y)
      (λ n. not_in_elem b l (λ i. false≢true (sym n ∙ some_queued b ((Q.births b).0 i))) ∙ sym n) in
      marking_bit l own (λ c i. omega (arith, Q.below c i)) b ∙ ap₂ ◌||◌ (pages b h) in_queue

-- ── of the tables ──

pub queue_says : (g : Geometry) (t : List ℕ) → Says (queue? (state_of g t)) (QueueFits (state_of g t))
unfolding state_of view_of
queue_says g t = says_queue (state_of g t) (Fields.queue_birth_out g t)

-- a queue that fits has no more places than there are blocks
pub queue_short : (g : Geometry) (t : List ℕ) → QueueFits (state_of g t) → get_or t 10 0 ≤ blocks g
unfolding state_of view_of
queue_short g t Q = omega (arith, once_short (state_of g t).queue.list (blocks g) Q.once Q.below, Fields.queue_length_lem g t)

module _ (g : Geometry) (t own : List ℕ) (few : blocks g ≤ 2048) (size : length own ≡ 2048)
    (pages : (b : ℕ) → b < blocks g → held_in own b ≡ on_pages (view_of g t) b) {n : ℕ} (en : n ≡ get_or t 10 0) where
  abbrev T : State
  T = state_of g t

  -- what `queue_fits` answers, and leaves
  abbrev Fits : Bool → List ℕ → Type 0
  Fits r marks = (r ≡ queue? T) × (r ≡ true → (b : ℕ) → b < blocks g → held_in marks b ≡ held T b)

  unfit : (marks : List ℕ) → queue? T ≡ false → Fits false marks
  unfit marks e = (sym e, λ z. absurd (false≢true z))

  pub queue_many : (marks : List ℕ) → blocks g < n → Fits false marks
  queue_many marks h =
      unfit marks (cases (either (queue? T)) (λ y. absurd (let z : ⊥ = omega (arith, queue_short g t ((queue_says g t).holds y)) in z)) (λ y. y))

  module _ {marks : List ℕ} {set : Bool}
      (is : (set ≡ marks? (blocks g) T.queue.birth (get_or t 6 0) own (numbers t (queue_cell g.records (blocks g) 0) n)) ×
      (set ≡ true → marks ≡ marking own (numbers t (queue_cell g.records (blocks g) 0) n))) where
    tested : set ≡ marks? (blocks g) T.queue.birth (get_or t 6 0) own T.queue.list
    unfolding state_of queue_of
    tested = rw en at is.0

    whole : set && eqb (tally (queued T) (blocks g)) (get_or t 10 0) ≡ queue? T
    unfolding state_of view_of
    whole = rw (tested, sym (Fields.queue_length_lem g t)) (queue_is T own (omega arith) (Fields.queue_birth_out g t) pages)

    pub queue_unmarked : set ≡ false → Fits set marks
    queue_unmarked z = rw z (unfit marks (sym whole ∙ and_left _ _ z))

    pub queue_counted : set ≡ true → {count : ℕ} → count ≡ tally (queued T) (blocks g) → Fits (eqb count n) marks
    unfolding state_of view_of queue_of
    queue_counted z {count} e =
        let q : eqb count n ≡ queue? T = rw (e, en) (sym (rw z) ∙ whole) in (
          q,
          λ y b h. ap (λ (m : List ℕ). held_in m b) (rw en at (is.1 z)) ∙
              held_is T own (omega arith) (Fields.queue_birth_out g t) pages (sym q ∙ y) b h,
        )
