-- The marks that the queue's blocks get, one after another, in a stranger's tables.
use Rattle.std.proofs.Common.{
  ◌≡◌,
  ℕ,
  suc,
  ◌+◌,
  ◌-◌,
  ◌<◌,
  ◌≤◌,
  Bool,
  true,
  false,
  not,
  ◌&&◌,
  ◌||◌,
  eqb,
  ltb,
  leb,
  List,
  [],
  ◌∷◌,
  length,
  get_or,
  set,
  sym,
  refl,
  ap,
  ◌∙◌,
  inl,
  inr,
  arith,
  length-set,
  get_or-set_other,
  get_or-set_same,
  le-ltb,
  lt-ltb,
  eq-eqb,
  ne_eqb,
}
use mathlib.Core.Bool.{and-false, or-false, or-true, or_assoc, false≢true}
use Rattle.std.proofs.lemmas.Bool.{and_parts}
use Rattle.soundness.proofs.Loops.{and_both_no}
use Rattle.answer.proofs.Cases.{cases, same?}
use Rattle.geometry.specs.declared.Geometry.{Geometry}
use Rattle.geometry.specs.Limits.{blocks}
use Rattle.alloc_log.specs.Marks.{held_in}
use Rattle.model.specs.Lists.{In, Once, elem}
use Rattle.model.specs.Layout.{queue_cell, queue_birth_cell, numbers, state_of}
use Rattle.model.proofs.Reflect.{Says, says_map, says_true, says_eq, says_lt, says_le, ◌&◌}
use Rattle.tables.proofs.Fields
use Rattle.soundness.specs.Queue.{marking, marks?}

-- ── marks ──

-- one block more
mark_bit : (own : List ℕ) (b : ℕ) → b < length own → (c : ℕ) → held_in (set own b 1) c ≡ (held_in own c || eqb c b)
unfolding held_in
mark_bit own b h c =
    cases (same? c b)
    (λ e. rw (e, get_or-set_same own b 1 0 h, eq-eqb b b refl) (sym (or-true (not (eqb (get_or own b 0) 0)))))
    (λ d. rw (get_or-set_other own b c 1 0 d, ne_eqb c b d) (sym (or-false (not (eqb (get_or own c 0) 0)))))

-- all blocks of a list
pub marking_bit : (l own : List ℕ) → ((b : ℕ) → In b l → b < length own) → (c : ℕ) → held_in (marking own l) c ≡ (held_in own c || elem c l)
unfolding marking elem
marking_bit [] own h c = sym (or-false (held_in own c))
marking_bit (b ∷ l) own h c =
    marking_bit l (set own b 1) (λ d i. omega (arith, h d (inr i), length-set own b 1)) c ∙
    ap (λ (x : Bool). x || elem c l) (mark_bit own b (h b (inl refl)) c) ∙ or_assoc (held_in own c) (eqb c b) (elem c l)

-- blocks below n, none twice and none with a mark, each with a birth f from 1 to `last`
pub record Marks (n : ℕ) (f : ℕ → ℕ) (last : ℕ) (own l : List ℕ) : Type 0 where
  pub below : (b : ℕ) → In b l → b < n
  pub unmarked : (b : ℕ) → In b l → get_or own b 0 ≡ 0
  pub once : Once l
  pub born : (b : ℕ) → In b l → 0 < f b
  pub given : (b : ℕ) → In b l → f b ≤ last

pub says_marks : (n : ℕ) (f : ℕ → ℕ) (last : ℕ) (l own : List ℕ) → n ≤ length own → Says (marks? n f last own l) (Marks n f last own l)
unfolding marks?
says_marks n f last [] own h =
    says_true (record { below = λ b i. absurd i; unmarked = λ b i. absurd i; once = tt; born = λ b i. absurd i; given = λ b i. absurd i })
says_marks n f last (b ∷ l) own h =
    says_map
    (λ p.
    let (low, (off, (some, (most, M)))) = p in
    let other : (c : ℕ) → In c l → c ≡ b → ⊥ =
    λ c i e. let z : ⊥ = omega (arith, M.unmarked c i, ap (λ k. get_or (set own b 1) k 0) e, get_or-set_same own b 1 0 (omega arith)) in z in
    record {
      below = λ c i. cases i (λ e. omega arith) (M.below c);
      unmarked = λ c i. cases i (λ e. rw e off) (λ j. sym (get_or-set_other own b c 1 0 (other c j)) ∙ M.unmarked c j);
      once = (λ c i e. other c i (sym e), M.once);
      born = λ c i. cases i (λ e. rw e some) (M.born c);
      given = λ c i. cases i (λ e. rw e most) (M.given c);
    })
    (λ q. (
      q.below b (inl refl),
      (
        q.unmarked b (inl refl),
        (
          q.born b (inl refl),
          (
            q.given b (inl refl),
            record {
              below = λ c i. q.below c (inr i);
              unmarked = λ c i. get_or-set_other own b c 1 0 (λ e. q.once.0 c i (sym e)) ∙ q.unmarked c (inr i);
              once = q.once.1;
              born = λ c i. q.born c (inr i);
              given = λ c i. q.given c (inr i);
            },
          ),
        ),
      ),
    ))
    (says_lt b n & (says_eq (get_or own b 0) 0 & (says_lt 0 (f b) & (says_le (f b) last &
    says_marks n f last l (set own b 1) (omega (arith, length-set own b 1))))))

-- ── the loop over the first n places of the queue ──

module _ (g : Geometry) (t own₀ : List ℕ) (n last : ℕ) where
  abbrev N : ℕ
  N = blocks g

  -- where the queue begins
  abbrev a : ℕ
  a = queue_cell g.records (blocks g) 0

  abbrev f : ℕ → ℕ
  f = (state_of g t).queue.birth

  -- the blocks before the i-th are marked: what is left comes to the same from here as all of it from the start
  pub record Marking (own : List ℕ) (i : ℕ) : Type 0 where
    pub to : i ≤ n
    pub size : length own ≡ 2048
    pub same : marks? N f last own (numbers t (a + i) (n - i)) ≡ marks? N f last own₀ (numbers t a n)
    pub sets : marking own (numbers t (a + i) (n - i)) ≡ marking own₀ (numbers t a n)

  -- what `mark_queued` answers, and leaves
  abbrev Answer : Bool → List ℕ → Type 0
  Answer r own = (r ≡ marks? N f last own₀ (numbers t a n)) × (r ≡ true → own ≡ marking own₀ (numbers t a n))

  module _ {own : List ℕ} {i : ℕ} (W : Marking own i) where
    pub marking_ends : n ≤ i → Answer true own
    unfolding numbers marks? marking
    marking_ends h =
        let d : n - i ≡ 0 = omega (arith, W.to) in
        (rw d at W.same, λ e. rw d at W.sets)

    module _ (h : i < n) {from b : ℕ} (ef : from ≡ a) (eb : b ≡ get_or t (from + i) 0) where
      entry : numbers t (a + i) (n - i) ≡ b ∷ numbers t (a + (i + 1)) (n - (i + 1))
      unfolding numbers
      entry =
          let d : n - i ≡ suc (n - (i + 1)) = omega arith in
          let k : suc (a + i) ≡ a + (i + 1) = omega arith in
          rw (d, eb, ef, ← k)

      fails : marks? N f last own (b ∷ numbers t (a + (i + 1)) (n - (i + 1))) ≡ false → Answer false own
      fails e = (sym e ∙ ap (marks? N f last own) (sym entry) ∙ W.same, λ z. absurd (false≢true z))

      -- an entry that is no block
      pub marking_beyond : N ≤ b → Answer false own
      unfolding marks?
      marking_beyond k = fails (rw (le-ltb b N k))

      -- one that has a mark
      pub marking_twice : (get_or own b 0 ≡ 0 → ⊥) → Answer false own
      unfolding marks?
      marking_twice d = fails (rw (ne_eqb (get_or own b 0) 0 d) (and-false (ltb b N)))

      -- the birth of a block
      birth_at : {at : ℕ} → at ≡ queue_birth_cell g.records (blocks g) 0 → b < N → f b ≡ get_or t (at + b) 0
      birth_at e k = Fields.queue_birth_is g t b k ∙ ap (λ j. get_or t j 0) (omega arith)

      -- v is whether its birth is one from 1 to the last number
      module _ {at : ℕ} (ea : at ≡ queue_birth_cell g.records (blocks g) 0) (k : b < N) (off : get_or own b 0 ≡ 0) {v : Bool}
          (ev : v ≡ (leb 1 (get_or t (at + b) 0) && leb (get_or t (at + b) 0) last)) where
        said : (ltb 0 (f b) && leb (f b) last) ≡ v
        said = rw (birth_at ea k) (sym ev)

        pub marking_unfit : v ≡ false → Answer false own
        unfolding marks?
        marking_unfit e =
            fails (rw (lt-ltb b N k, eq-eqb (get_or own b 0) 0 off) (and_both_no (ltb 0 (f b)) (leb (f b) last) _ (said ∙ e)))

        pub marking_goes : v ≡ true → Marking (set own b 1) (i + 1)
        unfolding marks? marking
        marking_goes e =
            let p : ltb 0 (f b) ≡ true = (and_parts (ltb 0 (f b)) (leb (f b) last) (said ∙ e)).0 in
            let q : leb (f b) last ≡ true = (and_parts (ltb 0 (f b)) (leb (f b) last) (said ∙ e)).1 in
            record {
              to = omega arith;
              size = length-set own b 1 ∙ W.size;
              same = sym (rw (lt-ltb b N k, eq-eqb (get_or own b 0) 0 off, p, q) at (ap (marks? N f last own) entry)) ∙ W.same;
              sets = sym (ap (marking own) entry) ∙ W.sets;
            }
