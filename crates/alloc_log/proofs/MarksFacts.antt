-- Laws of tables of marks.
use Rattle.std.proofs.Common.{◌≡◌, ℕ, zero, suc, ◌+◌, ◌-◌, ◌<◌, ◌≤◌, Bool, true, false, cond, not, eqb, List, length, get_or, set, replicate, sym, refl, ap, ◌∙◌, true≢false, add-zero, arith, length-set, get_or-set_other, get_or-set_same, ext_get_or, eq-eqb, eqb-true}
use lib.ListN.{length-replicate}
use lib.Seq.{sets, set-get_or, set_out}
use Rattle.answer.proofs.Cases.{cases, either, same?, lt?}
use Rattle.alloc_log.specs.Marks.{all_from, mark_of, Change, mark_run, held_in, marks_for, Table}

pub zeros : (k j : ℕ) → ◌≡◌ {A = ℕ} (get_or (replicate k 0) j 0) 0
zeros zero j = refl
zeros (suc k) zero = refl
zeros (suc k) (suc j) = zeros k j

-- ── a run of marks ──

-- the first of the marks, and then the others
first_then : (x : ℕ) (m : List ℕ) (b n : ℕ) → ((i : ℕ) → i < suc n → get_or m (b + i) 0 ≡ x) → (get_or m b 0 ≡ x) × ((i : ℕ) → i < n → get_or m (suc b + i) 0 ≡ x)
first_then x m b n f =
    let z : b + 0 ≡ b = omega arith in (
      rw z at (f 0 (omega arith)),
      λ i h. let e : b + suc i ≡ suc b + i = omega arith in rw e at (f (suc i) (omega arith)),
    )

pub all_are : (x : ℕ) (m : List ℕ) (b n : ℕ) → ((i : ℕ) → i < n → get_or m (b + i) 0 ≡ x) → all_from x m b n ≡ true
all_are x m b zero f = refl
all_are x m b (suc n) f =
    let w = first_then x m b n f in
    rw (eq-eqb (get_or m b 0) x w.0) (all_are x m (suc b) n w.1)

pub all_say : (x : ℕ) (m : List ℕ) (b n : ℕ) → all_from x m b n ≡ true → (i : ℕ) → i < n → get_or m (b + i) 0 ≡ x
all_say x m b zero e i h = absurd (let z : ⊥ = omega arith in z)
all_say x m b (suc n) e i h =
    cases (either (eqb (get_or m b 0) x))
    (λ y. cases (same? i 0)
    (λ z. let d : b + i ≡ b = omega arith in rw d (eqb-true (get_or m b 0) x y))
    (λ z.
    let d : suc b + (i - 1) ≡ b + i = omega arith in
    rw d at (all_say x m (suc b) n (rw y at e) (i - 1) (omega arith))))
    (λ y. absurd (true≢false (sym (rw y at e))))

-- one mark that is another
pub all_not : (x : ℕ) (m : List ℕ) (b n i : ℕ) → i < n → (get_or m (b + i) 0 ≡ x → ⊥) → all_from x m b n ≡ false
all_not x m b n i h f = cases (either (all_from x m b n)) (λ y. absurd (f (all_say x m b n y i h))) (λ y. y)

-- a change that is made, and one that is not
pub marked : (m : List ℕ) (b n : ℕ) (held : Bool) → ((i : ℕ) → i < n → get_or m (b + i) 0 ≡ mark_of (not held))
    → mark_run m b n held ≡ (true, sets m b (replicate n (mark_of held)))
unfolding mark_run
marked m b n held f = rw (all_are (mark_of (not held)) m b n f)

pub not_marked : (m : List ℕ) (b n i : ℕ) (held : Bool) → i < n → get_or m (b + i) 0 ≡ mark_of held → mark_run m b n held ≡ (false, m)
unfolding mark_run
not_marked m b n i held h e = rw (all_not (mark_of (not held)) m b n i h (λ d. apart held (sym e ∙ d)))
  where
    apart : (t : Bool) → mark_of t ≡ mark_of (not t) → ⊥
    apart true q = omega arith
    apart false q = omega arith

-- ── the table of the held blocks ──

pub length_marks : (held : ℕ → Bool) (n : ℕ) → length (marks_for held n) ≡ 2048
unfolding marks_for
length_marks held zero = length-replicate {A = ℕ} 2048 0
length_marks held (suc n) = length-set (marks_for held n) n (mark_of (held n)) ∙ length_marks held n

pub marks_rest : (held : ℕ → Bool) (n b : ℕ) → n ≤ b → get_or (marks_for held n) b 0 ≡ 0
unfolding marks_for
marks_rest held zero b h = zeros 2048 b
marks_rest held (suc n) b h =
    get_or-set_other (marks_for held n) n b (mark_of (held n)) 0 (λ e. omega arith) ∙ marks_rest held n b (omega arith)

pub marks_held : (held : ℕ → Bool) (n b : ℕ) → n ≤ 2048 → b < n → get_or (marks_for held n) b 0 ≡ mark_of (held b)
unfolding marks_for
marks_held held zero b q h = absurd (let z : ⊥ = omega arith in z)
marks_held held (suc n) b q h =
    cases (same? b n)
    (λ e. rw e (get_or-set_same (marks_for held n) n (mark_of (held n)) 0 (omega (arith, length_marks held n))))
    (λ e. get_or-set_other (marks_for held n) n b (mark_of (held n)) 0 e ∙ marks_held held n b (omega arith) (omega arith))

-- a free block more
pub marks_skip : (held : ℕ → Bool) (n : ℕ) → held n ≡ false → marks_for held n ≡ marks_for held (suc n)
unfolding marks_for
marks_skip held n e =
    sym (set-get_or (marks_for held n) n 0) ∙ ap (λ (x : ℕ). set (marks_for held n) n x) (marks_rest held n n (omega arith) ∙ sym (ap mark_of e))

-- r held blocks more
pub marks_run : (held : ℕ → Bool) (s r : ℕ) → ((i : ℕ) → s ≤ i → i < s + r → held i ≡ true) → sets (marks_for held s) s (replicate r 1) ≡ marks_for held (s + r)
unfolding marks_for
marks_run held s zero f = ap (marks_for held) (sym (add-zero s))
marks_run held s (suc r) f =
    let e : suc s + r ≡ s + suc r = omega arith in
    let y : held s ≡ true = f s (omega arith) (omega arith) in
    ap (λ (x : ℕ). sets (set (marks_for held s) s x) (suc s) (replicate r 1)) (sym (ap mark_of y))
    ∙ marks_run held (suc s) r (λ i u v. f i (omega arith) (omega arith))
    ∙ ap (marks_for held) e

-- ── tables ──

held_mark : (x : ℕ) → x ≤ 1 → x ≡ mark_of (not (eqb x 0))
held_mark zero h = refl
held_mark (suc zero) h = refl
held_mark (suc (suc x)) h = absurd (let z : ⊥ = omega arith in z)

mark_held : (t : Bool) → not (eqb (mark_of t) 0) ≡ t
mark_held true = refl
mark_held false = refl

-- the mark of a block, from whether it is held
pub table_mark : (n : ℕ) (m : List ℕ) → Table n m → (b : ℕ) → get_or m b 0 ≡ mark_of (held_in m b)
unfolding held_in
table_mark n m t b = held_mark (get_or m b 0) (t.mark b)

-- whether a block is held, from its mark
pub held_by_mark : (m : List ℕ) (b : ℕ) (t : Bool) → get_or m b 0 ≡ mark_of t → held_in m b ≡ t
unfolding held_in
held_by_mark m b t e = rw e (mark_held t)

-- a table is told by its held blocks
pub table_is : (n : ℕ) (m : List ℕ) (held : ℕ → Bool) → n ≤ 2048 → Table n m → ((b : ℕ) → b < n → held_in m b ≡ held b) → m ≡ marks_for held n
table_is n m held q t f =
    ext_get_or 0 m (marks_for held n) (t.size ∙ sym (length_marks held n))
    (λ b h. cases (lt? b n)
    (λ l. table_mark n m t b ∙ ap mark_of (f b l) ∙ sym (marks_held held n b q l))
    (λ l. t.rest b l ∙ sym (marks_rest held n b l)))

pub all_free : (n : ℕ) → Table n (replicate 2048 0)
all_free n =
    record {
      size = length-replicate {A = ℕ} 2048 0;
      mark = λ b. rw (zeros 2048 b) (omega arith);
      rest = λ b h. zeros 2048 b;
    }

pub table_set : (n : ℕ) (m : List ℕ) (b x : ℕ) → Table n m → b < n → x ≤ 1 → Table n (set m b x)
table_set n m b x t h k =
    record {
      size = length-set m b x ∙ t.size;
      mark = λ c. cases (same? c b)
          (λ e. cases (lt? b (length m))
          (λ l. rw (e, get_or-set_same m b x 0 l) k)
          (λ l. rw (set_out m b x l) (t.mark c)))
          (λ e. rw (get_or-set_other m b c x 0 e) (t.mark c));
      rest = λ c l. get_or-set_other m b c x 0 (λ e. omega arith) ∙ t.rest c l;
    }

table_sets : (n : ℕ) (m : List ℕ) (b k x : ℕ) → Table n m → b + k ≤ n → x ≤ 1 → Table n (sets m b (replicate k x))
table_sets n m b zero x t h u = t
table_sets n m b (suc k) x t h u = table_sets n (set m b x) (suc b) k x (table_set n m b x t (omega arith) u) (omega arith) u

pub table_run : (n : ℕ) (m : List ℕ) (b k : ℕ) (held : Bool) → Table n m → b + k ≤ n → Table n (mark_run m b k held).1
unfolding mark_run
table_run n m b k held t h = go (all_from (mark_of (not held)) m b k)
  where
    small : (v : Bool) → mark_of v ≤ 1
    small true = omega arith
    small false = omega arith

    go : (v : Bool) → Table n (cond {A = Change} v (true, sets m b (replicate k (mark_of held))) (false, m)).1
    go true = table_sets n m b k (mark_of held) t h (small held)
    go false = t
