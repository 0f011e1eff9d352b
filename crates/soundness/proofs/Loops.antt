-- A loop that tests each number below n, in its turns, and tests that are joined.
use Rattle.std.proofs.Common.{
  ◌≡◌,
  ℕ,
  zero,
  suc,
  ◌+◌,
  ◌<◌,
  ◌≤◌,
  Bool,
  true,
  false,
  not,
  ◌&&◌,
  eqb,
  ltb,
  List,
  Option,
  sym,
  refl,
  ap,
  ◌∙◌,
  subst,
  add-one,
  arith,
  eq-eqb,
  ne_eqb,
  le-ltb,
  lt-ltb,
}
use Rattle.std.proofs.iter.Yields.{nat_range_steps}
use Rattle.std.proofs.lemmas.Bool.{and_left}
use Rattle.std.proofs.lemmas.Iterator.{YieldsList-from_range}
use Rattle.std.proofs.lemmas.Iterator.Search.{all_from_yields_List}
use Rattle.std.specs.Fn.{Called}
use Rattle.std.specs.Iterator.{YieldsThen}
use Rattle.std.specs.List.{FoldsTo, list_all, range_with_len}
use Rattle.std.specs.Option.{MatchOption}
use Rattle.std.specs.declared.ops.Range.{Range}
use denote.Param.Members.{Mut}
use mathlib.Core.Bool.{and-true, and-false, false≢true}
use Rattle.answer.proofs.Cases.{cases, either, same?}
use Rattle.model.specs.Table.{all}

pub all_none : (f : ℕ → Bool) → all 0 f ≡ true
unfolding all
all_none f = refl

-- one number more
pub all_next : (i : ℕ) (f : ℕ → Bool) → all (suc i) f ≡ (all i f && f i)
unfolding all
all_next i f = cases (either (f i)) (λ y. rw (y, all) (sym (and-true (all i f)))) (λ z. rw (z, all) (sym (and-false (all i f))))

pub all_fails : (n i : ℕ) (f : ℕ → Bool) → i < n → f i ≡ false → false ≡ all n f
unfolding all
all_fails zero i f l e = absurd (let z : ⊥ = omega arith in z)
all_fails (suc n) i f l e =
    cases (same? i n)
    (λ d. let e' : f n ≡ false = subst (λ (k : ℕ). f k ≡ false) d e in rw (e', all))
    (λ d. cases (either (f n)) (λ y. rw (y, all) (all_fails n i f (omega arith) e)) (λ z. rw (z, all)))

pub all_at : (n i : ℕ) (f : ℕ → Bool) → i < n → all n f ≡ true → f i ≡ true
all_at n i f l e = cases (either (f i)) (λ y. y) (λ z. absurd (false≢true (all_fails n i f l z ∙ e)))

-- ── a loop that joins its tests, and leaves none out ──

pub join_step : (i : ℕ) (f : ℕ → Bool) {a r : Bool} → a ≡ all i f → r ≡ f i → a && r ≡ all (i + 1) f
join_step i f h e = rw (h, e, add-one i) (sym (all_next i f))

pub join_end : (n i : ℕ) (f : ℕ → Bool) {a : Bool} → i ≤ n → n ≤ i → a ≡ all i f → a ≡ all n f
join_end n i f l h e = e ∙ ap (λ (k : ℕ). all k f) (let d : i ≡ n = omega arith in d)

-- ── all of two tests, and tests that agree ──

pub all_both : (n : ℕ) (f h k : ℕ → Bool) → ((i : ℕ) → h i ≡ (f i && k i)) → all n h ≡ (all n f && all n k)
all_both zero f h k e = rw (all_none h, all_none f, all_none k)
all_both (suc n) f h k e =
    rw (all_next n h, all_next n f, all_next n k, all_both n f h k e, e n) (turned (all n f) (all n k) (f n) (k n))
  where
    turned : (a b c d : Bool) → ((a && b) && (c && d)) ≡ ((a && c) && (b && d))
    turned true true c d = refl
    turned true false c d = sym (and-false c)
    turned false b c d = refl

pub all_same : (n : ℕ) (f h : ℕ → Bool) → ((i : ℕ) → i < n → f i ≡ h i) → all n f ≡ all n h
all_same zero f h e = rw (all_none f, all_none h)
all_same (suc n) f h e = rw (all_next n f, all_next n h, all_same n f h (λ i l. e i (omega arith)), e n (omega arith))

-- ── a number that is not 0 ──

pub positive : (x : ℕ) → not (eqb x 0) ≡ ltb 0 x
positive x = cases (same? x 0) (λ e. rw (eq-eqb x 0 e, le-ltb 0 x (omega arith))) (λ d. rw (ne_eqb x 0 d, lt-ltb 0 x (omega arith)))

-- ── two tests ──

-- the second is asked where the first, whose answer is a, is met; v is the answer of both
pub and_met : {p a q v : Bool} → a ≡ p → a ≡ true → v ≡ q → v ≡ (p && q)
and_met h y e = let z = sym h ∙ y in rw z e

pub and_unmet : {p a v : Bool} (q : Bool) → a ≡ p → a ≡ false → v ≡ a → v ≡ (p && q)
and_unmet q h n e = let z = sym h ∙ n in rw z (e ∙ n)

-- two of three
pub and_both_no : (x y z : Bool) → x && y ≡ false → x && (y && z) ≡ false
and_both_no true y z h = and_left y z h
and_both_no false y z h = refl

-- ── a chain over a range, `(0..n).all(..)` ──

-- all, the first of them apart
all_first : (n : ℕ) (f : ℕ → Bool) → all (suc n) f ≡ (f 0 && all n (λ i. f (suc i)))
all_first zero f = rw (all_next 0 f, all_none f, all_none (λ i. f (suc i))) (sym (and-true (f 0)))
all_first (suc n) f =
    rw (all_next (suc n) f, all_first n f, all_next n (λ i. f (suc i))) (turned (f 0) (all n (λ i. f (suc i))) (f (suc n)))
  where
    turned : (a b c : Bool) → ((a && b) && c) ≡ (a && (b && c))
    turned true b c = refl
    turned false b c = refl

listed : (f : ℕ → Bool) (a n : ℕ) → list_all f (range_with_len a n) ≡ all n (λ i. f (a + i))
listed f a zero = rw (all_none (λ i. f (a + i)))
listed f a (suc n) =
    ap (λ (x : Bool). f a && x) (listed f (a + 1) n ∙ all_same n _ _ (λ i h. ap f (let e : a + 1 + i ≡ a + suc i = omega arith in e))) ∙
    ap (λ (k : ℕ). f k && all n (λ i. f (a + suc i))) (let e : a ≡ a + 0 = omega arith in e) ∙ sym (all_first n (λ i. f (a + i)))

pub all_of_range : {F : Type 0} {g : Mut F (ℕ × Unit {0}) Bool} {s : Range ℕ} (n : ℕ) (test : ℕ → Bool) (u : Range ℕ) (f : F) (r : Bool) →
    (xs : List ℕ) × (o : Option ℕ) × (j : F) × YieldsThen nat_range_steps s xs o u × FoldsTo (λ p x q. Called g p (x, tt) true q) f xs j ×
    MatchOption o (r ≡ true) (λ x. (r ≡ false) × ((h : F) × Called g j (x, tt) false h)) →
    s ≡ record { start = 0; end = n } → ((x : ℕ) (b : Bool) (q : F) → Called g f (x, tt) b q → (q ≡ f) × (b ≡ test x)) → r ≡ all n test
all_of_range n test u f r ran e each =
    all_from_yields_List test u f r ran (YieldsList-from_range 0 n n e (omega arith)) each ∙ listed test 0 n ∙
    all_same n _ _ (λ i h. ap test (let z : 0 + i ≡ i = omega arith in z))
