-- A walk: what is left of it, number by number, and what the whole of it says.
use Rattle.std.proofs.Common.{
  ◌≡◌,
  ℕ,
  zero,
  suc,
  ◌+◌,
  ◌-◌,
  ◌<◌,
  ◌≤◌,
  Bool,
  true,
  false,
  ◌&&◌,
  List,
  [],
  ◌∷◌,
  ◌++◌,
  length,
  sym,
  refl,
  ap,
  ◌∙◌,
  add-one,
  arith,
  length-append,
  ne_eqb,
  eqb-true,
}
use mathlib.Core.Bool.{false≢true}
use borrow.Author.Tests.{eqb-false}
use Rattle.model.specs.Table.{all, via, first_link, put}
use Rattle.model.specs.Lists.{rows, on_page}
use Rattle.model.specs.View.{View, parent, page_of}
use Rattle.model.specs.Check.{marks_of, once?, like?, fits?, page?, own_at, gone_at}
use Rattle.model.specs.Stamps.{stamped}
use Rattle.model.proofs.Marking.{marks_append, once_snoc, gone_like}
use Rattle.soundness.specs.Pages.{seen, younger, left_at, walk, Rest, rest_from, rest_of}

-- a test that fails early fails
early : (a b c : Bool) → (a && b) ≡ false → (a && (b && c)) ≡ false
early true true c e = absurd (false≢true (sym e))
early true false c e = refl
early false b c e = refl

pub both_true : (a b : Bool) → (a && b) ≡ true → (a ≡ true) × (b ≡ true)
both_true true b e = (refl, e)
both_true false b e = absurd (false≢true e)

-- ── a walk of any kind ──

module _ (p : ℕ → Bool) (f : ℕ → List ℕ) where
  walk_snoc : (m : ℕ → ℕ) (i n : ℕ) → walk p f m i (suc n) ≡ (walk p f m i n && (p (i + n) && once? (marks_of m (rows f i n)) (f (i + n))))
  unfolding walk rows marks_of
  walk_snoc m i zero = let e : i + 0 ≡ i = omega arith in rw e (last (p i) (once? m (f i)))
    where
      last : (a b : Bool) → (a && (b && true)) ≡ (true && (a && b))
      last true true = refl
      last true false = refl
      last false b = refl
  walk_snoc m i (suc n) =
      let e : i + suc n ≡ suc i + n = omega arith in
      rw (e, walk_snoc (marks_of m (f i)) (suc i) n, marks_append m (f i) (rows f (suc i) n))
      (assoc (p i) (once? m (f i)) (walk p f (marks_of m (f i)) (suc i) n) _)
    where
      assoc : (a b c d : Bool) → (a && (b && (c && d))) ≡ ((a && (b && c)) && d)
      assoc true true c d = refl
      assoc true false c d = refl
      assoc false b c d = refl

  -- the whole of it
  pub walk_all : (m : ℕ → ℕ) (n : ℕ) → walk p f m 0 n ≡ (all n p && once? m (rows f 0 n))
  unfolding walk all rows once?
  walk_all m zero = refl
  walk_all m (suc n) =
      let e : 0 + n ≡ n = omega arith in
      walk_snoc m 0 n ∙ rw (e, walk_all m n, once_snoc f m 0 n, e) (mix (all n p) (once? m (rows f 0 n)) (p n) (once? (marks_of m (rows f 0 n)) (f n)))
    where
      mix : (a b c d : Bool) → ((a && b) && (c && d)) ≡ (elim c [ true ↦ a | false ↦ false ] && (b && d))
      mix true true true d = refl
      mix true false true d = refl
      mix false b true d = refl
      mix true true false d = refl
      mix true false false d = refl
      mix false b false d = refl

  -- one number more
  pub walk_next : (m : ℕ → ℕ) (i n : ℕ) → (p i && once? m (f i)) ≡ true → walk p f (marks_of m (f i)) (suc i) n ≡ walk p f m i (suc n)
  unfolding walk
  walk_next m i n e = go (p i) (once? m (f i)) (walk p f (marks_of m (f i)) (suc i) n) e
    where
      go : (a b c : Bool) → (a && b) ≡ true → c ≡ (a && (b && c))
      go true true c e = refl
      go true false c e = absurd (false≢true e)
      go false b c e = absurd (false≢true e)

  pub walk_stops : (m : ℕ → ℕ) (i n : ℕ) → (p i && once? m (f i)) ≡ false → walk p f m i (suc n) ≡ false
  unfolding walk
  walk_stops m i n e = early (p i) (once? m (f i)) (walk p f (marks_of m (f i)) (suc i) n) e

  pub walk_none : (m : ℕ → ℕ) (i : ℕ) → walk p f m i 0 ≡ true
  unfolding walk
  walk_none m i = refl

-- ── a page that is as the pred's ──

module _ (K : View) (s x : ℕ) where
  page_like : like? K s x ≡ true → page? K s x ≡ true
  unfolding page?
  page_like e = rw e

  own_like : like? K s x ≡ true → own_at K s x ≡ []
  unfolding own_at
  own_like e = rw e

  before_like : (p q : ℕ) → K.page s x ≡ page_of K (first_link p q) x → gone_at K s x (page_of K p x) ≡ []
  unfolding via first_link gone_at
  before_like zero q e = refl
  before_like (suc p) q e = gone_like K s x (K.page p x) e

  left_like : like? K s x ≡ true → left_at K s x ≡ []
  unfolding like?
  left_like e = before_like (K.prev s) (K.base s) (eqb-true (K.page s x) (page_of K (parent K s) x) e)

-- ── a page that is not ──

module _ (K : View) (s x : ℕ) (d : like? K s x ≡ false) where
  page_apart : page? K s x ≡ fits? K s (K.page s x)
  unfolding page?
  page_apart = rw d

  own_apart : own_at K s x ≡ on_page (K.page s x)
  unfolding own_at
  own_apart = rw d

  gone_young : (l : ℕ) → (K.page s x ≡ l → ⊥) → gone_at K s x l ≡ younger K s l
  unfolding gone_at younger
  gone_young zero n = refl
  gone_young (suc b) n = rw (ne_eqb (K.page s x) (suc b) n)

  apart : K.page s x ≡ page_of K (parent K s) x → ⊥
  unfolding like?
  apart = eqb-false (K.page s x) (page_of K (parent K s) x) d

  before_apart : (p q : ℕ) → (p ≡ 0 → ⊥) → (K.page s x ≡ page_of K (first_link p q) x → ⊥) → gone_at K s x (page_of K p x) ≡ younger K s
      (page_of K (first_link p q) x)
  unfolding via first_link
  before_apart zero q m n = absurd (m refl)
  before_apart (suc p) q m n = gone_young (K.page p x) n

  pub left_apart : (K.prev s ≡ 0 → ⊥) → left_at K s x ≡ younger K s (page_of K (parent K s) x)
  left_apart m = before_apart (K.prev s) (K.base s) m apart

none_before : (K : View) (s x p : ℕ) → p ≡ 0 → gone_at K s x (page_of K p x) ≡ []
unfolding via gone_at
none_before K s x p e = rw e

pub left_first : (K : View) (s x : ℕ) → K.prev s ≡ 0 → left_at K s x ≡ []
left_first K s x e = none_before K s x (K.prev s) e

-- ── what is left of the walk over a record's pages ──

stamped_append : (v : ℕ) (f : ℕ → ℕ) (l m : List ℕ) → stamped v f (l ++ m) ≡ stamped v (stamped v f l) m
unfolding stamped
stamped_append v f [] m = refl
stamped_append v f (b ∷ l) m = stamped_append v (put f b v) l m

rest_is : {a b : Bool} {f g h i : ℕ → ℕ} {m n : ℕ} → a ≡ b → f ≡ g → h ≡ i → m ≡ n →
    ◌≡◌ {A = Rest} (record { fits = a; own = f; gone = h; count = m }) (record { fits = b; own = g; gone = i; count = n })
rest_is d e j k = rw (d, e, j, k)

module _ (K : View) (s : ℕ) where
  rest_one : (f h : ℕ → ℕ) (n x m : ℕ) → page? K s x ≡ true → once? f (own_at K s x) ≡ true →
      rest_from K s (marks_of f (own_at K s x)) (stamped (suc s) h (left_at K s x)) (n + length (left_at K s x)) (suc x) m ≡ rest_from K s f h n x (suc m)
  unfolding rest_from walk rows
  rest_one f h n x m a b =
      sym (rest_is (rw (a, b)) (marks_append f (own_at K s x) (rows (own_at K s) (suc x) m))
      (stamped_append (suc s) h (left_at K s x) (rows (left_at K s) (suc x) m))
      (sums n (left_at K s x) (rows (left_at K s) (suc x) m)))
    where
      sums : (n : ℕ) (l m : List ℕ) → n + length (l ++ m) ≡ n + length l + length m
      sums n l m = rw (length-append l m) (omega arith)

  rest_like : (f h : ℕ → ℕ) (n x m : ℕ) → like? K s x ≡ true → rest_from K s f h n (suc x) m ≡ rest_from K s f h n x (suc m)
  unfolding once? marks_of stamped
  rest_like f h n x m e =
      let z : n + 0 ≡ n = omega arith in
      let a : once? f (own_at K s x) ≡ true = rw (own_like K s x e) in
      let r = rest_one f h n x m (page_like K s x e) a in
      rw (own_like K s x e, left_like K s x e, z) at r

  -- pages that are as the pred's are passed over
  pub rest_skip : (f h : ℕ → ℕ) (n x k : ℕ) → x + k ≤ K.pages → ((j : ℕ) → j < k → like? K s (x + j) ≡ true) →
      rest_from K s f h n (x + k) (K.pages - (x + k)) ≡ rest_from K s f h n x (K.pages - x)
  rest_skip f h n x zero l a = let e : x + 0 ≡ x = omega arith in rw e
  rest_skip f h n x (suc k) l a =
      let e : x + suc k ≡ suc (x + k) = omega arith in
      let d : K.pages - (x + k) ≡ suc (K.pages - suc (x + k)) = omega arith in
      rw e (rest_like f h n (x + k) (K.pages - suc (x + k)) (a k (omega arith)) ∙ ap (rest_from K s f h n (x + k)) (sym d) ∙ rest_skip f h n x k
      (omega arith) (λ j i. a j (omega arith)))

  module _ (own gone : List ℕ) (n x : ℕ) (h : x < K.pages) (d : like? K s x ≡ false) where
    -- one that is not, and does not fit
    pub rest_fails : false ≡ (fits? K s (K.page s x) && once? (seen own) (on_page (K.page s x))) → (rest_of K s own gone n x).fits ≡ false
    unfolding rest_from walk
    rest_fails e =
        let z : K.pages - x ≡ suc (K.pages - suc x) = omega arith in
        rw (z, page_apart K s x d, own_apart K s x d) (early (fits? K s (K.page s x)) (once? (seen own) (on_page (K.page s x))) _ (sym e))

    -- and one that fits
    pub rest_next : (own' gone' : List ℕ) (n' : ℕ) → true ≡ (fits? K s (K.page s x) && once? (seen own) (on_page (K.page s x))) →
        seen own' ≡ marks_of (seen own) (on_page (K.page s x)) → seen gone' ≡ stamped (suc s) (seen gone) (left_at K s x) → n' ≡ n + length (left_at K s x) →
        rest_of K s own' gone' n' (x + 1) ≡ rest_of K s own gone n x
    rest_next own' gone' n' e m g c =
        let z : K.pages - x ≡ suc (K.pages - suc x) = omega arith in
        let t = both_true (fits? K s (K.page s x)) (once? (seen own) (on_page (K.page s x))) (sym e) in
        let p : page? K s x ≡ true = page_apart K s x d ∙ t.0 in
        let o : once? (seen own) (own_at K s x) ≡ true = ap (once? (seen own)) (own_apart K s x d) ∙ t.1 in
        let w : seen own' ≡ marks_of (seen own) (own_at K s x) = m ∙ ap (marks_of (seen own)) (sym (own_apart K s x d)) in
        rw (add-one x, z, w, g, c) (rest_one (seen own) (seen gone) n x (K.pages - suc x) p o)

  -- nothing is left
  pub rest_end : (own gone : List ℕ) (n : ℕ) → rest_of K s own gone n K.pages ≡ record { fits = true; own = seen own; gone = seen gone; count = n }
  unfolding rest_from walk rows marks_of stamped
  rest_end own gone n =
      let z : K.pages - K.pages ≡ 0 = omega arith in
      let e : n + 0 ≡ n = omega arith in
      rw (z, e)
