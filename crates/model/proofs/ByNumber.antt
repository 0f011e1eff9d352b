-- What a call meets, looked up by the refusal's number: a refusal that is put between two others moves none of these facts.
use mathlib.Core.Path.{◌≡◌, refl, sym, ap, ◌∙◌, subst}
use mathlib.Core.Logic.{◌⊎◌, inl, inr, ◌↔◌}
use mathlib.Core.Bool.{Bool, true, false, cond, ◌||◌, true≢false}
use mathlib.Core.List.{List, [], ◌∷◌}
use Prim.Native.Nat.{ℕ, ◌<◌}
use native.Mathlib.Omega.{arith}
use lib.Dec.{eqb}
use borrow.Author.Tests.{eqb-true, eq-eqb}
use Rattle.answer.specs.Reply.{refused}
use Rattle.answer.specs.Refusal.{Condition, decide, place, Holds, NoneBefore, Ordered, NoneHolds}
use Rattle.answer.proofs.Cases.{cases, either, lt?}
use Rattle.answer.proofs.Decided.{above, none_in, decide_refused}

-- a condition that has two cases is not true: neither case is
pub or_false : (p q : Bool) → (p || q) ≡ false → (p ≡ false) × (q ≡ false)
or_false true q e = absurd (true≢false e)
or_false false q e = (refl, e)

-- the test of refusal n among some conditions; false where they have none of that number
abbrev pub test_of : ℕ → List Condition → Bool
test_of n [] = false
test_of n (c ∷ cs) = cond (eqb c.0 n) c.1 (test_of n cs)

-- the conditions after that of number n
abbrev pub beyond : ℕ → List Condition → List Condition
beyond n [] = []
beyond n (c ∷ cs) = cond (eqb c.0 n) cs (beyond n cs)

-- ── where no condition is true ──

pub none_at : (cs : List Condition) → NoneHolds cs → (n : ℕ) → test_of n cs ≡ false
none_at [] h n = refl
none_at (c ∷ cs) h n = by (eqb c.0 n) (none_at cs h.1 n)
  where
    by : (t : Bool) → test_of n cs ≡ false → cond t c.1 (test_of n cs) ≡ false
    by true e = h.0
    by false e = e

pub none_beyond : (cs : List Condition) → NoneHolds cs → (n : ℕ) → NoneHolds (beyond n cs)
none_beyond [] h n = tt
none_beyond (c ∷ cs) h n = by (eqb c.0 n) (none_beyond cs h.1 n)
  where
    by : (t : Bool) → NoneHolds (beyond n cs) → NoneHolds (cond t cs (beyond n cs))
    by true k = h.1
    by false k = k

-- ── where none is true that comes earlier than m ──

pub earlier_at : (cs : List Condition) (m : ℕ) → NoneBefore m cs → (n : ℕ) → place n < place m → test_of n cs ≡ false
earlier_at [] m h n e = refl
earlier_at (c ∷ cs) m h n e = by (eqb c.0 n) refl (earlier_at cs m h.1 n e)
  where
    by : (t : Bool) → eqb c.0 n ≡ t → test_of n cs ≡ false → cond t c.1 (test_of n cs) ≡ false
    by true i d = h.0 (subst (λ k. place k < place m) (sym (eqb-true c.0 n i)) e)
    by false i d = d

pub earlier_beyond : (cs : List Condition) (m : ℕ) → NoneBefore m cs → (n : ℕ) → NoneBefore m (beyond n cs)
earlier_beyond [] m h n = tt
earlier_beyond (c ∷ cs) m h n = by (eqb c.0 n) (earlier_beyond cs m h.1 n)
  where
    by : (t : Bool) → NoneBefore m (beyond n cs) → NoneBefore m (cond t cs (beyond n cs))
    by true k = h.1
    by false k = k

-- ── where the condition of number n is true ──

-- (they stand in their order, so there is one of that number)
pub true_at : (cs : List Condition) (m : ℕ) → Ordered m cs → (n : ℕ) → Holds n cs → test_of n cs ≡ true
true_at [] m o n h = absurd h
true_at (c ∷ cs) m o n h = cases h here (λ l. by (eqb c.0 n) refl l (true_at cs (place c.0) o.1 n l))
  where
    here : (c.0 ≡ n) × (c.1 ≡ true) → cond (eqb c.0 n) c.1 (test_of n cs) ≡ true
    here w = rw (eq-eqb c.0 n w.0) w.1

    by : (t : Bool) → eqb c.0 n ≡ t → Holds n cs → test_of n cs ≡ true → cond t c.1 (test_of n cs) ≡ true
    by true i l e = absurd (none_in (place c.0) n (omega (arith, ap place (eqb-true c.0 n i))) cs o.1 l)
    by false i l e = e

pub at_true : (cs : List Condition) (n : ℕ) → test_of n cs ≡ true → Holds n cs
at_true [] n e = absurd (true≢false (sym e))
at_true (c ∷ cs) n e = by (eqb c.0 n) refl e (at_true cs n)
  where
    by : (t : Bool) → eqb c.0 n ≡ t → cond t c.1 (test_of n cs) ≡ true → (test_of n cs ≡ true → Holds n cs) →
        ((c.0 ≡ n) × (c.1 ≡ true)) ⊎ Holds n cs
    by true i e k = inl (eqb-true c.0 n i, e)
    by false i e k = inr (k e)

-- ── read off the reply ──

earlier_not : (cs : List Condition) (m n : ℕ) → place n < place m → NoneBefore m cs → Holds n cs → ⊥
earlier_not [] m n e h t = t
earlier_not (c ∷ cs) m n e h t =
    cases t (λ w. true≢false (sym w.1 ∙ h.0 (subst (λ k. place k < place m) (sym w.0) e))) (λ w. earlier_not cs m n e h.1 w)

not_earlier : (cs : List Condition) (given : List ℕ) (k : ℕ) → Ordered k cs → (m : ℕ) →
    ((n : ℕ) → place n < place m → decide cs given ≡ refused n → ⊥) → NoneBefore m cs
not_earlier [] given k o m h = tt
not_earlier (c ∷ cs) given k o m h =
    cases (either c.1)
    (λ y.
    let first : place c.0 < place m → ⊥ = λ e. h c.0 e (rw y refl) in
    (λ e. absurd (first e), cases (lt? (place c.0) (place m)) (λ e. absurd (first e)) (λ e. above (place c.0) m e cs o.1)))
    (λ f. (λ e. f, not_earlier cs given (place c.0) o.1 m (λ n e d. h n e (rw f d))))

-- none that comes earlier than m is true exactly where the reply is no refusal that comes earlier than m
pub earlier_iff : (cs : List Condition) (given : List ℕ) (k : ℕ) → Ordered k cs → (m : ℕ) →
    NoneBefore m cs ↔ ((n : ℕ) → place n < place m → decide cs given ≡ refused n → ⊥)
earlier_iff cs given k o m = (λ h n e d. earlier_not cs m n e h (decide_refused cs given k n o d).0, not_earlier cs given k o m)
