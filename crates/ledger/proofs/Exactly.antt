-- A refusal, exactly: conditions one behind the other, and of each what it means that it is true, and that it is false.
use mathlib.Core.Path.{◌≡◌, sym, ap}
use mathlib.Core.Logic.{◌↔◌, ◌⊎◌, inl, inr}
use mathlib.Core.Bool.{Bool, true, false, not, ◌&&◌, ◌||◌, or-true, true≢false}
use mathlib.Core.List.{List, ◌∷◌}
use Prim.Native.Nat.{ℕ, ◌≤◌, ◌<◌}
use native.Mathlib.Omega.{arith}
use lib.Dec.{ltb}
use borrow.Author.Tests.{ltb-true, ltb-false, lt-ltb, le-ltb, not-true}
use Rattle.answer.specs.Reply.{Reply, accepted, refused}
use Rattle.answer.specs.Refusal.{Condition, decide, place, Ordered}
use Rattle.answer.proofs.Cases.{cases, either}
use Rattle.answer.proofs.Decided.{accepted_not, refused_same, decide_refused, none_in}
use Rattle.geometry.specs.declared.Geometry.{Geometry}
use Rattle.geometry.specs.Limits.{fits, Inside}
use Rattle.geometry.proofs.Made.{fits_inside, inside_fits}
use Rattle.model.proofs.Reflect.{Says, says_not}

-- the test t is true exactly where P holds, and false exactly where N does
pub record Means (t : Bool) (P N : Type 0) : Type 0 where
  pub says : Says t P
  pub denies : Says (not t) N

pub less : (a b : ℕ) → Means (ltb a b) (a < b) (b ≤ a)
less a b = record {
  says = record { holds = ltb-true a b; passes = lt-ltb a b };
  denies = record { holds = λ e. ltb-false a b (not-true (ltb a b) e); passes = λ h. ap not (le-ltb a b h) };
}

pub negated : {t : Bool} {P : Type 0} → Says t P → Means (not t) (P → ⊥) P
negated {t} s = record { says = says_not s; denies = record { holds = λ e. s.holds (twice t e); passes = λ p. ap (λ b. not (not b)) (s.passes p) } }
  where
    twice : (t : Bool) → not (not t) ≡ true → t ≡ true
    twice true e = e
    twice false e = e

pub either_of : {t u : Bool} {P N Q O : Type 0} → Means t P N → Means u Q O → Means (t || u) (P ⊎ Q) (N × O)
either_of {t} {u} {P} {N} {Q} {O} a b = record {
  says = record {
    holds = λ e. cases (either t) (λ y. inl (a.says.holds y)) (λ n. inr (b.says.holds (rw n at e)));
    passes = λ s. cases s (λ p. rw (a.says.passes p)) (λ q. rw (b.says.passes q) (or-true t));
  };
  denies = record {
    holds = λ e. cases (either t) (λ y. absurd (true≢false (sym (rw y at e)))) (λ n. (a.denies.holds (ap not n), b.denies.holds (rw n at e)));
    passes = λ p. rw (not-true t (a.denies.passes p.0)) (b.denies.passes p.1);
  };
}

-- both; what the second means may go by the first
pub both_of : {t u : Bool} {P N Q O : Type 0} → Means t P N → (P → Means u Q O) → Means (t && u) (P × Q) (P → O)
both_of {t} {u} {P} {N} {Q} {O} a b = record {
  says = record {
    holds = λ e. cases (either t) (λ y. let p = a.says.holds y in (p, (b p).says.holds (rw y at e))) (λ n. absurd (true≢false (sym (rw n at e))));
    passes = λ w. rw (a.says.passes w.0) ((b w.0).says.passes w.1);
  };
  denies = record {
    holds = λ e p. (b p).denies.holds (rw (a.says.passes p) at e);
    passes = λ f. cases (either t) (λ y. let p = a.says.holds y in rw y ((b p).denies.passes (f p))) (λ n. rw n);
  };
}

-- 2: "a geometry outside its limits" (7.1)
pub outside : (g : Geometry) → Means (not (fits g)) (Inside g → ⊥) (Inside g)
outside g = negated (record { holds = fits_inside g; passes = inside_fits g })

-- a number that is another
pub apart : {m n : ℕ} → (m ≡ n → ⊥) → refused m ≡ refused n → ⊥
apart d e = d (refused_same e)

pub not_accepted : {n : ℕ} {l : List ℕ} → refused n ≡ accepted l → ⊥
not_accepted e = accepted_not (sym e)

module _ {t : Bool} {P N : Type 0} (m : Means t P N) (n : ℕ) (cs : List Condition) (l : List ℕ) where
  -- the first condition
  pub here : Ordered (place n) cs → (decide ((n, t) ∷ cs) l ≡ refused n) ↔ P
  here o = (
    λ e. cases (either t) m.says.holds (λ f.
        absurd (none_in (place n) n (omega arith) cs o (decide_refused cs l (place n) n o (rw f at e)).0)),
    λ p. rw (m.says.passes p),
  )

  -- one of those behind it, or none
  pub later : {Q : Type 0} (r : Reply) → (refused n ≡ r → ⊥) → (N → (decide cs l ≡ r) ↔ Q) → (decide ((n, t) ∷ cs) l ≡ r) ↔ (N × Q)
  later {Q} r d w = (
    λ e. cases (either t) (λ y. absurd (d (rw y at e))) (λ f. let k = m.denies.holds (ap not f) in (k, (w k).0 (rw f at e))),
    λ q. rw (not-true t (m.denies.passes q.0)) ((w q.0).1 q.1),
  )
