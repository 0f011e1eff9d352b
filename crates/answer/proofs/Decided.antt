-- A refusal is given exactly when its condition is true and none that comes earlier is; an accepted call meets none.
use mathlib.Core.Path.{◌≡◌, refl, sym, ap, ◌∙◌}
use mathlib.Core.Logic.{inl, inr, ◌↔◌}
use mathlib.Core.Bool.{true≢false}
use mathlib.Core.List.{List, [], ◌∷◌}
use Prim.Native.Nat.{ℕ, ◌≤◌}
use native.Mathlib.Omega.{arith}
use Rattle.answer.specs.Reply.{accepted, refused}
use Rattle.answer.specs.Refusal.{Condition, decide, place, Holds, NoneBefore, Ordered, NoneHolds}
use Rattle.answer.proofs.Cases.{cases, either, lt?}

pub accepted_not : {l : List ℕ} {n : ℕ} → accepted l ≡ refused n → ⊥
accepted_not e = let z : ◌≡◌ {A = ℕ} 0 1 = cc in omega arith

pub refused_same : {m n : ℕ} → refused m ≡ refused n → m ≡ n
refused_same e = cc

pub accepted_same : {l m : List ℕ} → accepted l ≡ accepted m → l ≡ m
accepted_same e = cc

-- after the place of n none comes earlier than n
pub above : (m n : ℕ) → place n ≤ m → (cs : List Condition) → Ordered m cs → NoneBefore n cs
above m n h [] r = tt
above m n h (c ∷ cs) r = (λ k. absurd (let z : ⊥ = omega (arith, r.0) in z), above (place c.0) n (omega (arith, r.0)) cs r.1)

-- behind the place of n no condition of number n is true
pub none_in : (m n : ℕ) → place n ≤ m → (cs : List Condition) → Ordered m cs → Holds n cs → ⊥
none_in m n h [] r t = t
none_in m n h (c ∷ cs) r t = cases t (λ w. omega (arith, ap place w.0, r.0)) (λ w. none_in (place c.0) n (omega (arith, r.0)) cs r.1 w)

pub decide_accepted : (cs : List Condition) (l m : List ℕ) → decide cs l ≡ accepted m → NoneHolds cs × (l ≡ m)
decide_accepted [] l m e = (tt, accepted_same e)
decide_accepted (c ∷ cs) l m e =
    cases (either c.1)
    (λ y. absurd (accepted_not (sym (rw y at e))))
    (λ n. let r = decide_accepted cs l m (rw n at e) in ((n, r.0), r.1))

pub decide_accepts : (cs : List Condition) (l : List ℕ) → NoneHolds cs → decide cs l ≡ accepted l
decide_accepts [] l h = refl
decide_accepts (c ∷ cs) l h = rw h.0 (decide_accepts cs l h.1)

pub decide_refused : (cs : List Condition) (l : List ℕ) (m n : ℕ) → Ordered m cs → decide cs l ≡ refused n → Holds n cs × NoneBefore n cs
decide_refused [] l m n r e = absurd (accepted_not e)
decide_refused (c ∷ cs) l m n r e =
    cases (either c.1)
    (λ y.
    let d : c.0 ≡ n = refused_same (rw y at e) in
    (inl (d, y), (λ k. absurd (let z : ⊥ = omega (arith, ap place d) in z), above (place c.0) n (omega (arith, ap place d)) cs r.1)))
    (λ f. let w = decide_refused cs l (place c.0) n r.1 (rw f at e) in (inr w.0, (λ k. f, w.1)))

pub decide_refuses : (cs : List Condition) (l : List ℕ) (m n : ℕ) → Ordered m cs → Holds n cs → NoneBefore n cs → decide cs l ≡ refused n
decide_refuses [] l m n r t b = absurd t
decide_refuses (c ∷ cs) l m n r t b =
    cases (either c.1)
    (λ y. rw y (cases t
    (λ w. ap refused w.0)
    (λ w. cases (lt? (place c.0) (place n))
    (λ k. absurd (true≢false (sym y ∙ b.0 k)))
    (λ k. absurd (none_in (place c.0) n k cs r.1 w)))))
    (λ f. rw f (cases t
    (λ w. absurd (true≢false (sym w.1 ∙ f)))
    (λ w. decide_refuses cs l (place c.0) n r.1 w b.1)))

-- EACH REFUSAL, EXACTLY: it is given when its condition is true and no earlier one is, and only then
pub refused_iff : (cs : List Condition) (l : List ℕ) (m n : ℕ) → Ordered m cs → (decide cs l ≡ refused n) ↔ (Holds n cs × NoneBefore n cs)
refused_iff cs l m n r = (decide_refused cs l m n r, λ w. decide_refuses cs l m n r w.0 w.1)
