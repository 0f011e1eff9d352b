-- The verdict as its code looks for it, and what it says of the reply.
use mathlib.Core.Path.{◌≡◌, sym, ap, ◌∙◌}
use mathlib.Core.Bool.{Bool, true, false}
use mathlib.Core.List.{List, [], ◌∷◌}
use Prim.Native.Nat.{ℕ, pred, ◌+◌, ◌-◌, ◌≤◌, ◌<◌}
use native.Mathlib.Omega.{arith}
use lib.Dec.{eqb}
use lib.ListN.{get_or}
use borrow.Author.Tests.{eq-eqb, ne_eqb, le-leb, lt-leb, lt-ltb, le-ltb}
use Rattle.std.specs.Prelude.{Option, Some, None, Result, Ok, Err}
use Rattle.answer.specs.Reply.{refused}
use Rattle.answer.specs.Refusal.{Condition, decide, NoneHolds}
use Rattle.answer.proofs.Cases.{cases, either}
use Rattle.geometry.specs.declared.Geometry.{Geometry}
use Rattle.model.specs.Command.{Begin, Fork}
use Rattle.model.specs.Actions.{slot_of, vacant}
use Rattle.model.specs.Calls.{slot, conditions}
use Rattle.model.specs.Layout.{open_cell, view_of, state_of}
use Rattle.tables.specs.Links.{link_of}
use Rattle.tables.proofs.Fields.{last_is, open_is}
use Rattle.lines.specs.Verdicts.{verdict_of, verdict}

-- ── what a verdict says ──

abbrev pub Verdict : Type 0
Verdict = Result (ℕ × ℕ) ℕ

not_both : {k : ℕ} {p : ℕ × ℕ} → ◌≡◌ {A = Verdict} (Err k) (Ok p) → ⊥
not_both e = let z : ◌≡◌ {A = ℕ} 0 1 = cc in omega arith

same_refusal : {k m : ℕ} → ◌≡◌ {A = Verdict} (Err k) (Err m) → k ≡ m
same_refusal e = cc

same_slots : {p q : ℕ × ℕ} → ◌≡◌ {A = Verdict} (Ok p) (Ok q) → p ≡ q
same_slots e = cc

pub refuses : (cs : List Condition) (s f k : ℕ) (l : List ℕ) → verdict_of cs s f ≡ Err k → decide cs l ≡ refused k
unfolding verdict_of
refuses [] s f k l e = absurd (not_both (sym e))
refuses (c ∷ cs) s f k l e =
    cases (either c.1)
    (λ y. rw y (ap refused (same_refusal (rw y at e))))
    (λ n. rw n (refuses cs s f k l (rw n at e)))

pub accepts : (cs : List Condition) (s f a b : ℕ) → verdict_of cs s f ≡ Ok (a, b) → NoneHolds cs × (a ≡ s) × (b ≡ f)
unfolding verdict_of
accepts [] s f a b e = let w = same_slots (sym e) in (tt, ap (λ (p : ℕ × ℕ). p.0) w, ap (λ (p : ℕ × ℕ). p.1) w)
accepts (c ∷ cs) s f a b e =
    cases (either c.1)
    (λ y. absurd (not_both (rw y at e)))
    (λ n. let w = accepts cs s f a b (rw n at e) in ((n, w.0), w.1, w.2))

-- ── 11 and 12, e being the first empty slot ──

module _ (g : Geometry) (t : List ℕ) (s : ℕ) (e : Option ℕ) (is : link_of e ≡ vacant (view_of g t)) where
  pub room_none : e ≡ None → Err 11 ≡ verdict g t Begin s
  unfolding verdict verdict_of state_of
  room_none z = sym (rw (eq-eqb (vacant (view_of g t)) 0 (sym is ∙ ap link_of z)))

  module _ (f : ℕ) (at : e ≡ Some f) where
    link : f + 1 ≡ vacant (view_of g t)
    link = sym (ap link_of at) ∙ is

    some : eqb (vacant (view_of g t)) 0 ≡ false
    some = ne_eqb (vacant (view_of g t)) 0 (λ z. let w : ⊥ = omega (arith, link) in w)

    pub room_last : 999999 ≤ get_or t 6 0 → Err 12 ≡ verdict g t Begin s
    unfolding verdict verdict_of state_of
    room_last h = sym (rw (some, le-leb 999999 (view_of g t).last (omega (arith, last_is g t))))

    pub room_left : get_or t 6 0 < 999999 → Ok (s, f) ≡ verdict g t Begin s
    unfolding verdict verdict_of state_of
    room_left h =
        let d : f ≡ pred (vacant (view_of g t)) = omega (arith, link) in
        rw d (sym (rw (some, lt-leb 999999 (view_of g t).last (omega (arith, last_is g t)))))

-- ── 8 and 9 of a call on a record, e being the link of the record of number n: w says whether 9 holds ──

module _ (g : Geometry) (t : List ℕ) (n e : ℕ) (is : e ≡ slot_of (view_of g t) n) where
  abbrev pub on : Bool → Verdict
  on w = verdict_of ((8, eqb (slot_of (view_of g t) n) 0) ∷ (9, w) ∷ conditions g (state_of g t) Begin)
      (slot (state_of g t) n) (pred (vacant (state_of g t).view))

  pub on_none : (w : Bool) → e ≡ 0 → Err 8 ≡ on w
  unfolding verdict_of
  on_none w z = sym (rw (eq-eqb (slot_of (view_of g t) n) 0 (sym is ∙ z)))

  here : (e ≡ 0 → ⊥) → eqb (slot_of (view_of g t) n) 0 ≡ false
  here m = ne_eqb (slot_of (view_of g t) n) 0 (λ z. m (is ∙ z))

  pub on_wrong : (w : Bool) → (e ≡ 0 → ⊥) → w ≡ true → Err 9 ≡ on w
  unfolding verdict_of
  on_wrong w m y = sym (rw (here m, y))

  pub on_room : (w : Bool) (r : Verdict) → (e ≡ 0 → ⊥) → w ≡ false → r ≡ verdict g t Begin (e - 1) → r ≡ on w
  unfolding verdict verdict_of state_of
  on_room w r m y h =
      let d : e - 1 ≡ pred (slot_of (view_of g t) n) = omega arith in
      sym (rw (here m, y, ← d) (sym h))

  -- whether it is open
  module _ (m : e ≡ 0 → ⊥) (l : e ≤ g.records) where
    pub open_at : (view_of g t).is_open (pred (slot_of (view_of g t) n)) ≡ get_or t (open_cell (e - 1)) 0
    open_at =
        let d : e - 1 ≡ pred (slot_of (view_of g t) n) = omega arith in
        rw (← d) (open_is g t (e - 1) (omega arith))

  pub fork_none : e ≡ 0 → Err 8 ≡ verdict g t (Fork n) (slot (state_of g t) n)
  unfolding verdict state_of
  fork_none z = on_none _ z

  module _ (m : e ≡ 0 → ⊥) (l : e ≤ g.records) where
    pub fork_open : 0 < get_or t (open_cell (e - 1)) 0 → Err 9 ≡ verdict g t (Fork n) (slot (state_of g t) n)
    unfolding verdict state_of
    fork_open z = on_wrong _ m (lt-ltb 0 ((view_of g t).is_open (pred (slot_of (view_of g t) n))) (omega (arith, open_at m l)))

    pub fork_room : (r : Verdict) → get_or t (open_cell (e - 1)) 0 ≤ 0 → r ≡ verdict g t Begin (e - 1) →
        r ≡ verdict g t (Fork n) (slot (state_of g t) n)
    unfolding verdict state_of
    fork_room r z h = on_room _ r m (le-ltb 0 ((view_of g t).is_open (pred (slot_of (view_of g t) n))) (omega (arith, open_at m l))) h
