-- The verdict on a call of a name: what the code's tests say of it, and what it says of the reply.
use mathlib.Core.Path.{◌≡◌, refl, sym, ap, ◌∙◌}
use mathlib.Core.Bool.{Bool, true, false, not, ◌&&◌, true≢false}
use mathlib.Core.List.{List, [], ◌∷◌}
use Prim.Native.Nat.{ℕ, pred, ◌+◌, ◌-◌, ◌<◌}
use native.Mathlib.Omega.{arith}
use lib.Dec.{eqb, ltb}
use lib.ListN.{get_or}
use borrow.Author.Tests.{not-true, not-false, eq-eqb, ne_eqb, lt-ltb, le-ltb}
use Rattle.std.specs.Prelude.{Option, Some, None, is_some, Err}
use Rattle.std.specs.Option.{ok_or}
use Rattle.answer.specs.declared.Refusal.TheVariants.{NoSuchRecord, BadName, NameUnfit}
use Rattle.answer.specs.Reply.{accepted, refused}
use Rattle.answer.specs.Refusal.{Condition, decide, NoneHolds}
use Rattle.answer.proofs.Cases.{cases, either}
use Rattle.answer.proofs.Decided.{accepted_not, decide_accepted}
use Rattle.geometry.specs.declared.Geometry.{Geometry}
use Rattle.model.specs.Actions.{slot_of}
use Rattle.model.specs.Names.{valid_name, row_of, empty_row}
use Rattle.model.specs.Layout.{open_cell, name_cell, titles_of, view_of, notes_of, state_of}
use Rattle.tables.specs.Links.{link_of}
use Rattle.tables.specs.Titles.{row_with}
use Rattle.tables.proofs.Fields
use Rattle.tables.proofs.TitleRows.{row_with_zero}
use Rattle.naming.specs.Verdicts.{verdict_of, attach_verdict, find_verdict}

-- ── a second name on an open record, in slot s ──

module _ (g : Geometry) (t : List ℕ) (s : ℕ) (h : s < g.records) where
  pub second_sealed : get_or t (open_cell s) 0 ≡ 0 → false ≡ (ltb 0 ((view_of g t).is_open s) && ltb 0 ((state_of g t).notes.names s))
  second_sealed e = rw (le-ltb 0 ((view_of g t).is_open s) (omega (arith, Fields.open_is g t s h)))

  pub second_open : (get_or t (open_cell s) 0 ≡ 0 → ⊥) →
      ltb 0 (get_or t (name_cell s) 0) ≡ (ltb 0 ((view_of g t).is_open s) && ltb 0 ((state_of g t).notes.names s))
  second_open n = rw (lt-ltb 0 ((view_of g t).is_open s) (omega (arith, Fields.open_is g t s h)), Fields.names_is g t s h)

-- ── whether there is a row ──

link_some : (row : Option ℕ) → is_some row ≡ true → 0 < link_of row
link_some None e = absurd (true≢false (sym e))
link_some (Some i) e = omega arith

link_none : (row : Option ℕ) → is_some row ≡ false → link_of row ≡ 0
link_none None e = refl
link_none (Some i) e = absurd (true≢false e)

-- ── N: v says that the name is valid ──

module _ (g : Geometry) (t l : List ℕ) (r : ℕ) {v : Bool} (ev : v ≡ valid_name l) where
  pub attach_bad : not v ≡ true → verdict_of (Err BadName) ≡ attach_verdict g t l r
  unfolding attach_verdict verdict_of
  attach_bad n = rw (sym ev ∙ not-true v n)

  -- link leads to record r
  module _ (y : not v ≡ false) (link : ℕ) (el : link ≡ slot_of (view_of g t) r) where
    good : valid_name l ≡ true
    good = sym ev ∙ not-false v y

    pub attach_absent : link ≡ 0 → verdict_of (Err NoSuchRecord) ≡ attach_verdict g t l r
    unfolding attach_verdict verdict_of state_of
    attach_absent z = rw (good, eq-eqb (slot_of (view_of g t) r) 0 (sym el ∙ z))

    -- row is the row of the name
    module _ (there : link ≡ 0 → ⊥) (row : Option ℕ) (er : link_of row ≡ row_of (titles_of t) l) where
      present : eqb (slot_of (view_of g t) r) 0 ≡ false
      present = ne_eqb (slot_of (view_of g t) r) 0 (λ e. there (el ∙ e))

      slot_is : link - 1 ≡ pred (slot_of (view_of g t) r)
      slot_is = omega (arith, el)

      pub attach_used : is_some row ≡ true → verdict_of (Err NameUnfit) ≡ attach_verdict g t l r
      unfolding attach_verdict verdict_of state_of notes_of
      attach_used h = rw (good, present, lt-ltb 0 (row_of (titles_of t) l) (omega (arith, er, link_some row h)))

      -- w says that it is a second name on an open record
      module _ (unused : is_some row ≡ false) {w : Bool}
          (ew : w ≡ (ltb 0 ((view_of g t).is_open (link - 1)) && ltb 0 ((state_of g t).notes.names (link - 1)))) where
        free : ltb 0 (row_of (titles_of t) l) ≡ false
        free = le-ltb 0 (row_of (titles_of t) l) (omega (arith, er, link_none row unused))

        is_w_lem : (ltb 0 ((view_of g t).is_open (pred (slot_of (view_of g t) r))) && ltb 0 ((state_of g t).notes.names (pred (slot_of (view_of g t) r)))) ≡ w
        is_w_lem = ap (λ s. ltb 0 ((view_of g t).is_open s) && ltb 0 ((state_of g t).notes.names s)) (sym slot_is) ∙ sym ew

        pub attach_second : w ≡ true → verdict_of (Err NameUnfit) ≡ attach_verdict g t l r
        unfolding attach_verdict verdict_of state_of notes_of
        attach_second y = rw (good, present, free, is_w_lem ∙ y)

        -- empty is the first empty row
        pub attach_row : w ≡ false → (empty : Option ℕ) → link_of empty ≡ row_with (titles_of t) 0 →
            verdict_of (ok_or empty NameUnfit) ≡ attach_verdict g t l r
        unfolding attach_verdict verdict_of state_of notes_of
        attach_row first None ee =
            let z : empty_row (titles_of t) ≡ 0 = sym (row_with_zero (titles_of t)) ∙ sym ee in
            rw (good, present, free, is_w_lem ∙ first, eq-eqb (empty_row (titles_of t)) 0 z)
        attach_row first (Some i) ee =
            let d : empty_row (titles_of t) ≡ i + 1 = sym (row_with_zero (titles_of t)) ∙ sym ee in
            rw (good, present, free, is_w_lem ∙ first, ne_eqb (empty_row (titles_of t)) 0 (λ e. let z : ⊥ = omega (arith, d, e) in z))
            (ap (λ i. accepted (i ∷ [])) (omega (arith, d)))

-- ── U and M ──

module _ (g : Geometry) (t l : List ℕ) {v : Bool} (ev : v ≡ valid_name l) where
  pub find_bad : not v ≡ true → verdict_of (Err BadName) ≡ find_verdict g t l
  unfolding find_verdict verdict_of
  find_bad n = rw (sym ev ∙ not-true v n)

  pub find_row : not v ≡ false → (row : Option ℕ) → link_of row ≡ row_of (titles_of t) l → verdict_of (ok_or row NameUnfit) ≡ find_verdict g t l
  unfolding find_verdict verdict_of state_of notes_of
  find_row y None er = rw (sym ev ∙ not-false v y, eq-eqb (row_of (titles_of t) l) 0 (sym er))
  find_row y (Some i) er =
      rw (sym ev ∙ not-false v y, ne_eqb (row_of (titles_of t) l) 0 (λ e. let z : ⊥ = omega (arith, er, e) in z))
      (ap (λ i. accepted (i ∷ [])) (omega (arith, er)))

-- ── what a verdict says ──

-- a refusal is the same, whatever an accepted call gives
pub verdict_refuses : (cs : List Condition) (l m : List ℕ) (k : ℕ) → decide cs l ≡ refused k → decide cs m ≡ refused k
verdict_refuses [] l m k e = absurd (accepted_not e)
verdict_refuses (c ∷ cs) l m k e =
    cases (either c.1)
    (λ y. rw y (rw y at e))
    (λ n. rw n (verdict_refuses cs l m k (rw n at e)))

same_row : {i j : ℕ} → ◌≡◌ {A = List ℕ} (i ∷ []) (j ∷ []) → i ≡ j
same_row e = cc

pub verdict_accepts : (cs : List Condition) (i j : ℕ) → decide cs (i ∷ []) ≡ accepted (j ∷ []) → NoneHolds cs × (i ≡ j)
verdict_accepts cs i j e = let w = decide_accepted cs (i ∷ []) (j ∷ []) e in (w.0, same_row w.1)
