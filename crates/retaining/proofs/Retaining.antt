-- The call K: its refusals, and the number that it stores.
use mathlib.Core.Path.{◌≡◌, sym, ap, ◌∙◌}
use mathlib.Core.Bool.{true, false, ◌||◌}
use mathlib.Core.List.{List, []}
use Prim.Native.Nat.{ℕ, pred, ◌-◌, ◌≤◌, ◌<◌}
use native.Mathlib.Omega.{arith}
use lib.Dec.{eqb, ltb}
use lib.ListN.{get_or, set}
use borrow.Author.Tests.{eq-eqb, ne_eqb, lt-ltb, le-ltb}
use Rattle.answer.specs.Reply.{Reply, accepted, refused, reply_of}
use Rattle.answer.specs.Refusal.{leaves}
use Rattle.std.specs.Prelude.{Result, Ok, Err}
use Rattle.answer.specs.declared.Refusal.{Refusal}
use Rattle.answer.specs.declared.Refusal.TheVariants.{NoSuchRecord, WrongState, BadWindow}
use Rattle.answer.specs.Number.{number_of}
use Rattle.answer.proofs.Cases.{cases, same?, lt?}
use Rattle.geometry.specs.declared.Geometry.{Geometry}
use Rattle.model.specs.Actions.{slot_of}
use Rattle.model.specs.State.{State}
use Rattle.model.specs.Calls.{slot, effect}
use Rattle.model.specs.Layout.{open_cell, window_cell, view_of, state_of, stored}
use Rattle.model.specs.Command.{Retain}
use Rattle.tables.specs.Ready.{Ready}
use Rattle.tables.specs.Puts.{with_window_at}
use Rattle.tables.specs.Outcome.{replied, tables_left}
use Rattle.tables.proofs.Steps.{holds_first, step_window}
use Rattle.lines.proofs.Verdicts.{open_at}

module _ {g : Geometry} {t : List ℕ} (R : Ready g t) (r most : ℕ) where
  abbrev T : State
  T = state_of g t

  -- what the call promises: it has no result buffer
  abbrev pub Left : Result ℕ Refusal → List ℕ → Type 0
  Left a u = ((out : List ℕ) → reply_of a out ≡ replied g t (Retain r most)) × (u ≡ tables_left g t (Retain r most))

  refused_left : (k : Refusal) → replied g t (Retain r most) ≡ refused (number_of k) → Left (Err k) t
  unfolding reply_of tables_left
  refused_left k e = (λ out. sym e, sym (ap (λ (p : Reply). leaves p t (stored g (effect g T (Retain r most)) t)) e))

  -- the window is out of its range
  bad : (eqb most 0 || ltb 62 most) ≡ true → Left (Err BadWindow) t
  unfolding replied
  bad y = refused_left BadWindow (rw y)

  none : most ≡ 0 → Left (Err BadWindow) t
  none z = bad (rw (eq-eqb most 0 z))

  large : (most ≡ 0 → ⊥) → 62 < most → Left (Err BadWindow) t
  large some h = bad (rw (ne_eqb most 0 some, lt-ltb 62 most h))

  pub outside : (1 ≤ most → most ≤ 62 → ⊥) → Left (Err BadWindow) t
  outside n =
      cases (same? most 0) none
      (λ some. cases (lt? 62 most) (large some) (λ few. absurd (n (omega arith) few)))

  -- e is the link of the record of number r
  module _ (some : 1 ≤ most) (few : most ≤ 62) (e : ℕ) (is : e ≡ slot_of (view_of g t) r) where
    fits : (eqb most 0 || ltb 62 most) ≡ false
    fits = rw (ne_eqb most 0 (λ z. let f : ⊥ = omega arith in f), le-ltb 62 most few)

    pub no_record_lem : e ≡ 0 → Left (Err NoSuchRecord) t
    unfolding replied state_of
    no_record_lem z = refused_left NoSuchRecord (rw (fits, eq-eqb (slot_of (view_of g t) r) 0 (sym is ∙ z)))

    module _ (m : e ≡ 0 → ⊥) (l : e ≤ g.records) where
      here : eqb (slot_of (view_of g t) r) 0 ≡ false
      here = ne_eqb (slot_of (view_of g t) r) 0 (λ z. m (is ∙ z))

      pub is_sealed_lem : get_or t (open_cell (e - 1)) 0 ≡ 0 → Left (Err WrongState) t
      unfolding replied state_of
      is_sealed_lem z = refused_left WrongState (rw (fits, here, eq-eqb _ 0 (open_at g t r e is m l ∙ z)))

      pub is_open_lem : (get_or t (open_cell (e - 1)) 0 ≡ 0 → ⊥) → Left (Ok 0) (set t (window_cell (e - 1)) most)
      unfolding replied state_of reply_of tables_left with_window_at
      is_open_lem z =
          let a : replied g t (Retain r most) ≡ accepted [] = rw (fits, here, ne_eqb _ 0 (λ k. z (sym (open_at g t r e is m l) ∙ k))) in
          let d : e - 1 ≡ slot T r = (let z : e - 1 ≡ pred (slot_of (view_of g t) r) = omega arith in z) in (
            λ out. sym a,
            (step_window g t R.roomy (holds_first R) (e - 1) most (omega arith)).is ∙
                ap (λ s. stored g (with_window_at T s most) t) d ∙
                sym (ap (λ (p : Reply). leaves p t (stored g (effect g T (Retain r most)) t)) a),
          )
