-- The refusals of names say their rules (7.1): 16, 17 and 18.
use mathlib.Core.Path.{◌≡◌, refl, sym, ap, ◌∙◌}
use mathlib.Core.Logic.{◌⊎◌, ◌↔◌}
use mathlib.Core.Bool.{Bool, true, false}
use mathlib.Core.List.{List}
use Prim.Native.Nat.{ℕ, suc}
use native.Mathlib.Omega.{arith}
use lib.Dec.{eqb, ltb}
use Rattle.answer.proofs.Cases.{cases, pos}
use Rattle.model.specs.Sound.{Sound}
use Rattle.model.specs.Actions.{slot_of}
use Rattle.model.specs.Names.{row_of, empty_row}
use Rattle.model.specs.State.{State}
use Rattle.model.specs.Calls.{slot, bad_name, not_attached, unknown_name, is_named}
use Rattle.model.specs.RefusalMeans.{There, IsOpen, BadName, InUse, UnknownName, HasAName, SecondName, RowsFull}
use Rattle.model.proofs.Reflect.{Says, says_eq, says_lt, says_map, says_not, says_or, ◌&◌}
use Rattle.model.proofs.Asked.{slot_named, not_zero}
use Rattle.model.proofs.NameBytes.{says_valid}
use Rattle.model.proofs.NameRows.{row_found, row_none, row?, empty_found, empty_none, empty?, owned_found, owned_some}
use Rattle.model.proofs.NameActions.{NamesFit}

says_iff : {t : Bool} {P : Type 0} → Says t P → (t ≡ true) ↔ P
says_iff s = (s.holds, s.passes)

-- 16: "a name that is not 1 to 32 letters a to z" (7.1)
pub bad_name_lem : (l : List ℕ) → ((bad_name l).1 ≡ true) ↔ BadName l
bad_name_lem l = says_iff (says_not (says_valid l))

module _ (T : State) where
  -- a row has the name, or none has
  row_used : (l : List ℕ) (i : ℕ) → row_of T.notes.titles l ≡ suc i → InUse T l
  row_used l i e =
      let (h, o, t) = row_found T.notes.titles l i e in
      let (s, d) = pos (T.notes.titles.owner i) o in
      (s, (i, h, d, t))

  row_unused : (l : List ℕ) → row_of T.notes.titles l ≡ 0 → InUse T l → ⊥
  row_unused l e u = let (s, (i, h, d, t)) = u in row_none T.notes.titles l e i h (omega arith) t

  -- "a name in use" (7.1)
  says_used : (l : List ℕ) → Says (ltb 0 (row_of T.notes.titles l)) (InUse T l)
  says_used l =
      says_map
      (λ h. let (i, e) = pos (row_of T.notes.titles l) h in row_used l i e)
      (λ u. cases (row? T.notes.titles l) (λ w. let (i, e) = w in omega arith) (λ e. absurd (row_unused l e u)))
      (says_lt 0 (row_of T.notes.titles l))

  -- 17: "an unknown one" (7.1)
  pub unknown_name_lem : (l : List ℕ) → ((unknown_name T l).1 ≡ true) ↔ UnknownName T l
  unknown_name_lem l =
      says_iff (says_map
      (λ e. row_unused l e)
      (λ n. cases (row? T.notes.titles l) (λ w. let (i, e) = w in absurd (n (row_used l i e))) (λ e. e))
      (says_eq (row_of T.notes.titles l) 0))

  -- "a thirty-third" (7.1)
  says_full : Says (eqb (empty_row T.notes.titles) 0) (RowsFull T)
  says_full =
      says_map
      (λ e. empty_none T.notes.titles e)
      (λ f. cases (empty? T.notes.titles)
      (λ w.
      let (i, e) = w in
      let (h, o) = empty_found T.notes.titles i e in
      absurd (let z : ⊥ = omega (arith, f i h) in z))
      (λ e. e))
      (says_eq (empty_row T.notes.titles) 0)

  -- of a record that is there
  module _ (S : Sound T.view) (F : NamesFit T.view T.notes) (r : ℕ) (there : eqb (slot_of T.view r) 0 ≡ false) where
    is_there_lem : There T.view r (slot T r)
    is_there_lem = let (a, d) = slot_named T.view S r (not_zero (slot_of T.view r) there) in record { live = a; number = d }

    at_slot : (s : ℕ) → There T.view r s → s ≡ slot T r
    at_slot s h = S.links.apart s (slot T r) h.live (h.number ∙ sym is_there_lem.number)

    says_open : Says (ltb 0 (T.view.is_open (slot T r))) (IsOpen T.view r)
    says_open =
        says_map
        (λ h. (slot T r, is_there_lem, h))
        (λ w. let (s, h, o) = w in omega (arith, ap T.view.is_open (at_slot s h)))
        (says_lt 0 (T.view.is_open (slot T r)))

    says_named : Says (ltb 0 (T.notes.names (slot T r))) (HasAName T r)
    says_named =
        says_map
        (λ h.
        let (i, g, o) = owned_found T.notes.titles (slot T r) (omega (arith, F.counted (slot T r) is_there_lem.live)) in
        (slot T r, T.notes.titles.text i, is_there_lem, (i, g, o, refl)))
        (λ w.
        let (s, l, h, (i, g, o, t)) = w in
        omega (arith, F.counted (slot T r) is_there_lem.live, owned_some T.notes.titles (slot T r) i g (o ∙ ap suc (at_slot s h))))
        (says_lt 0 (T.notes.names (slot T r)))

    -- 17: "a name in use, …, a second on an open record or a thirty-third" (7.1)
    pub not_attached_lem : (l : List ℕ) → ((not_attached T l r).1 ≡ true) ↔ (InUse T l ⊎ (SecondName T r ⊎ RowsFull T))
    not_attached_lem l = says_iff (says_or (says_used l) (says_or (says_open & says_named) says_full))

    -- 18: "D of a named record" (7.1)
    pub is_named_lem : ((is_named T r).1 ≡ true) ↔ HasAName T r
    is_named_lem = says_iff says_named
