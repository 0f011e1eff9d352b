-- What an accepted call's action asks, from the conditions that are not true of the call.
use mathlib.Core.Path.{◌≡◌, ap, ◌∙◌}
use mathlib.Core.Bool.{false}
use mathlib.Core.List.{[], ◌∷◌}
use Prim.Native.Nat.{ℕ, pred, ◌<◌}
use native.Mathlib.Omega.{arith}
use lib.Dec.{eqb, ltb}
use borrow.Author.Tests.{eqb-false, leb-false, ltb-false}
use Rattle.answer.specs.Refusal.{NoneHolds}
use Rattle.answer.proofs.Cases.{cases, same?, pos}
use Rattle.geometry.specs.declared.Geometry.{Geometry}
use Rattle.geometry.specs.Limits.{Inside, blocks}
use Rattle.model.specs.View.{View}
use Rattle.model.specs.Sound.{Sound}
use Rattle.model.specs.Actions.{do_s, do_f, Asks, forked, vacant, slot_of}
use Rattle.model.specs.State.{State, InRange, QueueFits, WaitingFits, WindowsFit}
use Rattle.model.specs.NamesAgree.{NamesAgree}
use Rattle.model.specs.Calls.{slot, writing, erasing, deleting, conditions, account, short}
use Rattle.model.specs.Command.{Write, Erase, Fork}
use Rattle.model.proofs.DoneSound.{hit}
use Rattle.model.proofs.ChoiceFacts.{given_block}
use Rattle.model.proofs.ByNumber.{none_at}
use Rattle.model.proofs.CallKinds.{own_refusals, none_left}

-- the slot of a record that is in the store
pub slot_named : (K : View) → Sound K → (r : ℕ) → 0 < slot_of K r → (0 < K.num (pred (slot_of K r))) × (K.num (pred (slot_of K r)) ≡ r)
unfolding slot_of
slot_named K S r h =
    let (s, e) = pos (slot_of K r) h in
    let d : pred (slot_of K r) ≡ s = omega arith in
    let (l, i) = hit K S K.num r s e in
    (omega (arith, ap K.num d), ap K.num d ∙ i)

pub not_zero : (n : ℕ) → eqb n 0 ≡ false → 0 < n
not_zero n e = cases (same? n 0) (λ i. absurd (eqb-false n 0 e i)) (λ m. omega arith)

-- a state that the calls keep: its view is sound, its sizes are the geometry's, and marks, counter and counts lie in range
pub record Fine (g : Geometry) (T : State) : Type 0 where
  pub sound : Sound T.view
  pub slots : T.view.slots ≡ g.records
  pub pages : T.view.pages ≡ g.pages
  pub blocks : T.view.blocks ≡ blocks g
  pub range : InRange g T
  pub queue : QueueFits T
  pub waits : WaitingFits T
  pub windows : WindowsFit T.view T.notes
  pub names : NamesAgree T.view T.notes.titles T.notes.names

-- an S of r is not refused 8, 9 or 11
pub record Unrefused (T : State) (r : ℕ) : Type 0 where
  pub eight : eqb (slot_of T.view r) 0 ≡ false
  pub nine : eqb (T.view.is_open (slot T r)) 0 ≡ false
  pub eleven : eqb (vacant T.view) 0 ≡ false

module _ (g : Geometry) (inside : Inside g) (T : State) (R : Fine g T) where
  pub named_slot : (r : ℕ) → eqb (slot_of T.view r) 0 ≡ false → (0 < T.view.num (slot T r)) × (T.view.num (slot T r) ≡ r)
  named_slot r e = slot_named T.view R.sound r (not_zero (slot_of T.view r) e)

  pub asks_W : (r x k : ℕ) → NoneHolds (conditions g T (Write r x k)) → Asks T.view (writing g T r x k)
  asks_W r x k n =
      let past = none_at (conditions g T (Write r x k)) n in
      let b = given_block g inside T R.range k (past 13) in (
        (named_slot r (past 8)).0,
        not_zero (T.view.is_open (slot T r)) (past 9),
        omega (arith, leb-false g.pages x (past 5), R.pages),
        omega (arith, b.0, R.blocks),
        b.1,
      )

  -- (its conditions before 14 are enough)
  pub asks_erase : (r x : ℕ) → NoneHolds (own_refusals g T (account (Erase r x))) → Asks T.view (erasing T r x)
  asks_erase r x n =
      let past = none_at (own_refusals g T (account (Erase r x))) n in
      ((named_slot r (past 8)).0, not_zero (T.view.is_open (slot T r)) (past 9), omega (arith, leb-false g.pages x (past 5), R.pages))

  pub asks_E : (r x : ℕ) → NoneHolds (conditions g T (Erase r x)) → Asks T.view (erasing T r x)
  asks_E r x n = asks_erase r x (none_left (own_refusals g T (account (Erase r x))) ((14, short g T (Erase r x)) ∷ []) n)

  pub asks_S : (r : ℕ) → Unrefused T r → Asks T.view (do_s (slot T r))
  asks_S r n = ((named_slot r n.eight).0, not_zero (T.view.is_open (slot T r)) n.nine, not_zero (vacant T.view) n.eleven)

  pub asks_F : (r : ℕ) → NoneHolds (conditions g T (Fork r)) → Asks T.view (do_f (slot T r))
  asks_F r n =
      let past = none_at (conditions g T (Fork r)) n in
      ((named_slot r (past 8)).0, omega (arith, ltb-false 0 (T.view.is_open (slot T r)) (past 9)), not_zero (vacant T.view) (past 11))

  pub asks_D : (r : ℕ) → eqb (slot_of T.view r) 0 ≡ false → ltb 0 (forked T.view (slot T r)) ≡ false → Asks T.view (deleting T r)
  asks_D r eight ten = ((named_slot r eight).0, omega (arith, ltb-false 0 (forked T.view (slot T r)) ten))
