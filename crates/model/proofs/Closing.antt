-- The call S, from its conditions: its actions are ones that the stores they meet allow, and give no block.
use mathlib.Core.Path.{◌≡◌, sym, ap, ◌∙◌, subst}
use mathlib.Core.Bool.{false, cond}
use Prim.Native.Nat.{ℕ, ◌+◌}
use lib.Dec.{leb}
use Rattle.answer.specs.Refusal.{NoneHolds}
use Rattle.geometry.specs.declared.Geometry.{Geometry}
use Rattle.geometry.specs.Limits.{Inside}
use Rattle.model.specs.Effects.{seal, grow, close}
use Rattle.model.specs.Actions.{do_s, Asks}
use Rattle.model.specs.Window.{steps, AsksAlong}
use Rattle.model.specs.State.{State}
use Rattle.model.specs.Calls.{closing, refusals_by, slot, window_of, sealed_notes, closes}
use Rattle.model.specs.Book.{Book, rec_sealed, window_with, trimmed, accept}
use Rattle.model.specs.Command.{Seal}
use Rattle.model.proofs.ByNumber.{none_at}
use Rattle.model.proofs.Agree.{Agree}
use Rattle.model.proofs.BookFacts.{in_lines_lem}
use Rattle.model.proofs.WindowBook.{NamedAlike, seal_agrees}
use Rattle.model.proofs.Windows.{WindowsAgree, seal_windows}
use Rattle.model.proofs.WindowMoves.{Giveless, sealing_giveless}
use Rattle.model.proofs.WindowSeal.{seal_asks, seal_takes}
use Rattle.model.proofs.Asked.{Fine, Unrefused, named_slot, asks_S}

-- an S that is not refused
module _ (g : Geometry) (T : State) (r : ℕ) (n : NoneHolds (refusals_by g T (closing r))) where
  pub closing_first : Unrefused T r
  closing_first =
      let past = none_at (refusals_by g T (closing r)) n in
      record { eight = past 8; nine = past 9; eleven = past 11 }

  pub closing_12 : leb 999999 T.view.last ≡ false
  closing_12 = none_at (refusals_by g T (closing r)) n 12

module _ (g : Geometry) (inside : Inside g) (T : State) (R : Fine g T) (r : ℕ) (n : Unrefused T r) where
  pub seals : Asks T.view (do_s (slot T r))
  seals = asks_S g inside T R r n

  pub closing_asks : AsksAlong T.view (closes T r)
  closing_asks = seal_asks T.view (slot T r) R.sound seals T.notes.names (window_of T r)

  pub closing_giveless : Giveless (closes T r)
  closing_giveless = sealing_giveless T.view T.notes.names (window_of T r) (slot T r)

  pub closing_last : (steps T.view (closes T r)).last ≡ T.view.last + 1
  unfolding seal grow close
  closing_last = (seal_takes T.view (slot T r) R.sound seals T.notes.names (window_of T r)).last

  -- the book's step of the call: the book's window of the line is the store's
  pub closing_book : (B : Book) (P b : ℕ) → Agree T.view B → WindowsAgree T.view T.notes B →
      trimmed (rec_sealed B (T.view.num (slot T r))) (window_of T r) (T.view.num (slot T r)) ≡ accept P B (Seal r) b
  closing_book B P b A W =
      let s : ℕ = slot T r in
      let m : ℕ = T.view.num s in
      ap (λ w. trimmed (rec_sealed B m) w m) (sym (W s seals.0 seals.1)) ∙
      ap (λ t. cond t (trimmed (rec_sealed B m) (window_with m B.lines) m) B) (sym (in_lines_lem m B.lines (A.stored s seals.0))) ∙
      ap (λ k. accept P B (Seal k) b) (named_slot g inside T R r n.eight).1

  pub closing_agrees : (B : Book) (P b : ℕ) → Agree T.view B → WindowsAgree T.view T.notes B → NamedAlike T.view T.notes.names B →
      Agree (steps T.view (closes T r)) (accept P B (Seal r) b)
  closing_agrees B P b A W N =
      subst (Agree (steps T.view (closes T r))) (closing_book B P b A W)
      (seal_agrees T.view T.notes.names B (window_of T r) (slot T r) R.sound seals A N)

  pub closing_windows : (B : Book) (P b : ℕ) → Agree T.view B → WindowsAgree T.view T.notes B → NamedAlike T.view T.notes.names B →
      WindowsAgree (steps T.view (closes T r)) (sealed_notes T r) (accept P B (Seal r) b)
  closing_windows B P b A W N =
      subst (WindowsAgree (steps T.view (closes T r)) (sealed_notes T r)) (closing_book B P b A W)
      (seal_windows T.view T.notes B (window_of T r) (slot T r) R.sound seals A W N)
