-- The call S: a refusal of its verdict leaves everything; what an accepted one does to the slots of the verdict is what the model says.
use mathlib.Core.Path.{◌≡◌, sym, ap, ◌∙◌, subst}
use mathlib.Core.List.{List}
use Prim.Native.Nat.{ℕ, ◌<◌}
use lib.ListN.{get_or}
use lib.Seq.{sets}
use borrow.Author.Tests.{leb-false}
use Rattle.answer.specs.Reply.{Reply, accepted, refused, reply_of}
use Rattle.answer.specs.Refusal.{leaves, NoneHolds}
use Rattle.std.specs.Prelude.{Result, Ok, Err}
use Rattle.answer.specs.declared.Refusal.{Refusal}
use Rattle.answer.specs.Number.{number_of}
use Rattle.answer.proofs.Decided.{decide_accepts}
use Rattle.geometry.specs.declared.Geometry.{Geometry}
use Rattle.model.specs.State.{State}
use Rattle.model.specs.Actions.{do_s, Asks}
use Rattle.model.specs.Calls.{slot, new_slot, window_of, result}
use Rattle.model.specs.Layout.{window_cell, view_of, state_of}
use Rattle.model.specs.Memory.{stored_by}
use Rattle.model.specs.Command.{Seal}
use Rattle.model.proofs.ByNumber.{none_at}
use Rattle.model.proofs.Fine.{asks_S}
use Rattle.tables.specs.Ready.{Ready}
use Rattle.tables.specs.Outcome.{replied, tables_left, out_left}
use Rattle.tables.proofs.Fields
use Rattle.tables.proofs.Ranges
use Rattle.lines.proofs.Verdicts.{refuses, accepts}
use Rattle.deleting.proofs.Verdicts.{ready_fine}
use Rattle.retaining.specs.Verdicts.{first, verdict_on}
use Rattle.retaining.specs.Closing.{Closes, closed_state, deleted_tables, closed_reply, closed_tables, closed_out}
use Rattle.retaining.proofs.Closing.{Closed}

module _ {g : Geometry} {t : List ℕ} (R : Ready g t) (n : ℕ) where
  abbrev T : State
  T = state_of g t

  -- what the call promises
  abbrev pub Left : Result ℕ Refusal → List ℕ → List ℕ → List ℕ → Type 0
  Left a u out out' = (reply_of a out' ≡ replied g t (Seal n)) × ((u ≡ tables_left g t (Seal n)) × (out' ≡ out_left g t out (Seal n)))

  pub refused_left : (k : Refusal) (out : List ℕ) → Err (number_of k) ≡ verdict_on g t n → Left (Err k) t out out
  unfolding replied reply_of tables_left out_left verdict_on
  refused_left k out e =
      let a : replied g t (Seal n) ≡ refused (number_of k) = refuses (first T n) (slot T n) (new_slot T) (number_of k) (result g T (Seal n)) (sym e) in (
        sym a,
        (
          sym (ap (λ (r : Reply). leaves r t (stored_by g t (Seal n))) a),
          sym (ap (λ (r : Reply). leaves r out (sets out 0 (result g T (Seal n)))) a),
        ),
      )

  -- ── acceptance ──

  module _ (s f : ℕ) (e : Ok (s, f) ≡ verdict_on g t n) where
    taken : NoneHolds (first T n) × (s ≡ slot T n) × (f ≡ new_slot T)
    unfolding verdict_on
    taken = accepts (first T n) (slot T n) (new_slot T) s f (sym e)

    asks : Asks (view_of g t) (do_s s)
    unfolding state_of
    asks =
        let past = none_at (first T n) taken.0 in
        subst (λ x. Asks (view_of g t) (do_s x)) (sym taken.1)
        (asks_S g R.roomy.inside T (ready_fine R) n (record { eight = past 8; nine = past 9; eleven = past 11 }))

    pub slot_below : s < g.records
    slot_below = Ranges.slot_in R s asks.0

    module _ (w : ℕ) (ew : w ≡ get_or t (window_cell s) 0) where
      window_is : w ≡ T.notes.window s
      window_is = ew ∙ sym (Fields.window_is g t s slot_below)

      pub closes_so : Closes g t s f w
      unfolding state_of
      closes_so = record {
        asks = asks;
        last = leb-false 999999 (view_of g t).last (none_at (first T n) taken.0 12);
        empty = taken.2;
        window = window_is;
      }

      -- ── what such a call leaves ──

      told : replied g t (Seal n) ≡ accepted (result g T (Seal n))
      unfolding replied
      told = decide_accepts (first T n) (result g T (Seal n)) taken.0

      reply_is : closed_reply g t ≡ replied g t (Seal n)
      unfolding closed_reply state_of
      reply_is = sym told

      tables_are : closed_tables g t (slot T n) (new_slot T) (window_of T n) ≡ tables_left g t (Seal n)
      unfolding closed_tables closed_state deleted_tables tables_left
      tables_are = sym (ap (λ (r : Reply). leaves r t (stored_by g t (Seal n))) told)

      out_is : (out : List ℕ) → closed_out g t out ≡ out_left g t out (Seal n)
      unfolding closed_out out_left state_of
      out_is out = sym (ap (λ (r : Reply). leaves r out (sets out 0 (result g T (Seal n)))) told)

      pub closed_left : (a : Result ℕ Refusal) (u out out' : List ℕ) → Closed g t a u out out' s f w → Left a u out out'
      closed_left a u out out' p =
          let P : ℕ → ℕ → ℕ → Type 0 = Closed g t a u out out' in
          let q : P (slot T n) (new_slot T) (window_of T n) =
          subst (λ x. P x (new_slot T) (window_of T n)) taken.1
          (subst (λ x. P s x (window_of T n)) taken.2 (subst (P s f) (window_is ∙ ap T.notes.window taken.1) p)) in
          (q.0 ∙ reply_is, (q.1.0 ∙ tables_are, q.1.1 ∙ out_is out))
