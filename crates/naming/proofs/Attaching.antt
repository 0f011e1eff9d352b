-- N: refused it leaves everything; accepted, a row of the name is stored, and its record has one name more.
use mathlib.Core.Path.{◌≡◌, refl, sym, ap, ap₂, ◌∙◌}
use mathlib.Core.List.{List, [], ◌∷◌}
use Prim.Native.Nat.{ℕ, suc, pred, ◌+◌, ◌-◌, ◌≤◌, ◌<◌}
use native.Mathlib.Omega.{arith}
use lib.ListN.{length, get_or}
use Rattle.answer.specs.Reply.{refused, reply_of}
use Rattle.answer.specs.Refusal.{NoneHolds}
use Rattle.std.specs.Prelude.{Ok, Err}
use Rattle.answer.specs.declared.Refusal.{Refusal}
use Rattle.answer.specs.Number.{number_of}
use Rattle.geometry.specs.declared.Geometry.{Geometry}
use Rattle.model.specs.Actions.{slot_of}
use Rattle.model.specs.Names.{Titles, empty_row, named, one_more}
use Rattle.model.specs.State.{State, with_titles, with_notes}
use Rattle.model.specs.Calls.{slot, conditions, result}
use Rattle.model.specs.Command.{Command, Attach}
use Rattle.model.specs.Layout.{name_cell, titles_of, view_of, notes_of, state_of, stored}
use Rattle.model.proofs.Asked.{not_zero}
use Rattle.model.proofs.ByNumber.{none_at}
use Rattle.model.proofs.NameCalls.{Attaches, attaches}
use Rattle.tables.specs.Ready.{Ready}
use Rattle.tables.specs.Outcome.{replied, tables_left}
use Rattle.tables.specs.Puts.{with_count, with_rows}
use Rattle.tables.specs.Titles.{title_put}
use Rattle.tables.proofs.Fields
use Rattle.tables.proofs.Ranges
use Rattle.tables.proofs.Reading.{reads_names}
use Rattle.tables.proofs.Steps.{Holds, holds_as, holds_first, holds_length, step_names}
use Rattle.tables.proofs.TitleStores.{step_put}
use Rattle.naming.specs.Rows.{count_up}
use Rattle.naming.specs.Verdicts.{verdict_of, attach_verdict}
use Rattle.naming.proofs.Verdicts.{verdict_refuses, verdict_accepts}
use Rattle.naming.proofs.Replies.{accept_replied}

module _ (g : Geometry) (t l : List ℕ) (r : ℕ) where
  pub attach_refused : (k : Refusal) → verdict_of (Err k) ≡ attach_verdict g t l r → replied g t (Attach l r) ≡ refused (number_of k)
  unfolding replied verdict_of attach_verdict
  attach_refused k e =
      let c : Command = Attach l r in
      verdict_refuses (conditions g (state_of g t) c) (pred (empty_row (titles_of t)) ∷ []) (result g (state_of g t) c) (number_of k) (sym e)

  -- accepted: row i is given
  module _ (R : Ready g t) (i : ℕ) (e : verdict_of (Ok i) ≡ attach_verdict g t l r) where
    abbrev T : State
    T = state_of g t

    abbrev X : Titles
    X = (state_of g t).notes.titles

    none : NoneHolds (conditions g T (Attach l r)) × (pred (empty_row (titles_of t)) ≡ i)
    unfolding verdict_of attach_verdict
    none = verdict_accepts (conditions g T (Attach l r)) (pred (empty_row (titles_of t))) i (sym e)

    told : Attaches T l r
    told = attaches T l r R.sound none.0

    row_is : pred (empty_row X) ≡ i
    unfolding state_of notes_of
    row_is = none.1

    pub attach_low : i < 32
    attach_low = omega (arith, told.room, row_is)

    pub attach_short : length l ≤ 32
    attach_short = told.valid.short

    pub attach_replied : (out : List ℕ) → reply_of (Ok 0) out ≡ replied g t (Attach l r)
    unfolding reply_of
    attach_replied out = sym (accept_replied g t (Attach l r) none.0)

    -- its link leads to slot s of record r
    module _ (link : ℕ) (el : link ≡ slot_of (view_of g t) r) where
      abbrev s : ℕ
      s = link - 1

      pub attach_link : 0 < link
      unfolding state_of
      attach_link = omega (arith, not_zero (slot_of T.view r) (none_at (conditions g T (Attach l r)) none.0 8), el)

      slot_is : slot T r ≡ s
      unfolding state_of
      slot_is = ap pred (sym el) ∙ (let z : pred link ≡ link - 1 = omega arith in z)

      live : 0 < (view_of g t).num s
      unfolding state_of
      live = omega (arith, told.live, ap (view_of g t).num slot_is)

      inside : s < g.records
      inside = Fields.num_in g t s live

      -- the row stored
      abbrev t₁ : List ℕ
      t₁ = title_put t i link l

      put : Holds g t (with_rows T (named X i s l)) t₁
      put =
          holds_as g t (ap (λ k. title_put t i k l) (let z : link ≡ suc s = omega (arith, attach_link) in z)) refl
          (step_put g t R.roomy (holds_first R) (Fields.titles_is g t) i attach_low s l attach_short)

      pub attach_room : 2048 ≤ length (title_put t i link l)
      attach_room = omega (arith, holds_length g t R.roomy put, R.roomy.room)

      count_is : get_or t₁ (name_cell s) 0 ≡ T.notes.names s
      unfolding with_rows
      count_is = reads_names g t R.roomy put s inside

      pub attach_counts : get_or (title_put t i link l) (name_cell (link - 1)) 0 ≤ 32
      attach_counts = omega (arith, count_is, Ranges.count_le R s live)

      -- and one name more
      abbrev left : ℕ → ℕ → State
      left i s = with_notes T (with_titles T.notes (one_more T.notes.names s) (named X i s l))

      left_is : with_count (with_rows T (named X i s l)) s (get_or t₁ (name_cell s) 0 + 1) ≡ left i s
      unfolding with_count with_rows one_more
      left_is =
          ap (with_count (with_rows T (named X i s l)) s) (let z : get_or t₁ (name_cell s) 0 + 1 ≡ suc (T.notes.names s) = omega (arith, count_is) in z)

      pub attach_tables : count_up (title_put t i link l) (link - 1) ≡ tables_left g t (Attach l r)
      unfolding count_up tables_left
      attach_tables =
          (step_names g t R.roomy put s (get_or t₁ (name_cell s) 0 + 1) inside).is ∙
          ap (λ U. stored g U t) (left_is ∙ ap₂ left (sym row_is) (sym slot_is)) ∙ sym (rw (accept_replied g t (Attach l r) none.0) refl)
