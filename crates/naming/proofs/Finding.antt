-- U and M: the name is found in a row. U takes it off, M gives the number of its record.
use mathlib.Core.Path.{◌≡◌, refl, sym, ap, ◌∙◌}
use mathlib.Core.List.{List, [], ◌∷◌}
use Prim.Native.Nat.{ℕ, suc, pred, ◌≤◌, ◌<◌}
use native.Mathlib.Omega.{arith}
use lib.ListN.{get_or, set}
use lib.Seq.{sets, take-suc-set}
use Rattle.answer.specs.Reply.{accepted, refused, reply_of}
use Rattle.answer.specs.Refusal.{NoneHolds}
use Rattle.std.specs.Prelude.{Ok, Err}
use Rattle.answer.specs.declared.Refusal.{Refusal}
use Rattle.answer.specs.Number.{number_of}
use Rattle.geometry.specs.declared.Geometry.{Geometry}
use Rattle.model.specs.Table.{via}
use Rattle.model.specs.Names.{Titles, row_of, unnamed, one_less}
use Rattle.model.specs.State.{State, with_titles, with_notes}
use Rattle.model.specs.Calls.{carrier, conditions, result}
use Rattle.model.specs.Command.{Command, Detach, Resolve}
use Rattle.model.specs.Layout.{name_cell, title_cell, titles_of, view_of, notes_of, state_of, stored}
use Rattle.model.proofs.NameRows.{row_found, owned_some, owner_from}
use Rattle.model.proofs.NameCalls.{Detaches, detaches}
use Rattle.tables.specs.Ready.{Ready, OutLong}
use Rattle.tables.specs.Outcome.{replied, tables_left, out_left}
use Rattle.tables.specs.Puts.{with_count, with_rows}
use Rattle.tables.specs.Titles.{title_off}
use Rattle.tables.proofs.Fields
use Rattle.tables.proofs.Ranges
use Rattle.tables.proofs.Steps.{Holds, holds_first, step_names}
use Rattle.tables.proofs.TitleRows.{link_at}
use Rattle.tables.proofs.TitleStores.{step_off}
use Rattle.naming.specs.Rows.{count_down, taken_off}
use Rattle.naming.specs.Verdicts.{verdict_of, find_verdict}
use Rattle.naming.proofs.Verdicts.{verdict_refuses, verdict_accepts}
use Rattle.naming.proofs.Replies.{accept_replied}

module _ (g : Geometry) (t l : List ℕ) where
  -- the two have the same refusals
  pub resolve_refused : (k : Refusal) → verdict_of (Err k) ≡ find_verdict g t l → replied g t (Resolve l) ≡ refused (number_of k)
  unfolding replied verdict_of find_verdict
  resolve_refused k e =
      let c : Command = Resolve l in
      verdict_refuses (conditions g (state_of g t) c) (pred (row_of (titles_of t) l) ∷ []) (result g (state_of g t) c) (number_of k) (sym e)

  pub detach_refused : (k : Refusal) → verdict_of (Err k) ≡ find_verdict g t l → replied g t (Detach l) ≡ refused (number_of k)
  unfolding replied verdict_of find_verdict
  detach_refused k e =
      let c : Command = Detach l in
      verdict_refuses (conditions g (state_of g t) c) (pred (row_of (titles_of t) l) ∷ []) (result g (state_of g t) c) (number_of k) (sym e)

  -- accepted: the name is in row i
  module _ (R : Ready g t) (i : ℕ) (e : verdict_of (Ok i) ≡ find_verdict g t l) where
    abbrev T : State
    T = state_of g t

    abbrev X : Titles
    X = (state_of g t).notes.titles

    none : NoneHolds (conditions g T (Resolve l)) × (pred (row_of (titles_of t) l) ≡ i)
    unfolding verdict_of find_verdict
    none = verdict_accepts (conditions g T (Resolve l)) (pred (row_of (titles_of t) l)) i (sym e)

    row_is : pred (row_of X l) ≡ i
    unfolding state_of notes_of
    row_is = none.1

    told : Detaches T l
    told = detaches T l none.0

    pub find_low : i < 32
    find_low = omega (arith, (row_found X l (pred (row_of X l)) told.row).0, row_is)

    -- the slot of the record
    abbrev s : ℕ
    s = pred (carrier T l)

    -- the link in the row
    owner_is : X.owner i ≡ suc s
    owner_is = ap X.owner (sym row_is) ∙ told.owner

    link_is : get_or t (title_cell i) 0 ≡ suc s
    unfolding state_of notes_of
    link_is = sym (link_at t i find_low) ∙ owner_is

    pub find_link : 0 < get_or t (title_cell i) 0
    find_link = omega (arith, link_is)

    pub find_most : get_or t (title_cell i) 0 ≤ g.records
    find_most = Ranges.link_cell_le R i find_low

    -- ── U ──

    live : 0 < (view_of g t).num s
    unfolding state_of
    live = R.names.live i s find_low owner_is

    inside : s < g.records
    inside = Fields.num_in g t s live

    at_slot : pred (get_or t (title_cell i) 0) ≡ s
    at_slot = omega (arith, link_is)

    -- it has this name at least
    pub find_counted : 0 < get_or t (name_cell (pred (get_or t (title_cell i) 0))) 0
    unfolding state_of
    find_counted =
        omega (arith, ap (λ k. get_or t (name_cell k) 0) at_slot, Fields.names_is g t s inside, R.names.counted s live, owned_some X s i find_low owner_is)

    pub detach_replied : (out : List ℕ) → reply_of (Ok 0) out ≡ replied g t (Detach l)
    unfolding reply_of
    detach_replied out = sym (accept_replied g t (Detach l) none.0)

    -- one name less, and the row is empty
    abbrev n : ℕ
    n = pred (get_or t (name_cell s) 0)

    less : Holds g t (with_count T s n) (set t (name_cell s) n)
    less = step_names g t R.roomy (holds_first R) s n inside

    off : Holds g t (with_rows (with_count T s n) (unnamed X i)) (title_off (set t (name_cell s) n) i)
    unfolding with_count
    off = step_off g t R.roomy less (Fields.titles_is g t) i find_low

    abbrev left : ℕ → State
    left i = with_notes T (with_titles T.notes (one_less T.notes.names s) (unnamed X i))

    left_is : with_rows (with_count T s n) (unnamed X i) ≡ left i
    unfolding with_count with_rows one_less
    left_is = ap (λ k. with_rows (with_count T s (pred k)) (unnamed X i)) (sym (Fields.names_is g t s inside))

    pub detach_tables : taken_off t i ≡ tables_left g t (Detach l)
    unfolding taken_off count_down tables_left
    detach_tables =
        ap (λ k. title_off (set t (name_cell k) (pred (get_or t (name_cell k) 0))) i) at_slot ∙ off.is ∙
        ap (λ U. stored g U t) (left_is ∙ ap left (sym row_is)) ∙ sym (rw (accept_replied g t (Detach l) none.0) refl)

    -- ── M: k is the number of the record that the link n leads to ──

    module _ {n k : ℕ} (en : n ≡ get_or t (title_cell i) 0) (ek : k ≡ via (view_of g t).num n) where
      carrier_is : carrier T l ≡ n
      carrier_is = owner_from X l (pred (row_of X l)) s told.row told.owner ∙ sym link_is ∙ sym en

      number_is : result g T (Resolve l) ≡ k ∷ []
      unfolding state_of
      number_is =
          ap (λ (m : ℕ). m ∷ []) (ap (via (view_of g t).num) carrier_is ∙ sym ek)

      module _ (out : List ℕ) (long : OutLong g out) where
        pub resolve_replied : reply_of (Ok 1) (set out 0 k) ≡ replied g t (Resolve l)
        unfolding reply_of
        resolve_replied =
            ap accepted (take-suc-set out 0 k (omega arith) ∙ sym number_is) ∙ sym (accept_replied g t (Resolve l) none.0)

        pub resolve_out : set out 0 k ≡ out_left g t out (Resolve l)
        unfolding out_left
        resolve_out = ap (sets out 0) (sym number_is) ∙ sym (rw (accept_replied g t (Resolve l) none.0) refl)
