-- The calls and the names: by kind the calls that begin a line or free blocks, and N and U.
use mathlib.Core.Path.{◌≡◌, sym, ap, ◌∙◌, subst}
use mathlib.Core.Bool.{Bool, true, false, ◌||◌, ◌&&◌, true≢false}
use mathlib.Core.List.{List, [], ◌∷◌}
use Prim.Native.Nat.{ℕ, suc, pred, ◌<◌}
use native.Mathlib.Omega.{arith}
use lib.Dec.{eqb, ltb}
use borrow.Author.Tests.{lt-ltb, ltb-false}
use Rattle.answer.specs.Refusal.{NoneHolds}
use Rattle.answer.proofs.Cases.{cases, either, pos}
use Rattle.model.specs.View.{View}
use Rattle.model.specs.Sound.{Sound}
use Rattle.model.specs.SoundMeans.{Live}
use Rattle.model.specs.Actions.{slot_of}
use Rattle.model.specs.Names.{ValidName, row_of, empty_row}
use Rattle.model.specs.State.{State}
use Rattle.model.specs.Calls.{slot, carrier, attached, detached, bad_name, no_record, not_attached, unknown_name}
use Rattle.model.specs.Command.{Attach, Detach}
use Rattle.model.specs.Book.{Book, in_lines, name_added, name_off, accept}
use Rattle.model.proofs.Agree.{Agree}
use Rattle.model.proofs.BookFacts.{in_lines_lem}
use Rattle.model.proofs.ByNumber.{none_at, or_false}
use Rattle.model.proofs.Asked.{slot_named, not_zero}
use Rattle.model.proofs.NameBytes.{not_bad}
use Rattle.model.proofs.NameRows.{row_found, owner_from, empty_found}
use Rattle.model.proofs.NameSteps.{agree_named, agree_unnamed}
use Rattle.model.proofs.NameBook.{sides_named, sides_unnamed}
use Rattle.model.proofs.NameActions.{NamesFit, NamesTold}

-- ── N ──

-- what is so of an N that no condition refuses
pub record Attaches (T : State) (l : List ℕ) (r : ℕ) : Type 0 where
  pub room : pred (empty_row T.notes.titles) < 32
  pub empty : T.notes.titles.owner (pred (empty_row T.notes.titles)) ≡ 0
  pub live : Live T.view (slot T r)
  pub number : T.view.num (slot T r) ≡ r
  pub valid : ValidName l
  pub unused : row_of T.notes.titles l ≡ 0
  pub first : 0 < T.view.is_open (slot T r) → T.notes.names (slot T r) ≡ 0

not_both : (m n : ℕ) → (ltb 0 m && ltb 0 n) ≡ false → 0 < m → n ≡ 0
not_both m n e o =
    cases (either (ltb 0 n))
    (λ y. absurd (true≢false (rw (lt-ltb 0 m o, y) at e)))
    (λ y. omega (arith, ltb-false 0 n y))

module _ (T : State) (l : List ℕ) (r : ℕ) (S : Sound T.view) (n : NoneHolds (bad_name l ∷ no_record T r ∷ not_attached T l r ∷ [])) where
  pub attaches : Attaches T l r
  attaches =
      let past = none_at (bad_name l ∷ no_record T r ∷ not_attached T l r ∷ []) n in
      let X = T.notes.titles in
      let second : Bool = ltb 0 (T.view.is_open (slot T r)) && ltb 0 (T.notes.names (slot T r)) in
      let (used, others) = or_false (ltb 0 (row_of X l)) (second || eqb (empty_row X) 0) (past 17) in
      let (two, full) = or_false second (eqb (empty_row X) 0) others in
      let (a, d) = slot_named T.view S r (not_zero (slot_of T.view r) (past 8)) in
      let (i, e) = pos (empty_row X) (not_zero (empty_row X) full) in
      let (h, o) = empty_found X (pred (empty_row X)) (e ∙ ap (λ k. suc (pred k)) (sym e)) in
      record {
        room = h;
        empty = o;
        live = a;
        number = d;
        valid = not_bad l (past 16);
        unused = omega (arith, ltb-false 0 (row_of X l) used);
        first = not_both (T.view.is_open (slot T r)) (T.notes.names (slot T r)) two;
      }

  pub names_kept_attach : NamesFit T.view T.notes → NamesFit T.view (attached T l (slot T r))
  names_kept_attach F =
      let a = attaches in
      agree_named F (pred (empty_row T.notes.titles)) (slot T r) l a.room a.empty a.live a.valid a.unused a.first

  module _ (B : Book) (G : Agree T.view B) where
    -- the book has the record
    pub attach_booked : in_lines r B.lines ≡ true
    attach_booked =
        let a = attaches in
        in_lines_lem r B.lines (let w = G.stored (slot T r) a.live in rw a.number at w)

    pub sides_kept_attach : NamesTold T.view T.notes B.names → NamesTold T.view (attached T l (slot T r)) ((l, r) ∷ B.names)
    sides_kept_attach A =
        let a = attaches in
        subst (λ m. NamesTold T.view (attached T l (slot T r)) ((l, m) ∷ B.names)) a.number
        (sides_named A (pred (empty_row T.notes.titles)) (slot T r) l a.room a.empty a.live a.valid a.unused a.first)

    -- the book's step
    pub attach_accepted : (P b : ℕ) → accept P B (Attach l r) b ≡ name_added B l r
    attach_accepted P b = rw attach_booked

    pub sides_attach_accepted : (P b : ℕ) → NamesTold T.view T.notes B.names →
        NamesTold T.view (attached T l (slot T r)) (accept P B (Attach l r) b).names
    unfolding name_added
    sides_attach_accepted P b A = rw attach_booked (sides_kept_attach A)

-- the book's records are as before
pub agree_attach : (K : View) (B : Book) (P b : ℕ) (l : List ℕ) (r : ℕ) → Agree K B → Agree K (accept P B (Attach l r) b)
unfolding name_added
agree_attach K B P b l r G =
    cases (either (in_lines r B.lines))
    (λ y. rw y (record { last = G.last; booked = G.booked; stored = G.stored }))
    (λ y. rw y G)

pub attach_lines : (B : Book) (P b : ℕ) (l : List ℕ) (r : ℕ) → (accept P B (Attach l r) b).lines ≡ B.lines
unfolding name_added
attach_lines B P b l r = cases (either (in_lines r B.lines)) (λ y. rw y) (λ y. rw y)

-- ── U ──

-- what is so of a U that no condition refuses: the row of the name leads to the slot of the record that carries it
pub record Detaches (T : State) (l : List ℕ) : Type 0 where
  pub row : row_of T.notes.titles l ≡ suc (pred (row_of T.notes.titles l))
  pub owner : T.notes.titles.owner (pred (row_of T.notes.titles l)) ≡ suc (pred (carrier T l))

module _ (T : State) (l : List ℕ) (n : NoneHolds (bad_name l ∷ unknown_name T l ∷ [])) where
  pub detaches : Detaches T l
  detaches =
      let X = T.notes.titles in
      let (i, e) = pos (row_of X l) (not_zero (row_of X l) (none_at (bad_name l ∷ unknown_name T l ∷ []) n 17)) in
      let (h, p, t) = row_found X l i e in
      let (s, o) = pos (X.owner i) p in
      record {
        row = e ∙ ap (λ k. suc (pred k)) (sym e);
        owner = ap X.owner (ap pred e) ∙ o ∙ ap (λ k. suc (pred k)) (sym (owner_from X l i s e o));
      }

  pub names_kept_detach : NamesFit T.view T.notes → NamesFit T.view (detached T l)
  names_kept_detach F =
      let d = detaches in
      let X = T.notes.titles in
      agree_unnamed F (pred (row_of X l)) (pred (carrier T l)) (row_found X l (pred (row_of X l)) d.row).0 d.owner

  -- (the book's step of U is this)
  pub sides_kept_detach : (B : Book) → NamesTold T.view T.notes B.names → NamesTold T.view (detached T l) (name_off B.names l)
  sides_kept_detach B A =
      let d = detaches in
      sides_unnamed A (pred (row_of T.notes.titles l)) (pred (carrier T l)) l d.row d.owner

pub agree_detach : (K : View) (B : Book) (P b : ℕ) (l : List ℕ) → Agree K B → Agree K (accept P B (Detach l) b)
agree_detach K B P b l G = record { last = G.last; booked = G.booked; stored = G.stored }
