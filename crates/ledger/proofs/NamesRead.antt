-- What the ledger reads of names: which bytes are a name, who has one, and who carries the name l. It is what the rows and the counts say.
use mathlib.Core.Path.{◌≡◌, refl, sym, ap, ap₂, ◌∙◌}
use mathlib.Core.Logic.{◌⊎◌, inl, inr}
use mathlib.Core.Bool.{Bool, false, ◌&&◌}
use mathlib.Core.List.{List, [], ◌∷◌}
use Prim.Native.Nat.{ℕ, suc, ◌≤◌, ◌<◌}
use native.Mathlib.Omega.{arith}
use lib.Dec.{eqb, ltb, leb}
use lib.ListN.{length}
use borrow.Author.Tests.{eq-eqb, ne_eqb, lt-ltb, le-ltb}
use Rattle.answer.proofs.Cases.{cases, either, same?}
use Rattle.geometry.specs.declared.Geometry.{Geometry}
use Rattle.geometry.specs.Limits.{Inside}
use Rattle.model.specs.Lists.{keep_if}
use Rattle.model.specs.View.{View}
use Rattle.model.specs.Actions.{slot_of}
use Rattle.model.specs.Names.{Titles, letters, valid_name, same_name, row_of, owner_of}
use Rattle.model.specs.State.{State}
use Rattle.model.specs.Calls.{slot}
use Rattle.model.specs.Book.{NameOn, named_in}
use Rattle.model.specs.NameBook.{HasName, Unknown, OnceNamed}
use Rattle.model.proofs.NameBytes.{says_name, same_not}
use Rattle.model.proofs.NameRows.{row?, row_carried, carried_owner}
use Rattle.model.proofs.NameBook.{SidesAgree, on_record, unused_unknown, named_alike}
use Rattle.model.proofs.Fine.{Fine, named_slot}
use Rattle.ledger.specs.BookReading.{names_among, carriers_among, has_name}
use Rattle.ledger.specs.Ledger.{Ledger, is_name}
use Rattle.ledger.proofs.Tells.{Tells}

-- ── "1 to 32 letters a to z" (7.1) ──

abbrev letter : ℕ → Bool
letter b = leb 97 b && leb b 122

kept_le : (l : List ℕ) → length (keep_if letter l) ≤ length l
unfolding keep_if
kept_le [] = omega arith
kept_le (b ∷ l) = cases (either (letter b)) (λ y. rw y (omega (arith, kept_le l))) (λ n. rw n (omega (arith, kept_le l)))

-- every byte is a letter where as many letters are kept as there are bytes
all_letters_lem : (l : List ℕ) → eqb (length (keep_if letter l)) (length l) ≡ letters l
unfolding keep_if letters
all_letters_lem [] = refl
all_letters_lem (b ∷ l) =
    cases (either (letter b))
    (λ y. rw y (suc_same (length (keep_if letter l)) (length l) ∙ all_letters_lem l))
    (λ n. rw n (ne_eqb (length (keep_if letter l)) (suc (length l)) (λ e. let z : ⊥ = omega (arith, kept_le l) in z)))
  where
    suc_same : (m n : ℕ) → eqb (suc m) (suc n) ≡ eqb m n
    suc_same m n =
        cases (same? m n)
        (λ e. eq-eqb (suc m) (suc n) (ap suc e) ∙ sym (eq-eqb m n e))
        (λ d. ne_eqb (suc m) (suc n) (λ e. d (omega arith)) ∙ sym (ne_eqb m n d))

-- THE LEDGER'S NAMES ARE THE MODEL'S
pub name_alike : (l : List ℕ) → is_name l ≡ valid_name l
unfolding is_name valid_name
name_alike l = ap (λ (t : Bool). (leb 1 (length l) && leb (length l) 32) && t) (all_letters_lem l)

-- ── who has a name ──

pub has_alike : (ps : List NameOn) (r : ℕ) → ltb 0 (length (names_among ps r)) ≡ named_in ps r
unfolding names_among named_in
has_alike [] r = le-ltb 0 0 (omega arith)
has_alike (p ∷ ps) r =
    cases (either (eqb p.1 r))
    (λ y. rw y (lt-ltb 0 (suc (length (names_among ps r))) (omega arith)))
    (λ n. rw n (has_alike ps r))

-- 18, of a record that is there
pub named_told : (g : Geometry) (L : Ledger) (T : State) → Inside g → Fine g T → Tells g L T → (r : ℕ) → eqb (slot_of T.view r) 0 ≡ false →
    has_name L.book r ≡ ltb 0 (T.notes.names (slot T r))
unfolding has_name
named_told g L T inside fine t r n =
    let (h, e) = named_slot g inside T fine r n in
    has_alike L.book.names r ∙ ap (named_in L.book.names) (sym e) ∙ named_alike t.names fine.sound (slot T r) h

-- ── who carries a name ──

carriers_none : (ps : List NameOn) (l : List ℕ) → Unknown ps l → carriers_among ps l ≡ []
unfolding carriers_among
carriers_none [] l u = refl
carriers_none (p ∷ ps) l u =
    cases (either (same_name p.0 l))
    (λ y. absurd (u p.1 (inl ((says_name p.0 l).holds y, refl))))
    (λ n. rw n (carriers_none ps l (λ m h. u m (inr h))))

-- no name is on two records
carriers_one : (ps : List NameOn) (l : List ℕ) (n : ℕ) → OnceNamed ps → HasName ps l n → carriers_among ps l ≡ n ∷ []
unfolding carriers_among
carriers_one [] l n o h = absurd h
carriers_one (p ∷ ps) l n o h =
    cases (either (same_name p.0 l))
    (λ y.
    let none : Unknown ps l = rw ((says_name p.0 l).holds y) at o.0 in
    let here : p.1 ≡ n = cases h (λ (a : (p.0 ≡ l) × (p.1 ≡ n)). a.1) (λ g. absurd (none n g)) in
    rw y (ap₂ {C = List ℕ} (λ m ns. m ∷ ns) here (carriers_none ps l none)))
    (λ d. rw d (carriers_one ps l n o.1 (cases h (λ (a : (p.0 ≡ l) × (p.1 ≡ n)). absurd (same_not p.0 l d a.0)) (λ g. g))))

-- what the rows say of a name, and the book: one record carries it, or none does
pub record CarriedBy (K : View) (X : Titles) (ps : List NameOn) (l : List ℕ) : Type 0 where
  pub slot : ℕ
  pub row : 0 < row_of X l
  pub owner : owner_of X l ≡ suc slot
  pub booked : carriers_among ps l ≡ K.num slot ∷ []

pub record CarriedByNone (X : Titles) (ps : List NameOn) (l : List ℕ) : Type 0 where
  pub row : row_of X l ≡ 0
  pub booked : carriers_among ps l ≡ []

module _ (K : View) (X : Titles) (names : ℕ → ℕ) (ps : List NameOn) (A : SidesAgree K X names ps) (l : List ℕ) where
  pub who_carries : CarriedBy K X ps l ⊎ CarriedByNone X ps l
  who_carries =
      cases (row? X l)
      (λ (w : (i : ℕ) × (row_of X l ≡ suc i)).
      let (i, e) = w in
      let (s, c) = row_carried X l i e in
      inl (record {
        slot = s;
        row = omega arith;
        owner = carried_owner X l A.rows.different s c;
        booked = carriers_one ps l (K.num s) A.once ((on_record A l (K.num s)).1 (s, c, refl));
      }))
      (λ e. inr (record { row = e; booked = carriers_none ps l (unused_unknown A l e) }))

  -- 17 of N, and 17 of U and M
  pub used_alike : ltb 0 (length (carriers_among ps l)) ≡ ltb 0 (row_of X l)
  used_alike =
      cases who_carries
      (λ w. ap (λ (ns : List ℕ). ltb 0 (length ns)) w.booked ∙ lt-ltb 0 1 (omega arith) ∙ sym (lt-ltb 0 (row_of X l) w.row))
      (λ w. ap (λ (ns : List ℕ). ltb 0 (length ns)) w.booked ∙ sym (ap (ltb 0) w.row))

  pub unknown_alike : eqb (length (carriers_among ps l)) 0 ≡ eqb (row_of X l) 0
  unknown_alike =
      cases who_carries
      (λ w. ap (λ (ns : List ℕ). eqb (length ns) 0) w.booked ∙ sym (ne_eqb (row_of X l) 0 (λ e. let z : ⊥ = omega (arith, w.row) in z)))
      (λ w. ap (λ (ns : List ℕ). eqb (length ns) 0) w.booked ∙ sym (ap (λ n. eqb n 0) w.row))
