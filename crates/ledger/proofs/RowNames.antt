-- The names that the rows hold, as the book would list them; so in any book that has the names of a sound store there are as many as rows in use.
use mathlib.Core.Path.{◌≡◌, refl, sym, ap, ◌∙◌}
use mathlib.Core.Logic.{◌⊎◌, inl, inr, ◌↔◌}
use mathlib.Core.Bool.{cond}
use mathlib.Core.List.{List, [], ◌∷◌}
use Prim.Native.Nat.{ℕ, zero, suc, ◌≤◌, ◌<◌}
use native.Mathlib.Omega.{arith}
use lib.Dec.{eqb, ltb, leb}
use lib.ListN.{length}
use borrow.Author.Tests.{eq-eqb, ne_eqb, le-leb, lt-leb, lt-ltb, le-ltb, ltb-true, ltb-false}
use Rattle.answer.proofs.Cases.{cases, either, same?, pos}
use Rattle.model.specs.Table.{via}
use Rattle.model.specs.View.{View}
use Rattle.model.specs.Held.{tally}
use Rattle.model.specs.Names.{Titles, same_name, owner_of, empty_row}
use Rattle.model.specs.NamesAgree.{NamesAgree}
use Rattle.model.specs.Book.{NameOn, name_off}
use Rattle.model.specs.NameBook.{HasName, OnceNamed}
use Rattle.model.proofs.TabFacts.{via_suc}
use Rattle.model.proofs.NameBytes.{same_not}
use Rattle.model.proofs.NameRows.{Different, owner_carried, carried_owner, empty_found, empty_none, empty?, tally_full, tally_less}
use Rattle.model.proofs.NameBook.{off_has, SidesAgree}

-- ── how many names a book has ──

off_le : (ps : List NameOn) (l : List ℕ) → length (name_off ps l) ≤ length ps
unfolding name_off
off_le [] l = omega arith
off_le (p ∷ ps) l =
    cases (either (same_name p.0 l))
    (λ y. rw y (omega (arith, off_le ps l)))
    (λ n. rw n (omega (arith, off_le ps l)))

-- a name that is there goes
off_less : (ps : List NameOn) (l : List ℕ) (n : ℕ) → HasName ps l n → length (name_off ps l) < length ps
unfolding name_off
off_less [] l n h = absurd h
off_less (p ∷ ps) l n h =
    cases (either (same_name p.0 l))
    (λ y. rw y (omega (arith, off_le ps l)))
    (λ f. rw f (cases h
    (λ (a : (p.0 ≡ l) × (p.1 ≡ n)). absurd (same_not p.0 l f a.0))
    (λ g. omega (arith, off_less ps l n g))))

-- a book with no name twice, whose names another book has too, has no more of them
no_more : (ps qs : List NameOn) → OnceNamed ps → ((l : List ℕ) (n : ℕ) → HasName ps l n → HasName qs l n) → length ps ≤ length qs
no_more [] qs o h = omega arith
no_more (p ∷ ps) qs o h =
    let less = off_less qs p.0 p.1 (h p.0 p.1 (inl (refl, refl))) in
    let rest = no_more ps (name_off qs p.0) o.1
    (λ l n g. (off_has qs p.0 l n).1 (h l n (inr g), λ e. o.0 n (rw e at g))) in
    omega (arith, less, rest)

pub as_many : (ps qs : List NameOn) → OnceNamed ps → OnceNamed qs → ((l : List ℕ) (n : ℕ) → HasName ps l n ↔ HasName qs l n) → length ps ≡ length qs
as_many ps qs o u h = omega (arith, no_more ps qs o (λ l n. (h l n).0), no_more qs ps u (λ l n. (h l n).1))

-- ── the names of the rows ──

module _ (K : View) (X : Titles) where
  -- of the first k rows, those in use: the name, and the number of the record that carries it
  unfoldable pub row_names : ℕ → List NameOn
  row_names zero = []
  row_names (suc k) = cond (ltb 0 (X.owner k)) ((X.text k, via K.num (X.owner k)) ∷ row_names k) (row_names k)

  rows_many : (k : ℕ) → length (row_names k) ≡ tally (λ i. ltb 0 (X.owner i)) k
  unfolding row_names tally
  rows_many zero = refl
  rows_many (suc k) =
      cases (either (ltb 0 (X.owner k)))
      (λ y. rw y (omega (arith, rows_many k)))
      (λ n. rw n (omega (arith, rows_many k)))

  -- one of the first k rows has the name l, for the record of number n
  record RowOf (k : ℕ) (l : List ℕ) (n : ℕ) : Type 0 where
    row : ℕ
    room : row < k
    used : 0 < X.owner row
    text : X.text row ≡ l
    number : via K.num (X.owner row) ≡ n

  one_more_lem : (k : ℕ) (l : List ℕ) (n : ℕ) → RowOf k l n → RowOf (suc k) l n
  one_more_lem k l n w = record { row = w.row; room = omega (arith, w.room); used = w.used; text = w.text; number = w.number }

  one_less_lem : (k : ℕ) (l : List ℕ) (n : ℕ) (w : RowOf (suc k) l n) → (w.row ≡ k → ⊥) → RowOf k l n
  one_less_lem k l n w d = record { row = w.row; room = omega (arith, w.room); used = w.used; text = w.text; number = w.number }

  rows_have : (k : ℕ) (l : List ℕ) (n : ℕ) → HasName (row_names k) l n ↔ RowOf k l n
  unfolding row_names
  rows_have zero l n = (λ h. absurd h, λ (w : RowOf 0 l n). let z : ⊥ = omega (arith, w.room) in absurd z)
  rows_have (suc k) l n =
      let ih = rows_have k l n in
      cases (either (ltb 0 (X.owner k)))
      (λ y. rw y (
        λ (h : ((X.text k ≡ l) × (via K.num (X.owner k) ≡ n)) ⊎ HasName (row_names k) l n). cases h
            (λ a. record { row = k; room = omega arith; used = ltb-true 0 (X.owner k) y; text = a.0; number = a.1 })
            (λ g. one_more_lem k l n (ih.0 g)),
        λ (w : RowOf (suc k) l n). cases (same? w.row k)
            (λ e. inl (ap X.text (sym e) ∙ w.text, ap (λ i. via K.num (X.owner i)) (sym e) ∙ w.number))
            (λ d. inr (ih.1 (one_less_lem k l n w d))),
      ))
      (λ f. rw f (
        λ g. one_more_lem k l n (ih.0 g),
        λ (w : RowOf (suc k) l n). ih.1 (one_less_lem k l n w (λ e. let z : ⊥ = omega (arith, w.used, ap X.owner e, ltb-false 0 (X.owner k) f) in z)),
      ))

  rows_once : Different X → (k : ℕ) → k ≤ 32 → OnceNamed (row_names k)
  unfolding row_names
  rows_once D zero h = tt
  rows_once D (suc k) h =
      cases (either (ltb 0 (X.owner k)))
      (λ y. rw y (
        λ n g.
            let w = (rows_have k (X.text k) n).0 g in
            let e = D w.row k (omega (arith, w.room)) (omega arith) w.used (ltb-true 0 (X.owner k) y) w.text in
            let z : ⊥ = omega (arith, w.room) in
            absurd z,
        rows_once D k (omega arith),
      ))
      (λ f. rw f (rows_once D k (omega arith)))

  -- THE ROWS OF A SOUND STORE, listed, are the names of a book that has its names
  pub rows_agree : (names : ℕ → ℕ) → NamesAgree K X names → SidesAgree K X names (row_names 32)
  rows_agree names N = record {
    rows = N;
    told = λ l n. (
      λ h.
          let w = (rows_have 32 l n).0 h in
          let (s, e) = pos (X.owner w.row) w.used in (
            s,
            carried_owner X l N.different s (record { row = w.row; room = w.room; owner = e; text = w.text }),
            sym (via_suc K.num s) ∙ ap (via K.num) (sym e) ∙ w.number,
          ),
      λ (w : (s : ℕ) × (owner_of X l ≡ suc s) × (K.num s ≡ n)).
          let (s, o, e) = w in
          let c = owner_carried X l s o in
          (rows_have 32 l n).1 (record {
            row = c.row;
            room = c.room;
            used = omega (arith, c.owner);
            text = c.text;
            number = ap (via K.num) c.owner ∙ via_suc K.num s ∙ e;
          }),
    );
    once = rows_once N.different 32 (omega arith);
  }

  module _ (names : ℕ → ℕ) (ps : List NameOn) (A : SidesAgree K X names ps) where
    -- THE BOOK HAS AS MANY NAMES AS ROWS ARE IN USE
    pub names_many : length ps ≡ tally (λ i. ltb 0 (X.owner i)) 32
    names_many =
        let R = rows_agree names A.rows in
        as_many ps (row_names 32) A.once R.once (λ l n. (λ h. (R.told l n).1 ((A.told l n).0 h), λ h. (A.told l n).1 ((R.told l n).0 h))) ∙
        rows_many 32

    -- a thirty-third, by the book and by the rows
    pub full_alike : leb 32 (length ps) ≡ eqb (empty_row X) 0
    full_alike =
        cases (empty? X)
        (λ (w : (i : ℕ) × (empty_row X ≡ suc i)).
        let (i, e) = w in
        let (h, o) = empty_found X i e in
        let less = tally_less (λ j. ltb 0 (X.owner j)) 32 i h (le-ltb 0 (X.owner i) (omega arith)) in
        lt-leb 32 (length ps) (omega (arith, names_many, less)) ∙ sym (ne_eqb (empty_row X) 0 (λ z. let y : ⊥ = omega arith in y)))
        (λ e.
        let full = tally_full (λ j. ltb 0 (X.owner j)) 32 (λ i h. lt-ltb 0 (X.owner i) (empty_none X e i h)) in
        le-leb 32 (length ps) (omega (arith, names_many, full)) ∙ sym (eq-eqb (empty_row X) 0 e))
