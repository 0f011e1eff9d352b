-- The book has as many names as rows are in use: 32 at most.
use mathlib.Core.Path.{◌≡◌, refl, sym, ap, ◌∙◌}
use mathlib.Core.Logic.{inl, inr, ◌↔◌}
use mathlib.Core.Bool.{false}
use mathlib.Core.List.{List, [], ◌∷◌}
use Prim.Native.Nat.{ℕ, suc, pred, ◌≤◌}
use native.Mathlib.Omega.{arith}
use lib.Dec.{ltb}
use lib.ListN.{length}
use borrow.Author.Tests.{lt-ltb, ltb-true, le-ltb}
use Rattle.answer.proofs.Cases.{cases}
use Rattle.model.specs.Lists.{In, Once}
use Rattle.model.specs.Held.{tally}
use Rattle.model.specs.View.{View}
use Rattle.model.specs.Names.{Titles, row_of, empty_row}
use Rattle.model.specs.Book.{NameOn}
use Rattle.model.specs.NameBook.{HasName, Unknown, OnceNamed}
use Rattle.model.proofs.Tally.{length_is, tally_le}
use Rattle.model.proofs.NameRows.{row?, row_found, row_is, row_carried, empty?, empty_found, empty_none, tally_full, tally_less}
use Rattle.model.proofs.NameBook.{SidesAgree, on_record, unused_unknown}

-- the rows of the book's names
rows_of : Titles → List NameOn → List ℕ
rows_of X [] = []
rows_of X (p ∷ ps) = pred (row_of X p.0) ∷ rows_of X ps

rows_length : (X : Titles) (ps : List NameOn) → length (rows_of X ps) ≡ length ps
unfolding rows_of
rows_length X [] = refl
rows_length X (p ∷ ps) = ap suc (rows_length X ps)

in_rows : (X : Titles) (ps : List NameOn) (i : ℕ) → In i (rows_of X ps) → (l : List ℕ) × (n : ℕ) × HasName ps l n × (i ≡ pred (row_of X l))
unfolding rows_of
in_rows X [] i h = absurd h
in_rows X (p ∷ ps) i h =
    cases h
    (λ e. (p.0, p.1, inl (refl, refl), e))
    (λ j. let (l, n, a, e) = in_rows X ps i j in (l, n, inr a, e))

has_row : (X : Titles) (ps : List NameOn) (l : List ℕ) (n : ℕ) → HasName ps l n → In (pred (row_of X l)) (rows_of X ps)
unfolding rows_of
has_row X [] l n h = absurd h
has_row X (p ∷ ps) l n h =
    cases h
    (λ (a : (p.0 ≡ l) × (p.1 ≡ n)). inl (ap (λ (k : List ℕ). pred (row_of X k)) (sym a.0)))
    (λ g. inr (has_row X ps l n g))

rows_once : (X : Titles) (ps : List NameOn) → ((l : List ℕ) (n : ℕ) → HasName ps l n → (i : ℕ) × (row_of X l ≡ suc i)) → OnceNamed ps → Once (rows_of X ps)
unfolding rows_of
rows_once X [] h o = tt
rows_once X (p ∷ ps) h o = (
  λ j k e.
      let (l, n, a, d) = in_rows X ps j k in
      let (i, f) = h p.0 p.1 (inl (refl, refl)) in
      let (m, g) = h l n (inr a) in
      let same : m ≡ i = sym (ap pred g) ∙ sym d ∙ sym e ∙ ap pred f in
      let one : p.0 ≡ l = sym (row_found X p.0 i f).2 ∙ ap X.text (sym same) ∙ (row_found X l m g).2 in
      o.0 n (rw one a),
  rows_once X ps (λ l n a. h l n (inr a)) o.1,
)

module _ {K : View} {X : Titles} {names : ℕ → ℕ} {ps : List NameOn} (A : SidesAgree K X names ps) where
  -- a name in use is one that the book has, of any bytes
  pub known_row : (l : List ℕ) (n : ℕ) → HasName ps l n → (i : ℕ) × (row_of X l ≡ suc i)
  known_row l n h = cases (row? X l) (λ w. w) (λ e. absurd (unused_unknown A l e n h))

  pub row_known : (l : List ℕ) (i : ℕ) → row_of X l ≡ suc i → (n : ℕ) × HasName ps l n
  row_known l i e = let (s, c) = row_carried X l i e in (K.num s, (on_record A l (K.num s)).1 (s, c, refl))

  -- A NAME HAS NO ROW exactly where the book does not know it
  pub unknown_iff : (l : List ℕ) → (row_of X l ≡ 0) ↔ Unknown ps l
  unknown_iff l = (
    unused_unknown A l,
    λ u. cases (row? X l) (λ w. let (i, e) = w in let (n, h) = row_known l i e in absurd (u n h)) (λ e. e),
  )

  -- THE BOOK HAS AS MANY NAMES AS ROWS ARE IN USE
  pub names_counted : length ps ≡ tally (λ i. ltb 0 (X.owner i)) 32
  names_counted =
      sym (rows_length X ps) ∙
      length_is (rows_of X ps) (λ i. ltb 0 (X.owner i)) 32 (rows_once X ps known_row A.once)
      (λ i j.
      let (l, n, a, d) = in_rows X ps i j in
      let (m, g) = known_row l n a in
      let (h, o, t) = row_found X l m g in
      let e : i ≡ m = d ∙ ap pred g in
      (omega arith, lt-ltb 0 (X.owner i) (rw (sym e) at o)))
      (λ i h e.
      let f = row_is X (X.text i) A.rows.different i h (ltb-true 0 (X.owner i) e) refl in
      let (n, a) = row_known (X.text i) i f in
      let r = has_row X ps (X.text i) n a in
      rw (ap pred f) at r)

  -- "the store holds at most 32" (1.10)
  pub names_few : length ps ≤ 32
  names_few = omega (arith, names_counted, tally_le (λ i. ltb 0 (X.owner i)) 32)

  -- no row is empty exactly where the book has 32
  pub full_iff : (empty_row X ≡ 0) ↔ (32 ≤ length ps)
  full_iff = (
    λ e. omega (arith, names_counted, tally_full (λ i. ltb 0 (X.owner i)) 32 (λ i h. lt-ltb 0 (X.owner i) (empty_none X e i h))),
    λ h. cases (empty? X)
        (λ w.
        let (i, e) = w in
        let (g, o) = empty_found X i e in
        let off : ltb 0 (X.owner i) ≡ false = le-ltb 0 (X.owner i) (omega arith) in
        absurd (let z : ⊥ = omega (arith, names_counted, tally_less (λ i. ltb 0 (X.owner i)) 32 i g off) in z))
        (λ e. e),
  )
