-- The rows of names as the tables' own numbers; which row has a link; and the one row of an open record, which goes to another.
use mathlib.Core.Path.{◌≡◌, refl, sym, ap, ◌∙◌}
use mathlib.Core.Bool.{◌&&◌}
use mathlib.Core.List.{List, []}
use Prim.Native.Nat.{ℕ, suc, ◌+◌, ◌≤◌, ◌<◌}
use native.Mathlib.Omega.{arith}
use lib.Dec.{eqb, ltb}
use lib.ListN.{length, get_or}
use borrow.Author.Tests.{eq-eqb, ne_eqb, lt-ltb, eqb-true, eqb-false}
use Rattle.answer.proofs.Cases.{cases, same?, lt?, pos}
use Rattle.model.specs.View.{View}
use Rattle.model.specs.Names.{Titles, carries, same_letters, empty_row, moved}
use Rattle.model.specs.NamesAgree.{NamesAgree, owned}
use Rattle.model.specs.Layout.{title_cell, letters_cell, field, numbers, titles_of}
use Rattle.model.proofs.TabFacts.{put_at, put_other, seek_found, seek_none}
use Rattle.model.proofs.ShapeFacts.{field_out}
use Rattle.model.proofs.LayoutFacts.{length_numbers, get_d_numbers}
use Rattle.model.proofs.NameLetters.{letters_same}
use Rattle.model.proofs.NameRows.{owned_none, owned_some, owned_one, moved_owner, moved_owners, moved_texts}
use Rattle.tables.specs.Titles.{row_with, with_owner}

-- ── what stands in row i ──

module _ (t : List ℕ) where
  pub link_at : (i : ℕ) → i < 32 → (titles_of t).owner i ≡ get_or t (title_cell i) 0
  unfolding titles_of field
  link_at i h = rw (lt-ltb i 32 h)

  -- no row from 32 on is in use
  pub link_out : (i : ℕ) → 32 ≤ i → (titles_of t).owner i ≡ 0
  unfolding titles_of
  link_out i h = field_out t i 32 (title_cell i) h

  pub link_in : (i : ℕ) → 0 < (titles_of t).owner i → i < 32
  link_in i h = cases (lt? i 32) (λ l. l) (λ l. absurd (let z : ⊥ = omega (arith, link_out i l) in z))

  -- a row in use has its letters, an empty one has none
  pub text_at : (i : ℕ) → i < 32 → 0 < get_or t (title_cell i) 0 → (titles_of t).text i ≡ numbers t (letters_cell i) (get_or t (title_cell i + 1) 0)
  unfolding titles_of field
  text_at i h o = rw (lt-ltb i 32 h, ne_eqb (get_or t (title_cell i) 0) 0 (λ e. let z : ⊥ = omega arith in z))

  pub text_none : (i : ℕ) → (titles_of t).owner i ≡ 0 → (titles_of t).text i ≡ []
  unfolding titles_of
  text_none i e = rw (eq-eqb _ 0 e)

  pub text_length : (i : ℕ) → i < 32 → 0 < get_or t (title_cell i) 0 → length ((titles_of t).text i) ≡ get_or t (title_cell i + 1) 0
  text_length i h o = ap length (text_at i h o) ∙ length_numbers t (letters_cell i) (get_or t (title_cell i + 1) 0)

  pub letter_at : (i k : ℕ) → i < 32 → 0 < get_or t (title_cell i) 0 → k < get_or t (title_cell i + 1) 0 →
      get_or ((titles_of t).text i) k 0 ≡ get_or t (letters_cell i + k) 0
  letter_at i k h o l = ap (λ m. get_or m k 0) (text_at i h o) ∙ get_d_numbers t (letters_cell i) (get_or t (title_cell i + 1) 0) k l

  -- A ROW IS LOOKED AT by its link, its length and its letters
  pub carries_at : (l : List ℕ) (i : ℕ) → i < 32 →
      carries (titles_of t) l i ≡ (ltb 0 (get_or t (title_cell i) 0) && same_letters t (letters_cell i) (get_or t (title_cell i + 1) 0) l)
  unfolding carries
  carries_at l i h =
      cases (lt? 0 (get_or t (title_cell i) 0))
      (λ o. rw (link_at i h, text_at i h o, letters_same t (letters_cell i) (get_or t (title_cell i + 1) 0) l))
      (λ o.
      let e : get_or t (title_cell i) 0 ≡ 0 = omega arith in
      rw (link_at i h, e))

  -- of rows that agree with the records no name is longer than 32 letters
  pub text_short : (K : View) (names : ℕ → ℕ) → NamesAgree K (titles_of t) names → (i : ℕ) → length ((titles_of t).text i) ≤ 32
  text_short K names N i =
      cases (same? ((titles_of t).owner i) 0)
      (λ z. omega (arith, ap length (text_none i z)))
      (λ n. let (s, e) = pos ((titles_of t).owner i) (omega arith) in (N.valid i s (link_in i (omega arith)) e).short)

-- ── the row that has a link ──

module _ (X : Titles) where
  pub row_with_found : (link i : ℕ) → row_with X link ≡ suc i → (i < 32) × (X.owner i ≡ link)
  unfolding row_with
  row_with_found link i e =
      let (c, a, b) = seek_found (λ i. eqb (X.owner i) link) 32 0 i e in
      (omega arith, eqb-true (X.owner i) link c)

  pub row_with_none : (link : ℕ) → row_with X link ≡ 0 → (i : ℕ) → i < 32 → X.owner i ≡ link → ⊥
  unfolding row_with
  row_with_none link e i h = eqb-false (X.owner i) link (seek_none (λ i. eqb (X.owner i) link) 32 0 i e (omega arith) (omega arith))

  -- with no link it is the first empty row
  pub row_with_zero : row_with X 0 ≡ empty_row X
  unfolding row_with empty_row
  row_with_zero = refl

-- ── the names of slot r go to slot f ──

titles_ext : (X Y : Titles) → ((j : ℕ) → X.owner j ≡ Y.owner j) → ((j : ℕ) → X.text j ≡ Y.text j) → X ≡ Y
titles_ext X Y a b = λ k. record { owner = λ j. a j k; text = λ j. b j k }

module _ (X : Titles) (r f : ℕ) where
  -- row i, which is the only one of r, has the link of f
  pub moved_one : (i : ℕ) → X.owner i ≡ suc r → ((j : ℕ) → X.owner j ≡ suc r → j ≡ i) → with_owner X i (suc f) ≡ moved X r f
  unfolding with_owner
  moved_one i e one =
      titles_ext (with_owner X i (suc f)) (moved X r f)
      (λ j. cases (same? j i)
      (λ d. put_at X.owner i (suc f) j d ∙ sym (moved_owner X r f j (ap X.owner d ∙ e)))
      (λ n. put_other X.owner i (suc f) j n ∙ sym (moved_owners X r f j (λ d. n (one j d)))))
      (λ j. sym (moved_texts X r f j))

  -- r has none: nothing changes
  pub moved_none : ((j : ℕ) → X.owner j ≡ suc r → ⊥) → X ≡ moved X r f
  moved_none none = titles_ext X (moved X r f) (λ j. sym (moved_owners X r f j (none j))) (λ j. sym (moved_texts X r f j))

-- the rows of a record, by its count
module _ (X : Titles) (s : ℕ) (out : (i : ℕ) → 32 ≤ i → X.owner i ≡ 0) where
  inside : (i : ℕ) → X.owner i ≡ suc s → i < 32
  inside i e = cases (lt? i 32) (λ l. l) (λ l. absurd (let z : ⊥ = omega (arith, out i l) in z))

  pub owned_zero : owned X s ≡ 0 → (j : ℕ) → X.owner j ≡ suc s → ⊥
  owned_zero z j e = let w : ⊥ = omega (arith, owned_some X s j (inside j e) e) in w

  pub owned_once : owned X s ≤ 1 → (i : ℕ) → X.owner i ≡ suc s → (j : ℕ) → X.owner j ≡ suc s → j ≡ i
  owned_once l i e j d = owned_one X s l j i (inside j d) (inside i e) d e

  -- where it has a name, a row has its link
  pub row_with_some : 0 < owned X s → 0 < row_with X (suc s)
  row_with_some h =
      cases (lt? 0 (row_with X (suc s))) (λ l. l)
      (λ l. absurd (let z : ⊥ = omega (arith, owned_none X s (row_with_none X (suc s) (omega arith))) in z))
