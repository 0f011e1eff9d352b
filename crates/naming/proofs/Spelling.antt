-- The letters of a name: they are tested, compared with numbers of the tables, and stored.
use mathlib.Core.Path.{◌≡◌, refl, sym, ap, ◌∙◌}
use mathlib.Core.Bool.{Bool, false, not, ◌&&◌}
use mathlib.Core.List.{List, [], ◌∷◌}
use Prim.Native.Nat.{ℕ, zero, suc, ◌+◌, ◌≤◌, ◌<◌}
use native.Mathlib.Omega.{arith}
use native.Mathlib.Numerals.{add-one}
use lib.Dec.{eqb, leb}
use lib.ListN.{length, get_or, set, take}
use lib.Seq.{sets, take_all}
use borrow.Author.Tests.{not-false, lt-ltb, le-ltb, le-leb, lt-leb}
use Rattle.std.specs.Bool.{Decides}
use Rattle.std.specs.Char.{is_ascii_lowercase}
use Rattle.std.specs.List.{list_all, between}
use Rattle.std.proofs.lemmas.Bool.{cases_lt}
use Rattle.std.proofs.lemmas.Bool.Decides.{same_from_decides}
use Rattle.std.proofs.lemmas.List.{ext_get_or}
use Rattle.std.proofs.lemmas.List.Edits.{length-between, get_or-between}
use Rattle.answer.proofs.Cases.{cases, either}
use Rattle.model.specs.Names.{letters, valid_name, same_letters}
use Rattle.model.proofs.NameBytes.{valid_iff}
use Rattle.model.proofs.Reflect.{Says, says_eq, says_all, ◌&◌}

-- ── a name ──

letters_all : (l : List ℕ) → list_all is_ascii_lowercase l ≡ letters l
unfolding letters
letters_all [] = refl
letters_all (b ∷ l) = ap (λ r. (leb 97 b && leb b 122) && r) (letters_all l)

module _ (l : List ℕ) where
  pub valid_not : (1 ≤ length l → length l ≤ 32 → ⊥) → false ≡ valid_name l
  unfolding valid_name
  valid_not n =
      cases (cases_lt 0 (length l))
      (λ j. cases (cases_lt 32 (length l)) (λ h. rw (lt-ltb 0 (length l) j, lt-leb (length l) 32 h)) (λ h. absurd (n j h)))
      (λ j. rw (le-ltb 0 (length l) j))

  pub valid_is : {r : Bool} → 1 ≤ length l → length l ≤ 32 → r ≡ list_all is_ascii_lowercase l → r ≡ valid_name l
  unfolding valid_name
  valid_is n h e = rw (lt-ltb 0 (length l) n, le-leb (length l) 32 h) (e ∙ letters_all l)

  -- r is what `is_valid` says
  pub valid_short : {r : Bool} → r ≡ valid_name l → not r ≡ false → length l ≤ 32
  valid_short {r} e n = ((valid_iff l).0 (sym e ∙ not-false r n)).short

-- ── numbers against bytes ──

module _ (t : List ℕ) (at n : ℕ) (l : List ℕ) where
  says_same : Says (same_letters t at n l) ((n ≡ length l) × ((k : ℕ) → k < n → get_or t (at + k) 0 ≡ get_or l k 0))
  unfolding same_letters
  says_same =
      says_eq n (length l) &
      says_all (λ i. eqb (get_or t (at + i) 0) (get_or l i 0)) (λ i. get_or t (at + i) 0 ≡ get_or l i 0) n (λ i. says_eq (get_or t (at + i) 0) (get_or l i 0))

  pub length_differs : (n ≡ length l → ⊥) → false ≡ same_letters t at n l
  length_differs d = cases (either (same_letters t at n l)) (λ y. absurd (d (says_same.holds y).0)) (λ y. sym y)

  -- r is what the comparison of the n numbers with the bytes says
  pub letters_agree : (r : Bool) → n ≡ length l → at + n ≤ length t → Decides r (between at (at + n) t ≡ l) → r ≡ same_letters t at n l
  letters_agree r e h d =
      let long = length-between t at (at + n) h in
      let each : (k : ℕ) → k < n → get_or (between at (at + n) t) k 0 ≡ get_or t (at + k) 0 = λ k j. get_or-between t at (at + n) k 0 (omega arith) in
      same_from_decides r (same_letters t at n l) d (
        (λ y.
            ext_get_or 0 _ _ (long ∙ omega arith)
            (λ k j. each k (omega (arith, long)) ∙ (says_same.holds y).1 k (omega (arith, long)))),
        (λ y. says_same.passes (e, λ k j. sym (each k j) ∙ ap (λ m. get_or m k 0) y)),
      )

-- ── bytes stored: the first i are ──

sets_next : (t : List ℕ) (at : ℕ) (l : List ℕ) (i : ℕ) → i < length l → set (sets t at (take i l)) (at + i) (get_or l i 0) ≡ sets t at (take (suc i) l)
sets_next t at [] i h = absurd (let z : ⊥ = omega arith in z)
sets_next t at (b ∷ l) zero h = ap (λ a. set t a b) (omega arith)
sets_next t at (b ∷ l) (suc i) h =
    ap (λ a. set (sets (set t at b) (suc at) (take i l)) a (get_or l i 0)) (omega arith) ∙ sets_next (set t at b) (suc at) l i (omega arith)

module _ (t₀ : List ℕ) (at : ℕ) (l : List ℕ) (t : List ℕ) (i : ℕ) (e : t ≡ sets t₀ at (take i l)) where
  pub stored_next : {b : ℕ} → i < length l → b ≡ get_or l i 0 → set t (at + i) b ≡ sets t₀ at (take (i + 1) l)
  stored_next h d = rw (e, d, add-one i) (sets_next t₀ at l i h)

  pub stored_all : length l ≤ i → t ≡ sets t₀ at l
  stored_all h = e ∙ ap (sets t₀ at) (take_all i l h)
