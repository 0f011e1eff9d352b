-- What a name is, and that names are compared whole.
use mathlib.Core.Path.{◌≡◌, refl, sym, ap, ap₂, ◌∙◌}
use mathlib.Core.Logic.{inl, inr, ◌↔◌}
use mathlib.Core.Bool.{true, false, not, false≢true}
use mathlib.Core.List.{List, [], ◌∷◌}
use Prim.Native.Nat.{ℕ, ◌≤◌}
use lib.ListN.{length}
use borrow.Author.Tests.{eq-eqb}
use Rattle.answer.proofs.Cases.{cases, either}
use Rattle.model.specs.Lists.{In}
use Rattle.model.specs.Names.{letters, valid_name, ValidName, same_name}
use Rattle.model.proofs.Reflect.{Says, says_eq, says_lt, says_le, says_map, says_true, ◌&◌}

-- ── compared whole ──

same_refl : (l : List ℕ) → same_name l l ≡ true
unfolding same_name
same_refl [] = refl
same_refl (b ∷ l) = rw (eq-eqb b b refl) (same_refl l)

same_true : (l m : List ℕ) → same_name l m ≡ true → l ≡ m
unfolding same_name
same_true [] [] e = refl
same_true [] (c ∷ m) e = absurd (false≢true e)
same_true (b ∷ l) [] e = absurd (false≢true e)
same_true (b ∷ l) (c ∷ m) e =
    let w = (says_eq b c & record { holds = same_true l m; passes = λ d. ap (same_name l) (sym d) ∙ same_refl l }).holds e in
    ap₂ {C = List ℕ} (λ x k. x ∷ k) w.0 w.1

pub says_name : (l m : List ℕ) → Says (same_name l m) (l ≡ m)
says_name l m = record { holds = same_true l m; passes = λ e. ap (same_name l) (sym e) ∙ same_refl l }

-- THE COMPARISON OF NAMES IS EQUALITY
pub same_iff : (l m : List ℕ) → (same_name l m ≡ true) ↔ (l ≡ m)
same_iff l m = ((says_name l m).holds, (says_name l m).passes)

pub same_not : (l m : List ℕ) → same_name l m ≡ false → l ≡ m → ⊥
same_not l m e d = false≢true (sym e ∙ (says_name l m).passes d)

pub same_false : (l m : List ℕ) → (l ≡ m → ⊥) → same_name l m ≡ false
same_false l m n = cases (either (same_name l m)) (λ y. absurd (n (same_true l m y))) (λ y. y)

-- ── "1 to 32 letters a to z" (7.1) ──

says_letters : (l : List ℕ) → Says (letters l) ((b : ℕ) → In b l → (97 ≤ b) × (b ≤ 122))
unfolding letters
says_letters [] = says_true (λ b i. absurd i)
says_letters (c ∷ l) =
    says_map (λ p b i. cases i (λ e. rw e p.0) (λ j. p.1 b j)) (λ h. (h c (inl refl), λ b i. h b (inr i)))
    (says_le 97 c & says_le c 122 & says_letters l)

pub says_valid : (l : List ℕ) → Says (valid_name l) (ValidName l)
unfolding valid_name
says_valid l =
    says_map (λ p. record { some = p.0.0; short = p.0.1; letter = p.1 }) (λ v. ((v.some, v.short), v.letter))
    (says_lt 0 (length l) & says_le (length l) 32 & says_letters l)

pub valid_iff : (l : List ℕ) → (valid_name l ≡ true) ↔ ValidName l
valid_iff l = ((says_valid l).holds, (says_valid l).passes)

-- a name that is not refused 16 is a valid one, and the other way round
pub not_bad : (l : List ℕ) → not (valid_name l) ≡ false → ValidName l
not_bad l e = cases (either (valid_name l)) (says_valid l).holds (λ y. absurd (false≢true (sym (rw y at e))))
