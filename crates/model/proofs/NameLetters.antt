-- Names as code compares them: length, then letter by letter.
use mathlib.Core.Path.{◌≡◌, sym, ap, ◌∙◌}
use mathlib.Core.Logic.{◌↔◌}
use mathlib.Core.Bool.{true, false≢true}
use mathlib.Core.List.{List}
use Prim.Native.Nat.{ℕ, ◌+◌, ◌<◌}
use native.Mathlib.Omega.{arith}
use lib.Dec.{eqb}
use lib.ListN.{length, get_or}
use lib.Seq.{ext_get_or}
use Rattle.answer.proofs.Cases.{cases, either}
use Rattle.model.specs.Layout.{numbers}
use Rattle.model.specs.Names.{same_name, same_letters}
use Rattle.model.proofs.LayoutFacts.{length_numbers, get_d_numbers}
use Rattle.model.proofs.Reflect.{Says, says_eq, says_map, says_all, ◌&◌}
use Rattle.model.proofs.NameBytes.{says_name, same_false}

module _ (t : List ℕ) (at n : ℕ) (l : List ℕ) where
  pub says_spelled : Says (same_letters t at n l) (numbers t at n ≡ l)
  unfolding same_letters
  says_spelled =
      says_map
      (λ p. ext_get_or 0 (numbers t at n) l (length_numbers t at n ∙ p.0)
      (λ i h. let k : i < n = omega (arith, length_numbers t at n) in get_d_numbers t at n i k ∙ p.1 i k))
      (λ e. (
        sym (length_numbers t at n) ∙ ap length e,
        λ i h. sym (get_d_numbers t at n i h) ∙ ap (λ (k : List ℕ). get_or k i 0) e,
      ))
      (says_eq n (length l) &
      says_all (λ i. eqb (get_or t (at + i) 0) (get_or l i 0)) (λ i. get_or t (at + i) 0 ≡ get_or l i 0) n (λ i. says_eq (get_or t (at + i) 0) (get_or l i 0)))

  -- LENGTH, THEN LETTER BY LETTER: the numbers from an address on are the name
  pub letters_iff : (same_letters t at n l ≡ true) ↔ (numbers t at n ≡ l)
  letters_iff = (says_spelled.holds, says_spelled.passes)

  -- so it is the comparison of the rows' names
  pub letters_same : same_letters t at n l ≡ same_name (numbers t at n) l
  letters_same =
      cases (either (same_letters t at n l))
      (λ y. y ∙ sym ((says_name (numbers t at n) l).passes (says_spelled.holds y)))
      (λ y. y ∙ sym (same_false (numbers t at n) l (λ e. false≢true (sym y ∙ says_spelled.passes e))))
