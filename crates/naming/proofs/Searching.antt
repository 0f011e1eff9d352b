-- The search for the row of a name: whether a row has it.
use mathlib.Core.Path.{◌≡◌, sym, ap, ◌∙◌}
use mathlib.Core.Bool.{Bool, false}
use mathlib.Core.List.{List}
use Prim.Native.Nat.{ℕ, ◌+◌, ◌<◌}
use native.Mathlib.Omega.{arith}
use lib.ListN.{get_or}
use borrow.Author.Tests.{lt-ltb, le-ltb}
use Rattle.model.specs.Names.{same_letters, carries}
use Rattle.model.specs.Layout.{title_cell, letters_cell, titles_of}
use Rattle.tables.proofs.TitleRows.{carries_at}

module _ (t l : List ℕ) where
  -- row i: it is empty; it is in use, and its name was compared
  module _ (i : ℕ) (h : i < 32) where
    pub has_none : get_or t (title_cell i) 0 ≡ 0 → false ≡ carries (titles_of t) l i
    has_none e = sym (carries_at t l i h ∙ rw (le-ltb 0 (get_or t (title_cell i) 0) (omega arith)))

    pub has_name_lem : {n : ℕ} {r : Bool} → (get_or t (title_cell i) 0 ≡ 0 → ⊥) → n ≡ get_or t (title_cell i + 1) 0 → r ≡ same_letters t (letters_cell i) n l →
        r ≡ carries (titles_of t) l i
    has_name_lem d en er =
        er ∙ ap (λ k. same_letters t (letters_cell i) k l) en ∙ sym (carries_at t l i h ∙ rw (lt-ltb 0 (get_or t (title_cell i) 0) (omega arith)))
