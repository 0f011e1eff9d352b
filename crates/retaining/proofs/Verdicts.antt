-- The verdict on S, test by test.
use mathlib.Core.Path.{◌≡◌, sym, ◌∙◌}
use mathlib.Core.List.{List}
use Prim.Native.Nat.{ℕ, ◌-◌, ◌≤◌}
use lib.ListN.{get_or}
use borrow.Author.Tests.{eq-eqb, ne_eqb}
use Rattle.std.specs.Prelude.{Err}
use Rattle.geometry.specs.declared.Geometry.{Geometry}
use Rattle.model.specs.Command.{Begin}
use Rattle.model.specs.Actions.{slot_of}
use Rattle.model.specs.Layout.{open_cell, view_of, state_of}
use Rattle.lines.specs.Verdicts.{verdict}
use Rattle.lines.proofs.Verdicts.{Verdict, on_none, on_wrong, on_room, open_at}
use Rattle.retaining.specs.Verdicts.{verdict_on}

-- e is the link of the record of number n
module _ (g : Geometry) (t : List ℕ) (n e : ℕ) (is : e ≡ slot_of (view_of g t) n) where
  pub no_record_lem : e ≡ 0 → Err 8 ≡ verdict_on g t n
  unfolding verdict_on state_of
  no_record_lem z = on_none g t n e is _ z

  module _ (m : e ≡ 0 → ⊥) (l : e ≤ g.records) where
    pub is_sealed_lem : get_or t (open_cell (e - 1)) 0 ≡ 0 → Err 9 ≡ verdict_on g t n
    unfolding verdict_on state_of
    is_sealed_lem z = on_wrong g t n e is _ m (eq-eqb _ 0 (open_at g t n e is m l ∙ z))

    pub is_open_lem : (r : Verdict) → (get_or t (open_cell (e - 1)) 0 ≡ 0 → ⊥) → r ≡ verdict g t Begin (e - 1) → r ≡ verdict_on g t n
    unfolding verdict_on state_of
    is_open_lem r z h = on_room g t n e is _ r m (ne_eqb _ 0 (λ k. z (sym (open_at g t n e is m l) ∙ k))) h
