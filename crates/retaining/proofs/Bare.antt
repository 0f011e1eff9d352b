-- Whether a window may take a record, as the code looks for it: first the count of its names, then its forks.
use mathlib.Core.Path.{◌≡◌, sym, ◌∙◌}
use mathlib.Core.Bool.{Bool, false, not, and-true, and-false}
use mathlib.Core.List.{List}
use Prim.Native.Nat.{ℕ, ◌≤◌, ◌<◌}
use native.Mathlib.Omega.{arith}
use lib.Dec.{eqb, ltb}
use lib.ListN.{get_or}
use borrow.Author.Tests.{eq-eqb, ne_eqb, lt-ltb, le-ltb}
use Rattle.answer.proofs.Cases.{cases, lt?}
use Rattle.geometry.specs.declared.Geometry.{Geometry}
use Rattle.model.specs.Actions.{forked}
use Rattle.model.specs.Window.{bare}
use Rattle.model.specs.Layout.{name_cell, view_of, state_of}
use Rattle.tables.proofs.Fields

none_is : (n : ℕ) → not (ltb 0 n) ≡ eqb n 0
none_is n =
    cases (lt? 0 n)
    (λ l. rw (lt-ltb 0 n l, ne_eqb n 0 (λ e. let z : ⊥ = omega arith in z)))
    (λ l. rw (le-ltb 0 n l, eq-eqb n 0 (omega arith)))

module _ (g : Geometry) (t : List ℕ) (s : ℕ) (h : s < g.records) where
  pub named_not : 0 < get_or t (name_cell s) 0 → false ≡ bare (view_of g t) (state_of g t).notes.names s
  unfolding bare
  named_not l =
      sym (rw (Fields.names_is g t s h, ne_eqb (get_or t (name_cell s) 0) 0 (λ e. let z : ⊥ = omega arith in z))
      (and-false (eqb (forked (view_of g t) s) 0)))

  pub nameless_is : (f : Bool) → get_or t (name_cell s) 0 ≤ 0 → f ≡ ltb 0 (forked (view_of g t) s) →
      not f ≡ bare (view_of g t) (state_of g t).notes.names s
  unfolding bare
  nameless_is f l e =
      rw (Fields.names_is g t s h, eq-eqb (get_or t (name_cell s) 0) 0 (omega arith), e)
      (none_is (forked (view_of g t) s) ∙ sym (and-true (eqb (forked (view_of g t) s) 0)))
