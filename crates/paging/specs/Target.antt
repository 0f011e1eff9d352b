-- A page of an open record, in tables that are known to be sound: what the actions on a page ask.
use Rattle.std.specs.Prelude.{List, ℕ, ◌<◌}
use Rattle.geometry.specs.declared.Geometry.{Geometry}
use Rattle.model.specs.Held.{erased}
use Rattle.model.specs.Layout.{view_of, state_of}
use Rattle.tables.specs.Ready.{Ready}

pub record Target (g : Geometry) (t : List ℕ) (s x : ℕ) : Type 0 where
  pub ready : Ready g t
  pub slot : s < g.records
  pub live : 0 < (view_of g t).num s
  pub is_open : 0 < (view_of g t).is_open s
  pub page : x < g.pages

-- the blocks that are freed when the page becomes empty: one or none
abbrev pub frees_of : Geometry → List ℕ → ℕ → ℕ → List ℕ
frees_of g t s x = erased (state_of g t).view s ((state_of g t).view.page s x)
