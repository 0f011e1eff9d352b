-- The deletes of a line's oldest records, one after another.
use Rattle.std.specs.Prelude.{List, map, ℕ}
use Rattle.geometry.specs.declared.Geometry.{Geometry}
use Rattle.model.specs.View.{View}
use Rattle.model.specs.Lists.{trim_walk}
use Rattle.model.specs.Actions.{Action, do_d}
use Rattle.model.specs.Window.{sealed_of, bare}
use Rattle.model.specs.Layout.{view_of, state_of}
use Rattle.model.specs.Memory.{stored_along}

-- of the records of l, which is oldest first: those of the first k without a fork and without a name, and never of the last
unfoldable pub oldest : View → (ℕ → ℕ) → ℕ → List ℕ → List Action
oldest K names k l = map do_d (trim_walk (bare K names) k l)

-- ── in the tables t, of the line of the record in slot r ──

abbrev pub oldest_in : Geometry → List ℕ → ℕ → ℕ → List Action
oldest_in g t k r = oldest (view_of g t) (state_of g t).notes.names k (sealed_of (view_of g t) r)

-- the tables that they leave, each stored in those that the one before left
unfoldable pub oldest_left : Geometry → List ℕ → ℕ → ℕ → List ℕ
oldest_left g t k r = stored_along g (state_of g t) (oldest_in g t k r) t
