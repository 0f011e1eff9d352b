-- Links joined bit by bit: at each turn those of the slots that were seen.
use mathlib.Core.Path.{◌≡◌}
use mathlib.Core.Bool.{Bool}
use Prim.Native.Nat.{ℕ, ◌<◌}
use Rattle.tables.specs.Columns.{gathered}
use Rattle.tables.proofs.find.links_where.Given as goal

abbrev pub invariant-loop-s : goal.invariant-loop-s
invariant-loop-s g l = (c : ℕ → Bool) → ((s : ℕ) (r : Bool) → s < l.slots → goal.F-post g l.is s r → r ≡ c s) → l.found ≡ gathered c l.s
