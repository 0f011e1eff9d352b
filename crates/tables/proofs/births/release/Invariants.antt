-- The blocks that wait, one after another.
use mathlib.Core.Path.{◌≡◌}
use Prim.Native.Nat.{◌-◌, ◌≤◌}
use lib.ListN.{length}
use Rattle.model.specs.Layout.{state_of}
use Rattle.tables.specs.Ready.{Ready}
use Rattle.tables.proofs.Releasing.{Raised}
use Rattle.tables.proofs.births.release.Given as goal

abbrev pub invariant-loop-i : goal.invariant-loop-i
invariant-loop-i l = Ready l.g l.initial.t × (l.n ≡ length (state_of l.g l.initial.t).waiting) × (l.i ≤ l.n) × Raised l.g l.initial.t l.i l.t

abbrev pub decreases-loop-i : goal.decreases-loop-i
decreases-loop-i l = l.n - l.i
