-- None of the numbers that were seen is v, unless one was met.
use mathlib.Core.Path.{◌≡◌}
use mathlib.Core.Bool.{false}
use Prim.Native.Nat.{ℕ, ◌+◌, ◌<◌}
use lib.ListN.{get_or}
use Rattle.tables.proofs.find.any_is.Given as goal

abbrev pub invariant-loop-k : goal.invariant-loop-k
invariant-loop-k l = l.any ≡ false → (j : ℕ) → j < l.k → get_or l.t (l.a + j) 0 ≡ l.v → ⊥
