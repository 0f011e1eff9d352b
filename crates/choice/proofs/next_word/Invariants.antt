-- The words that are passed are `skip`, at the head of the loop.
use mathlib.Core.Path.{◌≡◌}
use Prim.Native.Nat.{ℕ, ◌≤◌, ◌<◌}
use lib.ListN.{get_or}
use Rattle.choice.proofs.next_word.Given as goal

abbrev pub invariant-loop-at : goal.invariant-loop-at
invariant-loop-at l = (l.k ≤ l.at) × (l.at ≤ l.end) × ((i : ℕ) → l.k ≤ i → i < l.at → get_or l.words i 0 ≡ l.skip)
