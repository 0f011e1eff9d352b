-- The bits are 0 only where each word that was read is 0.
use Prim.Native.Nat.{ℕ, ◌<◌}
use mathlib.Core.Path.{◌≡◌}
use lib.ListN.{get_or}
use Rattle.choice.proofs.none_free.Given as goal

abbrev pub invariant-loop-word : goal.invariant-loop-word
invariant-loop-word l = l.bits ≡ 0 → (i : ℕ) → i < l.word-index → get_or l.words i 0 ≡ 0
