-- The bits of the places passed, at the head of the loop.
use Prim.Native.Nat.{ℕ, ◌^◌, ◌<◌}
use Rattle.choice.specs.Words.{bit}
use Rattle.choice.proofs.word_where.Given as goal

abbrev pub invariant-loop-k : goal.invariant-loop-k
invariant-loop-k g l = (l.word < 2 ^ l.k) × ((i : ℕ) → i < l.k → goal.F-post g l.is i (bit l.word i))
