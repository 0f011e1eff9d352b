-- The words up to the one that is found are 0.
use Prim.Native.Nat.{◌+◌, ◌/◌}
use native.Mathlib.Omega.{arith}
use Rattle.choice.proofs.Gap.{word_none}
use Rattle.choice.proofs.jump.Goals as goal

pub returns-clause-none : goal.returns-clause-none
returns-clause-none c = let s = c.args in
    λ j h l. word_none s.words.now (s.b + j) (c.next_word-k.ensures.passed ((s.b + j) / 32) (omega arith) (omega arith))
