-- `marks_agree`: so far they agree just where the blocks before b have a mark where they pass.
use Rattle.std.proofs.Common.{◌≡◌, ℕ, ◌<◌, Bool}
use Rattle.alloc_log.specs.Marks.{held_in}
use Rattle.model.specs.Check.{same}
use Rattle.model.specs.Table.{all}
use Rattle.soundness.proofs.held.marks_agree.Given as goal

abbrev pub invariant-loop-b : goal.invariant-loop-b
invariant-loop-b g l =
    (test : ℕ → Bool) → ((b : ℕ) (r : Bool) → b < l.n → goal.F-post g l.passes b r → r ≡ test b) →
    l.agree ≡ all l.b (λ b. same (held_in l.marks b) (test b))
