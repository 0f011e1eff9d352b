-- One on, or round to 0.
use mathlib.Core.Path.{sym, ◌∙◌}
use native.Mathlib.Numerals.{add-one}
use native.Mathlib.Omega.{arith}
use Rattle.choice.proofs.Ranges.{next_round, next_on}
use Rattle.choice.proofs.next_of.Goals as goal

pub returns-then-i-n-clause-is : goal.returns-then-i-n-clause-is
returns-then-i-n-clause-is c = sym (next_round (omega arith))

pub returns-else-i-n-clause-is : goal.returns-else-i-n-clause-is
returns-else-i-n-clause-is c = add-one _ ∙ sym (next_on (λ e. omega arith))
