-- One accepted write more.
use mathlib.Core.Path.{sym}
use native.Mathlib.Omega.{arith}
use Rattle.choice.proofs.Turns.{turned_over, turned_on}
use Rattle.choice.proofs.turned_by.Goals as goal

pub returns-then-writes-turn-clause-is : goal.returns-then-writes-turn-clause-is
returns-then-writes-turn-clause-is c = let s = c.args in rw c.next_of.ensures.is (sym (turned_over s.arenas s.turn s.t (omega arith)))

pub returns-clause-is : goal.returns-clause-is
returns-clause-is c = let s = c.args in sym (turned_on s.arenas s.turn s.t (λ e. omega arith))
