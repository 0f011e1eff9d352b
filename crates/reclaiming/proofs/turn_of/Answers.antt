-- The smaller of the two.
use borrow.Author.Rules.{rules}
use Rattle.reclaiming.specs.Stages.{turn}
use Rattle.reclaiming.proofs.turn_of.Goals as goal

pub returns : goal.returns
unfolding turn
returns c = search rules
