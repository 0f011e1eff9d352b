-- `is_whole`: at the end of the input, or at the most that is read.
use Rattle.std.proofs.Common.{rules}
use Rattle.runner.specs.Turn.{whole_after}
use Rattle.runner.proofs.input.is_whole.Goals as goal

pub returns-then-more-eq0 : goal.returns-then-more-eq0
unfolding whole_after
returns-then-more-eq0 c = search rules

pub returns-else-more-eq0 : goal.returns-else-more-eq0
unfolding whole_after
returns-else-more-eq0 c = search rules
