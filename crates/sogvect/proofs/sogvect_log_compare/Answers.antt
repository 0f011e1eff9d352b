-- `sogvect_log_compare`: what `compare` promises, coded.
use Rattle.std.proofs.Common.{◌≡◌, arith, rules}
use Rattle.sogvect.specs.Coded.{verdict_code, alike_after}
use Rattle.alloc_log.specs.Tool.{verdict_of}
use Rattle.sogvect.proofs.sogvect_log_compare.Goals as goal

pub returns-clause-code : goal.returns-clause-code
unfolding verdict_code verdict_of
returns-clause-code c = rw (← (rw c.of-numbers.ensures at c.compare-answer.ensures)) (grind arith)

pub returns-clause-alike : goal.returns-clause-alike
unfolding alike_after verdict_of
returns-clause-alike c = rw (← (rw c.of-numbers.ensures at c.compare-answer.ensures)) (grind arith)
