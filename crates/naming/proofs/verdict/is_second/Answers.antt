-- `is_second`: of a record that is not open nothing else is asked.
use Rattle.naming.proofs.Verdicts.{second_sealed, second_open}
use Rattle.naming.proofs.verdict.is_second.Goals as goal

pub returns-else-t-s-ne0 : goal.returns-else-t-s-ne0
returns-else-t-s-ne0 c = rw c.if-t-s-ne0.false (second_sealed _ _ _ c.requires.1 c.if-t-s-ne0.false)

pub returns-then-t-s-ne0 : goal.returns-then-t-s-ne0
returns-then-t-s-ne0 c = second_open _ _ _ c.requires.1 c.if-t-s-ne0.true
