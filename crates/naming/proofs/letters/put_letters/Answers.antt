-- `put_letters`: the bytes before i are stored.
use Rattle.naming.proofs.Spelling.{stored_next, stored_all}
use Rattle.naming.proofs.letters.put_letters.Goals as goal

pub loop-i-preserved : goal.loop-i-preserved
loop-i-preserved c = stored_next _ _ _ _ _ c.loop-i.invariant c.loop-i-test.true c.from.ensures

pub returns : goal.returns
returns c = stored_all _ _ _ _ _ c.loop-i.invariant c.loop-i-test.false
