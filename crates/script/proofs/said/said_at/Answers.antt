-- `said_at` meets its contract: what is found in one pass is said, any other line is read by its end; a line ends inside its text, or where it was looked for.
use Rattle.script.specs.Said.{said_at}
use Rattle.script.proofs.OnePass.{tells_is}
use Rattle.script.proofs.Placed.{said_promised}
use Rattle.script.proofs.said.said_at.Goals as goal

pub returns-in_default-clause-range : goal.returns-in_default-clause-range
returns-in_default-clause-range c = (said_promised c.args.text.now c.args.at _ c.by_line-says.ensures).1.0

pub returns-in_default-clause-name : goal.returns-in_default-clause-name
returns-in_default-clause-name c = (said_promised c.args.text.now c.args.at _ c.by_line-says.ensures).1.1

pub returns-clause-range : goal.returns-clause-range
returns-clause-range c =
    let a = c.args in
    (said_promised a.text.now a.at _ (tells_is _ (said_at a.text.now a.at) _ _ c.in-Some.is c.near_at.ensures)).1.0
