-- `input::read_once`: the bytes before those that are lent stay.
use Rattle.runner.proofs.Waiting.{front_stays}
use Rattle.runner.proofs.input.read_once.Goals as goal

pub returns-clause-stays : goal.returns-clause-stays
returns-clause-stays g c = front_stays c.args.from c.args.text.now _ c.requires
