-- `look_of`: the arm of each look, and one for the calls that do more.
use Rattle.engine.proofs.Looking.{seen_as, not_seen}
use Rattle.engine.specs.declared.looks.Look.TheVariants as look
use Rattle.engine.proofs.looks.look_of.Goals as goal

pub returns-in-Read : goal.returns-in-Read
returns-in-Read c = seen_as _ (look.Read _ _) c.in-Read.is

pub returns-in-FreeList : goal.returns-in-FreeList
returns-in-FreeList c = seen_as _ look.FreeList c.in-FreeList.is

pub returns-in-Estimate : goal.returns-in-Estimate
returns-in-Estimate c = seen_as _ (look.Estimate _) c.in-Estimate.is

pub returns-in_default : goal.returns-in_default
returns-in_default c = not_seen c.args.c c.in_default.in_default-own.keys4
