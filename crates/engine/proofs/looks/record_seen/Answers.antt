-- `record_seen` meets its contract, look by look.
use Rattle.engine.proofs.looks.record_seen.Goals as goal

pub returns-in-Read : goal.returns-in-Read
returns-in-Read c = rw c.in-Read.is

pub returns-in-FreeList : goal.returns-in-FreeList
returns-in-FreeList c = rw c.in-FreeList.is

pub returns-in-Estimate : goal.returns-in-Estimate
returns-in-Estimate c = rw c.in-Estimate.is
