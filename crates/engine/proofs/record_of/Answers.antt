-- `record_of` meets its contract, call by call.
use Rattle.engine.proofs.record_of.Goals as goal

pub returns-in-Begin : goal.returns-in-Begin
returns-in-Begin c = rw c.in-Begin.is

pub returns-in-Write : goal.returns-in-Write
returns-in-Write c = rw c.in-Write.is

pub returns-in-Erase : goal.returns-in-Erase
returns-in-Erase c = rw c.in-Erase.is

pub returns-in-Seal : goal.returns-in-Seal
returns-in-Seal c = rw c.in-Seal.is

pub returns-in-Fork : goal.returns-in-Fork
returns-in-Fork c = rw c.in-Fork.is

pub returns-in-Delete : goal.returns-in-Delete
returns-in-Delete c = rw c.in-Delete.is

pub returns-in-Read : goal.returns-in-Read
returns-in-Read c = rw c.in-Read.is

pub returns-in-Barrier : goal.returns-in-Barrier
returns-in-Barrier c = rw c.in-Barrier.is

pub returns-in-Compress : goal.returns-in-Compress
returns-in-Compress c = rw c.in-Compress.is

pub returns-in-FreeList : goal.returns-in-FreeList
returns-in-FreeList c = rw c.in-FreeList.is

pub returns-in-Estimate : goal.returns-in-Estimate
returns-in-Estimate c = rw c.in-Estimate.is

pub returns-in-Retain : goal.returns-in-Retain
returns-in-Retain c = rw c.in-Retain.is

pub returns-in-Reclaim : goal.returns-in-Reclaim
returns-in-Reclaim c = rw c.in-Reclaim.is
