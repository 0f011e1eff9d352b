-- `record_named` meets its contract, call by call.
use Rattle.engine.proofs.names.record_named.Goals as goal

pub returns-in-Attach : goal.returns-in-Attach
returns-in-Attach c l = rw c.in-Attach.is

pub returns-in-Detach : goal.returns-in-Detach
returns-in-Detach c l = rw c.in-Detach.is

pub returns-in-Resolve : goal.returns-in-Resolve
returns-in-Resolve c l = rw c.in-Resolve.is
