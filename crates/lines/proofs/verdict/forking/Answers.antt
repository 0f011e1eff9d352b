-- The verdict on F: 8, then 9 on an open record, then what `room` says.
use Rattle.lines.proofs.Verdicts
use Rattle.lines.proofs.verdict.forking.Goals as goal

pub returns-then-link-eq0 : goal.returns-then-link-eq0
returns-then-link-eq0 c = Verdicts.fork_none _ _ _ _ c.requires.1.0 c.if-link-eq0.true

pub returns-then-t-link-gt0 : goal.returns-then-t-link-gt0
returns-then-t-link-gt0 c =
    let e = c.requires.1 in
    Verdicts.fork_open _ _ _ _ e.0 c.if-link-eq0.false e.1 c.if-t-link-gt0.true

pub returns : goal.returns
returns c =
    let e = c.requires.1 in
    Verdicts.fork_room _ _ _ _ e.0 c.if-link-eq0.false e.1 _ c.if-t-link-gt0.false c.room.ensures
