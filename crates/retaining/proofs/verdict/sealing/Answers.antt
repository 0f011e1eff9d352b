-- The verdict on S: 8, then 9 on a sealed record, then what `room` says.
use Rattle.retaining.proofs.Verdicts
use Rattle.retaining.proofs.verdict.sealing.Goals as goal

pub returns-then-link-eq0 : goal.returns-then-link-eq0
returns-then-link-eq0 c = Verdicts.no_record_lem _ _ _ _ c.requires.1.0 c.if-link-eq0.true

pub returns-then-t-link-eq0 : goal.returns-then-t-link-eq0
returns-then-t-link-eq0 c =
    let e = c.requires.1 in
    Verdicts.is_sealed_lem _ _ _ _ e.0 c.if-link-eq0.false e.1 c.if-t-link-eq0.true

pub returns : goal.returns
returns c =
    let e = c.requires.1 in
    Verdicts.is_open_lem _ _ _ _ e.0 c.if-link-eq0.false e.1 _ c.if-t-link-eq0.false c.room.ensures
