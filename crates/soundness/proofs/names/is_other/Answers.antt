-- `is_other`: an empty row, another length, or other letters.
use Rattle.std.proofs.Common.{arith, refl}
use Rattle.soundness.proofs.NamesRows.{other_empty, other_length, other_letters}
use Rattle.soundness.proofs.names.is_other.Goals as goal

pub returns-then-t-j-eq0 : goal.returns-then-t-j-eq0
returns-then-t-j-eq0 c =
    other_empty _ _ _ c.requires.0 c.requires.1 c.requires.2 c.if-t-j-eq0.true

pub returns-then-t-j : goal.returns-then-t-j
returns-then-t-j c =
    other_length _ _ _ c.requires.0 c.requires.1 c.requires.2 c.if-t-j-eq0.false c.if-t-j.true

pub returns : goal.returns
returns c =
    other_letters _ _ _ c.requires.0 c.requires.1 c.requires.2 c.if-t-j-eq0.false c.if-t-j.false c.wide-n.ensures refl refl
    (omega (arith, c.args.tables.now.roomy.room)) (omega (arith, c.args.tables.now.roomy.room)) c.ne.ensures
