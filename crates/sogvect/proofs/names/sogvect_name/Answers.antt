-- `sogvect_name`: what `attach` promises, coded.
use Rattle.geometry.specs.Limits.{geometry_of}
use Rattle.model.specs.Command.{Attach}
use Rattle.model.specs.Memory.{lent}
use Rattle.sogvect.proofs.Coding.{replied}
use Rattle.sogvect.proofs.names.sogvect_name.Goals as goal

pub returns : goal.returns
returns c =
    let a = c.args in
    (replied (geometry_of a.arenas a.per a.pages a.records a.turn a.words) (lent a.tables.now a.log.now a.out.now) _ _ _ _
    (Attach a.name.now a.«record») _ _ _ (rw c.of-numbers.ensures at c.attach-a.ensures) (c.coded.ensures.code, c.coded.ensures.given)).0
