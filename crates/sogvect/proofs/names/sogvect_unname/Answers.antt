-- `sogvect_unname`: what `detach` promises, coded.
use Rattle.geometry.specs.Limits.{geometry_of}
use Rattle.model.specs.Command.{Detach}
use Rattle.model.specs.Memory.{lent}
use Rattle.sogvect.proofs.Coding.{replied}
use Rattle.sogvect.proofs.names.sogvect_unname.Goals as goal

pub returns : goal.returns
returns c =
    let a = c.args in
    (replied (geometry_of a.arenas a.per a.pages a.records a.turn a.words) (lent a.tables.now a.log.now a.out.now) _ _ _ _
    (Detach a.name.now) _ _ _ (rw c.of-numbers.ensures at c.detach-a.ensures) (c.coded.ensures.code, c.coded.ensures.given)).0
