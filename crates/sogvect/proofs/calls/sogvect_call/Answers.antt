-- `sogvect_call`: a letter that no call has, or what `call` promises, coded.
use Rattle.geometry.specs.declared.Geometry.{Geometry}
use Rattle.geometry.specs.Limits.{geometry_of}
use Rattle.model.specs.Memory.{Memory, lent}
use Rattle.sogvect.proofs.Coding.{no_call, called}
use Rattle.sogvect.proofs.Letters.{is_call, is_none}
use Rattle.sogvect.proofs.calls.sogvect_call.Goals as goal

pub returns-in_default : goal.returns-in_default
returns-in_default c =
    let six : (Geometry) = (geometry_of c.args.arenas c.args.per c.args.pages c.args.records c.args.turn c.args.words) in
    let memory : (Memory) = (lent c.args.tables.now c.args.log.now c.args.out.now) in
    no_call (six) (memory) _ _ (is_none _ _ c.asked_by-asked.ensures c.in_default.in_default-own.keys2)

pub returns : goal.returns
returns c =
    let six : (Geometry) = (geometry_of c.args.arenas c.args.per c.args.pages c.args.records c.args.turn c.args.words) in
    let memory : (Memory) = (lent c.args.tables.now c.args.log.now c.args.out.now) in
    called (six) (memory) _ _ _ _ c.in-Asks.c _ _ _ _
    (is_call _ _ _ c.asked_by-asked.ensures c.in-Asks.is) (rw c.of-numbers.ensures at c.call-a.ensures) (c.coded.ensures.code, c.coded.ensures.given)
