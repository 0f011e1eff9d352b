-- `sogvect_look`: a letter of no call, a call that does more than look, or what `look` promises, coded.
use mathlib.Core.Path.{sym, ◌∙◌, ap}
use mathlib.Core.Option.{Option}
use Rattle.model.specs.declared.Call.{Call}
use Rattle.geometry.specs.declared.Geometry.{Geometry}
use Rattle.geometry.specs.Limits.{geometry_of}
use Rattle.model.specs.Memory.{Memory, lent}
use Rattle.engine.specs.Looks.{look_call, only_looks, seen_call}
use Rattle.sogvect.specs.Letters.{asked_by}
use Rattle.sogvect.proofs.Coding.{no_call, called}
use Rattle.sogvect.proofs.Letters.{is_call, is_none}
use Rattle.sogvect.proofs.looks.sogvect_look.Goals as goal

pub returns-in_default : goal.returns-in_default
returns-in_default c =
    let six : (Geometry) = (geometry_of c.args.arenas c.args.per c.args.pages c.args.records c.args.turn c.args.words) in
    let memory : (Memory) = (lent c.args.tables.now c.args.log.now c.args.out.now) in
    let asks : (Option Call) = (asked_by c.args.letter c.args.x c.args.y 0) in
    no_call (six) (memory) (only_looks (asks)) _ (ap only_looks (is_none _ (asks) c.asked_by-asked.ensures c.in_default.in_default-own.keys2))

pub returns-in_default-look_of : goal.returns-in_default-look_of
returns-in_default-look_of c =
    let six : (Geometry) = (geometry_of c.args.arenas c.args.per c.args.pages c.args.records c.args.turn c.args.words) in
    let memory : (Memory) = (lent c.args.tables.now c.args.log.now c.args.out.now) in
    let asks : (Option Call) = (asked_by c.args.letter c.args.x c.args.y 0) in
    let asked = is_call _ (asks) _ c.asked_by-asked.ensures c.in-Asks.is in
    no_call (six) (memory) (only_looks (asks)) _ (ap only_looks asked ∙ (sym c.look_of.ensures ∙ ap seen_call c.in_default-look_of.is))

pub returns : goal.returns
returns c =
    let six : (Geometry) = (geometry_of c.args.arenas c.args.per c.args.pages c.args.records c.args.turn c.args.words) in
    let memory : (Memory) = (lent c.args.tables.now c.args.log.now c.args.out.now) in
    let asks : (Option Call) = (asked_by c.args.letter c.args.x c.args.y 0) in
    let asked = is_call _ (asks) _ c.asked_by-asked.ensures c.in-Asks.is in
    let seen = sym c.look_of.ensures ∙ ap seen_call c.in-Some.is in
    called (six) (memory) _ _ _ _ (look_call c.in-Some.l) _ _ _ _
    (ap only_looks asked ∙ seen) (rw c.of-numbers.ensures at c.look-a.ensures) (c.coded.ensures.code, c.coded.ensures.given)
