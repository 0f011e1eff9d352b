-- `call`: a refusal changes nothing, and what the engine promises is what is promised here.
use Rattle.std.proofs.Common.{◌≡◌, Err, arith}
use Rattle.model.specs.Command.{command}
use Rattle.model.specs.Memory.{lent}
use Rattle.engine.proofs.Untouched.{found_link}
use Rattle.store.proofs.Admitted.{refused_call, call_done, calls_require}
use Rattle.store.proofs.call.call.Goals as goal

pub returns-in_err-g : goal.returns-in_err-g
returns-in_err-g c =
    let a = c.args in
    let gone : c.from_residual.result ≡ Err c.in_err-g.field-0.0 = grind arith in
    rw gone (refused_call _ (lent a.tables.now a.log.now a.out.now) (command a.c) c.in_err-g.field-0.0 c.in_err-g.ensures)

pub slot_of-link-requires : goal.slot_of-link-requires
slot_of-link-requires c = let a = c.args in (calls_require (lent a.tables.now a.log.now a.out.now) c.in_ok-g.ensures).0

pub perform-requires : goal.perform-requires
perform-requires c =
    let a = c.args in
    let p = calls_require (lent a.tables.now a.log.now a.out.now) c.in_ok-g.ensures in
    let link = c.slot_of-link in
    (p.0, p.1, p.2, found_link c.in_ok-g.g a.tables.now (command a.c) link.result c.record_of.ensures (link.ensures.is, link.ensures.range))

pub returns : goal.returns
returns c =
    let a = c.args in
    let e = c.perform.ensures in
    call_done (lent a.tables.now a.log.now a.out.now) c.in_ok-g.ensures _ _ _ _ _ (e.reply, (e.tables, (e.log, e.out)))
