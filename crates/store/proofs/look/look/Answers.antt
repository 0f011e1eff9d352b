-- `look`: a refusal changes nothing, and what the engine promises is what is promised here. Tables and log stay.
use Rattle.std.proofs.Common.{◌≡◌, Err, arith}
use Rattle.model.specs.Command.{command}
use Rattle.model.specs.Memory.{lent}
use Rattle.engine.specs.Looks.{look_call}
use Rattle.engine.proofs.Looking.{look_performed}
use Rattle.engine.proofs.Untouched.{found_link}
use Rattle.store.proofs.Admitted.{refused_call, call_done, calls_require}
use Rattle.store.proofs.look.look.Goals as goal

pub returns-in_err-g : goal.returns-in_err-g
returns-in_err-g c =
    let a = c.args in
    let gone : c.from_residual.result ≡ Err c.in_err-g.field-0.0 = grind arith in
    rw gone (refused_call _ (lent a.tables.now a.log.now a.out.now) (command (look_call a.c)) c.in_err-g.field-0.0 c.in_err-g.ensures)

pub slot_of-link-requires : goal.slot_of-link-requires
slot_of-link-requires c = let a = c.args in (calls_require (lent a.tables.now a.log.now a.out.now) c.in_ok-g.ensures).0

pub look-requires : goal.look-requires
look-requires c =
    let a = c.args in
    let p = calls_require (lent a.tables.now a.log.now a.out.now) c.in_ok-g.ensures in
    let link = c.slot_of-link in
    (p.0, p.2, found_link c.in_ok-g.g a.tables.now (command (look_call a.c)) link.result c.record_seen.ensures (link.ensures.is, link.ensures.range))

pub returns : goal.returns
returns c =
    let a = c.args in
    let p = calls_require (lent a.tables.now a.log.now a.out.now) c.in_ok-g.ensures in
    call_done (lent a.tables.now a.log.now a.out.now) c.in_ok-g.ensures _ _ _ _ _
    (look_performed _ c.in_ok-g.g a.tables.now a.log.now a.out.now _ a.c p.0 (c.look.ensures.reply, c.look.ensures.out))
