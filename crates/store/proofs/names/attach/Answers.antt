-- `attach`: a refusal changes nothing, and what the engine promises is what is promised here. Log and result buffer stay.
use Rattle.std.proofs.Common.{◌≡◌, refl, Err, arith}
use Rattle.model.specs.Command.{Attach}
use Rattle.model.specs.Memory.{lent}
use Rattle.engine.proofs.Untouched.{tables_alone}
use Rattle.store.proofs.Admitted.{refused_call, call_done, calls_require}
use Rattle.store.proofs.names.attach.Goals as goal

pub returns-in_err-g : goal.returns-in_err-g
returns-in_err-g c =
    let a = c.args in
    let gone : c.from_residual.result ≡ Err c.in_err-g.field-0.0 = grind arith in
    rw gone (refused_call _ (lent a.tables.now a.log.now a.out.now) (Attach a.name.now a.number) c.in_err-g.field-0.0 c.in_err-g.ensures)

pub slot_of-link-requires : goal.slot_of-link-requires
slot_of-link-requires c = let a = c.args in (calls_require (lent a.tables.now a.log.now a.out.now) c.in_ok-g.ensures).0

pub attach-requires : goal.attach-requires
attach-requires c =
    let a = c.args in
    let p = calls_require (lent a.tables.now a.log.now a.out.now) c.in_ok-g.ensures in
    (p.0, (c.slot_of-link.ensures.is, c.slot_of-link.ensures.range))

pub returns : goal.returns
returns c =
    let a = c.args in
    let e = c.attach.ensures in
    call_done (lent a.tables.now a.log.now a.out.now) c.in_ok-g.ensures _ _ _ _ _
    (tables_alone _ c.in_ok-g.g a.tables.now a.log.now a.out.now _ (Attach a.name.now a.number) refl refl (e.reply _, e.tables))
