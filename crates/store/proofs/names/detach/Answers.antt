-- `detach`: a refusal changes nothing, and what the engine promises is what is promised here. Log and result buffer stay.
use Rattle.std.proofs.Common.{◌≡◌, refl, Err, arith}
use Rattle.model.specs.Command.{Detach}
use Rattle.model.specs.Memory.{lent}
use Rattle.engine.proofs.Untouched.{tables_alone}
use Rattle.store.proofs.Admitted.{refused_call, call_done, calls_require}
use Rattle.store.proofs.names.detach.Goals as goal

pub returns-in_err-g : goal.returns-in_err-g
returns-in_err-g c =
    let a = c.args in
    let gone : c.from_residual.result ≡ Err c.in_err-g.field-0.0 = grind arith in
    rw gone (refused_call _ (lent a.tables.now a.log.now a.out.now) (Detach a.name.now) c.in_err-g.field-0.0 c.in_err-g.ensures)

pub detach-requires : goal.detach-requires
detach-requires c = let a = c.args in (calls_require (lent a.tables.now a.log.now a.out.now) c.in_ok-g.ensures).0

pub returns : goal.returns
returns c =
    let a = c.args in
    let e = c.detach.ensures in
    call_done (lent a.tables.now a.log.now a.out.now) c.in_ok-g.ensures _ _ _ _ _
    (tables_alone _ c.in_ok-g.g a.tables.now a.log.now a.out.now _ (Detach a.name.now) refl refl (e.reply _, e.tables))
