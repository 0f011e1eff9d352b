-- `resolve`: a refusal changes nothing, and what the engine promises is what is promised here. Tables and log stay.
use Rattle.std.proofs.Common.{◌≡◌, refl, Err, arith}
use Rattle.model.specs.Command.{Resolve}
use Rattle.model.specs.Memory.{lent}
use Rattle.engine.proofs.Untouched.{result_alone}
use Rattle.store.proofs.Admitted.{refused_call, call_done, calls_require}
use Rattle.store.proofs.names.resolve.Goals as goal

pub returns-in_err-g : goal.returns-in_err-g
returns-in_err-g c =
    let a = c.args in
    let gone : c.from_residual.result ≡ Err c.in_err-g.field-0.0 = grind arith in
    rw gone (refused_call _ (lent a.tables.now a.log.now a.out.now) (Resolve a.name.now) c.in_err-g.field-0.0 c.in_err-g.ensures)

pub resolve-requires : goal.resolve-requires
resolve-requires c = let a = c.args in let p = calls_require (lent a.tables.now a.log.now a.out.now) c.in_ok-g.ensures in (p.0, p.2)

pub returns : goal.returns
returns c =
    let a = c.args in
    let p = calls_require (lent a.tables.now a.log.now a.out.now) c.in_ok-g.ensures in
    call_done (lent a.tables.now a.log.now a.out.now) c.in_ok-g.ensures _ _ _ _ _
    (result_alone _ c.in_ok-g.g a.tables.now a.log.now a.out.now _ (Resolve a.name.now) p.0 refl refl refl (c.resolve.ensures.reply, c.resolve.ensures.out))
