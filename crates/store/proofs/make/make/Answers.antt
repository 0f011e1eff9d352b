-- `make`: each return is one law of `Making`, from the tests that led there.
use mathlib.Core.Path.{◌≡◌, sym, ◌∙◌}
use Rattle.std.proofs.Common.{Err, arith}
use Rattle.geometry.specs.declared.Geometry.{Geometry}
use Rattle.geometry.specs.Limits.{asked}
use Rattle.alloc_log.proofs.Tools.{MadeOf, made_of}
use Rattle.model.proofs.Keeps.{is_long}
use Rattle.model.specs.Memory.{lent}
use Rattle.store.proofs.Making.{make_outside, make_3, make_done}
use Rattle.store.proofs.make.make.Goals as goal

pub returns-in_err-g : goal.returns-in_err-g
returns-in_err-g c =
    let six : (Geometry) = (asked c.args.numbers) in
    let gone : c.from_residual.result ≡ Err c.in_err-g.field-0.0 = grind arith in
    let a = c.args in
    let both = make_outside (lent a.tables.now a.log.now a.out.now) (six) c.in_err-g.ensures.is in record {
      reply = rw gone both.0;
      tables = both.1;
    }

pub is_short-requires : goal.is_short-requires
is_short-requires c =
    let six : (Geometry) = (asked c.args.numbers) in
    let is_made : (MadeOf (six) c.in_ok-g.g) = (made_of (six) c.in_ok-g.g c.in_ok-g.ensures.is) in
    (is_made).inside

pub returns-then-is_short : goal.returns-then-is_short
returns-then-is_short c =
    let six : (Geometry) = (asked c.args.numbers) in
    let is_made : (MadeOf (six) c.in_ok-g.g) = (made_of (six) c.in_ok-g.g c.in_ok-g.ensures.is) in
    let a = c.args in let both = make_3 (lent a.tables.now a.log.now a.out.now) (is_made) (sym c.if-is_short.true ∙ c.is_short.ensures) in record {
      reply = both.0;
      tables = both.1;
    }

pub fill-requires : goal.fill-requires
fill-requires c =
    let six : (Geometry) = (asked c.args.numbers) in
    let is_made : (MadeOf (six) c.in_ok-g.g) = (made_of (six) c.in_ok-g.g c.in_ok-g.ensures.is) in
    let a = c.args in (
      (is_made).inside,
      (is_long c.in_ok-g.g (lent a.tables.now a.log.now a.out.now)
          (sym c.is_short.ensures ∙ c.if-is_short.false)).tables,
    )

pub returns : goal.returns
returns c =
    let six : (Geometry) = (asked c.args.numbers) in
    let is_made : (MadeOf (six) c.in_ok-g.g) = (made_of (six) c.in_ok-g.g c.in_ok-g.ensures.is) in
    let a = c.args in let both = make_done (lent a.tables.now a.log.now a.out.now) (is_made) _
    (sym c.if-is_short.false ∙ c.is_short.ensures) c.fill.ensures in record {
      reply = both.0;
      tables = both.1;
    }
