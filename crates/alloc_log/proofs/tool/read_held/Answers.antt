-- `read_held`: each return is one law of `Tools`, from the tests that led there.
use Rattle.std.proofs.Common.{◌≡◌, Err, ap, ◌∙◌, arith}
use Rattle.geometry.specs.declared.Geometry.{Geometry}
use Rattle.geometry.specs.Limits.{asked}
use Rattle.alloc_log.specs.Read.{told, read_log}
use Rattle.alloc_log.specs.Settled.{settled}
use Rattle.alloc_log.proofs.Tools.{MadeOf, made_of, settled_part, read_outside, read_refused_3, read_refused_7, read_done}
use Rattle.alloc_log.proofs.tool.read_held.Goals as goal

pub returns-in_err-g : goal.returns-in_err-g
returns-in_err-g c =
    let six : (Geometry) = (asked c.args.numbers) in
    let gone : c.from_residual.result ≡ Err c.in_err-g.field-0.0 = grind arith in
    let both = read_outside c.args.log.now c.args.out.now (six) c.in_err-g.ensures.is in record {
      reply = rw gone both.0;
      out = both.1;
    }

pub overflow_mul-blocks : goal.overflow_mul-blocks
overflow_mul-blocks c =
    let six : (Geometry) = (asked c.args.numbers) in
    let is_made : (MadeOf (six) c.in_ok-g.g) = (made_of (six) c.in_ok-g.g c.in_ok-g.ensures.is) in
    omega (arith, (is_made).inside.blocks_most)

pub overflow_mul-blocks-2 : goal.overflow_mul-blocks-2
overflow_mul-blocks-2 c =
    let six : (Geometry) = (asked c.args.numbers) in
    let is_made : (MadeOf (six) c.in_ok-g.g) = (made_of (six) c.in_ok-g.g c.in_ok-g.ensures.is) in
    omega (arith, (is_made).inside.blocks_most)

pub overflow_add-blocks : goal.overflow_add-blocks
overflow_add-blocks c =
    let six : (Geometry) = (asked c.args.numbers) in
    let is_made : (MadeOf (six) c.in_ok-g.g) = (made_of (six) c.in_ok-g.g c.in_ok-g.ensures.is) in
    omega (arith, (is_made).inside.blocks_most)

pub returns-then-out-blocks : goal.returns-then-out-blocks
returns-then-out-blocks c =
    let six : (Geometry) = (asked c.args.numbers) in
    let is_made : (MadeOf (six) c.in_ok-g.g) = (made_of (six) c.in_ok-g.g c.in_ok-g.ensures.is) in
    let both = read_refused_3 _ _ (is_made) c.if-out-blocks.true in record {
      reply = both.0;
      out = both.1;
    }

pub read_log-requires : goal.read_log-requires
read_log-requires c =
    let six : (Geometry) = (asked c.args.numbers) in
    let is_made : (MadeOf (six) c.in_ok-g.g) = (made_of (six) c.in_ok-g.g c.in_ok-g.ensures.is) in
    let i = (is_made).inside in
    (i.per_least, i.blocks_most)

pub returns-in_default : goal.returns-in_default
returns-in_default c =
    let six : (Geometry) = (asked c.args.numbers) in
    let is_made : (MadeOf (six) c.in_ok-g.g) = (made_of (six) c.in_ok-g.g c.in_ok-g.ensures.is) in
    let reads : (let s = c.args in
    let g = c.in_ok-g.g in
    told c.read_log.result ≡ read_log g.arenas g.per (settled s.log.now)) = (let s = c.args in
    let g = c.in_ok-g.g in
    let e = c.settled_end-end in
    c.read_log.ensures ∙ ap (read_log g.arenas g.per) (settled_part s.log.now e.result e.ensures.0)) in
    let both = read_refused_7 _ _ (is_made) c.if-out-blocks.false (reads) c.in_default.is in record {
      reply = both.0;
      out = both.1;
    }

pub list_held-requires : goal.list_held-requires
list_held-requires c =
    let six : (Geometry) = (asked c.args.numbers) in
    let is_made : (MadeOf (six) c.in_ok-g.g) = (made_of (six) c.in_ok-g.g c.in_ok-g.ensures.is) in
    let i = (is_made).inside in
    omega (arith, i.blocks_most, c.if-out-blocks.false)

pub returns : goal.returns
returns c =
    let six : (Geometry) = (asked c.args.numbers) in
    let is_made : (MadeOf (six) c.in_ok-g.g) = (made_of (six) c.in_ok-g.g c.in_ok-g.ensures.is) in
    let reads : (let s = c.args in
    let g = c.in_ok-g.g in
    told c.read_log.result ≡ read_log g.arenas g.per (settled s.log.now)) = (let s = c.args in
    let g = c.in_ok-g.g in
    let e = c.settled_end-end in
    c.read_log.ensures ∙ ap (read_log g.arenas g.per) (settled_part s.log.now e.result e.ensures.0)) in
    let both = read_done _ _ (is_made) c.if-out-blocks.false (reads) _ _ c.in-Some.is c.list_held.ensures.0 c.list_held.ensures.1 in record {
      reply = both.0;
      out = both.1;
    }
