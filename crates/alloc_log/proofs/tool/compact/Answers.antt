-- `compact`: each return is one law of `Tools`, from the tests that led there.
use Rattle.geometry.specs.declared.Geometry.{Geometry}
use Rattle.geometry.specs.Limits.{asked}
use Rattle.alloc_log.proofs.Tools.{MadeOf, made_of, compact_outside, compact_refused_3, compact_refused_7, compact_done}
use Rattle.std.proofs.Common.{◌≡◌, Err, arith}
use Rattle.alloc_log.proofs.tool.compact.Goals as goal

pub returns-in_err-g : goal.returns-in_err-g
returns-in_err-g c =
    let six : (Geometry) = (asked c.args.numbers) in
    let gone : c.from_residual.result ≡ Err c.in_err-g.field-0.0 = grind arith in
    let both = compact_outside c.args.log.now c.args.out.now (six) c.in_err-g.ensures.is in record {
      reply = rw gone both.0;
      out = both.1;
    }

pub overflow_mul-g : goal.overflow_mul-g
overflow_mul-g c =
    let six : (Geometry) = (asked c.args.numbers) in
    let is_made : (MadeOf (six) c.in_ok-g.g) = (made_of (six) c.in_ok-g.g c.in_ok-g.ensures.is) in
    omega (arith, (is_made).inside.words_most)

pub returns-then-out-g : goal.returns-then-out-g
returns-then-out-g c =
    let six : (Geometry) = (asked c.args.numbers) in
    let is_made : (MadeOf (six) c.in_ok-g.g) = (made_of (six) c.in_ok-g.g c.in_ok-g.ensures.is) in
    let both = compact_refused_3 _ _ (is_made) c.if-out-g.true in record {
      reply = both.0;
      out = both.1;
    }

pub read_log-requires : goal.read_log-requires
read_log-requires c =
    let six : (Geometry) = (asked c.args.numbers) in
    let is_made : (MadeOf (six) c.in_ok-g.g) = (made_of (six) c.in_ok-g.g c.in_ok-g.ensures.is) in
    let i = (is_made).inside in
    (i.per_least, i.blocks_most)

pub returns-in_default : goal.returns-in_default
returns-in_default c =
    let six : (Geometry) = (asked c.args.numbers) in
    let is_made : (MadeOf (six) c.in_ok-g.g) = (made_of (six) c.in_ok-g.g c.in_ok-g.ensures.is) in
    let both = compact_refused_7 _ _ (is_made) c.if-out-g.false c.read_log.ensures c.in_default.is in record {
      reply = both.0;
      out = both.1;
    }

pub compress-bytes-requires : goal.compress-bytes-requires
compress-bytes-requires c =
    let six : (Geometry) = (asked c.args.numbers) in
    let is_made : (MadeOf (six) c.in_ok-g.g) = (made_of (six) c.in_ok-g.g c.in_ok-g.ensures.is) in
    let i = (is_made).inside in
    (i.per_least, i.blocks_most, omega (arith, i.words_least, c.if-out-g.false))

pub returns : goal.returns
returns c =
    let six : (Geometry) = (asked c.args.numbers) in
    let is_made : (MadeOf (six) c.in_ok-g.g) = (made_of (six) c.in_ok-g.g c.in_ok-g.ensures.is) in
    let both = compact_done _ _ (is_made) c.if-out-g.false c.read_log.ensures c.in-Some.is _ _ c.compress-bytes.ensures.0 c.compress-bytes.ensures.1 in record {
      reply = both.0;
      out = both.1;
    }
