-- `compare`: each return is one law of `Tools`, from the tests that led there.
use Rattle.geometry.specs.declared.Geometry.{Geometry}
use Rattle.geometry.specs.Limits.{asked}
use Rattle.alloc_log.proofs.Tools.{MadeOf, made_of, compare_outside, compare_refused_first, compare_refused_second, compare_says, within_table}
use Rattle.std.proofs.Common.{◌≡◌, Err, sym, arith, length-take-le}
use Rattle.alloc_log.proofs.tool.compare.Goals as goal

pub returns-in_err-g : goal.returns-in_err-g
returns-in_err-g c =
    let six : (Geometry) = (asked c.args.numbers) in
    let gone : c.from_residual.result ≡ Err c.in_err-g.field-0.0 = grind arith in
    rw gone (compare_outside c.args.first.now c.args.second.now (six) c.in_err-g.ensures.is)

pub read_log-requires : goal.read_log-requires
read_log-requires c =
    let six : (Geometry) = (asked c.args.numbers) in
    let is_made : (MadeOf (six) c.in_ok-g.g) = (made_of (six) c.in_ok-g.g c.in_ok-g.ensures.is) in
    let i = (is_made).inside in
    (i.per_least, i.blocks_most)

pub returns-in_default : goal.returns-in_default
returns-in_default c =
    let six : (Geometry) = (asked c.args.numbers) in
    let is_made : (MadeOf (six) c.in_ok-g.g) = (made_of (six) c.in_ok-g.g c.in_ok-g.ensures.is) in
    compare_refused_first _ _ (is_made) c.read_log.ensures c.in_default.is

pub read_log-requires-2 : goal.read_log-requires-2
read_log-requires-2 c =
    let six : (Geometry) = (asked c.args.numbers) in
    let is_made : (MadeOf (six) c.in_ok-g.g) = (made_of (six) c.in_ok-g.g c.in_ok-g.ensures.is) in
    let i = (is_made).inside in
    (i.per_least, i.blocks_most)

pub returns-in_default-read_log : goal.returns-in_default-read_log
returns-in_default-read_log c =
    let six : (Geometry) = (asked c.args.numbers) in
    let is_made : (MadeOf (six) c.in_ok-g.g) = (made_of (six) c.in_ok-g.g c.in_ok-g.ensures.is) in
    compare_refused_second _ _ (is_made) c.read_log.ensures c.in-Some.is c.read_log-2.ensures c.in_default-read_log.is

pub overflow_mul-blocks : goal.overflow_mul-blocks
overflow_mul-blocks c =
    let six : (Geometry) = (asked c.args.numbers) in
    let is_made : (MadeOf (six) c.in_ok-g.g) = (made_of (six) c.in_ok-g.g c.in_ok-g.ensures.is) in
    omega (arith, (is_made).inside.blocks_most)

pub slice_bounds-one-end : goal.slice_bounds-one-end
slice_bounds-one-end c =
    let six : (Geometry) = (asked c.args.numbers) in
    let is_made : (MadeOf (six) c.in_ok-g.g) = (made_of (six) c.in_ok-g.g c.in_ok-g.ensures.is) in
    within_table c.args.first.now is_made c.read_log.ensures c.in-Some.is

pub slice_bounds-eq-end : goal.slice_bounds-eq-end
slice_bounds-eq-end c =
    let six : (Geometry) = (asked c.args.numbers) in
    let is_made : (MadeOf (six) c.in_ok-g.g) = (made_of (six) c.in_ok-g.g c.in_ok-g.ensures.is) in
    sym (length-take-le _ _ (within_table c.args.first.now is_made c.read_log.ensures c.in-Some.is))

pub slice_bounds-two-end : goal.slice_bounds-two-end
slice_bounds-two-end c =
    let six : (Geometry) = (asked c.args.numbers) in
    let is_made : (MadeOf (six) c.in_ok-g.g) = (made_of (six) c.in_ok-g.g c.in_ok-g.ensures.is) in
    within_table c.args.second.now is_made c.read_log-2.ensures c.in-Some-read_log.is

pub slice_bounds-eq-end-2 : goal.slice_bounds-eq-end-2
slice_bounds-eq-end-2 c =
    let six : (Geometry) = (asked c.args.numbers) in
    let is_made : (MadeOf (six) c.in_ok-g.g) = (made_of (six) c.in_ok-g.g c.in_ok-g.ensures.is) in
    sym (length-take-le _ _ (within_table c.args.second.now is_made c.read_log-2.ensures c.in-Some-read_log.is))

pub returns : goal.returns
returns c =
    let six : (Geometry) = (asked c.args.numbers) in
    let is_made : (MadeOf (six) c.in_ok-g.g) = (made_of (six) c.in_ok-g.g c.in_ok-g.ensures.is) in
    compare_says _ _ (is_made) c.read_log.ensures c.in-Some.is c.read_log-2.ensures c.in-Some-read_log.is c.eq.ensures
