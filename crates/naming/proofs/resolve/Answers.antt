-- The call M: a refusal leaves everything, and an accepted call gives the number of the record.
use Rattle.std.proofs.Common.{◌≡◌, Err, arith}
use Rattle.naming.proofs.Replies.{refuse_reply, refuse_out}
use Rattle.naming.proofs.Finding
use Rattle.naming.proofs.resolve.Goals as goal

pub overflow_mul-i : goal.overflow_mul-i
overflow_mul-i c =
    omega (arith, Finding.find_low _ _ _ c.requires.0 _ c.in_ok-i.ensures)

pub overflow_add-i : goal.overflow_add-i
overflow_add-i c =
    omega (arith, Finding.find_low _ _ _ c.requires.0 _ c.in_ok-i.ensures)

pub offset_bounds-t-i : goal.offset_bounds-t-i
offset_bounds-t-i c =
    omega (arith, Finding.find_low _ _ _ c.requires.0 _ c.in_ok-i.ensures)

pub bounds-t-i : goal.bounds-t-i
bounds-t-i c =
    let low = Finding.find_low _ _ _ c.requires.0 _ c.in_ok-i.ensures in
    omega (arith, low, c.requires.0.roomy.room)

pub number_behind-requires : goal.number_behind-requires
number_behind-requires c =
    let most = Finding.find_most _ _ _ c.requires.0 _ c.in_ok-i.ensures in
    (c.requires.0.roomy, omega (arith, most, c.wide.ensures))

pub returns-in_err-i : goal.returns-in_err-i
returns-in_err-i c =
    let e = Finding.resolve_refused _ _ _ _ c.in_err-i.ensures in
    let gone : c.from_residual.result ≡ Err c.in_err-i.field-0.0 = grind arith in
    record {
      reply = rw gone (refuse_reply _ _ _ c.in_err-i.field-0.0 e _);
      out = refuse_out _ _ _ e _;
    }

pub returns : goal.returns
returns c =
    let told = c.in_ok-i.ensures in
    let link = c.wide.ensures in
    let number = c.number_behind.ensures in
    record {
      reply = Finding.resolve_replied _ _ _ c.requires.0 _ told link number c.args.out.now c.requires.1;
      out = Finding.resolve_out _ _ _ c.requires.0 _ told link number c.args.out.now c.requires.1;
    }
