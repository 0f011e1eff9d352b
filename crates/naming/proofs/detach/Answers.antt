-- The call U: a refusal leaves everything, and an accepted call does what the model says.
use mathlib.Core.Path.{◌∙◌}
use Rattle.std.proofs.Common.{◌≡◌, Err, arith}
use Rattle.naming.proofs.Replies.{refuse_reply, refuse_tables}
use Rattle.naming.proofs.Finding
use Rattle.naming.proofs.detach.Goals as goal

pub take_off-requires : goal.take_off-requires
take_off-requires c =
    let told = c.in_ok-i.ensures in
    let most = Finding.find_most _ _ _ c.requires _ told in (
      omega (arith, c.requires.roomy.room),
      Finding.find_low _ _ _ c.requires _ told,
      Finding.find_link _ _ _ c.requires _ told,
      omega (arith, most, c.requires.roomy.inside.records_most),
      Finding.find_counted _ _ _ c.requires _ told,
    )

pub returns-in_err-i : goal.returns-in_err-i
returns-in_err-i c =
    let e = Finding.detach_refused _ _ _ _ c.in_err-i.ensures in
    let gone : c.from_residual.result ≡ Err c.in_err-i.field-0.0 = grind arith in
    record {
      reply = rw gone (refuse_reply _ _ _ c.in_err-i.field-0.0 e);
      tables = refuse_tables _ _ _ e;
    }

pub returns : goal.returns
returns c =
    let told = c.in_ok-i.ensures in
    record {
      reply = Finding.detach_replied _ _ _ c.requires _ told;
      tables = c.take_off.ensures ∙ Finding.detach_tables _ _ _ c.requires _ told;
    }
