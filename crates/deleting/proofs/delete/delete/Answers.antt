-- The call D: a refusal leaves everything, and an accepted call does what the model says.
use Rattle.std.proofs.Common.{◌≡◌, Err, arith}
use Rattle.deleting.proofs.Verdicts
use Rattle.deleting.proofs.Calling
use Rattle.deleting.proofs.delete.delete.Goals as goal

pub returns-in_err-s : goal.returns-in_err-s
returns-in_err-s c =
    let gone : c.from_residual.result ≡ Err c.in_err-s.field-0.0 = grind arith in
    let e = Verdicts.delete_refusal _ _ _ c.in_err-s.field-0.0 c.in_err-s.ensures in record {
      reply = rw gone (Calling.refuse_reply _ _ _ c.in_err-s.field-0.0 e);
      tables = Calling.refuse_tables _ _ _ _ e;
    }

pub delete_record-requires : goal.delete_record-requires
delete_record-requires c =
    let ready = c.requires.0 in
    (ready, Calling.accept_asks _ _ ready _ _ _ c.in_ok-s.ensures, Calling.accept_follows _ _ ready _ _ _ c.in_ok-s.ensures)

pub returns : goal.returns
returns c =
    let ready = c.requires.0 in
    record {
      reply = Calling.accept_done _ _ ready _ _ _ c.in_ok-s.ensures;
      tables = Calling.accept_tables _ _ ready _ _ _ c.in_ok-s.ensures _ c.delete_record.ensures;
    }
