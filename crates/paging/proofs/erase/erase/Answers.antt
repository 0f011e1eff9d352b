-- E: a refusal leaves everything; else the action leaves what the model says.
use Rattle.std.proofs.Common.{◌≡◌, Err, arith}
use Rattle.paging.proofs.Answers
use Rattle.paging.proofs.Erasing
use Rattle.paging.proofs.erase.erase.Goals as goal

pub erase_page-requires : goal.erase_page-requires
erase_page-requires c =
    let j = c.in_ok-s.ensures in (
      Erasing.erase_target c.requires.0 _ _ _ _ j.0 j.1 c.wide.ensures,
      Erasing.erase_fits c.requires.0 _ _ _ _ j.0 j.1 c.wide.ensures,
      c.requires.1,
      c.requires.2,
    )

pub returns-in_err-s : goal.returns-in_err-s
returns-in_err-s c =
    let gone : c.from_residual.result ≡ Err c.in_err-s.field-0.0 = grind arith in
    let e = c.in_err-s.ensures in
    let o = Answers.refused_out _ _ _ _ e c.args.out.now in
    record {
      reply = rw gone o.0;
      tables = Answers.refused_tables _ _ _ _ e;
      log = Answers.refused_log _ _ _ _ e c.args.log.now;
      out = o.1;
    }

pub returns : goal.returns
returns c =
    let j = c.in_ok-s.ensures in
    let R = c.requires.0 in
    let w = c.wide.ensures in
    let p = c.erase_page.ensures in
    let o = Erasing.erase_out R _ _ _ _ j.0 j.1 w c.args.out.now _ _ c.requires.2 p.count p.out in
    record {
      reply = o.0;
      tables = Erasing.erase_tables R _ _ _ _ j.0 j.1 w _ p.tables;
      log = Erasing.erase_log R _ _ _ _ j.0 j.1 w c.args.log.now _ p.log;
      out = o.1;
    }
