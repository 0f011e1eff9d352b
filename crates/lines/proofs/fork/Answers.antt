-- F: a refusal leaves everything; else what was done is what the model says.
use Rattle.std.proofs.Common.{◌≡◌, Err, arith}
use Rattle.lines.proofs.Answers
use Rattle.lines.proofs.fork.Goals as goal

pub returns-in_err-s : goal.returns-in_err-s
returns-in_err-s c =
    let gone : c.from_residual.result ≡ Err c.in_err-s.field-0.0 = grind arith in
    let both = Answers.refused_left c.requires.0 _ _ c.in_err-s.field-0.0 c.args.out.now c.in_err-s.ensures in record {
      reply = rw gone both.0;
      tables = both.1.0;
      out = both.1.1;
    }

pub fork_at-requires : goal.fork_at-requires
fork_at-requires c =
    let n = Answers.fork_needs c.requires.0 _ _ _ c.in_ok-s.ensures in
    (c.requires.0, n.0, n.1, n.2, n.3)

pub returns : goal.returns
returns c =
    let o = c.fork_at.ensures in let both = Answers.fork_left c.requires.0 _ _ _ o.number c.requires.1 _ _ _ c.in_ok-s.ensures o.is in record {
      reply = both.0;
      tables = both.1.0;
      out = both.1.1;
    }
