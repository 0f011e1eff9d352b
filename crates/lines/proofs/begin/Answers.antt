-- B: a refusal leaves everything; else what was done is what the model says.
use Rattle.std.proofs.Common.{◌≡◌, Err, arith}
use Rattle.lines.proofs.Answers
use Rattle.lines.proofs.begin.Goals as goal

pub returns-in_err-f : goal.returns-in_err-f
returns-in_err-f c =
    let gone : c.from_residual.result ≡ Err c.in_err-f.field-0.0 = grind arith in
    let both = Answers.refused_left c.requires.0 _ _ c.in_err-f.field-0.0 c.args.out.now c.in_err-f.ensures in record {
      reply = rw gone both.0;
      tables = both.1.0;
      out = both.1.1;
    }

pub begin_at-requires : goal.begin_at-requires
begin_at-requires c =
    let n = Answers.begin_needs c.requires.0 _ _ c.in_ok-f.ensures in
    (c.requires.0, n.0, n.1)

pub returns : goal.returns
returns c =
    let o = c.begin_at.ensures in let both = Answers.begin_left c.requires.0 _ _ _ o.number c.requires.1 _ _ c.in_ok-f.ensures o.is in record {
      reply = both.0;
      tables = both.1.0;
      out = both.1.1;
    }
