-- `parted`: one law for each arm.
use Rattle.std.proofs.Common.{◌≡◌, ◌∙◌, arith}
use Rattle.answer.specs.Number.{number_of}
use Rattle.sogvect.proofs.Coding.{part_parted, refused_parted}
use Rattle.sogvect.proofs.scripts.parted.Goals as goal

pub returns-in-Ok : goal.returns-in-Ok
returns-in-Ok c = let both = part_parted _ _ _ _ c.in-Ok.is in record {
  code = both.0;
  at = both.1.0;
  count = both.1.1;
}

pub returns-in-Err : goal.returns-in-Err
returns-in-Err c =
    let e : c.from.result ≡ number_of c.in-Err.refusal = grind arith in
    let both = refused_parted _ _ _ _ c.in-Err.is in record {
      code = e ∙ both.0;
      at = both.1.0;
      count = both.1.1;
    }
