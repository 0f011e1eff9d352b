-- `width_of` meets its contract.
use native.Mathlib.Omega.{arith}
use mathlib.Core.Path.{sym}
use Rattle.script.proofs.Decimals.{length_two, length_three, length_four}
use Rattle.script.proofs.reply.width_of.Goals as goal

pub returns-then-n-lt100 : goal.returns-then-n-lt100
returns-then-n-lt100 c = record {
  is = sym (length_two c.args.n (omega arith) (omega arith));
  range = (omega arith, omega arith);
}

pub returns-then-n-lt1000 : goal.returns-then-n-lt1000
returns-then-n-lt1000 c = record {
  is = sym (length_three c.args.n (omega arith) (omega arith));
  range = (omega arith, omega arith);
}

pub returns : goal.returns
returns c = record {
  is = sym (length_four c.args.n (omega arith) (omega arith));
  range = (omega arith, omega arith);
}
