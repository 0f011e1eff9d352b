-- The lowest ten bits of a number are what is left of it modulo 1,024.
use mathlib.Core.Path.{◌∙◌}
use native.Mathlib.Omega.{arith}
use lib.Bits.{and_mask, mask_lt}
use Rattle.tables.proofs.find.hint_at.Goals as goal

pub returns : goal.returns
returns c = let n = c.args.n in record {
  is = c.wide.ensures ∙ and_mask n 10;
  range = omega (arith, c.wide.ensures, mask_lt n 10);
}
