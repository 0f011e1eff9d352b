-- The word, shifted by the block's place in it.
use mathlib.Core.Path.{ap}
use Prim.Native.Nat.{ℕ, ◌/◌, ◌^◌}
use native.Mathlib.Omega.{arith}
use lib.Bits.{and_mask, mask_lt}
use Rattle.choice.proofs.Gap.{rest_fits}
use Rattle.choice.proofs.rest_of.Goals as goal

pub overflow_shr-result : goal.overflow_shr-result
overflow_shr-result c = omega (arith, mask_lt c.args.b 5)

pub returns : goal.returns
returns c = let s = c.args in let both = rest_fits s.word s.b (omega arith) (ap (λ (k : ℕ). s.word / 2 ^ k) (and_mask s.b 5)) in record {
  is = both.0;
  fits = both.1;
}
