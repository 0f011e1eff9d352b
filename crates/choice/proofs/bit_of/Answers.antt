-- One bit, at the block's place in its word.
use mathlib.Core.Path.{ap, ◌∙◌}
use Prim.Native.Nat.{ℕ, ◌^◌}
use native.Mathlib.Omega.{arith}
use lib.Bits.{and_mask, mask_lt}
use Rattle.choice.proofs.Bit.{one_shl}
use Rattle.choice.proofs.bit_of.Goals as goal

pub overflow_shl-result : goal.overflow_shl-result
overflow_shl-result c = omega (arith, mask_lt c.args.b 5)

pub returns : goal.returns
returns c = one_shl _ (mask_lt c.args.b 5) ∙ ap (λ (k : ℕ). 2 ^ k) (and_mask c.args.b 5)
