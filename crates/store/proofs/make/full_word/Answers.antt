-- `full_word`: as many bits as blocks are left for it, 32 at most.
use mathlib.Core.Path.{◌≡◌, ap, ◌∙◌}
use Prim.Native.Nat.{min, ◌-◌, ◌*◌, ◌^◌}
use native.Mathlib.Omega.{arith}
use Rattle.std.proofs.lemmas.Nat.{one_shl}
use Rattle.store.specs.Fresh.{full_word}
use Rattle.store.proofs.make.full_word.Goals as goal

pub returns : goal.returns
unfolding full_word
returns c =
    let n = c.min-blocks.result in
    let e : n ≡ min 32 (c.args.n - 32 * c.args.k) = omega arith in
    ap (λ m. m - 1) (one_shl n 64 (omega arith)) ∙ ap (λ m. 2 ^ m - 1) e
