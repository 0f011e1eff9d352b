-- The number that an answer names, where the result buffer is long enough.
use mathlib.Core.Path.{◌≡◌, refl, sym, ap, ◌∙◌}
use mathlib.Core.List.{List}
use Prim.Native.Nat.{ℕ, ◌≤◌, ◌<◌}
use native.Mathlib.Omega.{arith}
use lib.ListN.{length, take}
use lib.Seq.{take_all, length-take-le}
use Rattle.std.specs.Prelude.{Ok}
use Rattle.answer.specs.Reply.{reply_of}
use Rattle.answer.proofs.Cases.{cases, lt?}
use Rattle.geometry.specs.declared.Geometry.{Geometry}
use Rattle.model.specs.Memory.{Memory, reply}
use Rattle.model.specs.Command.{Command}
use Rattle.model.proofs.Keeps.{accepted_is}
use Rattle.model.proofs.ResultSize.{accepted_le}

-- the number of a result that is shorter than the buffer
pub number_of : (n : ℕ) (out l : List ℕ) → take n out ≡ l → length l < length out → n ≡ length l
number_of n out l e k =
    cases (lt? n (length out))
    (λ a. omega (arith, ap length e, length-take-le n out (omega arith)))
    (λ a. absurd (let z : ⊥ = omega (arith, ap length (sym (take_all n out a) ∙ e)) in z))

-- the number that an answer names
pub done_le : (n : ℕ) (out : List ℕ) (g : Geometry) (M : Memory) (c : Command) → reply_of (Ok n) out ≡ reply g M c →
    4160 ≤ length out → n ≤ 4097
unfolding reply_of
done_le n out g M c e k =
    let i = (accepted_is g M c (take n out) (sym e)).0.inside in
    let a = accepted_le g M c (take n out) (sym e) in
    cases a
    (λ h. omega (arith, number_of n out (take n out) refl (omega (arith, h, i.blocks_most)), h, i.blocks_most))
    (λ h. omega (arith, number_of n out (take n out) refl (omega (arith, h)), h))
