-- Words that have no 1, and ranges of the blocks of an arena.
use mathlib.Core.Path.{◌≡◌}
use Prim.Native.Nat.{ℕ, suc, ◌+◌, ◌*◌, ◌≤◌, ◌<◌}
use native.Mathlib.Nat.{mul-le-mul_right, suc-mul}
use native.Mathlib.Omega.{arith}
use lib.Bits.{bit_or, or_add_and, and_le_r, or_comm}
use mir.Val.{Fits}
use mir.Syntax.{w32, w64}
use Rattle.answer.proofs.Cases.{cases, lt?}

-- two numbers that have no 1 together are both 0
or_none : (a b : ℕ) → bit_or a b ≡ 0 → (a ≡ 0) × (b ≡ 0)
or_none a b e = (omega (arith, or_add_and a b, and_le_r a b), omega (arith, or_add_and b a, or_comm a b, and_le_r b a))

-- one number more that is 0
pub one_more_lem : (f : ℕ → ℕ) {k bits : ℕ} → (bits ≡ 0 → (i : ℕ) → i < k → f i ≡ 0) → bit_or bits (f k) ≡ 0 → (i : ℕ) → i < k + 1 → f i ≡ 0
one_more_lem f {k} {bits} h e i l =
    let z = or_none bits (f k) e in
    cases (lt? i k) (h z.0 i) (λ u. let s : i ≡ k = omega arith in rw s z.1)

-- a number that fits 32 bits fits 64
pub wider : (x : ℕ) → Fits w32 x → Fits w64 x
wider x h = omega arith

-- the blocks of an arena are some of few
pub few : (arenas per a : ℕ) → arenas ≤ 16 → per ≤ 1024 → a < arenas → (a * per + per ≤ arenas * per) × (arenas * per ≤ 16384)
few arenas per a h l u =
    let e : suc a * per ≤ arenas * per = mul-le-mul_right per u in
    let f : arenas * per ≤ 16 * per = mul-le-mul_right per h in
    (omega (arith, suc-mul a per), omega arith)
