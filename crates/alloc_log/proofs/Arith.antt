-- Blocks and arenas: per blocks in each of some arenas.
use Rattle.std.proofs.Common.{ℕ, suc, ◌+◌, ◌*◌, ◌/◌, ◌%◌, ◌<◌, ◌≤◌, mul-le-mul_right, suc-mul, div-lt_iff_lt-mul, div-add-mod', arith}

-- an offset in an arena is a block
pub block_inside : (a arenas per o : ℕ) → a < arenas → o < per → a * per + o < arenas * per
block_inside a arenas per o h k =
    let e : suc a * per ≤ arenas * per = mul-le-mul_right per h in
    omega (arith, suc-mul a per)

-- a run that does not cross its arena's edge lies within the blocks
pub run_inside : (b n arenas per : ℕ) → 0 < per → b < arenas * per → b % per + n ≤ per → b + n ≤ arenas * per
run_inside b n arenas per p h k =
    let q : suc (b / per) * per ≤ arenas * per = mul-le-mul_right per ((div-lt_iff_lt-mul p).1 h) in
    omega (arith, suc-mul (b / per) per, div-add-mod' b per)
