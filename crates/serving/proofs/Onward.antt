-- A part gets on: where a line is left and a longest reply fits, at least that line is served.
use mathlib.Core.Path.{◌≡◌}
use mathlib.Core.Bool.{Bool, true, false, cond}
use mathlib.Core.List.{List}
use Prim.Native.Nat.{ℕ, zero, suc, ◌+◌, ◌≤◌, ◌<◌}
use native.Mathlib.Omega.{arith}
use lib.ListN.{length}
use Rattle.serving.specs.Part.{Part, served_line, served_most, served, goes_on, longest}
use Rattle.serving.proofs.Serving.{gets_on, goes}

either_way : (b : Bool) (k : ℕ) (p q : Part) → k ≤ p.at → k ≤ q.at → k ≤ (cond b p q).at
either_way true k p q h g = h
either_way false k p q h g = g

-- no part goes back
onward : (n : ℕ) (text : List ℕ) (room : ℕ) (p : Part) → p.at ≤ (served_most n text room p).at
unfolding served_most
onward zero text room p = omega arith
onward (suc n) text room p =
    either_way (goes_on text room p) p.at (served_most n text room (served_line text p)) p
    (omega (arith, gets_on text p, onward n text room (served_line text p))) (omega arith)

first : (n : ℕ) (text : List ℕ) (room : ℕ) (p : Part) → 0 < n → goes_on text room p ≡ true → p.at < (served_most n text room p).at
unfolding served_most
first zero text room p h e = absurd (let z : ⊥ = omega arith in z)
first (suc n) text room p h e = rw e (omega (arith, gets_on text p, onward n text room (served_line text p)))

pub gets_further : (text : List ℕ) (room : ℕ) (p : Part) (a : ℕ) → a ≡ (served text room p).at → p.at < length text → length p.replies + longest ≤ room → p.at < a
unfolding served
gets_further text room p a e h k = rw e (first (length text) text room p (omega arith) (goes text room p h k))
