-- Laws of `run`.
use Prim.Native.Nat.{ℕ, suc, ◌+◌, ◌-◌, ◌<◌, ◌≤◌}
use mathlib.Core.List.{List, [], ◌∷◌}
use mathlib.Core.Path.{◌≡◌, refl, sym}
use native.Mathlib.Omega.{arith}
use borrow.Author.Tests.{eq-eqb, lt-ltb, le-ltb}
use lib.ListN.{length, get_or, take, drop, length-drop, drop_of_length-le}
use lib.Seq.{take_all, drop-cons}
use mathlib.Core.Bool.{Bool}
use Rattle.std.specs.Prelude.{Option, unwrap_or, position, ◌==◌}
use Rattle.std.specs.List.{position_or_len}
use Rattle.answer.proofs.Cases.{cases, either, lt?}
use Rattle.std.proofs.lemmas.List.Recursion.{is_position_or_len}
use Rattle.script.specs.Lines.{run}

pub run_here : (l : List ℕ) (i : ℕ) → i < length l → get_or l i 0 ≡ 10 → run (drop i l) ≡ 0
unfolding run
run_here l i b e = rw (drop-cons l i 0 b, eq-eqb _ _ e)

pub run_end : (l : List ℕ) (i : ℕ) → length l ≤ i → run (drop i l) ≡ 0
unfolding run
run_end l i b = rw (drop_of_length-le l b)

-- how far a line goes
run_to_feed : (l : List ℕ) → position_or_len (λ b. b == 10) l ≡ run l
unfolding run
run_to_feed l = sym (is_position_or_len run (λ b. b == 10) refl (λ x xs. let e : 1 + run xs ≡ suc (run xs) = omega arith in rw e) l)

-- the rest of a list, as a slice
pub rest_is : (l : List ℕ) (at : ℕ) → take (length l - at) (drop at l) ≡ drop at l
rest_is l at = take_all (length l - at) (drop at l) (omega (arith, length-drop at l))

pub run_is : (l : List ℕ) (at mark : ℕ) → mark ≡ 10 → position_or_len (λ b. b == mark) (take (length l - at) (drop at l)) ≡ run (drop at l)
run_is l at mark e = rw (e, rest_is l at) (run_to_feed (drop at l))

-- the first place of a list that passes, or its length
place_short : (p : ℕ → Bool) (l : List ℕ) → position_or_len p l ≤ length l
place_short p [] = omega arith
place_short p (x ∷ l) = let h = place_short p l in cases (either (p x)) (λ t. rw t (omega arith)) (λ f. rw f (omega arith))

pub or_end : (p : ℕ → Bool) (l : List ℕ) (r : Option ℕ) (n : ℕ) → r ≡ position p l → n ≡ length l → unwrap_or r n ≡ position_or_len p l
or_end p l r n e k =
    cases (lt? (position_or_len p l) (length l))
    (λ h. rw (e, lt-ltb (position_or_len p l) (length l) h))
    (λ h. rw (e, le-ltb (position_or_len p l) (length l) h) (omega (arith, place_short p l)))
