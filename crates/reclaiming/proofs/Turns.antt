-- How many blocks a turn of k frees: those that there are, and no more than k.
use mathlib.Core.Path.{◌≡◌, sym, ap, ◌∙◌}
use mathlib.Core.List.{List}
use Prim.Native.Nat.{ℕ, ◌≤◌, min}
use native.Mathlib.Omega.{arith}
use lib.ListN.{length, get_or, take, drop, length-take, drop_of_length-le}
use lib.Seq.{take_all}
use Rattle.answer.proofs.Cases.{cases, lt?}
use Rattle.reclaiming.specs.Stages.{turn}

pub turn_le : (t : List ℕ) (k : ℕ) → turn t k ≤ k
unfolding turn
turn_le t k = omega arith

pub turn_in : (t : List ℕ) (k : ℕ) → turn t k ≤ get_or t 10 0
unfolding turn
turn_in t k = omega arith

-- of a list as long as the queue: so many of it are its first k, and the others are the others
module _ (t l : List ℕ) (k : ℕ) (long : length l ≡ get_or t 10 0) where
  pub turn_length : length (take k l) ≡ turn t k
  unfolding turn
  turn_length = length-take k l ∙ ap (min k) long

  pub turn_take : take (turn t k) l ≡ take k l
  unfolding turn
  turn_take =
      cases (lt? (length l) k)
      (λ h. take_all (turn t k) l (omega arith) ∙ sym (take_all k l (omega arith)))
      (λ h. ap (λ n. take n l) (let z : min k (get_or t 10 0) ≡ k = omega arith in z))

  pub turn_drop : drop (turn t k) l ≡ drop k l
  unfolding turn
  turn_drop =
      cases (lt? (length l) k)
      (λ h. drop_of_length-le l {i = turn t k} (omega arith) ∙ sym (drop_of_length-le l {i = k} (omega arith)))
      (λ h. ap (λ n. drop n l) (let z : min k (get_or t 10 0) ≡ k = omega arith in z))
