-- "Smallest first; each is given when it is true of the call and no earlier one is, and only then." (7.1)
use Rattle.std.specs.Prelude.{◌≡◌, Bool, true, false, cond, ◌⊎◌, List, [], ◌∷◌, ℕ, suc, ◌<◌, eqb}
use Rattle.answer.specs.Reply.{Reply, accepted, refused}

-- a condition: the number of its refusal, and whether it is true of the call
abbrev pub Condition : Type 0
Condition = ℕ × Bool

-- the reply to a call: the first condition that is true refuses it, else it gives the numbers
abbrev pub decide : List Condition → List ℕ → Reply
decide [] given = accepted given
decide (c ∷ cs) given = cond c.1 (refused c.0) (decide cs given)

-- what a call leaves in a piece of lent memory: "nothing lent is altered" (7.1) by a refusal
abbrev pub leaves : {A : Type 0} → Reply → A → A → A
leaves (accepted given) old new = new
leaves (refused n) old new = old

-- a condition of number n is true
abbrev pub Holds : ℕ → List Condition → Type 0
Holds n [] = ⊥
Holds n (c ∷ cs) = ((c.0 ≡ n) × (c.1 ≡ true)) ⊎ Holds n cs

-- the refusals in the order in which they are looked at: "smallest first" (7.1), and each that a later request adds where that request puts it
abbrev pub in_order : List ℕ
in_order = 1 ∷ 2 ∷ 3 ∷ 4 ∷ 5 ∷ 6 ∷ 15 ∷ 16 ∷ 19 ∷ 21 ∷ 23 ∷ 7 ∷ 8 ∷ 9 ∷ 17 ∷ 22 ∷ 10 ∷ 18 ∷ 20 ∷ 11 ∷ 12 ∷ 13 ∷ 14 ∷ []

-- the place of n in l, counted from k on; 0 for a number that is not in it
abbrev pub place_from : ℕ → List ℕ → ℕ → ℕ
place_from k [] n = 0
place_from k (m ∷ l) n = cond (eqb m n) k (place_from (suc k) l n)

-- the place of a refusal in that order
abbrev pub place : ℕ → ℕ
place n = place_from 1 in_order n

-- no condition that comes earlier than that of number n is true
abbrev pub NoneBefore : ℕ → List Condition → Type 0
NoneBefore n [] = Unit {0}
NoneBefore n (c ∷ cs) = (place c.0 < place n → c.1 ≡ false) × NoneBefore n cs

-- the conditions stand in that order, each behind the place m
abbrev pub Ordered : ℕ → List Condition → Type 0
Ordered m [] = Unit {0}
Ordered m (c ∷ cs) = (m < place c.0) × Ordered (place c.0) cs

-- no condition is true
abbrev pub NoneHolds : List Condition → Type 0
NoneHolds [] = Unit {0}
NoneHolds (c ∷ cs) = (c.1 ≡ false) × NoneHolds cs
