-- "Single spaces separate; numbers are decimal, 1 to 7 digits, no leading zero but 0 itself." (10.4)
use Rattle.std.specs.Prelude.{ℕ, zero, suc, ◌+◌, ◌/◌, ◌%◌, cond, List, [], ◌∷◌, ◌++◌, ltb}

-- the decimal digits of n in ASCII, at most k + 1 of them
unfoldable pub digits : ℕ → ℕ → List ℕ
digits zero n = (48 + n) ∷ []
digits (suc k) n =
    let front = digits k (n / 10) in
    cond (ltb n 10) ((48 + n) ∷ []) (front ++ ((48 + n % 10) ∷ []))

-- the decimal digits of a number: it has fewer than it counts, or is 0
unfoldable pub decimal : ℕ → List ℕ
decimal n = digits n n

-- a number behind a separator
unfoldable pub led : ℕ → ℕ → List ℕ
led s n = s ∷ decimal n

-- numbers, each behind a single space
unfoldable pub spaced : List ℕ → List ℕ
spaced [] = []
spaced (n ∷ ns) = 32 ∷ (decimal n ++ spaced ns)
