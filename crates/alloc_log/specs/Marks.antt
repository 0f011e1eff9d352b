-- "a table of 2,048 marks" (6.4), one for each block: 1 is held (allocated), 0 is free.
use Rattle.std.specs.Prelude.{◌≡◌, ℕ, zero, suc, ◌≤◌, Bool, true, false, cond, not, ◌&&◌, List, [], ◌∷◌, length, replicate, ◌==◌, slice_index, slice_set}
use Rattle.std.proofs.lemmas.List.Edits.{sets}

-- each of the n marks from i on is x
abbrev pub all_from : ℕ → List ℕ → ℕ → ℕ → Bool
all_from x m i zero = true
all_from x m i (suc n) = slice_index m i == x && all_from x m (suc i) n

abbrev pub mark_of : Bool → ℕ
mark_of true = 1
mark_of false = 0

-- whether a change was made, and the marks
abbrev pub Change : Type 0
Change = Bool × List ℕ

-- n blocks from b on become held, or free, where each is in the other state: "an allocation of an allocated block, a free of a free one" (6.5) is none
unfoldable pub mark_run : List ℕ → ℕ → ℕ → Bool → Change
mark_run m b n held = cond (all_from (mark_of (not held)) m b n) (true, sets m b (replicate n (mark_of held))) (false, m)

-- whether block b is held
unfoldable pub held_in : List ℕ → ℕ → Bool
held_in m b = not (slice_index m b == 0)

-- of the n blocks from b on those that pass the test, rising
abbrev pub passing : (ℕ → Bool) → ℕ → ℕ → List ℕ
passing t b zero = []
passing t b (suc n) = cond (t b) (b ∷ passing t (suc b) n) (passing t (suc b) n)

-- "The result is the held blocks, rising" (6.4), of n blocks
unfoldable pub held_blocks : List ℕ → ℕ → List ℕ
held_blocks m n = passing (held_in m) 0 n

-- the table in which of the first n blocks those that `held` tells are held, and all others are free
unfoldable pub marks_for : (ℕ → Bool) → ℕ → List ℕ
marks_for held zero = replicate 2048 0
marks_for held (suc n) = slice_set (marks_for held n) n (mark_of (held n))

-- a table of marks of a store of n blocks
pub record Table (n : ℕ) (m : List ℕ) : Type 0 where
  pub size : length m ≡ 2048
  pub mark : (b : ℕ) → slice_index m b ≤ 1
  pub rest : (b : ℕ) → n ≤ b → slice_index m b ≡ 0
