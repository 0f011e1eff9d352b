-- The free words of a stranger's tables, joined by the blocks that wait and by those that are queued.
use Rattle.std.specs.Prelude.{ℕ, ◌/◌, ◌%◌, ◌^◌, Bool, true, not, ◌&&◌, List, [], ◌∷◌, bit_or, nat_lt, slice_index, slice_set}
use Rattle.choice.specs.Words.{free_in}

-- the words with the bit of b set
unfoldable pub with_bit : List ℕ → ℕ → List ℕ
with_bit words b = slice_set words (b / 32) (bit_or (slice_index words (b / 32)) (2 ^ (b % 32)))

-- the words with the bit of each of a list set
unfoldable pub joined : List ℕ → List ℕ → List ℕ
joined words [] = words
joined words (b ∷ l) = joined (with_bit words b) l

-- each of a list is below n, and its bit is not set before
unfoldable pub joins? : ℕ → List ℕ → List ℕ → Bool
joins? n words [] = true
joins? n words (b ∷ l) = nat_lt b n && (not (free_in words b) && joins? n (with_bit words b) l)
