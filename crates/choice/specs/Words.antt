-- The parts of the lent tables that the search reads: the free words, a bit a block, and the arenas' marks.
use Rattle.std.specs.Prelude.{Bool, true, cond, not, ◌&&◌, List, ℕ, zero, suc, ◌+◌, ◌-◌, ◌*◌, ◌/◌, ◌%◌, ◌^◌, ◌<◌, ◌≤◌, min, eqb, length, get_or}
use Rattle.geometry.specs.Limits.{max_arenas, max_per}

-- bit i of a number, the lowest is bit 0
unfoldable pub bit : ℕ → ℕ → Bool
bit w i = eqb (w / 2 ^ i % 2) 1

-- a block may be given where its bit is 1: bit i of word k is that of block 32 k + i
unfoldable pub free_in : List ℕ → ℕ → Bool
free_in words b = bit (get_or words (b / 32) 0) (b % 32)

-- a word as the search for what may be given (true) or may not (false) sees it, and of which blocks its bits are then 1
abbrev pub seen_as : Bool → ℕ → ℕ
seen_as given word = cond given word (2 ^ 32 - 1 - word)

abbrev pub is_seen : Bool → List ℕ → ℕ → Bool
is_seen given words b = cond given (free_in words b) (not (free_in words b))

unfoldable pub mark_in : List ℕ → ℕ → ℕ
mark_in marks a = get_or marks a 0

-- of the n numbers from i on, the first that p holds of, and `none` where it holds of none of them
unfoldable pub first_from : (ℕ → Bool) → ℕ → ℕ → ℕ → ℕ
first_from p none i zero = none
first_from p none i (suc n) = cond (p i) i (first_from p none (suc i) n)

-- a block is free where its birth is 0
unfoldable pub born_free : List ℕ → ℕ → Bool
born_free births b = eqb (get_or births b 0) 0

-- the word of the n numbers from i on: a bit is 1 where p holds
unfoldable pub word_of : (ℕ → Bool) → ℕ → ℕ → ℕ
word_of p i zero = 0
word_of p i (suc n) = word_of p i n + cond (p (i + n)) (2 ^ n) 0

-- do the first k words say of each of the n numbers what p does, and nothing behind them?
unfoldable pub words_agree : List ℕ → (ℕ → Bool) → ℕ → ℕ → Bool
words_agree words p n zero = true
words_agree words p n (suc k) = words_agree words p n k && eqb (get_or words k 0) (word_of p (32 * k) (min 32 (n - 32 * k)))

-- what the search asks of its caller: ranges
pub record Searchable (words marks : List ℕ) (arenas per counter kind : ℕ) : Type 0 where
  pub arenas_least : 0 < arenas
  pub arenas_most : arenas ≤ max_arenas
  pub per_least : 0 < per
  pub per_most : per ≤ max_per
  pub words_long : arenas * per ≤ 32 * length words
  pub marks_long : arenas ≤ length marks
  pub marks_low : (a : ℕ) → a < arenas → get_or marks a 0 < per
  pub counter_low : counter < arenas
  pub kind_low : kind ≤ 2
