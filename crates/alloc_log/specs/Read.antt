-- "Reading starts with all N blocks free, in a table of 2,048 marks. A barrier changes nothing. The result is the held blocks, rising. Bad: a length
-- not a multiple of 8; another low byte; a barrier whose rest is not zero; an address not a multiple of 16,384, or past the end; a length missing,
-- zero or no multiple of 16,384; a run across an arena edge; an allocation of an allocated block, a free of a free one." (6.4, 6.5)
use Rattle.std.specs.Prelude.{
  ◌≡◌,
  ℕ,
  ◌+◌,
  ◌-◌,
  ◌*◌,
  ◌/◌,
  ◌%◌,
  ◌<◌,
  ◌≤◌,
  Bool,
  true,
  false,
  cond,
  Option,
  Some,
  None,
  List,
  length,
  drop,
  replicate,
  ◌==◌,
  nat_le,
}
use Rattle.std.specs.Bool.{then_some}
use mathlib.Core.List.{foldl}
use Rattle.alloc_log.specs.Word.{words}
use Rattle.alloc_log.specs.Marks.{Change, mark_run, held_in, Table}
use Rattle.alloc_log.specs.declared.read.Progress.{Progress}
use Rattle.alloc_log.specs.declared.read.Progress.TheVariants.{Ready, Run}

-- how far the reading has come, none where it met a bad word, and the marks
abbrev pub State : Type 0
State = Option Progress × List ℕ

-- a run that waits for its length starts at one of the blocks
abbrev pub RunInside : ℕ → Option Progress → Type 0
RunInside blocks (Some Ready) = Unit {0}
RunInside blocks (Some (Run held b)) = b < blocks
RunInside blocks None = Unit {0}

abbrev pub changed : Change → State
changed c = (then_some c.0 Ready, c.1)

-- the entry of low byte `low` at block b
unfoldable pub by_code : List ℕ → ℕ → ℕ → State
by_code m low b =
    cond (low == 1) (changed (mark_run m b 1 true))
    (cond (low == 2) (changed (mark_run m b 1 false)) (cond (low == 4) (Some (Run true b), m) (cond (low == 5) (Some (Run false b), m) (None, m))))

-- the first word of an entry
unfoldable pub first_word : ℕ → List ℕ → ℕ → State
first_word blocks m w =
    cond (w % 256 == 3) (cond (w - w % 256 == 0) (Some Ready, m) (None, m))
    (cond ((w - w % 256) % 16384 == 0)
    (cond (nat_le blocks ((w - w % 256) / 16384)) (None, m) (by_code m (w % 256) ((w - w % 256) / 16384)))
    (None, m))

-- the second word of a run's entry, its length
unfoldable pub second_word : ℕ → List ℕ → Bool → ℕ → ℕ → State
second_word per m held b w =
    cond (w == 0) (None, m)
    (cond (w % 16384 == 0) (cond (nat_le (b % per + w / 16384) per) (changed (mark_run m b (w / 16384) held)) (None, m)) (None, m))

unfoldable pub by_progress : ℕ → ℕ → Option Progress → List ℕ → ℕ → State
by_progress arenas per (Some Ready) m w = first_word (arenas * per) m w
by_progress arenas per (Some (Run held b)) m w = second_word per m held b w
by_progress arenas per None m w = (None, m)

-- one word, of a store with that many arenas and blocks per arena
abbrev pub read_word : ℕ → ℕ → State → ℕ → State
read_word arenas per s w = by_progress arenas per s.0 s.1 w

-- the words in order
abbrev pub read_words : ℕ → ℕ → State → List ℕ → State
read_words arenas per s ws = foldl (read_word arenas per) s ws

-- from byte position `from` on, on the marks m, the log was read up to `to`, whole words: with the marks k the rest of it reads to the same
pub record ReadOn (arenas per : ℕ) (log m : List ℕ) (from : ℕ) (k : List ℕ) (to : ℕ) : Type 0 where
  pub least : from ≤ to
  pub most : to ≤ length log
  pub whole : to % 8 ≡ from % 8
  pub table : Table (arenas * per) k
  pub same : read_words arenas per (Some Ready, k) (words (drop to log)) ≡ read_words arenas per (Some Ready, m) (words (drop from log))

-- all blocks free
unfoldable pub free : List ℕ
free = replicate 2048 0

-- whether the bytes are a log, and the marks; all free where they are none
abbrev pub Result : Type 0
Result = Bool × List ℕ

-- a result told as its marks, or none
abbrev pub told : Option (List ℕ) → Result
told (Some m) = (true, m)
told None = (false, free)

-- a length that is missing at the end is bad
unfoldable pub ended : Option Progress → List ℕ → Result
ended (Some Ready) m = (true, m)
ended (Some (Run held b)) m = (false, free)
ended None m = (false, free)

abbrev pub end_of : State → Result
end_of s = ended s.0 s.1

unfoldable pub read_log : ℕ → ℕ → List ℕ → Result
read_log arenas per log = cond (length log % 8 == 0) (end_of (read_words arenas per (Some Ready, free) (words log))) (false, free)

-- the bytes are a log, and at its end exactly those blocks are held that `held` tells
pub record Reads (arenas per : ℕ) (log : List ℕ) (held : ℕ → Bool) : Type 0 where
  pub readable : (read_log arenas per log).0 ≡ true
  pub marks : (b : ℕ) → b < arenas * per → held_in (read_log arenas per log).1 b ≡ held b
