-- The bits of a word that are 1, the lowest first.
use Rattle.std.specs.Prelude.{◌≡◌, ℕ, ◌-◌, Option, Some, None}
use Rattle.std.specs.Int.Bits.{bit_and}
use lib.Count.{count_trailing_zeros}
use Rattle.choice.specs.declared.bits.Bits.{Bits}

-- the place of the lowest, which is taken off; none where no bit is left
abbrev pub Next : Bits → Option ℕ → Bits → Type 0
Next s None t = s.word ≡ 0
Next s (Some k) t = (s.word ≡ 0 → ⊥) × (k ≡ count_trailing_zeros 32 s.word) × (t.word ≡ bit_and s.word (s.word - 1))
