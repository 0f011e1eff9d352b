-- A NUMBER AS AN ARGUMENT SPELLS IT: 1 to 7 decimal digits, no leading zero but 0 itself.
use Rattle.std.specs.Prelude.{ℕ, ◌+◌, ◌-◌, ◌*◌, Bool, not, cond, ◌&&◌, ◌||◌, List, [], ◌∷◌, eqb, leb, length, get_or}
use Rattle.std.specs.Prelude.{Option, Some, None}

abbrev pub is_digit : ℕ → Bool
is_digit b = leb 48 b && leb b 57

-- the value of digits after those of `value`; none where a byte is no digit
unfoldable pub digits_of : List ℕ → ℕ → Option ℕ
digits_of [] value = Some value
digits_of (b ∷ l) value = cond (is_digit b) (digits_of l (value * 10 + (b - 48))) None

-- 1 to 7 bytes, of which the first is no 0 unless it is alone
abbrev pub short_enough : List ℕ → Bool
short_enough text = leb 1 (length text) && (leb (length text) 7 && (eqb (length text) 1 || not (eqb (get_or text 0 0) 48)))

-- THE NUMBER that a text spells
unfoldable pub number_of : List ℕ → Option ℕ
number_of text = cond (short_enough text) (digits_of text 0) None
