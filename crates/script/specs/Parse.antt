-- What a line says, by reading it from its start: "An empty or longer line is no call" (10.2); the five letters `store` and six numbers,
-- or a call's letter and its numbers, to the line's end; or a letter, a name and its numbers: "In a script a name is any run of one or more bytes without
-- a space." (order 6)
use Rattle.std.specs.Prelude.{ℕ, zero, suc, ◌+◌, ◌-◌, ◌*◌, Bool, true, false, cond, ◌&&◌, List, [], ◌∷◌, ◌++◌, length, get_or, take, drop, eqb, leb, ltb}
use Rattle.std.specs.Prelude.{Option as Maybe, Some, None}
use Rattle.std.proofs.Math.Option.{Option, none, some}
use Rattle.model.specs.declared.Call.{Call}
use Rattle.model.specs.declared.Naming.{Naming}
use Rattle.script.specs.declared.parse.Six.{Six}
use Rattle.script.specs.declared.parse.Parsed.{Parsed}
use Rattle.script.specs.declared.parse.Parsed.TheVariants.{Store, Asks, Named}
use Rattle.script.specs.Letters.{names, listed, call_of, naming_of}

abbrev pub is_digit : ℕ → Bool
is_digit b = leb 48 b && leb b 57

-- the digits at the head of a list, at most `room` of them, after those of `value`; `at` is the list's position in its line. The number, and the position
-- after it
unfoldable pub digits_from : List ℕ → ℕ → ℕ → ℕ → ℕ × ℕ
digits_from [] value room at = (value, at)
digits_from (b ∷ l) value zero at = (value, at)
digits_from (b ∷ l) value (suc room) at = cond (is_digit b) (digits_from l (value * 10 + (b - 48)) room (at + 1)) (value, at)

-- a number that was read and the position after it, or none
abbrev pub Number : Type 0
Number = Maybe (ℕ × ℕ)

-- "1 to 7 digits, no leading zero but 0 itself" (10.4)
unfoldable pub first_digit : List ℕ → ℕ → Number
first_digit [] at = None
first_digit (b ∷ l) at = cond (eqb b 48) (Some (0, at + 1)) (cond (is_digit b) (Some (digits_from l (b - 48) 6 (at + 1))) None)

-- a number after a single space, and the position after it
unfoldable pub number_from : List ℕ → ℕ → Number
number_from [] at = None
number_from (b ∷ l) at = cond (eqb b 32) (first_digit l (at + 1)) None

abbrev pub on_number : Number → (ℕ → ℕ → Option (List ℕ)) → Option (List ℕ)
on_number (Some read) f = f read.0 read.1
on_number None f = none

abbrev pub gave : Bool → List ℕ → Option (List ℕ)
gave t ns = cond t (some ns) none

-- the numbers from a position to the line's end, at most n of them, after those that were read before
unfoldable pub numbers_from : List ℕ → ℕ → ℕ → List ℕ → Option (List ℕ)
numbers_from line at zero before = gave (eqb at (length line)) before
numbers_from line at (suc n) before =
    cond (eqb at (length line)) (some before) (on_number (number_from (drop at line) at) (λ value end. numbers_from line end n (before ++ (value ∷ []))))

-- numbers in a buffer by their count, if there is one
abbrev pub counted : Maybe ℕ → List ℕ → Option (List ℕ)
counted (Some n) ns = some (take n ns)
counted None ns = none

-- whether a line begins with a word
unfoldable pub opens : List ℕ → List ℕ → Bool
opens [] line = true
opens (w ∷ ws) [] = false
opens (w ∷ ws) (b ∷ l) = cond (eqb b w) (opens ws l) false

-- the five letters `store`
abbrev pub store : List ℕ
store = 115 ∷ 116 ∷ 111 ∷ 114 ∷ 101 ∷ []

abbrev pub six_of : List ℕ → Six
six_of ns =
    record {
      arenas = get_or ns 0 0;
      per = get_or ns 1 0;
      pages = get_or ns 2 0;
      records = get_or ns 3 0;
      turn = get_or ns 4 0;
      words = get_or ns 5 0;
    }

abbrev pub store_of : Option (List ℕ) → Parsed
store_of none = Parsed.No
store_of (some ns) = cond (eqb (length ns) 6) (Store (six_of ns)) Parsed.No

-- what a letter and numbers say
abbrev pub says_of : Option Call → Parsed
says_of none = Parsed.No
says_of (some c) = Asks c

-- what a letter and n numbers say, of which the first three are x, y and z
unfoldable pub says_by : ℕ → ℕ → ℕ → ℕ → ℕ → Parsed
says_by b n x y z = cond (ltb 3 n) Parsed.No (says_of (call_of b (take n (x ∷ y ∷ z ∷ []))))

abbrev pub asks_of : ℕ → Option (List ℕ) → Parsed
asks_of b none = Parsed.No
asks_of b (some ns) = says_of (call_of b ns)

-- a line of a letter and numbers
unfoldable pub call_line : List ℕ → Parsed
call_line [] = Parsed.No
call_line (b ∷ l) = asks_of b (numbers_from (b ∷ l) 1 3 [])

-- whether a line opens with the letter of a call that has a name
abbrev pub opens_name : List ℕ → Bool
opens_name [] = false
opens_name (b ∷ l) = listed names b

-- how many bytes stand before the first space, or the end
unfoldable pub name_run : List ℕ → ℕ
name_run [] = 0
name_run (b ∷ l) = cond (eqb b 32) 0 (suc (name_run l))

-- a call on the name that ends at a position of its line
abbrev pub named_of : Option Naming → ℕ → Parsed
named_of none end = Parsed.No
named_of (some n) end = Named n end

-- what a letter, a name that ends there and n numbers say, of which the first is x
unfoldable pub named_by : ℕ → ℕ → ℕ → ℕ → Parsed
named_by b end n x = cond (ltb 1 n) Parsed.No (named_of (naming_of b (take n (x ∷ []))) end)

abbrev pub names_of : ℕ → ℕ → Option (List ℕ) → Parsed
names_of b end none = Parsed.No
names_of b end (some ns) = named_of (naming_of b ns) end

-- a line of a letter, a space, a name and numbers: the name begins at position 2, and has a byte
unfoldable pub name_line : List ℕ → Parsed
name_line [] = Parsed.No
name_line (b ∷ []) = Parsed.No
name_line (b ∷ s ∷ l) =
    let end = 2 + name_run l in
    cond (eqb s 32 && ltb 2 end) (names_of b end (numbers_from (b ∷ s ∷ l) end 3 [])) Parsed.No

-- what a line says
unfoldable pub parsed : List ℕ → Parsed
parsed line =
    cond (ltb 80 (length line)) Parsed.No
    (cond (opens store line) (store_of (numbers_from line 5 6 [])) (cond (opens_name line) (name_line line) (call_line line)))
