-- "Output per line: `+` and the result's numbers, or `-` and the refusal, single spaces." (10.6) A block and its birth are "printed with a colon, as 0:1"
-- (3.13).
use Rattle.std.specs.Prelude.{ℕ, ◌+◌, ◌-◌, ◌*◌, ◌≤◌, ◌≡◌, Bool, true, false, cond, not, ◌&&◌, List, [], ◌∷◌, ◌++◌, length, take, eqb}
use Rattle.std.proofs.Math.Option.{Option, none, some}
use Rattle.std.specs.Prelude.{Result, Ok, Err}
use Rattle.answer.specs.declared.Refusal.{Refusal}
use Rattle.answer.specs.Number.{number_of}
use Rattle.answer.specs.Reply.{Reply, accepted, refused}
use Rattle.model.specs.declared.Spelling.{Spelling}
use Rattle.model.specs.declared.Spelling.TheVariants.{Numbers, Blocks}
use Rattle.model.specs.Results.{Item, plain, born, items_of, numbers_of}
use Rattle.model.specs.Calls.{spelling}
use Rattle.model.specs.Command.{command}
use Rattle.script.specs.declared.parse.Parsed.{Parsed}
use Rattle.script.specs.declared.parse.Parsed.TheVariants.{Store, Asks, Named, No}
use Rattle.script.specs.Decimal.{led}
use Rattle.script.specs.Parse.{is_digit}

-- ── the text of a reply ──

-- a number, or a block and its birth, behind a single space
unfoldable pub item_text : Item → List ℕ
item_text (plain n) = led 32 n
item_text (born b v) = led 32 b ++ led 58 v

unfoldable pub items_text : List Item → List ℕ
items_text [] = []
items_text (i ∷ l) = item_text i ++ items_text l

-- the line of a reply whose numbers are spelled so, with its line feed
unfoldable pub reply_text : Spelling → Reply → List ℕ
reply_text s (accepted ns) = 43 ∷ (items_text (items_of s ns) ++ (10 ∷ []))
reply_text s (refused k) = 45 ∷ (led 32 k ++ (10 ∷ []))

-- whether a result is blocks, each with its birth
abbrev pub is_blocks : Spelling → Bool
is_blocks Numbers = false
is_blocks Blocks = true

-- how the numbers of the reply to a line are spelled
unfoldable pub spelling_of : Parsed → Spelling
spelling_of (Store x) = Numbers
spelling_of (Asks c) = spelling (command c)
spelling_of (Named n e) = Numbers
spelling_of No = Numbers

-- an answer with its refusal by the number
unfoldable pub by_number : Result ℕ Refusal → Result ℕ ℕ
by_number (Ok n) = Ok n
by_number (Err r) = Err (number_of r)

-- the reply that such an answer stands for, whatever number it has, with the result buffer as the call left it
unfoldable pub numbered_reply : Result ℕ ℕ → List ℕ → Reply
numbered_reply (Ok n) out = accepted (take n out)
numbered_reply (Err k) out = refused k

-- how many numbers an answer gives
abbrev pub given : Result ℕ ℕ → ℕ
given (Ok n) = n
given (Err k) = 0

-- room for a reply behind the first `at` bytes of a text, and its numbers in the result buffer
pub record Room (text : List ℕ) (at : ℕ) (answer : Result ℕ ℕ) (out : List ℕ) : Type 0 where
  pub fits : at + 12 * given answer + 16 ≤ length text
  pub gives : given answer ≤ length out

-- ── the text of a reply read back, by the same rules ──

-- a reply as it is printed: plus and its items, or minus and the number of the refusal
pub data Printed : Type 0 where
  plus : List Item → Printed
  minus : ℕ → Printed

-- what is printed of a reply whose numbers are spelled so
abbrev pub printed_of : Spelling → Reply → Printed
printed_of s (accepted ns) = plus (items_of s ns)
printed_of s (refused k) = minus k

-- numbers that are all printed: of blocks with their births there is an even count
abbrev pub Whole : Spelling → List ℕ → Type 0
Whole Numbers ns = Unit {0}
Whole Blocks ns = (m : ℕ) × (length ns ≡ 2 * m)

-- a reply whose numbers are all printed
abbrev pub WholeReply : Spelling → Reply → Type 0
WholeReply s (accepted ns) = Whole s ns
WholeReply s (refused k) = Unit {0}

-- the reply that a printed one stands for
abbrev pub reply_in : Printed → Reply
reply_in (plus l) = accepted (numbers_of l)
reply_in (minus k) = refused k

-- whether a number begins here: a digit, and no leading zero but 0 itself
abbrev pub begins : List ℕ → Bool
begins [] = false
begins (b ∷ []) = is_digit b
begins (b ∷ c ∷ l) = is_digit b && not (eqb b 48 && is_digit c)

-- whether a line feed stands here, and nothing behind it
abbrev pub ends : ℕ → List ℕ → Bool
ends b [] = eqb b 10
ends b (c ∷ l) = false

abbrev pub with_first : Item → Option (List Item) → Option (List Item)
with_first i none = none
with_first i (some l) = some (i ∷ l)

-- the item of a number v, which stands behind a block and its colon, or not
abbrev pub item_of : Option ℕ → ℕ → Item
item_of none v = plain v
item_of (some b) v = born b v

-- whether a colon stands here, and a birth behind it: only behind a block that has none yet
abbrev pub turns : Option ℕ → ℕ → List ℕ → Bool
turns none b l = eqb b 58 && begins l
turns (some c) b l = false

-- from inside a number on, of which v is read, after the block and the colon p if there are any: its other digits; then a colon and a birth, a single
-- space and the next item, or the end
unfoldable pub inside_read : Option ℕ → ℕ → List ℕ → Option (List Item)
inside_read p v [] = none
inside_read p v (b ∷ l) =
    cond (is_digit b) (inside_read p (v * 10 + (b - 48)) l)
    (cond (turns p b l) (inside_read (some v) 0 l)
    (cond (eqb b 32 && begins l) (with_first (item_of p v) (inside_read none 0 l)) (cond (ends b l) (some (item_of p v ∷ [])) none)))

-- the items behind a sign
unfoldable pub items_read : List ℕ → Option (List Item)
items_read [] = none
items_read (b ∷ l) = cond (eqb b 32 && begins l) (inside_read none 0 l) (cond (ends b l) (some []) none)

abbrev pub gives : Option (List Item) → Option Printed
gives none = none
gives (some l) = some (plus l)

-- a refusal is one number
abbrev pub refuses : Option (List Item) → Option Printed
refuses none = none
refuses (some []) = none
refuses (some (plain k ∷ [])) = some (minus k)
refuses (some (plain k ∷ i ∷ l)) = none
refuses (some (born b v ∷ l)) = none

-- what a line of output prints, with its line feed
unfoldable pub reply_read : List ℕ → Option Printed
reply_read [] = none
reply_read (b ∷ l) = cond (eqb b 43) (gives (items_read l)) (cond (eqb b 45) (refuses (items_read l)) none)

-- ── the text of several replies ──

-- a reply and how its numbers are spelled
pub record Spelled : Type 0 where
  pub spelling : Spelling
  pub reply : Reply

-- its line without the line feed
unfoldable pub reply_line : Spelling → Reply → List ℕ
reply_line s (accepted ns) = 43 ∷ items_text (items_of s ns)
reply_line s (refused k) = 45 ∷ led 32 k

unfoldable pub reply_lines : List Spelled → List (List ℕ)
reply_lines [] = []
reply_lines (r ∷ rs) = reply_line r.spelling r.reply ∷ reply_lines rs

unfoldable pub reply_texts : List Spelled → List ℕ
reply_texts [] = []
reply_texts (r ∷ rs) = reply_text r.spelling r.reply ++ reply_texts rs
