-- Lines and replies of the listing (section 11 of the rules), as bytes; and lines that are no call.
use mathlib.Core.Path.{◌≡◌, refl}
use mathlib.Core.List.{List, [], ◌∷◌}
use mathlib.Core.Option.{none, some}
use Prim.Native.Nat.{ℕ}
use lib.ListN.{replicate}
use Rattle.answer.specs.Reply.{accepted, refused}
use Rattle.model.specs.declared.Call.TheVariants.{Write, Seal, Delete, FreeList, Estimate, Retain, Reclaim}
use Rattle.model.specs.declared.Naming.TheVariants as naming
use Rattle.model.specs.Command.{Attach, Detach, Resolve}
use Rattle.model.specs.declared.Spelling.TheVariants.{Numbers, Blocks}
use Rattle.model.specs.Results.{plain, born, born_in, items_of}
use Rattle.script.specs.declared.parse.Parsed.{Parsed}
use Rattle.script.specs.declared.parse.Parsed.TheVariants.{Store, Asks, Named}
use Rattle.script.specs.Decimal.{digits, decimal, led}
use Rattle.script.specs.Parse.{parsed, opens, call_line, name_run, name_line, numbers_from, number_from, first_digit, digits_from}
use Rattle.script.specs.Letters.{made, call_in, listed, call_of, naming_of}
use Rattle.script.specs.Lines.{run, lines_of}
use Rattle.script.specs.Said.{said_at}
use Rattle.script.specs.Spoken.{Spoken, asks, nothing, spoken}
use Rattle.script.specs.ReplyText.{item_text, items_text, spelling_of, reply_text, plus, minus, reply_read, items_read, inside_read}

-- `store 1 4 2 4 8 10`
store_line : parsed (115 ∷ 116 ∷ 111 ∷ 114 ∷ 101 ∷ 32 ∷ 49 ∷ 32 ∷ 52 ∷ 32 ∷ 50 ∷ 32 ∷ 52 ∷ 32 ∷ 56 ∷ 32 ∷ 49 ∷ 48 ∷ [])
    ≡ Store (record { arenas = 1; per = 4; pages = 2; records = 4; turn = 8; words = 10 })
unfolding parsed opens numbers_from number_from first_digit digits_from
store_line = refl

-- `W 2 0 0`
write_line : parsed (87 ∷ 32 ∷ 50 ∷ 32 ∷ 48 ∷ 32 ∷ 48 ∷ []) ≡ Asks (Write 2 0 0)
unfolding parsed opens listed call_line made call_in call_of numbers_from number_from first_digit digits_from
write_line = refl

-- `D 9`
delete_line : parsed (68 ∷ 32 ∷ 57 ∷ []) ≡ Asks (Delete 9)
unfolding parsed opens listed call_line made call_in call_of numbers_from number_from first_digit digits_from
delete_line = refl

-- `L`
list_line : parsed (76 ∷ []) ≡ Asks FreeList
unfolding parsed opens listed call_line made call_in call_of numbers_from number_from first_digit digits_from
list_line = refl

-- `Q 7`
estimate_line : parsed (81 ∷ 32 ∷ 55 ∷ []) ≡ Asks (Estimate 7)
unfolding parsed opens listed call_line made call_in call_of numbers_from number_from first_digit digits_from
estimate_line = refl

-- `K 3 2`
retain_line : parsed (75 ∷ 32 ∷ 51 ∷ 32 ∷ 50 ∷ []) ≡ Asks (Retain 3 2)
unfolding parsed opens listed call_line made call_in call_of numbers_from number_from first_digit digits_from
retain_line = refl

-- `T 64`
reclaim_line : parsed (84 ∷ 32 ∷ 54 ∷ 52 ∷ []) ≡ Asks (Reclaim 64)
unfolding parsed opens listed call_line made call_in call_of numbers_from number_from first_digit digits_from
reclaim_line = refl

-- `D 09`, `L ` and the empty line are no calls
leading_zero : parsed (68 ∷ 32 ∷ 48 ∷ 57 ∷ []) ≡ Parsed.No
unfolding parsed opens listed call_line made call_in call_of numbers_from number_from first_digit digits_from
leading_zero = refl

space_behind : parsed (76 ∷ 32 ∷ []) ≡ Parsed.No
unfolding parsed opens listed call_line made call_in call_of numbers_from number_from first_digit digits_from
space_behind = refl

empty_line : parsed [] ≡ Parsed.No
unfolding parsed opens call_line
empty_line = refl

-- `Q` has one number: `Q` alone and `Q 1 2` are no calls
estimate_bare : parsed (81 ∷ []) ≡ Parsed.No
unfolding parsed opens listed call_line made call_in call_of numbers_from number_from first_digit digits_from
estimate_bare = refl

estimate_two : parsed (81 ∷ 32 ∷ 49 ∷ 32 ∷ 50 ∷ []) ≡ Parsed.No
unfolding parsed opens listed call_line made call_in call_of numbers_from number_from first_digit digits_from
estimate_two = refl

-- `T` has one number: `T` alone, `T 1 2` and `T x` are no calls
reclaim_bare : parsed (84 ∷ []) ≡ Parsed.No
unfolding parsed opens listed call_line made call_in call_of numbers_from number_from first_digit digits_from
reclaim_bare = refl

reclaim_two : parsed (84 ∷ 32 ∷ 49 ∷ 32 ∷ 50 ∷ []) ≡ Parsed.No
unfolding parsed opens listed call_line made call_in call_of numbers_from number_from first_digit digits_from
reclaim_two = refl

reclaim_letter : parsed (84 ∷ 32 ∷ 120 ∷ []) ≡ Parsed.No
unfolding parsed opens listed call_line made call_in call_of numbers_from number_from first_digit digits_from
reclaim_letter = refl

-- `D 12345678`: eight digits
eight_digits : parsed (68 ∷ 32 ∷ 49 ∷ 50 ∷ 51 ∷ 52 ∷ 53 ∷ 54 ∷ 55 ∷ 56 ∷ []) ≡ Parsed.No
unfolding parsed opens listed call_line made call_in call_of numbers_from number_from first_digit digits_from
eight_digits = refl

-- ── names ──

-- what a line asks for, open: to unfold it is to unfold all that it is told by
unfoldable heard : List ℕ → Spoken
unfolding spoken parsed opens listed name_run name_line call_line made call_in call_of naming_of numbers_from number_from first_digit digits_from
heard line = spoken line

-- `N easter 3`, `U a` and `M a`
attach_line : heard (78 ∷ 32 ∷ 101 ∷ 97 ∷ 115 ∷ 116 ∷ 101 ∷ 114 ∷ 32 ∷ 51 ∷ []) ≡ asks (Attach (101 ∷ 97 ∷ 115 ∷ 116 ∷ 101 ∷ 114 ∷ []) 3)
unfolding heard
attach_line = refl

detach_line : heard (85 ∷ 32 ∷ 97 ∷ []) ≡ asks (Detach (97 ∷ []))
unfolding heard
detach_line = refl

resolve_line : heard (77 ∷ 32 ∷ 97 ∷ []) ≡ asks (Resolve (97 ∷ []))
unfolding heard
resolve_line = refl

-- the first says that its name ends at position 8
attach_ends : parsed (78 ∷ 32 ∷ 101 ∷ 97 ∷ 115 ∷ 116 ∷ 101 ∷ 114 ∷ 32 ∷ 51 ∷ []) ≡ Named (naming.Attach 3) 8
unfolding heard
attach_ends = refl

-- a name may hold a tab, a byte 0, a byte 200, digits
name_tab : heard (78 ∷ 32 ∷ 97 ∷ 9 ∷ 98 ∷ 32 ∷ 51 ∷ []) ≡ asks (Attach (97 ∷ 9 ∷ 98 ∷ []) 3)
unfolding heard
name_tab = refl

name_zero : heard (85 ∷ 32 ∷ 0 ∷ []) ≡ asks (Detach (0 ∷ []))
unfolding heard
name_zero = refl

name_high : heard (77 ∷ 32 ∷ 200 ∷ []) ≡ asks (Resolve (200 ∷ []))
unfolding heard
name_high = refl

name_digits : heard (78 ∷ 32 ∷ 49 ∷ 50 ∷ 32 ∷ 51 ∷ []) ≡ asks (Attach (49 ∷ 50 ∷ []) 3)
unfolding heard
name_digits = refl

-- `N  3` with two spaces, `N a`, `N a 01`, `N a 3 ` and `N a 3 4` are no calls
name_missing : heard (78 ∷ 32 ∷ 32 ∷ 51 ∷ []) ≡ nothing
unfolding heard
name_missing = refl

number_missing : heard (78 ∷ 32 ∷ 97 ∷ []) ≡ nothing
unfolding heard
number_missing = refl

number_led : heard (78 ∷ 32 ∷ 97 ∷ 32 ∷ 48 ∷ 49 ∷ []) ≡ nothing
unfolding heard
number_led = refl

number_space : heard (78 ∷ 32 ∷ 97 ∷ 32 ∷ 51 ∷ 32 ∷ []) ≡ nothing
unfolding heard
number_space = refl

number_second : heard (78 ∷ 32 ∷ 97 ∷ 32 ∷ 51 ∷ 32 ∷ 52 ∷ []) ≡ nothing
unfolding heard
number_second = refl

-- `U `, `U a b` and `M` are none
detach_nothing : heard (85 ∷ 32 ∷ []) ≡ nothing
unfolding heard
detach_nothing = refl

detach_two : heard (85 ∷ 32 ∷ 97 ∷ 32 ∷ 98 ∷ []) ≡ nothing
unfolding heard
detach_two = refl

resolve_bare : heard (77 ∷ []) ≡ nothing
unfolding heard
resolve_bare = refl

-- a line of 80 bytes has room for a name of 78; a line of 81 bytes is no call
longest_name : heard (77 ∷ 32 ∷ replicate 78 97) ≡ asks (Resolve (replicate 78 97))
unfolding heard
longest_name = refl

longer_line : heard (77 ∷ 32 ∷ replicate 79 97) ≡ nothing
unfolding heard
longer_line = refl

-- `B`, then `U a` with no line feed after it: the second line says its call, and where its name ends
last_named : said_at (66 ∷ 10 ∷ 85 ∷ 32 ∷ 97 ∷ []) 2 ≡ record { says = Named naming.Detach 3; end = 5 }
unfolding said_at run heard
last_named = refl

-- ── replies ──

-- `+`, `+ 0 2` of numbers, `+ 0:1` and `+ 2:2 1:2` of blocks with their births, and `- 8`
nothing_given : reply_text Blocks (accepted []) ≡ 43 ∷ 10 ∷ []
unfolding reply_text items_of born_in items_text
nothing_given = refl

numbers_given : reply_text Numbers (accepted (0 ∷ 2 ∷ [])) ≡ 43 ∷ 32 ∷ 48 ∷ 32 ∷ 50 ∷ 10 ∷ []
unfolding reply_text items_of items_text item_text led decimal digits
numbers_given = refl

one_given : reply_text Blocks (accepted (0 ∷ 1 ∷ [])) ≡ 43 ∷ 32 ∷ 48 ∷ 58 ∷ 49 ∷ 10 ∷ []
unfolding reply_text items_of born_in items_text item_text led decimal digits
one_given = refl

two_given : reply_text Blocks (accepted (2 ∷ 2 ∷ 1 ∷ 2 ∷ [])) ≡ 43 ∷ 32 ∷ 50 ∷ 58 ∷ 50 ∷ 32 ∷ 49 ∷ 58 ∷ 50 ∷ 10 ∷ []
unfolding reply_text items_of born_in items_text item_text led decimal digits
two_given = refl

-- `+ 0:1` of `T 64`, by what the line says
reclaim_given : reply_text (spelling_of (Asks (Reclaim 64))) (accepted (0 ∷ 1 ∷ [])) ≡ 43 ∷ 32 ∷ 48 ∷ 58 ∷ 49 ∷ 10 ∷ []
unfolding reply_text spelling_of items_of born_in items_text item_text led decimal digits
reclaim_given = refl

-- `+` of `D 9` and `+ 3` of `S 2`
delete_given : reply_text (spelling_of (Asks (Delete 9))) (accepted []) ≡ 43 ∷ 10 ∷ []
unfolding reply_text spelling_of items_of items_text
delete_given = refl

seal_given : reply_text (spelling_of (Asks (Seal 2))) (accepted (3 ∷ [])) ≡ 43 ∷ 32 ∷ 51 ∷ 10 ∷ []
unfolding reply_text spelling_of items_of items_text item_text led decimal digits
seal_given = refl

eight_refused : reply_text Blocks (refused 8) ≡ 45 ∷ 32 ∷ 56 ∷ 10 ∷ []
unfolding reply_text led decimal digits
eight_refused = refl

-- each reads back
nothing_read : reply_read (43 ∷ 10 ∷ []) ≡ some (plus [])
unfolding reply_read items_read
nothing_read = refl

numbers_read : reply_read (43 ∷ 32 ∷ 48 ∷ 32 ∷ 50 ∷ 10 ∷ []) ≡ some (plus (plain 0 ∷ plain 2 ∷ []))
unfolding reply_read items_read inside_read
numbers_read = refl

one_read : reply_read (43 ∷ 32 ∷ 48 ∷ 58 ∷ 49 ∷ 10 ∷ []) ≡ some (plus (born 0 1 ∷ []))
unfolding reply_read items_read inside_read
one_read = refl

two_read : reply_read (43 ∷ 32 ∷ 50 ∷ 58 ∷ 50 ∷ 32 ∷ 49 ∷ 58 ∷ 50 ∷ 10 ∷ []) ≡ some (plus (born 2 2 ∷ born 1 2 ∷ []))
unfolding reply_read items_read inside_read
two_read = refl

eight_read : reply_read (45 ∷ 32 ∷ 56 ∷ 10 ∷ []) ≡ some (minus 8)
unfolding reply_read items_read inside_read
eight_read = refl

-- two spaces, a leading zero, no line feed, a second colon, a colon with nothing behind it or a refusal with one are no reply
two_spaces : reply_read (43 ∷ 32 ∷ 32 ∷ 49 ∷ 10 ∷ []) ≡ none
unfolding reply_read items_read inside_read
two_spaces = refl

zero_first : reply_read (43 ∷ 32 ∷ 48 ∷ 49 ∷ 10 ∷ []) ≡ none
unfolding reply_read items_read inside_read
zero_first = refl

no_feed : reply_read (43 ∷ 32 ∷ 49 ∷ []) ≡ none
unfolding reply_read items_read inside_read
no_feed = refl

second_colon : reply_read (43 ∷ 32 ∷ 49 ∷ 58 ∷ 50 ∷ 58 ∷ 51 ∷ 10 ∷ []) ≡ none
unfolding reply_read items_read inside_read
second_colon = refl

no_birth : reply_read (43 ∷ 32 ∷ 49 ∷ 58 ∷ 10 ∷ []) ≡ none
unfolding reply_read items_read inside_read
no_birth = refl

birth_refused : reply_read (45 ∷ 32 ∷ 56 ∷ 58 ∷ 49 ∷ 10 ∷ []) ≡ none
unfolding reply_read items_read inside_read
birth_refused = refl

-- `B`, an empty line, `L` with no line feed behind it; and nothing behind the last line feed
three_lines : lines_of (66 ∷ 10 ∷ 10 ∷ 76 ∷ []) ≡ (66 ∷ []) ∷ [] ∷ (76 ∷ []) ∷ []
unfolding lines_of
three_lines = refl

one_line : lines_of (66 ∷ 10 ∷ []) ≡ (66 ∷ []) ∷ []
unfolding lines_of
one_line = refl

-- `B`, then `D 9` with no line feed behind it: the second line says its call, and ends where the text does
last_said : said_at (66 ∷ 10 ∷ 68 ∷ 32 ∷ 57 ∷ []) 2 ≡ record { says = Asks (Delete 9); end = 5 }
unfolding said_at run parsed opens listed call_line made call_in call_of numbers_from number_from first_digit digits_from
last_said = refl
