-- Names (N, U and M, S that moves a name, D, Q and a window that meet one), worked by hand.
use mathlib.Core.Path.{◌≡◌, refl}
use mathlib.Core.List.{List, [], ◌∷◌}
use Prim.Native.Nat.{ℕ}
use Rattle.answer.specs.Reply.{accepted, refused}
use Rattle.geometry.specs.Limits.{geometry_of}
use Rattle.model.specs.Book.{NameOn}
use Rattle.model.specs.Command.{Command}
use Rattle.model.specs.Command.{Begin, Seal, Fork, Delete, Attach, Detach, Resolve}
use Rattle.ledger.proofs.Computed.{Table, Goes, prints, book_after, answers, words}

abbrev names_lines : Table
names_lines =
    ("store 1 8 1 8 8 20", "+") ∷ ("B", "+ 1") ∷ ("W 1 0 0", "+ 0:1")
    -- unknown, then on 1
    ∷ ("M easter", "- 17") ∷ ("U easter", "- 17") ∷ ("N easter 1", "+") ∷ ("M easter", "+ 1")
    -- in use, on 1 itself too; 1 is open, so it has no second
    ∷ ("N easter 1", "- 17") ∷ ("N lent 1", "- 17")
    -- the name moves to 2
    ∷ ("S 1", "+ 2") ∷ ("M easter", "+ 2") ∷ ("N lent 2", "- 17") ∷ ("N easter 1", "- 17")
    -- 1 is sealed: it may have many
    ∷ ("N lent 1", "+") ∷ ("N advent 1", "+") ∷ ("M lent", "+ 1") ∷ ("M advent", "+ 1")
    -- names are compared whole
    ∷ ("M len", "- 17") ∷ ("M lente", "- 17")
    -- the fork's record has no name; a fork is on 1: 10 before 18
    ∷ ("F 1", "+ 3") ∷ ("D 1", "- 10") ∷ ("D 3", "+") ∷ ("D 1", "- 18") ∷ ("Q 1", "- 18") ∷ ("M lent", "+ 1")
    -- one of its two names is taken off
    ∷ ("U lent", "+") ∷ ("M lent", "- 17") ∷ ("U lent", "- 17") ∷ ("D 1", "- 18")
    -- the other: now it goes
    ∷ ("U advent", "+") ∷ ("W 2 0 0", "+ 1:2") ∷ ("Q 1", "+ 1 0 1") ∷ ("D 1", "+") ∷ ("T 64", "+ 0:1")
    -- an open record with a name; what comes after it has none
    ∷ ("D 2", "- 18") ∷ ("U easter", "+") ∷ ("D 2", "+") ∷ ("T 64", "+ 1:2") ∷ ("B", "+ 4") ∷ ("M easter", "- 17") ∷ ("N easter 4", "+") ∷ ("M easter", "+ 4")
    ∷ []

pub names : Goes names_lines
unfolding prints
names = refl

-- "a window passes over" a named record "as over a forked one" (1.9)
abbrev window_lines : Table
window_lines =
    ("store 1 8 1 8 8 20", "+") ∷ ("B", "+ 1") ∷ ("K 1 1", "+") ∷ ("W 1 0 0", "+ 0:1") ∷ ("S 1", "+ 2") ∷ ("N easter 1", "+")
    -- 1 has a name and 2 is the newest: two stay, though the window is 1
    ∷ ("W 2 0 0", "+ 1:2") ∷ ("S 2", "+ 3") ∷ ("R 1 0", "+ 0:1") ∷ ("R 2 0", "+ 1:2")
    -- 1 is passed over, 2 goes
    ∷ ("W 3 0 0", "+ 2:3") ∷ ("S 3", "+ 4") ∷ ("T 64", "+ 1:2") ∷ ("R 2 0", "- 8") ∷ ("M easter", "+ 1")
    -- 1 counts: of 1, 3 and 4 one is to go
    ∷ ("K 4 2", "+") ∷ ("N yule 4", "+") ∷ ("S 4", "+ 5") ∷ ("R 3 0", "- 8") ∷ ("M yule", "+ 5")
    -- the name of 4 moved, so 4 may go
    ∷ ("S 5", "+ 6") ∷ ("R 4 0", "- 8") ∷ ("M yule", "+ 6") ∷ ("M easter", "+ 1")
    -- without its name 1 goes, then 5
    ∷ ("U easter", "+") ∷ ("K 6 1", "+") ∷ ("S 6", "+ 7") ∷ ("T 64", "+ 0:1") ∷ ("R 1 0", "- 8") ∷ ("R 5 0", "- 8") ∷ ("M yule", "+ 7")
    ∷ []

pub windowed : Goes window_lines
unfolding prints
windowed = refl

-- ── calls, whose names are any bytes ──

abbrev easter : List ℕ
easter = 101 ∷ 97 ∷ 115 ∷ 116 ∷ 101 ∷ 114 ∷ []

-- no byte at all, a zero, a space and a number that is no byte are no name; they are refused 16 before a record that is not there
pub any_bytes : (answers (geometry_of 1 4 2 4 8 10)
    (Begin ∷ Attach [] 1 ∷ Attach (0 ∷ []) 1 ∷ Attach (97 ∷ 32 ∷ []) 7 ∷ Detach (300 ∷ []) ∷ Resolve []
    ∷ Attach easter 7 ∷ Attach easter 1 ∷ Resolve easter ∷ [])
    ≡ accepted (1 ∷ []) ∷ refused 16 ∷ refused 16 ∷ refused 16 ∷ refused 16 ∷ refused 16 ∷ refused 8 ∷ accepted [] ∷ accepted (1 ∷ []) ∷ [])
unfolding answers
any_bytes = refl

-- what the book has of them: the name of 1 moved to 2, 1 was given another, 3 has none
abbrev named_calls : List Command
named_calls = Begin ∷ Attach easter 1 ∷ Seal 1 ∷ Attach (97 ∷ []) 1 ∷ Attach (98 ∷ []) 1 ∷ Fork 1 ∷ Detach (98 ∷ []) ∷ Delete 1 ∷ []

pub book_names : ◌≡◌ {A = List NameOn} (book_after (geometry_of 1 4 2 4 8 10) named_calls).names ((97 ∷ [], 1) ∷ (easter, 2) ∷ [])
unfolding words
book_names = refl
