-- THE QUEUE (D and a window that fill it, T that empties it), worked by hand.
use mathlib.Core.Path.{◌≡◌, refl}
use mathlib.Core.List.{[], ◌∷◌}
use lib.ListN.{take}
use Rattle.ledger.proofs.Computed.{Table, Goes, prints, logged, births_after, waiting_after, queue_after}

abbrev turns_lines : Table
turns_lines =
    ("store 1 8 2 8 8 20", "+") ∷ ("B", "+ 1") ∷ ("W 1 0 0", "+ 0:1") ∷ ("W 1 1 0", "+ 1:1") ∷ ("B", "+ 2") ∷ ("W 2 0 0", "+ 2:2") ∷ ("W 2 1 0", "+ 3:2")
    -- nothing is queued yet
    ∷ ("T 1", "+")
    -- two deletes, a turn between them: it takes one of two
    ∷ ("Q 2", "+ 2 0 0") ∷ ("D 2", "+") ∷ ("T 1", "+ 2:2") ∷ ("D 1", "+")
    -- what 2 left stands before what 1 left
    ∷ ("T 2", "+ 3:2 0:1")
    -- fewer than 64 are queued: all of them
    ∷ ("T 64", "+ 1:1") ∷ ("T 64", "+") ∷ []

pub turns : Goes turns_lines
unfolding prints
turns = refl

-- after the second delete (line 12): three are queued, each with the birth that it had, and have none in the store; the one that was freed waits
pub queued : (queue_after (take 12 turns_lines) ≡ (3, 2) ∷ (0, 1) ∷ (1, 1) ∷ []) × (waiting_after (take 12 turns_lines) ≡ 2 ∷ []) ×
    (births_after (take 12 turns_lines) (0 ∷ 1 ∷ 2 ∷ 3 ∷ []) ≡ 0 ∷ 0 ∷ 0 ∷ 0 ∷ [])
unfolding queue_after waiting_after births_after
queued = (refl, refl, refl)

-- four words of code 1, then one of code 2 for each that a T freed; the deletes wrote none
pub log_of_turns : logged turns_lines ≡ 0x1 ∷ 0x4001 ∷ 0x8001 ∷ 0xc001 ∷ 0x8002 ∷ 0xc002 ∷ 0x2 ∷ 0x4002 ∷ []
unfolding logged
log_of_turns = refl

abbrev whole_lines : Table
whole_lines =
    ("store 1 4 4 2 8 10", "+") ∷ ("B", "+ 1") ∷ ("W 1 0 0", "+ 0:1") ∷ ("W 1 1 0", "+ 1:1") ∷ ("W 1 2 0", "+ 2:1") ∷ ("Y", "+") ∷ ("Y", "+") ∷ ("Y", "+")
    ∷ ("Y", "+") ∷ ("Y", "+") ∷ ("Y", "+")
    -- one of ten words is unused. D writes none
    ∷ ("D 1", "+")
    -- 14 as a whole: two have no room, one has
    ∷ ("T 64", "- 14") ∷ ("T 2", "- 14") ∷ ("T 1", "+ 0:1") ∷ ("T 1", "- 14")
    -- k outside 1 to 64, before 14
    ∷ ("T 0", "- 19") ∷ ("T 65", "- 19")
    -- the queued blocks 1 and 2 are held: a run of two, and a barrier, which ends the wait of 0. They are not free
    ∷ ("C", "+ 3") ∷ ("L", "+ 0 1 3 1") ∷ ("T 64", "+ 1:1 2:1") ∷ ("L", "+ 0 1 3 1") ∷ ("Y", "+") ∷ ("L", "+ 0 4")
    -- nothing is queued: with a full log too a turn is accepted
    ∷ ("Y", "+") ∷ ("Y", "+") ∷ ("Y", "+") ∷ ("Y", "+") ∷ ("Y", "- 14") ∷ ("T 64", "+") ∷ ("T 65", "- 19") ∷ []

pub whole : Goes whole_lines
unfolding prints
whole = refl

abbrev kept_lines : Table
kept_lines =
    ("store 1 2 2 2 8 6", "+") ∷ ("B", "+ 1") ∷ ("W 1 0 0", "+ 0:1") ∷ ("W 1 1 0", "+ 1:1") ∷ ("B", "+ 2") ∷ ("D 1", "+")
    -- both blocks are queued: none is given, and none listed, after a Y and after a C too
    ∷ ("W 2 0 0", "- 13") ∷ ("L", "+") ∷ ("Y", "+") ∷ ("W 2 0 0", "- 13") ∷ ("C", "+ 3") ∷ ("W 2 0 0", "- 13") ∷ ("L", "+")
    -- what a turn frees waits until Y
    ∷ ("T 1", "+ 0:1") ∷ ("W 2 0 0", "- 13") ∷ ("L", "+") ∷ ("Y", "+") ∷ ("L", "+ 0 1") ∷ ("W 2 0 0", "+ 0:2")
    -- 1 is still queued. 13 before 14
    ∷ ("W 2 1 0", "- 13") ∷ ("T 1", "- 14") ∷ ("C", "+ 3") ∷ ("T 1", "+ 1:1") ∷ ("C", "+ 2") ∷ ("W 2 1 0", "+ 1:2") ∷ []

pub kept : Goes kept_lines
unfolding prints
kept = refl

abbrev window_lines : Table
window_lines =
    ("store 1 8 1 8 8 20", "+") ∷ ("B", "+ 1") ∷ ("K 1 1", "+") ∷ ("W 1 0 0", "+ 0:1") ∷ ("S 1", "+ 2") ∷ ("W 2 0 0", "+ 1:2") ∷ ("B", "+ 3")
    ∷ ("W 3 0 0", "+ 2:3")
    -- what the window's delete of 1 leaves stands after what D left
    ∷ ("D 3", "+") ∷ ("S 2", "+ 4") ∷ ("R 1 0", "- 8") ∷ ("T 1", "+ 2:3")
    -- and what its delete of 2 leaves stands after that
    ∷ ("W 4 0 0", "+ 3:4") ∷ ("S 4", "+ 5") ∷ ("R 2 0", "- 8") ∷ ("T 64", "+ 0:1 1:2") ∷ []

pub windowed : Goes window_lines
unfolding prints
windowed = refl
