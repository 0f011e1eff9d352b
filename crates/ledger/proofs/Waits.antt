-- "A freed block waits: it is given again, or listed by L, only once a Y or C has been accepted since" (5.6), worked by hand. A queued block waits from its T
-- on.
use mathlib.Core.Path.{◌≡◌, refl}
use mathlib.Core.List.{[], ◌∷◌, ◌++◌}
use lib.ListN.{take}
use Rattle.ledger.proofs.Computed.{Table, Goes, prints, logged, births_after, waiting_after, queue_after}

abbrev waiting_lines : Table
waiting_lines =
    -- 1 arena of 3 blocks, 2 pages, 2 records, a turn of 8 writes, 8 log words
    ("store 1 3 2 2 8 8", "+")
    ∷ ("B", "+ 1")
    ∷ ("W 1 0 0", "+ 0:1")
    -- a W's own old block waits: 0
    ∷ ("W 1 0 0", "+ 1:1 0:1")
    ∷ ("L", "+ 2 1")
    ∷ ("W 1 1 0", "+ 2:1")
    -- 1 and 2 are held, 0 waits: no block is free
    ∷ ("W 1 1 0", "- 13")
    ∷ ("L", "+")
    -- S ends no wait
    ∷ ("S 1", "+ 2")
    ∷ ("W 2 1 0", "- 13")
    -- nor does a D, here one that queues nothing
    ∷ ("D 1", "+")
    ∷ ("L", "+")
    -- Y does. Five words
    ∷ ("Y", "+")
    ∷ ("L", "+ 0 1")
    -- 0 is given, 2 waits
    ∷ ("W 2 1 0", "+ 0:2 2:1")
    ∷ ("L", "+")
    -- an E's block waits too, behind 2
    ∷ ("E 2 1", "+ 0:2")
    ∷ ("L", "+")
    ∷ []

abbrev ending_lines : Table
ending_lines =
    -- eight words are used: a Y that is refused ends nothing
    ("Y", "- 14")
    ∷ ("L", "+")
    -- 13 before 14
    ∷ ("W 2 1 0", "- 13")
    -- C ends waits. A word for 1, a barrier
    ∷ ("C", "+ 2")
    ∷ ("L", "+ 0 1 2 1")
    -- from behind block 0: 1 is held
    ∷ ("W 2 1 0", "+ 2:2")
    ∷ ("W 2 1 0", "+ 0:2 2:2")
    -- a D's blocks are queued, by rising page: 2 waits, 1 and 0 are in the queue
    ∷ ("D 2", "+")
    ∷ ("L", "+")
    -- nor does B end a wait
    ∷ ("B", "+ 3")
    ∷ ("W 3 0 0", "- 13")
    -- the sixth word: 2 waits no more, and the queue stays
    ∷ ("Y", "+")
    ∷ ("L", "+ 2 1")
    -- eight words: from now on 1 and 0 wait
    ∷ ("T 2", "+ 1:1 0:2")
    ∷ ("L", "+ 2 1")
    ∷ ("Y", "- 14")
    -- nothing is held: a barrier alone
    ∷ ("C", "+ 1")
    ∷ ("L", "+ 0 3")
    ∷ []

pub waiting : Goes (waiting_lines ++ ending_lines)
unfolding prints
waiting = refl

-- before the C: 2 was freed first, then 0, each by a word of code 2; 1 is the only one with a birth
pub in_order_lem : waiting_after waiting_lines ≡ 2 ∷ 0 ∷ []
unfolding waiting_after
in_order_lem = refl

pub log_in_order : logged waiting_lines ≡ 0x1 ∷ 0x4001 ∷ 0x2 ∷ 0x8001 ∷ 0x3 ∷ 0x1 ∷ 0x8002 ∷ 0x2 ∷ []
unfolding logged
log_in_order = refl

pub births_left : births_after waiting_lines (0 ∷ 1 ∷ 2 ∷ []) ≡ 0 ∷ 1 ∷ 0 ∷ []
unfolding births_after
births_left = refl

-- and after the D: no block is on a page, and the births of the two are in the queue
pub deleted_in_order : (waiting_after (waiting_lines ++ take 8 ending_lines) ≡ 2 ∷ []) ×
    (queue_after (waiting_lines ++ take 8 ending_lines) ≡ (1, 1) ∷ (0, 2) ∷ []) ×
    (births_after (waiting_lines ++ take 8 ending_lines) (0 ∷ 1 ∷ 2 ∷ []) ≡ 0 ∷ 0 ∷ 0 ∷ [])
unfolding waiting_after queue_after births_after
deleted_in_order = (refl, refl, refl)

-- and after the T
pub turned_in_order : (waiting_after (waiting_lines ++ take 14 ending_lines) ≡ 1 ∷ 0 ∷ []) × (queue_after (waiting_lines ++ take 14 ending_lines) ≡ [])
unfolding waiting_after queue_after
turned_in_order = (refl, refl)

-- the search passes over a block that waits, in its arena and then in the next one
pub passed_over : Goes
    (("store 2 2 3 2 8 10", "+")
    ∷ ("B", "+ 1")
    ∷ ("W 1 0 0", "+ 0:1")
    ∷ ("W 1 1 0", "+ 1:1")
    -- arena 0 has a block on no page, which waits: arena 1
    ∷ ("E 1 0", "+ 0:1")
    ∷ ("W 1 2 0", "+ 2:1")
    ∷ ("L", "+ 3 1")
    ∷ ("Y", "+")
    ∷ ("L", "+ 0 1 3 1")
    -- arena 0, round
    ∷ ("W 1 0 0", "+ 0:1")
    ∷ [])
unfolding prints
passed_over = refl
