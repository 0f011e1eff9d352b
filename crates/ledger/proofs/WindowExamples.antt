-- The window of a line (K, and S with its deletes), worked by hand.
use mathlib.Core.Path.{refl}
use mathlib.Core.List.{[], ◌∷◌}
use Rattle.ledger.proofs.Computed.{Table, Goes, prints}

abbrev kept_lines : Table
kept_lines =
    ("store 1 8 1 8 8 20", "+") ∷ ("B", "+ 1") ∷ ("K 1 1", "+") ∷ ("W 1 0 0", "+ 0:1") ∷ ("S 1", "+ 2")
    -- a fork's line has no window: both of its sealed records stay
    ∷ ("F 1", "+ 3") ∷ ("S 3", "+ 4") ∷ ("S 4", "+ 5") ∷ ("R 3 0", "+ 0:1")
    -- 1 has a fork on it and 2 is the newest: two stay, though the window is 1
    ∷ ("W 2 0 0", "+ 1:2") ∷ ("S 2", "+ 6")
    -- 1 is passed over, 2 goes
    ∷ ("W 6 0 0", "+ 2:6") ∷ ("S 6", "+ 7") ∷ ("R 2 0", "- 8")
    -- 1 counts: of 1, 6 and 7 one is to go
    ∷ ("K 7 2", "+") ∷ ("S 7", "+ 8") ∷ ("R 6 0", "- 8") ∷ ("W 8 0 0", "+ 3:8")
    -- the fork is gone: 1 and 7 go, the oldest first
    ∷ ("D 3", "+") ∷ ("D 4", "+") ∷ ("D 5", "+") ∷ ("K 8 1", "+") ∷ ("S 8", "+ 9")
    -- what they had is queued, after block 1 of record 2
    ∷ ("L", "+ 4 4") ∷ ("T 2", "+ 1:2 0:1") ∷ ("T 2", "+ 2:6") ∷ ("L", "+ 4 4") ∷ ("Y", "+") ∷ ("L", "+ 0 3 4 4") ∷ []

pub kept : Goes kept_lines
unfolding prints
kept = refl

abbrev too_full_lines : Table
too_full_lines =
    ("store 1 4 4 4 8 10", "+") ∷ ("B", "+ 1") ∷ ("W 1 0 0", "+ 0:1") ∷ ("W 1 1 0", "+ 1:1") ∷ ("S 1", "+ 2") ∷ ("E 2 0", "+") ∷ ("E 2 1", "+")
    ∷ ("W 2 2 0", "+ 2:2") ∷ ("S 2", "+ 3") ∷ ("E 3 2", "+") ∷ ("K 3 1", "+") ∷ ("Y", "+") ∷ ("Y", "+") ∷ ("Y", "+") ∷ ("Y", "+") ∷ ("Y", "+")
    -- two of ten words are unused: the delete of 1 queues two blocks and that of 2 one more, and no word is written
    ∷ ("Q 1", "+ 2 0 1") ∷ ("S 3", "+ 4") ∷ ("R 1 0", "- 8") ∷ ("R 2 2", "- 8")
    -- there is no room for three frees, and nothing is altered
    ∷ ("T 3", "- 14") ∷ ("Y", "+") ∷ ("T 2", "- 14") ∷ ("T 1", "+ 0:1") ∷ ("T 1", "- 14")
    -- after C there is room: a run of two blocks, which are still held, and a barrier
    ∷ ("C", "+ 3") ∷ ("T 3", "+ 1:1 2:2") ∷ []

pub too_full : Goes too_full_lines
unfolding prints
too_full = refl
