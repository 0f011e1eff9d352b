-- Q, worked: two shards, one of them of a birth whose record is gone; none where nothing follows, though blocks are queued; a fork on the record; a D straight
-- after it, and a T that frees what that D queued. No Q and no D counts a word.
use mathlib.Core.Path.{refl}
use mathlib.Core.List.{[], ◌∷◌}
use Rattle.ledger.proofs.Computed.{Table, Goes, prints}

abbrev estimates_lines : Table
estimates_lines =
    ("store 1 8 4 4 8 18", "+") ∷ ("B", "+ 1") ∷ ("W 1 0 0", "+ 0:1") ∷ ("W 1 1 0", "+ 1:1") ∷ ("S 1", "+ 2") ∷ ("Q 1", "+ 0 0 0") ∷ ("W 2 2 0", "+ 2:2")
    ∷ ("S 2", "+ 3") ∷ ("D 1", "+") ∷ ("W 3 2 0", "+ 3:3") ∷ ("W 3 0 0", "+ 4:3") ∷ ("W 3 1 0", "+ 5:3") ∷ ("Q 2", "+ 3 0 2") ∷ ("Q 3", "+ 3 0 0")
    ∷ ("F 2", "+ 4") ∷ ("Q 2", "- 10") ∷ ("Q 4", "+ 0 0 0") ∷ ("Q 5", "- 8") ∷ ("D 4", "+") ∷ ("Q 2", "+ 3 0 2") ∷ ("D 2", "+")
    ∷ ("T 3", "+ 0:1 1:1 2:2") ∷ ("Q 3", "+ 3 0 0") ∷ ("D 3", "+") ∷ ("T 64", "+ 4:3 5:3 3:3") ∷ ("Q 3", "- 8") ∷ []

pub estimates : Goes (estimates_lines)
unfolding prints
estimates = refl
