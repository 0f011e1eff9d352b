-- "With counter c and kind k the arena is (c + k) modulo arenas" (5.1), worked as text. The sums that go round: with one arena every kind; with two arenas
-- 0 + 2, 1 + 1 and 1 + 2; with sixteen 14 + 2 and 15 + 2.
use mathlib.Core.Path.{refl}
use mathlib.Core.List.{[], ◌∷◌}
use Rattle.ledger.proofs.Computed.{Table, Goes, prints}

-- c is 0 at each write
abbrev one_arena_lines : Table
one_arena_lines =
    ("store 1 4 4 2 1 10", "+") ∷ ("B", "+ 1") ∷ ("W 1 0 0", "+ 0:1") ∷ ("W 1 1 1", "+ 1:1") ∷ ("W 1 2 2", "+ 2:1") ∷ ("W 1 3 2", "+ 3:1")
    ∷ ("W 1 0 2", "- 13") ∷ []

pub one_arena : Goes one_arena_lines
unfolding prints
one_arena = refl

-- blocks 0 to 3 are arena 0, 4 to 7 arena 1; c is 0 for three writes, 1 for three, then 0
abbrev two_arenas_lines : Table
two_arenas_lines =
    ("store 2 4 8 2 3 18", "+") ∷ ("B", "+ 1") ∷ ("W 1 0 0", "+ 0:1") ∷ ("W 1 1 1", "+ 4:1") ∷ ("W 1 2 2", "+ 1:1") ∷ ("W 1 3 0", "+ 5:1")
    ∷ ("W 1 4 1", "+ 2:1") ∷ ("W 1 5 2", "+ 6:1") ∷ ("W 1 6 2", "+ 3:1") ∷ ("W 1 7 2", "+ 7:1") ∷ ("W 1 0 2", "- 13") ∷ []

pub two_arenas : Goes two_arenas_lines
unfolding prints
two_arenas = refl

-- two blocks an arena; c goes up with each write, to 15 and then to 0
abbrev sixteen_arenas_lines : Table
sixteen_arenas_lines =
    ("store 16 2 16 1 1 66", "+") ∷ ("B", "+ 1") ∷ ("W 1 0 0", "+ 0:1") ∷ ("W 1 1 1", "+ 4:1") ∷ ("W 1 2 2", "+ 8:1") ∷ ("W 1 3 0", "+ 6:1")
    ∷ ("W 1 4 1", "+ 10:1") ∷ ("W 1 5 2", "+ 14:1") ∷ ("W 1 6 0", "+ 12:1") ∷ ("W 1 7 1", "+ 16:1") ∷ ("W 1 8 2", "+ 20:1") ∷ ("W 1 9 0", "+ 18:1")
    ∷ ("W 1 10 1", "+ 22:1") ∷ ("W 1 11 2", "+ 26:1") ∷ ("W 1 12 0", "+ 24:1") ∷ ("W 1 13 2", "+ 30:1") ∷ ("W 1 14 2", "+ 1:1") ∷ ("W 1 15 2", "+ 2:1")
    ∷ ("W 1 0 0", "+ 3:1 0:1") ∷ []

pub sixteen_arenas : Goes sixteen_arenas_lines
unfolding prints
sixteen_arenas = refl
