-- The tables of a fresh store, as the code writes them: the free words, and the six numbers of the making.
use Rattle.std.specs.Prelude.{List, [], ◌∷◌, ℕ, ◌-◌, ◌*◌, ◌^◌, min}
use Rattle.geometry.specs.declared.Geometry.{Geometry}

-- free word k of n blocks that may all be given: a bit for each of them
unfoldable pub full_word : ℕ → ℕ → ℕ
full_word n k = 2 ^ min 32 (n - 32 * k) - 1

abbrev pub six_numbers : Geometry → List ℕ
six_numbers g = g.arenas ∷ g.per ∷ g.pages ∷ g.records ∷ g.turn ∷ g.words ∷ []
