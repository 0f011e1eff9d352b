-- WHAT A RESULT NAMES: "Every result that names a block … gives block and birth" (3.13).
-- In the result buffer the numbers of a result stand one behind another; its spelling says which of them are blocks with their births.
use Rattle.std.specs.Prelude.{List, [], ◌∷◌, map, ℕ}
use Rattle.model.specs.declared.Spelling.{Spelling}
use Rattle.model.specs.declared.Spelling.TheVariants.{Numbers, Blocks}

-- ── as numbers ──

-- blocks, each with its birth behind it
unfoldable pub paired : (ℕ → ℕ) → List ℕ → List ℕ
paired birth [] = []
paired birth (b ∷ l) = b ∷ birth b ∷ paired birth l

-- the blocks of such numbers
unfoldable pub blocks_in : List ℕ → List ℕ
blocks_in [] = []
blocks_in (b ∷ []) = []
blocks_in (b ∷ v ∷ l) = b ∷ blocks_in l

-- the blocks that a result names
unfoldable pub blocks_of : Spelling → List ℕ → List ℕ
blocks_of Numbers l = []
blocks_of Blocks l = blocks_in l

-- ── as items ──

-- a number, or a block with its birth
pub data Item : Type 0 where
  plain : ℕ → Item
  born : ℕ → ℕ → Item

-- the items of numbers that are blocks with their births; a last number without another is none
unfoldable pub born_in : List ℕ → List Item
born_in [] = []
born_in (n ∷ []) = []
born_in (b ∷ v ∷ l) = born b v ∷ born_in l

unfoldable pub items_of : Spelling → List ℕ → List Item
items_of Numbers l = map plain l
items_of Blocks l = born_in l

-- the numbers of items, as they stand in the result buffer
unfoldable pub numbers_of : List Item → List ℕ
numbers_of [] = []
numbers_of (plain n ∷ l) = n ∷ numbers_of l
numbers_of (born b v ∷ l) = b ∷ v ∷ numbers_of l
