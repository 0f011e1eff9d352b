-- NAMES, AND THE ROWS THAT HOLD THEM: "N name r puts a name on r, U name takes it off, M name gives its record's number; the store holds at most 32." (1.10)
-- There are 32 rows. A row that is in use has a name and the slot of the record that carries it, as a link.
use Rattle.std.specs.Prelude.{Bool, true, false, cond, ◌&&◌, List, [], ◌∷◌, ℕ, suc, pred, ◌+◌, ◌≤◌, ◌<◌, eqb, ltb, leb, length, get_or}
use Rattle.model.specs.Table.{put, via, seek, all}
use Rattle.model.specs.Lists.{In}

-- ── what a name is ──

-- "1 to 32 letters a to z" (7.1)
unfoldable pub letters : List ℕ → Bool
letters [] = true
letters (b ∷ l) = (leb 97 b && leb b 122) && letters l

unfoldable pub valid_name : List ℕ → Bool
valid_name l = (ltb 0 (length l) && leb (length l) 32) && letters l

-- the same in words
pub record ValidName (l : List ℕ) : Type 0 where
  pub some : 0 < length l
  pub short : length l ≤ 32
  pub letter : (b : ℕ) → In b l → (97 ≤ b) × (b ≤ 122)

-- names are compared whole
unfoldable pub same_name : List ℕ → List ℕ → Bool
same_name [] [] = true
same_name [] (c ∷ m) = false
same_name (b ∷ l) [] = false
same_name (b ∷ l) (c ∷ m) = eqb b c && same_name l m

-- the same as code does it: the n numbers of t from an address on against the bytes l, first the length, then letter by letter
unfoldable pub same_letters : List ℕ → (at n : ℕ) → List ℕ → Bool
same_letters t at n l = eqb n (length l) && all n (λ i. eqb (get_or t (at + i) 0) (get_or l i 0))

-- ── the rows ──

pub record Titles : Type 0 where
  -- of a row: the slot of the record that carries the name, as a link (0: the row is empty), and the name (none in an empty row)
  pub owner : ℕ → ℕ
  pub text : ℕ → List ℕ

unfoldable pub no_titles : Titles
no_titles = record { owner = λ i. 0; text = λ i. [] }

-- row i is in use, and its name is l
unfoldable pub carries : Titles → List ℕ → ℕ → Bool
carries X l i = ltb 0 (X.owner i) && same_name (X.text i) l

-- the row of the name l, as a link
unfoldable pub row_of : Titles → List ℕ → ℕ
row_of X l = seek (carries X l) 0 32

-- the slot of the record that carries the name l, as a link
unfoldable pub owner_of : Titles → List ℕ → ℕ
owner_of X l = via X.owner (row_of X l)

-- the first empty row, as a link
unfoldable pub empty_row : Titles → ℕ
empty_row X = seek (λ i. eqb (X.owner i) 0) 0 32

-- ── the rows with some things changed ──

-- the name l goes on the record in slot s, in row i
unfoldable pub named : Titles → ℕ → ℕ → List ℕ → Titles
named X i s l = record { owner = put X.owner i (suc s); text = put X.text i l }

-- row i becomes empty
unfoldable pub unnamed : Titles → ℕ → Titles
unnamed X i = record { owner = put X.owner i 0; text = put X.text i [] }

-- each row of slot r goes to slot f
unfoldable pub moved : Titles → ℕ → ℕ → Titles
moved X r f = record { owner = λ i. cond (eqb (X.owner i) (suc r)) (suc f) (X.owner i); text = X.text }

-- ── "A record now carries its count of names" (1.10): of a slot ──

unfoldable pub one_more : (ℕ → ℕ) → ℕ → ℕ → ℕ
one_more names s = put names s (suc (names s))

unfoldable pub one_less : (ℕ → ℕ) → ℕ → ℕ → ℕ
one_less names s = put names s (pred (names s))

unfoldable pub count_moved : (ℕ → ℕ) → ℕ → ℕ → ℕ → ℕ
count_moved names r f = put (put names f (names r)) r 0
