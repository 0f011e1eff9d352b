-- THE LETTERS OF THE CALLS: "Other calls are the letter and its numbers." (10.3) A row has a letter, and how its call is made of the numbers after it. What a
-- line says and how a call is spelled both go by these tables: a new call of a letter and numbers is one row of the first, a new call of a letter, a name and
-- numbers one row of the second.
use Rattle.std.specs.Prelude.{ℕ, Bool, true, false, cond, List, [], ◌∷◌, eqb}
use Rattle.std.proofs.Math.Option.{Option, none, some}
use Rattle.model.specs.declared.Call.{Call}
use Rattle.model.specs.declared.Call.TheVariants.{Begin, Write, Erase, Seal, Fork, Delete, Read, Barrier, Compress, FreeList, Estimate, Retain, Reclaim}
use Rattle.model.specs.declared.Naming.{Naming}
use Rattle.model.specs.declared.Naming.TheVariants.{Attach, Detach, Resolve}

-- how many numbers follow a letter, or a letter and a name, and the call that they make
pub data FormOf (A : Type 0) : Type 0 where
  bare : A → FormOf A
  one : (ℕ → A) → FormOf A
  two : (ℕ → ℕ → A) → FormOf A
  three : (ℕ → ℕ → ℕ → A) → FormOf A

abbrev pub Form : Type 0
Form = FormOf Call

-- B W E S F D R Y C L Q K T
abbrev pub table : List (ℕ × Form)
table =
    (66, bare Begin)
    ∷ (87, three Write)
    ∷ (69, two Erase)
    ∷ (83, one Seal)
    ∷ (70, one Fork)
    ∷ (68, one Delete)
    ∷ (82, two Read)
    ∷ (89, bare Barrier)
    ∷ (67, bare Compress)
    ∷ (76, bare FreeList)
    ∷ (81, one Estimate)
    ∷ (75, two Retain)
    ∷ (84, one Reclaim)
    ∷ []

-- N U M: a space and a name come between the letter and the numbers
abbrev pub names : List (ℕ × FormOf Naming)
names = (78, one Attach) ∷ (85, bare Detach) ∷ (77, bare Resolve) ∷ []

-- the call that a form makes of numbers: none where they are more or fewer than it takes
unfoldable pub made : {A : Type 0} → FormOf A → List ℕ → Option A
made (bare c) [] = some c
made (bare c) (x ∷ ns) = none
made (one f) [] = none
made (one f) (x ∷ ns) = made (bare (f x)) ns
made (two f) [] = none
made (two f) (x ∷ ns) = made (one (f x)) ns
made (three f) [] = none
made (three f) (x ∷ ns) = made (two (f x)) ns

-- the call of a letter and numbers, by rows of a table
unfoldable pub call_in : {A : Type 0} → List (ℕ × FormOf A) → ℕ → List ℕ → Option A
call_in [] b ns = none
call_in (r ∷ rs) b ns = cond (eqb b r.0) (made r.1 ns) (call_in rs b ns)

-- whether a letter has a row
unfoldable pub listed : {A : Type 0} → List (ℕ × FormOf A) → ℕ → Bool
listed [] b = false
listed (r ∷ rs) b = cond (eqb b r.0) true (listed rs b)

-- THE CALL OF A LETTER AND NUMBERS
unfoldable pub call_of : ℕ → List ℕ → Option Call
call_of b ns = call_in table b ns

-- THE CALL OF A LETTER, A NAME AND NUMBERS, but for the name
unfoldable pub naming_of : ℕ → List ℕ → Option Naming
naming_of b ns = call_in names b ns
