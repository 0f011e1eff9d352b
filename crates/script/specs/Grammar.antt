-- How a line is spelled: "The first line opens with the five letters `store`, then the six numbers .. Other calls are the letter and its
-- numbers. Single spaces separate; numbers are decimal, 1 to 7 digits, no leading zero but 0 itself." (10.3) "In a script a name is any run of one or more
-- bytes without a space." (order 6)
use Rattle.std.specs.Prelude.{ℕ, ◌<◌, ◌≡◌, ◌⊎◌, List, [], ◌∷◌, ◌++◌, length}
use Rattle.std.proofs.Math.Option.{some}
use Rattle.model.specs.declared.Call.{Call}
use Rattle.model.specs.declared.Naming.{Naming}
use Rattle.model.specs.Command.{Command, command, command_on}
use Rattle.script.specs.declared.parse.Six.{Six}
use Rattle.script.specs.Decimal.{spaced}
use Rattle.script.specs.Letters.{call_of, naming_of}
use Rattle.script.specs.Parse.{store}
use Rattle.script.specs.Spoken.{Spoken, makes, asks, nothing}

abbrev pub six_numbers : Six → List ℕ
six_numbers s = s.arenas ∷ s.per ∷ s.pages ∷ s.records ∷ s.turn ∷ s.words ∷ []

-- each of the numbers has 1 to 7 digits
abbrev pub AllSmall : List ℕ → Type 0
AllSmall [] = Unit {0}
AllSmall (n ∷ ns) = (n < 10_000_000) × AllSmall ns

-- none of the bytes is a space
abbrev pub NoSpace : List ℕ → Type 0
NoSpace [] = Unit {0}
NoSpace (b ∷ l) = (b ≡ 32 → ⊥) × NoSpace l

-- a name: one or more bytes without a space
pub record IsName (l : List ℕ) : Type 0 where
  pub bytes : 0 < length l
  pub no_space : NoSpace l

-- a call's letter and numbers: by the table they are the call
pub record Signs (c : Call) : Type 0 where
  pub letter : ℕ
  pub numbers : List ℕ
  pub is : call_of letter numbers ≡ some c

-- the same of a call that has a name
pub record NameSigns (n : Naming) : Type 0 where
  pub letter : ℕ
  pub numbers : List ℕ
  pub is : naming_of letter numbers ≡ some n

-- a call spelled by its letter and its numbers
pub record ByNumbers (line : List ℕ) (c : Command) : Type 0 where
  pub call : Call
  pub is : command call ≡ c
  pub signs : Signs call
  pub spells : line ≡ signs.letter ∷ spaced signs.numbers
  pub small : AllSmall signs.numbers

-- a call spelled by its letter, a space, its name and its numbers
pub record ByName (line : List ℕ) (c : Command) : Type 0 where
  pub naming : Naming
  pub name : List ℕ
  pub is : command_on naming name ≡ c
  pub signs : NameSigns naming
  pub spells : line ≡ signs.letter ∷ 32 ∷ (name ++ spaced signs.numbers)
  pub is_name_lem : IsName name
  pub small : AllSmall signs.numbers

-- a line that asks for it: the word and the six numbers, or a call's letter and numbers, with its name between them where it has one. No line is spelled to
-- ask for nothing
abbrev pub Spelled : List ℕ → Spoken → Type 0
Spelled line (makes s) = (line ≡ store ++ spaced (six_numbers s)) × AllSmall (six_numbers s)
Spelled line (asks c) = ByNumbers line c ⊎ ByName line c
Spelled line nothing = ⊥
