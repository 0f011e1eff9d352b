-- THE REFUSALS OF NAMES, on any sound memory, each exactly when: "It refuses a name that is not 1 to 32 letters a to z with 16 (after 15), a name in use, an
-- unknown one, a second on an open record or a thirty-third with 17 (after 9), and D of a named record with 18 (after 10)." (7.1)
use Rattle.std.specs.Prelude.{◌≡◌, ◌⊎◌, ◌↔◌, false, List, ℕ}
use Rattle.answer.specs.Reply.{refused}
use Rattle.geometry.specs.declared.Geometry.{Geometry}
use Rattle.geometry.specs.Limits.{Inside}
use Rattle.model.specs.State.{State}
use Rattle.model.specs.Layout.{state_of}
use Rattle.model.specs.Memory.{Memory, short?, reply}
use Rattle.model.specs.SoundStore.{SoundStore}
use Rattle.model.specs.RefusalMeans.{Absent, HasFork, BadName, InUse, UnknownName, SecondName, RowsFull, HasAName}
use Rattle.model.specs.Command.{Delete, Estimate, Attach, Detach, Resolve}

abbrev pub Not : Type 0 → Type 0
Not P = P → ⊥

-- T is the state that the tables of M hold
pub record NamesRefused (g : Geometry) (M : Memory) (T : State) : Type 0 where
  -- 16, of N, U and M
  pub bad_N : (l : List ℕ) (r : ℕ) → (reply g M (Attach l r) ≡ refused 16) ↔ BadName l
  pub bad_U : (l : List ℕ) → (reply g M (Detach l) ≡ refused 16) ↔ BadName l
  pub bad_M : (l : List ℕ) → (reply g M (Resolve l) ≡ refused 16) ↔ BadName l
  -- N: 8, then 17 by its three cases
  pub absent : (l : List ℕ) (r : ℕ) → (reply g M (Attach l r) ≡ refused 8) ↔ (Not (BadName l) × Absent T.view r)
  pub taken : (l : List ℕ) (r : ℕ) →
      (reply g M (Attach l r) ≡ refused 17) ↔ (Not (BadName l) × (Not (Absent T.view r) × (InUse T l ⊎ (SecondName T r ⊎ RowsFull T))))
  -- U and M: 17 of an unknown name
  pub unknown_U : (l : List ℕ) → (reply g M (Detach l) ≡ refused 17) ↔ (Not (BadName l) × UnknownName T l)
  pub unknown_M : (l : List ℕ) → (reply g M (Resolve l) ≡ refused 17) ↔ (Not (BadName l) × UnknownName T l)
  -- D and Q: 18, after 8 and 10
  pub named_D : (r : ℕ) → (reply g M (Delete r) ≡ refused 18) ↔ (Not (Absent T.view r) × (Not (HasFork T.view r) × HasAName T r))
  pub named_Q : (r : ℕ) → (reply g M (Estimate r) ≡ refused 18) ↔ (Not (Absent T.view r) × (Not (HasFork T.view r) × HasAName T r))

abbrev pub NameRefusals : Type 0
NameRefusals = (g : Geometry) (M : Memory) → Inside g → short? g M ≡ false → SoundStore g M.tables M.log → NamesRefused g M (state_of g M.tables)
