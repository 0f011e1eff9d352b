-- WHAT N, U AND M DO, told by replies alone: nothing here speaks of the page book or of what the tables hold. So a rule about names that is wrong in the book,
-- in the definitions and in the code alike (a name that stays on the sealed record, one that goes with a fork, names compared by their first letter) is
-- refused here. All of it holds on any tables; `now` are the tables that a call meets.
use Rattle.std.specs.Prelude.{◌≡◌, ◌⊎◌, true, List, [], ◌∷◌, ℕ, ◌≤◌, ◌<◌, length}
use Rattle.answer.specs.Reply.{accepted, refused}
use Rattle.geometry.specs.declared.Geometry.{Geometry}
use Rattle.model.specs.Names.{ValidName}
use Rattle.model.specs.Memory.{Memory}
use Rattle.model.specs.History.{Machine, was_accepted}
use Rattle.model.specs.Demand.{machine, own_store}
use Rattle.model.specs.Command.{Command}
use Rattle.model.specs.Command.{Write, Erase, Seal, Delete, Read, Estimate, Retain, Attach, Detach, Resolve}

-- ── what M answers, whatever log bytes and buffer it comes with, unless these or the tables are at fault (refusals 2, 3 and 4) ──

-- the name l is on record r
pub record Resolves (M : Machine) (U : M.Tables) (l : List ℕ) (r : ℕ) : Type 0 where
  pub gives : (v : M.Asked) (m : List ℕ) → M.call v ≡ Resolve l → M.answer U v ≡ accepted m → m ≡ r ∷ []
  pub there : (v : M.Asked) (n : ℕ) → M.call v ≡ Resolve l → M.answer U v ≡ refused n → n < 5

-- it is on none
pub record Unused (M : Machine) (U : M.Tables) (l : List ℕ) : Type 0 where
  pub none : (v : M.Asked) (m : List ℕ) → M.call v ≡ Resolve l → M.answer U v ≡ accepted m → ⊥
  pub seventeen : (v : M.Asked) (n : ℕ) → M.call v ≡ Resolve l → M.answer U v ≡ refused n → (n < 5) ⊎ (n ≡ 17)

-- ── the laws ──

-- an accepted call c
abbrev pub Did : (M : Machine) → M.Tables → M.Asked → Command → Type 0
Did M now i c = (M.call i ≡ c) × (was_accepted (M.answer now i) ≡ true)

-- M l gives r
abbrev pub GivesNumber : (M : Machine) → M.Tables → List ℕ → ℕ → Type 0
GivesNumber M now l r = (v : M.Asked) × (M.call v ≡ Resolve l) × (M.answer now v ≡ accepted (r ∷ []))

-- the calls of the name l
abbrev pub OfName : List ℕ → Command → Type 0
OfName l c = ((r : ℕ) × (c ≡ Attach l r)) ⊎ (c ≡ Detach l) ⊎ (c ≡ Resolve l)

-- the calls that a record has to be open for
abbrev pub NeedsOpen : ℕ → Command → Type 0
NeedsOpen r c =
    ((x : ℕ) × (k : ℕ) × (c ≡ Write r x k)) ⊎ ((x : ℕ) × (c ≡ Erase r x)) ⊎ (c ≡ Seal r) ⊎ ((n : ℕ) × (c ≡ Retain r n))

-- the calls that delete, or would
abbrev pub Deletes : ℕ → Command → Type 0
Deletes r c = (c ≡ Delete r) ⊎ (c ≡ Estimate r)

-- each name of a list, and none twice
abbrev pub EachNamed : (List ℕ → Type 0) → List (List ℕ) → Type 0
EachNamed P [] = Unit {0}
EachNamed P (l ∷ ls) = P l × EachNamed P ls

abbrev pub Different : List (List ℕ) → Type 0
Different [] = Unit {0}
Different (l ∷ ls) = EachNamed (λ k. k ≡ l → ⊥) ls × Different ls

pub record NamingLaws (M : Machine) (now : M.Tables) : Type 0 where
  -- "N name r puts a name on r" (3.15)
  pub attached : (c : M.Asked) (l : List ℕ) (r : ℕ) → Did M now c (Attach l r) → Resolves M (M.after now c) l r
  -- "U name takes it off" (3.16)
  pub detached : (c : M.Asked) (l : List ℕ) → Did M now c (Detach l) → Unused M (M.after now c) l
  -- "that name moves to the new record at S" (1.10)
  pub sealed : (c : M.Asked) (l : List ℕ) (r n : ℕ) (rest : List ℕ) → M.call c ≡ Seal r → M.answer now c ≡ accepted (n ∷ rest) → GivesNumber M now l r →
      Resolves M (M.after now c) l n
  -- no other call moves a name: it stays where it is until an accepted U of it or an accepted S of its record
  pub stays : (c : M.Asked) (l : List ℕ) (r : ℕ) → GivesNumber M now l r → (Did M now c (Detach l) → ⊥) → (Did M now c (Seal r) → ⊥) →
      Resolves M (M.after now c) l r
  -- and only an accepted N puts it on a record
  pub unused : (c v : M.Asked) (l : List ℕ) → M.call v ≡ Resolve l → M.answer now v ≡ refused 17 →
      ((r : ℕ) → Did M now c (Attach l r) → ⊥) → Unused M (M.after now c) l
  -- a named record is there: R of it is not refused with 8 ("A named record is not deleted", by D or by a window)
  pub there : (v : M.Asked) (l : List ℕ) (r x : ℕ) → GivesNumber M now l r → M.call v ≡ Read r x → M.answer now v ≡ refused 8 → ⊥
  -- 16 (7.1): "a name that is not 1 to 32 letters a to z", and nothing else
  pub bad : (v : M.Asked) (l : List ℕ) (n : ℕ) → OfName l (M.call v) → (ValidName l → ⊥) → M.answer now v ≡ refused n → (n < 5) ⊎ (n ≡ 16)
  pub bad_never : (v : M.Asked) (l m : List ℕ) → OfName l (M.call v) → (ValidName l → ⊥) → M.answer now v ≡ accepted m → ⊥
  pub good : (v : M.Asked) (l : List ℕ) → OfName l (M.call v) → ValidName l → M.answer now v ≡ refused 16 → ⊥
  -- 17 (7.1): "a name in use", on r itself too
  pub in_use : (v : M.Asked) (l : List ℕ) (r q : ℕ) (m : List ℕ) → GivesNumber M now l r → M.call v ≡ Attach l q → M.answer now v ≡ accepted m → ⊥
  -- "a second on an open record": a record with two names takes no call that is for open records
  pub second : (v : M.Asked) (l k : List ℕ) (r : ℕ) (m : List ℕ) → GivesNumber M now l r → GivesNumber M now k r → (l ≡ k → ⊥) → NeedsOpen r (M.call v) →
      M.answer now v ≡ accepted m → ⊥
  -- "or a thirty-third"
  pub few : (ls : List (List ℕ)) → Different ls → EachNamed (λ l. (r : ℕ) × GivesNumber M now l r) ls → length ls ≤ 32
  -- "an unknown one"
  pub unknown : (v w : M.Asked) (l m : List ℕ) → M.call w ≡ Resolve l → M.answer now w ≡ refused 17 → M.call v ≡ Detach l →
      M.answer now v ≡ accepted m → ⊥
  -- 18 (7.1): D and Q of a named record, after 10
  pub named : (v : M.Asked) (l : List ℕ) (r n : ℕ) → GivesNumber M now l r → Deletes r (M.call v) → M.answer now v ≡ refused n →
      (n < 5) ⊎ (n ≡ 10) ⊎ (n ≡ 18)
  pub named_never : (v : M.Asked) (l : List ℕ) (r : ℕ) (m : List ℕ) → GivesNumber M now l r → Deletes r (M.call v) → M.answer now v ≡ accepted m → ⊥

-- THE LAWS OF NAMES, of lent memory and of a store that keeps its own log, on any tables
abbrev pub Naming : Type 0
Naming = (g : Geometry) → ((t : List ℕ) → NamingLaws (machine g) t) × ((M : Memory) → NamingLaws (own_store g) M)
