-- WHAT R ANSWERS, told by replies alone: nothing here speaks of the page book or of what the tables hold. So a rule about pages that is wrong in the book, in
-- the definitions and in the code alike (a fork that opens empty, a seal that forgets a page, a write that lands on two records) is refused here.
-- All of it holds on any tables, not only on those of a store begun fresh; `now` are the tables that the first call meets.
use Rattle.std.specs.Prelude.{◌≡◌, ◌⊎◌, true, List, [], ◌∷◌, ℕ, ◌<◌}
use Rattle.answer.specs.Reply.{accepted, refused}
use Rattle.geometry.specs.declared.Geometry.{Geometry}
use Rattle.model.specs.Memory.{Memory}
use Rattle.model.specs.History.{Machine, was_accepted, state_from}
use Rattle.model.specs.Demand.{machine, own_store}
use Rattle.model.specs.Command.{Command}
use Rattle.model.specs.Command.{Begin, Write, Erase, Seal, Fork, Delete, Read}

-- ── page x of record r reads l ──

-- R r x gives l, whatever log bytes and buffer it comes with, unless these or the tables are at fault (refusals 2, 3 and 4)
pub record Shows (M : Machine) (U : M.Tables) (r x : ℕ) (l : List ℕ) : Type 0 where
  pub gives : (v : M.Asked) (m : List ℕ) → M.call v ≡ Read r x → M.answer U v ≡ accepted m → m ≡ l
  pub there : (v : M.Asked) (n : ℕ) → M.call v ≡ Read r x → M.answer U v ≡ refused n → n < 5

-- a W or E of the page, or a D of its record
abbrev pub Changes : ℕ → ℕ → Command → Type 0
Changes r x c = ((k : ℕ) × (c ≡ Write r x k)) ⊎ (c ≡ Erase r x) ⊎ (c ≡ Delete r)

-- R r x is refused with 8: there is no record r any more
pub record Lost (M : Machine) (U : M.Tables) (r x : ℕ) : Type 0 where
  pub unread : (v : M.Asked) (m : List ℕ) → M.call v ≡ Read r x → M.answer U v ≡ accepted m → ⊥
  pub eight : (v : M.Asked) (n : ℕ) → M.call v ≡ Read r x → M.answer U v ≡ refused n → (n < 5) ⊎ (n ≡ 8)

-- an S, of some record
abbrev pub Seals : Command → Type 0
Seals c = (q : ℕ) × (c ≡ Seal q)

-- the call i touches the page where it is an accepted W, E or D that changes it, or an accepted S whose window took r
abbrev pub Touches : (M : Machine) → M.Tables → ℕ → ℕ → M.Asked → Type 0
Touches M U r x i = (was_accepted (M.answer U i) ≡ true) × (Changes r x (M.call i) ⊎ (Seals (M.call i) × Lost M (M.after U i) r x))

-- one of some calls does
abbrev pub Touched : (M : Machine) → M.Tables → ℕ → ℕ → List M.Asked → Type 0
Touched M U r x [] = ⊥
Touched M U r x (i ∷ more) = Touches M U r x i ⊎ Touched M (M.after U i) r x more

-- from U on it reads l: after any calls none of which touches it
abbrev pub ShowsFrom : (M : Machine) → M.Tables → ℕ → ℕ → List ℕ → Type 0
ShowsFrom M U r x l = (more : List M.Asked) → (Touched M U r x more → ⊥) → Shows M (state_from M U more) r x l

-- ── the laws ──

-- B, S r and F r open a record
abbrev pub Opens : Command → Type 0
Opens c = (c ≡ Begin) ⊎ ((r : ℕ) × (c ≡ Seal r)) ⊎ ((r : ℕ) × (c ≡ Fork r))

-- of a store with P pages
pub record ReadingLaws (M : Machine) (P : ℕ) (now : M.Tables) : Type 0 where
  -- what is read once is read again, until the page is touched: a call changes no other record and no other page
  pub stays : (v : M.Asked) (r x : ℕ) (l : List ℕ) → M.call v ≡ Read r x → M.answer now v ≡ accepted l → ShowsFrom M now r x l
  -- B opens a record that has nothing on any page
  pub begun : (c : M.Asked) (n x : ℕ) (rest : List ℕ) → M.call c ≡ Begin → M.answer now c ≡ accepted (n ∷ rest) → x < P →
      ShowsFrom M (M.after now c) n x []
  -- S r and F r open a record that reads as r did just before
  pub sealed : (c v : M.Asked) (r n x : ℕ) (l rest : List ℕ) → M.call c ≡ Seal r → M.answer now c ≡ accepted (n ∷ rest) →
      M.call v ≡ Read r x → M.answer now v ≡ accepted l → ShowsFrom M (M.after now c) n x l
  pub forked : (c v : M.Asked) (r n x : ℕ) (l rest : List ℕ) → M.call c ≡ Fork r → M.answer now c ≡ accepted (n ∷ rest) →
      M.call v ≡ Read r x → M.answer now v ≡ accepted l → ShowsFrom M (M.after now c) n x l
  -- after W r x, which gave b, the page reads b, born in r; after E r x it reads nothing
  pub written : (c : M.Asked) (r x k b : ℕ) (rest : List ℕ) → M.call c ≡ Write r x k → M.answer now c ≡ accepted (b ∷ rest) →
      ShowsFrom M (M.after now c) r x (b ∷ r ∷ [])
  pub erased : (c : M.Asked) (r x : ℕ) (l : List ℕ) → M.call c ≡ Erase r x → M.answer now c ≡ accepted l → ShowsFrom M (M.after now c) r x []
  -- after D r no R r is accepted any more, whatever is called
  pub gone : (c : M.Asked) (r : ℕ) (l : List ℕ) → M.call c ≡ Delete r → M.answer now c ≡ accepted l →
      (more : List M.Asked) (v : M.Asked) (x : ℕ) (m : List ℕ) → M.call v ≡ Read r x →
      M.answer (state_from M (M.after now c) more) v ≡ accepted m → ⊥
  -- S leaves each page as it was, or takes its record (by a window): nothing in between
  pub kept : (c v : M.Asked) (q r x : ℕ) (l m : List ℕ) → M.call c ≡ Seal q → M.answer now c ≡ accepted m →
      M.call v ≡ Read r x → M.answer now v ≡ accepted l → Shows M (M.after now c) r x l ⊎ Lost M (M.after now c) r x
  -- a record that was there before a call and is not after it (R is refused with 8) never comes back
  pub taken : (c v w : M.Asked) (r x y : ℕ) (l : List ℕ) → M.call v ≡ Read r x → M.answer now v ≡ accepted l →
      M.call w ≡ Read r y → M.answer (M.after now c) w ≡ refused 8 →
      (more : List M.Asked) (u : M.Asked) (z : ℕ) (m : List ℕ) → M.call u ≡ Read r z →
      M.answer (state_from M (M.after now c) more) u ≡ accepted m → ⊥
  -- "none is given twice" (1.1): the number that a B, S or F gives is above those that all earlier ones gave
  pub rises : (c d : M.Asked) (n m : ℕ) (rest others : List ℕ) (more : List M.Asked) → Opens (M.call c) → Opens (M.call d) →
      M.answer now c ≡ accepted (n ∷ rest) → M.answer (state_from M (M.after now c) more) d ≡ accepted (m ∷ others) → n < m
  -- and there was no record of that number
  pub unread : (c v : M.Asked) (n x : ℕ) (rest l : List ℕ) → Opens (M.call c) → M.answer now c ≡ accepted (n ∷ rest) →
      M.call v ≡ Read n x → M.answer now v ≡ accepted l → ⊥

-- THE READING LAWS, of lent memory and of a store that keeps its own log, on any tables
abbrev pub Reading : Type 0
Reading = (g : Geometry) → ((t : List ℕ) → ReadingLaws (machine g) g.pages t) × ((M : Memory) → ReadingLaws (own_store g) g.pages M)
