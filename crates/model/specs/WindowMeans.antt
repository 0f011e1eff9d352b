-- THE WINDOW OF A LINE (order 5), told of the memory before a call and the memory that it left: "K r n sets a window on the line of open r. After each S
-- there, the oldest sealed records without a fork are deleted, one after another, until at most n sealed ones are left or only forked ones and the newest
-- sealed one remain. … K prints `+`, deletes nothing itself, and meets 9 on a sealed r. Every new line starts without a window." And order 6: "A named
-- record is not deleted, and a window passes over it as over a forked one." And order 7: a window's deletes "put its blocks in a queue, in the order they
-- were freed before".
use Rattle.std.specs.Prelude.{◌≡◌, List, [], ◌∷◌, ℕ, suc, ◌+◌, ◌≤◌, ◌<◌, length}
use Rattle.answer.specs.Reply.{accepted}
use Rattle.geometry.specs.declared.Geometry.{Geometry}
use Rattle.model.specs.View.{View}
use Rattle.model.specs.Lists.{In}
use Rattle.model.specs.Actions.{do_s, done, forked}
use Rattle.model.specs.SoundMeans.{Live}
use Rattle.model.specs.State.{State}
use Rattle.model.specs.Calls.{slot, window_of, queued_closing}
use Rattle.model.specs.Window.{sealed_of, victims, OrderAlong, WindowStops}
use Rattle.model.specs.Memory.{Memory, reply, after}
use Rattle.model.specs.QueueMeans.{was, now, Queues}
use Rattle.model.specs.Command.{Begin, Seal, Fork, Retain}

-- the view right after the seal, before the window's deletes
abbrev pub sealed_view : Geometry → Memory → ℕ → View
sealed_view g M r = done (was g M).view (do_s (slot (was g M) r))

-- ── where it stops ──

abbrev pub StopsThere : Type 0
StopsThere = (g : Geometry) (M : Memory) (r : ℕ) (l : List ℕ) → reply g M (Seal r) ≡ accepted l → 0 < window_of (was g M) r →
    WindowStops (now g M (Seal r)).view (was g M).notes.names (window_of (was g M) r) (slot (was g M) r)

-- ── what it takes ──

-- between the view K after the seal and the view L after the call a record left the store
abbrev pub Took : View → View → ℕ → Type 0
Took K L s = Live K s × (L.num s ≡ 0)

-- n is the line's window, 0 for none, and r the slot of the record just sealed
pub record TakesOldest (K L : View) (names : ℕ → ℕ) (n r : ℕ) : Type 0 where
  -- nothing where there is no window
  pub windowed : (s : ℕ) → Took K L s → 0 < n
  -- sealed records of the line, never the newest, none with a fork or a name on it
  pub sealed : (s : ℕ) → Took K L s → In s (sealed_of K r)
  pub not_newest : (s : ℕ) → Took K L s → K.num s < K.num r
  pub unforked : (s : ℕ) → Took K L s → forked K s ≡ 0
  pub nameless : (s : ℕ) → Took K L s → names s ≡ 0
  -- none newer than one that stays and might have gone
  pub oldest : (s t : ℕ) → Took K L s → In t (sealed_of K r) → (t ≡ r → ⊥) → forked K t ≡ 0 → names t ≡ 0 → Live L t →
      K.num s < K.num t
  -- not one more than needed: where one goes, n are left
  pub needed : (s : ℕ) → Took K L s → n ≤ length (sealed_of L r)
  -- of a record that stays, number, state, base and pages are as before; no record joins
  pub num : (s : ℕ) → Live L s → L.num s ≡ K.num s
  pub is_open : (s : ℕ) → L.is_open s ≡ K.is_open s
  pub base : (s : ℕ) → L.base s ≡ K.base s
  pub page : (s x : ℕ) → L.page s x ≡ K.page s x

abbrev pub Takes : Type 0
Takes = (g : Geometry) (M : Memory) (r : ℕ) (l : List ℕ) → reply g M (Seal r) ≡ accepted l →
    TakesOldest (sealed_view g M r) (now g M (Seal r)).view (was g M).notes.names (window_of (was g M) r) (slot (was g M) r)

-- ── what it queues ──

pub record QueuesAlong (g : Geometry) (M : Memory) (r : ℕ) (l : List ℕ) : Type 0 where
  -- S gives the new number alone
  pub result : l ≡ suc (was g M).view.last ∷ []
  -- the blocks of the deletes join the queue, delete by delete; the log stays
  pub queues : Queues g M (Seal r) (queued_closing (was g M) r)
  -- each delete queues and joins in the order of rule 4.2, of the store that it meets
  pub order : OrderAlong (sealed_view g M r) (victims (sealed_view g M r) (was g M).notes.names (window_of (was g M) r) (slot (was g M) r))

abbrev pub QueuesThem : Type 0
QueuesThem = (g : Geometry) (M : Memory) (r : ℕ) (l : List ℕ) → reply g M (Seal r) ≡ accepted l → QueuesAlong g M r l

-- ── K ──

-- "K prints `+`, deletes nothing itself": T before, U after, s the slot of r
pub record SetsWindow (T U : State) (s n : ℕ) : Type 0 where
  pub here : U.notes.window s ≡ n
  pub others : (t : ℕ) → (t ≡ s → ⊥) → U.notes.window t ≡ T.notes.window t
  pub names : U.notes.names ≡ T.notes.names
  pub titles : U.notes.titles ≡ T.notes.titles
  pub view : U.view ≡ T.view
  pub mark : U.mark ≡ T.mark
  pub counter : U.counter ≡ T.counter
  pub writes : U.writes ≡ T.writes
  pub used : U.used ≡ T.used
  pub waiting : U.waiting ≡ T.waiting
  pub queue : U.queue ≡ T.queue

pub record Retains (g : Geometry) (M : Memory) (r n : ℕ) (l : List ℕ) : Type 0 where
  pub result : l ≡ []
  pub low : 1 ≤ n
  pub high : n ≤ 62
  -- r is an open record in this slot
  pub live : Live (was g M).view (slot (was g M) r)
  pub number : (was g M).view.num (slot (was g M) r) ≡ r
  pub is_open : 0 < (was g M).view.is_open (slot (was g M) r)
  pub only : SetsWindow (was g M) (now g M (Retain r n)) (slot (was g M) r) n
  pub log : (after g M (Retain r n)).log ≡ M.log

abbrev pub RetainOnly : Type 0
RetainOnly = (g : Geometry) (M : Memory) (r n : ℕ) (l : List ℕ) → reply g M (Retain r n) ≡ accepted l → Retains g M r n l

-- ── "Every new line starts without a window." ──

-- the new record has the next number, and its line no window
pub record BareLine (T U : State) (l : List ℕ) : Type 0 where
  pub slot : ℕ
  pub result : l ≡ U.view.num slot ∷ []
  pub number : U.view.num slot ≡ T.view.last + 1
  pub window : U.notes.window slot ≡ 0
  -- no other window changes
  pub others : (t : ℕ) → (t ≡ slot → ⊥) → U.notes.window t ≡ T.notes.window t

abbrev pub BeginBare : Type 0
BeginBare = (g : Geometry) (M : Memory) (l : List ℕ) → reply g M Begin ≡ accepted l → BareLine (was g M) (now g M Begin) l

abbrev pub ForkBare : Type 0
ForkBare = (g : Geometry) (M : Memory) (r : ℕ) (l : List ℕ) → reply g M (Fork r) ≡ accepted l → BareLine (was g M) (now g M (Fork r)) l

-- and the record that follows a sealed one has the window of the line
pub record PassedOn (T U : State) (r : ℕ) : Type 0 where
  pub slot : ℕ
  pub number : U.view.num slot ≡ T.view.last + 1
  pub window : U.notes.window slot ≡ window_of T r
  pub others : (t : ℕ) → (t ≡ slot → ⊥) → U.notes.window t ≡ T.notes.window t

abbrev pub SealPasses : Type 0
SealPasses = (g : Geometry) (M : Memory) (r : ℕ) (l : List ℕ) → reply g M (Seal r) ≡ accepted l → PassedOn (was g M) (now g M (Seal r)) r
