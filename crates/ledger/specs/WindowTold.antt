-- THE WINDOW OF A LINE, BY RECORD NUMBERS, after any calls: by the ledger's loop and by the page book's own step, told of the page books before and after
-- and not by how either finds the records. "After each S there, the oldest sealed records without a fork are deleted, one after another, until at most n
-- sealed ones are left or only forked ones and the newest sealed one remain." Forked ones count to n; the record just sealed counts and is the newest. "A named
-- record is not deleted, and a window passes over it as over a forked one."
use Rattle.std.specs.Prelude.{◌≡◌, ◌⊎◌, true, false, List, ℕ, ◌≤◌, ◌<◌, length}
use Rattle.answer.specs.Reply.{accepted}
use Rattle.geometry.specs.declared.Geometry.{Geometry}
use Rattle.geometry.specs.Limits.{Inside}
use Rattle.model.specs.Lists.{In}
use Rattle.model.specs.Book.{Book, rec_sealed}
use Rattle.model.specs.NameBook.{HasName}
use Rattle.model.specs.Command.{Command}
use Rattle.model.specs.Command.{Seal}
use Rattle.ledger.specs.BookReading.{is_there, block_on, fork_on, sealed_on, window_on}
use Rattle.ledger.specs.Ledger.{Ledger, fresh, closed, says, keeps, steps}

-- the ledger after some calls on a fresh store
abbrev pub after : Geometry → List Command → Ledger
after g before = steps g fresh before

-- THE LOOP IS THE BOOK'S OWN STEP: the loop's deletes leave the book that the page book makes of an accepted S, so they take the same records
abbrev pub WindowLoop : Type 0
WindowLoop = (g : Geometry) → Inside g → (before : List Command) (r : ℕ) (l : List ℕ) → says g (after g before) (Seal r) ≡ accepted l →
    (closed g (after g before) r).book ≡ (keeps g (after g before) (Seal r)).book

-- B is the book right after the seal of r, C the book after the call; n is the window of the line, 0 for none. Record m was taken out between them:
abbrev pub TakenOut : Book → Book → ℕ → Type 0
TakenOut B C m = (is_there B m ≡ true) × (is_there C m ≡ false)

pub record WindowBooked (B C : Book) (n r : ℕ) : Type 0 where
  -- only where there is a window
  pub windowed : (m : ℕ) → TakenOut B C m → 0 < n
  -- a sealed record of the line of r, older than r, without a fork and without a name
  pub sealed : (m : ℕ) → TakenOut B C m → In m (sealed_on B r)
  pub older : (m : ℕ) → TakenOut B C m → m < r
  pub unforked : (m : ℕ) → TakenOut B C m → fork_on B m ≡ false
  pub nameless : (m : ℕ) (l : List ℕ) → TakenOut B C m → HasName B.names l m → ⊥
  -- none newer than one that stays and might have gone
  pub oldest : (m k : ℕ) → TakenOut B C m → In k (sealed_on B r) → (k ≡ r → ⊥) → fork_on B k ≡ false →
      ((l : List ℕ) → HasName B.names l k → ⊥) → is_there C k ≡ true → m < k
  -- not one more than needed: where one goes, n are left
  pub needed : (m : ℕ) → TakenOut B C m → n ≤ length (sealed_on C r)
  -- and as many as needed: at most n are left, or each but the newest has a fork or a name on it
  pub stops : 0 < n → (length (sealed_on C r) ≤ n) ⊎
      ((k : ℕ) → In k (sealed_on C r) → (k ≡ r → ⊥) → (fork_on C k ≡ true) ⊎ ((l : List ℕ) × HasName C.names l k))
  -- the names stay where they are; a record that stays has the pages it had, and none joins
  pub names : C.names ≡ B.names
  pub pages : (m x : ℕ) → is_there C m ≡ true → (is_there B m ≡ true) × (block_on C m x ≡ block_on B m x)

abbrev pub WindowBook : Type 0
WindowBook = (g : Geometry) → Inside g → (before : List Command) (r : ℕ) (l : List ℕ) → says g (after g before) (Seal r) ≡ accepted l →
    WindowBooked (rec_sealed (after g before).book r) (keeps g (after g before) (Seal r)).book (window_on (after g before).book r) r
