-- THE NAMES IN THE PAGE BOOK, read: which name is on which record, by its number.
use Rattle.std.specs.Prelude.{◌≡◌, ◌⊎◌, List, [], ◌∷◌, ℕ, ◌<◌}
use Rattle.model.specs.Book.{Some, NameOn, Book}

-- the book has the name l on the record of number n; it has it on none
abbrev pub HasName : List NameOn → List ℕ → ℕ → Type 0
HasName ps l n = Some (λ p. (p.0 ≡ l) × (p.1 ≡ n)) ps

abbrev pub Unknown : List NameOn → List ℕ → Type 0
Unknown ps l = (n : ℕ) → HasName ps l n → ⊥

-- no name twice
abbrev pub OnceNamed : List NameOn → Type 0
OnceNamed [] = Unit {0}
OnceNamed (p ∷ ps) = Unknown ps p.0 × OnceNamed ps

-- record r is in the book; it is open
abbrev pub InBook : Book → ℕ → Type 0
InBook B r = Some (λ l. Some (λ q. q.number ≡ r) l.recs) B.lines

abbrev pub OpenIn : Book → ℕ → Type 0
OpenIn B r = Some (λ l. Some (λ q. (q.number ≡ r) × (0 < q.is_open)) l.recs) B.lines

-- "that name moves to the new record at S" (1.10): ps are the names before an S of r, qs those after it, and m is the number of the new record
pub record SealMoved (ps qs : List NameOn) (r m : ℕ) : Type 0 where
  -- every name that was on r is on m, and none is on r any more
  pub moved : (l : List ℕ) → HasName ps l r → HasName qs l m
  pub none : (l : List ℕ) → HasName qs l r → ⊥
  -- no other name moved, and none is new
  pub others : (l : List ℕ) (n : ℕ) → (n ≡ r → ⊥) → HasName ps l n → HasName qs l n
  pub only : (l : List ℕ) (n : ℕ) → HasName qs l n → ((n ≡ m) × HasName ps l r) ⊎ HasName ps l n
