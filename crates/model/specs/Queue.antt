-- THE QUEUE: "D, and a window's deletes, … take the record out and put its blocks in a queue, in the order they were freed before … T k frees the first k
-- blocks of the queue, or all if fewer, and gives them." (4.3)
use Rattle.std.specs.Prelude.{◌≡◌, cond, List, [], ◌∷◌, ◌++◌, ℕ, suc, ◌+◌, ◌-◌, ◌/◌, eqb, take, drop}
use Rattle.model.specs.Lists.{elem, cleared}

pub record Queue : Type 0 where
  -- the queued blocks, in order
  pub list : List ℕ
  -- of a queued block its birth, 0 of any other
  pub birth : ℕ → ℕ

abbrev pub empty_queue : Queue
empty_queue = record { list = []; birth = λ b. 0 }

-- a table with f's numbers at each of l
unfoldable pub overlaid : (ℕ → ℕ) → (ℕ → ℕ) → List ℕ → ℕ → ℕ
overlaid g f l b = cond (elem b l) (f b) (g b)

-- the blocks of l join at the end, with their births f
abbrev pub enqueued : Queue → (ℕ → ℕ) → List ℕ → Queue
enqueued Q f l = record { list = Q.list ++ l; birth = overlaid Q.birth f l }

-- the first k blocks, or all if fewer, leave
abbrev pub dequeued : Queue → ℕ → Queue
dequeued Q k = record { list = drop k Q.list; birth = cleared Q.birth (take k Q.list) }

-- ── what an accepted call does, as far as the queue goes ──

pub data Move : Type 0 where
  -- D or S: blocks join, with the births that they had before the call
  joining : (ℕ → ℕ) → List ℕ → Move
  -- T k
  turning : ℕ → Move
  -- any other call
  resting : Move

unfoldable pub moved : Queue → Move → Queue
moved Q (joining f l) = enqueued Q f l
moved Q (turning k) = dequeued Q k
moved Q resting = Q

abbrev pub moved_from : Queue → List Move → Queue
moved_from Q [] = Q
moved_from Q (m ∷ l) = moved_from (moved Q m) l

-- the blocks that a call frees from the queue, and those that some calls free from it, in order
unfoldable pub turn_frees : Queue → Move → List ℕ
turn_frees Q (joining f l) = []
turn_frees Q (turning k) = take k Q.list
turn_frees Q resting = []

abbrev pub turns_free : Queue → List Move → List ℕ
turns_free Q [] = []
turns_free Q (m ∷ l) = turn_frees Q m ++ turns_free (moved Q m) l

-- what some calls put in the queue, in order
abbrev pub joined_by : List Move → List ℕ
joined_by [] = []
joined_by (joining f m ∷ l) = m ++ joined_by l
joined_by (turning k ∷ l) = joined_by l
joined_by (resting ∷ l) = joined_by l

-- how many turns of k
unfoldable pub turn_count : ℕ → List Move → ℕ
turn_count k [] = 0
turn_count k (joining f m ∷ l) = turn_count k l
turn_count k (turning j ∷ l) = cond (eqb j k) (suc (turn_count k l)) (turn_count k l)
turn_count k (resting ∷ l) = turn_count k l

-- ── the theorems ──

-- nothing is lost, nothing moves ahead
abbrev pub QueueFlow : Queue → List Move → Type 0
QueueFlow Q l = turns_free Q l ++ (moved_from Q l).list ≡ Q.list ++ joined_by l

-- "With q blocks queued, q divided by k rounded up accepted turns of k free them all, any other calls between" (4.3): what the turns free begins with that
-- queue
abbrev pub TurnsFreeAll : Queue → List Move → Type 0
TurnsFreeAll Q l = (rest : List ℕ) × (turns_free Q l ≡ Q.list ++ rest)

-- "q divided by k rounded up" (4.3)
unfoldable pub rounded_up : ℕ → ℕ → ℕ
rounded_up q k = (q + k - 1) / k
