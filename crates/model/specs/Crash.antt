-- A PLUG PULLED (6.10): "For the log of a store begun fresh, after any calls, each getting tables and log as the last one left them, cut at any byte of the
-- words appended since the last C (or since the beginning), reading gives the blocks held at the last whole barrier, and none of those was given to a write
-- between that barrier and the cut. C counts as one moment, done or not done."
-- Told by the calls, their replies and the bytes of the log: held is 'on a page of the book or queued', and the used words are those that the replies tell.
use Rattle.std.specs.Prelude.{◌≡◌, ◌⊎◌, ◌↔◌, Bool, true, cond, ◌&&◌, List, [], ◌∷◌, ◌++◌, ℕ, ◌+◌, ◌*◌, ◌≤◌, ◌<◌, length, take}
use Rattle.answer.specs.Reply.{accepted}
use Rattle.geometry.specs.declared.Geometry.{Geometry}
use Rattle.geometry.specs.Limits.{blocks}
use Rattle.alloc_log.specs.Tool.{read_reply}
use Rattle.model.specs.Lists.{In, Pairwise}
use Rattle.model.specs.Calls.{account, renews}
use Rattle.model.specs.Memory.{Memory, make_reply, make_after}
use Rattle.model.specs.Book.{Some, OnPage}
use Rattle.model.specs.History.{Entry, entry_of, history_from, book, was_accepted, queued_in}
use Rattle.model.specs.HistoryFacts.{Synced, Gives}
use Rattle.model.specs.UsedWords.{used_then, used_by}
use Rattle.model.specs.Demand.{Own, own_store, run}
use Rattle.model.specs.Command.{Command}
use Rattle.model.specs.Command.{Barrier}

-- an accepted C, and an accepted Y
abbrev pub is_c : Command → Bool
is_c c = renews (account c)

abbrev pub compacts? : Entry → Bool
compacts? e = was_accepted e.answer && is_c e.call

abbrev pub Compacts : Entry → Type 0
Compacts e = compacts? e ≡ true

abbrev pub Ended : Entry → Type 0
Ended e = (e.call ≡ Barrier) × (was_accepted e.answer ≡ true)

-- the calls l of the store M with their answers, and what a call after them is
abbrev pub heard : Geometry → Memory → List Own → List Entry
heard g M l = history_from (own_store g) M l

abbrev pub entry_after : Geometry → Memory → List Own → Own → Entry
entry_after g M l a = entry_of (own_store g) (run g M l) a

-- of a fresh store M: how many words of the log are used after the calls l, and which blocks are held
abbrev pub used_after : Geometry → Memory → List Own → ℕ
used_after g M l = used_by 0 (heard g M l)

abbrev pub HeldAfter : Geometry → Memory → List Own → ℕ → Type 0
HeldAfter g M l b = OnPage (book g.pages (heard g M l)) b ⊎ (queued_in g.pages (heard g M l) b ≡ true)

-- "the words appended since the last C (or since the beginning)" (6.10) begin here: the words that were used right after the last accepted C, or n
unfoldable pub start_by : ℕ → List Entry → ℕ
start_by n [] = n
start_by n (e ∷ l) = start_by (cond (compacts? e) (used_then n e.call e.answer) n) l

-- these are "the held blocks, rising" (6.4), of the fresh store M after the calls l
pub record AllHeld (g : Geometry) (M : Memory) (l : List Own) (these : List ℕ) : Type 0 where
  pub rising : Pairwise (λ b c. b < c) these
  pub held : (b : ℕ) → In b these ↔ HeldAfter g M l b

-- the log of the fresh store M after the calls l, cut at byte n
pub record Cut (g : Geometry) (M : Memory) (l : List Own) (n : ℕ) : Type 0 where
  -- `early` are the calls up to the last whole barrier, `mid` those after it up to the next barrier, which is not whole and begins `late`
  pub early : List Own
  pub mid : List Own
  pub late : List Own
  pub split : l ≡ early ++ (mid ++ late)
  -- an accepted Y or C is the last of `early`; where there is none, it is empty
  pub barrier : (early ≡ []) ⊎ ((calls : List Own) × (a : Own) × (early ≡ calls ++ (a ∷ [])) × Synced (entry_after g M calls a))
  pub quiet : Some Synced (heard g (run g M early) mid) → ⊥
  pub same_log : Some Compacts (heard g (run g M (early ++ mid)) late) → ⊥
  -- the cut stands after the words of `early`, and before the end of the next barrier's word
  pub from : 8 * used_after g M early ≤ n
  pub up_to : ((late ≡ []) × (n ≤ 8 * used_after g M (early ++ mid))) ⊎
      ((a : Own) × (rest : List Own) × (late ≡ a ∷ rest) × Ended (entry_after g M (early ++ mid) a) × (n < 8 * used_after g M (early ++ mid) + 8))
  -- "reading gives the blocks held at the last whole barrier"
  pub reads : (out : List ℕ) → 2 * blocks g + 64 ≤ length out →
      (these : List ℕ) × (read_reply g (take n (run g M l).log) out ≡ accepted these) × AllHeld g M early these
  -- "and none of those was given to a write between that barrier and the cut"
  pub kept : (b : ℕ) → HeldAfter g M early b → Some (Gives b) (heard g (run g M early) mid) → ⊥

-- "C counts as one moment, done or not done": a cut inside C is one of the calls without it, or with it
abbrev pub Crash : Type 0
Crash = (g : Geometry) (M : Memory) → make_reply g M ≡ accepted [] → (l : List Own) (n : ℕ) →
    8 * start_by 0 (heard g (make_after g M) l) ≤ n → n ≤ 8 * used_after g (make_after g M) l → Cut g (make_after g M) l n
