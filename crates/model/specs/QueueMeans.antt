-- THE QUEUE (order 7), told of the memory before a call and the memory that it left: "D, and a window's deletes, now take the record out and put its blocks in
-- a queue, in the order they were freed before; they give no blocks and write no log word, so D and S no longer meet 14 … T k frees the first k blocks of the
-- queue, or all if fewer, and gives them … In a sound store the held blocks are now those on pages or in the queue, and the queue has each of its blocks once
-- and none that is on a page."
use Rattle.std.specs.Prelude.{◌≡◌, ◌⊎◌, ◌↔◌, true, List, [], ◌++◌, map, ℕ, ◌+◌, ◌*◌, ◌≤◌, ◌<◌, min, length}
use Rattle.answer.specs.Reply.{accepted, refused}
use Rattle.answer.specs.Refusal.{NoneBefore}
use Rattle.geometry.specs.declared.Geometry.{Geometry}
use Rattle.alloc_log.specs.Word.{released, write_at, bytes_of}
use Rattle.model.specs.Lists.{In}
use Rattle.model.specs.Results.{paired, blocks_in}
use Rattle.model.specs.SoundMeans.{On}
use Rattle.model.specs.Actions.{delete}
use Rattle.model.specs.Held.{held, frees}
use Rattle.model.specs.DeleteOrder.{DeleteOrder}
use Rattle.model.specs.State.{State}
use Rattle.model.specs.Calls.{slot, deleting}
use Rattle.model.specs.Layout.{state_of}
use Rattle.model.specs.Memory.{Memory, words_used, all_conditions, reply, after}
use Rattle.model.specs.SoundStore.{SoundStore}
use Rattle.model.specs.Command.{Command}
use Rattle.model.specs.Command.{Seal, Delete, Reclaim}

-- the state before a call, and the state after it
abbrev pub was : Geometry → Memory → State
was g M = state_of g M.tables

abbrev pub now : Geometry → Memory → Command → State
now g M c = state_of g (after g M c).tables

-- ── D, and S ──

-- the call c put the blocks of l in the queue, and nothing else: "they … write no log word"
pub record Queues (g : Geometry) (M : Memory) (c : Command) (l : List ℕ) : Type 0 where
  -- after those that were in it, in their order
  pub list : (now g M c).queue.list ≡ (was g M).queue.list ++ l
  -- each with the birth that it had; the births of the others are as they were
  pub births : (b : ℕ) → In b l → (now g M c).queue.birth b ≡ (was g M).view.birth b
  pub others : (b : ℕ) → (In b l → ⊥) → (now g M c).queue.birth b ≡ (was g M).queue.birth b
  pub log : (after g M c).log ≡ M.log
  pub used : words_used (after g M c) ≡ words_used M
  -- none of them waits yet
  pub waiting : (now g M c).waiting ≡ (was g M).waiting
  -- and nothing of the choice of a block changes
  pub mark : (now g M c).mark ≡ (was g M).mark
  pub counter : (now g M c).counter ≡ (was g M).counter
  pub writes : (now g M c).writes ≡ (was g M).writes

-- D queues "in the order they were freed before": that of rule 4.2. It gives no numbers.
pub record DeleteQueues (g : Geometry) (M : Memory) (r : ℕ) (l : List ℕ) : Type 0 where
  pub result : l ≡ []
  pub queues : Queues g M (Delete r) (frees (was g M).view (deleting (was g M) r))
  pub order : DeleteOrder (was g M).view (slot (was g M) r)
  -- the record leaves the store by rule 4.2, and no name and no window changes
  pub view : (now g M (Delete r)).view ≡ delete (was g M).view (slot (was g M) r)
  pub notes : (now g M (Delete r)).notes ≡ (was g M).notes

abbrev pub QueueOrder : Type 0
QueueOrder = (g : Geometry) (M : Memory) (r : ℕ) (l : List ℕ) → reply g M (Delete r) ≡ accepted l → DeleteQueues g M r l

-- what S queues is told with the window (WindowMeans)

-- a D or an S
abbrev pub Queueing : Command → Type 0
Queueing c = ((r : ℕ) × (c ≡ Delete r)) ⊎ ((r : ℕ) × (c ≡ Seal r))

-- "write no log word": whatever they answer, the log is as it was
abbrev pub NoWords : Type 0
NoWords = (g : Geometry) (M : Memory) (c : Command) → Queueing c → ((after g M c).log ≡ M.log) × (words_used (after g M c) ≡ words_used M)

-- "so D and S no longer meet 14"
abbrev pub SealDeleteNot14 : Type 0
SealDeleteNot14 = (g : Geometry) (M : Memory) (c : Command) → Queueing c → reply g M c ≡ refused 14 → ⊥

-- ── T ──

-- an accepted T of k that gave the numbers l
pub record TurnIs (g : Geometry) (M : Memory) (k : ℕ) (l : List ℕ) : Type 0 where
  pub low : 1 ≤ k
  pub high : k ≤ 64
  -- "the first k blocks of the queue, or all if fewer": what it gives and what it leaves are the queue as it stood
  pub parts : blocks_in l ++ (now g M (Reclaim k)).queue.list ≡ (was g M).queue.list
  pub many : length (blocks_in l) ≡ min k (length (was g M).queue.list)
  -- each with its birth
  pub result : l ≡ paired (was g M).queue.birth (blocks_in l)
  -- which it loses; those left keep theirs
  pub gone : (b : ℕ) → In b (blocks_in l) → (now g M (Reclaim k)).queue.birth b ≡ 0
  pub left : (b : ℕ) → (In b (blocks_in l) → ⊥) → (now g M (Reclaim k)).queue.birth b ≡ (was g M).queue.birth b
  -- one free word for each, in order
  pub log : (after g M (Reclaim k)).log ≡ write_at M.log (8 * words_used M) (bytes_of (map released (blocks_in l)))
  pub used : words_used (after g M (Reclaim k)) ≡ words_used M + length (blocks_in l)
  -- "What T frees waits" (5.6)
  pub waiting : (now g M (Reclaim k)).waiting ≡ (was g M).waiting ++ blocks_in l
  -- no record changes, no name and no window, and nothing of the choice of a block
  pub view : (now g M (Reclaim k)).view ≡ (was g M).view
  pub notes : (now g M (Reclaim k)).notes ≡ (was g M).notes
  pub mark : (now g M (Reclaim k)).mark ≡ (was g M).mark
  pub counter : (now g M (Reclaim k)).counter ≡ (was g M).counter
  pub writes : (now g M (Reclaim k)).writes ≡ (was g M).writes

abbrev pub Turn : Type 0
Turn = (g : Geometry) (M : Memory) (k : ℕ) (l : List ℕ) → reply g M (Reclaim k) ≡ accepted l → TurnIs g M k l

-- 14 "as a whole": where the log has fewer unused words than the turn frees; and nothing is altered
pub record TurnFourteen (g : Geometry) (M : Memory) (k : ℕ) : Type 0 where
  pub exactly : (reply g M (Reclaim k) ≡ refused 14) ↔
      (NoneBefore 14 (all_conditions g M (Reclaim k)) × (g.words < words_used M + min k (length (was g M).queue.list)))
  pub unaltered : reply g M (Reclaim k) ≡ refused 14 → after g M (Reclaim k) ≡ M

abbrev pub Turn14 : Type 0
Turn14 = (g : Geometry) (M : Memory) (k : ℕ) → TurnFourteen g M k

-- a T of an empty queue is accepted, with a full log too, and gives nothing
abbrev pub TurnOfNone : Type 0
TurnOfNone = (g : Geometry) (M : Memory) (k : ℕ) → (was g M).queue.list ≡ [] → NoneBefore 14 (all_conditions g M (Reclaim k)) →
    reply g M (Reclaim k) ≡ accepted []

-- ── a sound store ──

-- "the held blocks are now those on pages or in the queue, and the queue has … none that is on a page"
pub record HeldIs (T : State) (b : ℕ) : Type 0 where
  pub either : (held T b ≡ true) ↔ (((s : ℕ) × (x : ℕ) × On T.view s x b) ⊎ In b T.queue.list)
  pub apart : (s x : ℕ) → On T.view s x b → In b T.queue.list → ⊥

abbrev pub HeldMeans : Type 0
HeldMeans = (g : Geometry) (t log : List ℕ) → SoundStore g t log → (b : ℕ) → HeldIs (state_of g t) b
