-- Q, in the rule's words (3.12): the number "of the blocks D would queue", the log words it would write, which are 0, "and the number of non-empty shards of
-- the following record born after r's pred (0 if none follows). It is worked out without doing the delete and changes nothing. It has D's refusals".
use Rattle.std.specs.Prelude.{◌≡◌, ◌↔◌, List, [], ◌∷◌, ℕ, suc, ◌+◌, ◌*◌, ◌≤◌, ◌<◌, length}
use Rattle.answer.specs.Reply.{accepted}
use Rattle.geometry.specs.declared.Geometry.{Geometry}
use Rattle.geometry.specs.Limits.{blocks}
use Rattle.model.specs.View.{View, pred_num}
use Rattle.model.specs.Lists.{In, Pairwise}
use Rattle.model.specs.Deadlists.{shard}
use Rattle.model.specs.SoundMeans.{Live}
use Rattle.model.specs.RefusalMeans.{There}
use Rattle.model.specs.Layout.{state_of}
use Rattle.model.specs.Memory.{Memory, words_used, all_conditions, reply, after}
use Rattle.model.specs.Demand.{with_out}
use Rattle.model.specs.Command.{Delete, Estimate}

-- "changes nothing": the tables and the log are as they were, whatever Q answered
abbrev pub EstimateStill : Type 0
EstimateStill = (g : Geometry) (M : Memory) (r : ℕ) → ((after g M (Estimate r)).tables ≡ M.tables) × ((after g M (Estimate r)).log ≡ M.log)

-- "It has D's refusals"
abbrev pub EstimateRefusals : Type 0
EstimateRefusals = (g : Geometry) (M : Memory) (r : ℕ) → all_conditions g M (Delete r) ≡ all_conditions g M (Estimate r)

-- what a call straight after Q meets: the memory that Q left, with a result buffer of its own
abbrev pub behind : Geometry → Memory → ℕ → List ℕ → Memory
behind g M r out = with_out (after g M (Estimate r)) out

-- how many blocks are queued: number 10 of the tables
abbrev pub queue_length : Geometry → Memory → ℕ
queue_length g M = length (state_of g M.tables).queue.list

-- Q on memory M was accepted and gave the numbers q
pub record Foretold (g : Geometry) (M : Memory) (r : ℕ) (q : List ℕ) : Type 0 where
  -- it gives three numbers: of blocks, of log words, of shards
  pub blocks : ℕ
  pub words : ℕ
  pub shards : ℕ
  pub three : q ≡ blocks ∷ words ∷ shards ∷ []
  -- D writes no word
  pub none : words ≡ 0
  -- a D straight after Q, if accepted, queues exactly that number, and writes that many words
  pub exactly : (out l : List ℕ) → reply g (behind g M r out) (Delete r) ≡ accepted l →
      (queue_length g (after g (behind g M r out) (Delete r)) ≡ queue_length g M + blocks) ×
      (words_used (after g (behind g M r out) (Delete r)) ≡ words_used M + words)

abbrev pub EstimateTrue : Type 0
EstimateTrue = (g : Geometry) (M : Memory) (r : ℕ) (q : List ℕ) → reply g M (Estimate r) ≡ accepted q → Foretold g M r q

-- that D is accepted, however full the log is, and gives nothing
abbrev pub EstimateEnough : Type 0
EstimateEnough = (g : Geometry) (M : Memory) (r : ℕ) (q out : List ℕ) → reply g M (Estimate r) ≡ accepted q → 2 * blocks g + 64 ≤ length out →
    reply g (behind g M r out) (Delete r) ≡ accepted []

-- births of n's deadlist above p: rising, and those and no others have a shard that is not empty
pub record BirthsAbove (K : View) (n p : ℕ) (births : List ℕ) : Type 0 where
  pub rising : Pairwise (λ v w. v < w) births
  pub these : (v : ℕ) → In v births ↔ ((p < v) × (shard K n v ≡ [] → ⊥))

-- "the number of non-empty shards of the following record born after r's pred (0 if none follows)": r is in slot s
pub record ShardsCounted (K : View) (s count : ℕ) : Type 0 where
  pub next : (n : ℕ) → Live K n → K.prev n ≡ suc s → (births : List ℕ) × BirthsAbove K n (pred_num K s) births × (length births ≡ count)
  pub none : ((n : ℕ) → Live K n → K.prev n ≡ suc s → ⊥) → count ≡ 0

abbrev pub ShardsAreCounted : Type 0
ShardsAreCounted = (g : Geometry) (M : Memory) (r a w v s : ℕ) → reply g M (Estimate r) ≡ accepted (a ∷ w ∷ v ∷ []) →
    There (state_of g M.tables).view r s → ShardsCounted (state_of g M.tables).view s v
