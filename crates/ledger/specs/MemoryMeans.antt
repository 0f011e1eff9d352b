-- THE REFUSALS, of a making (2, 3) and of a call (2 to 19), each exactly when, and acceptance (rules 2.1, 7.1, 8), on any memory; what a making leaves (2.3).
use Rattle.std.specs.Prelude.{◌≡◌, ◌↔◌, ◌⊎◌, List, [], ℕ, ◌+◌, ◌*◌, ◌/◌, ◌%◌, ◌^◌, ◌≤◌, ◌<◌, length, get_or}
use Rattle.answer.specs.Reply.{accepted, refused}
use Rattle.geometry.specs.declared.Geometry.{Geometry}
use Rattle.geometry.specs.Limits.{Inside, blocks}
use Rattle.ledger.specs.LogMeans.{Within}
use Rattle.model.specs.State.{State}
use Rattle.model.specs.Calls.{result}
use Rattle.model.specs.Layout.{state_of}
use Rattle.model.specs.Memory.{Memory, reply, after, make_reply, make_after}
use Rattle.model.specs.SoundStore.{MadeFor, SoundStore}
use Rattle.model.specs.RefusalMeans.{sentences, First, NoneTrue}
use Rattle.model.specs.Command.{Command}

-- how many numbers the tables of a geometry are
abbrev pub table_size : Geometry → ℕ
table_size g = 2048 + 512 * g.records + 4 * blocks g

pub record Enough (g : Geometry) (M : Memory) : Type 0 where
  pub tables : table_size g ≤ length M.tables
  pub log : 8 * g.words ≤ length M.log
  pub out : 2 * blocks g + 64 ≤ length M.out

abbrev pub TooShort : Geometry → Memory → Type 0
TooShort g M = (length M.tables < table_size g) ⊎ ((length M.log < 8 * g.words) ⊎ (length M.out < 2 * blocks g + 64))

-- ── a making ──

-- what it leaves: the six numbers, a bit in the free words for each block and none for other numbers, else 0; nothing behind the tables is changed
pub record MadeLeft (g : Geometry) (M : Memory) : Type 0 where
  pub six : MadeFor g (make_after g M).tables
  pub bits : (b : ℕ) → b < blocks g → get_or (make_after g M).tables (64 + b / 32) 0 / 2 ^ (b % 32) % 2 ≡ 1
  pub others : (b : ℕ) → blocks g ≤ b → b < 2048 → get_or (make_after g M).tables (64 + b / 32) 0 / 2 ^ (b % 32) % 2 ≡ 0
  pub zeros : (i : ℕ) → i < table_size g → 6 ≤ i → (i < 64) ⊎ (128 ≤ i) → get_or (make_after g M).tables i 0 ≡ 0
  pub rest : Within 0 (table_size g) M.tables (make_after g M).tables

pub record MakingMeans (g : Geometry) (M : Memory) : Type 0 where
  pub two : (make_reply g M ≡ refused 2) ↔ (Inside g → ⊥)
  pub three : (make_reply g M ≡ refused 3) ↔ (Inside g × TooShort g M)
  pub done : (make_reply g M ≡ accepted []) ↔ (Inside g × Enough g M)
  pub refusal : (n : ℕ) → make_reply g M ≡ refused n → make_after g M ≡ M
  pub leaves : make_reply g M ≡ accepted [] → MadeLeft g M
  pub log : (make_after g M).log ≡ M.log
  pub out : (make_after g M).out ≡ M.out

-- ── a call ──

-- the state that the tables hold
abbrev pub held : Geometry → Memory → State
held g M = state_of g M.tables

pub record CallMeans (g : Geometry) (M : Memory) (c : Command) : Type 0 where
  pub two : (reply g M c ≡ refused 2) ↔ (Inside g → ⊥)
  pub three : (reply g M c ≡ refused 3) ↔ (Inside g × TooShort g M)
  pub four : (reply g M c ≡ refused 4) ↔ (Inside g × (Enough g M × (SoundStore g M.tables M.log → ⊥)))
  -- 5 to 19: the first of the call's sentences that is true (RefusalMeans has them in the rules' words) has this number
  pub later : (n : ℕ) → 4 < n →
      (reply g M c ≡ refused n) ↔ (Inside g × (Enough g M × (SoundStore g M.tables M.log × First n (sentences g (held g M) c))))
  -- none of them is true
  pub done : (l : List ℕ) →
      (reply g M c ≡ accepted l) ↔
      (Inside g × (Enough g M × (SoundStore g M.tables M.log × (NoneTrue (sentences g (held g M) c) × (result g (held g M) c ≡ l)))))
  pub refusal : (n : ℕ) → reply g M c ≡ refused n → after g M c ≡ M

abbrev pub MemoryMeans : Type 0
MemoryMeans = (g : Geometry) (M : Memory) → MakingMeans g M × ((c : Command) → CallMeans g M c)
