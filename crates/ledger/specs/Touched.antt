-- WHAT A CALL MAY TOUCH (rules 6.3, 7.1), told of the memory before it and the memory that it left.
use Rattle.std.specs.Prelude.{◌≡◌, ◌↔◌, ◌⊎◌, List, ℕ, suc, ◌+◌, ◌*◌, ◌/◌, ◌%◌, ◌^◌, ◌≤◌, ◌<◌, get_or}
use Rattle.answer.specs.Reply.{Reply, accepted, refused}
use Rattle.geometry.specs.declared.Geometry.{Geometry}
use Rattle.geometry.specs.Limits.{blocks}
use Rattle.ledger.specs.LogMeans.{Given, Within}
use Rattle.model.specs.Lists.{In}
use Rattle.model.specs.Calls.{Account, looking, opening, freeing, closing, removing, reclaiming, placing, marking, renewing, account}
use Rattle.model.specs.State.{Notes}
use Rattle.model.specs.Layout.{state_of}
use Rattle.model.specs.Memory.{Memory, words_used, reply, after}
use Rattle.ledger.specs.MemoryMeans.{table_size}
use Rattle.model.specs.Command.{Command}

-- the log: nothing but the words behind those that were used, up to those that are used now
abbrev pub Appended : Memory → Memory → Type 0
Appended M left = Within (8 * words_used M) (8 * words_used left) M.log left.log

-- the bit of block b in the free words
abbrev pub bit_of : Memory → ℕ → ℕ
bit_of M b = get_or M.tables (64 + b / 32) 0 / 2 ^ (b % 32) % 2

-- what waited may be given: no block waits, each that waited has a bit as those that had one, and of the tables nothing else is changed but the count
-- of the log words
pub record Released (g : Geometry) (M left : Memory) : Type 0 where
  pub none : get_or left.tables 11 0 ≡ 0
  pub bits : (b : ℕ) → b < blocks g → (bit_of left b ≡ 1) ↔ ((bit_of M b ≡ 1) ⊎ In b (state_of g M.tables).waiting)
  -- and no number that is no block has one
  pub others : (b : ℕ) → blocks g ≤ b → b < 2048 → bit_of left b ≡ 0
  pub rest : (i : ℕ) → (i ≡ 9 → ⊥) → (i ≡ 11 → ⊥) → (i < 64) ⊎ (128 ≤ i) → get_or left.tables i 0 ≡ get_or M.tables i 0

-- the notes were N and are P: where nothing is noted the tables stay, where the names stay nothing changes but windows, where the windows stay nothing
-- changes but counts and rows of names
pub record Noted (N P : Notes) (M left : Memory) : Type 0 where
  pub none : P ≡ N → left.tables ≡ M.tables
  pub window : P.names ≡ N.names → P.titles ≡ N.titles → Within 576 640 M.tables left.tables
  pub names : P.window ≡ N.window → Within 640 2048 M.tables left.tables

-- what each call may touch beyond that
abbrev pub TouchedAs : Geometry → Account → Memory → Memory → Type 0
-- these look only; of the tables, a call that notes something changes the column of the windows, or the counts and rows of the names
TouchedAs g (looking s cs res note) M left = (left.log ≡ M.log) × Noted (state_of g M.tables).notes (note (state_of g M.tables)) M left
-- these write no log word
TouchedAs g (opening cs a) M left = left.log ≡ M.log
TouchedAs g (closing r) M left = left.log ≡ M.log
TouchedAs g (removing r) M left = left.log ≡ M.log
TouchedAs g (freeing cs a) M left = Appended M left
TouchedAs g (reclaiming k) M left = Appended M left
TouchedAs g (placing r x k) M left = Appended M left
-- of the tables, the count of the log words, and what waited is released
TouchedAs g marking M left = Appended M left × ((words_used left ≡ suc (words_used M)) × Released g M left)
-- the log anew from its start: the bytes beyond its words stay
TouchedAs g renewing M left = Within 0 (8 * words_used left) M.log left.log × Released g M left

abbrev pub TouchedBy : Geometry → Command → Memory → Memory → Type 0
TouchedBy g c M left = TouchedAs g (account c) M left

pub record Accepted (g : Geometry) (M : Memory) (c : Command) (l : List ℕ) (left : Memory) : Type 0 where
  -- of the result buffer only the numbers given
  pub out : Given l M.out left.out
  -- of the tables only what the geometry needs
  pub tables : Within 0 (table_size g) M.tables left.tables
  pub call : TouchedBy g c M left

abbrev pub Touched : Geometry → Memory → Command → Reply → Memory → Type 0
Touched g M c (accepted l) left = Accepted g M c l left
-- "nothing lent is altered" (7.1)
Touched g M c (refused n) left = (left.tables ≡ M.tables) × ((left.log ≡ M.log) × (left.out ≡ M.out))

-- on any memory: `reply` and `after` are what the store's entry point promises (store::call)
abbrev pub CallTouches : Type 0
CallTouches = (g : Geometry) (M : Memory) (c : Command) → Touched g M c (reply g M c) (after g M c)
