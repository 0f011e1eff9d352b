-- WHAT THE FUNCTIONS ON LOGS ANSWER AND TOUCH (rules 6.4 to 6.8, 7.1, 7.3), told of what is lent before and after.
use Rattle.std.specs.Prelude.{◌≡◌, ◌⊎◌, ◌↔◌, Bool, true, List, [], ◌∷◌, ◌++◌, ℕ, pred, ◌+◌, ◌*◌, ◌≤◌, ◌<◌, length, take, drop, get_or}
use Rattle.answer.specs.Reply.{accepted, refused}
use Rattle.geometry.specs.declared.Geometry.{Geometry}
use Rattle.geometry.specs.Limits.{Inside, blocks}
use Rattle.alloc_log.specs.Word.{bytes_of}
use Rattle.alloc_log.specs.Marks.{held_in, passing}
use Rattle.alloc_log.specs.Read.{free}
use Rattle.alloc_log.specs.Entries.{Entry, all_words, AllAllowed, behind_all}
use Rattle.ledger.specs.Ledger.{compressed_of}
use Rattle.alloc_log.specs.Tool.{judged, turned_away, read_reply, read_out, compare_verdict, compact_reply, compact_out}

-- ── what is changed of a piece of memory ──

-- its first numbers are l, and nothing behind them changed
pub record Given (l old new : List ℕ) : Type 0 where
  pub fits : length l ≤ length old
  pub is : new ≡ l ++ drop (length l) old

-- nothing changed but from `from` up to `to`
pub record Within (from to : ℕ) (old new : List ℕ) : Type 0 where
  pub fits : to ≤ length old
  pub size : length new ≡ length old
  pub front : take from new ≡ take from old
  pub back : drop to new ≡ drop to old

-- ── what a log is ──

-- a log is lent as bytes
abbrev pub Bytes : List ℕ → Type 0
Bytes l = (i : ℕ) → get_or l i 0 < 256

-- the bytes record entries, each allowed where it stands, and nothing else (6.5)
pub record IsLog (g : Geometry) (log : List ℕ) : Type 0 where
  pub entries : List Entry
  pub bytes : log ≡ bytes_of (all_words entries)
  pub allowed : AllAllowed g.arenas g.per free entries

-- the blocks held at its end, rising (6.4)
abbrev pub holds : (g : Geometry) (log : List ℕ) → IsLog g log → List ℕ
holds g log e = passing (held_in (behind_all free e.entries)) 0 (blocks g)

-- ── what of it counts when it is read, told of bytes (6.9) ──

-- the whole word n is "equal to 3" (6.9), and so a barrier: seven bytes 0 and the byte 3. A word that ends with the byte 3, as 0x8003 does, is none
abbrev pub BarrierAt : List ℕ → ℕ → Type 0
BarrierAt log n = take 8 (drop (8 * n) log) ≡ 0 ∷ 0 ∷ 0 ∷ 0 ∷ 0 ∷ 0 ∷ 0 ∷ 3 ∷ []

-- `part` is what counts: "what is recorded up to the last whole word equal to 3" (6.9), nothing where there is no such word
pub record SettledBytes (log part : List ℕ) : Type 0 where
  pub count : ℕ
  pub is : part ≡ take (8 * count) log
  pub ends : (count ≡ 0) ⊎ BarrierAt log (pred count)
  pub last : (n : ℕ) → count ≤ n → BarrierAt log n → ⊥

-- ── reading: 2, 3, 7, each exactly when ──

-- `part` is what is settled of the log
pub record ReadMeans (g : Geometry) (log part out : List ℕ) : Type 0 where
  pub two : (read_reply g log out ≡ refused 2) ↔ (Inside g → ⊥)
  pub three : (read_reply g log out ≡ refused 3) ↔ (Inside g × (length out < 2 * blocks g + 64))
  pub seven : (read_reply g log out ≡ refused 7) ↔ (Inside g × (2 * blocks g + 64 ≤ length out) × (IsLog g part → ⊥))
  pub done : (l : List ℕ) →
      (read_reply g log out ≡ accepted l) ↔ (Inside g × (2 * blocks g + 64 ≤ length out) × ((e : IsLog g part) × (l ≡ holds g part e)))
  -- a refusal leaves the buffer as it was; else nothing but the numbers given is changed
  pub refusal : (n : ℕ) → read_reply g log out ≡ refused n → read_out g log out ≡ out
  pub gives : (l : List ℕ) → read_reply g log out ≡ accepted l → Given l out (read_out g log out)

-- ── comparing: 2, 7; every word counts ──

pub record CompareMeans (g : Geometry) (a b : List ℕ) : Type 0 where
  pub two : (compare_verdict g a b ≡ turned_away 2) ↔ (Inside g → ⊥)
  pub seven : (compare_verdict g a b ≡ turned_away 7) ↔ (Inside g × ((IsLog g a × IsLog g b) → ⊥))
  -- alike: they end with the same held blocks (6.7)
  pub done : (t : Bool) →
      (compare_verdict g a b ≡ judged t) ↔ (Inside g × ((e : IsLog g a) × ((f : IsLog g b) × ((t ≡ true) ↔ (holds g a e ≡ holds g b f)))))

-- ── compressing: 2, 3, 7; every word counts ──

-- n words are written at the start of a buffer
pub record Compacted (g : Geometry) (log : List ℕ) (n : ℕ) (old new : List ℕ) : Type 0 where
  pub within : Within 0 (8 * n) old new
  -- "one entry for each longest run of held blocks inside an arena … then a barrier" (6.8)
  pub words : (e : IsLog g log) → take (8 * n) new ≡ bytes_of (compressed_of g (held_in (behind_all free e.entries)))
  -- they are a log again, of the same blocks
  pub again : IsLog g (take (8 * n) new)
  pub same : (e : IsLog g log) → holds g (take (8 * n) new) again ≡ holds g log e

pub record CompactMeans (g : Geometry) (log out : List ℕ) : Type 0 where
  pub two : (compact_reply g log out ≡ refused 2) ↔ (Inside g → ⊥)
  pub three : (compact_reply g log out ≡ refused 3) ↔ (Inside g × (length out < 8 * g.words))
  pub seven : (compact_reply g log out ≡ refused 7) ↔ (Inside g × (8 * g.words ≤ length out) × (IsLog g log → ⊥))
  pub done : ((l : List ℕ) × (compact_reply g log out ≡ accepted l)) ↔ (Inside g × (8 * g.words ≤ length out) × IsLog g log)
  pub refusal : (n : ℕ) → compact_reply g log out ≡ refused n → compact_out g log out ≡ out
  -- the number of the words at the buffer's start: those of the compressed log of the blocks that are held (6.8); nothing after them is changed
  pub gives : (l : List ℕ) → compact_reply g log out ≡ accepted l → (n : ℕ) × ((l ≡ n ∷ []) × Compacted g log n out (compact_out g log out))

-- the three functions, whatever is lent
pub record ToolMeans (g : Geometry) (log : List ℕ) : Type 0 where
  -- one part of the log counts when it is read
  pub settles : (part : List ℕ) × SettledBytes log part
  pub reads : (part out : List ℕ) → SettledBytes log part → ReadMeans g log part out
  pub compares : (other : List ℕ) → Bytes other → CompareMeans g log other
  pub compacts : (out : List ℕ) → CompactMeans g log out

abbrev pub ToolsMean : Type 0
ToolsMean = (g : Geometry) (log : List ℕ) → Bytes log → ToolMeans g log
