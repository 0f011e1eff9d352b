-- The entry points for disk tools: any six numbers, any bytes, a buffer of any length.
-- "3: … or a result buffer under 2 × N + 64 numbers. A log given to be read or compared may be of any length." (7.1, 7.3) "7: bytes that are no log." (7.1)
use Rattle.std.specs.Prelude.{◌≡◌, ℕ, zero, suc, ◌+◌, ◌*◌, Bool, true, not, ◌&&◌, List, [], ◌∷◌, length, ◌==◌, nat_lt, slice_index, Result, Ok, Err}
use Rattle.std.proofs.lemmas.List.Edits.{sets}
use Rattle.answer.specs.Reply.{Reply, accepted, refused}
use Rattle.answer.specs.Refusal.{Condition, decide, leaves}
use Rattle.geometry.specs.declared.Geometry.{Geometry}
use Rattle.geometry.specs.Limits.{blocks, fits}
use Rattle.alloc_log.specs.Marks.{held_in, held_blocks}
use Rattle.alloc_log.specs.Read.{read_log}
use Rattle.alloc_log.specs.Settled.{settled}
use Rattle.alloc_log.specs.Word.{write_at, bytes_of}
use Rattle.alloc_log.specs.Compress.{compressed}
use Rattle.answer.specs.declared.Refusal.{Refusal}
use Rattle.answer.specs.Number.{number_of}

-- the bytes are a log of a store of geometry g
unfoldable pub readable : Geometry → List ℕ → Bool
readable g log = (read_log g.arenas g.per log).0

-- the marks at the end of a log
unfoldable pub marks_of : Geometry → List ℕ → List ℕ
marks_of g log = (read_log g.arenas g.per log).1

-- the blocks held at the end of a log, rising
unfoldable pub held_at_end : Geometry → List ℕ → List ℕ
held_at_end g log = held_blocks (marks_of g log) (blocks g)

-- reading every word of a log: its conditions, and its reply
abbrev pub every_conditions : Geometry → List ℕ → List ℕ → List Condition
every_conditions g log out = (2, not (fits g)) ∷ (3, nat_lt (length out) (2 * blocks g + 64)) ∷ (7, not (readable g log)) ∷ []

unfoldable pub every_reply : Geometry → List ℕ → List ℕ → Reply
every_reply g log out = decide (every_conditions g log out) (held_at_end g log)

-- reading a log: what is settled of it counts (6.9). Its reply, and what it leaves in the result buffer
unfoldable pub read_reply : Geometry → List ℕ → List ℕ → Reply
read_reply g log out = every_reply g (settled log) out

-- "An accepted call changes of the result buffer only the numbers it gives." (7.1)
unfoldable pub read_out : Geometry → List ℕ → List ℕ → List ℕ
read_out g log out = leaves (read_reply g log out) out (sets out 0 (held_at_end g (settled log)))

-- ── likeness: every word counts ──

-- the n marks from i on agree
abbrev pub agree_from : List ℕ → List ℕ → ℕ → ℕ → Bool
agree_from m k i zero = true
agree_from m k i (suc n) = slice_index m i == slice_index k i && agree_from m k (suc i) n

-- "Two readable logs are alike when they end with the same held blocks" (6.7)
abbrev pub Alike! : Geometry → List ℕ → List ℕ → Type 0
Alike! g a b = (readable g a ≡ true) × (readable g b ≡ true) × (held_at_end g a ≡ held_at_end g b)

-- the same as a test of two readable logs
unfoldable pub alike? : Geometry → List ℕ → List ℕ → Bool
alike? g a b = agree_from (marks_of g a) (marks_of g b) 0 (blocks g)

-- what a comparison says: alike or not, or the number of its refusal; "if one is unreadable the refusal is 7" (6.7, 7.3)
pub data Compared : Type 0 where
  judged : Bool → Compared
  turned_away : ℕ → Compared

unfoldable pub verdict_of : Result Bool Refusal → Compared
verdict_of (Ok t) = judged t
verdict_of (Err r) = turned_away (number_of r)

abbrev pub compare_conditions : Geometry → List ℕ → List ℕ → List Condition
compare_conditions g a b = (2, not (fits g)) ∷ (7, not (readable g a && readable g b)) ∷ []

abbrev pub verdict_by : Reply → Bool → Compared
verdict_by (accepted l) t = judged t
verdict_by (refused n) t = turned_away n

unfoldable pub compare_verdict : Geometry → List ℕ → List ℕ → Compared
compare_verdict g a b = verdict_by (decide (compare_conditions g a b) []) (alike? g a b)

-- ── compressing: every word counts ──

-- the reply that a compaction stands for: the number of words, or the refusal
unfoldable pub compact_reply_of : Result ℕ Refusal → Reply
compact_reply_of (Ok n) = accepted (n ∷ [])
compact_reply_of (Err r) = refused (number_of r)

-- the words of a log written anew, compressed
unfoldable pub compact_words : Geometry → List ℕ → List ℕ
compact_words g log = compressed g.arenas g.per (held_in (marks_of g log))

-- "the store's own log space shorter than the geometry needs" (3): the buffer is to hold any log of the geometry
abbrev pub compact_conditions : Geometry → List ℕ → List ℕ → List Condition
compact_conditions g log out = (2, not (fits g)) ∷ (3, nat_lt (length out) (8 * g.words)) ∷ (7, not (readable g log)) ∷ []

unfoldable pub compact_reply : Geometry → List ℕ → List ℕ → Reply
compact_reply g log out = decide (compact_conditions g log out) (length (compact_words g log) ∷ [])

-- what it leaves in the buffer: the words at its start, the rest as it was
unfoldable pub compact_out : Geometry → List ℕ → List ℕ → List ℕ
compact_out g log out = leaves (compact_reply g log out) out (write_at out 0 (bytes_of (compact_words g log)))
