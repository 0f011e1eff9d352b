-- A TURN OF THE RUNNER: whether the script is whole, which bytes of the text so far are answered, and what the answer leaves.
use Rattle.std.specs.Prelude.{◌≡◌, Bool, false, cond, ◌||◌, List, ℕ, zero, suc, ◌-◌, ◌≤◌, eqb, leb, ltb, length, get_or, take}
use Rattle.alloc_log.specs.Word.{write_at}
use Rattle.model.specs.Memory.{Memory}
use Rattle.ledger.specs.Transcript.{most_read}
use Rattle.session.specs.Step.{Kept}
use Rattle.serving.specs.Part.{Part, begun, served}
use Rattle.serving.specs.Transcribed.{and_then, parts_most}
use Rattle.runner.specs.declared.Answered.{Answered}

-- ── which bytes ──

-- a script is whole after a read that brought `more` bytes, with `all` read so far: none at the end of the input, or the most that is read
unfoldable pub whole_after : ℕ → ℕ → Bool
whole_after more all = eqb more 0 || eqb all most_read

-- of the first n bytes: the position after the last line feed that stands at `from` or later; 0 where none does
unfoldable pub feed_end : List ℕ → ℕ → ℕ → ℕ
feed_end text from zero = 0
feed_end text from (suc i) = cond (leb from i) (cond (eqb (get_or text i 0) 10) (suc i) (feed_end text from i)) 0

-- up to where a text is answered of which the bytes from `from` on are new: after its last line feed, or all of it once the script is whole
unfoldable pub part_end : List ℕ → ℕ → Bool → ℕ
part_end text from whole = cond whole (length text) (feed_end text from (length text))

-- ── the parts of an answer ──

-- the part that is served next, after those of p
abbrev pub next_part : List ℕ → ℕ → Part → Part
next_part text room p = served text room (begun p.at p.session p.memory)

-- what stands in the buffer after at most n parts: each part's replies are written at its start
unfoldable pub buffer_most : ℕ → List ℕ → ℕ → Part → List ℕ → List ℕ
buffer_most zero text room p buffer = buffer
buffer_most (suc n) text room p buffer =
    cond (ltb p.at (length text))
    (buffer_most n text room (and_then p (next_part text room p)) (write_at buffer 0 (next_part text room p).replies)) buffer

-- the last replies could not be written
abbrev pub failed : Answered → Bool
failed r = r.failed

-- the parts served: those that were written, and the one whose replies could not be
abbrev pub parts_served : Answered → ℕ → ℕ
parts_served r written = cond (failed r) (suc written) written

-- ALL THAT IS PROMISED of a text answered from p on, by parts into a lent buffer: the position is that after the parts that were written, and what the run
-- has is what the parts served leave. Where no write failed, the parts are all those of the text. Where one failed, their number is left free: the last
-- part served is the one that could not be written.
pub record Answers (text buffer : List ℕ) (p : Part) (r : Answered) (left : Memory) (after : List ℕ) : Type 0 where
  pub written : ℕ
  pub few : written ≤ length text
  pub all : failed r ≡ false → written ≡ length text
  pub at : r.at ≡ (parts_most written text (length buffer) p).at
  pub session : r.session ≡ (parts_most (parts_served r written) text (length buffer) p).session
  pub memory : left ≡ (parts_most (parts_served r written) text (length buffer) p).memory
  pub replies : after ≡ buffer_most (parts_served r written) text (length buffer) p buffer
  pub kept : Kept r.session left.tables left.log left.out

-- ── a turn ──

-- the bytes that are answered in a turn, of a text of which those from `from` on are new
abbrev pub answered : List ℕ → ℕ → List ℕ
answered text from = take (part_end text from (whole_after (length text - from) (length text))) text
