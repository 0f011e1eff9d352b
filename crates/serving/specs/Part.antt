-- A PART OF A SCRIPT SERVED: whole lines from a position of the text on, while a longest reply still fits in the lent buffer (rules 10.1, 10.6).
use Rattle.std.specs.Prelude.{◌≡◌, Bool, cond, ◌&&◌, List, [], ◌++◌, ℕ, zero, suc, ◌+◌, ◌≤◌, leb, ltb, length}
use Rattle.alloc_log.specs.Word.{write_at}
use Rattle.model.specs.Memory.{Memory}
use Rattle.script.specs.ReplyText.{spelling_of, reply_text}
use Rattle.script.specs.Said.{said_at}
use Rattle.script.specs.Spoken.{spoken_at}
use Rattle.session.specs.declared.Session.{Session}
use Rattle.session.specs.Step.{step_reply, step_memory, step_session, Kept}
use Rattle.serving.specs.declared.Served.{Served}

-- how far the text was read, the replies so far, whether there is a store, and the memory that it stands in
pub record Part : Type 0 where
  pub at : ℕ
  pub replies : List ℕ
  pub session : Session
  pub memory : Memory

-- a part that begins: no reply yet
abbrev pub begun : ℕ → Session → Memory → Part
begun at s M = record { at = at; replies = []; session = s; memory = M }

-- no reply is longer: `+`, at most 4,097 numbers of at most 12 bytes, a line feed
abbrev pub longest : ℕ
longest = 49180

-- one more line is served
unfoldable pub served_line : List ℕ → Part → Part
served_line text p =
    let d = said_at text p.at in
    let a = spoken_at text p.at d.says in
    record {
      at = d.end + 1;
      replies = p.replies ++ reply_text (spelling_of d.says) (step_reply p.session p.memory a);
      session = step_session p.session p.memory a;
      memory = step_memory p.session p.memory a;
    }

-- a line is left, and a longest reply fits in the room
unfoldable pub goes_on : List ℕ → ℕ → Part → Bool
goes_on text room p = ltb p.at (length text) && leb (length p.replies + longest) room

-- at most n lines more
unfoldable pub served_most : ℕ → List ℕ → ℕ → Part → Part
served_most zero text room p = p
served_most (suc n) text room p = cond (goes_on text room p) (served_most n text room (served_line text p)) p

-- A PART: a line has at least one byte, so no text has more lines than bytes
unfoldable pub served : List ℕ → ℕ → Part → Part
served text room p = served_most (length text) text room p

-- all that is promised of a part p served into a lent buffer: the answer r, the memory left and what then stands in the buffer
pub record Serves (p : Part) (buffer : List ℕ) (r : Served) (left : Memory) (after : List ℕ) : Type 0 where
  pub at : r.at ≡ p.at
  pub used : r.used ≡ length p.replies
  pub session : r.session ≡ p.session
  pub memory : left ≡ p.memory
  pub replies : after ≡ write_at buffer 0 p.replies
  pub kept : Kept r.session left.tables left.log left.out
  pub range : r.used ≤ length buffer
