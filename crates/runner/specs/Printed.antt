-- THE RUNNER PRINTS THE TRANSCRIPT, however the input arrives: it is what the turns hand to be written, joined.
use Rattle.std.specs.Prelude.{◌≡◌, false, cond, ◌⊎◌, List, [], ◌∷◌, ℕ, pred, ◌+◌, ◌≤◌, ◌<◌, length, get_or, take, drop}
use Rattle.model.specs.Memory.{Memory}
use Rattle.script.specs.Lines.{NoFeed}
use Rattle.ledger.specs.Transcript.{most_read, transcript}
use Rattle.session.specs.declared.Session.{Session}
use Rattle.serving.specs.Part.{Part, begun, longest, Serves}
use Rattle.serving.specs.declared.Served.{Served}
use Rattle.serving.specs.Transcribed.{parts_most, Ample}
use Rattle.runner.specs.Turn.{whole_after, feed_end, answered}

-- a turn in which every write went well: of a text the first n bytes were there, now `more` more are
unfoldable pub turned : List ℕ → ℕ → ℕ → ℕ → Part → Part
turned text room n more p =
    let now = answered (take (n + more) text) n in
    parts_most (length now) now room p

-- turn after turn, by how many bytes each read brought, until the script is whole
unfoldable pub turns : List ℕ → ℕ → ℕ → List ℕ → Part → Part
turns text room n [] p = p
turns text room n (more ∷ reads) p =
    cond (whole_after more (n + more)) (turned text room n more p) (turns text room (n + more) reads (turned text room n more p))

-- what reads bring of an input of which n bytes were read: bytes of it, none only at its end, until the script is whole
abbrev pub Reads : List ℕ → ℕ → List ℕ → Type 0
Reads input n [] = ⊥
Reads input n (more ∷ reads) =
    (n + more ≤ most_read) × ((n + more ≤ length input) × ((more ≡ 0 → n ≡ length input) × (whole_after more (n + more) ≡ false → Reads input (n + more) reads)))

-- THE TURNS PRINT THE TRANSCRIPT
abbrev pub TurnsPrint : Type 0
TurnsPrint = (input : List ℕ) (room : ℕ) (reads : List ℕ) (s : Session) (M : Memory) → longest ≤ room → Reads input 0 reads → s.made ≡ 0 → Ample M →
    (turns (take most_read input) room 0 reads (begun 0 s M)).replies ≡ transcript input

-- the bytes handed to be written after a part, those at the buffer's start, are the part's replies
abbrev pub HandsReplies : Type 0
HandsReplies = (q : Part) (buffer : List ℕ) (r : Served) (left : Memory) (after : List ℕ) → Serves q buffer r left after → take r.used after ≡ q.replies

-- e is the position after a line feed that came with the last read, and no line feed follows it
pub record AfterFeed (text : List ℕ) (from e : ℕ) : Type 0 where
  pub new : from < e
  pub inside : e ≤ length text
  pub feed : get_or text (pred e) 0 ≡ 10
  pub last : NoFeed (drop e text)

-- no line feed came with the last read
pub record NoneCame (text : List ℕ) (from e : ℕ) : Type 0 where
  pub none : e ≡ 0
  pub came : NoFeed (drop from text)

-- EVERY WHOLE LINE IS ANSWERED AT ONCE
abbrev pub AnsweredAtOnce : Type 0
AnsweredAtOnce = (text : List ℕ) (from : ℕ) → AfterFeed text from (feed_end text from (length text)) ⊎ NoneCame text from (feed_end text from (length text))
