-- THE PARTS ARE THE TRANSCRIPT: whatever the buffer's length, however the text arrives.
use Rattle.std.specs.Prelude.{◌≡◌, ◌⊎◌, false, cond, List, [], ◌∷◌, ◌++◌, ℕ, zero, suc, pred, ◌≤◌, ◌<◌, ltb, length, get_or, take}
use Rattle.answer.specs.Reply.{Reply, accepted, refused}
use Rattle.geometry.specs.Limits.{most_tables, most_log, most_out}
use Rattle.model.specs.Memory.{Memory}
use Rattle.script.specs.Lines.{lines_of}
use Rattle.session.specs.declared.Session.{Session}
use Rattle.ledger.specs.Transcript.{most_read, without_store, printed, transcript}
use Rattle.serving.specs.Part.{Part, begun, longest, served}
use Rattle.serving.specs.Host.{Lent, host_reply, host_left, lent_short}

-- ── the runner ──

-- the next part's replies behind those of the parts before it
abbrev pub and_then : Part → Part → Part
and_then p q = record { at = q.at; replies = p.replies ++ q.replies; session = q.session; memory = q.memory }

-- parts, each into a buffer of `room` bytes, until the text is read; at most n of them
unfoldable pub parts_most : ℕ → List ℕ → ℕ → Part → Part
parts_most zero text room p = p
parts_most (suc n) text room p =
    cond (ltb p.at (length text)) (parts_most n text room (and_then p (served text room (begun p.at p.session p.memory)))) p

-- a text that arrives bit by bit: how much of it was there each time that it was looked at
unfoldable pub looked : List ℕ → ℕ → List ℕ → Part → Part
looked text room [] p = p
looked text room (e ∷ es) p = looked text room es (parts_most e (take e text) room p)

-- each time the text ended behind a line feed, or was all there; the last time it was all there
abbrev pub Ends : List ℕ → ℕ → List ℕ → Type 0
Ends text from [] = from ≡ length text
Ends text from (e ∷ es) = (from ≤ e) × ((e ≤ length text) × (((e ≡ 0) ⊎ ((get_or text (pred e) 0 ≡ 10) ⊎ (e ≡ length text))) × Ends text e es))

-- memory enough for every geometry
pub record Ample (M : Memory) : Type 0 where
  pub tables : most_tables ≤ length M.tables
  pub log : most_log ≤ length M.log
  pub out : most_out ≤ length M.out

abbrev pub Transcribed : Type 0
Transcribed = (text : List ℕ) (room : ℕ) (ends : List ℕ) (s : Session) (M : Memory) → longest ≤ room → Ends text 0 ends → s.made ≡ 0 → Ample M →
    (looked text room ends (begun 0 s M)).replies ≡ printed without_store (lines_of text)

-- THE RUNNER PRINTS THE TRANSCRIPT: it reads at most 65,536 bytes
abbrev pub RunnerPrints : Type 0
RunnerPrints = (input : List ℕ) (room : ℕ) (ends : List ℕ) (s : Session) (M : Memory) → longest ≤ room → Ends (take most_read input) 0 ends →
    s.made ≡ 0 → Ample M →
    (looked (take most_read input) room ends (begun 0 s M)).replies ≡ transcript input

-- a part gets on by at least one line
abbrev pub GetsOn : Type 0
GetsOn = (text : List ℕ) (room at : ℕ) (s : Session) (M : Memory) → longest ≤ room → at < length text → at < (served text room (begun at s M)).at

-- ── a host ──

-- what follows the numbers of an accepted reply; nothing follows a refusal
abbrev pub on_reply : Reply → (List ℕ → List ℕ) → List ℕ
on_reply (accepted l) f = f l
on_reply (refused k) f = []

-- parts of a text for a host that lends what the last part left; the replies are what each put at the buffer's start. At most n parts
unfoldable pub hosted : ℕ → List ℕ → ℕ → Lent → List ℕ
hosted zero text at H = []
hosted (suc n) text at H =
    cond (ltb at (length text))
    (on_reply (host_reply text at H) (λ l. take (get_or l 1 0) (host_left text at H).replies ++ hosted n text (get_or l 0 0) (host_left text at H))) []

-- A HOST GETS THE TRANSCRIPT of any text, from a run of zeros: no part is refused
abbrev pub HostGets : Type 0
HostGets = (text : List ℕ) (H : Lent) → lent_short H ≡ false → get_or H.run 0 0 ≡ 0 →
    hosted (length text) text 0 H ≡ printed without_store (lines_of text)
