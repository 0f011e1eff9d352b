-- A PART SERVED FOR A HOST that lends everything: the seven numbers of the run, and memory enough for every geometry. Nothing is trusted.
use Rattle.std.specs.Prelude.{◌≡◌, Bool, not, ◌&&◌, ◌||◌, List, [], ◌∷◌, ℕ, ◌<◌, eqb, ltb, length, get_or}
use Rattle.std.proofs.lemmas.List.Edits.{sets}
use Rattle.std.specs.Prelude.{Result, Ok, Err}
use Rattle.answer.specs.Number.{number_of}
use Rattle.answer.specs.declared.Refusal.{Refusal}
use Rattle.answer.specs.Reply.{Reply, accepted, refused}
use Rattle.answer.specs.Refusal.{Condition, decide, leaves}
use Rattle.geometry.specs.Limits.{geometry_of, fits, most_tables, most_log, most_out}
use Rattle.alloc_log.specs.Word.{write_at}
use Rattle.model.specs.Memory.{Memory, lent, sound?}
use Rattle.session.specs.declared.Session.{Session}
use Rattle.serving.specs.declared.host.Extent.{Extent}
use Rattle.serving.specs.Part.{Part, begun, longest, served}

-- all that a host lends: the seven numbers of a run (0 before the first store, else above 0; then the store's six numbers), the store's memory,
-- and a buffer for replies
pub record Lent : Type 0 where
  pub run : List ℕ
  pub memory : Memory
  pub replies : List ℕ

abbrev pub lent_by : List ℕ → List ℕ → List ℕ → List ℕ → List ℕ → Lent
lent_by run tables log out replies = record { run = run; memory = lent tables log out; replies = replies }

abbrev pub session_of : List ℕ → Session
session_of run = record {
  made = get_or run 0 0;
  g = geometry_of (get_or run 1 0) (get_or run 2 0) (get_or run 3 0) (get_or run 4 0) (get_or run 5 0) (get_or run 6 0);
}

abbrev pub run_of : Session → List ℕ
run_of s = s.made ∷ s.g.arenas ∷ s.g.per ∷ s.g.pages ∷ s.g.records ∷ s.g.turn ∷ s.g.words ∷ []

-- memory enough for every geometry, so that no line of the script is answered 3 (10.5), and room for a longest reply
unfoldable pub lent_short : Lent → Bool
lent_short H =
    ltb (length H.run) 7 ||
    (ltb (length H.memory.tables) most_tables ||
    (ltb (length H.memory.log) most_log || (ltb (length H.memory.out) most_out || ltb (length H.replies) longest)))

-- once a store was made: its numbers lie inside the limits, and its tables are sound
unfoldable pub host_conditions : Lent → List Condition
host_conditions H =
    let s = session_of H.run in
    let made = not (eqb s.made 0) in
    (2, made && not (fits s.g)) ∷ (3, lent_short H) ∷ (4, made && not (sound? s.g H.memory.tables H.memory.log)) ∷ []

-- the part that it serves of a text from a position on
unfoldable pub host_part : List ℕ → ℕ → Lent → Part
host_part text at H = served text (length H.replies) (begun at (session_of H.run) H.memory)

-- the reply: the new position and the number of bytes of replies, or a refusal
unfoldable pub host_reply : List ℕ → ℕ → Lent → Reply
host_reply text at H =
    let p = host_part text at H in
    decide (host_conditions H) (p.at ∷ length p.replies ∷ [])

-- what it leaves
unfoldable pub host_left : List ℕ → ℕ → Lent → Lent
host_left text at H =
    let p = host_part text at H in
    leaves (host_reply text at H) H (record {
      run = sets H.run 0 (run_of p.session);
      memory = p.memory;
      replies = write_at H.replies 0 p.replies;
    })

-- the reply that each case of the answer stands for
unfoldable pub hosted_reply : Result Extent Refusal → Reply
hosted_reply (Ok p) = accepted (p.at ∷ p.used ∷ [])
hosted_reply (Err r) = refused (number_of r)

-- ALL THAT IS PROMISED of a part served for a host that lent H, any numbers and any memory: the answer r, and what is left
pub record Hosts (text : List ℕ) (at : ℕ) (H : Lent) (r : Result Extent Refusal) (left : Lent) : Type 0 where
  pub reply : hosted_reply r ≡ host_reply text at H
  pub leaves : left ≡ host_left text at H

-- the numbers of a session each fit a number of the run
pub record Narrow (s : Session) : Type 0 where
  pub made : s.made < 4294967296
  pub arenas : s.g.arenas < 4294967296
  pub per : s.g.per < 4294967296
  pub pages : s.g.pages < 4294967296
  pub records : s.g.records < 4294967296
  pub turn : s.g.turn < 4294967296
  pub words : s.g.words < 4294967296
