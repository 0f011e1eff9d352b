-- THE RUNNER, line by line. "Each parsed line is taken apart as a call, or the runner prints 1. Before a store exists every other call gives 4." (10.5)
-- "a later such line, if accepted, starts afresh." (10.3)
use Rattle.std.specs.Prelude.{◌≡◌, cond, List, ℕ, ◌≤◌, ◌<◌, eqb, length, Result, Ok, Err}
use Rattle.answer.specs.declared.Refusal.{Refusal}
use Rattle.answer.specs.Reply.{Reply, accepted, refused, reply_of}
use Rattle.geometry.specs.declared.Geometry.{Geometry}
use Rattle.geometry.specs.Limits.{Inside, geometry_of, least, most_tables, most_log, most_out}
use Rattle.model.specs.Memory.{Memory, reply, after, make_reply, make_after}
use Rattle.model.specs.SoundStore.{SoundStore}
use Rattle.model.specs.Actions.{slot_of}
use Rattle.model.specs.Layout.{view_of}
use Rattle.script.specs.Spoken.{Spoken, makes, asks, nothing}
use Rattle.script.specs.declared.parse.Parsed.{Parsed}
use Rattle.script.specs.declared.parse.Parsed.TheVariants.{Store, Asks, Named}
use Rattle.script.specs.declared.parse.Six.{Six}
use Rattle.tables.specs.Hints.{noted}
use Rattle.tables.specs.Ready.{record_of}
use Rattle.session.specs.declared.Session.{Session}
use Rattle.session.specs.declared.Stepped.{Stepped}

-- before the first line: no store, and a geometry that nothing reads
abbrev pub no_store : Session
no_store = record { made = 0; g = least }

-- the geometry of a store line
abbrev pub geometry_in : Six → Geometry
geometry_in x = geometry_of x.arenas x.per x.pages x.records x.turn x.words

-- the reply to a line
unfoldable pub step_reply : Session → Memory → Spoken → Reply
step_reply s M (makes x) = make_reply (geometry_in x) M
step_reply s M (asks c) = cond (eqb s.made 0) (refused 4) (reply s.g M c)
step_reply s M nothing = refused 1

-- what it leaves in the lent memory
unfoldable pub step_memory : Session → Memory → Spoken → Memory
step_memory s M (makes x) = make_after (geometry_in x) M
step_memory s M (asks c) = cond (eqb s.made 0) M (after s.g M c)
step_memory s M nothing = M

abbrev pub started_by : Reply → Session → Geometry → Session
started_by (accepted l) s g = record { made = 1; g = g }
started_by (refused n) s g = s

-- whether there is a store then, and its geometry
unfoldable pub step_session : Session → Memory → Spoken → Session
step_session s M (makes x) = started_by (make_reply (geometry_in x) M) s (geometry_in x)
step_session s M (asks c) = s
step_session s M nothing = s

-- and what it leaves in the hints: a call notes the link by which its record is found, 0 for none
unfoldable pub step_hints : Session → List ℕ → Spoken → List ℕ → List ℕ
step_hints s t (makes x) hints = hints
step_hints s t (asks c) hints = cond (eqb s.made 0) hints (noted hints (record_of c) (slot_of (view_of s.g t) (record_of c)))
step_hints s t nothing hints = hints

-- what the runner keeps: memory enough for every geometry inside its limits, and, once there is a store, soundness
pub record Kept (s : Session) (t bytes numbers : List ℕ) : Type 0 where
  pub tables : most_tables ≤ length t
  pub log : most_log ≤ length bytes
  pub out : most_out ≤ length numbers
  pub inside : 0 < s.made → Inside s.g
  pub sound : 0 < s.made → SoundStore s.g t bytes

-- a line that is no call of a letter and numbers
abbrev pub Uncalled : Parsed → Type 0
Uncalled (Store x) = Unit {0}
Uncalled (Asks c) = ⊥
Uncalled (Named c e) = Unit {0}
Uncalled Parsed.No = Unit {0}

-- an answer that gives at most 4,097 numbers
abbrev pub Few : Result ℕ Refusal → Type 0
Few (Ok n) = n ≤ 4097
Few (Err r) = Unit {0}

-- all that is promised of a line that asks for a: what it answers and leaves of the memory M
pub record Stepping (s : Session) (M : Memory) (a : Spoken) (r : Stepped) (left : Memory) : Type 0 where
  pub reply : reply_of r.answer left.out ≡ step_reply s M a
  pub session : r.session ≡ step_session s M a
  pub tables : left.tables ≡ (step_memory s M a).tables
  pub log : left.log ≡ (step_memory s M a).log
  pub out : left.out ≡ (step_memory s M a).out
  pub kept : Kept r.session left.tables left.log left.out
  pub few : Few r.answer
