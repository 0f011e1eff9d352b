-- WHAT HOLDS OF ANY TRANSCRIPT: one reply a line, in order; 1, 2 and 4 exactly where the rules have them (7.1, 10.5), 3 never; an accepted store line starts afresh.
use Rattle.std.specs.Prelude.{◌≡◌, ◌⊎◌, ◌↔◌, List, [], ◌∷◌, ◌++◌, ℕ, ◌<◌, length}
use Rattle.std.proofs.Math.Option.{some}
use Rattle.answer.specs.Reply.{accepted, refused}
use Rattle.geometry.specs.Limits.{Inside}
use Rattle.model.specs.Command.{Command}
use Rattle.script.specs.declared.parse.Six.{Six}
use Rattle.script.specs.Spoken.{Spoken, makes, asks, nothing, spoken}
use Rattle.model.specs.Results.{numbers_of}
use Rattle.model.specs.Calls.{spelling}
use Rattle.model.specs.declared.Spelling.{Spelling}
use Rattle.model.specs.declared.Spelling.TheVariants.{Numbers}
use Rattle.script.specs.ReplyText.{reply_text, plus, reply_read}
use Rattle.ledger.specs.Transcript.{Runner, without_store, asked, line_says, line_gives, line_text, printed, left}

-- how the numbers of a reply are spelled: as the call's result is; a line that is no call has none
abbrev pub spelled_as : Spoken → Spelling
spelled_as (makes x) = Numbers
spelled_as (asks c) = spelling c
spelled_as nothing = Numbers

-- how a line may be refused, whatever stands before it (5 to 18: `says`)
pub record LineRefused (R : Runner) (p : Spoken) : Type 0 where
  -- "1: a script line that is no call." (7.1)
  pub one : (line_says R p ≡ refused 1) ↔ (p ≡ nothing)
  -- "2: a geometry outside its limits." (7.1)
  pub two : (line_says R p ≡ refused 2) ↔ ((x : Six) × ((p ≡ makes x) × (Inside (asked x) → ⊥)))
  -- "so it never prints 3" (10.5)
  pub three : line_says R p ≡ refused 3 → ⊥
  -- "Before a store exists every other call gives 4." (10.5)
  pub four : (line_says R p ≡ refused 4) ↔ ((R ≡ without_store) × ((c : Command) × (p ≡ asks c)))

pub record TranscriptMeans : Type 0 where
  -- "Output per line" (10.6): the replies stand in the lines' order, each as the lines before it say
  pub each : (R : Runner) (before : List (List ℕ)) (l : List ℕ) (behind : List (List ℕ)) →
      printed R (before ++ (l ∷ behind)) ≡
      printed R before ++ (line_text (left R before) (spoken l) ++ printed (left R (before ++ (l ∷ []))) behind)
  -- what an accepted line gives are the numbers of its reply, and they are spelled as those of its call
  pub gives : (R : Runner) (p : Spoken) (ns : List ℕ) → line_says R p ≡ accepted ns → numbers_of (line_gives R p) ≡ ns
  pub spelled : (R : Runner) (p : Spoken) → line_text R p ≡ reply_text (spelled_as p) (line_says R p)
  -- and what it prints reads back to what it gives, the colons with it
  pub reads : (R : Runner) (p : Spoken) (ns : List ℕ) → line_says R p ≡ accepted ns → reply_read (line_text R p) ≡ some (plus (line_gives R p))
  pub refusals : (R : Runner) (p : Spoken) → LineRefused R p
  -- "An empty or longer line is no call" (10.2)
  pub no_call : (R : Runner) (l : List ℕ) → (l ≡ []) ⊎ (80 < length l) → line_says R (spoken l) ≡ refused 1
  -- no 4 once a store was made
  pub made : (R : Runner) (before : List (List ℕ)) (l : List ℕ) (between : List (List ℕ)) (x : Six) → spoken l ≡ makes x → Inside (asked x) → (p : Spoken) →
      line_says (left R (before ++ (l ∷ between))) p ≡ refused 4 → ⊥
  -- "a later such line, if accepted, starts afresh" (10.3)
  pub afresh : (R : Runner) (l : List ℕ) (behind : List (List ℕ)) (x : Six) → spoken l ≡ makes x → Inside (asked x) →
      printed R (l ∷ behind) ≡ printed without_store (l ∷ behind)
  -- and refused, it leaves the store that there was
  pub leaves : (R : Runner) (l : List ℕ) (x : Six) → spoken l ≡ makes x → (Inside (asked x) → ⊥) → left R (l ∷ []) ≡ R
