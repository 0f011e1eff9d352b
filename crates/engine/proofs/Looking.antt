-- A look leaves tables and log; what it promises is what a call promises.
use mathlib.Core.Path.{◌≡◌, refl, sym, ap, subst}
use mathlib.Core.List.{List, [], ◌∷◌}
use mathlib.Core.Option.{some}
use types.Run.{miss}
use borrow.Enum.Refused.{Among, opened}
use denote.Enum.Declared.{tag_of}
use Prim.Native.Nat.{ℕ}
use Rattle.answer.specs.declared.Refusal.{Refusal}
use Rattle.answer.specs.Reply.{reply_of}
use Rattle.geometry.specs.declared.Geometry.{Geometry}
use Rattle.model.specs.declared.Call.{Call}
use Rattle.model.specs.contracts.Call.{the_type}
use Rattle.model.specs.declared.Call.TheVariants.{Begin, Write, Erase, Seal, Fork, Delete, Read, Barrier, Compress, FreeList, Estimate, Retain, Reclaim}
use Rattle.model.specs.Command.{Command, command}
use Rattle.model.specs.Calls.{account, written, effect}
use Rattle.model.specs.Layout.{state_of}
use Rattle.model.specs.Memory.{midway}
use Rattle.tables.specs.Ready.{Ready, LinkOf, record_of}
use Rattle.tables.specs.Outcome.{replied, out_left}
use Rattle.engine.specs.declared.looks.Look.{Look}
use Rattle.engine.specs.declared.looks.Look.TheVariants as look
use Rattle.std.specs.Prelude.{Result}
use Rattle.std.specs.Prelude as prelude
use Rattle.engine.specs.Looks.{look_call, only_looks, seen_call}
use Rattle.engine.proofs.Untouched.{Performed, call_link, result_alone}

abbrev pub Looked : Result ℕ Refusal → Geometry → List ℕ → List ℕ → List ℕ → Command → Type 0
Looked r g t out left c = (reply_of r left ≡ replied g t c) × (left ≡ out_left g t out c)

-- of the look that the code has taken apart
pub of_look : (r : Result ℕ Refusal) (g : Geometry) (t out left : List ℕ) {l m : Look} → l ≡ m →
    Looked r g t out left (command (look_call m)) → Looked r g t out left (command (look_call l))
of_look r g t out left e p = subst (λ k. Looked r g t out left (command (look_call k))) (sym e) p

-- and its link
pub look_link : (g : Geometry) (t : List ℕ) {l m : Look} → l ≡ m → (link : ℕ) → LinkOf g t (record_of (command (look_call l))) link →
    LinkOf g t (record_of (command (look_call m))) link
look_link g t e link p = call_link g t (ap look_call e) link p

writes_none : (g : Geometry) (t : List ℕ) (l : Look) → written g (state_of g t) (command (look_call l)) ≡ []
writes_none g t (look.Read n x) = refl
writes_none g t look.FreeList = refl
writes_none g t (look.Estimate n) = refl

keeps_state : (g : Geometry) (t : List ℕ) (l : Look) → effect g (state_of g t) (command (look_call l)) ≡ state_of g t
keeps_state g t (look.Read n x) = refl
keeps_state g t look.FreeList = refl
keeps_state g t (look.Estimate n) = refl

stores_once : (g : Geometry) (t : List ℕ) (l : Look) → midway g (state_of g t) (account (command (look_call l))) t ≡ t
stores_once g t (look.Read n x) = refl
stores_once g t look.FreeList = refl
stores_once g t (look.Estimate n) = refl

-- tables and log are those that were lent
pub look_performed : (r : Result ℕ Refusal) (g : Geometry) (t log out left : List ℕ) (l : Look) → Ready g t →
    Looked r g t out left (command (look_call l)) →
    Performed r t log left g t log out (command (look_call l))
look_performed r g t log out left l R p =
    result_alone r g t log out left (command (look_call l)) R (writes_none g t l) (keeps_state g t l) (stores_once g t l) p

-- ── the look that a call is ──

-- of the call that the code has taken apart
pub seen_as : (c : Call) (l : Look) → c ≡ look_call l → seen_call (prelude.Some l) ≡ only_looks (some c)
seen_as c (look.Read n x) e = rw e
seen_as c look.FreeList e = rw e
seen_as c (look.Estimate n) e = rw e

-- the places of the calls that do more, in the order of `Call`
abbrev acting : List ℕ
acting = 0 ∷ 1 ∷ 2 ∷ 3 ∷ 4 ∷ 5 ∷ 7 ∷ 8 ∷ 11 ∷ 12 ∷ []

pub not_seen : (c : Call) → Among acting (tag_of the_type c) → seen_call prelude.None ≡ only_looks (some c)
not_seen Begin h = refl
not_seen (Write r x k) h = refl
not_seen (Erase r x) h = refl
not_seen (Seal r) h = refl
not_seen (Fork r) h = refl
not_seen (Delete r) h = refl
not_seen (Read r x) h = absurd (miss acting 6 tt (opened h))
not_seen Barrier h = refl
not_seen Compress h = refl
not_seen FreeList h = absurd (miss acting 9 tt (opened h))
not_seen (Estimate r) h = absurd (miss acting 10 tt (opened h))
not_seen (Retain r n) h = refl
not_seen (Reclaim k) h = refl
