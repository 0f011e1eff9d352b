-- What a call is not lent, it leaves: a call that writes no words leaves the log, one that gives no number the result buffer, one that keeps the
-- state the tables.
use mathlib.Core.Path.{◌≡◌, refl, sym, ap, ap₂, ◌∙◌, subst}
use mathlib.Core.List.{List, []}
use Prim.Native.Nat.{ℕ}
use lib.Seq.{sets}
use Rattle.std.specs.Prelude.{Result}
use Rattle.answer.specs.declared.Refusal.{Refusal}
use Rattle.answer.specs.Reply.{Reply, accepted, refused, reply_of}
use Rattle.answer.specs.Refusal.{leaves}
use Rattle.geometry.specs.declared.Geometry.{Geometry}
use Rattle.alloc_log.specs.Word.{write_at, bytes_of}
use Rattle.alloc_log.proofs.Writing.{write_none}
use Rattle.model.specs.declared.Call.{Call}
use Rattle.model.specs.declared.Naming.{Naming}
use Rattle.model.specs.declared.Naming.TheVariants as naming
use Rattle.model.specs.Command.{Command, command, command_on}
use Rattle.model.specs.State.{State}
use Rattle.model.specs.Calls.{account, result, written, effect}
use Rattle.model.specs.Layout.{state_of, stored}
use Rattle.model.specs.Memory.{written_at, midway, stored_by}
use Rattle.model.proofs.Restored.{stored_state}
use Rattle.tables.specs.Ready.{Ready, OutLong, LinkOf, record_of}
use Rattle.tables.specs.Outcome.{replied, tables_left, log_left, out_left}

-- whatever the reply
either_way : {A : Type 0} (r : Reply) (old new : A) → new ≡ old → old ≡ leaves r old new
either_way (accepted l) old new e = sym e
either_way (refused n) old new e = refl

module _ (g : Geometry) (t : List ℕ) (c : Command) where
  pub log_stays : (log : List ℕ) → written g (state_of g t) c ≡ [] → log ≡ log_left g t log c
  unfolding log_left
  log_stays log e =
      let at = written_at (state_of g t) c in
      either_way (replied g t c) log (write_at log at (bytes_of (written g (state_of g t) c)))
      (ap (λ ws. write_at log at (bytes_of ws)) e ∙ write_none log at)

  pub out_stays : (out : List ℕ) → result g (state_of g t) c ≡ [] → out ≡ out_left g t out c
  unfolding out_left
  out_stays out e = either_way (replied g t c) out (sets out 0 (result g (state_of g t) c)) (ap (sets out 0) e)

  pub tables_stay : Ready g t → effect g (state_of g t) c ≡ state_of g t → midway g (state_of g t) (account c) t ≡ t → t ≡ tables_left g t c
  unfolding tables_left
  tables_stay R e way =
      either_way (replied g t c) t (stored_by g t c)
      (ap₂ (λ (U : State) (u : List ℕ). stored g U u) e way ∙ stored_state g t R.made R.free R.roomy.room)

-- the four promises of a call
abbrev pub Performed : Result ℕ Refusal → List ℕ → List ℕ → List ℕ → Geometry → List ℕ → List ℕ → List ℕ → Command → Type 0
Performed r t' log' out' g t log out c =
    (reply_of r out' ≡ replied g t c) × ((t' ≡ tables_left g t c) × ((log' ≡ log_left g t log c) × (out' ≡ out_left g t out c)))

-- the link of a call's record, found by the number that `record_of` gave
pub found_link : (g : Geometry) (t : List ℕ) (c : Command) (link : ℕ) {n : ℕ} → n ≡ record_of c → LinkOf g t n link → LinkOf g t (record_of c) link
found_link g t c link e = subst (λ n. LinkOf g t n link) e

-- and of the call that the code has taken apart
its_link : (g : Geometry) (t : List ℕ) {c d : Command} → c ≡ d → (link : ℕ) → LinkOf g t (record_of c) link → LinkOf g t (record_of d) link
its_link g t {d = d} e link = found_link g t d link (ap record_of e)

pub call_link : (g : Geometry) (t : List ℕ) {c d : Call} → c ≡ d → (link : ℕ) → LinkOf g t (record_of (command c)) link →
    LinkOf g t (record_of (command d)) link
call_link g t e link = its_link g t (ap command e) link

pub name_link : (g : Geometry) (t l : List ℕ) {c d : Naming} → c ≡ d → (link : ℕ) → LinkOf g t (record_of (command_on c l)) link →
    LinkOf g t (record_of (command_on d l)) link
name_link g t l e link = its_link g t (ap (λ k. command_on k l) e) link

-- the promises of the call that the code has taken apart
pub of_call : (g : Geometry) (t log out : List ℕ) {c d : Call} → c ≡ d → (r : Result ℕ Refusal) (t' log' out' : List ℕ) →
    Performed r t' log' out' g t log out (command d) → Performed r t' log' out' g t log out (command c)
of_call g t log out e r t' log' out' p = subst (λ c. Performed r t' log' out' g t log out (command c)) (sym e) p

-- what a call promises that is lent the tables alone, and one that is lent the result buffer alone
pub tables_alone : (r : Result ℕ Refusal) (g : Geometry) (t log out t' : List ℕ) (c : Command) → written g (state_of g t) c ≡ [] →
    result g (state_of g t) c ≡ [] →
    (reply_of r out ≡ replied g t c) × (t' ≡ tables_left g t c) → Performed r t' log out g t log out c
tables_alone r g t log out t' c w n p = (p.0, (p.1, (log_stays g t c log w, out_stays g t c out n)))

pub result_alone : (r : Result ℕ Refusal) (g : Geometry) (t log out out' : List ℕ) (c : Command) → Ready g t → written g (state_of g t) c ≡ [] →
    effect g (state_of g t) c ≡ state_of g t → midway g (state_of g t) (account c) t ≡ t →
    (reply_of r out' ≡ replied g t c) × (out' ≡ out_left g t out c) → Performed r t log out' g t log out c
result_alone r g t log out out' c R w e m p = (p.0, (tables_stay g t c R e m, (log_stays g t c log w, p.1)))

-- the promises of a call of a name, which writes no log word
abbrev pub Named : Result ℕ Refusal → List ℕ → List ℕ → Geometry → List ℕ → List ℕ → Command → Type 0
Named r t' out' g t out c = (reply_of r out' ≡ replied g t c) × ((t' ≡ tables_left g t c) × (out' ≡ out_left g t out c))

pub of_name : (g : Geometry) (t out l : List ℕ) {c d : Naming} → c ≡ d → (r : Result ℕ Refusal) (t' out' : List ℕ) →
    Named r t' out' g t out (command_on d l) → Named r t' out' g t out (command_on c l)
of_name g t out l e r t' out' p = subst (λ c. Named r t' out' g t out (command_on c l)) (sym e) p

writes_none : (g : Geometry) (t l : List ℕ) (c : Naming) → written g (state_of g t) (command_on c l) ≡ []
writes_none g t l (naming.Attach n) = refl
writes_none g t l naming.Detach = refl
writes_none g t l naming.Resolve = refl

-- so it leaves the log
pub name_performed : (r : Result ℕ Refusal) (g : Geometry) (t log out t' out' l : List ℕ) (c : Naming) → Named r t' out' g t out (command_on c l) →
    Performed r t' log out' g t log out (command_on c l)
name_performed r g t log out t' out' l c p = (p.0, (p.1.0, (log_stays g t (command_on c l) log (writes_none g t l c), p.1.1)))

-- of a copy of the geometry: what a call asks, and its promises
abbrev pub LookedAt : List ℕ → List ℕ → ℕ → ℕ → Geometry → Type 0
LookedAt t out n link g = Ready g t × OutLong g out × LinkOf g t n link

pub copy_looked : {h g : Geometry} → h ≡ g → (t out : List ℕ) (n link : ℕ) → LookedAt t out n link g → LookedAt t out n link h
copy_looked e t out n link = subst (LookedAt t out n link) (sym e)

-- of one that is lent the tables alone
abbrev pub AskedAlone : List ℕ → ℕ → ℕ → Geometry → Type 0
AskedAlone t n link g = Ready g t × LinkOf g t n link

pub copy_alone : {h g : Geometry} → h ≡ g → (t : List ℕ) (n link : ℕ) → AskedAlone t n link g → AskedAlone t n link h
copy_alone e t n link = subst (AskedAlone t n link) (sym e)

abbrev pub AloneLeft : Result ℕ Refusal → List ℕ → List ℕ → Command → Geometry → Type 0
AloneLeft r t' t c g = ((out : List ℕ) → reply_of r out ≡ replied g t c) × (t' ≡ tables_left g t c)

pub copy_left : {h g : Geometry} → h ≡ g → (r : Result ℕ Refusal) (t' t : List ℕ) (c : Command) → AloneLeft r t' t c h → AloneLeft r t' t c g
copy_left e r t' t c = subst (AloneLeft r t' t c) e

abbrev pub Answers : Result ℕ Refusal → List ℕ → List ℕ → List ℕ → Command → Geometry → Type 0
Answers r out' t out c g = (reply_of r out' ≡ replied g t c) × (out' ≡ out_left g t out c)

pub copy_answers : {h g : Geometry} → h ≡ g → (r : Result ℕ Refusal) (out' t out : List ℕ) (c : Command) →
    Answers r out' t out c h → Answers r out' t out c g
copy_answers e r out' t out c = subst (Answers r out' t out c) e

pub copy_named : {h g : Geometry} → h ≡ g → (r : Result ℕ Refusal) (t' out' t out : List ℕ) (c : Command) → Named r t' out' h t out c →
    Named r t' out' g t out c
copy_named e r t' out' t out c = subst (λ k. Named r t' out' k t out c) e
