-- What B and F answer and leave, from the verdict and from what their code has done.
use mathlib.Core.Path.{◌≡◌, refl, sym, ap, ap₂, ◌∙◌}
use mathlib.Core.Bool.{false}
use mathlib.Core.List.{List, [], ◌∷◌, ◌++◌, append-nil}
use Prim.Native.Nat.{ℕ, suc, pred, ◌+◌, ◌<◌}
use native.Mathlib.Omega.{arith}
use lib.Dec.{eqb, leb}
use lib.ListN.{length, get_or, set, take}
use lib.Seq.{sets}
use borrow.Author.Tests.{leb-false}
use Rattle.std.specs.Prelude.{Result, Ok, Err}
use Rattle.answer.specs.declared.Refusal.{Refusal}
use Rattle.answer.specs.Number.{number_of}
use Rattle.answer.specs.Reply.{Reply, reply_of, accepted, refused}
use Rattle.answer.specs.Refusal.{NoneHolds, leaves}
use Rattle.answer.proofs.Decided.{decide_accepts}
use Rattle.geometry.specs.declared.Geometry.{Geometry}
use Rattle.model.specs.Held.{frees}
use Rattle.model.specs.Command.{Command}
use Rattle.model.specs.Command.{Begin, Fork}
use Rattle.model.specs.View.{View}
use Rattle.model.specs.State.{State, Notes, with_view, with_notes, bare_notes}
use Rattle.model.specs.Effects.{begin, fork}
use Rattle.model.specs.Actions.{Action, do_b, do_f, done, slot_of, vacant}
use Rattle.model.specs.Calls.{account, slot, conditions, result, acted, effect, begun_notes}
use Rattle.model.specs.Layout.{view_of, state_of, stored}
use Rattle.model.specs.Memory.{midway, stored_by}
use Rattle.model.proofs.ByNumber.{none_at}
use Rattle.model.proofs.Fine.{slot_named, not_zero}
use Rattle.model.proofs.DoneSound.{spare}
use Rattle.model.proofs.StoredFacts.{state_ext}
use Rattle.tables.specs.Ready.{Ready, OutLong}
use Rattle.tables.specs.Outcome.{replied, tables_left, out_left}
use Rattle.tables.proofs.Fields.{num_in}
use Rattle.lines.specs.Verdicts.{verdict}
use Rattle.lines.specs.Growing.{viewed}
use Rattle.lines.proofs.Verdicts.{refuses, accepts}

-- the result buffer's first number
one : (out : List ℕ) (v : ℕ) → 0 < length out → take 1 (set out 0 v) ≡ v ∷ []
one [] v h = absurd (let z : ⊥ = omega arith in z)
one (x ∷ l) v h = refl

-- an action with no log word, which frees nothing
pub acted_is : (T : State) (a : Action) → frees T.view a ≡ [] → with_view T (done T.view a) ≡ acted T a 0
unfolding acted
acted_is T a e = state_ext _ _ refl refl refl refl (omega arith) (sym (ap (λ l. T.waiting ++ l) e ∙ append-nil T.waiting)) refl refl

module _ {g : Geometry} {t : List ℕ} (R : Ready g t) where
  abbrev T : State
  T = state_of g t

  -- what a call promises
  abbrev pub Left : Command → List ℕ → Result ℕ Refusal → List ℕ → List ℕ → Type 0
  Left c out r u out' = (reply_of r out' ≡ replied g t c) × ((u ≡ tables_left g t c) × (out' ≡ out_left g t out c))

  -- ── a refusal ──

  pub refused_left : (c : Command) (s : ℕ) (r : Refusal) (out : List ℕ) → Err (number_of r) ≡ verdict g t c s → Left c out (Err r) t out
  unfolding verdict replied reply_of tables_left out_left
  refused_left c s r out e =
      let a : replied g t c ≡ refused (number_of r) = refuses (conditions g T c) s (pred (vacant T.view)) (number_of r) (result g T c) (sym e) in (
        sym a,
        (
          sym (ap (λ (r : Reply). leaves r t (stored_by g t c)) a),
          sym (ap (λ (r : Reply). leaves r out (sets out 0 (result g T c))) a),
        ),
      )

  -- ── what acceptance says of the slots ──

  taken : (c : Command) (s a b : ℕ) → Ok (a, b) ≡ verdict g t c s → NoneHolds (conditions g T c) × (a ≡ s) × (b ≡ pred (vacant T.view))
  unfolding verdict
  taken c s a b e = accepts (conditions g T c) s (pred (vacant T.view)) a b (sym e)

  last_at : get_or t 6 0 ≡ T.view.last
  unfolding state_of view_of
  last_at = refl

  room : (f : ℕ) → eqb (vacant T.view) 0 ≡ false → leb 999999 T.view.last ≡ false → f ≡ pred (vacant T.view) →
      (f < g.records) × (get_or t 6 0 < 999999) × (T.view.num f ≡ 0)
  unfolding state_of view_of
  room f y n e =
      let w = spare T.view (not_zero (vacant T.view) y) in
      (omega (arith, w.0), leb-false 999999 T.view.last n, ap T.view.num e ∙ w.1)

  pub begin_needs : (s f : ℕ) → Ok (s, f) ≡ verdict g t Begin 0 → (f < g.records) × (get_or t 6 0 < 999999)
  begin_needs s f e =
      let w = taken Begin 0 s f e in
      let past = none_at (conditions g T Begin) w.0 in
      let r = room f (past 11) (past 12) w.2 in
      (r.0, r.1)

  abbrev pub Needs : ℕ → ℕ → Type 0
  Needs s f = (f < g.records) × (get_or t 6 0 < 999999) × (s < g.records) × (s ≡ f → ⊥)

  pub on_needs : (n s f : ℕ) → eqb (slot_of T.view n) 0 ≡ false → eqb (vacant T.view) 0 ≡ false → leb 999999 T.view.last ≡ false →
      s ≡ slot T n → f ≡ pred (vacant T.view) → Needs s f
  unfolding state_of
  on_needs n s f x y z i j =
      let r = room f y z j in
      let w = slot_named T.view R.sound n (not_zero (slot_of T.view n) x) in
      let l : 0 < T.view.num s = omega (arith, w.0, ap T.view.num i) in
      (r.0, r.1, num_in g t s l, λ e. let z : ⊥ = omega (arith, r.2, ap T.view.num e) in z)

  pub fork_needs : (n s f : ℕ) → Ok (s, f) ≡ verdict g t (Fork n) (slot T n) → Needs s f
  fork_needs n s f e =
      let w = taken (Fork n) (slot T n) s f e in
      let past = none_at (conditions g T (Fork n)) w.0 in
      on_needs n s f (past 8) (past 11) (past 12) w.1 w.2

  -- ── an accepted call, which left the tables u and gave r ──

  module _ (u out : List ℕ) (r : ℕ) (num : r ≡ get_or t 6 0 + 1) (long : OutLong g out) where
    grown : (c : Command) (K : View) (N : Notes) → NoneHolds (conditions g T c) → result g T c ≡ suc T.view.last ∷ [] →
        with_notes (with_view T K) N ≡ effect g T c → midway g T (account c) t ≡ t → u ≡ viewed g t K N → Left c out (Ok 1) u (set out 0 r)
    unfolding viewed replied reply_of tables_left out_left
    grown c K N n e k way d =
        let a : replied g t c ≡ accepted (result g T c) = decide_accepts (conditions g T c) (result g T c) n in
        let v : r ≡ suc T.view.last = omega (arith, last_at) in (
          ap accepted (one out r (omega arith) ∙ ap (λ (n : ℕ). n ∷ []) v ∙ sym e) ∙ sym a,
          (
            d ∙ ap (λ (U : State). stored g U t) k ∙ ap (stored g (effect g T c)) (sym way) ∙ sym (ap (λ (r : Reply). leaves r t (stored_by g t c)) a),
            ap (set out 0) v ∙ ap (sets out 0) (sym e) ∙ sym (ap (λ (r : Reply). leaves r out (sets out 0 (result g T c))) a),
          ),
        )

    -- the action of a new line, which has no window, and no name
    bare : (a : Action) → frees T.view a ≡ [] →
        with_notes (with_view T (done T.view a)) (begun_notes T) ≡ with_notes (acted T a 0) (begun_notes T)
    bare a e = ap (λ U. with_notes U (begun_notes T)) (acted_is T a e)

    pub begin_left : (s f : ℕ) → Ok (s, f) ≡ verdict g t Begin 0 → u ≡ viewed g t (begin T.view f) (bare_notes T.notes f) →
        Left Begin out (Ok 1) u (set out 0 r)
    begin_left s f e b =
        let w = taken Begin 0 s f e in
        grown Begin _ _ w.0 refl (bare do_b refl) refl (b ∙ ap (λ (f : ℕ). viewed g t (begin T.view f) (bare_notes T.notes f)) w.2)

    pub fork_left : (n s f : ℕ) → Ok (s, f) ≡ verdict g t (Fork n) (slot T n) →
        u ≡ viewed g t (fork T.view s f) (bare_notes T.notes f) → Left (Fork n) out (Ok 1) u (set out 0 r)
    fork_left n s f e b =
        let w = taken (Fork n) (slot T n) s f e in
        grown (Fork n) _ _ w.0 refl (bare (do_f (slot T n)) refl) refl
        (b ∙ ap₂ (λ (s f : ℕ). viewed g t (fork T.view s f) (bare_notes T.notes f)) w.1 w.2)
