-- One action on the tables of a store: the tables that it is stored in say what it leaves, and are ready for the next.
use mathlib.Core.Path.{◌≡◌, refl, sym, ap, ◌∙◌, subst}
use mathlib.Core.Logic.{inl, inr}
use mathlib.Core.List.{List, [], ◌∷◌, map}
use Prim.Native.Nat.{ℕ, pred, ◌≤◌, ◌<◌}
use native.Mathlib.Omega.{arith}
use Rattle.geometry.specs.declared.Geometry.{Geometry}
use Rattle.geometry.specs.Limits.{blocks}
use Rattle.model.specs.Sound.{Sound}
use Rattle.model.specs.Lists.{In}
use Rattle.model.specs.NamesAgree.{NamesAgree}
use Rattle.model.specs.State.{State, Notes, passed_notes, with_notes, InRange, QueueFits, WaitingFits, WindowsFit}
use Rattle.model.specs.Effects.{seal, grow, close}
use Rattle.model.specs.Actions.{Action, do_s, do_d, Asks, done, vacant, delete}
use Rattle.model.specs.Window.{steps, AsksAlong, queueing}
use Rattle.model.specs.Calls.{acted}
use Rattle.model.specs.Layout.{view_of, state_of, stored}
use Rattle.model.specs.Memory.{stored_along}
use Rattle.model.proofs.DoneSound.{spare, done_sound}
use Rattle.model.proofs.DoneShaped.{done_shaped}
use Rattle.model.proofs.Sizes.{done_sized}
use Rattle.model.proofs.BirthStays.{Gives}
use Rattle.model.proofs.Waiting.{once_short}
use Rattle.model.proofs.Windows.{fit_done}
use Rattle.model.proofs.NameActions.{NamesFit, names_kept_done}
use Rattle.model.proofs.NameShape.{passed_shaped}
use Rattle.model.proofs.WindowDelete.{cut}
use Rattle.model.proofs.WindowMoves.{Giveless}
use Rattle.model.proofs.Queueing.{queueing_none, queueing_quiet, queueing_step, queueing_fits, queueing_waits}
use Rattle.model.proofs.Shape.{ShapedNotes, Shaped}
use Rattle.model.proofs.ShapeFacts.{fits_shaped}
use Rattle.tables.specs.Ready.{Ready}
use Rattle.tables.proofs.Fields
use Rattle.tables.proofs.Ranges
use Rattle.tables.proofs.Steps.{Holds, holds_first, holds_roomy, holds_made, holds_says, holds_free}
use Rattle.lines.proofs.Answers.{acted_is}

-- an action that gives no block, with the notes N after it
module _ {g : Geometry} {t : List ℕ} (R : Ready g t) (a : Action) (asks : Asks (view_of g t) a) (giveless : (c : ℕ) → Gives a c → ⊥) (N : Notes)
    (fit : WindowsFit (done (view_of g t) a) N) (agree : NamesFit (done (view_of g t) a) N) (shape : ShapedNotes g.records N)
    (low : (done (view_of g t) a).last ≤ 999999) where
  abbrev T : State
  T = state_of g t

  abbrev pub after : State
  after = with_notes (queueing (state_of g t) (a ∷ [])) N

  fits : QueueFits (queueing T (a ∷ []))
  unfolding state_of
  fits = queueing_fits T (a ∷ []) (Ranges.sound R) (asks, tt) (giveless, tt) R.queue

  waits : WaitingFits (queueing T (a ∷ []))
  unfolding state_of
  waits = queueing_waits T (a ∷ []) (Ranges.sound R) (asks, tt) (giveless, tt) R.waiting

  after_sound : Sound after.view
  unfolding queueing steps state_of
  after_sound = done_sound (view_of g t) a (Ranges.sound R) asks

  after_queue : QueueFits after
  after_queue = record { below = fits.below; once = fits.once; births = fits.births; given = fits.given; unborn = fits.unborn }

  after_waits : WaitingFits after
  after_waits = record { below = waits.below; unborn = waits.unborn; unqueued = waits.unqueued; once = waits.once }

  after_shaped : Shaped g after
  unfolding queueing steps state_of
  after_shaped =
      let S = (holds_first R).shaped in
      let z = done_sized (view_of g t) a in
      let b : (done (view_of g t) a).blocks ≡ blocks g = z.blocks ∙ S.blocks in
      record {
        view = done_shaped (view_of g t) a (Ranges.sound R) asks S.view;
        slots = z.slots ∙ S.slots;
        pages = z.pages ∙ S.pages;
        blocks = b;
        mark = S.mark;
        notes = shape;
        few = once_short after.waiting (done (view_of g t) a).blocks waits.once waits.below;
        queue = fits_shaped after after_queue;
      }

  after_range : InRange g after
  unfolding queueing steps state_of
  after_range =
      record {
        last = low;
        marks = R.range.marks;
        counter = R.range.counter;
        writes = R.range.writes;
        used = R.range.used;
      }

  after_fit : WindowsFit after.view after.notes
  unfolding queueing steps state_of
  after_fit = fit

  after_names : NamesAgree after.view after.notes.titles after.notes.names
  unfolding queueing steps state_of
  after_names = agree

  -- the tables u are those in which it is stored
  module _ (u : List ℕ) (e : u ≡ stored g (with_notes (queueing (state_of g t) (a ∷ [])) N) t) where
    held : Holds g t after u
    held = record { is = e; shaped = after_shaped }

    after_says : state_of g u ≡ with_notes (queueing (state_of g t) (a ∷ [])) N
    after_says = holds_says g t R.roomy held

    after_ready : Ready g u
    after_ready =
        let d : after ≡ state_of g u = sym after_says in
        record {
          roomy = holds_roomy g t R.roomy held;
          made = holds_made g t R.roomy held;
          sound = subst (λ U. Sound U.view) d after_sound;
          range = subst (InRange g) d after_range;
          queue = subst QueueFits d after_queue;
          waiting = subst WaitingFits d after_waits;
          windows = subst (λ U. WindowsFit U.view U.notes) d after_fit;
          names = subst (λ U. NamesAgree U.view U.notes.titles U.notes.names) d after_names;
          free = holds_free g t R.roomy held;
        }

-- ── a delete, of a record without a name ──

module _ {g : Geometry} {t : List ℕ} (R : Ready g t) (s : ℕ) (asks : Asks (view_of g t) (do_d s)) (nameless : (state_of g t).notes.names s ≡ 0) where
  gone_fit : WindowsFit (delete (view_of g t) s) (state_of g t).notes
  unfolding state_of
  gone_fit = fit_done (view_of g t) (do_d s) (state_of g t).notes (Ranges.sound R) asks R.windows

  gone_last : (delete (view_of g t) s).last ≤ 999999
  unfolding state_of
  gone_last = omega (arith, (cut (view_of g t) (Ranges.sound R) s asks.0 asks.1).last, R.range.last)

  gone_names : NamesFit (delete (view_of g t) s) (state_of g t).notes
  unfolding state_of
  gone_names = names_kept_done (view_of g t) (do_d s) (state_of g t).notes (Ranges.sound R) asks nameless R.names

  same_shape : ShapedNotes g.records (state_of g t).notes
  same_shape = (holds_first R).shaped.notes

  module _ (u : List ℕ) (e : u ≡ stored g (queueing (state_of g t) (do_d s ∷ [])) t) where
    pub gone_says : state_of g u ≡ queueing (state_of g t) (do_d s ∷ [])
    unfolding queueing
    gone_says = after_says R (do_d s) asks (λ c i. i) (state_of g t).notes gone_fit gone_names same_shape gone_last u e

    pub gone_view : view_of g u ≡ delete (view_of g t) s
    unfolding queueing steps state_of
    gone_view = ap (λ B. B.view) gone_says

    pub gone_notes : (state_of g u).notes ≡ (state_of g t).notes
    unfolding queueing
    gone_notes = ap (λ (B : State). B.notes) gone_says

    pub gone_ready : Ready g u
    unfolding queueing
    gone_ready = after_ready R (do_d s) asks (λ c i. i) (state_of g t).notes gone_fit gone_names same_shape gone_last u e

-- ── deletes one after another ──

-- they give no block
deletes_giveless : (vs : List ℕ) → Giveless (map do_d vs)
deletes_giveless [] = tt
deletes_giveless (v ∷ vs) = (λ c i. i, deletes_giveless vs)

-- the first of them, then the others
first_then : {g : Geometry} {t : List ℕ} → Ready g t → (v : ℕ) (vs : List ℕ) → AsksAlong (view_of g t) (map do_d (v ∷ vs)) →
    queueing (state_of g t) (map do_d (v ∷ vs)) ≡ queueing (queueing (state_of g t) (do_d v ∷ [])) (map do_d vs)
unfolding state_of
first_then {g} {t} R v vs q = queueing_step (state_of g t) (do_d v) (map do_d vs) R.sound q (deletes_giveless (v ∷ vs))

-- where each is one that the store it meets allows, and none has a name, the tables are ready after them, and say what all of them leave
pub gone_along : {g : Geometry} (vs : List ℕ) (t : List ℕ) → Ready g t → AsksAlong (view_of g t) (map do_d vs) →
    ((v : ℕ) → In v vs → (state_of g t).notes.names v ≡ 0) →
    Ready g (stored_along g (state_of g t) (map do_d vs) t) ×
    (state_of g (stored_along g (state_of g t) (map do_d vs) t) ≡ queueing (state_of g t) (map do_d vs))
unfolding stored_along
gone_along [] t R q z = (R, sym (queueing_none (state_of _ t)))
gone_along {g} (v ∷ vs) t R (q, qs) z =
    let T : State = state_of g t in
    let U : State = queueing T (do_d v ∷ []) in
    let u : List ℕ = stored g U t in
    let n : T.notes.names v ≡ 0 = z v (inl refl) in
    let d : state_of g u ≡ U = gone_says R v q n u refl in
    let w = gone_along vs u (gone_ready R v q n u refl) (subst (λ K. AsksAlong K (map do_d vs)) (sym (gone_view R v q n u refl)) qs)
    (λ x i. ap (λ (N : Notes). N.names x) (gone_notes R v q n u refl) ∙ z x (inr i)) in
    let e : stored_along g (state_of g u) (map do_d vs) u ≡ stored_along g U (map do_d vs) u = ap (λ B. stored_along g B (map do_d vs) u) d in (
      subst (Ready g) e w.0,
      ap (state_of g) (sym e) ∙ w.1 ∙ ap (λ B. queueing B (map do_d vs)) d ∙ sym (first_then R v vs (q, qs)),
    )

-- ── the seal ──

-- it queues nothing
pub seal_quiet : (T : State) (s : ℕ) → acted T (do_s s) 0 ≡ queueing T (do_s s ∷ [])
seal_quiet T s = sym (acted_is T (do_s s) refl) ∙ sym (queueing_quiet T (do_s s) refl)

module _ {g : Geometry} {t : List ℕ} (R : Ready g t) (s : ℕ) (asks : Asks (view_of g t) (do_s s)) (low : (view_of g t).last < 999999)
    (f : ℕ) (ef : f ≡ pred (vacant (view_of g t))) where
  abbrev N : Notes
  N = passed_notes (state_of g t).notes s f

  sealed_fit : WindowsFit (done (view_of g t) (do_s s)) N
  unfolding state_of
  sealed_fit = rw ef (fit_done (view_of g t) (do_s s) (state_of g t).notes (Ranges.sound R) asks R.windows)

  sealed_names : NamesFit (done (view_of g t) (do_s s)) N
  unfolding state_of
  sealed_names = rw ef (names_kept_done (view_of g t) (do_s s) (state_of g t).notes (Ranges.sound R) asks tt R.names)

  sealed_shape : ShapedNotes g.records N
  sealed_shape =
      let k = (spare (view_of g t) asks.2).0 in
      passed_shaped g.records (state_of g t).notes s f (Ranges.slot_in R s asks.0) (omega (arith, Fields.slots_is g t)) (holds_first R).shaped.notes

  sealed_last : (done (view_of g t) (do_s s)).last ≤ 999999
  unfolding seal grow close
  sealed_last = omega arith

  module _ (u : List ℕ) (e : u ≡ stored g (with_notes (acted (state_of g t) (do_s s) 0) (passed_notes (state_of g t).notes s f)) t) where
    as_queueing : u ≡ stored g (with_notes (queueing (state_of g t) (do_s s ∷ [])) N) t
    as_queueing = e ∙ ap (λ (U : State). stored g (with_notes U N) t) (seal_quiet (state_of g t) s)

    pub sealed_says : state_of g u ≡ with_notes (acted (state_of g t) (do_s s) 0) (passed_notes (state_of g t).notes s f)
    sealed_says =
        after_says R (do_s s) asks (λ c i. i) N sealed_fit sealed_names sealed_shape sealed_last u as_queueing ∙
        ap (λ (U : State). with_notes U N) (sym (seal_quiet (state_of g t) s))

    pub sealed_ready : Ready g u
    sealed_ready = after_ready R (do_s s) asks (λ c i. i) N sealed_fit sealed_names sealed_shape sealed_last u as_queueing
