-- The theorems of the window, of the memory before and after a call.
use mathlib.Core.Path.{◌≡◌, sym, ap, ◌∙◌, subst}
use mathlib.Core.List.{List, [], ◌∷◌}
use Prim.Native.Nat.{ℕ, zero, suc, ◌+◌, ◌<◌}
use native.Mathlib.Omega.{arith}
use lib.Dec.{eqb, ltb}
use borrow.Author.Tests.{ltb-false}
use Rattle.answer.specs.Reply.{accepted}
use Rattle.answer.proofs.Cases.{cases}
use Rattle.geometry.specs.declared.Geometry.{Geometry}
use Rattle.alloc_log.proofs.Writing.{write_none}
use Rattle.model.specs.View.{View}
use Rattle.model.specs.Lists.{In}
use Rattle.model.specs.Queue.{Queue, enqueued}
use Rattle.model.specs.Sound.{Sound}
use Rattle.model.specs.Effects.{begin, fork}
use Rattle.model.specs.Actions.{do_s, Asks, done, vacant}
use Rattle.model.specs.State.{State}
use Rattle.model.specs.Calls.{slot, new_slot, window_of, closes, queued_closing, acted, conditions}
use Rattle.model.specs.Window.{steps, victims, queueing, WindowStops, WindowTakes}
use Rattle.model.specs.Layout.{state_of}
use Rattle.model.specs.Memory.{Memory, reply, after}
use Rattle.model.specs.QueueMeans.{was, now, Queues}
use Rattle.model.specs.WindowMeans.{sealed_view, StopsThere, Took, TakesOldest, Takes, QueuesThem, RetainOnly, BeginBare, ForkBare, SealPasses}
use Rattle.model.specs.Command.{Command}
use Rattle.model.specs.Command.{Begin, Seal, Fork, Retain}
use Rattle.model.proofs.TabFacts.{put_same, put_other}
use Rattle.model.proofs.QueueFacts.{overlaid_in, overlaid_out}
use Rattle.model.proofs.DoneSound.{spare, done_sound}
use Rattle.model.proofs.ListFacts.{in?}
use Rattle.model.proofs.ByNumber.{none_at, or_false}
use Rattle.model.proofs.BookFacts.{grow_grown, seal_grown}
use Rattle.model.proofs.WindowFacts.{window_orders}
use Rattle.model.proofs.WindowSeal.{seal_stops, seal_takes, seal_num}
use Rattle.model.proofs.Asked.{Fine, not_zero, named_slot}
use Rattle.model.proofs.Closing.{closing_first, seals}
use Rattle.model.proofs.Keeps.{Accepted, accepted_is, accepted_state, accepted_log, sound_fine}

-- ── what the window takes, of the view after the seal and the view after the call ──

module _ (K L : View) (names : ℕ → ℕ) (n r : ℕ) (w : WindowTakes K L names n r) where
  -- what left the store are the victims
  is_victim : (s : ℕ) → Took K L s → In s (victims K names n r)
  is_victim s (h, z) = cases (in? s (victims K names n r)) (λ i. i) (λ m. absurd (let y : ⊥ = omega (arith, w.num s m) in y))

  is_windowed : (m s : ℕ) → In s (victims K names m r) → 0 < m
  unfolding victims
  is_windowed zero s i = absurd i
  is_windowed (suc m) s i = omega arith

  stays : (s : ℕ) → 0 < L.num s → In s (victims K names n r) → ⊥
  stays s h i = let z : ⊥ = omega (arith, w.gone s i) in z

  pub takes_oldest : TakesOldest K L names n r
  takes_oldest = record {
    windowed = λ s t. is_windowed n s (is_victim s t);
    sealed = λ s t. w.sealed s (is_victim s t);
    not_newest = λ s t. w.not_newest s (is_victim s t);
    unforked = λ s t. w.unforked s (is_victim s t);
    nameless = λ s t. w.nameless s (is_victim s t);
    oldest = λ s t u i m f c h. w.oldest s t (is_victim s u) i m f c (stays t h);
    needed = λ s t. w.needed s (is_victim s t);
    num = λ s h. w.num s (stays s h);
    is_open = w.is_open;
    base = w.base;
    page = w.page;
  }

-- ── S ──

module _ (g : Geometry) (M : Memory) (r : ℕ) (l : List ℕ) (e : reply g M (Seal r) ≡ accepted l) where
  abbrev T : State
  T = state_of g M.tables

  A : Accepted g M (Seal r)
  A = (accepted_is g M (Seal r) l e).0

  F : Fine g (state_of g M.tables)
  F = sound_fine g M.tables M.log A.sound

  q : Asks (state_of g M.tables).view (do_s (slot (state_of g M.tables) r))
  q = seals g A.inside T F r (closing_first g T r A.none)

  left : (now g M (Seal r)).view ≡ steps (state_of g M.tables).view (closes (state_of g M.tables) r)
  unfolding queueing
  left = ap (λ U. U.view) (accepted_state g M (Seal r) l e)

  sound : Sound (done (state_of g M.tables).view (do_s (slot (state_of g M.tables) r)))
  sound = done_sound T.view (do_s (slot T r)) F.sound q

  took : WindowTakes (sealed_view g M r) (now g M (Seal r)).view (was g M).notes.names (window_of (was g M) r) (slot (was g M) r)
  took =
      subst (λ L. WindowTakes (sealed_view g M r) L T.notes.names (window_of T r) (slot T r)) (sym left)
      (seal_takes T.view (slot T r) F.sound q T.notes.names (window_of T r))

pub window_stops : StopsThere
window_stops g M r l e h =
    subst (λ L. WindowStops L (was g M).notes.names (window_of (was g M) r) (slot (was g M) r)) (sym (left g M r l e))
    (seal_stops (was g M).view (slot (was g M) r) (F g M r l e).sound (q g M r l e) (was g M).notes.names (window_of (was g M) r) h)

pub window_takes : Takes
window_takes g M r l e =
    takes_oldest (sealed_view g M r) (now g M (Seal r)).view (was g M).notes.names (window_of (was g M) r) (slot (was g M) r) (took g M r l e)

-- ── what it queues ──

-- marks, counter and counts are as they were
abbrev pub SameTurn : Geometry → Memory → Command → Type 0
SameTurn g M c =
    ((now g M c).used ≡ (was g M).used) × ((now g M c).mark ≡ (was g M).mark) × ((now g M c).counter ≡ (was g M).counter) ×
    ((now g M c).writes ≡ (was g M).writes)

-- the blocks of l joined the queue, and no word was written
pub queues_by : (g : Geometry) (M : Memory) (c : Command) (l : List ℕ) → (now g M c).queue ≡ enqueued (was g M).queue (was g M).view.birth l →
    SameTurn g M c → (now g M c).waiting ≡ (was g M).waiting → (after g M c).log ≡ M.log → Queues g M c l
unfolding state_of
queues_by g M c l q u w log =
    let T : State = was g M in
    record {
      list = ap (λ (Q : Queue). Q.list) q;
      births = λ b i. ap (λ (Q : Queue). Q.birth b) q ∙ overlaid_in T.queue.birth T.view.birth l b i;
      others = λ b n. ap (λ (Q : Queue). Q.birth b) q ∙ overlaid_out T.queue.birth T.view.birth l b n;
      log = log;
      used = u.0;
      waiting = w;
      mark = u.1;
      counter = u.2;
      writes = u.3;
    }

pub window_queues : QueuesThem
unfolding queueing
window_queues g M r l e =
    let T = was g M in
    let a = q g M r l e in
    let S = (F g M r l e).sound in
    let s = accepted_state g M (Seal r) l e in
    record {
      result = sym (accepted_is g M (Seal r) l e).1;
      queues = queues_by g M (Seal r) (queued_closing T r) (ap (λ U. U.queue) s)
          (ap (λ U. U.used) s, ap (λ U. U.mark) s, ap (λ U. U.counter) s, ap (λ U. U.writes) s) (ap (λ U. U.waiting) s)
          (accepted_log g M (Seal r) l e ∙ write_none M.log _);
      order = window_orders (done T.view (do_s (slot T r))) T.notes.names (window_of T r) (slot T r) (sound g M r l e)
          (omega (arith, seal_num T.view (slot T r) S a, a.0));
    }

-- ── K ──

pub retain_only : RetainOnly
retain_only g M r n l e =
    let (A, i) = accepted_is g M (Retain r n) l e in
    let T = was g M in
    let F = sound_fine g M.tables M.log A.sound in
    let past = none_at (conditions g T (Retain r n)) A.none in
    let h = named_slot g A.inside T F r (past 8) in
    let b = or_false (eqb n 0) (ltb 62 n) (past 15) in
    let s = accepted_state g M (Retain r n) l e in
    record {
      result = sym i;
      low = not_zero n b.0;
      high = ltb-false 62 n b.1;
      live = h.0;
      number = h.1;
      is_open = not_zero (T.view.is_open (slot T r)) (past 9);
      only = record {
        here = ap (λ U. U.notes.window (slot T r)) s ∙ put_same T.notes.window (slot T r) n;
        others = λ t d. ap (λ U. U.notes.window t) s ∙ put_other T.notes.window (slot T r) n t d;
        names = ap (λ U. U.notes.names) s;
        titles = ap (λ U. U.notes.titles) s;
        view = ap (λ U. U.view) s;
        mark = ap (λ U. U.mark) s;
        counter = ap (λ U. U.counter) s;
        writes = ap (λ U. U.writes) s;
        used = ap (λ U. U.used) s;
        waiting = ap (λ U. U.waiting) s;
        queue = ap (λ U. U.queue) s;
      };
      log = accepted_log g M (Retain r n) l e ∙ write_none M.log _;
    }

-- ── new lines ──

pub begin_bare : BeginBare
unfolding acted begin
begin_bare g M l e =
    let (A, i) = accepted_is g M Begin l e in
    let T = was g M in
    let s = accepted_state g M Begin l e in
    let f = new_slot T in
    let G = grow_grown T.view f 0 0 (spare T.view (not_zero (vacant T.view) (none_at (conditions g T Begin) A.none 11))).1 in
    let n : (now g M Begin).view.num f ≡ T.view.last + 1 = ap (λ U. U.view.num f) s ∙ G.num_f in
    record {
      slot = f;
      result = sym i ∙ ap {B = List ℕ} (λ k. k ∷ []) (let z : suc T.view.last ≡ (now g M Begin).view.num f = omega arith in z);
      number = n;
      window = ap (λ U. U.notes.window f) s ∙ put_same T.notes.window f 0;
      others = λ t d. ap (λ U. U.notes.window t) s ∙ put_other T.notes.window f 0 t d;
    }

pub fork_bare : ForkBare
unfolding acted fork
fork_bare g M r l e =
    let (A, i) = accepted_is g M (Fork r) l e in
    let T = was g M in
    let s = accepted_state g M (Fork r) l e in
    let f = new_slot T in
    let eleven = none_at (conditions g T (Fork r)) A.none 11 in
    let G = grow_grown T.view f 0 (suc (slot T r)) (spare T.view (not_zero (vacant T.view) eleven)).1 in
    let n : (now g M (Fork r)).view.num f ≡ T.view.last + 1 = ap (λ U. U.view.num f) s ∙ G.num_f in
    record {
      slot = f;
      result = sym i ∙ ap {B = List ℕ} (λ k. k ∷ []) (let z : suc T.view.last ≡ (now g M (Fork r)).view.num f = omega arith in z);
      number = n;
      window = ap (λ U. U.notes.window f) s ∙ put_same T.notes.window f 0;
      others = λ t d. ap (λ U. U.notes.window t) s ∙ put_other T.notes.window f 0 t d;
    }

pub seal_passes : SealPasses
unfolding queueing
seal_passes g M r l e =
    let T = was g M in
    let s = accepted_state g M (Seal r) l e in
    let f = new_slot T in
    let a = q g M r l e in
    let G = seal_grown T.view (slot T r) f (spare T.view a.2).1 in
    let t = took g M r l e in
    record {
      slot = f;
      number = t.num f (λ i. let z : ⊥ = omega (
        arith,
        t.not_newest f i,
        G.num_f,
        seal_num T.view (slot T r) (F g M r l e).sound a,
        ((F g M r l e).sound.links.records (slot T r) a.0).given,
      ) in z) ∙ G.num_f;
      window = ap (λ U. U.notes.window f) s ∙ put_same T.notes.window f (window_of T r);
      others = λ t d. ap (λ U. U.notes.window t) s ∙ put_other T.notes.window f (window_of T r) t d;
    }
