-- The record in slot s leaves the store: the blocks that only it had are queued, its deadlist is dropped, its number is 0.
use mathlib.Core.Path.{◌≡◌, refl, sym, ap, ◌∙◌}
use mathlib.Core.Logic.{inl, inr}
use mathlib.Core.List.{List, [], ◌∷◌, ◌++◌}
use Prim.Native.Nat.{ℕ, zero, suc, ◌+◌, ◌≤◌, ◌<◌}
use native.Mathlib.Omega.{arith}
use native.Mathlib.Numerals.{add-one}
use lib.ListN.{length, get_or, set, take, length-append}
use lib.Seq.{sets, length-sets, get_or-take, length-take-le, take-suc}
use Rattle.geometry.specs.declared.Geometry.{Geometry}
use Rattle.geometry.specs.Limits.{blocks}
use Rattle.model.specs.Lists.{In, Once}
use Rattle.model.specs.View.{View}
use Rattle.model.specs.Queue.{enqueued}
use Rattle.model.specs.State.{State, with_queue, QueueFits}
use Rattle.model.specs.Actions.{do_d, Asks, follower, delete_at, delete}
use Rattle.model.specs.Held.{deleted}
use Rattle.model.specs.Window.{queueing}
use Rattle.model.specs.Layout.{num_cell, length_cell, view_of, state_of, stored}
use Rattle.model.proofs.TabFacts.{put_other}
use Rattle.model.proofs.HeldFacts.{deleted_held, deleted_once}
use Rattle.model.proofs.Sizes.{done_sized}
use Rattle.model.proofs.Waiting.{once_short}
use Rattle.model.proofs.Queueing.{queueing_fits, queueing_one}
use Rattle.model.proofs.Shape.{Shaped}
use Rattle.tables.specs.Ready.{Roomy, Ready}
use Rattle.tables.specs.Births.{queued}
use Rattle.tables.specs.Puts.{with_num, with_prev, with_list, with_queued, with_births}
use Rattle.tables.proofs.Fields
use Rattle.tables.proofs.Ranges
use Rattle.tables.proofs.Matches.{unlink_is, prune_is}
use Rattle.tables.proofs.Steps.{Holds, holds_as, holds_first, holds_length, holds_says, step_num}
use Rattle.tables.proofs.Lists.{step_dropped, rest_said}
use Rattle.tables.proofs.QueueStores.{with_all_queued, queued_none, queued_next, queued_length, queued_count, step_queued}
use Rattle.deleting.specs.Stages.{bypassed, unhooked, queued_all, removed}
use Rattle.tables.proofs.Sets.{get_first, take_sets}
use Rattle.deleting.proofs.Bypassing.{apart, bypassed_shaped}

-- tables of the same length have room too
pub roomy_as : {g : Geometry} {t u : List ℕ} → length u ≡ length t → Roomy g t → Roomy g u
roomy_as e r = record { inside = r.inside; room = omega (arith, r.room) }

-- ── blocks are queued one after another ──

module _ (R N : ℕ) where
  pub queue_start : (t gone : List ℕ) → t ≡ queued_all R N t (take 0 gone)
  unfolding queued_all
  queue_start t gone = refl

  queue_snoc : (l t : List ℕ) (b : ℕ) → queued R N (queued_all R N t l) b ≡ queued_all R N t (l ++ (b ∷ []))
  unfolding queued_all
  queue_snoc [] t b = refl
  queue_snoc (c ∷ l) t b = queue_snoc l (queued R N t c) b

  -- block b follows those before it: the tables, their length, and how many are queued
  module _ (t t₁ : List ℕ) (b : ℕ) (d : t₁ ≡ queued R N t b) where
    pub queue_turn : (t₀ gone : List ℕ) (i : ℕ) → i < length gone → t ≡ queued_all R N t₀ (take i gone) → b ≡ get_or gone i 0 →
        t₁ ≡ queued_all R N t₀ (take (i + 1) gone)
    queue_turn t₀ gone i h e eb =
        d ∙ ap (λ (u : List ℕ). queued R N u b) e ∙ queue_snoc (take i gone) t₀ b ∙ ap (λ c. queued_all R N t₀ (take i gone ++ (c ∷ []))) eb ∙
        ap (queued_all R N t₀) (sym (ap (λ j. take j gone) (add-one i) ∙ take-suc gone i 0 h))

    pub length_turn : length t₁ ≡ length t
    length_turn = ap length d ∙ queued_length R N t b

    pub count_turn : (i k : ℕ) → 10 < length t → get_or t 10 0 ≡ k + i → get_or t₁ 10 0 ≡ k + (i + 1)
    count_turn i k h e = omega (arith, ap (λ (u : List ℕ). get_or u 10 0) d, queued_count R N t b h)

-- the blocks of a list leave their pages, and are queued in its order: none is twice in it, each has a birth, and there is room for them
step_all : (g : Geometry) (t₀ : List ℕ) → Roomy g t₀ → (l : List ℕ) {T : State} {t : List ℕ} → Holds g t₀ T t → Once l →
    ((b : ℕ) → In b l → b < blocks g) → ((b : ℕ) → In b l → 0 < T.view.birth b) → length T.queue.list + length l ≤ blocks g →
    Holds g t₀ (with_all_queued T l) (queued_all g.records (blocks g) t l)
unfolding queued_all with_queued
step_all g t₀ roomy [] {T} H o h born few = holds_as g t₀ refl (sym (queued_none T)) H
step_all g t₀ roomy (b ∷ l) {T} H o h born few =
    holds_as g t₀ refl (queued_next T b l (λ i. o.0 b i refl))
    (step_all g t₀ roomy l (step_queued g t₀ roomy H b (h b (inl refl)) (born b (inl refl)) (omega arith)) o.1
    (λ c i. h c (inr i))
    (λ c i. omega (arith, put_other T.view.birth b 0 c (λ e. o.0 c i (sym e)), born c (inr i)))
    (omega (arith, length-append T.queue.list (b ∷ []))))

-- ── the record leaves ──

-- with the link of what follows, it is the action D of the state
pub removed_is : (T : State) (s f : ℕ) → follower T.view s ≡ f → removed T s f ≡ queueing T (do_d s ∷ [])
unfolding removed delete
removed_is T s f e = ap (removed T s) (sym e) ∙ sym (queueing_one T (do_d s))

module _ {g : Geometry} {t₀ : List ℕ} (R : Ready g t₀) (s : ℕ) (asks : Asks (view_of g t₀) (do_d s)) where
  abbrev K : View
  K = view_of g t₀

  abbrev T : State
  T = state_of g t₀

  slot : s < g.records
  slot = Ranges.slot_in R s asks.0

  unhooked_shaped : (f : ℕ) → follower K s ≡ f → Shaped g (unhooked T s f)
  unfolding unhooked
  unhooked_shaped zero e = (holds_first R).shaped
  unhooked_shaped (suc n) e = bypassed_shaped R s n asks e

  unhooked_list : (f : ℕ) → follower K s ≡ f → (unhooked T s f).view.list s ≡ T.view.list s
  unfolding unhooked bypassed with_prev with_list
  unhooked_list zero e = refl
  unhooked_list (suc n) e = put_other T.view.list n _ s (apart R s n asks e)

  unhooked_births : (f : ℕ) → (unhooked T s f).view.birth ≡ T.view.birth
  unfolding unhooked bypassed with_prev with_list
  unhooked_births zero = refl
  unhooked_births (suc n) = refl

  unhooked_queue : (f : ℕ) → (unhooked T s f).queue ≡ T.queue
  unfolding unhooked bypassed with_prev with_list
  unhooked_queue zero = refl
  unhooked_queue (suc n) = refl

  left_is : (f : ℕ) → with_num (with_list (with_all_queued (unhooked T s f) (deleted K s f)) s []) s 0 ≡ removed T s f
  unfolding with_num with_list with_births with_prev unhooked bypassed removed deleted delete_at state_of
  left_is zero = ap (λ U. with_queue U (enqueued T.queue K.birth (deleted K s zero))) (prune_is T s)
  left_is (suc n) = ap (λ U. with_queue U (enqueued T.queue K.birth (deleted K s (suc n)))) (unlink_is T s n)

  -- there is room for what is to be queued
  as_many : (queueing T (do_d s ∷ [])).view.blocks ≡ blocks g
  unfolding state_of
  as_many = ap (λ (U : State). U.view.blocks) (queueing_one T (do_d s)) ∙ (done_sized K (do_d s)).blocks ∙ Fields.blocks_is g t₀

  queue_fits : QueueFits (queueing T (do_d s ∷ []))
  unfolding state_of
  queue_fits = queueing_fits T (do_d s ∷ []) (Ranges.sound R) (asks, tt) (λ c i. i, tt) R.queue

  deleted_fit : (f : ℕ) → follower K s ≡ f → length (T.queue.list ++ deleted K s f) ≤ blocks g
  unfolding state_of
  deleted_fit f e =
      omega (
        arith,
        once_short (queueing T (do_d s ∷ [])).queue.list (blocks g) queue_fits.once (λ b i. omega (arith, queue_fits.below b i, as_many)),
        ap (λ (U : State). length U.queue.list) (queueing_one T (do_d s)),
        ap (λ m. length (T.queue.list ++ deleted K s m)) e,
      )

  module _ (f : ℕ) (follows : follower (view_of g t₀) s ≡ f) (t₁ : List ℕ) (e₁ : t₁ ≡ stored g (unhooked (state_of g t₀) s f) t₀) where
    first : Holds g t₀ (unhooked T s f) t₁
    first = record { is = e₁; shaped = unhooked_shaped f follows }

    blocks_in_lem : (b : ℕ) → In b (deleted K s f) → b < blocks g
    blocks_in_lem b i = Ranges.held_in_lem R b (deleted_held K s f (Ranges.sound R) asks.0 b i)

    fit : length (unhooked T s f).queue.list + length (deleted K s f) ≤ blocks g
    fit = omega (arith, deleted_fit f follows, length-append T.queue.list (deleted K s f), ap (λ Q. length Q.list) (unhooked_queue f))

    pub leave_roomy : Roomy g t₁
    leave_roomy = roomy_as (holds_length g t₀ R.roomy first) R.roomy

    -- the buffer lists the blocks that are gone
    module _ (o₀ o₁ : List ℕ) (eo : o₁ ≡ sets o₀ 0 (deleted (view_of g t₀) s f)) (room : length (deleted (view_of g t₀) s f) ≤ length o₀)
        (count : ℕ) (ec : count ≡ length (deleted (view_of g t₀) s f)) where
      abbrev F : List ℕ
      F = deleted (view_of g t₀) s f

      listed : take count o₁ ≡ F
      listed = ap (take count) eo ∙ take_sets o₀ F count ec room

      pub leave_room : count ≤ length o₁
      leave_room = omega (arith, ap length eo, length-sets o₀ 0 F)

      pub leave_long : count ≡ length (take count o₁)
      leave_long = sym (length-take-le count o₁ leave_room)

      pub leave_below : (k : ℕ) → k < length (take count o₁) → get_or (take count o₁) k 0 < blocks g
      leave_below k h =
          let i : k < count = omega (arith, leave_long) in
          let e : get_or (take count o₁) k 0 ≡ get_or F k 0 =
          get_or-take count o₁ k 0 i ∙ ap (λ (u : List ℕ). get_or u k 0) eo ∙ get_first F o₀ k (omega arith) (omega arith) in
          rw e (blocks_in_lem (get_or F k 0) (Ranges.in_get_d F k (omega arith)))

      pub leave_fit : get_or t₁ 10 0 + length (take count o₁) ≤ blocks g
      leave_fit =
          omega (arith, fit, leave_long, Fields.queue_length_lem g t₁, ap (λ (U : State). length U.queue.list) (holds_says g t₀ R.roomy first))

      module _ (t₂ : List ℕ) (e₂ : t₂ ≡ queued_all g.records (blocks g) t₁ (take count o₁)) where
        U : State
        U = with_all_queued (unhooked T s f) F

        queued_held : Holds g t₀ U t₂
        unfolding U state_of
        queued_held =
            holds_as g t₀ (e₂ ∙ ap (queued_all g.records (blocks g) t₁) listed) refl
            (step_all g t₀ R.roomy F first (deleted_once K s f (Ranges.sound R) asks.0) blocks_in_lem
            (λ b i. omega (arith, ap (λ (h : ℕ → ℕ). h b) (unhooked_births f), deleted_held K s f (Ranges.sound R) asks.0 b i))
            fit)

        list_same : U.view.list s ≡ T.view.list s
        unfolding U with_births
        list_same = unhooked_list f follows

        pub leave_tables : set (set t₂ (length_cell s) 0) (num_cell s) 0 ≡ stored g (removed (state_of g t₀) s f) t₀
        unfolding U
        leave_tables =
            (holds_as g t₀ refl (left_is f)
            (step_num g t₀ R.roomy (step_dropped g t₀ R.roomy queued_held s slot (rest_said g t₀ (U.view.list s) s slot list_same 0)) s 0 slot)).is
