-- What waits in a state, and what is queued, is what is reckoned from the freed blocks, the accepted calls and the page book.
use mathlib.Core.Path.{◌≡◌, refl, sym, ap, ap₂, ◌∙◌, fun_ext}
use mathlib.Core.Bool.{Bool, true, false, cond, not, ◌&&◌, ◌||◌, or-false}
use mathlib.Core.List.{List, [], ◌∷◌, ◌++◌, map}
use Prim.Native.Nat.{ℕ, ◌<◌}
use native.Mathlib.Omega.{arith}
use lib.Dec.{eqb}
use lib.ListN.{length}
use Rattle.answer.specs.Reply.{Reply, accepted, refused}
use Rattle.answer.specs.Refusal.{NoneHolds}
use Rattle.answer.proofs.Cases.{cases, lt?}
use Rattle.geometry.specs.declared.Geometry.{Geometry}
use Rattle.geometry.specs.Limits.{Inside}
use Rattle.model.specs.Lists.{In, elem}
use Rattle.model.specs.Sound.{Sound}
use Rattle.model.specs.Actions.{Action}
use Rattle.model.specs.Held.{on_pages, queued, waits, frees}
use Rattle.model.specs.State.{State, QueueFits, fresh}
use Rattle.model.specs.Book.{Book, on_lines, empty_book, enter}
use Rattle.model.specs.Calls.{Account, looking, opening, freeing, closing, removing, reclaiming, placing, marking, renewing, account, left_by}
use Rattle.model.specs.Calls.{refusals_by, closes, deleting, first_queued, reclaimed, reclaimed_words, writing, acted, given, logged, effect}
use Rattle.model.specs.Window.{steps, frees_along, AsksAlong, queueing}
use Rattle.model.specs.History.{Event, free, Entry, entry_of, events_of, state_from, history_from, was_accepted, told, freed_among, syncs_by, syncs, synced?}
use Rattle.model.specs.History.{unsynced_after, unsynced_from, unsynced, queued_by, queued_after, queued_from, queued_in}
use Rattle.model.specs.Model.{Screened, answer, keep_or, model_after, model, state_after, history}
use Rattle.model.specs.Births.{moves_by, moves}
use Rattle.model.specs.Command.{Command}
use Rattle.model.proofs.CallKinds.{opens}
use Rattle.model.proofs.ListFacts.{in?, in_right, cleared_in, cleared_out}
use Rattle.model.proofs.QueueFacts.{overlaid_out}
use Rattle.model.proofs.Waiting.{in_elem, not_in_elem, elem_append}
use Rattle.model.proofs.WindowMoves.{Giveless, frees_along_is}
use Rattle.model.proofs.Queueing.{queueing_fits, on_pages_lem, off_pages, in_queue, not_in_queue}
use Rattle.model.proofs.EachCall.{Is, is, Fits, fits}
use Rattle.model.proofs.Closing.{closing_first, closing_asks, closing_giveless}
use Rattle.model.proofs.ModelFacts.{accepted_is}
use Rattle.model.proofs.StepFacts.{Reached, events_are, step, fresh_reached}
use Rattle.model.proofs.BookCount.{on_is}

-- the freed blocks of a list are among its events
freed_elem : (b : ℕ) (l : List ℕ) → freed_among b (map free l) ≡ elem b l
unfolding elem
freed_elem b [] = refl
freed_elem b (c ∷ l) = ap (λ t. eqb b c || t) (freed_elem b l)

-- ── one call ──

joins : (T : State) (b : ℕ) (l : List ℕ) → elem b (T.waiting ++ l) ≡ (elem b T.waiting || freed_among b (map free l))
joins T b l = elem_append b T.waiting l ∙ ap (λ t. elem b T.waiting || t) (sym (freed_elem b l))

same_or : (T : State) (b : ℕ) → elem b T.waiting ≡ (elem b T.waiting || false)
same_or T b = sym (or-false (elem b T.waiting))

waits_by : (g : Geometry) (T : State) (c : Command) (A : Account) → Is c A → (b : ℕ) →
    waits (left_by g T A) b ≡ cond (syncs_by A) false (waits T b || freed_among b (moves_by g T A))
unfolding waits acted queueing reclaimed given logged elem
waits_by g T c (looking s cs res note) f b = same_or T b
waits_by g T c (opening cs a) f b = ap (λ l. elem b (T.waiting ++ l)) (opens T.view (a T) (f T).0).empty ∙ joins T b []
waits_by g T c (freeing cs a) f b = joins T b (frees T.view (a T))
waits_by g T c (closing r) f b = same_or T b
waits_by g T c (removing r) f b = same_or T b
waits_by g T c (reclaiming k) f b = joins T b (first_queued T k)
waits_by g T c (placing r x k) f b = joins T b (frees T.view (writing g T r x k))
waits_by g T c marking f b = refl
waits_by g T c renewing f b = refl

effect_waits : (g : Geometry) (T : State) (c : Command) (b : ℕ) →
    waits (effect g T c) b ≡ cond (syncs c) false (waits T b || freed_among b (moves g T c))
effect_waits g T c b = waits_by g T c (account c) (is c) b

step_waits : (g : Geometry) (T : State) (i : Screened) (b : ℕ) → waits (model_after g T i) b ≡ unsynced_after (waits T) (entry_of (model g) T i) b
unfolding model_after
step_waits g T i b = go (answer g T i) refl
  where
    go : (A : Reply) → answer g T i ≡ A →
        waits (keep_or A T (effect g T i.call)) b ≡ cond (was_accepted A && syncs i.call) false (waits T b || freed_among b (events_of i.call A))
    go (refused n) e = sym (or-false (waits T b))
    go (accepted l) e =
        let w = accepted_is g T i l e in
        effect_waits g T i.call b ∙
        ap (λ v. cond (syncs i.call) false (waits T b || freed_among b v)) (sym (events_are g T i.call) ∙ ap (λ m. events_of i.call (accepted m)) w.1)

-- the reckoning looks at nothing but what waited
unsynced_ext : (u v : ℕ → Bool) (l : List Entry) → ((b : ℕ) → u b ≡ v b) → (b : ℕ) → unsynced_from u l b ≡ unsynced_from v l b
unsynced_ext u v [] h b = h b
unsynced_ext u v (e ∷ l) h b =
    unsynced_ext (unsynced_after u e) (unsynced_after v e) l (λ c. ap (λ t. cond (synced? e) false (t || freed_among c (events_of e.call e.answer))) (h c)) b

waits_from : (g : Geometry) (l : List Screened) (T : State) (b : ℕ) →
    waits (state_from (model g) T l) b ≡ unsynced_from (waits T) (history_from (model g) T l) b
waits_from g [] T b = refl
waits_from g (i ∷ l) T b =
    waits_from g l (model_after g T i) b ∙
    unsynced_ext (waits (model_after g T i)) (unsynced_after (waits T) (entry_of (model g) T i)) (history_from (model g) (model_after g T i) l) (step_waits g T i) b

-- WHAT WAITS IS WHAT IS RECKONED
pub waits_reckoned : (g : Geometry) (l : List Screened) (b : ℕ) → waits (state_after g l) b ≡ unsynced (history g l) b
unfolding waits fresh elem
waits_reckoned g l b = waits_from g l (fresh g) b ∙ unsynced_ext (waits (fresh g)) (λ c. false) (history g l) (λ c. refl) b

-- ── what is queued ──

or_off : (p q : Bool) → q ≡ false → (p || q) ≡ p
or_off p q e = ap (λ t. p || t) e ∙ or-false p

-- D and S queue what was on a page and is on none
queued_queueing : (T : State) (l : List Action) → Sound T.view → AsksAlong T.view l → Giveless l → QueueFits T → (b : ℕ) →
    queued (queueing T l) b ≡ (queued T b || (on_pages T.view b && not (on_pages (steps T.view l) b)))
queued_queueing T l S q g Q b =
    let f = frees_along_is T.view l S q g b in
    let fs = frees_along T.view l in
    cases (in? b fs)
    (λ i. in_queue (queueing T l) b (born_there i) ∙
    sym (ap₂ (λ s t. queued T b || (s && not t)) (on_pages_lem T.view b (f.0 i).0) (off_pages (steps T.view l) b (f.0 i).1) ∙ or_true (queued T b)))
    (λ n. same n ∙ sym (or_off (queued T b) (on_pages T.view b && not (on_pages (steps T.view l) b)) (none n)))
  where
    born_there : In b (frees_along T.view l) → 0 < (queueing T l).queue.birth b
    born_there i = ((queueing_fits T l S q g Q).births b).0 (unfold queueing in in_right b T.queue.list (frees_along T.view l) i)

    same : (In b (frees_along T.view l) → ⊥) → queued (queueing T l) b ≡ queued T b
    same n = unfold queueing in unfold queued in
        ap (λ v. not (eqb v 0)) (overlaid_out T.queue.birth T.view.birth (frees_along T.view l) b n)

    none : (In b (frees_along T.view l) → ⊥) → (on_pages T.view b && not (on_pages (steps T.view l) b)) ≡ false
    none n =
        cases (lt? 0 (T.view.birth b))
        (λ h. cases (lt? 0 ((steps T.view l).birth b))
        (λ k. ap₂ (λ s t. s && not t) (on_pages_lem T.view b h) (on_pages_lem (steps T.view l) b k))
        (λ k. absurd (n ((frees_along_is T.view l S q g b).1 (h, omega arith)))))
        (λ h. ap (λ s. s && not (on_pages (steps T.view l) b)) (off_pages T.view b (omega arith)))

    or_true : (p : Bool) → (p || true) ≡ true
    or_true true = refl
    or_true false = refl

-- T ends it
queued_reclaimed : (T : State) (k n : ℕ) → QueueFits T → (b : ℕ) → queued (reclaimed T k n) b ≡ (queued T b && not (elem b (first_queued T k)))
queued_reclaimed T k n Q b =
    cases (in? b (first_queued T k))
    (λ i. not_in_queue (reclaimed T k n) b (unfold reclaimed in cleared_in T.queue.birth (first_queued T k) b i) ∙
    sym (ap (λ t. queued T b && not t) (in_elem b (first_queued T k) i) ∙ and_false (queued T b)))
    (λ m. same m ∙
    sym (ap (λ t. queued T b && not t) (not_in_elem b (first_queued T k) m) ∙ and_true (queued T b)))
  where
    same : (In b (first_queued T k) → ⊥) → queued (reclaimed T k n) b ≡ queued T b
    same m = unfold reclaimed in unfold queued in ap (λ v. not (eqb v 0)) (cleared_out T.queue.birth (first_queued T k) b m)

    and_false : (p : Bool) → (p && false) ≡ false
    and_false true = refl
    and_false false = refl

    and_true : (p : Bool) → (p && true) ≡ p
    and_true true = refl
    and_true false = refl

module _ (g : Geometry) (inside : Inside g) (T : State) (B : Book) (E : List Event) (R : Reached g T B E) where
  -- of an accepted call, by its kind: C is the book after it
  queued_by_lem : (c : Command) (A : Account) → Is c A → Fits g T c A → NoneHolds (refusals_by g T A) → (C : Book) (b : ℕ) →
      on_lines g.pages C.lines b ≡ on_pages (left_by g T A).view b →
      queued (left_by g T A) b ≡ queued_by A g.pages (queued T) B C (moves_by g T A) b
  unfolding queued acted given logged queueing
  queued_by_lem c (looking s cs res note) i f n C b e = refl
  queued_by_lem c (opening cs a) i f n C b e = refl
  queued_by_lem c (freeing cs a) i f n C b e = refl
  queued_by_lem c (closing r) i f n C b e =
      let m = closing_first g T r n in
      queued_queueing T (closes T r) R.fine.sound (closing_asks g inside T R.fine r m) (closing_giveless g inside T R.fine r m) R.fine.queue b ∙
      ap₂ (λ s t. queued T b || (s && not t)) (sym (on_is g T B E R b)) (sym e)
  queued_by_lem c (removing r) i f n C b e =
      queued_queueing T (deleting T r ∷ []) R.fine.sound ((f n).asks, tt) (λ c y. y, tt) R.fine.queue b ∙
      ap₂ (λ s t. queued T b || (s && not t)) (sym (on_is g T B E R b)) (sym e)
  queued_by_lem c (reclaiming k) i f n C b e =
      queued_reclaimed T k (length (reclaimed_words T k)) R.fine.queue b ∙
      ap (λ t. queued T b && not t) (sym (freed_elem b (first_queued T k)))
  queued_by_lem c (placing r x k) i f n C b e = refl
  queued_by_lem c marking i f n C b e = refl
  queued_by_lem c renewing i f n C b e = refl

  step_queued : (i : Screened) (b : ℕ) → queued (model_after g T i) b ≡ queued_after g.pages B (queued T) (entry_of (model g) T i) b
  unfolding model_after
  step_queued i b = go (answer g T i) refl
    where
      P : ℕ
      P = g.pages

      next : Reached g (model_after g T i) (enter P B (told (entry_of (model g) T i))) (E ++ events_of i.call (answer g T i))
      next = step g inside T B E R i

      on_next : (l : List ℕ) → answer g T i ≡ accepted l →
          on_lines P (enter P B (told (entry_of (model g) T i))).lines b ≡ on_pages (effect g T i.call).view b
      on_next l e =
          on_is g (model_after g T i) (enter P B (told (entry_of (model g) T i))) (E ++ events_of i.call (answer g T i)) next b ∙
          ap (λ A. on_pages (keep_or A T (effect g T i.call)).view b) e

      go : (A : Reply) → answer g T i ≡ A → queued (model_after g T i) b ≡
          cond (was_accepted A)
          (queued_by (account i.call) P (queued T) B (enter P B (told (entry_of (model g) T i))) (events_of i.call A) b) (queued T b)
      go (refused n) e = ap (λ A. queued (keep_or A T (effect g T i.call)) b) e
      go (accepted l) e =
          let w = accepted_is g T i l e in
          let C : Book = enter P B (told (entry_of (model g) T i)) in
          ap (λ A. queued (keep_or A T (effect g T i.call)) b) e ∙
          queued_by_lem i.call (account i.call) (is i.call) (fits g inside T R.fine i.call) w.0 C b (on_next l e) ∙
          ap (λ v. queued_by (account i.call) P (queued T) B C v b)
          (sym (events_are g T i.call) ∙ ap (λ m. events_of i.call (accepted m)) w.1)

queued_from_lem : (g : Geometry) → Inside g → (l : List Screened) (T : State) (B : Book) (E : List Event) → Reached g T B E → (b : ℕ) →
    queued (state_from (model g) T l) b ≡ queued_from g.pages B (queued T) (history_from (model g) T l) b
queued_from_lem g inside [] T B E R b = refl
queued_from_lem g inside (i ∷ l) T B E R b =
    let C : Book = enter g.pages B (told (entry_of (model g) T i)) in
    queued_from_lem g inside l (model_after g T i) C (E ++ events_of i.call (answer g T i)) (step g inside T B E R i) b ∙
    ap (λ q. queued_from g.pages C q (history_from (model g) (model_after g T i) l) b) (fun_ext (step_queued g inside T B E R i))

-- WHAT IS QUEUED IS WHAT IS RECKONED
pub queued_reckoned : (g : Geometry) → Inside g → (l : List Screened) (b : ℕ) → queued (state_after g l) b ≡ queued_in g.pages (history g l) b
unfolding queued fresh
queued_reckoned g inside l b = queued_from_lem g inside l (fresh g) empty_book [] (fresh_reached g inside) b
