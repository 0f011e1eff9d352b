-- The queue over any calls: what the turns give begins with the queue that there was, so enough turns free all that is queued.
use mathlib.Core.Path.{◌≡◌, refl, sym, ap, ◌∙◌, subst}
use mathlib.Core.Logic.{inl, inr}
use mathlib.Core.Bool.{true, cond, ◌&&◌}
use mathlib.Core.List.{List, [], ◌∷◌}
use Prim.Native.Nat.{ℕ, suc, ◌+◌, ◌≤◌, ◌<◌}
use native.Mathlib.Omega.{arith}
use lib.Dec.{eqb}
use lib.ListN.{length}
use Rattle.answer.specs.Reply.{Reply, accepted, refused}
use Rattle.answer.proofs.Cases.{cases, either}
use Rattle.geometry.specs.declared.Geometry.{Geometry}
use Rattle.geometry.specs.Limits.{Inside, blocks}
use Rattle.model.specs.Lists.{In}
use Rattle.model.specs.Queue.{Move, joining, turning, resting, moved, moved_from, turn_frees, turns_free, turn_count, rounded_up}
use Rattle.model.specs.Held.{bit, tally, queued}
use Rattle.model.specs.Results.{blocks_in}
use Rattle.model.specs.State.{State}
use Rattle.model.specs.Window.{frees_along, queueing}
use Rattle.model.specs.Calls.{Account, looking, opening, freeing, closing, removing, reclaiming, placing, marking, renewing, account, left_by}
use Rattle.model.specs.Calls.{deleting, queued_closing, first_queued, reclaimed, acted, given, logged, result, effect}
use Rattle.model.specs.Book.{Some}
use Rattle.model.specs.History.{entry_of, state_from, history_from, was_accepted, queued_in}
use Rattle.model.specs.HistoryFacts.{Reclaims, turn_of, turns_in}
use Rattle.model.specs.Model.{Screened, answer, keep_or, model_after, model, state_after, history}
use Rattle.model.specs.Command.{Command}
use Rattle.model.specs.Command.{Begin, Write, Erase, Seal, Fork, Delete, Read, Barrier, Compress, FreeList, Estimate, Retain, Reclaim}
use Rattle.model.specs.Command.{Attach, Detach, Resolve}
use Rattle.model.proofs.ListFacts.{of_append}
use Rattle.model.proofs.QueueFacts.{in_first, turns_free_lem}
use Rattle.model.proofs.ResultFacts.{blocks_in_paired}
use Rattle.model.proofs.Tally.{tally_ext, length_is}
use Rattle.model.proofs.Waiting.{elem_in}
use Rattle.model.proofs.Queueing.{in_queue, queued_is}
use Rattle.model.proofs.ModelFacts.{accepted_is}
use Rattle.model.proofs.EachCall.{Is, is}
use Rattle.model.proofs.StepFacts.{reached}
use Rattle.model.proofs.Reckoning.{queued_reckoned}

-- ── each call as a move of the queue ──

abbrev move_by : State → Account → Move
move_by T (looking s cs res note) = resting
move_by T (opening cs a) = resting
move_by T (freeing cs a) = resting
move_by T (closing r) = joining T.view.birth (queued_closing T r)
move_by T (removing r) = joining T.view.birth (frees_along T.view (deleting T r ∷ []))
move_by T (reclaiming k) = turning k
move_by T (placing r x k) = resting
move_by T marking = resting
move_by T renewing = resting

abbrev move_of : State → Command → Reply → Move
move_of T c (accepted l) = move_by T (account c)
move_of T c (refused n) = resting

unfoldable pub moves_in : Geometry → State → List Screened → List Move
moves_in g T [] = []
moves_in g T (i ∷ l) = move_of T i.call (answer g T i) ∷ moves_in g (model_after g T i) l

queue_by : (g : Geometry) (T : State) (A : Account) → (left_by g T A).queue ≡ moved T.queue (move_by T A)
unfolding moved acted given logged queueing reclaimed
queue_by g T (looking s cs res note) = refl
queue_by g T (opening cs a) = refl
queue_by g T (freeing cs a) = refl
queue_by g T (closing r) = refl
queue_by g T (removing r) = refl
queue_by g T (reclaiming k) = refl
queue_by g T (placing r x k) = refl
queue_by g T marking = refl
queue_by g T renewing = refl

queue_next : (g : Geometry) (T : State) (i : Screened) → (model_after g T i).queue ≡ moved T.queue (move_of T i.call (answer g T i))
unfolding model_after moved
queue_next g T i = go (answer g T i)
  where
    go : (A : Reply) → (keep_or A T (effect g T i.call)).queue ≡ moved T.queue (move_of T i.call A)
    go (accepted l) = queue_by g T (account i.call)
    go (refused n) = refl

-- THE QUEUE AFTER SOME CALLS
pub queue_all : (g : Geometry) (l : List Screened) (T : State) → (state_from (model g) T l).queue ≡ moved_from T.queue (moves_in g T l)
unfolding moves_in
queue_all g [] T = refl
queue_all g (i ∷ l) T = queue_all g l (model_after g T i) ∙ ap (λ Q. moved_from Q (moves_in g (model_after g T i) l)) (queue_next g T i)

-- ── how many turns ──

turn_one : (k j m : ℕ) → cond (eqb j k) (suc m) m ≡ bit (eqb j k) + m
turn_one k j m =
    cases (either (eqb j k))
    (λ e. ap (λ t. cond t (suc m) m) e ∙ sym (ap (λ t. bit t + m) e ∙ let z : 1 + m ≡ suc m = omega arith in z))
    (λ e. ap (λ t. cond t (suc m) m) e ∙ sym (ap (λ t. bit t + m) e ∙ let z : 0 + m ≡ m = omega arith in z))

none_counted : (m : ℕ) → m ≡ 0 + m
none_counted m = omega arith

count_one : (T : State) (k : ℕ) (c : Command) (ms : List Move) → turn_count k (move_by T (account c) ∷ ms) ≡ bit (turn_of k c) + turn_count k ms
unfolding turn_count
count_one T k Begin ms = none_counted (turn_count k ms)
count_one T k (Write r x j) ms = none_counted (turn_count k ms)
count_one T k (Erase r x) ms = none_counted (turn_count k ms)
count_one T k (Seal r) ms = none_counted (turn_count k ms)
count_one T k (Fork r) ms = none_counted (turn_count k ms)
count_one T k (Delete r) ms = none_counted (turn_count k ms)
count_one T k (Read r x) ms = none_counted (turn_count k ms)
count_one T k Barrier ms = none_counted (turn_count k ms)
count_one T k Compress ms = none_counted (turn_count k ms)
count_one T k FreeList ms = none_counted (turn_count k ms)
count_one T k (Estimate r) ms = none_counted (turn_count k ms)
count_one T k (Retain r n) ms = none_counted (turn_count k ms)
count_one T k (Reclaim j) ms = turn_one k j (turn_count k ms)
count_one T k (Attach l r) ms = none_counted (turn_count k ms)
count_one T k (Detach l) ms = none_counted (turn_count k ms)
count_one T k (Resolve l) ms = none_counted (turn_count k ms)

count_of : (T : State) (k : ℕ) (c : Command) (A : Reply) (ms : List Move) →
    turn_count k (move_of T c A ∷ ms) ≡ bit (was_accepted A && turn_of k c) + turn_count k ms
unfolding turn_count
count_of T k c (accepted l) ms = count_one T k c ms
count_of T k c (refused n) ms = none_counted (turn_count k ms)

turns_counted : (g : Geometry) (k : ℕ) (l : List Screened) (T : State) → turn_count k (moves_in g T l) ≡ turns_in k (history_from (model g) T l)
unfolding moves_in turns_in turn_count
turns_counted g k [] T = refl
turns_counted g k (i ∷ l) T =
    count_of T k i.call (answer g T i) (moves_in g (model_after g T i) l) ∙
    ap (λ n. bit (was_accepted (answer g T i) && turn_of k i.call) + n) (turns_counted g k l (model_after g T i))

-- ── what a turn gives ──

-- the blocks of an accepted T are those that its move frees
turn_by : (g : Geometry) (T : State) (c : Command) (A : Account) (l : List ℕ) (b : ℕ) → account c ≡ A → Is c A → result g T c ≡ l →
    In b (turn_frees T.queue (move_by T A)) → Reclaims b (record { call = c; answer = accepted l })
unfolding turn_frees
turn_by g T c (looking s cs res note) l b d i e j = absurd j
turn_by g T c (opening cs a) l b d i e j = absurd j
turn_by g T c (freeing cs a) l b d i e j = absurd j
turn_by g T c (closing r) l b d i e j = absurd j
turn_by g T c (removing r) l b d i e j = absurd j
turn_by g T c (reclaiming k) l b d i e j = (
  k,
  l,
  i.0,
  refl,
  subst (λ m. In b (blocks_in m)) (sym (ap (result g T) i.0) ∙ e)
      (subst (In b) (sym (blocks_in_paired T.queue.birth (first_queued T k))) j),
)
turn_by g T c (placing r x k) l b d i e j = absurd j
turn_by g T c marking l b d i e j = absurd j
turn_by g T c renewing l b d i e j = absurd j

turn_given : (g : Geometry) (T : State) (i : Screened) (b : ℕ) → In b (turn_frees T.queue (move_of T i.call (answer g T i))) →
    Reclaims b (entry_of (model g) T i)
unfolding turn_frees
turn_given g T i b = go (answer g T i) refl
  where
    go : (A : Reply) → answer g T i ≡ A → In b (turn_frees T.queue (move_of T i.call A)) → Reclaims b (entry_of (model g) T i)
    go (accepted l) e j =
        subst (λ A. Reclaims b (record { call = i.call; answer = A })) (sym e)
        (turn_by g T i.call (account i.call) l b refl (is i.call) (accepted_is g T i l e).1 j)
    go (refused n) e j = absurd j

turns_given : (g : Geometry) (l : List Screened) (T : State) (b : ℕ) → In b (turns_free T.queue (moves_in g T l)) →
    Some (Reclaims b) (history_from (model g) T l)
unfolding moves_in
turns_given g [] T b i = absurd i
turns_given g (i ∷ l) T b j =
    let m = move_of T i.call (answer g T i) in
    let ms = moves_in g (model_after g T i) l in
    cases (of_append b (turn_frees T.queue m) (turns_free (moved T.queue m) ms) j)
    (λ k. inl (turn_given g T i b k))
    (λ k. inr (turns_given g l (model_after g T i) b (subst (λ Q. In b (turns_free Q ms)) (sym (queue_next g T i)) k)))

-- the blocks that an accepted T gives were in the queue
pub reclaims_queued : (g : Geometry) (T : State) (i : Screened) (b : ℕ) → Reclaims b (entry_of (model g) T i) → In b T.queue.list
reclaims_queued g T i b (k, l, c, a, j) =
    let e : result g T (Reclaim k) ≡ l = sym (ap (result g T) c) ∙ (accepted_is g T i l a).1 in
    let bs : blocks_in l ≡ first_queued T k = ap blocks_in (sym e) ∙ blocks_in_paired T.queue.birth (first_queued T k) in
    in_first k T.queue.list b (subst (In b) bs j)

-- ── over any calls ──

module _ (g : Geometry) (inside : Inside g) (before : List Screened) where
  abbrev now : State
  now = state_after g before

  -- as many blocks are reckoned queued as the queue has
  queued_many : tally (queued_in g.pages (history g before)) (blocks g) ≡ length now.queue.list
  queued_many =
      let F = (reached g inside before).fine in
      tally_ext (queued_in g.pages (history g before)) (queued now) (blocks g) (λ b h. sym (queued_reckoned g inside before b)) ∙
      sym (length_is now.queue.list (queued now) (blocks g) F.queue.once
      (λ b i. (omega (arith, F.queue.below b i, F.blocks), in_queue now b ((F.queue.births b).0 i)))
      (λ b h e. elem_in b now.queue.list (sym (queued_is now F.queue b) ∙ e)))

  -- a block that is reckoned queued is in the queue
  pub queued_in_lem : (b : ℕ) → queued_in g.pages (history g before) b ≡ true → In b now.queue.list
  queued_in_lem b e =
      elem_in b now.queue.list (sym (queued_is now (reached g inside before).fine.queue b) ∙ queued_reckoned g inside before b ∙ e)

  -- ENOUGH TURNS FREE ALL THAT IS QUEUED
  pub turns : (more : List Screened) (k : ℕ) → 0 < k →
      rounded_up (tally (queued_in g.pages (history g before)) (blocks g)) k ≤ turns_in k (history_from (model g) now more) →
      (b : ℕ) → queued_in g.pages (history g before) b ≡ true → Some (Reclaims b) (history_from (model g) now more)
  turns more k p h b e =
      turns_given g more now b
      (turns_free_lem now.queue k (moves_in g now more) p
      (subst (λ n. rounded_up n k ≤ turn_count k (moves_in g now more)) queued_many
      (subst (λ n. rounded_up (tally (queued_in g.pages (history g before)) (blocks g)) k ≤ n) (sym (turns_counted g k more now)) h))
      b (queued_in_lem b e))

  -- EACH BLOCK THAT A TURN GIVES WAS QUEUED
  pub turn_frees_queued : (i : Screened) (b : ℕ) → Reclaims b (entry_of (model g) now i) → queued_in g.pages (history g before) b ≡ true
  turn_frees_queued i b r =
      let F = (reached g inside before).fine.queue in
      sym (queued_reckoned g inside before b) ∙ in_queue now b ((F.births b).0 (reclaims_queued g now i b r))
