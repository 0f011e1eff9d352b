-- The theorems of the queue (specs/QueueMeans.antt), of the memory before and after a call.
use mathlib.Core.Path.{◌≡◌, refl, sym, ap, ap₂, ◌∙◌, subst}
use mathlib.Core.Logic.{inl, inr}
use mathlib.Core.Bool.{false, true≢false}
use mathlib.Core.List.{List, [], ◌++◌, map, append-nil}
use Prim.Native.Nat.{ℕ, ◌+◌, ◌-◌, ◌*◌, ◌≤◌, ◌<◌, min}
use native.Mathlib.Omega.{arith}
use lib.Dec.{eqb, ltb}
use lib.ListN.{length, take, length-map, take-append-drop}
use borrow.Author.Tests.{ltb-true, ltb-false, lt-ltb, le-ltb, not-false}
use Rattle.answer.specs.Reply.{Reply, accepted, refused}
use Rattle.answer.specs.Refusal.{place, Holds, NoneBefore, NoneHolds, leaves}
use Rattle.answer.proofs.Cases.{cases, lt?}
use Rattle.answer.proofs.Decided.{decide_accepts, decide_refused, decide_refuses}
use Rattle.geometry.specs.declared.Geometry.{Geometry}
use Rattle.geometry.specs.Limits.{fits}
use Rattle.geometry.proofs.Made.{fits_inside}
use Rattle.alloc_log.specs.Word.{released, write_at, bytes_of}
use Rattle.alloc_log.proofs.Writing.{write_none}
use Rattle.model.specs.Lists.{In}
use Rattle.model.specs.Results.{paired, blocks_in}
use Rattle.model.specs.Queue.{enqueued}
use Rattle.model.specs.Held.{frees}
use Rattle.model.specs.State.{State}
use Rattle.model.specs.Window.{frees_along, steps, queueing}
use Rattle.model.specs.Calls.{slot, deleting, first_queued, reclaimed, conditions, written, result}
use Rattle.model.specs.Layout.{state_of}
use Rattle.model.specs.Memory.{Memory, words_used, sound?, written_at, stored_by, all_conditions, reply, after}
use Rattle.model.specs.QueueMeans.{was, now, QueueOrder, NoWords, SealDeleteNot14, Turn, Turn14, TurnOfNone, HeldMeans}
use Rattle.model.specs.Command.{Command}
use Rattle.model.specs.Command.{Seal, Delete, Reclaim}
use Rattle.model.proofs.ListFacts.{cleared_in, cleared_out}
use Rattle.model.proofs.ByNumber.{test_of, none_at, or_false, true_at, at_true, earlier_at}
use Rattle.model.proofs.ResultFacts.{blocks_in_paired}
use Rattle.model.proofs.QueueFacts.{first_length}
use Rattle.model.proofs.Queueing.{held_on, held_queued, not_held}
use Rattle.model.proofs.DeleteOrder.{delete_order}
use Rattle.model.proofs.WindowFacts.{take_none}
use Rattle.model.proofs.Asked.{not_zero, asks_D}
use Rattle.model.proofs.SoundTest.{sound_iff}
use Rattle.model.proofs.Keeps.{accepted_is, accepted_state, accepted_log, sound_fine}
use Rattle.model.proofs.Demands.{all_ordered}
use Rattle.model.proofs.WindowTheorems.{queues_by}

-- ── D ──

pub queue_order : QueueOrder
unfolding queueing frees_along steps
queue_order g M r l e =
    let (A, i) = accepted_is g M (Delete r) l e in
    let T : State = was g M in
    let F = sound_fine g M.tables M.log A.sound in
    let past = none_at (conditions g T (Delete r)) A.none in
    let q = asks_D g A.inside T F r (past 8) (past 10) in
    let s = accepted_state g M (Delete r) l e in
    record {
      result = sym i;
      queues = queues_by g M (Delete r) (frees T.view (deleting T r))
          (ap (λ (U : State). U.queue) s ∙ ap (λ (m : List ℕ). enqueued T.queue T.view.birth m) (append-nil (frees T.view (deleting T r))))
          (ap (λ (U : State). U.used) s, ap (λ (U : State). U.mark) s, ap (λ (U : State). U.counter) s, ap (λ (U : State). U.writes) s)
          (ap (λ (U : State). U.waiting) s) (accepted_log g M (Delete r) l e ∙ write_none M.log _);
      order = delete_order T.view F.sound (slot T r) q.0 q.1;
      view = ap (λ (U : State). U.view) s;
      notes = ap (λ (U : State). U.notes) s;
    }

-- ── D and S write no word, and never meet 14 ──

-- a call without words that leaves the number of used words as it was
wordless : (g : Geometry) (M : Memory) (c : Command) → written g (was g M) c ≡ [] →
    ((l : List ℕ) → reply g M c ≡ accepted l → (now g M c).used ≡ (was g M).used) →
    ((after g M c).log ≡ M.log) × (words_used (after g M c) ≡ words_used M)
unfolding after state_of
wordless g M c w u = (kept (reply g M c), still (reply g M c) refl)
  where
    kept : (a : Reply) → leaves a M.log (write_at M.log (written_at (state_of g M.tables) c) (bytes_of (written g (state_of g M.tables) c))) ≡ M.log
    kept (refused n) = refl
    kept (accepted l) = ap (λ (ws : List ℕ). write_at M.log (written_at (state_of g M.tables) c) (bytes_of ws)) w ∙ write_none M.log _

    still : (a : Reply) → reply g M c ≡ a → lib.ListN.get_or (leaves (reply g M c) M.tables (stored_by g M.tables c)) 9 0 ≡ words_used M
    still (refused n) e = ap (λ (a : Reply). lib.ListN.get_or (leaves a M.tables (stored_by g M.tables c)) 9 0) e
    still (accepted l) e = u l e

pub no_words : NoWords
unfolding queueing
no_words g M c q =
    cases q
    (λ w. rw w.1 (wordless g M (Delete w.0) refl (λ l e. ap (λ (U : State). U.used) (accepted_state g M (Delete w.0) l e))))
    (λ w. rw w.1 (wordless g M (Seal w.0) refl (λ l e. ap (λ (U : State). U.used) (accepted_state g M (Seal w.0) l e))))

fourteen : (g : Geometry) (M : Memory) (c : Command) → reply g M c ≡ refused 14 → Holds 14 (all_conditions g M c) × NoneBefore 14 (all_conditions g M c)
unfolding reply
fourteen g M c e = decide_refused (all_conditions g M c) (result g (was g M) c) 1 14 (all_ordered g M c) e

pub seal_delete_not_14 : SealDeleteNot14
seal_delete_not_14 g M c q e =
    cases q
    (λ w.
    let c : Command = Delete w.0 in
    let h = (fourteen g M c (rw w.1 at e)).0 in
    true≢false (sym (true_at (all_conditions g M c) 1 (all_ordered g M c) 14 h)))
    (λ w.
    let c : Command = Seal w.0 in
    let h = (fourteen g M c (rw w.1 at e)).0 in
    true≢false (sym (true_at (all_conditions g M c) 1 (all_ordered g M c) 14 h)))

-- ── T ──

pub turn_is : Turn
unfolding state_of reclaimed
turn_is g M k l e =
    let (A, i) = accepted_is g M (Reclaim k) l e in
    let T : State = was g M in
    let bs : List ℕ = first_queued T k in
    let same : blocks_in l ≡ bs = ap blocks_in (sym i) ∙ blocks_in_paired T.queue.birth bs in
    let s = accepted_state g M (Reclaim k) l e in
    let range = or_false (eqb k 0) (ltb 64 k) (none_at (conditions g T (Reclaim k)) A.none 19) in
    record {
      low = not_zero k range.0;
      high = ltb-false 64 k range.1;
      parts = ap₂ (λ (a b : List ℕ). a ++ b) same (ap (λ (U : State). U.queue.list) s) ∙ take-append-drop k T.queue.list;
      many = ap length same ∙ first_length k T.queue.list;
      result = sym i ∙ ap (paired T.queue.birth) (sym same);
      gone = λ b h. ap (λ (U : State). U.queue.birth b) s ∙ cleared_in T.queue.birth bs b (subst (In b) same h);
      left = λ b n. ap (λ (U : State). U.queue.birth b) s ∙ cleared_out T.queue.birth bs b (λ h. n (subst (In b) (sym same) h));
      log = accepted_log g M (Reclaim k) l e ∙ ap (λ (m : List ℕ). write_at M.log (8 * words_used M) (bytes_of (map released m))) (sym same);
      used = ap (λ (U : State). U.used) s ∙ ap (λ n. words_used M + n) (length-map bs released ∙ ap length (sym same));
      waiting = ap (λ (U : State). U.waiting) s ∙ ap (λ (m : List ℕ). T.waiting ++ m) (sym same);
      view = ap (λ (U : State). U.view) s;
      notes = ap (λ (U : State). U.notes) s;
      mark = ap (λ (U : State). U.mark) s;
      counter = ap (λ (U : State). U.counter) s;
      writes = ap (λ (U : State). U.writes) s;
    }

-- how many words a turn writes
turn_words : (g : Geometry) (T : State) (k : ℕ) → length (written g T (Reclaim k)) ≡ min k (length T.queue.list)
turn_words g T k = length-map (first_queued T k) released ∙ first_length k T.queue.list

-- where none earlier than 14 is true the store is sound, so no more words are used than there are
used_few : (g : Geometry) (M : Memory) (c : Command) → NoneBefore 14 (all_conditions g M c) → words_used M ≤ g.words
unfolding state_of
used_few g M c n =
    let inside = fits_inside g (not-false (fits g) (earlier_at (all_conditions g M c) 14 n 2 (omega arith))) in
    ((sound_iff g inside M.tables M.log).0 (not-false (sound? g M.tables M.log) (earlier_at (all_conditions g M c) 14 n 4 (omega arith)))).range.used

pub turn_14 : Turn14
unfolding reply after state_of
turn_14 g M k =
    let T : State = was g M in
    let cs = all_conditions g M (Reclaim k) in
    let out = result g T (Reclaim k) in
    let many = turn_words g T k in
    record {
      exactly = (
        λ e.
            let w = fourteen g M (Reclaim k) e in
            let h = ltb-true (g.words - T.used) (length (written g T (Reclaim k))) (true_at cs 1 (all_ordered g M (Reclaim k)) 14 w.0) in
            (w.1, omega (arith, h, many)),
        λ w.
            let h = lt-ltb (g.words - T.used) (length (written g T (Reclaim k))) (omega (arith, w.1, many, used_few g M (Reclaim k) w.0)) in
            decide_refuses cs out 1 14 (all_ordered g M (Reclaim k)) (at_true cs 14 h) w.0,
      );
      unaltered = λ e. ap (λ (a : Reply). record {
        tables = leaves a M.tables (stored_by g M.tables (Reclaim k));
        log = leaves a M.log (write_at M.log (written_at T (Reclaim k)) (bytes_of (written g T (Reclaim k))));
        out = leaves a M.out (lib.Seq.sets M.out 0 out);
      }) e;
    }

pub turn_of_none : TurnOfNone
unfolding reply paired
turn_of_none g M k z n =
    let T : State = was g M in
    let cs = all_conditions g M (Reclaim k) in
    let none : first_queued T k ≡ [] = ap (take k) z ∙ take_none k in
    let few : length (written g T (Reclaim k)) ≤ g.words - T.used = omega (arith, ap (λ (m : List ℕ). length (map released m)) none) in
    let past : (m : ℕ) → place m < place 14 → test_of m cs ≡ false = earlier_at cs 14 n in
    let room = le-ltb (g.words - T.used) (length (written g T (Reclaim k))) few in
    let h : NoneHolds cs = (past 2 (omega arith), (past 3 (omega arith), (past 4 (omega arith), (past 19 (omega arith), (room, tt))))) in
    decide_accepts cs (result g T (Reclaim k)) h ∙ ap (λ (m : List ℕ). accepted (paired T.queue.birth m)) none

-- ── the held blocks of a sound store ──

pub held_means : HeldMeans
held_means g t log S b =
    let T : State = state_of g t in
    record {
      either = (
        λ e. cases (lt? 0 (T.view.birth b))
            (λ h. inl ((S.means.held b).0 h))
            (λ h. cases (lt? 0 (T.queue.birth b))
            (λ q. inr ((S.queue.births b).1 q))
            (λ q. absurd (true≢false (sym e ∙ not_held T b (omega arith) (omega arith))))),
        λ w. cases w
            (λ on. held_on T b ((S.means.held b).1 on))
            (λ i. held_queued T b ((S.queue.births b).0 i)),
      );
      apart = λ s x on i. let z : ⊥ = omega (arith, (S.means.held b).1 (s, x, on), S.queue.unborn b i) in z;
    }
