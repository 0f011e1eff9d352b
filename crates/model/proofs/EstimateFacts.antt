-- Q foretells how many blocks a deletion queues, and changes nothing (3.12).
use mathlib.Core.Path.{◌≡◌, refl, sym, ap, ap₂, ◌∙◌, subst}
use mathlib.Core.List.{List, [], ◌∷◌, ◌++◌, append-nil}
use Prim.Native.Nat.{ℕ, zero, suc, ◌+◌}
use native.Mathlib.Omega.{arith}
use lib.ListN.{length, length-append}
use Rattle.answer.specs.Reply.{Reply, accepted, refused}
use Rattle.answer.specs.Refusal.{leaves}
use Rattle.answer.proofs.Decided.{decide_accepts}
use Rattle.geometry.specs.declared.Geometry.{Geometry}
use Rattle.alloc_log.specs.Word.{write_at, bytes_of}
use Rattle.alloc_log.proofs.Writing.{write_none}
use Rattle.model.specs.View.{View, pred_num}
use Rattle.model.specs.Sound.{Sound}
use Rattle.model.specs.Actions.{follower}
use Rattle.model.specs.Held.{frees, shards_freed}
use Rattle.model.specs.State.{State}
use Rattle.model.specs.Window.{frees_along, queueing}
use Rattle.model.specs.Calls.{slot, deleting, conditions}
use Rattle.model.specs.Layout.{state_of, stored}
use Rattle.model.specs.Memory.{Memory, lent, words_used, written_at, reply, after}
use Rattle.model.specs.Estimate.{EstimateStill, EstimateRefusals, behind, queue_length, EstimateTrue, EstimateEnough, ShardsCounted, ShardsAreCounted}
use Rattle.model.specs.Command.{Delete, Estimate}
use Rattle.model.proofs.ByNumber.{none_at}
use Rattle.model.proofs.DoneSound.{hit, miss}
use Rattle.model.proofs.Fine.{named_slot}
use Rattle.model.proofs.Keeps.{Accepted, accepted_is, accepted_state, sound_fine}
use Rattle.model.proofs.Replies.{reply_sound}
use Rattle.model.proofs.Restored.{stored_state}
use Rattle.model.proofs.ShardFacts.{births_above}

-- ── it has D's refusals ──

pub estimate_refusals : EstimateRefusals
estimate_refusals g M r = refl

-- ── it changes nothing ──

pub estimate_still : EstimateStill
unfolding after
estimate_still g M r = go (reply g M (Estimate r)) refl
  where
    T : State
    T = state_of g M.tables

    go : (a : Reply) → reply g M (Estimate r) ≡ a →
        (leaves a M.tables (stored g (state_of g M.tables) M.tables) ≡ M.tables) ×
        (leaves a M.log (write_at M.log (written_at (state_of g M.tables) (Estimate r)) (bytes_of [])) ≡ M.log)
    go (refused n) e = (refl, refl)
    go (accepted l) e =
        let A = (accepted_is g M (Estimate r) l e).0 in
        (stored_state g M.tables A.sound.made A.sound.free A.long.tables, write_none M.log _)

-- ── a D behind it ──

-- what it meets
met : (g : Geometry) (M : Memory) (r : ℕ) (out : List ℕ) → behind g M r out ≡ lent M.tables M.log out
met g M r out = let (t, l) = estimate_still g M r in ap₂ (λ (a b : List ℕ). lent a b out) t l

-- what an accepted D leaves: the queue is so many blocks longer, and no word was written
queue_after_lem : (g : Geometry) (N : Memory) (r : ℕ) (l : List ℕ) → reply g N (Delete r) ≡ accepted l →
    queue_length g (after g N (Delete r)) ≡ queue_length g N + length (frees (state_of g N.tables).view (deleting (state_of g N.tables) r))
unfolding queueing frees_along
queue_after_lem g N r l e =
    let T : State = state_of g N.tables in
    ap (λ (U : State). length U.queue.list) (accepted_state g N (Delete r) l e) ∙
    length-append T.queue.list (frees T.view (deleting T r) ++ []) ∙
    ap (λ (m : List ℕ). length T.queue.list + length m) (append-nil (frees T.view (deleting T r)))

words_after_lem : (g : Geometry) (N : Memory) (r : ℕ) (l : List ℕ) → reply g N (Delete r) ≡ accepted l → words_used (after g N (Delete r)) ≡ words_used N
unfolding state_of queueing
words_after_lem g N r l e = ap (λ (T : State). T.used) (accepted_state g N (Delete r) l e)

pub estimate_true : EstimateTrue
estimate_true g M r q e =
    let T : State = state_of g M.tables in
    record {
      blocks = length (frees T.view (deleting T r));
      words = 0;
      shards = shards_freed T.view (slot T r) (follower T.view (slot T r));
      three = sym (accepted_is g M (Estimate r) q e).1;
      none = refl;
      exactly = λ out. rw (met g M r out) (λ l d. (
        queue_after_lem g (lent M.tables M.log out) r l d,
        omega (arith, words_after_lem g (lent M.tables M.log out) r l d),
      ));
    }

-- ── that D is accepted ──

pub estimate_enough : EstimateEnough
estimate_enough g M r q out e long =
    let N : Memory = lent M.tables M.log out in
    let A : Accepted g M (Estimate r) = (accepted_is g M (Estimate r) q e).0 in
    ap (λ (m : Memory). reply g m (Delete r)) (met g M r out) ∙
    reply_sound g N (Delete r) A.inside (record { tables = A.long.tables; log = A.long.log; out = long }) A.sound ∙
    decide_accepts (conditions g (state_of g M.tables) (Delete r)) [] A.none

-- ── the shards ──

module _ (K : View) (S : Sound K) (s : ℕ) where
  counted : (l : ℕ) → follower K s ≡ l → ShardsCounted K s (shards_freed K s l)
  unfolding follower shards_freed
  counted zero e = record { next = λ n h p. absurd (miss K S K.prev (suc s) e n h p); none = λ h. refl }
  counted (suc m) e =
      let (hm, pm) = hit K S K.prev (suc s) m e in
      record {
        next = λ n h p. rw (S.links.one n m s h hm p pm) (births_above K m (pred_num K s) S);
        none = λ h. absurd (h m hm pm);
      }

pub shards_counted : ShardsAreCounted
shards_counted g M r a w v s e there =
    let (A, is) = accepted_is g M (Estimate r) (a ∷ w ∷ v ∷ []) e in
    let T : State = state_of g M.tables in
    let F = sound_fine g M.tables M.log A.sound in
    let here = named_slot g A.inside T F r (none_at (conditions g T (Estimate r)) A.none 8) in
    let at : slot T r ≡ s = F.sound.links.apart (slot T r) s here.0 (here.1 ∙ sym there.number) in
    let third : shards_freed T.view (slot T r) (follower T.view (slot T r)) ≡ v = ap (λ l. lib.ListN.get_or l 2 0) is in
    subst (λ (n : ℕ). ShardsCounted T.view n v) at
    (subst (ShardsCounted T.view (slot T r)) third (counted T.view F.sound (slot T r) (follower T.view (slot T r)) refl))
