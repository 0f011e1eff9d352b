-- How many numbers an accepted call gives: at most one and two for each block, or four, so a result buffer that is long enough has room for them.
use mathlib.Core.Path.{◌≡◌, subst}
use mathlib.Core.Logic.{inl, inr}
use mathlib.Core.List.{List}
use Prim.Native.Nat.{ℕ, zero, suc, ◌*◌, ◌≤◌, ◌<◌}
use native.Mathlib.Omega.{arith}
use lib.ListN.{length}
use Rattle.answer.specs.Reply.{accepted}
use Rattle.answer.specs.Refusal.{NoneHolds}
use Rattle.answer.proofs.Cases.{cases}
use Rattle.geometry.specs.declared.Geometry.{Geometry}
use Rattle.geometry.specs.Limits.{Inside, blocks}
use Rattle.model.specs.Results.{paired}
use Rattle.model.specs.Held.{erased, frees}
use Rattle.model.specs.State.{State}
use Rattle.model.specs.Calls.{Account, looking, opening, freeing, closing, removing, reclaiming, placing, marking, renewing, account, refusals_by}
use Rattle.model.specs.Calls.{result_by, slot, first_queued, conditions, result}
use Rattle.model.specs.Layout.{state_of}
use Rattle.model.specs.Memory.{Memory, reply}
use Rattle.model.specs.Command.{Command}
use Rattle.model.proofs.CallKinds.{none_left, frees_only}
use Rattle.model.proofs.EachCall.{Is, is, Fits, fits}
use Rattle.model.proofs.Fine.{Fine}
pub use Rattle.model.proofs.Few.{erased_one, Few}
use Rattle.model.proofs.Few.{frees_few}
use Rattle.model.proofs.Keeps.{accepted_is, sound_fine}
use Rattle.model.proofs.QueueFacts.{parts_length}
use Rattle.model.proofs.ShapeFacts.{fits_few}
use Rattle.model.proofs.ResultFacts.{paired_length}

-- there is a block
one_block : (a p : ℕ) → 1 ≤ a → 1 ≤ p → 1 ≤ a * p
one_block zero p h k = omega arith
one_block (suc a) p h k = omega arith

module _ (g : Geometry) (inside : Inside g) (T : State) (R : Fine g T) where
  some : 1 ≤ blocks g
  some = one_block g.arenas g.per inside.arenas_least inside.per_least

  -- the block of a page, if it is freed, with its birth
  one_erased : (r x : ℕ) → length (paired T.view.birth (erased T.view (slot T r) (T.view.page (slot T r) x))) ≤ 2
  one_erased r x =
      omega (
        arith,
        paired_length T.view.birth (erased T.view (slot T r) (T.view.page (slot T r) x)),
        erased_one T.view (slot T r) (T.view.page (slot T r) x),
      )

  -- a block is in the queue once at most
  queue_few : length T.queue.list ≤ blocks g
  queue_few = omega (arith, fits_few T R.queue, R.blocks)

  first_few : (k : ℕ) → length (first_queued T k) ≤ blocks g
  first_few k = omega (arith, parts_length k T.queue.list, queue_few)

  few_by : (c : Command) (A : Account) → Is c A → Fits g T c A → NoneHolds (refusals_by g T A) → Few g (result_by g T A)
  few_by c (looking s cs res note) i f n = (f n).0
  few_by c (opening cs a) i f n = inl (omega (arith, some))
  few_by c (freeing cs a) i f n =
      let q = (f (none_left (cs g T) _ n)).asks in
      inl (omega (
        arith,
        paired_length T.view.birth (frees T.view (a T)),
        frees_few T.view (a T) R.sound q (frees_only T.view (a T) R.sound (i g T).0).no_gift,
        R.blocks,
      ))
  few_by c (closing r) i f n = inl (omega arith)
  few_by c (removing r) i f n = inl (omega arith)
  few_by c (reclaiming k) i f n = inl (omega (arith, paired_length T.queue.birth (first_queued T k), first_few k))
  few_by c (placing r x k) i f n = inr (omega (arith, one_erased r x))
  few_by c marking i f n = inl (omega arith)
  few_by c renewing i f n = inl (omega (arith, some))

  pub result_le : (c : Command) → NoneHolds (conditions g T c) → Few g (result g T c)
  result_le c n = few_by c (account c) (is c) (fits g inside T R c) n

pub accepted_le : (g : Geometry) (M : Memory) (c : Command) (l : List ℕ) → reply g M c ≡ accepted l → Few g l
accepted_le g M c l e =
    let (A, r) = accepted_is g M c l e in
    subst (Few g) r (result_le g A.inside (state_of g M.tables) (sound_fine g M.tables M.log A.sound) c A.none)

-- the result buffer of an accepted call is longer than the result
pub accepted_short : (g : Geometry) (M : Memory) (c : Command) (l : List ℕ) → reply g M c ≡ accepted l → length l < length M.out
accepted_short g M c l e =
    let long = (accepted_is g M c l e).0.long.out in cases (accepted_le g M c l e) (λ h. omega (arith, h, long)) (λ h. omega (arith, h, long))
