-- Q answered as the ledger says: the blocks that a deletion would queue, no words, and the shards that it would empty.
use mathlib.Core.Path.{◌≡◌, refl, sym, ap, ◌∙◌, subst}
use mathlib.Core.Bool.{Bool, false, not}
use mathlib.Core.List.{List, [], ◌∷◌}
use Prim.Native.Nat.{ℕ, zero, suc, ◌+◌, ◌-◌}
use native.Mathlib.Numerals.{add-one}
use native.Mathlib.Omega.{arith}
use lib.Dec.{eqb, ltb}
use lib.ListN.{length, length-append}
use borrow.Author.Tests.{le-ltb}
use Rattle.answer.proofs.Cases.{cases, either}
use Rattle.geometry.specs.declared.Geometry.{Geometry}
use Rattle.geometry.specs.Limits.{Inside}
use Rattle.model.specs.Lists.{keep_if}
use Rattle.model.specs.Results.{numbers_of}
use Rattle.model.specs.View.{pred_num}
use Rattle.model.specs.Deadlists.{shard}
use Rattle.model.specs.Held.{bit, tally, shards_above, shards_freed}
use Rattle.model.specs.Actions.{follower, slot_of}
use Rattle.model.specs.State.{State}
use Rattle.model.specs.Calls.{slot}
use Rattle.model.specs.Command.{Estimate}
use Rattle.model.proofs.Fine.{Fine}
use Rattle.model.proofs.ListFacts.{keep_append}
use Rattle.model.proofs.Tally.{tally_ext}
use Rattle.ledger.specs.BookReading.{is_there, following}
use Rattle.ledger.specs.Ledger.{Ledger, rising, shard_of, shards_if, account, says}
use Rattle.ledger.proofs.BookRead.{Reading}
use Rattle.ledger.proofs.RisingFacts.{rising_cut}
use Rattle.ledger.proofs.Tells.{Tells, Answered}
use Rattle.ledger.proofs.NamesRead.{named_told}
use Rattle.ledger.proofs.CallsTold.{there_told, slot_told}
use Rattle.ledger.proofs.DeleteTold.{follow_none, follow_some, shard_told, freed_told, fork_told}

-- how many of k rising numbers pass
module _ (t : ℕ → Bool) where
  kept_one : (b : ℕ) → length (keep_if t (rising b 1)) ≡ bit (t b)
  unfolding keep_if rising
  kept_one b = cases (either (t b)) (λ y. rw y) (λ n. rw n)

  kept_count_lem : (b k : ℕ) → length (keep_if t (rising b k)) ≡ tally (λ i. t (b + i)) k
  unfolding tally keep_if rising
  kept_count_lem b zero = refl
  kept_count_lem b (suc k) =
      ap (λ (n : ℕ). length (keep_if t (rising b n))) (sym (add-one k)) ∙ ap (λ (l : List ℕ). length (keep_if t l)) (rising_cut b k 1) ∙
      ap (λ (l : List ℕ). length l) (keep_append t (rising b k) (rising (b + k) 1)) ∙
      omega (arith, length-append (keep_if t (rising b k)) (keep_if t (rising (b + k) 1)), kept_one (b + k), kept_count_lem b k)

pub shards_told : (g : Geometry) (L : Ledger) (T : State) → Inside g → Fine g T → Tells g L T → (r : ℕ) → eqb (slot_of T.view r) 0 ≡ false →
    shards_if L r (following L.book r) ≡ shards_freed T.view (slot T r) (follower T.view (slot T r))
unfolding shards_if shards_freed shards_above
shards_told g L T inside fine t r n =
    let (w, e) = slot_told g L T inside fine t r n in
    subst (λ (z : ℕ). shards_if L r (following L.book r) ≡ shards_freed T.view z (follower T.view z)) e (go w (following L.book r) refl)
  where
    go : (w : Reading T.view L.book r) (f : List ℕ) → following L.book r ≡ f →
        shards_if L r f ≡ shards_freed T.view w.slot (follower T.view w.slot)
    go w [] e =
        let z = follow_none T.view L.book fine.sound t.book t.once w.slot w.live (ap (following L.book) w.number ∙ e) in
        rw z
    go w (m ∷ l) e =
        let K = T.view in
        let s = w.slot in
        let p = pred_num K s in
        let (u, hu, eu, en, z) = follow_some K L.book fine.sound t.book t.once s w.live m l (ap (following L.book) w.number ∙ e) in
        rw (z, w.pred)
        (ap (λ (k : ℕ). length (keep_if (λ v. ltb 0 (length (shard_of L m v))) (rising (suc p) (k - p)))) t.book.last ∙
        kept_count_lem (λ v. ltb 0 (length (shard_of L m v))) (suc p) (K.last - p) ∙
        tally_ext (λ i. ltb 0 (length (shard_of L m (suc p + i)))) (λ i. ltb 0 (length (shard K u (suc (p + i))))) (K.last - p) (λ i h.
        ap (λ (v : ℕ). ltb 0 (length (shard_of L m v))) (omega arith) ∙
        ap (λ (k : List ℕ). ltb 0 (length k)) (shard_told g L T t m u (suc (p + i)) hu en)))

pub estimate_answered : (r : ℕ) → Answered (Estimate r)
unfolding says account numbers_of
estimate_answered r g L T inside fine t =
    let none : ltb (g.words - length L.log) 0 ≡ false = le-ltb (g.words - length L.log) 0 (omega arith) in
    let there : not (is_there L.book r) ≡ eqb (slot_of T.view r) 0 = there_told T.view L.book r fine.sound t.book in
    rw (none, there)
    (cases (either (eqb (slot_of T.view r) 0))
    (λ y. rw y)
    (λ n.
    rw (n, fork_told g L T inside fine t r n, named_told g L T inside fine t r n, freed_told g L T inside fine t r n, shards_told g L T inside fine t r n)))
