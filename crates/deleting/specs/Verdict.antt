-- The verdict on a deletion, in the order of its refusals.
use Rattle.std.specs.Prelude.{cond, ℕ, eqb, ltb, Result, Ok, Err}
use Rattle.model.specs.Actions.{slot_of, follower, forked}
use Rattle.model.specs.State.{State}
use Rattle.model.specs.Calls.{slot}
use Rattle.answer.specs.declared.Refusal.{Refusal}
use Rattle.answer.specs.declared.Refusal.TheVariants.{NoSuchRecord, HasFork, HasName}

unfoldable pub verdict_of : State → ℕ → Result (ℕ × ℕ) Refusal
verdict_of T r =
    cond (eqb (slot_of T.view r) 0) (Err NoSuchRecord)
    (cond (ltb 0 (forked T.view (slot T r))) (Err HasFork)
    (cond (ltb 0 (T.notes.names (slot T r))) (Err HasName) (Ok (slot T r, follower T.view (slot T r)))))
