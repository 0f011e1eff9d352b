-- What a call leaves of the log and of the result buffer, told by the ledger.
use mathlib.Core.Path.{◌≡◌, refl, sym, ap, ap₂, ◌∙◌}
use mathlib.Core.Bool.{cond}
use mathlib.Core.List.{List, [], ◌++◌}
use Prim.Native.Nat.{ℕ, ◌*◌, ◌≤◌}
use native.Mathlib.Nat.{zero-add}
use native.Mathlib.Omega.{arith}
use lib.ListN.{length, drop}
use lib.Seq.{sets, sets-eq}
use Rattle.answer.specs.Reply.{Reply, accepted, refused}
use Rattle.answer.specs.Refusal.{leaves}
use Rattle.answer.proofs.Cases.{cases, either}
use Rattle.geometry.specs.declared.Geometry.{Geometry}
use Rattle.geometry.specs.Limits.{Inside}
use Rattle.alloc_log.specs.Word.{bytes_of, write_at}
use Rattle.model.specs.State.{State}
use Rattle.model.specs.Calls.{result, written}
use Rattle.model.specs.Crash.{is_c}
use Rattle.model.specs.Layout.{state_of}
use Rattle.model.specs.Memory.{Memory, written_at, reply, after}
use Rattle.model.specs.Command.{Command}
use Rattle.model.proofs.Fine.{Fine}
use Rattle.model.proofs.Keeps.{accepted_is}
use Rattle.model.proofs.ResultSize.{accepted_short}
use Rattle.ledger.specs.Ledger.{Ledger, account}
use Rattle.ledger.specs.Told.{out_after}
use Rattle.ledger.proofs.Tells.{Tells}
use Rattle.ledger.proofs.EachTold.{told}
use Rattle.ledger.proofs.LogTold.{words_told}

-- numbers at the start of a buffer that has room for them
sets_front : (l out : List ℕ) → length l ≤ length out → sets out 0 l ≡ l ++ drop (length l) out
sets_front l out h = sets-eq l out 0 (omega arith) ∙ ap (λ (k : ℕ). l ++ drop k out) (zero-add (length l))

-- THE RESULT BUFFER: the reply's numbers, and nothing else
pub out_left_lem : (g : Geometry) (N : Memory) (c : Command) → (after g N c).out ≡ out_after (reply g N c) N.out
unfolding after out_after
out_left_lem g N c = go (reply g N c) refl
  where
    go : (r : Reply) → reply g N c ≡ r → leaves r N.out (sets N.out 0 (result g (state_of g N.tables) c)) ≡ out_after r N.out
    go (refused n) e = refl
    go (accepted l) e =
        ap (λ (m : List ℕ). sets N.out 0 m) (accepted_is g N c l e).1 ∙ sets_front l N.out (omega (arith, accepted_short g N c l e))

-- the words of a call go behind those that are there, those of C to the start
written_at_lem : (g : Geometry) (L : Ledger) (T : State) → Tells g L T → (c : Command) → written_at T c ≡ 8 * length (account g L c).leaving.log
written_at_lem g L T t c =
    cases (either (is_c c))
    (λ y. ap (λ b. cond b 0 (8 * T.used)) y ∙ sym (ap (λ (m : List ℕ). 8 * length m) ((told c).log g L ∙ ap (λ b. cond b [] L.log) y)))
    (λ y. ap (λ b. cond b 0 (8 * T.used)) y ∙ ap (λ (n : ℕ). 8 * n) t.used ∙
    sym (ap (λ (m : List ℕ). 8 * length m) ((told c).log g L ∙ ap (λ b. cond b [] L.log) y)))

-- THE LOG: the ledger's words, and every other byte as it was
pub log_left_lem : (g : Geometry) (L : Ledger) → Inside g → (N : Memory) → Fine g (state_of g N.tables) → Tells g L (state_of g N.tables) → (c : Command) →
    (after g N c).log ≡ leaves (reply g N c) N.log (write_at N.log (8 * length (account g L c).leaving.log) (bytes_of (account g L c).words))
unfolding after
log_left_lem g L inside N fine t c = go (reply g N c) refl
  where
    go : (r : Reply) → reply g N c ≡ r →
        leaves r N.log (write_at N.log (written_at (state_of g N.tables) c) (bytes_of (written g (state_of g N.tables) c))) ≡
        leaves r N.log (write_at N.log (8 * length (account g L c).leaving.log) (bytes_of (account g L c).words))
    go (refused n) e = refl
    go (accepted l) e =
        ap₂ (λ (n : ℕ) (ws : List ℕ). write_at N.log n (bytes_of ws)) (written_at_lem g L (state_of g N.tables) t c)
        (sym (words_told g L (state_of g N.tables) inside fine t c (accepted_is g N c l e).0.none))
