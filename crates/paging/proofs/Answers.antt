-- What an answer says and leaves, told of the reply: a refusal leaves everything, an accepted call gives its result.
use mathlib.Core.Path.{◌≡◌, sym, ap, ◌∙◌}
use mathlib.Core.List.{List}
use Prim.Native.Nat.{ℕ, ◌≤◌}
use native.Mathlib.Omega.{arith}
use lib.ListN.{length, take, drop}
use lib.Seq.{sets, sets-eq, take_at}
use Rattle.answer.specs.Reply.{accepted, refused, reply_of}
use Rattle.answer.specs.Refusal.{leaves, NoneHolds}
use Rattle.std.specs.Prelude.{Ok, Err}
use Rattle.answer.specs.Number.{number_of}
use Rattle.answer.specs.declared.Refusal.{Refusal}
use Rattle.answer.proofs.Decided.{decide_accepts}
use Rattle.geometry.specs.declared.Geometry.{Geometry}
use Rattle.alloc_log.specs.Word.{write_at, bytes_of}
use Rattle.model.specs.Command.{Command}
use Rattle.model.specs.Calls.{conditions, result, written}
use Rattle.model.specs.Layout.{state_of}
use Rattle.model.specs.Memory.{written_at, stored_by}
use Rattle.tables.specs.Outcome.{replied, tables_left, log_left, out_left}

-- the first numbers of a buffer that a result was put into
pub take_sets : (l out : List ℕ) (n : ℕ) → length l ≡ n → n ≤ length out → take n (sets out 0 l) ≡ l
take_sets l out n e h =
    ap (take n) (sets-eq l out 0 (omega arith)) ∙ take_at l (drop (Prim.Native.Nat.◌+◌ 0 (length l)) out) n e

module _ (g : Geometry) (t : List ℕ) (c : Command) where
  -- ── a refusal ──

  module _ (k : Refusal) (e : replied g t c ≡ refused (number_of k)) where
    pub refused_out : (out : List ℕ) → (reply_of (Err k) out ≡ replied g t c) × (out ≡ out_left g t out c)
    unfolding reply_of out_left
    refused_out out = (sym e, sym (ap (λ r. leaves r out (sets out 0 (result g (state_of g t) c))) e))

    pub refused_tables : t ≡ tables_left g t c
    unfolding tables_left
    refused_tables = sym (ap (λ r. leaves r t (stored_by g t c)) e)

    pub refused_log : (log : List ℕ) → log ≡ log_left g t log c
    unfolding log_left
    refused_log log = sym (ap (λ r. leaves r log (write_at log (written_at (state_of g t) c) (bytes_of (written g (state_of g t) c)))) e)

  -- ── an accepted call ──

  module _ (none : NoneHolds (conditions g (state_of g t) c)) where
    pub accepts : replied g t c ≡ accepted (result g (state_of g t) c)
    unfolding replied
    accepts = decide_accepts (conditions g (state_of g t) c) (result g (state_of g t) c) none

    pub done_out : (n : ℕ) (out w : List ℕ) → n ≡ length (result g (state_of g t) c) → n ≤ length out → w ≡ sets out 0 (result g (state_of g t) c) →
        (reply_of (Ok n) w ≡ replied g t c) × (w ≡ out_left g t out c)
    unfolding reply_of out_left
    done_out n out w e h d = (
      ap accepted (ap (take n) d ∙ take_sets (result g (state_of g t) c) out n (sym e) h) ∙ sym accepts,
      d ∙ sym (ap (λ r. leaves r out (sets out 0 (result g (state_of g t) c))) accepts),
    )

    pub done_tables : (u : List ℕ) → u ≡ stored_by g t c → u ≡ tables_left g t c
    unfolding tables_left
    done_tables u d = d ∙ sym (ap (λ r. leaves r t (stored_by g t c)) accepts)

    pub done_log : (log w : List ℕ) → w ≡ write_at log (written_at (state_of g t) c) (bytes_of (written g (state_of g t) c)) → w ≡ log_left g t log c
    unfolding log_left
    done_log log w d = d ∙ sym (ap (λ r. leaves r log (write_at log (written_at (state_of g t) c) (bytes_of (written g (state_of g t) c)))) accepts)
