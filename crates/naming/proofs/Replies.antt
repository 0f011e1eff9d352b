-- What any call leaves, by its reply.
use mathlib.Core.Path.{◌≡◌, sym}
use mathlib.Core.List.{List}
use Prim.Native.Nat.{ℕ}
use Rattle.answer.specs.Reply.{accepted, refused, reply_of}
use Rattle.answer.specs.Refusal.{NoneHolds}
use Rattle.std.specs.Prelude.{Err}
use Rattle.answer.specs.declared.Refusal.{Refusal}
use Rattle.answer.specs.Number.{number_of}
use Rattle.answer.proofs.Decided.{decide_accepts}
use Rattle.geometry.specs.declared.Geometry.{Geometry}
use Rattle.model.specs.Calls.{conditions, result}
use Rattle.model.specs.Command.{Command}
use Rattle.model.specs.Layout.{state_of}
use Rattle.tables.specs.Outcome.{replied, tables_left, out_left}

module _ (g : Geometry) (t : List ℕ) (c : Command) where
  pub refuse_reply : (r : Refusal) → replied g t c ≡ refused (number_of r) → (out : List ℕ) → reply_of (Err r) out ≡ replied g t c
  unfolding reply_of
  refuse_reply r e out = sym e

  module _ {n : ℕ} (e : replied g t c ≡ refused n) where
    pub refuse_tables : t ≡ tables_left g t c
    unfolding tables_left
    refuse_tables = rw e

    pub refuse_out : (out : List ℕ) → out ≡ out_left g t out c
    unfolding out_left
    refuse_out out = rw e

  pub accept_replied : NoneHolds (conditions g (state_of g t) c) → replied g t c ≡ accepted (result g (state_of g t) c)
  unfolding replied
  accept_replied n = decide_accepts (conditions g (state_of g t) c) (result g (state_of g t) c) n
