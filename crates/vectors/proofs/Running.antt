-- What the loop over parts keeps: the lengths of its arrays, and what a session keeps.
use mathlib.Core.Path.{◌≡◌}
use mathlib.Core.List.{List}
use Prim.Native.Nat.{ℕ}
use native.Mathlib.Omega.{arith}
use lib.ListN.{length, replicate, length-replicate}
use Rattle.geometry.specs.Limits.{most_tables, most_log, most_out}
use Rattle.session.specs.declared.Session.{Session}
use Rattle.session.specs.Step.{Kept}
use Rattle.serving.proofs.Serving.{no_store_kept}

pub record Running (s : Session) (t log out replies : List ℕ) : Type 0 where
  pub tables : length t ≡ most_tables
  pub words : length log ≡ most_log
  pub numbers : length out ≡ most_out
  pub buffer : length replies ≡ 65536
  pub kept : Kept s t log out

-- before the first line
pub running : (s : Session) → s.made ≡ 0 → Running s (replicate most_tables 0) (replicate most_log 0) (replicate most_out 0) (replicate 65536 0)
running s e =
    let t = length-replicate {A = ℕ} most_tables 0 in
    let l = length-replicate {A = ℕ} most_log 0 in
    let o = length-replicate {A = ℕ} most_out 0 in
    record { tables = t; words = l; numbers = o; buffer = l; kept = no_store_kept s _ _ _ e (omega arith) (omega arith) (omega arith) }
