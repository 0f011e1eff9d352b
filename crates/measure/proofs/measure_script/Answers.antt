-- `measure_script`: before the first line there is no store, and the arrays are long enough.
use mathlib.Core.Path.{ap}
use Prim.Native.Nat.{ℕ}
use lib.ListN.{length-replicate}
use Rattle.geometry.specs.Limits.{most_tables, most_log, most_out}
use Rattle.session.specs.declared.Session.{Session}
use Rattle.serving.proofs.Serving.{no_store_kept}
use Rattle.measure.proofs.Measuring.{measures}
use native.Mathlib.Omega.{arith}
use Rattle.measure.proofs.measure_script.Goals as goal

pub serve_part-served-requires : goal.serve_part-served-requires
serve_part-served-requires c =
    let none = ap (λ (s : Session). s.made) c.start-session.ensures in
    no_store_kept _ _ _ _ none (omega (arith, length-replicate {A = ℕ} most_tables 0)) (omega (arith, length-replicate {A = ℕ} most_log 0))
    (omega (arith, length-replicate {A = ℕ} most_out 0))

pub returns : goal.returns
returns c = let both = measures _ _ _ c.serve_part-served.result _ _ c.start-session.ensures c.serve_part-served.ensures in record {
  count = both.0;
  replies = both.1;
}
