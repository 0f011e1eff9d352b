-- The blocks are listed, sorted, and their stretches counted.
use native.Mathlib.Omega.{arith}
use mathlib.Core.Path.{◌∙◌}
use Rattle.deleting.proofs.Estimating
use Rattle.deleting.proofs.estimate.count_shards.Goals as goal

pub sort_by_birth-requires : goal.sort_by_birth-requires
sort_by_birth-requires c =
    let gone = c.list_gone-count.ensures in (
      c.requires.0.roomy,
      Estimating.list_room c.requires.0 c.args.n _ _ _ _ gone.count gone.young (omega arith),
      Estimating.list_below c.requires.0 c.args.n _ _ _ _ gone.count gone.young (omega arith),
    )

pub count_stretches-requires : goal.count_stretches-requires
count_stretches-requires c =
    let gone = c.list_gone-count.ensures in
    let sorted = c.sort_by_birth.ensures in (
      c.requires.0.roomy,
      gone.range,
      Estimating.sort_room c.requires.0 c.args.n _ _ _ _ gone.count gone.young (omega arith) _ sorted,
      Estimating.sort_below c.requires.0 c.args.n _ _ _ _ gone.count gone.young (omega arith) _ sorted,
    )

pub returns : goal.returns
returns c =
    let pred = c.pred_number-p.ensures in
    let gone = c.list_gone-count.ensures in
    let sorted = c.sort_by_birth.ensures in
    let counted = c.count_stretches.ensures in
    record {
      is = counted.is ∙ Estimating.shards_are c.requires.0 c.args.n _ _ _ _ gone.count gone.young (omega arith) _ sorted c.args.s pred;
      range = counted.range;
    }
