-- None, or those of the record that follows.
use native.Mathlib.Omega.{arith}
use mathlib.Core.Path.{◌∙◌}
use Rattle.model.specs.Layout.{view_of}
use Rattle.deleting.proofs.Estimating
use Rattle.deleting.proofs.estimate.shards_of.Goals as goal

pub returns-then-follower-eq0 : goal.returns-then-follower-eq0
returns-then-follower-eq0 c =
    let K = view_of c.args.g c.args.t.now in record {
      is = Estimating.shards_last K c.args.s c.args.follower c.if-follower-eq0.true;
      range = omega arith;
    }

pub returns : goal.returns
returns c =
    let K = view_of c.args.g c.args.t.now in
    let shards = c.count_shards.ensures in
    record {
      is = shards.is ∙ Estimating.shards_next K c.args.s c.args.follower c.if-follower-eq0.false;
      range = shards.range;
    }
