-- How many blocks are to be queued, on either way.
use native.Mathlib.Omega.{arith}
use mathlib.Core.Path.{ap, ◌∙◌}
use Prim.Native.Nat.{◌-◌}
use lib.ListN.{length}
use Rattle.deleting.proofs.Parting
use Rattle.deleting.proofs.Calling
use Rattle.deleting.proofs.delete.count_frees.Goals as goal

pub count_young-requires : goal.count_young-requires
count_young-requires c = (c.requires.0, c.requires.1, c.requires.2)

pub returns-then-follower-eq0 : goal.returns-then-follower-eq0
returns-then-follower-eq0 c =
    c.count_young.ensures ∙ ap length (Calling.deleted_last c.args.g c.args.t.now c.args.s c.args.follower c.if-follower-eq0.true)

pub pred_number-requires : goal.pred_number-requires
pred_number-requires c = (c.requires.0, c.requires.1, c.requires.2)

pub count_gone-requires : goal.count_gone-requires
count_gone-requires c = (c.requires.0, omega arith)

pub returns : goal.returns
returns c =
    c.count_gone.ensures.is ∙
    Parting.frees_many c.requires.0 c.args.s (c.args.follower - 1) _ c.pred_number.ensures ∙
    ap length (Calling.deleted_next c.args.g c.args.t.now c.args.s c.args.follower c.if-follower-eq0.false)
