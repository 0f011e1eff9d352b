-- The call Q: the refusals of its verdict, and its three numbers.
use lib.ListN.{set, length-set}
use Rattle.std.proofs.Common.{◌≡◌, Err, arith}
use Rattle.tables.proofs.Ranges
use Rattle.deleting.proofs.Calling
use Rattle.deleting.proofs.Estimating
use Rattle.deleting.proofs.estimate.estimate.Goals as goal

pub returns-in_err-s : goal.returns-in_err-s
returns-in_err-s c =
    let gone : c.from_residual.result ≡ Err c.in_err-s.field-0.0 = grind arith in
    let both = Estimating.refuse _ _ _ c.in_err-s.field-0.0 c.args.out.now c.in_err-s.ensures in record {
      reply = rw gone both.0;
      out = both.1;
    }

pub count_frees-requires : goal.count_frees-requires
count_frees-requires c =
    let asks = Calling.accept_asks _ _ c.requires.0 _ _ _ c.in_ok-s.ensures in
    (c.requires.0, Ranges.slot_in c.requires.0 _ asks.0, asks.0, Calling.accept_below _ _ c.requires.0 _ _ _ c.in_ok-s.ensures)

pub overflow_cast-out : goal.overflow_cast-out
overflow_cast-out c =
    let most = Calling.deleted_most c.args.g c.args.t.now c.in_ok-s.s c.requires.0 c.in_ok-s.follower in
    omega (arith, c.count_frees.ensures, most, c.requires.0.roomy.inside.pages_most)

pub bounds-out-1 : goal.bounds-out-1
bounds-out-1 c =
    omega (arith, c.requires.1, length-set c.args.out.now 0 c.count_frees.result)

pub shards_of-requires : goal.shards_of-requires
shards_of-requires c =
    let asks = Calling.accept_asks _ _ c.requires.0 _ _ _ c.in_ok-s.ensures in
    (c.requires.0, Ranges.slot_in c.requires.0 _ asks.0, asks.0, Calling.accept_below _ _ c.requires.0 _ _ _ c.in_ok-s.ensures)

pub bounds-out-2 : goal.bounds-out-2
bounds-out-2 c =
    let blocks = c.count_frees.result in
    omega (arith, c.requires.1, length-set c.args.out.now 0 blocks, length-set (set c.args.out.now 0 blocks) 1 0)

pub returns : goal.returns
returns c =
    let both = Estimating.answered _ _ _ _ _ _ c.in_ok-s.ensures _ _ c.count_frees.ensures c.shards_of.ensures.is c.requires.1 in record {
      reply = both.0;
      out = both.1;
    }
