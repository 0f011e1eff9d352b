-- The words of the freed blocks join the log, word after word.
use native.Mathlib.Omega.{arith}
use mathlib.Core.Path.{ap}
use Prim.Native.Nat.{◌+◌, ◌*◌}
use lib.ListN.{set, length-set}
use Rattle.reclaiming.proofs.Logging
use Rattle.reclaiming.proofs.Logging.{freed}
use Rattle.reclaiming.proofs.log_frees.Goals as goal

pub loop-i-init : goal.loop-i-init
loop-i-init c = (Logging.freed_start c.args.log.now c.args.out.now (8 * c.wide-used.result))

pub overflow_mul-wide : goal.overflow_mul-wide
overflow_mul-wide c = omega (arith, c.shared_slice_known-in-loop-i-1.given (2 * c.loop-i.i))

pub overflow_add-wide : goal.overflow_add-wide
overflow_add-wide c = omega (arith, c.shared_slice_known-in-loop-i-1.given (2 * c.loop-i.i))

pub loop-i-preserved : goal.loop-i-preserved
loop-i-preserved c =
    let turn = c.loop-i in
    Logging.freed_turn _ _ _ _ _ turn.i (omega arith) (omega arith) turn.invariant _ c.wide.ensures c.append.ensures.1

pub shape_of-t : goal.shape_of-t
shape_of-t c = simp length-set

pub returns : goal.returns
returns c =
    let turn = c.loop-i in
    let link = c.wide-used.ensures in
    record {
      tables = ap (λ u. set c.args.t.now 9 (u + c.args.n)) link;
      log = Logging.freed_end _ _ _ _ _ _ _ link (omega arith) (omega arith) turn.invariant;
    }
