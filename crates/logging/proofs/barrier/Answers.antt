-- `barrier`: both returns are laws of `Answers`.
use Rattle.model.specs.Layout.{state_of}
use Rattle.logging.proofs.Answers.{barrier_refused, barrier_done}
use native.Mathlib.Omega.{arith}
use Rattle.logging.proofs.barrier.Goals as goal

pub overflow_sub-g : goal.overflow_sub-g
unfolding state_of
overflow_sub-g c =
    omega (arith, c.wide-used.ensures, c.requires.0.range.used)

pub returns-then-g-used-lt1 : goal.returns-then-g-used-lt1
returns-then-g-used-lt1 c =
    let s = c.args in let both = barrier_refused s.g s.t.now s.log.now c.wide-used.result c.wide-used.ensures c.if-g-used-lt1.true in record {
      reply = both.0;
      tables = both.1.0;
      log = both.1.1;
    }

pub returns : goal.returns
returns c = let both = barrier_done c.args.g c.args.t.now c.args.log.now c.wide-used.result c.wide-used.ensures _ _ c.requires.0 c.if-g-used-lt1.false c.append.ensures.1
    c.release.ensures in record {
      reply = both.0;
      tables = both.1.0;
      log = both.1.1;
    }
