-- Log words, one after another, counted.
use mathlib.Core.Path.{refl, ap}
use Prim.Native.Nat.{◌+◌}
use native.Mathlib.Omega.{arith}
use lib.ListN.{length, set}
use Rattle.paging.proofs.Wording
use Rattle.paging.proofs.words.log_words.Goals as goal

pub loop-i-init : goal.loop-i-init
loop-i-init c = Wording.words_none c.args.log.now c.wide-used.result c.args.words.now

pub loop-i-preserved : goal.loop-i-preserved
loop-i-preserved c = Wording.words_next _ _ _ c.loop-i.i _ _ _ c.loop-i-test.true (omega arith) c.loop-i.invariant refl c.append.ensures.1

pub returns : goal.returns
returns c = record {
  tables = ap (λ u. set c.args.t.now 9 (u + length c.args.words.now)) c.wide-used.ensures;
  log = Wording.words_all _ _ _ _ _ _ c.wide-used.ensures (omega arith) c.loop-i.invariant;
}
