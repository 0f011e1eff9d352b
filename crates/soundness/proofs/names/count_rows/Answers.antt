-- `count_rows`: the rows before i are counted.
use Rattle.std.proofs.Common.{ℕ, arith}
use lib.ListN.{length-replicate}
use Rattle.soundness.proofs.NamesCounts.{none_counted, counted_first, counted_most, counted_next, counted_all}
use Rattle.soundness.proofs.names.count_rows.Goals as goal

pub loop-i-init : goal.loop-i-init
loop-i-init c = counted_first _ _ (length-replicate {A = ℕ} 65 0) none_counted

pub overflow_add-rows : goal.overflow_add-rows
overflow_add-rows c =
    let low = c.requires c.loop-i.i c.loop-i-test.true in
    omega (arith, counted_most _ _ _ c.loop-i.invariant c.wide-link.result (omega (arith, low, c.wide-link.ensures)))

pub loop-i-preserved : goal.loop-i-preserved
loop-i-preserved c =
    let low = c.requires c.loop-i.i c.loop-i-test.true in
    counted_next _ _ _ c.loop-i.invariant c.wide-link.ensures (omega (arith, low, c.wide-link.ensures))

pub returns : goal.returns
returns c = counted_all _ _ _ c.loop-i.invariant c.loop-i.auto.i-end c.loop-i-test.false
