-- `input::lines_end`: the last line feed is looked for from the end; each turn leaves one byte out.
use mathlib.Core.Path.{◌≡◌, sym, ◌∙◌}
use Prim.Native.Nat.{◌+◌, ◌-◌}
use native.Mathlib.Omega.{arith}
use Rattle.runner.proofs.Feeds.{feed_here, no_feed, looks, looks_on}
use Rattle.runner.proofs.input.lines_end.Goals as goal

pub loop-i-init : goal.loop-i-init
loop-i-init c = looks _ _

pub returns-then-text-i-eq-FEED : goal.returns-then-text-i-eq-FEED
returns-then-text-i-eq-FEED c =
    let l = c.loop-i in
    let e : l.i - 1 + 1 ≡ l.i = omega (arith, c.loop-i-test.true) in
    e ∙ sym (feed_here c.args.text.now c.args.from l.i c.loop-i-test.true c.if-text-i-eq-FEED.true) ∙ l.invariant.left

pub loop-i-preserved : goal.loop-i-preserved
loop-i-preserved c = looks_on _ _ _ c.loop-i.invariant c.loop-i-test.true c.if-text-i-eq-FEED.false

pub returns : goal.returns
returns c = sym (no_feed _ _ _ c.loop-i-test.false) ∙ c.loop-i.invariant.left
