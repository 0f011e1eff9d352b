-- `settled_end`: no word from the i-th on is a barrier.
use Rattle.std.proofs.Common.{◌≡◌, ◌+◌, ◌-◌, ◌*◌, arith}
use Rattle.alloc_log.proofs.Settling.{search_starts, search_on, search_finds, search_fails}
use Rattle.alloc_log.proofs.tool.settled_end.Goals as goal

pub loop-i-init : goal.loop-i-init
loop-i-init c = search_starts c.args.log.now

pub returns-then-get_word-eq3 : goal.returns-then-get_word-eq3
returns-then-get_word-eq3 c =
    let i = c.loop-i.i - 1 in
    let e : 8 * c.loop-i.i ≡ 8 * i + 8 = omega arith in (
      search_finds c.args.log.now (8 * i) (omega arith) (omega arith) (rw e at c.loop-i.invariant) c.get_word.ensures c.if-get_word-eq3.true,
      omega arith,
    )

pub loop-i-preserved : goal.loop-i-preserved
loop-i-preserved c =
    let i = c.loop-i.i - 1 in
    let e : 8 * c.loop-i.i ≡ 8 * i + 8 = omega arith in
    search_on c.args.log.now (8 * i) (omega arith) (omega arith) (rw e at c.loop-i.invariant) c.get_word.ensures c.if-get_word-eq3.false

pub returns : goal.returns
returns c = (search_fails c.args.log.now (8 * c.loop-i.i) (omega (arith, c.loop-i-test.false)) c.loop-i.invariant, omega arith)
