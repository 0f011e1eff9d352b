-- The call T: a refusal leaves everything, and an accepted call does what the model says.
use native.Mathlib.Omega.{arith}
use Rattle.std.proofs.lemmas.Bool.Decides.{nat_tests}
use Rattle.reclaiming.proofs.Answers
use Rattle.reclaiming.proofs.Answers.{Accepts}
use Rattle.reclaiming.proofs.reclaim.Goals as goal

pub returns-then-not-contains : goal.returns-then-not-contains
returns-then-not-contains c = let both = Answers.outside _ _ c.args.k (λ a b. grind (arith, nat_tests)) _ _ in record {
  reply = both.0;
  tables = both.1.0;
  log = both.1.1.0;
  out = both.1.1.1;
}

pub overflow_sub-g : goal.overflow_sub-g
overflow_sub-g c =
    omega (arith, c.wide-2.ensures, Answers.used_le c.requires.0)

pub returns-then-g-wide : goal.returns-then-g-wide
returns-then-g-wide c =
    let both =
    Answers.short _ _ _ (grind (arith, nat_tests)) (grind (arith, nat_tests)) _ _ _ c.turn_of-n.ensures c.wide.ensures c.wide-2.ensures
    c.if-g-wide.true _ _ in record {
      reply = both.0;
      tables = both.1.0;
      log = both.1.1.0;
      out = both.1.1.1;
    }

pub list_queued-requires : goal.list_queued-requires
list_queued-requires c =
    let A =
    Answers.accepts _ _ _ _ c.requires.0 (grind (arith, nat_tests)) (grind (arith, nat_tests)) c.turn_of-n.ensures c.wide.ensures
    c.wide-2.ensures c.if-g-wide.false in
    (c.requires.0, Answers.accept_in A, Answers.accept_out A c.args.out.now c.requires.2)

pub log_frees-requires : goal.log_frees-requires
log_frees-requires c =
    let A =
    Answers.accepts _ _ _ _ c.requires.0 (grind (arith, nat_tests)) (grind (arith, nat_tests)) c.turn_of-n.ensures c.wide.ensures
    c.wide-2.ensures c.if-g-wide.false in (
      omega (arith, c.requires.0.roomy.room),
      Answers.accept_room A c.args.out.now c.requires.2 _ c.list_queued.ensures,
      omega (arith, A.enough, c.requires.1),
      omega (arith, A.enough, c.requires.0.roomy.inside.words_most),
    )

pub free_queued-requires : goal.free_queued-requires
free_queued-requires c =
    let A =
    Answers.accepts _ _ _ _ c.requires.0 (grind (arith, nat_tests)) (grind (arith, nat_tests)) c.turn_of-n.ensures c.wide.ensures
    c.wide-2.ensures c.if-g-wide.false in
    let listed = c.list_queued.ensures in
    let logged = c.log_frees.ensures.tables in (
      Answers.accept_roomy A c.args.out.now c.requires.2 _ listed _ logged,
      Answers.accept_room A c.args.out.now c.requires.2 _ listed,
      Answers.accept_blocks A c.args.out.now c.requires.2 _ listed,
      Answers.accept_waits A c.args.out.now c.requires.2 _ listed _ logged,
    )

pub shorten_queue-requires : goal.shorten_queue-requires
shorten_queue-requires c =
    let A =
    Answers.accepts _ _ _ _ c.requires.0 (grind (arith, nat_tests)) (grind (arith, nat_tests)) c.turn_of-n.ensures c.wide.ensures
    c.wide-2.ensures c.if-g-wide.false in
    let listed = c.list_queued.ensures in
    let logged = c.log_frees.ensures.tables in
    let ended = c.free_queued.ensures in (
      Answers.accept_roomy_2 A c.args.out.now c.requires.2 _ listed _ logged _ ended,
      Answers.accept_queue A c.args.out.now c.requires.2 _ listed _ logged _ ended,
      Answers.accept_queue_le A c.args.out.now c.requires.2 _ listed _ logged _ ended,
    )

pub overflow_mul-result : goal.overflow_mul-result
overflow_mul-result c =
    let A =
    Answers.accepts _ _ _ _ c.requires.0 (grind (arith, nat_tests)) (grind (arith, nat_tests)) c.turn_of-n.ensures c.wide.ensures
    c.wide-2.ensures c.if-g-wide.false in
    omega (arith, Answers.accept_few A)

pub returns : goal.returns
returns c =
    let A =
    Answers.accepts _ _ _ _ c.requires.0 (grind (arith, nat_tests)) (grind (arith, nat_tests)) c.turn_of-n.ensures c.wide.ensures
    c.wide-2.ensures c.if-g-wide.false in
    let listed = c.list_queued.ensures in
    let logged = c.log_frees.ensures in
    let ended = c.free_queued.ensures in
    let moved = c.shorten_queue.ensures in
    record {
      reply = Answers.accept_reply A c.args.out.now c.requires.2 _ listed;
      tables = Answers.accept_tables A c.args.out.now c.requires.2 _ listed _ logged.tables _ ended _ moved;
      log = Answers.accept_log A c.args.out.now c.requires.2 _ listed _ _ logged.log;
      out = Answers.accept_left A c.args.out.now c.requires.2 _ listed;
    }
