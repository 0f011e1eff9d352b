-- The page is filled; the block given and the one freed are logged and given.
use native.Mathlib.Omega.{arith}
use mathlib.Core.Path.{◌∙◌}
use lib.ListN.{length-set}
use Rattle.paging.proofs.Erasing
use Rattle.paging.proofs.Giving
use Rattle.paging.proofs.write.write_page.Goals as goal

pub bounds-out-1 : goal.bounds-out-1
bounds-out-1 c = simp length-set (omega (arith, c.requires.4))

pub log_words-requires : goal.log_words-requires
log_words-requires c =
    let k = c.fill_page-killed.ensures in
    let room = Giving.one_room c.requires.0 c.requires.1 _ k.freed c.in_default.is _ k.tables c.args.log.now c.requires.2 c.requires.3 in
    (room.0, omega (arith, room.1), omega (arith, room.2))

pub returns-in_default : goal.returns-in_default
returns-in_default c =
    let A = c.requires.0 in
    let P = c.requires.1 in
    let k = c.fill_page-killed.ensures in
    let i = c.in_default.is in
    let p = c.log_words.ensures in
    record {
      count = Giving.one_count A P _ k.freed i;
      tables = p.tables ∙ Giving.one_tables A P _ k.freed i _ k.tables;
      log = Giving.one_log A P _ k.freed i _ k.tables c.args.log.now _ p.log;
      out = Giving.one_out A P _ k.freed i _ c.args.out.now;
    }

pub overflow_mul-released : goal.overflow_mul-released
overflow_mul-released c =
    omega (arith, Erasing.freed_small c.requires.0 _ c.fill_page-killed.ensures.freed _ _ c.in-Some.is)

pub overflow_add-released : goal.overflow_add-released
overflow_add-released c =
    omega (arith, Erasing.freed_small c.requires.0 _ c.fill_page-killed.ensures.freed _ _ c.in-Some.is)

pub log_words-requires-2 : goal.log_words-requires-2
log_words-requires-2 c =
    let k = c.fill_page-killed.ensures in
    let room = Giving.two_room c.requires.0 c.requires.1 _ k.freed _ _ c.in-Some.is _ k.tables c.args.log.now c.requires.2 c.requires.3 in
    (room.0, omega (arith, room.1), omega (arith, room.2))

pub overflow_cast-out-2 : goal.overflow_cast-out-2
overflow_cast-out-2 c =
    omega (arith, Erasing.freed_small c.requires.0 _ c.fill_page-killed.ensures.freed _ _ c.in-Some.is)

pub bounds-out-2 : goal.bounds-out-2
bounds-out-2 c =
    simp length-set (omega (arith, c.requires.4))

pub bounds-out-3 : goal.bounds-out-3
bounds-out-3 c =
    simp length-set (omega (arith, c.requires.4))

pub returns : goal.returns
returns c =
    let A = c.requires.0 in
    let P = c.requires.1 in
    let k = c.fill_page-killed.ensures in
    let i = c.in-Some.is in
    let p = c.log_words-2.ensures in
    record {
      count = Giving.two_count A P _ k.freed _ _ i;
      tables = p.tables ∙ Giving.two_tables A P _ k.freed _ _ i _ k.tables;
      log = Giving.two_log A P _ k.freed _ _ i _ k.tables c.args.log.now _ p.log;
      out = Giving.two_out A P _ k.freed _ _ i _ c.args.out.now;
    }
