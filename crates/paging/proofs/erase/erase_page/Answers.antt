-- The page is emptied; a block that is freed is logged and given.
use native.Mathlib.Omega.{arith}
use mathlib.Core.Path.{◌∙◌}
use lib.ListN.{length-set}
use Rattle.paging.proofs.Erasing
use Rattle.paging.proofs.erase.erase_page.Goals as goal

pub returns-in_default : goal.returns-in_default
returns-in_default c =
    let A = c.requires.0 in
    let k = c.kill_on.ensures in
    let i = c.in_default.is in
    record {
      count = Erasing.none_count A _ k.freed i;
      tables = Erasing.none_tables A _ k.freed i _ k.tables;
      log = Erasing.none_log A _ k.freed i c.args.log.now;
      out = Erasing.none_out A _ k.freed i c.args.out.now;
    }

pub overflow_mul-freed : goal.overflow_mul-freed
overflow_mul-freed c =
    omega (arith, Erasing.freed_small c.requires.0 _ c.kill_on.ensures.freed _ _ c.in-Some.is)

pub overflow_add-freed : goal.overflow_add-freed
overflow_add-freed c =
    omega (arith, Erasing.freed_small c.requires.0 _ c.kill_on.ensures.freed _ _ c.in-Some.is)

pub log_words-requires : goal.log_words-requires
log_words-requires c =
    let k = c.kill_on.ensures in
    let room = Erasing.one_room c.requires.0 _ k.freed _ _ c.in-Some.is _ k.tables c.args.log.now c.requires.1 c.requires.2 in
    (room.0, omega (arith, room.1), omega (arith, room.2))

pub overflow_cast-out : goal.overflow_cast-out
overflow_cast-out c =
    omega (arith, Erasing.freed_small c.requires.0 _ c.kill_on.ensures.freed _ _ c.in-Some.is)

pub bounds-out-1 : goal.bounds-out-1
bounds-out-1 c =
    simp length-set (omega (arith, c.requires.3))

pub returns : goal.returns
returns c =
    let A = c.requires.0 in
    let k = c.kill_on.ensures in
    let i = c.in-Some.is in
    let p = c.log_words.ensures in
    record {
      count = Erasing.one_count A _ k.freed _ _ i;
      tables = p.tables ∙ Erasing.one_tables A _ k.freed _ _ i _ k.tables;
      log = Erasing.one_log A _ k.freed _ _ i _ k.tables c.args.log.now _ p.log;
      out = Erasing.one_out A _ k.freed _ _ i c.args.out.now;
    }
