-- `perform`: each arm is one call; what it is not lent stays.
use mathlib.Core.Path.{refl}
use Rattle.engine.proofs.Untouched.{log_stays, out_stays, tables_stay, call_link, of_call, copy_looked, copy_alone, copy_named, copy_left, copy_answers}
use Rattle.engine.proofs.perform.Goals as goal

pub begin-requires : goal.begin-requires
begin-requires c = let p = c.requires in (p.0, p.2)

pub write-requires : goal.write-requires
write-requires c =
    (c.requires.0, c.requires.1, c.requires.2, call_link c.args.g c.args.t.now c.in-Write.is c.args.link c.requires.3)

pub erase-requires : goal.erase-requires
erase-requires c =
    (c.requires.0, c.requires.1, c.requires.2, call_link c.args.g c.args.t.now c.in-Erase.is c.args.link c.requires.3)

pub seal-requires : goal.seal-requires
seal-requires c =
    copy_looked c.copied.ensures c.args.t.now c.args.out.now _ c.args.link
    (c.requires.0, c.requires.2, call_link c.args.g c.args.t.now c.in-Seal.is c.args.link c.requires.3)

pub fork-requires : goal.fork-requires
fork-requires c =
    (c.requires.0, c.requires.2, call_link c.args.g c.args.t.now c.in-Fork.is c.args.link c.requires.3)

pub delete-requires : goal.delete-requires
delete-requires c =
    copy_alone c.copied-in-Delete.ensures c.args.t.now _ c.args.link
    (c.requires.0, call_link c.args.g c.args.t.now c.in-Delete.is c.args.link c.requires.3)

pub read-requires : goal.read-requires
read-requires c =
    (c.requires.0, c.requires.2, call_link c.args.g c.args.t.now c.in-Read.is c.args.link c.requires.3)

pub barrier-requires : goal.barrier-requires
barrier-requires c = let p = c.requires in (p.0, p.1)

pub compress_log-requires : goal.compress_log-requires
compress_log-requires c = let p = c.requires in (p.0, p.1, p.2)

pub free_list-requires : goal.free_list-requires
free_list-requires c = let p = c.requires in (p.0, p.2)

pub estimate-requires : goal.estimate-requires
estimate-requires c =
    copy_looked c.copied-in-Estimate.ensures c.args.t.now c.args.out.now _ c.args.link
    (c.requires.0, c.requires.2, call_link c.args.g c.args.t.now c.in-Estimate.is c.args.link c.requires.3)

pub retain-requires : goal.retain-requires
retain-requires c =
    (c.requires.0, call_link c.args.g c.args.t.now c.in-Retain.is c.args.link c.requires.3)

pub reclaim-requires : goal.reclaim-requires
reclaim-requires c = let p = c.requires in (p.0, p.1, p.2)

pub returns-in-Begin : goal.returns-in-Begin
returns-in-Begin c =
    let a = c.args in
    let e = c.begin.ensures in
    let both = of_call a.g a.t.now a.log.now a.out.now c.in-Begin.is _ _ _ _
    (e.reply, (e.tables, (log_stays a.g a.t.now _ a.log.now refl, e.out))) in record {
      reply = both.0;
      tables = both.1.0;
      log = both.1.1.0;
      out = both.1.1.1;
    }

pub returns-in-Write : goal.returns-in-Write
returns-in-Write c =
    let a = c.args in
    let e = c.write.ensures in
    let both = of_call a.g a.t.now a.log.now a.out.now
    c.in-Write.is _ _ _ _
    (e.reply, (e.tables, (e.log, e.out))) in record {
      reply = both.0;
      tables = both.1.0;
      log = both.1.1.0;
      out = both.1.1.1;
    }

pub returns-in-Erase : goal.returns-in-Erase
returns-in-Erase c =
    let a = c.args in
    let e = c.erase.ensures in
    let both = of_call a.g a.t.now a.log.now a.out.now
    c.in-Erase.is _ _ _ _
    (e.reply, (e.tables, (e.log, e.out))) in record {
      reply = both.0;
      tables = both.1.0;
      log = both.1.1.0;
      out = both.1.1.1;
    }

pub returns-in-Seal : goal.returns-in-Seal
returns-in-Seal c =
    let a = c.args in
    let e = copy_named c.copied.ensures _ _ _ a.t.now a.out.now _ (c.seal.ensures.reply, (c.seal.ensures.tables, c.seal.ensures.out)) in
    let both = of_call a.g a.t.now a.log.now a.out.now c.in-Seal.is _ _ _ _
    (e.0, (e.1.0, (log_stays a.g a.t.now _ a.log.now refl, e.1.1))) in record {
      reply = both.0;
      tables = both.1.0;
      log = both.1.1.0;
      out = both.1.1.1;
    }

pub returns-in-Fork : goal.returns-in-Fork
returns-in-Fork c =
    let a = c.args in
    let e = c.fork.ensures in
    let both = of_call a.g a.t.now a.log.now a.out.now c.in-Fork.is _ _ _ _
    (e.reply, (e.tables, (log_stays a.g a.t.now _ a.log.now refl, e.out))) in record {
      reply = both.0;
      tables = both.1.0;
      log = both.1.1.0;
      out = both.1.1.1;
    }

pub returns-in-Delete : goal.returns-in-Delete
returns-in-Delete c =
    let a = c.args in
    let e = copy_left c.copied-in-Delete.ensures _ _ a.t.now _ (c.delete.ensures.reply, c.delete.ensures.tables) in
    let both = of_call a.g a.t.now a.log.now a.out.now c.in-Delete.is _ _ _ _
    (e.0 _, (e.1, (log_stays a.g a.t.now _ a.log.now refl, out_stays a.g a.t.now _ a.out.now refl))) in record {
      reply = both.0;
      tables = both.1.0;
      log = both.1.1.0;
      out = both.1.1.1;
    }

pub returns-in-Read : goal.returns-in-Read
returns-in-Read c =
    let a = c.args in
    let e = c.read.ensures in
    let both = of_call a.g a.t.now a.log.now a.out.now c.in-Read.is _ _ _ _
    (e.reply, (tables_stay a.g a.t.now _ c.requires.0 refl refl, (log_stays a.g a.t.now _ a.log.now refl, e.out))) in record {
      reply = both.0;
      tables = both.1.0;
      log = both.1.1.0;
      out = both.1.1.1;
    }

pub returns-in-Barrier : goal.returns-in-Barrier
returns-in-Barrier c =
    let a = c.args in
    let e = c.barrier.ensures in
    let both = of_call a.g a.t.now a.log.now a.out.now c.in-Barrier.is _ _ _ _
    (e.reply _, (e.tables, (e.log, out_stays a.g a.t.now _ a.out.now refl))) in record {
      reply = both.0;
      tables = both.1.0;
      log = both.1.1.0;
      out = both.1.1.1;
    }

pub returns-in-Compress : goal.returns-in-Compress
returns-in-Compress c =
    let a = c.args in
    let e = c.compress_log.ensures in
    let both = of_call a.g a.t.now a.log.now a.out.now
    c.in-Compress.is _ _ _ _
    (e.reply, (e.tables, (e.log, e.out))) in record {
      reply = both.0;
      tables = both.1.0;
      log = both.1.1.0;
      out = both.1.1.1;
    }

pub returns-in-FreeList : goal.returns-in-FreeList
returns-in-FreeList c =
    let a = c.args in
    let e = c.free_list.ensures in
    let both = of_call a.g a.t.now a.log.now a.out.now c.in-FreeList.is _ _ _ _
    (e.reply, (tables_stay a.g a.t.now _ c.requires.0 refl refl, (log_stays a.g a.t.now _ a.log.now refl, e.out))) in record {
      reply = both.0;
      tables = both.1.0;
      log = both.1.1.0;
      out = both.1.1.1;
    }

pub returns-in-Estimate : goal.returns-in-Estimate
returns-in-Estimate c =
    let a = c.args in
    let e = copy_answers c.copied-in-Estimate.ensures _ _ a.t.now a.out.now _ (c.estimate.ensures.reply, c.estimate.ensures.out) in
    let both = of_call a.g a.t.now a.log.now a.out.now c.in-Estimate.is _ _ _ _
    (e.0, (tables_stay a.g a.t.now _ c.requires.0 refl refl, (log_stays a.g a.t.now _ a.log.now refl, e.1))) in record {
      reply = both.0;
      tables = both.1.0;
      log = both.1.1.0;
      out = both.1.1.1;
    }

pub returns-in-Retain : goal.returns-in-Retain
returns-in-Retain c =
    let a = c.args in
    let e = c.retain.ensures in
    let both = of_call a.g a.t.now a.log.now a.out.now c.in-Retain.is _ _ _ _
    (e.reply _, (e.tables, (log_stays a.g a.t.now _ a.log.now refl, out_stays a.g a.t.now _ a.out.now refl))) in record {
      reply = both.0;
      tables = both.1.0;
      log = both.1.1.0;
      out = both.1.1.1;
    }

pub returns-in-Reclaim : goal.returns-in-Reclaim
returns-in-Reclaim c =
    let a = c.args in let both = of_call a.g a.t.now a.log.now a.out.now c.in-Reclaim.is _ _ _ _ (c.reclaim.ensures.reply, (c.reclaim.ensures.tables, (c.reclaim.ensures.log, c.reclaim.ensures.out))) in record {
      reply = both.0;
      tables = both.1.0;
      log = both.1.1.0;
      out = both.1.1.1;
    }
