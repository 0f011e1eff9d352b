-- `name_line`: 4 before a store exists, else what the engine promises, and the log stays; the link of the call's record is noted.
use Rattle.model.specs.Command.{Command, command_on}
use Rattle.engine.proofs.Untouched.{found_link, copy_looked, copy_named, name_performed}
use Rattle.session.proofs.Stepping.{no_store_lem, perform_asks, called, stepping_as, unmade_hints, call_hints}
use native.Mathlib.Omega.{arith}
use Rattle.session.proofs.name_line.Goals as goal

pub returns-then-s-eq0 : goal.returns-then-s-eq0
returns-then-s-eq0 c =
    let asked : (Command) = (command_on c.args.c c.args.bytes.now) in
    let a = c.args in record {
      line = stepping_as c.refuse.ensures (no_store_lem a.s a.t.now a.log.now a.out.now c.requires (asked) c.if-s-eq0.true);
      hints = unmade_hints a.s a.t.now a.hints.now (asked) c.if-s-eq0.true;
    }

pub slot_by-link-requires : goal.slot_by-link-requires
slot_by-link-requires c =
    let a = c.args in
    (perform_asks a.s a.t.now a.log.now a.out.now c.requires c.if-s-eq0.false).0

pub hint_slot-requires : goal.hint_slot-requires
hint_slot-requires c =
    let a = c.args in
    let ready = (perform_asks a.s a.t.now a.log.now a.out.now c.requires c.if-s-eq0.false).0 in
    omega (arith, c.slot_by-link.ensures.range, ready.roomy.inside.records_most)

pub name-answer-requires : goal.name-answer-requires
name-answer-requires c =
    let asked : (Command) = (command_on c.args.c c.args.bytes.now) in
    let a = c.args in
    let p = perform_asks a.s a.t.now a.log.now a.out.now c.requires c.if-s-eq0.false in
    let link = c.slot_by-link in
    copy_looked c.copied.ensures a.t.now a.out.now _ link.result
    (p.0, p.2, found_link a.s.g a.t.now (asked) link.result (c.record_named-number.ensures a.bytes.now) (link.ensures.is, link.ensures.range))

pub returns : goal.returns
returns c =
    let asked : (Command) = (command_on c.args.c c.args.bytes.now) in
    let a = c.args in
    let made = c.if-s-eq0.false in
    let e = copy_named c.copied.ensures _ _ _ a.t.now a.out.now (asked) (c.name-answer.ensures.reply, (c.name-answer.ensures.tables, c.name-answer.ensures.out)) in
    record {
      line = called a.s a.t.now a.log.now a.out.now c.requires made (asked) _ _ _ _
          (name_performed _ a.s.g a.t.now a.log.now a.out.now _ _ a.bytes.now a.c e);
      hints = call_hints a.s a.t.now a.hints.now (asked) _ _ _ made (c.record_named-number.ensures a.bytes.now)
          c.slot_by-link.ensures.is c.hint_slot.ensures;
    }
