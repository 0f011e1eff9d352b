-- `call_line`: 4 before a store exists, else what the engine promises; the link of the call's record is noted.
use Rattle.model.specs.Command.{command}
use Rattle.engine.proofs.Untouched.{found_link}
use Rattle.session.proofs.Stepping.{no_store_lem, perform_asks, called, stepping_as, unmade_hints, call_hints}
use native.Mathlib.Omega.{arith}
use Rattle.session.proofs.call_line.Goals as goal

pub returns-then-s-eq0 : goal.returns-then-s-eq0
returns-then-s-eq0 c =
    let a = c.args in record {
      line = stepping_as c.refuse.ensures (no_store_lem a.s a.t.now a.log.now a.out.now c.requires (command a.c) c.if-s-eq0.true);
      hints = unmade_hints a.s a.t.now a.hints.now (command a.c) c.if-s-eq0.true;
    }

pub slot_by-link-requires : goal.slot_by-link-requires
slot_by-link-requires c =
    let a = c.args in
    (perform_asks a.s a.t.now a.log.now a.out.now c.requires c.if-s-eq0.false).0

pub hint_slot-requires : goal.hint_slot-requires
hint_slot-requires c =
    let a = c.args in
    let ready = (perform_asks a.s a.t.now a.log.now a.out.now c.requires c.if-s-eq0.false).0 in
    omega (arith, c.slot_by-link.ensures.range, ready.roomy.inside.records_most)

pub perform-answer-requires : goal.perform-answer-requires
perform-answer-requires c =
    let a = c.args in
    let p = perform_asks a.s a.t.now a.log.now a.out.now c.requires c.if-s-eq0.false in
    let link = c.slot_by-link in
    (p.0, p.1, p.2, found_link a.s.g a.t.now (command a.c) link.result c.record_of-n.ensures (link.ensures.is, link.ensures.range))

pub returns : goal.returns
returns c =
    let a = c.args in
    let made = c.if-s-eq0.false in
    record {
      line = called a.s a.t.now a.log.now a.out.now c.requires made (command a.c) _ _ _ _ (c.perform-answer.ensures.reply, (c.perform-answer.ensures.tables, (c.perform-answer.ensures.log, c.perform-answer.ensures.out)));
      hints = call_hints a.s a.t.now a.hints.now (command a.c) _ _ _ made c.record_of-n.ensures c.slot_by-link.ensures.is
          c.hint_slot.ensures;
    }
