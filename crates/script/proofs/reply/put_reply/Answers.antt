-- `put_reply` meets its contract: a sign, the items or the number, and a line feed.
use native.Mathlib.Omega.{arith}
use mathlib.Core.Path.{◌≡◌, ◌∙◌}
use lib.ListN.{length-set}
use Rattle.script.specs.ReplyText.{numbered_reply, reply_text}
use Rattle.script.proofs.Printing.{put_line, room_done, room_any}
use Rattle.script.proofs.reply.put_reply.Goals as goal

pub bounds-text-at : goal.bounds-text-at
bounds-text-at c = omega (arith, room_any c.requires)

pub overflow_add-at : goal.overflow_add-at
overflow_add-at c = omega (arith, room_any c.requires)

pub put_items-end-requires : goal.put_items-end-requires
put_items-end-requires c =
    omega (arith, room_done c.requires c.in-Ok.is, length-set c.args.text.now c.args.at 43)

pub bounds-text-end : goal.bounds-text-end
bounds-text-end c =
    let r = room_done c.requires c.in-Ok.is in
    omega (arith, length-set c.args.text.now c.args.at 43, c.put_items-end.auto.text, c.put_items-end.ensures.1)

pub overflow_add-result : goal.overflow_add-result
overflow_add-result c =
    omega (arith, room_done c.requires c.in-Ok.is, c.put_items-end.ensures.1)

pub bounds-text-at-in-Err : goal.bounds-text-at-in-Err
bounds-text-at-in-Err c = omega (arith, room_any c.requires)

pub overflow_add-at-in-Err : goal.overflow_add-at-in-Err
overflow_add-at-in-Err c = omega (arith, room_any c.requires)

pub put_number-end-requires : goal.put_number-end-requires
put_number-end-requires c =
    omega (arith, room_any c.requires, length-set c.args.text.now c.args.at 45)

pub bounds-text-end-in-Err : goal.bounds-text-end-in-Err
bounds-text-end-in-Err c =
    let p = c.put_number-end in
    omega (arith, room_any c.requires, length-set c.args.text.now c.args.at 45, p.auto.text, p.ensures.1)

pub overflow_add-result-in-Err : goal.overflow_add-result-in-Err
overflow_add-result-in-Err c =
    omega (arith, room_any c.requires, c.put_number-end.ensures.1)

pub shape_of-text-in-Ok : goal.shape_of-text-in-Ok
shape_of-text-in-Ok c =
    let p = c.put_items-end in
    length-set p.new.text p.result 10 ∙ p.auto.text ∙ length-set c.args.text.now c.args.at 43

pub returns-in-Ok : goal.returns-in-Ok
unfolding reply_text numbered_reply
returns-in-Ok c =
    let a = c.args in
    let p = c.put_items-end in
    let r = room_done c.requires c.in-Ok.is in
    rw c.in-Ok.is (put_line a.text.now p.new.text 43 a.at p.result _ (omega (arith, p.ensures.1)) p.ensures.0 p.ensures.2)

pub shape_of-text-in-Err : goal.shape_of-text-in-Err
shape_of-text-in-Err c =
    let p = c.put_number-end in
    length-set p.new.text p.result 10 ∙ p.auto.text ∙ length-set c.args.text.now c.args.at 45

pub returns-in-Err : goal.returns-in-Err
unfolding reply_text numbered_reply
returns-in-Err c =
    let a = c.args in
    let p = c.put_number-end in
    let r = room_any c.requires in
    let e : c.from.result ≡ c.in-Err.number = grind arith in
    rw c.in-Err.is (rw e at (put_line a.text.now p.new.text 45 a.at p.result _ (omega (arith, p.ensures.1)) p.ensures.0 p.ensures.2))
