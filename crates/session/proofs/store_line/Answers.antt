-- `store_line`: six numbers outside their limits, or an answer of `make`: each is one law of `Stepping`.
use mathlib.Core.Path.{sym, ap, ◌∙◌}
use Rattle.alloc_log.proofs.Tools.{made_of, outside}
use Rattle.model.specs.Memory.{make_reply, make_after, lent}
use Rattle.session.specs.Step.{geometry_in}
use Rattle.session.proofs.Stepping.{six_made, store_outside, store_refused, store_done, stepping_as}
use Rattle.session.proofs.store_line.Goals as goal

pub returns-in_default : goal.returns-in_default
returns-in_default c =
    let a = c.args in
    let new = six_made a.x _ c.widened-numbers.ensures c.new.ensures.is in
    stepping_as c.refuse.ensures
    (store_outside a.s a.t.now a.log.now a.out.now c.requires a.x (outside (geometry_in a.x) (sym c.in_default.is ∙ new)).1)

pub returns-in_default-answer : goal.returns-in_default-answer
returns-in_default-answer c =
    let a = c.args in
    let e = c.make-answer.ensures in
    store_refused a.s a.t.now a.log.now a.out.now c.requires a.x _ c.widened-numbers.ensures _ _ e.reply e.tables _ c.in_default-answer.is

pub returns : goal.returns
returns c =
    let a = c.args in
    let e = c.make-answer.ensures in
    let m = made_of (geometry_in a.x) _ (sym c.in-Ok.is ∙ six_made a.x _ c.widened-numbers.ensures c.new.ensures.is) in
    let M = lent a.t.now a.log.now a.out.now in
    let same = c.widened-numbers.ensures ∙ sym m.is in
    store_done a.s a.t.now a.log.now a.out.now c.requires a.x _ m.is _ _ (e.reply ∙ ap (λ k. make_reply k M) same)
    (e.tables ∙ ap (λ k. (make_after k M).tables) same) _ c.in-Ok-answer.is
