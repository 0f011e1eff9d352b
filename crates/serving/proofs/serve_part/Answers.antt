-- `serve_part`: what is left of the part is the whole of it, line by line.
use mathlib.Core.Path.{refl, ap, ◌∙◌}
use Prim.Native.Nat.{ℕ}
use Rattle.std.specs.Prelude.{Result}
use Rattle.script.specs.ReplyText.{numbered_reply}
use Rattle.serving.proofs.Serving.{begins, at_end, when_full, name_inside, room, same_reply, turned}
use native.Mathlib.Omega.{arith}
use Rattle.serving.proofs.serve_part.Goals as goal

pub returns-then-replies-lt-LONGEST : goal.returns-then-replies-lt-LONGEST
returns-then-replies-lt-LONGEST c =
    let a = c.args in
    when_full a.text.now _ a.t.now a.log.now a.out.now a.replies.now a.session a.t.now a.log.now a.out.now a.replies.now 0 a.at
    (begins a.text.now _ a.t.now a.log.now a.out.now a.replies.now a.at a.session c.requires refl) c.if-replies-lt-LONGEST.true

pub loop-i-init : goal.loop-i-init
loop-i-init c =
    let a = c.args in
    begins a.text.now _ a.t.now a.log.now a.out.now a.replies.now a.at a.session c.requires refl

pub shape_of-t-then-most-used : goal.shape_of-t-then-most-used
shape_of-t-then-most-used c = c.loop-i.invariant.tables

pub shape_of-log-then-most-used : goal.shape_of-log-then-most-used
shape_of-log-then-most-used c = c.loop-i.invariant.log

pub shape_of-out-then-most-used : goal.shape_of-out-then-most-used
shape_of-out-then-most-used c = c.loop-i.invariant.out

pub shape_of-replies-then-most-used : goal.shape_of-replies-then-most-used
shape_of-replies-then-most-used c = c.loop-i.invariant.same

pub returns-then-most-used : goal.returns-then-most-used
returns-then-most-used c =
    let l = c.loop-i in
    let a = c.args in
    when_full a.text.now _ a.t.now a.log.now a.out.now a.replies.now l.s l.t l.log l.out l.replies l.used l.i l.invariant (omega (arith, c.if-most-used.true))

pub said_at-said-requires : goal.said_at-said-requires
said_at-said-requires c = tt

pub step-stepped-requires : goal.step-stepped-requires
step-stepped-requires c =
    let a = c.args in
    let d = c.said_at-said in
    let l = c.loop-i in
    (l.invariant.kept, name_inside a.text.now l.i d.result.end d.result.says d.ensures.name)

pub spelling_of-spelling-requires : goal.spelling_of-spelling-requires
spelling_of-spelling-requires c = tt

pub put_reply-used-requires : goal.put_reply-used-requires
put_reply-used-requires c =
    let e = c.step-stepped.ensures in
    rw c.by_number.ensures (
    room _ e.few _ _ _ (omega (arith, c.loop-i.invariant.same, c.if-most-used.false, c.if-replies-lt-LONGEST.false)) e.kept.out
    )

pub overflow_add-i : goal.overflow_add-i
overflow_add-i c =
    omega (arith, c.said_at-said.ensures.range, c.well_formed)

pub loop-i-smaller : goal.loop-i-smaller
loop-i-smaller c =
    omega (arith, c.said_at-said.ensures.range, c.loop-i-test.true)

pub loop-i-preserved : goal.loop-i-preserved
loop-i-preserved c =
    let p = c.put_reply-used in
    let k = c.spelling_of-spelling in
    let s = c.step-stepped in
    let d = c.said_at-said in
    let l = c.loop-i in
    let a = c.args in
    let e = s.ensures in
    let same = ap (λ (r : Result ℕ ℕ). numbered_reply r s.new.out) c.by_number.ensures ∙ same_reply s.result.answer s.new.out in
    turned a.text.now _ a.t.now a.log.now a.out.now a.replies.now l.s l.t l.log l.out l.replies l.used l.i l.invariant
    d.result d.ensures.is s.result _ _ _ _ _ e.reply e.session e.tables e.log e.out _ k.ensures
    (rw same at p.ensures.0) (rw same at p.ensures.1) c.loop-i-test.true
    (omega (arith, c.if-most-used.false, c.if-replies-lt-LONGEST.false)) s.auto.t s.auto.log
    s.auto.out p.auto.text e.kept

pub shape_of-t : goal.shape_of-t
shape_of-t c = c.loop-i.invariant.tables

pub shape_of-log : goal.shape_of-log
shape_of-log c = c.loop-i.invariant.log

pub shape_of-out : goal.shape_of-out
shape_of-out c = c.loop-i.invariant.out

pub shape_of-replies : goal.shape_of-replies
shape_of-replies c = c.loop-i.invariant.same

pub returns : goal.returns
returns c =
    let l = c.loop-i in
    let a = c.args in
    at_end a.text.now _ a.t.now a.log.now a.out.now a.replies.now l.s l.t l.log l.out l.replies l.used l.i l.invariant c.loop-i-test.false
