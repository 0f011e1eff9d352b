-- `numbers_at` meets its contract: what is read from here on, after the numbers in the buffer, is the whole.
use native.Mathlib.Omega.{arith}
use Prim.Native.Nat.{ℕ, suc, ◌+◌, ◌-◌, ◌<◌}
use mathlib.Core.Path.{◌≡◌, sym, ap, ◌∙◌}
use mathlib.Core.Option.{some}
use lib.ListN.{length, take}
use Rattle.script.proofs.Reading.{numbers_end, numbers_over, numbers_none, numbers_step}
use Rattle.script.proofs.parse.numbers_at.Goals as goal

pub returns-then-at-line-clause-is : goal.returns-then-at-line-clause-is
returns-then-at-line-clause-is c =
    let l = c.loop-i in
    sym (numbers_end c.args.line.now l.at (c.args.most - l.i) (take l.i l.out) c.if-at-line.true) ∙ l.invariant

pub returns-in_err-value-clause-is : goal.returns-in_err-value-clause-is
returns-in_err-value-clause-is c =
    let a = c.args in
    let l = c.loop-i in
    let e : a.most - l.i ≡ suc (a.most - (l.i + 1)) = omega arith in
    let read = sym c.number_at.ensures ∙ c.in_err-value.was in
    let none_is = numbers_none a.line.now l.at (a.most - l.i) (a.most - (l.i + 1)) (take l.i l.out) e c.if-at-line.false read in
    rw c.from_residual.ensures (sym none_is ∙ l.invariant)

pub loop-i-preserved : goal.loop-i-preserved
loop-i-preserved c =
    let a = c.args in
    let l = c.loop-i in
    let v = c.in_ok-value.value in
    let end = c.in_ok-value.end in
    let b : l.i < length l.out = omega arith in
    let read = sym c.number_at.ensures ∙ c.in_ok-value.was in
    sym (numbers_step a.line.now l.at a.most l.i l.out v end c.loop-i-test.true b c.if-at-line.false read) ∙ l.invariant

pub returns-then-at-line-2-clause-is : goal.returns-then-at-line-2-clause-is
returns-then-at-line-2-clause-is c =
    let l = c.loop-i in
    let z : c.args.most - l.i ≡ 0 = omega arith in
    sym (numbers_over c.args.line.now l.at (take l.i l.out) c.if-at-line-2.true) ∙ (rw z at l.invariant)

pub returns-clause-is : goal.returns-clause-is
returns-clause-is c =
    let l = c.loop-i in
    let e : l.i ≡ c.args.most = omega arith in
    ap (λ (n : ℕ). some (take n l.out)) (sym e)
    ∙ sym (numbers_end c.args.line.now l.at (c.args.most - l.i) (take l.i l.out) c.if-at-line-2.false) ∙ l.invariant
