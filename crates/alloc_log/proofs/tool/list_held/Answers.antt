-- `list_held`: the held blocks that are left complete the list.
use Rattle.std.proofs.Common.{ℕ, ◌+◌, List, length, sym, refl, ap, ◌∙◌, zero-add, add-one, arith, length-set}
use native.Mathlib.Nat.{sub-zero}
use lib.Seq.{sets}
use Rattle.alloc_log.specs.Marks.{held_in, held_blocks}
use Rattle.alloc_log.proofs.Loops.{held_no, held_yes, pass_no, pass_yes, pass_end}
use Rattle.alloc_log.proofs.tool.list_held.Goals as goal
use Rattle.alloc_log.proofs.tool.list_held.Goals.{then-marks-b-ne0, else-marks-b-ne0}

pub loop-b-init : goal.loop-b-init
unfolding held_blocks
loop-b-init c = (omega arith, refl, simp (sub-zero, zero-add), simp sub-zero)

pub loop-b-preserved : goal.loop-b-preserved
loop-b-preserved c =
    let m = c.args.marks.now in
    let i = c.loop-b.invariant in
    elim c.if-marks-b-ne0.branch [
      | then-marks-b-ne0 w ↦
          let e = pass_yes (held_in m) c.loop-b.b _ c.loop-b-test.true (held_yes m c.loop-b.b w.if-marks-b-ne0.true) in
          let k = ap length e in
          rw (w.out-is, w.count-is) (
            omega arith,
            simp length-set i.1,
            omega (arith, i.2),
            rw add-one (ap (sets c.loop-b.out c.loop-b.count) (sym e) ∙ i.3),
          )
      | else-marks-b-ne0 w ↦
          let e = pass_no (held_in m) c.loop-b.b _ c.loop-b-test.true (held_no m c.loop-b.b w.if-marks-b-ne0.false) in
          rw (w.out-is, w.count-is) (
            omega arith,
            i.1,
            ap (λ (l : List ℕ). c.loop-b.count + length l) (sym e) ∙ i.2,
            ap (sets c.loop-b.out c.loop-b.count) (sym e) ∙ i.3,
          )
    ]

pub returns : goal.returns
returns c =
    let i = c.loop-b.invariant in
    let e = pass_end (held_in c.args.marks.now) c.loop-b.b _ c.loop-b-test.false in
    let k = ap length e in
    (omega (arith, i.2), ap (sets c.loop-b.out c.loop-b.count) (sym e) ∙ i.3)
