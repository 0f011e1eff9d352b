-- `mark_run`: the test, then the stores.
use Rattle.std.proofs.Common.{◌≡◌, ℕ, ◌+◌, ◌-◌, not, replicate, sym, ◌∙◌, ap₂, arith}
use lib.Seq.{sets}
use Rattle.alloc_log.specs.Marks.{mark_run}
use Rattle.alloc_log.proofs.Loops.{mark_is, tested}
use Rattle.alloc_log.proofs.marks.mark_run.Goals as goal

pub returns-then-apart : goal.returns-then-apart
unfolding mark_run
returns-then-apart c =
    let s = c.args in
    let t = tested s.marks.now s.block s.count c.all_are-apart.ensures (mark_is (not s.held) c.from.ensures) in
    let e : s.block + s.count - s.block ≡ s.count = omega arith in
    let stored = c.fill.ensures ∙ ap₂ (λ (n x : ℕ). sets s.marks.now s.block (replicate n x)) e (mark_is s.held c.from-then-apart.ensures) in
    simp (sym t ∙ c.if-apart.true, c.if-apart.true, stored)

pub returns-else-apart : goal.returns-else-apart
unfolding mark_run
returns-else-apart c =
    let s = c.args in
    let t = tested s.marks.now s.block s.count c.all_are-apart.ensures (mark_is (not s.held) c.from.ensures) in
    simp (sym t ∙ c.if-apart.false, c.if-apart.false)
