-- `log_holds`: two laws of `Whole`, of what was read of the log.
use Rattle.std.proofs.Common.{refl, ◌∙◌, rules}
use borrow.Author.Tests.{tests}
use Rattle.alloc_log.specs.Marks.{held_in}
use Rattle.soundness.proofs.Clauses.{held_are}
use Rattle.soundness.proofs.Whole.{log_unread, log_read}
use Rattle.soundness.proofs.held.log_holds.Goals as goal

pub returns-in_default : goal.returns-in_default
returns-in_default c = log_unread _ _ _ c.header_number-used.ensures (rw c.in_default.is at c.read_log.ensures) refl

pub returns : goal.returns
unfolding held_in
returns c =
    let a = c.args in let g = a.tables.now.g in let t = a.tables.now.cells.now in
    log_read _ _ _ c.header_number-used.ensures c.in-Some.ensures refl
    (c.marks_agree.ensures (held_in a.own.now) (λ b r h k. search (rules, tests)) ∙ held_are g t c.in-Some.marks a.own.now c.requires.2)
