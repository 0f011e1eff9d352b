-- `births_agree`: the test of a block is whether it has a birth.
use Rattle.std.proofs.Common.{◌≡◌, ◌+◌, ◌*◌, ◌∙◌, not, eqb, get_or, rules}
use borrow.Author.Tests.{tests}
use Rattle.model.specs.Held.{on_pages}
use Rattle.model.specs.Layout.{view_of}
use Rattle.soundness.proofs.Clauses.{born_is}
use Rattle.soundness.proofs.held.births_agree.Goals as goal

pub returns : goal.returns
returns c =
    let a = c.args in let g = a.tables.now.g in let t = a.tables.now.cells.now in
    c.marks_agree.ensures (on_pages (view_of g t)) (λ b r h k.
    let e : r ≡ not (eqb (get_or t (2048 + 512 * g.records + b) 0) 0) = search (rules, tests) in
    e ∙ born_is g t b h)
