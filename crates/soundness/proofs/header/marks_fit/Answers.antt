-- `marks_fit`: the test of an arena is that of its mark.
use Rattle.std.proofs.Common.{◌+◌, ℕ, ltb, get_or, refl, ap, ◌∙◌, rules}
use borrow.Author.Tests.{tests}
use Rattle.soundness.proofs.Cells.{mark_is}
use Rattle.soundness.proofs.Loops.{all_of_range, all_same}
use Rattle.soundness.proofs.header.marks_fit.Goals as goal

pub returns : goal.returns
returns c =
    let a = c.args in let g = a.tables.now.g in let t = a.tables.now.cells.now in
    all_of_range g.arenas (λ k. ltb (get_or t (16 + k) 0) g.per) _ _ _ c.all.ensures.ran refl (λ x b q k. search (rules, tests)) ∙
    all_same g.arenas _ _ (λ k h. ap (λ (m : ℕ). ltb m g.per) (mark_is g t k h refl))
