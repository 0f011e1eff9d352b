-- `kin_of`: the pred is the base where no record is before it, else that record.
use Rattle.std.proofs.Common.{◌≡◌, ◌∙◌}
use Rattle.model.specs.Table.{first_link}
use Rattle.soundness.specs.Pages.{reached}
use Rattle.soundness.proofs.PagesLinks.{pred_first, pred_next, kin_said}
use Rattle.soundness.proofs.pages.kin_of.Goals as goal
use Rattle.soundness.proofs.pages.kin_of.Goals.{then-prev-eq0, else-prev-eq0}

pub returns : goal.returns
returns c =
    let a = c.args in let g = a.tables.now.g in let t = a.tables.now.cells.now in
    let pred : c.if-prev-eq0.pred ≡ reached g.records (first_link c.wide-prev.result c.wide.result) = elim c.if-prev-eq0.branch [
      | then-prev-eq0 w ↦ w.pred-is ∙ pred_first g t a.s c.requires c.wide-2.ensures c.wide-prev.ensures c.wide.ensures c.reach-base.ensures.is
          w.if-prev-eq0.true
      | else-prev-eq0 w ↦ w.pred-is ∙ pred_next g t a.s c.requires c.wide-2.ensures c.wide-prev.ensures c.wide.ensures w.reach-pred.ensures.is
          w.if-prev-eq0.false
    ] in
    kin_said g t a.s c.requires c.wide-2.ensures c.wide-prev.ensures c.wide.ensures pred c.reach-base.ensures.is
    (c.wide-3.ensures ∙ c.number_behind.ensures) (c.wide-4.ensures ∙ c.number_behind-2.ensures)
