-- `row_fits`: an empty row fits; of another each clause of `row?` was tested.
use Rattle.std.proofs.Common.{sym, ◌∙◌}
use mathlib.Core.Bool.{false≢true}
use Rattle.soundness.proofs.NamesRows.{row_empty, row_dead, row_misnamed, row_named}
use Rattle.soundness.proofs.names.row_fits.Goals.{then-column_number-ne0, else-column_number-ne0}
use Rattle.soundness.proofs.names.row_fits.Goals as goal

pub returns-then-link-eq0 : goal.returns-then-link-eq0
returns-then-link-eq0 c = row_empty _ _ _ c.requires c.wide-link.ensures c.if-link-eq0.true

pub returns-then-name_fits : goal.returns-then-name_fits
returns-then-name_fits c =
    elim c.if-column_number-ne0.branch [
      | then-column_number-ne0 w ↦ row_named _ _ _ c.requires c.wide-link.ensures c.if-link-eq0.false c.column_number.ensures
          w.if-column_number-ne0.true w.name_fits.ensures.is (sym w.value-is ∙ c.if-name_fits.true) c.is_first.ensures
      | else-column_number-ne0 w ↦ absurd (false≢true (sym (w.value-is ∙ rw w.if-column_number-ne0.false) ∙ c.if-name_fits.true))
    ]

pub returns-else-name_fits : goal.returns-else-name_fits
returns-else-name_fits c =
    elim c.if-column_number-ne0.branch [
      | then-column_number-ne0 w ↦ c.if-name_fits.false ∙ row_misnamed _ _ _ c.requires c.wide-link.ensures c.if-link-eq0.false c.column_number.ensures
          w.if-column_number-ne0.true w.name_fits.ensures.is (sym w.value-is ∙ c.if-name_fits.false)
      | else-column_number-ne0 w ↦ c.if-name_fits.false ∙
          row_dead _ _ _ c.requires c.wide-link.ensures c.if-link-eq0.false c.column_number.ensures w.if-column_number-ne0.false
    ]
