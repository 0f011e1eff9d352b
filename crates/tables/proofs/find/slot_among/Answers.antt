-- The slot of a number by the column of numbers, where no two records have one number.
use mathlib.Core.Path.{sym, ap, ◌∙◌}
use Rattle.tables.specs.Columns.{column_has, gathered}
use Rattle.tables.proofs.Seeks
use Rattle.tables.proofs.find.slot_among.Goals as goal

pub returns-then-g-eq64 : goal.returns-then-g-eq64
returns-then-g-eq64 c = let both = Seeks.slot_found _ _ c.requires.0 _ _
    (c.wide.ensures ∙ c.links_of.ensures ∙ ap (gathered (column_has c.args.t.now 192 c.args.n)) (sym c.if-g-eq64.true)) in record {
      is = both.0;
      range = both.1;
    }

pub returns : goal.returns
returns c = let both = Seeks.slot_found _ _ c.requires.0 _ _ (c.wide-2.ensures ∙ c.links_of-2.ensures) in record {
  is = both.0;
  range = both.1;
}
