-- The record that follows: the slot that the next number goes into, or the column of the records before, where one follows at most.
use mathlib.Core.Path.{refl, sym, ap, ◌∙◌}
use Prim.Native.Nat.{◌+◌}
use Rattle.tables.specs.Columns.{column_has, gathered}
use Rattle.tables.proofs.Seeks
use Rattle.tables.proofs.find.follower_of.Goals as goal

pub returns-then-t-next-ne0-clause-is : goal.returns-then-t-next-ne0-clause-is
returns-then-t-next-ne0-clause-is c =
    (Seeks.follower_there _ _ c.requires.0 _ _ _ refl c.own_slot-next.ensures.range c.if-t-next.true c.if-t-next-ne0.true).0

pub returns-then-g-eq64 : goal.returns-then-g-eq64
returns-then-g-eq64 c = let both = Seeks.follower_found _ _ c.requires.0 _ _ _ refl
    (c.wide.ensures ∙ c.links_with.ensures ∙ ap (gathered (column_has c.args.t.now 320 (c.args.p + 1))) (sym c.if-g-eq64.true)) in record {
      is = both.0;
      range = both.1;
    }

pub returns : goal.returns
returns c = let both = Seeks.follower_found _ _ c.requires.0 _ _ _ refl (c.wide-2.ensures ∙ c.links_with-2.ensures) in record {
  is = both.0;
  range = both.1;
}
