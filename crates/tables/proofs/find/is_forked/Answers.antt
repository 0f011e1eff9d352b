-- Whether a fork is on a record: the column of bases, of 64 slots first without a look at their numbers.
use mathlib.Core.Path.{refl}
use borrow.Author.Tests.{not-true}
use Rattle.tables.proofs.Seeks
use Rattle.tables.proofs.find.is_forked.Goals as goal

pub returns-then-not-any_is : goal.returns-then-not-any_is
returns-then-not-any_is c = Seeks.forked_none _ _ _ _ refl c.if-g-eq64.true (c.any_is.ensures (not-true _ c.if-not-any_is.true-raw))

pub returns : goal.returns
returns c = Seeks.forked_found _ _ _ _ _ refl c.links_with.ensures
