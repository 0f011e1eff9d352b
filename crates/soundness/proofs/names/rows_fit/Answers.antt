-- `rows_fit`: the rows one after another.
use Rattle.std.proofs.Common.{refl, rules}
use borrow.Author.Tests.{tests}
use Rattle.soundness.proofs.Loops.{all_of_range}
use Rattle.soundness.proofs.names.rows_fit.Goals as goal

pub returns : goal.returns
returns c = all_of_range _ _ _ _ _ c.all.ensures.ran refl (λ x b q k. search (rules, tests))
