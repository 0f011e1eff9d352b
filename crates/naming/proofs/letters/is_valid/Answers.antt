-- `is_valid`: its length, then its letters.
use Rattle.std.proofs.Common.{rules}
use borrow.Author.Tests.{tests}
use native.Mathlib.Omega.{arith}
use Rattle.std.specs.Char.{is_ascii_lowercase}
use Rattle.std.proofs.lemmas.Bool.Decides.{nat_tests}
use Rattle.std.proofs.lemmas.Iterator.{YieldsList-from_slice}
use Rattle.std.proofs.lemmas.Iterator.Search.{all_from_yields_List}
use Rattle.naming.proofs.Spelling.{valid_not, valid_is}
use Rattle.naming.proofs.letters.is_valid.Goals as goal

pub returns-then-contains : goal.returns-then-contains
returns-then-contains c = record {
  is = valid_is _ (grind (arith, nat_tests)) (grind (arith, nat_tests))
      (all_from_yields_List is_ascii_lowercase _ _ _ c.all.ensures.ran (YieldsList-from_slice c.args.name.now cc) (λ x b q k. search (rules, tests)));
}

pub returns-else-contains : goal.returns-else-contains
returns-else-contains c = record { is = rw c.if-contains.false (valid_not _ (λ a b. grind (arith, nat_tests))) }
