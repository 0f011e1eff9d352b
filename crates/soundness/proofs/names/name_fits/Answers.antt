-- `name_fits`: its length, then its letters.
use Rattle.std.proofs.Common.{◌≡◌, ◌&&◌, leb, rules}
use borrow.Author.Tests.{tests}
use Rattle.soundness.proofs.NamesRows.{name_no, name_is}
use Rattle.soundness.proofs.names.name_fits.Goals as goal

pub returns-then-contains-clause-is : goal.returns-then-contains-clause-is
returns-then-contains-clause-is c =
    let v : c.contains.result ≡ (leb 1 c.wide-n.result && leb c.wide-n.result 32) = search (rules, tests) in
    name_is _ _ _ c.wide-n.ensures v c.if-contains.true c.letters_fit.ensures

pub returns-else-contains-clause-is : goal.returns-else-contains-clause-is
returns-else-contains-clause-is c =
    let v : c.contains.result ≡ (leb 1 c.wide-n.result && leb c.wide-n.result 32) = search (rules, tests) in
    name_no _ _ _ c.wide-n.ensures v c.if-contains.false
