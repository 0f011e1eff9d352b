-- The first row of the name, as `find` gives it.
use Rattle.std.proofs.Common.{◌≡◌, true, false, rules}
use Rattle.std.proofs.lemmas.Iterator.{first_from_Range}
use Rattle.model.specs.Layout.{titles_of}
use Rattle.model.specs.Names.{carries, row_of}
use Rattle.tables.proofs.Seeks.{find_seeks, link_seeks}
use Rattle.naming.proofs.rows.row_of.Goals as goal

pub returns : goal.returns
unfolding row_of
returns c =
    let has = carries (titles_of c.args.t.now) c.args.name.now in
    let first = first_from_Range _ _ _ _ (λ i. has i ≡ true) (λ i. has i ≡ false) c.find.ensures.ran
    (λ x q e. search rules)
    (λ x q e. (search rules, search rules)) in
    let seeks = find_seeks has 32 _ _ (λ i l e. e) (λ i l e. e) c.find.result first in
    let link = link_seeks has 32 c.find.result seeks in
    record { is = link.0; range = link.1 }
