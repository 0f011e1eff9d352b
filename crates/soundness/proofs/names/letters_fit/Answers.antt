-- `letters_fit`: the numbers one after another.
use Rattle.std.proofs.Common.{◌≡◌, ◌+◌, ◌-◌, ap, ◌∙◌, take, drop, rules, arith}
use borrow.Author.Tests.{tests}
use Rattle.std.proofs.lemmas.Iterator.{YieldsList-from_slice}
use Rattle.std.proofs.lemmas.Iterator.Search.{all_from_yields_List}
use Rattle.std.specs.List.{list_all}
use Rattle.soundness.proofs.NamesRows.{letter?, letters_part}
use Rattle.soundness.proofs.names.letters_fit.Goals as goal

pub returns : goal.returns
returns c =
    let a = c.args in
    let n : a.at + a.n - a.at ≡ a.n = omega arith in
    all_from_yields_List letter? _ _ _ c.all.ensures.ran (YieldsList-from_slice (take (a.at + a.n - a.at) (drop a.at a.t.now)) cc)
    (λ x b q k. search (rules, tests)) ∙
    ap (λ k. list_all letter? (take k (drop a.at a.t.now))) n ∙ letters_part a.t.now a.at a.n c.requires
