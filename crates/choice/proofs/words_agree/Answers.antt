-- Each word is that of the births.
use mathlib.Core.Path.{refl, ◌∙◌}
use Rattle.std.proofs.Common.{rules, tests}
use Rattle.std.proofs.lemmas.Iterator.{YieldsList-from_range}
use Rattle.std.proofs.lemmas.Iterator.Search.{all_from_yields_List}
use Rattle.choice.specs.Words.{born_free}
use Rattle.choice.proofs.Agree.{agrees, agree_list}
use Rattle.choice.proofs.words_agree.Goals as goal

pub returns : goal.returns
returns c =
    let words = c.args.words.now in
    let p = born_free c.args.births.now in
    let n = c.args.n in
    all_from_yields_List (agrees words p n) _ _ _ c.all.ensures.ran (YieldsList-from_range 0 64 64 refl refl) (λ x b q k. search (rules, tests))
    ∙ agree_list words p n 64
