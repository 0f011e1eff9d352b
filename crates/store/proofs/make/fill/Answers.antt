-- `fill`: the zeros, the free words, the six numbers.
use mathlib.Core.Path.{ap, ◌∙◌}
use lib.Seq.{sets}
use Rattle.std.proofs.Common.{rules}
use Rattle.geometry.specs.Limits.{blocks}
use Rattle.model.specs.Layout.{listed}
use Rattle.store.specs.Fresh.{full_word, six_numbers}
use Rattle.store.proofs.Filling.{zeroed, filled}
use Rattle.store.proofs.make.fill.Goals as goal

pub returns : goal.returns
returns c =
    let g = c.args.g in
    c.put_six.ensures ∙ ap (λ u. sets u 0 (six_numbers g)) c.fill_words.ensures ∙
    ap (λ u. sets (sets u 64 (listed (full_word (blocks g)) 0 64)) 0 (six_numbers g)) (zeroed _ _ _ c.requires.1 (search rules)) ∙
    filled g c.requires.0 c.args.t.now c.requires.1
