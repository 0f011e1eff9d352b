-- Each bit says whether a slot is empty.
use Rattle.std.proofs.Common.{rules}
use Rattle.choice.proofs.Births.{word_from}
use Rattle.tables.specs.Columns.{empty_in}
use Rattle.tables.proofs.find.empty_word.Goals as goal

pub returns : goal.returns
unfolding empty_in
returns c = word_from (empty_in c.args.t.now) c.args.from 32 c.word_where.ensures.fits (λ k h. let e = c.word_where.ensures.bits k h in search rules)
