-- Each bit is what the closure says of its place.
use Rattle.std.proofs.Common.{rules}
use Rattle.choice.specs.Words.{born_free}
use Rattle.choice.proofs.Births.{word_from}
use Rattle.choice.proofs.bits_of.Goals as goal

pub returns : goal.returns
unfolding born_free
returns c = let s = c.args in
    word_from (born_free s.births.now) s.at s.n c.word_where.ensures.fits (λ k h. let e = c.word_where.ensures.bits k h in search rules)
