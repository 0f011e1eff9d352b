-- `word_walk`: what is left of the pages comes to the same, and the bits of those that are left are in the iterator's word.
use Rattle.tables.specs.Lent.{view_in}
use Rattle.soundness.proofs.PagesStep.{Walking}
use Rattle.soundness.proofs.pages.word_walk.Given as goal

abbrev pub invariant-loop-k : goal.invariant-loop-k
invariant-loop-k l = Walking (view_in l.tables) l.s l.kin.pred l.x l.n l.initial.own l.initial.gone l.count l.own l.gone l.k-iterator.word l.found
