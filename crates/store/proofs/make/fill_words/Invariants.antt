-- `fill_words`: the words so far.
use mathlib.Core.Path.{◌≡◌}
use lib.Seq.{sets}
use Rattle.model.specs.Layout.{listed}
use Rattle.store.specs.Fresh.{full_word}
use Rattle.store.proofs.make.fill_words.Given as goal

abbrev pub invariant-loop-k : goal.invariant-loop-k
invariant-loop-k l = l.t ≡ sets l.initial.t 64 (listed (full_word l.n) 0 l.k)
