-- The word of as many blocks as there are.
use mathlib.Core.Path.{ap, ◌∙◌}
use Prim.Native.Nat.{◌*◌}
use native.Mathlib.Omega.{arith}
use Rattle.choice.specs.Words.{born_free, word_of}
use Rattle.choice.proofs.Births.{no_word}
use Rattle.choice.proofs.born_word.Goals as goal

pub returns-then-k-n : goal.returns-then-k-n
returns-then-k-n c = c.bits_of.ensures ∙ ap (word_of (born_free c.args.births.now) (32 * c.args.k)) (omega arith)

pub returns-then-k-n-2 : goal.returns-then-k-n-2
returns-then-k-n-2 c = c.bits_of-then-k-n-2.ensures ∙ ap (word_of (born_free c.args.births.now) (32 * c.args.k)) (omega arith)

pub returns-else-k-n-2 : goal.returns-else-k-n-2
returns-else-k-n-2 c = no_word (born_free c.args.births.now) (32 * c.args.k) ∙ ap (word_of (born_free c.args.births.now) (32 * c.args.k)) (omega arith)
