-- The pages of slot f become those of slot s.
use mathlib.Core.Path.{◌∙◌}
use native.Mathlib.Omega.{arith}
use Rattle.lines.proofs.Growing
use Rattle.lines.proofs.grow.copy_pages.Goals as goal

pub returns : goal.returns
returns c = record { is = c.copy_within.ensures.after ∙ Growing.copied c.requires.0 _ _ _ c.requires.1 c.requires.2 (omega arith) }
