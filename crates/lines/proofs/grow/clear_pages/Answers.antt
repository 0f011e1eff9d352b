-- The pages of slot f become empty.
use native.Mathlib.Omega.{arith}
use Rattle.std.proofs.Common.{rules}
use Rattle.lines.proofs.Growing
use Rattle.lines.proofs.grow.clear_pages.Goals as goal

pub returns : goal.returns
returns c = record { is = Growing.cleared c.requires.0 _ _ _ c.requires.1 (omega arith) (search rules) }
