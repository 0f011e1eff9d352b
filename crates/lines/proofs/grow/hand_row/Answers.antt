-- A row of names goes to another slot.
use native.Mathlib.Omega.{arith}
use Rattle.lines.proofs.Growing
use Rattle.lines.proofs.grow.hand_row.Goals as goal

pub returns-in_default : goal.returns-in_default
returns-in_default c = Growing.handed_none _ _ _ c.in_default.is

pub returns-in-Some : goal.returns-in-Some
returns-in-Some c = Growing.handed_some _ _ _ _ _ c.in-Some.is (omega arith)
