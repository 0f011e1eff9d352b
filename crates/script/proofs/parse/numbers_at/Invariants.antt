-- `numbers_at` meets its contract: what is read from here on, after the numbers in the buffer, is the whole.
use Prim.Native.Nat.{◌-◌}
use mathlib.Core.Path.{◌≡◌}
use mathlib.Core.List.{[]}
use lib.ListN.{take}
use Rattle.script.specs.Parse.{numbers_from}
use Rattle.script.proofs.parse.numbers_at.Given as goal

abbrev pub invariant-loop-i : goal.invariant-loop-i
invariant-loop-i l = numbers_from l.line l.at (l.most - l.i) (take l.i l.out) ≡ numbers_from l.line l.from l.most []
