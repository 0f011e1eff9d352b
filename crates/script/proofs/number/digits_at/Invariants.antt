-- `digits_at` meets its contract: what is read from i on, after the value so far, is the whole; the value is below a power of ten.
use Prim.Native.Nat.{◌<◌, ◌+◌, ◌-◌, ◌^◌}
use mathlib.Core.Path.{◌≡◌}
use lib.ListN.{drop}
use Rattle.script.specs.Parse.{digits_from}
use Rattle.script.proofs.number.digits_at.Given as goal

abbrev pub invariant-loop-i : goal.invariant-loop-i
invariant-loop-i l = (l.value < 10 ^ (l.i - l.from + 1))
    × (digits_from (drop l.i l.line) l.value (6 - (l.i - l.from)) l.i ≡ digits_from (drop l.from l.line) l.first 6 l.from)
