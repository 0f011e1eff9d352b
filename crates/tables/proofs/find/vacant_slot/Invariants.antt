-- The slot of a new record: its own, or the first empty one. From the last to the first, what was found is the result of the slots that were seen.
use Prim.Native.Nat.{◌-◌, ◌≤◌}
use mathlib.Core.Path.{◌≡◌}
use Rattle.model.specs.Table.{seek}
use Rattle.tables.specs.Columns.{empty_in}
use Rattle.tables.proofs.find.vacant_slot.Given as goal

abbrev pub invariant-loop-s : goal.invariant-loop-s
invariant-loop-s l = (l.found ≤ l.fn.g.records) × (l.found ≡ seek (empty_in l.t) l.s (l.fn.g.records - l.s))
