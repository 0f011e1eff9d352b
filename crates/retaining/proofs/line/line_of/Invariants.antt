-- The records of a line, newest first: at each turn those that are written and those that the link leads to are the line.
use Prim.Native.Nat.{◌-◌, ◌≤◌, ◌<◌}
use Rattle.geometry.specs.declared.Geometry.{Geometry}
use Rattle.model.specs.Layout.{view_of}
use Rattle.tables.specs.Ready.{Ready}
use Rattle.retaining.proofs.Lining.{Lining}
use Rattle.retaining.proofs.line.line_of.Given as goal

abbrev pub invariant-loop-link : goal.invariant-loop-link
invariant-loop-link l = (l.count ≤ 64) × (l.link ≤ 64) × ((g : Geometry) → Ready g l.t → 0 < (view_of g l.t).num l.s → Lining g l.t l.s l.line l.count l.link)

abbrev pub decreases-loop-link : goal.decreases-loop-link
decreases-loop-link l = 64 - l.count
