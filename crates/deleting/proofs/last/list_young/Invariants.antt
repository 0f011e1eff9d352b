-- Blocks that the pred has not are listed, word by word.
use mathlib.Core.Path.{◌≡◌}
use Prim.Native.Nat.{◌≤◌, min}
use lib.ListN.{length}
use lib.Seq.{sets}
use Rattle.model.specs.Lists.{rows}
use Rattle.model.specs.Check.{own_at}
use Rattle.model.specs.Layout.{view_of}
use Rattle.deleting.proofs.last.list_young.Given as goal

abbrev pub invariant-loop-x : goal.invariant-loop-x
invariant-loop-x l = (l.count ≤ min l.x l.g.pages) × (length l.out ≡ length l.initial.out) ×
    (l.count ≡ length (rows (own_at (view_of l.g l.t) l.s) 0 (min l.x l.g.pages))) ×
    (l.out ≡ sets l.initial.out 0 (rows (own_at (view_of l.g l.t) l.s) 0 (min l.x l.g.pages)))
