-- A deadlist is parted, entry by entry.
use mathlib.Core.Path.{◌≡◌}
use Prim.Native.Nat.{◌+◌, ◌≤◌}
use lib.ListN.{length, take}
use lib.Seq.{sets}
use Rattle.model.specs.Layout.{list_cell, view_of}
use Rattle.deleting.specs.Stages.{younger, others}
use Rattle.deleting.proofs.next.part_row.Given as goal

abbrev pub invariant-loop-i : goal.invariant-loop-i
invariant-loop-i l = (length l.t ≡ length l.initial.t) × (length l.out ≡ length l.initial.out) × (l.len ≤ 256) × (l.count + l.kept ≡ l.i) ×
    (l.count ≡ length (younger (view_of l.g l.initial.t) l.p (take l.i ((view_of l.g l.initial.t).list l.n)))) ×
    (l.kept ≡ length (others (view_of l.g l.initial.t) l.p (take l.i ((view_of l.g l.initial.t).list l.n)))) ×
    (l.out ≡ sets l.initial.out 0 (younger (view_of l.g l.initial.t) l.p (take l.i ((view_of l.g l.initial.t).list l.n)))) ×
    (l.t ≡ sets l.initial.t (list_cell l.g.records l.n 0) (others (view_of l.g l.initial.t) l.p (take l.i ((view_of l.g l.initial.t).list l.n))))
