-- The blocks of the pages passed are listed, and the bits of the others are left.
use mathlib.Core.Path.{◌≡◌}
use Prim.Native.Nat.{ℕ, ◌+◌, ◌≤◌}
use lib.ListN.{length}
use lib.Seq.{sets}
use Rattle.choice.proofs.Taking.{Left}
use Rattle.model.specs.Lists.{rows}
use Rattle.model.specs.Check.{own_at}
use Rattle.model.specs.Layout.{view_of}
use Rattle.tables.specs.Rows.{differs}
use Rattle.deleting.proofs.last.list_word.Given as goal

abbrev pub invariant-loop-k : goal.invariant-loop-k
invariant-loop-k l = (y : ℕ) × Left (differs (view_of l.g l.t) l.s l.pred) l.x l.n y l.k-iterator.word × (l.found ≤ l.x + y) ×
    (length l.out ≡ length l.initial.out) × (l.found ≡ l.count + length (rows (own_at (view_of l.g l.t) l.s) l.x y)) ×
    (l.out ≡ sets l.initial.out l.count (rows (own_at (view_of l.g l.t) l.s) l.x y))
