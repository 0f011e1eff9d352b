-- B: the pages, then the record.
use native.Mathlib.Omega.{arith}
use mathlib.Core.Path.{ap, ◌∙◌}
use Prim.Native.Nat.{ℕ, ◌+◌}
use Rattle.lines.proofs.Growing
use Rattle.lines.proofs.grow.begin_at.Goals as goal

pub open_record-requires : goal.open_record-requires
open_record-requires c =
    (omega arith, omega arith, omega (arith, Growing.paged_last c.requires.0 c.args.f _ c.requires.1 _ c.clear_pages.ensures.is))

pub returns : goal.returns
returns c =
    let e = c.clear_pages.ensures.is in
    let o = c.open_record.ensures in
    record {
      is = Growing.begun c.requires.0 c.args.f _ c.requires.1 _ e o.is;
      number = o.number ∙ ap (λ (n : ℕ). n + 1) (Growing.paged_last c.requires.0 c.args.f _ c.requires.1 _ e);
    }
