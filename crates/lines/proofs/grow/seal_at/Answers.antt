-- S: the pages, the seal, the name, then the record.
use native.Mathlib.Omega.{arith}
use mathlib.Core.Path.{refl, ap, ◌∙◌}
use Prim.Native.Nat.{ℕ, ◌+◌, ◌≤◌}
use lib.ListN.{length, length-set}
use Rattle.lines.proofs.Growing
use Rattle.lines.proofs.grow.seal_at.Goals as goal

pub bounds-t-s-2 : goal.bounds-t-s-2
bounds-t-s-2 c = simp length-set (omega arith)

pub bounds-t-s-3 : goal.bounds-t-s-3
bounds-t-s-3 c = simp length-set (omega arith)

pub pass_names-names-requires : goal.pass_names-names-requires
pass_names-names-requires c =
    let p = c.copy_pages in
    let h : 2048 ≤ length p.new.t = omega arith in
    (omega arith, omega arith, simp length-set h)

pub open_record-requires : goal.open_record-requires
open_record-requires c =
    let e = c.copy_pages.ensures.is in
    let o = c.pass_names-names.ensures in
    let a = Growing.gone_length c.requires.0 c.args.f _ c.requires.1 c.args.s _ _ c.requires.3 e refl c.requires.5 c.requires.6 _ o.is in
    let b = Growing.gone_last c.requires.0 c.args.f _ c.requires.1 c.args.s _ _ c.requires.3 e refl c.requires.5 c.requires.6 _ o.is in
    (omega arith, omega (arith, a), omega (arith, b, c.requires.2))

pub returns : goal.returns
returns c =
    let e = c.copy_pages.ensures.is in
    let o = c.pass_names-names.ensures in
    let n = c.open_record.ensures in
    record {
      is = Growing.sealed c.requires.0 c.args.f _ c.requires.1 c.args.s _ _ c.requires.3 e refl c.requires.5 c.requires.6 _ o.is _ _ _ n.is o.count
          (omega arith) refl c.requires.4;
      number = n.number ∙ ap (λ (k : ℕ). k + 1)
          (Growing.gone_last c.requires.0 c.args.f _ c.requires.1 c.args.s _ _ c.requires.3 e refl c.requires.5 c.requires.6 _ o.is);
    }

pub shape_of-t : goal.shape_of-t
shape_of-t c = Growing.viewed_length _ _ _ _ _ (returns c).is
