-- A record is taken out of its line, on either way.
use native.Mathlib.Omega.{arith}
use mathlib.Core.Path.{◌≡◌, ap, ◌∙◌}
use Prim.Native.Nat.{suc, ◌-◌}
use lib.ListN.{length}
use lib.Seq.{sets}
use Rattle.model.specs.Layout.{stored}
use Rattle.tables.proofs.Ranges
use Rattle.tables.proofs.Steps.{holds_first}
use Rattle.deleting.proofs.Calling
use Rattle.deleting.proofs.delete.unhook.Goals as goal

pub list_young-requires : goal.list_young-requires
list_young-requires c =
    let g = c.args.g in
    let t = c.args.t.now in
    let s = c.args.s in
    let test = c.if-link-eq0.true in
    let e = Calling.deleted_last g t s c.args.link test in (c.requires.0, omega (arith, ap length e, c.requires.1), Ranges.slot_in c.requires.0 s c.requires.2.0, c.requires.2.0)

pub returns-then-link-eq0 : goal.returns-then-link-eq0
returns-then-link-eq0 c =
    let g = c.args.g in
    let t = c.args.t.now in
    let s = c.args.s in
    let test = c.if-link-eq0.true in
    let e = Calling.deleted_last g t s c.args.link test in
    let made = c.list_young.ensures in
    record {
      count = made.count ∙ ap length e;
      tables = (holds_first c.requires.0).is ∙ ap (λ U. stored g U t) (Calling.unhook_last g t s c.args.link test);
      out = made.out ∙ ap (sets c.args.out.now 0) e;
    }

pub pred_number-p-requires : goal.pred_number-p-requires
pred_number-p-requires c = (c.requires.0, Ranges.slot_in c.requires.0 c.args.s c.requires.2.0, c.requires.2.0)

pub delete_next-requires : goal.delete_next-requires
delete_next-requires c =
    let g = c.args.g in
    let t = c.args.t.now in
    let s = c.args.s in
    let test = c.if-link-eq0.false in
    let e = Calling.deleted_next g t s c.args.link test in
    let n : c.args.link ≡ suc (c.args.link - 1) = omega arith in
    (c.requires.0, omega (arith, ap length e, c.requires.1), c.requires.2, c.requires.3 ∙ n, c.pred_number-p.ensures)

pub returns : goal.returns
returns c =
    let g = c.args.g in
    let t = c.args.t.now in
    let s = c.args.s in
    let test = c.if-link-eq0.false in
    let e = Calling.deleted_next g t s c.args.link test in
    let made = c.delete_next.ensures in
    record {
      count = made.count ∙ ap length e;
      tables = made.tables ∙ ap (λ U. stored g U t) (Calling.unhook_next g t s c.args.link test);
      out = made.out ∙ ap (sets c.args.out.now 0) e;
    }
