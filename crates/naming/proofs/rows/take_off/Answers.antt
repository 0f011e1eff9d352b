-- `take_off`: the count of the slot that the link leads to, then the link.
use mathlib.Core.Path.{◌≡◌, ap, ◌∙◌}
use Prim.Native.Nat.{pred, ◌-◌}
use native.Mathlib.Omega.{arith}
use lib.ListN.{get_or, set}
use Rattle.model.specs.Layout.{title_cell}
use Rattle.tables.specs.Titles.{title_off}
use Rattle.naming.specs.Rows.{count_down, taken_off}
use Rattle.naming.proofs.rows.take_off.Goals as goal

pub count_down-requires : goal.count_down-requires
count_down-requires c =
    let t = c.args.t.now in
    let e : pred (get_or t (title_cell c.args.i) 0) ≡ c.wide-link.result - 1 = omega (arith, c.wide-link.ensures) in
    (c.requires.0, omega (arith, c.wide-link.ensures), rw e at c.requires.4)

pub returns : goal.returns
unfolding taken_off title_off
returns c =
    let t = c.args.t.now in
    let e : c.wide-link.result - 1 ≡ pred (get_or t (title_cell c.args.i) 0) = omega (arith, c.wide-link.ensures) in
    ap (λ u. set u (title_cell c.args.i) 0) (c.count_down.ensures ∙ ap (count_down t) e)
