-- Links joined bit by bit: one slot more.
use mathlib.Core.Path.{◌∙◌}
use Rattle.tables.proofs.Seeks
use Rattle.tables.proofs.find.links_where.Goals.{then-is, else-is}
use Rattle.tables.proofs.find.links_where.Goals as goal

pub loop-s-init : goal.loop-s-init
loop-s-init g c = λ p says. Seeks.gather_none p

pub loop-s-preserved : goal.loop-s-preserved
loop-s-preserved g c = λ p says.
    let s = c.loop-s.s in
    let e = c.loop-s.invariant p says in
    let this = says s c.is.result c.loop-s-test.true c.is.ensures in
    elim c.if-is.branch [
      | then-is w ↦ w.found-is ∙ Seeks.gather_yes p s e (rw w.if-is.true at this)
      | else-is w ↦ w.found-is ∙ Seeks.gather_no p s e (rw w.if-is.false at this)
    ]
