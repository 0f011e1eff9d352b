-- One place more.
use native.Mathlib.Omega.{arith}
use Rattle.choice.proofs.Births.{place_yes, place_no}
use Rattle.choice.proofs.word_where.Goals.{then-is, else-is}
use Rattle.choice.proofs.word_where.Goals as goal

pub loop-k-preserved : goal.loop-k-preserved
loop-k-preserved g c =
    let i = c.loop-k.invariant in
    let post = goal.F-post g c.args.is in
    let few = c.requires.few in
    elim c.if-is.branch [
      | then-is w ↦ rw w.word-is (place_yes post c.loop-k.k c.loop-k.word i.0 i.1 (omega arith) (rw w.if-is.true at c.is.ensures))
      | else-is w ↦ rw w.word-is (place_no post c.loop-k.k c.loop-k.word i.0 i.1 (rw w.if-is.false at c.is.ensures))
    ]
