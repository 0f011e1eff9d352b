-- A deadlist is copied after another.
use native.Mathlib.Omega.{arith}
use Rattle.deleting.proofs.Joining
use Rattle.deleting.proofs.next.join_rows.Goals as goal

pub returns : goal.returns
returns c =
    let a = c.args in
    let more = c.wide-more.ensures in
    Joining.row_joins a.g a.t.now a.s a.n a.kept c.requires.1 _ more _ (omega arith) (omega (arith, more, c.requires.0.room))
    (omega (arith, more, c.requires.0.room)) c.copy_within.ensures.after
