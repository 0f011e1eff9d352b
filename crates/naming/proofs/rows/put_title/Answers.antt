-- `put_title`: link, length and letters are stored, one after another.
use native.Mathlib.Omega.{arith}
use lib.ListN.{length-set}
use Rattle.model.specs.Layout.{title_cell}
use Rattle.tables.specs.Titles.{title_put}
use Rattle.naming.proofs.rows.put_title.Goals as goal

pub bounds-t-i-2 : goal.bounds-t-i-2
bounds-t-i-2 c =
    omega (arith, c.requires.0, c.requires.1, length-set c.args.t.now (title_cell c.args.i) c.args.link)

pub put_letters-requires : goal.put_letters-requires
put_letters-requires c =
    simp length-set (omega (arith, c.requires.0, c.requires.1, c.requires.3))

pub shape_of-t : goal.shape_of-t
shape_of-t c = simp length-set at c.t-1.given

pub returns : goal.returns
unfolding title_put
returns c = c.put_letters.ensures
