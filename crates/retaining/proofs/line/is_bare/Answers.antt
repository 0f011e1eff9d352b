-- Whether a window may take a record: neither a name nor a fork is on it.
use native.Mathlib.Omega.{arith}
use lib.ListN.{get_or}
use borrow.Author.Tests.{ne_eqb}
use Rattle.model.specs.Layout.{name_cell}
use Rattle.retaining.proofs.Bare
use Rattle.retaining.proofs.line.is_bare.Goals as goal

pub returns-else-t-s-eq0 : goal.returns-else-t-s-eq0
returns-else-t-s-eq0 c =
    rw (ne_eqb (get_or c.args.t.now (name_cell c.args.s) 0) 0 c.if-t-s-eq0.false)
    (Bare.named_not c.args.g c.args.t.now _ c.requires.1 (omega arith))

pub returns-then-t-s-eq0 : goal.returns-then-t-s-eq0
returns-then-t-s-eq0 c = Bare.nameless_is c.args.g c.args.t.now _ c.requires.1 _ (omega arith) c.is_forked.ensures
