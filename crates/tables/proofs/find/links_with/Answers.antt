-- Links joined bit by bit, of one column.
use Rattle.std.proofs.Common.{rules}
use Rattle.tables.specs.Columns.{column_has}
use Rattle.tables.proofs.Seeks.{live_is}
use Rattle.tables.proofs.find.links_with.Goals as goal

pub returns : goal.returns
unfolding column_has
returns c = let a = c.args in c.links_where.ensures (column_has a.t.now a.column a.v) (λ s r h e. search (rules, live_is))
