-- A page of a row.
use mathlib.Core.Path.{sym}
use Rattle.tables.proofs.Fields
use Rattle.deleting.proofs.last.page_at.Goals as goal

pub returns : goal.returns
returns c = sym (Fields.page_is c.args.g c.args.t.now c.args.s c.args.x c.requires.1 c.requires.2)
