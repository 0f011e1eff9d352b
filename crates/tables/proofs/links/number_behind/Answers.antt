-- The number behind a link.
use Rattle.tables.proofs.Behind
use Rattle.tables.proofs.links.number_behind.Goals as goal

pub returns-then-link-eq0 : goal.returns-then-link-eq0
returns-then-link-eq0 c = search (Behind.behind_none)

pub returns : goal.returns
returns c = search (Behind.number_some)
