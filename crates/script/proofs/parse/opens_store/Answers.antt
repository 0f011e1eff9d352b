-- `opens_store` meets its contract.
use mathlib.Core.Path.{◌∙◌}
use Rattle.script.specs.Parse.{store}
use Rattle.script.proofs.Opening.{starts_opens}
use Rattle.script.proofs.parse.opens_store.Goals as goal

pub returns : goal.returns
returns c = c.starts_with.ensures.value ∙ starts_opens store c.args.line.now
