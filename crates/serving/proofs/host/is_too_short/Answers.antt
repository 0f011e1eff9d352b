-- `is_too_short`: length by length.
use Rattle.std.proofs.Common.{rules}
use Rattle.serving.specs.Host.{lent_short}
use Rattle.serving.proofs.host.is_too_short.Goals as goal

pub returns-then-out-lt-MOST_OUT : goal.returns-then-out-lt-MOST_OUT
unfolding lent_short
returns-then-out-lt-MOST_OUT c = search rules

pub returns-else-out-lt-MOST_OUT : goal.returns-else-out-lt-MOST_OUT
unfolding lent_short
returns-else-out-lt-MOST_OUT c = search rules
