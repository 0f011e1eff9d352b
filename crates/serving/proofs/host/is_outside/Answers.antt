-- `is_outside`: once there is a store, the making of its numbers says it.
use mathlib.Core.Path.{◌∙◌}
use Rattle.geometry.specs.Limits.{making_of}
use Rattle.serving.proofs.Hosting.{making_tells}
use Rattle.serving.proofs.host.is_outside.Goals as goal

pub returns : goal.returns
unfolding making_of
returns c =
    let new = rw c.from.ensures at c.new.ensures.is in
    c.is_err.ensures.value ∙ making_tells c.args.s c.if-s-eq0.false new
