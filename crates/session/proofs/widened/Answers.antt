-- `widened`: each number is that of the line.
use mathlib.Core.Path.{ap, ◌∙◌}
use Rattle.geometry.specs.Limits.{asked}
use Rattle.session.proofs.Stepping.{six_wide}
use Rattle.session.proofs.widened.Goals as goal

pub returns : goal.returns
returns c =
    ap asked c.of.ensures ∙
    six_wide c.args.x _ _ _ _ _ _ c.wide.ensures c.wide-2.ensures c.wide-3.ensures c.wide-4.ensures c.wide-5.ensures c.wide-6.ensures
