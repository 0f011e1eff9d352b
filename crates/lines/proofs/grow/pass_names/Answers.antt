-- The name of a record goes to another slot, if it has one.
use mathlib.Core.Path.{refl, sym}
use Rattle.lines.proofs.Growing
use Rattle.lines.proofs.grow.pass_names.Goals as goal

pub returns-then-names-eq0 : goal.returns-then-names-eq0
returns-then-names-eq0 c = record {
  is = Growing.passed_still _ _ _ c.if-names-eq0.true;
  count = sym c.if-names-eq0.true;
}

pub returns : goal.returns
returns c = record {
  is = Growing.passed_some _ _ _ _ c.if-names-eq0.false c.move_name.ensures;
  count = refl;
}
