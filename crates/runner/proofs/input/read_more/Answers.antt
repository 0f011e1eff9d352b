-- `input::read_more`: the bytes read before stay.
use mathlib.Core.Path.{refl}
use Rattle.runner.proofs.Waiting.{waits_on}
use Rattle.runner.proofs.input.read_more.Goals as goal

pub loop-init : goal.loop-init
loop-init g c = record { same = refl; front = refl }

pub loop-preserved : goal.loop-preserved
loop-preserved g c = waits_on _ _ _ _ c.loop.invariant c.read_once.auto.text c.read_once.ensures.stays
