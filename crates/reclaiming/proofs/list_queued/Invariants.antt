-- The first blocks of the queue are listed, each with its birth, block after block.
use mathlib.Core.Path.{◌≡◌}
use lib.ListN.{take}
use lib.Seq.{sets}
use Rattle.model.specs.Results.{paired}
use Rattle.model.specs.Layout.{state_of}
use Rattle.reclaiming.proofs.list_queued.Given as goal

abbrev pub invariant-loop-i : goal.invariant-loop-i
invariant-loop-i l =
    l.out ≡ sets l.initial.out 0 (paired (state_of l.g l.t).queue.birth (take l.i (state_of l.g l.t).queue.list))
