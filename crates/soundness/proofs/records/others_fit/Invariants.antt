-- `others_fit`: so far they fit just where the slots before k do.
use Rattle.std.proofs.Common.{◌≡◌}
use Rattle.model.specs.Table.{all}
use Rattle.soundness.proofs.Clauses.{apart?}
use Rattle.soundness.proofs.records.others_fit.Given as goal

abbrev pub invariant-loop-k : goal.invariant-loop-k
invariant-loop-k l = l.fit ≡ all l.k (apart? l.t l.number l.prev)
