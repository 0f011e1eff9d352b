-- `free_words`: each is a number of 32 bits, as those of the tables are.
use mir.Facts.{Fits-lt-pow}
use Rattle.soundness.proofs.Free.{copy_fits}
use Rattle.soundness.proofs.held.free_words.Goals as goal

pub returns-clause-range : goal.returns-clause-range
returns-clause-range c = copy_fits _ c.requires c.copy_from_slice.ensures.after (λ k. Fits-lt-pow (c.type_inv.t k))
