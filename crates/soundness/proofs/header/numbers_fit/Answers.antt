-- `numbers_fit`: the six numbers that were read are those of the header.
use Rattle.model.specs.Memory.{numbers?}
use Rattle.soundness.proofs.header.numbers_fit.Goals as goal

pub returns : goal.returns
unfolding numbers?
returns c =
    rw (
      c.header_number.ensures,
      c.header_number-2.ensures,
      c.header_number-3.ensures,
      c.header_number-4.ensures,
      c.header_number-5.ensures,
      c.header_number-6.ensures,
    )
