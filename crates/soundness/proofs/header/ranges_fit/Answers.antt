-- `ranges_fit`: one law of `Whole`, of the numbers that were read.
use Rattle.soundness.proofs.Whole.{range_is}
use Rattle.soundness.proofs.header.ranges_fit.Goals as goal

pub returns : goal.returns
returns c =
    range_is _ _ c.header_number-last.ensures c.marks_fit-marks.ensures c.header_number.ensures
    c.header_number-2.ensures c.header_number-3.ensures
