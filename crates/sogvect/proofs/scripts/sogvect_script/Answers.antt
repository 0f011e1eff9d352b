-- `sogvect_script`: what `serve_lent` promises, coded.
use Rattle.sogvect.proofs.Coding.{scripted}
use Rattle.sogvect.proofs.scripts.sogvect_script.Goals as goal

pub returns : goal.returns
returns c =
    scripted _ _ _ _ _ _ _ _ _ c.serve_lent-h.ensures (c.parted.ensures.code, (c.parted.ensures.at, c.parted.ensures.count))
