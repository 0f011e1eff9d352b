-- `sogvect_make`: what `make` promises, coded.
use mathlib.Core.Path.{◌∙◌}
use Rattle.sogvect.proofs.Coding.{code_is}
use Rattle.sogvect.proofs.sogvect_make.Goals as goal

pub returns : goal.returns
returns c =
    let m = c.make-a.ensures in record {
      code = c.coded.ensures.code ∙ code_is _ _ _ (rw c.of-numbers.ensures at m.reply);
      tables = rw c.of-numbers.ensures at m.tables;
    }
