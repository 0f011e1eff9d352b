-- `sogvect_log_read`: what `read_held` promises, coded.
use Rattle.sogvect.proofs.Coding.{was_read}
use Rattle.sogvect.proofs.sogvect_log_read.Goals as goal

pub returns : goal.returns
returns c =
    let reply = rw c.of-numbers.ensures at c.read_held-a.ensures.reply in
    let out = rw c.of-numbers.ensures at c.read_held-a.ensures.out in
    let both = was_read _ _ _ _ _ _ _ _ (reply, out) (c.coded.ensures.code, c.coded.ensures.given) in record {
      code = both.0;
      count = both.1.0;
      out = both.1.1;
    }
