-- `sogvect_log_compact`: what `compact` promises, coded.
use Rattle.sogvect.proofs.Coding.{was_compacted}
use Rattle.sogvect.proofs.sogvect_log_compact.Goals as goal

pub returns : goal.returns
returns c =
    let reply = rw c.of-numbers.ensures at c.compact-a.ensures.reply in
    let out = rw c.of-numbers.ensures at c.compact-a.ensures.out in
    let both = was_compacted _ _ _ _ _ _ _ (reply, out) (c.coded.ensures.code, c.coded.ensures.given) in record {
      code = both.0;
      count = both.1.0;
      out = both.1.1;
    }
