-- `compress_log`: the words that were written are those of the compressed log, so many that they fit.
use Rattle.logging.proofs.Answers.{words_few, compressed_done}
use native.Mathlib.Omega.{arith}
use Rattle.logging.proofs.compress_log.Goals as goal

pub overflow_cast-t : goal.overflow_cast-t
overflow_cast-t c =
    omega (arith, words_few c.args.g c.args.t.now _ c.requires.0 c.release.ensures c.put_kept-bytes.result c.put_kept-bytes.ensures.count)

pub overflow_cast-out : goal.overflow_cast-out
overflow_cast-out c =
    omega (arith, words_few c.args.g c.args.t.now _ c.requires.0 c.release.ensures c.put_kept-bytes.result c.put_kept-bytes.ensures.count)

pub returns : goal.returns
returns c = let both = compressed_done c.args.g c.args.t.now _ c.requires.0 c.release.ensures c.put_kept-bytes.result c.put_kept-bytes.ensures.count c.args.log.now _
    c.args.out.now c.requires.2 c.put_kept-bytes.ensures.bytes in record {
      reply = both.0;
      tables = both.1.0;
      log = both.1.1.0;
      out = both.1.1.1;
    }
