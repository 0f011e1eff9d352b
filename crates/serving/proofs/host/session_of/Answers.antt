-- `session_of`: the seven numbers, each of 32 bits.
use Rattle.serving.proofs.Hosting.{session_as}
use Rattle.serving.proofs.host.session_of.Goals as goal

pub returns : goal.returns
returns c = record {
  is = session_as c.args.run.now c.number_in.ensures.0 c.number_in-2.ensures.0 c.number_in-3.ensures.0 c.number_in-4.ensures.0 c.number_in-5.ensures.0 c.number_in-6.ensures.0 c.number_in-7.ensures.0;
  narrow = record {
    made = c.number_in.ensures.1;
    arenas = c.number_in-2.ensures.1;
    per = c.number_in-3.ensures.1;
    pages = c.number_in-4.ensures.1;
    records = c.number_in-5.ensures.1;
    turn = c.number_in-6.ensures.1;
    words = c.number_in-7.ensures.1;
  };
}
