-- `step`: a call of a letter and numbers, or another line.
use mathlib.Core.Path.{refl, ap}
use Rattle.script.specs.Spoken.{spoken_at}
use Rattle.session.proofs.Stepping.{is_uncalled, promised}
use Rattle.session.proofs.step.Goals as goal

pub other_line-requires : goal.other_line-requires
other_line-requires c =
    (c.requires.0, (c.requires.1, is_uncalled c.args.said c.in_default.in_default-own.keys2))

pub returns-in_default : goal.returns-in_default
returns-in_default c =
    let a = c.args in
    let e = c.other_line.ensures in
    let both = promised a.hints.now refl e.line e.hints in record {
      reply = both.0;
      session = both.1.0;
      tables = both.1.1.0;
      log = both.1.1.1.0;
      out = both.1.1.1.1.0;
      kept = both.1.1.1.1.1.0;
      few = both.1.1.1.1.1.1.0;
      hints = both.1.1.1.1.1.1.1;
    }

pub returns : goal.returns
returns c =
    let a = c.args in
    let e = c.call_line.ensures in
    let both = promised a.hints.now (ap (spoken_at a.text.now a.at) c.in-Asks.is) e.line e.hints in record {
      reply = both.0;
      session = both.1.0;
      tables = both.1.1.0;
      log = both.1.1.1.0;
      out = both.1.1.1.1.0;
      kept = both.1.1.1.1.1.0;
      few = both.1.1.1.1.1.1.0;
      hints = both.1.1.1.1.1.1.1;
    }
