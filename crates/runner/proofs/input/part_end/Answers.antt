-- `input::part_end`: all of a whole script, else to after the last line feed.
use Rattle.runner.proofs.Feeds.{to_the_end, to_the_feed}
use Rattle.runner.proofs.input.part_end.Goals as goal

pub returns-then-whole : goal.returns-then-whole
returns-then-whole c = let both = to_the_end _ _ _ c.if-whole.true in record {
  is = both.0;
  range = both.1;
}

pub returns : goal.returns
returns c = let both = to_the_feed _ _ _ _ c.if-whole.false c.lines_end.ensures in record {
  is = both.0;
  range = both.1;
}
