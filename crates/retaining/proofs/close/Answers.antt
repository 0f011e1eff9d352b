-- S in a line with a window: it seals, then deletes.
use Rattle.retaining.proofs.Closing
use Rattle.retaining.proofs.close.Goals as goal

pub seal_at-requires : goal.seal_at-requires
seal_at-requires c =
    let rules = Closing.seal_needs c.requires.0 _ _ _ c.requires.2 in
    (c.requires.0, rules.0, rules.1, rules.2, rules.3, rules.4, rules.5)

pub delete_oldest-requires : goal.delete_oldest-requires
delete_oldest-requires c =
    let closes = c.requires.2 in (
      Closing.ready₁ c.requires.0 _ _ _ closes _ c.seal_at.ensures.is,
      Closing.sealed_lined c.requires.0 _ _ _ closes _ c.seal_at.ensures.is _ _ c.line_of-count.ensures,
    )

pub returns : goal.returns
returns c = let both = Closing.closed_left c.requires.0 _ _ _ c.requires.2 _ c.seal_at.ensures.is _ _ c.line_of-count.ensures c.requires.3
    _ c.saturating_sub.ensures _ c.delete_oldest.ensures c.args.out.now c.requires.1
    _ c.seal_at.ensures.number in record {
      reply = both.0;
      tables = both.1.0;
      out = both.1.1;
    }
