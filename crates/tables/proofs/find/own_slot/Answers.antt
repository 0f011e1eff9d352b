-- A number less one, cut to as many bits as the power of two has zeros.
use Rattle.tables.proofs.Own
use Rattle.tables.proofs.find.own_slot.Goals as goal

pub overflow_shl-span : goal.overflow_shl-span
overflow_shl-span c =
    let e = c.ilog2-span.ensures in
    Own.log_few c.args.records c.requires.0 c.requires.1 c.ilog2-span.result e.power_le e.next_power_gt

pub returns : goal.returns
returns c =
    let e = c.ilog2-span.ensures in
    let both = Own.own_is c.args.records c.requires.0 c.requires.1 c.ilog2-span.result e.power_le e.next_power_gt _ _ c.wide.ensures in record {
      is = both.0;
      range = both.1;
    }
