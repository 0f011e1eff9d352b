-- `put_pair`: nothing of an empty run, else its two numbers.
use native.Mathlib.Omega.{arith}
use mathlib.Core.Path.{refl}
use native.Mathlib.Numerals.{add-one}
use lib.ListN.{length-set}
use Rattle.logging.proofs.Listing.{ending_none, ending_some}
use Rattle.logging.proofs.put_pair.Goals as goal

pub returns-then-lo-hi : goal.returns-then-lo-hi
returns-then-lo-hi c = rw (ending_none c.args.lo c.args.hi c.if-lo-hi.true) (record {
  count = omega arith;
  numbers = refl;
})

pub bounds-out-at-2 : goal.bounds-out-at-2
bounds-out-at-2 c = omega (arith, length-set c.args.out.now c.args.at c.args.lo, c.requires)

pub returns : goal.returns
returns c =
    let s = c.args in rw (ending_some s.lo s.hi c.requires.2 c.if-lo-hi.false, add-one s.at) (record {
      count = omega arith;
      numbers = refl;
    })
