-- `look`: each arm is one look.
use Rattle.engine.proofs.Looking.{of_look, look_link}
use Rattle.engine.proofs.look.Goals as goal

pub read-requires : goal.read-requires
read-requires c =
    (c.requires.0, c.requires.1, look_link c.args.g c.args.t.now c.in-Read.is c.args.link c.requires.2)

pub estimate-requires : goal.estimate-requires
estimate-requires c =
    (c.requires.0, c.requires.1, look_link c.args.g c.args.t.now c.in-Estimate.is c.args.link c.requires.2)

pub returns-in-Read : goal.returns-in-Read
returns-in-Read c = let both = of_look _ _ _ _ _ c.in-Read.is (c.read.ensures.reply, c.read.ensures.out) in record {
  reply = both.0;
  out = both.1;
}

pub returns-in-FreeList : goal.returns-in-FreeList
returns-in-FreeList c = let both = of_look _ _ _ _ _ c.in-FreeList.is (c.free_list.ensures.reply, c.free_list.ensures.out) in record {
  reply = both.0;
  out = both.1;
}

pub returns-in-Estimate : goal.returns-in-Estimate
returns-in-Estimate c = let both = of_look _ _ _ _ _ c.in-Estimate.is (c.estimate.ensures.reply, c.estimate.ensures.out) in record {
  reply = both.0;
  out = both.1;
}
