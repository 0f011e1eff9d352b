-- `near_at` meets its contract: a letter up to the line feed is the whole line, or a number follows.
use native.Mathlib.Omega.{arith}
use mathlib.Core.Path.{refl}
use mathlib.Core.List.{[]}
use lib.ListN.{get_or}
use Rattle.script.proofs.OnePass.{stand_none, call_found}
use Rattle.script.proofs.said.near_at.Goals as goal

pub returns-then-text-end-eq10 : goal.returns-then-text-end-eq10
returns-then-text-end-eq10 c = let a = c.args in
    let letter = get_or a.text.now a.at 0 in
    let feed = c.if-text-end-eq10.true in
    call_found a.text.now a.at letter [] _ (omega arith) refl (stand_none _ _) _ _ c.bare_of.ensures c.found.ensures (omega arith) feed
