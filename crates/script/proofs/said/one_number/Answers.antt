-- `one_number` meets its contract: a letter and one number up to the line feed are the whole line, or the second number follows.
use native.Mathlib.Omega.{arith}
use mathlib.Core.List.{[], ◌∷◌}
use Prim.Native.Nat.{◌+◌}
use Rattle.script.proofs.OnePass.{stand_none, stand_more, call_found, next_read}
use Rattle.script.proofs.said.one_number.Goals as goal

pub bounds-text-end : goal.bounds-text-end
bounds-text-end c = omega (arith, (next_read c.args.text.now (c.args.at + 1) _ c.in_ok-x.x c.in_ok-x.end c.in_ok-x.was c.short_at.ensures).1)

pub returns-then-text-end-eq10 : goal.returns-then-text-end-eq10
returns-then-text-end-eq10 c =
    let first_is = next_read c.args.text.now (c.args.at + 1) _ c.in_ok-x.x c.in_ok-x.end c.in_ok-x.was c.short_at.ensures in
    let a = c.args in
    let v = c.in_ok-x.x in
    let s1 = stand_more a.text.now _ _ _ [] _ first_is.0 (stand_none _ _) in
    let says = c.one_of.ensures in
    let feed = c.if-text-end-eq10.true in
    call_found a.text.now a.at a.letter (v ∷ []) _ (omega arith) c.requires.1 s1 _ _ says c.found.ensures
    (omega (arith, first_is.1)) feed

pub two_numbers-requires : goal.two_numbers-requires
two_numbers-requires c =
    let first_is = next_read c.args.text.now (c.args.at + 1) _ c.in_ok-x.x c.in_ok-x.end c.in_ok-x.was c.short_at.ensures in
    (c.requires, first_is)
