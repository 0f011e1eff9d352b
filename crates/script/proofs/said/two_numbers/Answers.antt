-- `two_numbers` meets its contract: a letter and two numbers up to the line feed are the whole line, or the third number follows.
use native.Mathlib.Omega.{arith}
use mathlib.Core.List.{[], ◌∷◌}
use Rattle.script.proofs.OnePass.{stand_none, stand_more, call_found, next_read}
use Rattle.script.proofs.said.two_numbers.Goals as goal

pub bounds-text-end : goal.bounds-text-end
bounds-text-end c = omega (arith, (next_read c.args.text.now c.args.i _ c.in_ok-y.y c.in_ok-y.end c.in_ok-y.was c.short_at.ensures).1)

pub returns-then-text-end-eq10 : goal.returns-then-text-end-eq10
returns-then-text-end-eq10 c =
    let second_is = next_read c.args.text.now c.args.i _ c.in_ok-y.y c.in_ok-y.end c.in_ok-y.was c.short_at.ensures in
    let a = c.args in
    let v = c.in_ok-y.y in
    let s2 = stand_more a.text.now _ _ _ [] _ second_is.0 (stand_none _ _) in
    let s1 = stand_more a.text.now _ _ _ _ _ c.requires.1.0 s2 in
    let says = c.two_of.ensures in
    let feed = c.if-text-end-eq10.true in
    call_found a.text.now a.at a.letter (a.x ∷ v ∷ []) _ (omega arith) c.requires.0.1 s1 _ _ says c.found.ensures
    (omega (arith, second_is.1)) feed

pub three_numbers-requires : goal.three_numbers-requires
three_numbers-requires c =
    let second_is = next_read c.args.text.now c.args.i _ c.in_ok-y.y c.in_ok-y.end c.in_ok-y.was c.short_at.ensures in
    (c.requires.0, c.requires.1, second_is)
