-- `three_numbers` meets its contract: a letter and three numbers up to the line feed are the whole line.
use native.Mathlib.Omega.{arith}
use mathlib.Core.List.{[], ◌∷◌}
use Rattle.script.proofs.OnePass.{stand_none, stand_more, call_found, next_read}
use Rattle.script.proofs.said.three_numbers.Goals as goal

pub bounds-text-end : goal.bounds-text-end
bounds-text-end c = omega (arith, (next_read c.args.text.now c.args.j _ c.in_ok-z.z c.in_ok-z.end c.in_ok-z.was c.short_at.ensures).1)

pub returns : goal.returns
returns c =
    let third_is = next_read c.args.text.now c.args.j _ c.in_ok-z.z c.in_ok-z.end c.in_ok-z.was c.short_at.ensures in
    let a = c.args in
    let v = c.in_ok-z.z in
    let s3 = stand_more a.text.now _ _ _ [] _ third_is.0 (stand_none _ _) in
    let s2 = stand_more a.text.now _ _ _ _ _ c.requires.2.0 s3 in
    let s1 = stand_more a.text.now _ _ _ _ _ c.requires.1.0 s2 in
    let says = c.three_of.ensures in
    let feed = c.if-text-end-ne10.false in
    call_found a.text.now a.at a.letter (a.x ∷ a.y ∷ v ∷ []) _ (omega arith) c.requires.0.1 s1 _ _ says c.found.ensures
    (omega (arith, third_is.1)) feed
