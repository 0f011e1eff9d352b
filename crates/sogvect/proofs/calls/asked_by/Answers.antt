-- `asked_by`: a letter that is no byte, or the first of four counts of numbers by which it is a call.
use mathlib.Core.Path.{◌≡◌}
use Prim.Native.Nat.{◌%◌}
use Rattle.sogvect.proofs.Letters.{asks_none, bare_asked, one_asked, two_asked, three_asked}
use native.Mathlib.Omega.{arith}
use Rattle.sogvect.proofs.calls.asked_by.Goals as goal

pub returns-then-letter-gt255 : goal.returns-then-letter-gt255
returns-then-letter-gt255 c = let a = c.args in asks_none a.letter a.x a.y a.z c.if-letter-gt255.true

pub returns-in-Asks : goal.returns-in-Asks
returns-in-Asks c =
    let is_byte : (c.args.letter % 256 ≡ c.args.letter) = (omega (arith, c.if-letter-gt255.false)) in
    let a = c.args in
    bare_asked a.letter _ a.x a.y a.z (is_byte) _ _ c.bare_of-bare.ensures c.in-Asks.is

pub returns-in-Asks-one : goal.returns-in-Asks-one
returns-in-Asks-one c =
    let is_byte : (c.args.letter % 256 ≡ c.args.letter) = (omega (arith, c.if-letter-gt255.false)) in
    let a = c.args in
    one_asked a.letter _ a.x a.y a.z (is_byte) _ c.bare_of-bare.ensures c.in_default.in_default-own.keys2 _ _
    c.one_of-one.ensures c.in-Asks-one.is

pub returns-in-Asks-two : goal.returns-in-Asks-two
returns-in-Asks-two c =
    let is_byte : (c.args.letter % 256 ≡ c.args.letter) = (omega (arith, c.if-letter-gt255.false)) in
    let a = c.args in
    two_asked a.letter _ a.x a.y a.z (is_byte) _ c.bare_of-bare.ensures c.in_default.in_default-own.keys2 _
    c.one_of-one.ensures c.in_default-one.in_default-one-own.keys2 _ _ c.two_of-two.ensures c.in-Asks-two.is

pub returns : goal.returns
returns c =
    let is_byte : (c.args.letter % 256 ≡ c.args.letter) = (omega (arith, c.if-letter-gt255.false)) in
    let a = c.args in
    three_asked a.letter _ a.x a.y a.z (is_byte) _ c.bare_of-bare.ensures c.in_default.in_default-own.keys2 _
    c.one_of-one.ensures c.in_default-one.in_default-one-own.keys2 _ _ c.two_of-two.ensures c.in_default-two.in_default-two-own.keys2 c.three_of.ensures
