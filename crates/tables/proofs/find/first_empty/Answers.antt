-- The lowest bit of the first word that is not 0 is the first empty slot.
use native.Mathlib.Omega.{arith}
use mathlib.Core.Path.{◌≡◌, refl}
use Rattle.tables.specs.Columns.{empty_in}
use Rattle.tables.proofs.Empties
use Rattle.tables.proofs.find.first_empty.Goals as goal

pub returns-then-low-ne0 : goal.returns-then-low-ne0
returns-then-low-ne0 c =
    let p = empty_in c.args.t.now in
    let both = Empties.first_low p _ _ c.empty_word-low.ensures refl c.if-low-ne0.true in
    record { is = both.0; range = omega (arith, both.1) }

pub returns-then-high-ne0-clause-is : goal.returns-then-high-ne0-clause-is
returns-then-high-ne0-clause-is c =
    let z : c.empty_word-low.result ≡ 0 = omega (arith, c.if-low-ne0.false) in
    (Empties.first_high (empty_in c.args.t.now) _ _ c.empty_word-low.ensures c.empty_word-high.ensures z c.if-high-ne0.true).0

pub returns-clause-is : goal.returns-clause-is
returns-clause-is c =
    let z : c.empty_word-low.result ≡ 0 = omega (arith, c.if-low-ne0.false) in
    let y : c.empty_word-high.result ≡ 0 = omega (arith, c.if-high-ne0.false) in
    Empties.first_none (empty_in c.args.t.now) _ _ c.empty_word-low.ensures c.empty_word-high.ensures z y
