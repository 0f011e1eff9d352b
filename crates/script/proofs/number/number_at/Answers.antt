-- `number_at` meets its contract, test by test.
use native.Mathlib.Omega.{arith}
use mathlib.Core.Path.{◌≡◌, sym, ap, ◌∙◌}
use Prim.Native.Nat.{ℕ, ◌+◌, ◌-◌}
use lib.ListN.{get_or, drop}
use Rattle.std.specs.Prelude.{Some}
use Rattle.script.specs.Parse.{is_digit, digits_from}
use Rattle.script.proofs.Reading.{read, number_end, number_other, number_first, first_zero, first_more, number_short, first_not}
use Rattle.script.proofs.number.number_at.Goals as goal
use Rattle.script.proofs.number.number_at.Goals.{then-space-ne32-via-then-space-ne32, then-space-ne32-via-else-space-ne32+then-not-is_ascii_digit}

pub returns-in_err-space : goal.returns-in_err-space
returns-in_err-space c = let a = c.args in c.from_residual.ensures ∙ sym (number_end a.line.now a.at a.at c.in_err-space.ensures.lookup.3)

pub returns-in_err-first : goal.returns-in_err-first
returns-in_err-first c =
    let a = c.args in
    c.from_residual-in_err-first.ensures ∙ sym (number_short a.line.now a.at a.at c.in_ok-space.ensures.lookup.3.0 c.in_err-first.ensures.lookup.3)

pub returns-then-space-ne32 : goal.returns-then-space-ne32
returns-then-space-ne32 c =
    let a = c.args in
    let xs = a.line.now in
    let here = c.in_ok-space.ensures.lookup.3 in
    let next = c.in_ok-first.ensures.lookup.3 in
    elim c.then-space-ne32.branch [
      | then-space-ne32-via-then-space-ne32 w ↦ sym (number_other xs a.at a.at here.0 (λ e. w.if-space-ne32.true (here.1 0 ∙ e)))
      | then-space-ne32-via-else-space-ne32+then-not-is_ascii_digit w ↦
          let other = ap is_digit (sym (next.1 0)) ∙ sym w.is_ascii_digit.ensures.value ∙ w.if-not-is_ascii_digit.true in
          sym (number_first xs a.at a.at here.0 (sym (here.1 0) ∙ w.if-space-ne32.false) ∙ first_not xs (a.at + 1) (a.at + 1) next.0 other)
    ]

pub returns-then-first-eq48 : goal.returns-then-first-eq48
returns-then-first-eq48 c = let a = c.args in
    let xs = a.line.now in
    let here = c.in_ok-space.ensures.lookup.3 in
    let next = c.in_ok-first.ensures.lookup.3 in
    let e : a.at + 1 + 1 ≡ a.at + 2 = omega arith in
    sym (number_first xs a.at a.at here.0 (sym (here.1 0) ∙ c.if-space-ne32.false)
    ∙ first_zero xs (a.at + 1) (a.at + 1) next.0 (sym (next.1 0) ∙ c.if-first-eq48.true)
    ∙ ap (λ (n : ℕ). Some (read 0 n)) e)

pub returns : goal.returns
returns c = let a = c.args in
    let xs = a.line.now in
    let here = c.in_ok-space.ensures.lookup.3 in
    let next = c.in_ok-first.ensures.lookup.3 in
    let e : a.at + 1 + 1 ≡ a.at + 2 = omega arith in
    let digit = ap is_digit (sym (next.1 0)) ∙ sym c.is_ascii_digit.ensures.value ∙ c.if-not-is_ascii_digit.false in
    let d : c.from.result ≡ get_or xs (a.at + 1) 0 - 48 = omega (arith, c.from.ensures, next.1 0) in
    ap Some (c.digits_at.ensures ∙ ap (λ (n : ℕ). digits_from (drop (a.at + 2) xs) n 6 (a.at + 2)) d
    ∙ ap (λ (n : ℕ). digits_from (drop n xs) (get_or xs (a.at + 1) 0 - 48) 6 n) (sym e))
    ∙ sym (number_first xs a.at a.at here.0 (sym (here.1 0) ∙ c.if-space-ne32.false)
    ∙ first_more xs (a.at + 1) (a.at + 1) next.0 (λ z. c.if-first-eq48.false (next.1 0 ∙ z)) digit)
