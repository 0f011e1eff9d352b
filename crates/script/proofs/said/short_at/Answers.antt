-- `short_at` meets its contract.
use native.Mathlib.Omega.{arith}
use mathlib.Core.Path.{◌≡◌, sym, ap, ◌∙◌}
use Prim.Native.Nat.{ℕ, ◌+◌, ◌-◌}
use lib.ListN.{get_or, drop}
use Rattle.script.specs.Parse.{number_from}
use Rattle.script.specs.Said.{behind_first}
use Rattle.script.proofs.Reading.{number_first, first_behind}
use Rattle.script.proofs.Digits.{digit_range}
use Rattle.script.proofs.OnePass.{agrees_move}
use Rattle.script.proofs.said.short_at.Goals as goal

pub returns : goal.returns
returns c = let a = c.args in
    let xs = a.text.now in
    let i = a.at + 1 in
    let range = digit_range (get_or xs i 0) (sym c.is_ascii_digit.ensures.value ∙ c.if-not-is_ascii_digit.false) in
    let d : c.from.result ≡ get_or xs i 0 - 48 = omega (arith, c.from.ensures) in
    let e : a.at + 2 ≡ i + 1 = omega arith in
    agrees_move c.few_digits.result (behind_first (drop (a.at + 2) xs) c.from.result (a.at + 2)) (number_from (drop a.at xs) a.at) (a.at + 2 + 3) (a.at + 5)
    (ap (λ (n : ℕ). behind_first (drop (a.at + 2) xs) n (a.at + 2)) d ∙ ap (λ (n : ℕ). behind_first (drop n xs) (get_or xs i 0 - 48) n) e
    ∙ sym (number_first xs a.at a.at (omega arith) c.if-text-at-ne32.false ∙ first_behind xs i i (omega arith) range.0 range.1))
    (omega arith)
    c.few_digits.ensures
