-- `name_line` meets its contract, test by test.
use native.Mathlib.Omega.{arith}
use mathlib.Core.Path.{◌≡◌, refl, ap, ◌∙◌}
use Prim.Native.Nat.{ℕ, ◌+◌}
use lib.ListN.{drop}
use Rattle.script.specs.Parse.{name_run}
use Rattle.script.proofs.Names.{name_is, name_short, name_unspaced, name_missing, name_says, name_none}
use Rattle.script.proofs.parse.name_line.Goals as goal
use Rattle.script.proofs.parse.name_line.Goals.{then-line-lt3-via-then-line-lt3, then-line-lt3-via-else-line-lt3+then-line-ne32}

pub returns-then-line-lt3 : goal.returns-then-line-lt3
returns-then-line-lt3 c = elim c.then-line-lt3.branch [
  | then-line-lt3-via-then-line-lt3 w ↦ name_short _ w.if-line-lt3.true
  | then-line-lt3-via-else-line-lt3+then-line-ne32 w ↦ name_unspaced c.args.line.now w.if-line-ne32.true
]

pub returns-then-end-eq2 : goal.returns-then-end-eq2
returns-then-end-eq2 c =
    let xs = c.args.line.now in
    let end : 2 + c.run_to-end.result ≡ 2 + name_run (drop 2 xs) = ap (λ (n : ℕ). 2 + n) (c.run_to-end.ensures.is ∙ name_is xs 2 _ refl) in
    name_missing xs _ end c.if-end-eq2.true

pub returns-in_default : goal.returns-in_default
returns-in_default c =
    let xs = c.args.line.now in
    let end : 2 + c.run_to-end.result ≡ 2 + name_run (drop 2 xs) = ap (λ (n : ℕ). 2 + n) (c.run_to-end.ensures.is ∙ name_is xs 2 _ refl) in
    let read = c.numbers_at in
    name_none xs _ read.new.out c.if-line-lt3.false c.if-line-ne32.false end c.if-end-eq2.false (rw c.in_default.is at read.ensures.is)

pub returns : goal.returns
returns c =
    let xs = c.args.line.now in
    let end : 2 + c.run_to-end.result ≡ 2 + name_run (drop 2 xs) = ap (λ (n : ℕ). 2 + n) (c.run_to-end.ensures.is ∙ name_is xs 2 _ refl) in
    let read = c.numbers_at in
    c.naming_of.ensures
    ∙ name_says xs _ _ read.new.out c.if-line-lt3.false c.if-line-ne32.false end c.if-end-eq2.false (omega arith) (rw c.in-Some.is at read.ensures.is)
