-- `finding`: the refusals of U and M, one by one.
use native.Mathlib.Omega.{arith}
use Rattle.naming.proofs.Spelling.{valid_short}
use Rattle.naming.proofs.Verdicts.{find_bad, find_row}
use Rattle.naming.proofs.verdict.finding.Goals as goal

pub returns-then-not-is_valid : goal.returns-then-not-is_valid
returns-then-not-is_valid c = find_bad _ _ _ c.is_valid.ensures.is c.if-not-is_valid.true-raw

pub row_of-requires : goal.row_of-requires
row_of-requires c =
    (omega (arith, c.requires.roomy.room), valid_short _ c.is_valid.ensures.is c.if-not-is_valid.false-raw)

pub returns : goal.returns
returns c = rw c.ok_or.ensures.value (find_row _ _ _ c.is_valid.ensures.is c.if-not-is_valid.false-raw _ c.row_of.ensures.is)
