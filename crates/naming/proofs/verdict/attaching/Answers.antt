-- `attaching`: the refusals of N, one by one.
use mathlib.Core.Path.{sym, ◌∙◌}
use native.Mathlib.Omega.{arith}
use Rattle.naming.proofs.Spelling.{valid_short}
use Rattle.naming.proofs.Verdicts.{attach_bad, attach_absent, attach_used, attach_second, attach_row}
use Rattle.naming.proofs.verdict.attaching.Goals as goal

pub returns-then-not-is_valid : goal.returns-then-not-is_valid
returns-then-not-is_valid c = attach_bad _ _ _ _ c.is_valid.ensures.is c.if-not-is_valid.true-raw

pub returns-then-link-eq0 : goal.returns-then-link-eq0
returns-then-link-eq0 c =
    attach_absent _ _ _ _ c.is_valid.ensures.is c.if-not-is_valid.false-raw _ c.requires.1.0 c.if-link-eq0.true

pub row_of-requires : goal.row_of-requires
row_of-requires c =
    (omega (arith, c.requires.0.roomy.room), valid_short _ c.is_valid.ensures.is c.if-not-is_valid.false-raw)

pub returns-then-is_some : goal.returns-then-is_some
returns-then-is_some c =
    attach_used _ _ _ _ c.is_valid.ensures.is c.if-not-is_valid.false-raw _ c.requires.1.0 c.if-link-eq0.false
    _ c.row_of.ensures.is (sym c.is_some.ensures ∙ c.if-is_some.true)

pub returns-then-is_second : goal.returns-then-is_second
returns-then-is_second c =
    attach_second _ _ _ _ c.is_valid.ensures.is c.if-not-is_valid.false-raw _ c.requires.1.0 c.if-link-eq0.false
    _ c.row_of.ensures.is (sym c.is_some.ensures ∙ c.if-is_some.false) c.is_second.ensures c.if-is_second.true

pub returns : goal.returns
returns c =
    rw c.ok_or.ensures.value
    (attach_row _ _ _ _ c.is_valid.ensures.is c.if-not-is_valid.false-raw _ c.requires.1.0 c.if-link-eq0.false
    _ c.row_of.ensures.is (sym c.is_some.ensures ∙ c.if-is_some.false) c.is_second.ensures c.if-is_second.false
    _ c.row_with.ensures.is)
