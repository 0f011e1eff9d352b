-- `second_word`: the tests in the order of the definition.
use Rattle.std.proofs.Common.{eq-eqb, ne_eqb, le-leb}
use borrow.Author.Tests.{lt-leb}
use Rattle.alloc_log.specs.Read.{second_word}
use Rattle.alloc_log.proofs.Loops.{changed_is}
use Rattle.alloc_log.proofs.read.second_word.Goals as goal

pub returns-then-word-eq0 : goal.returns-then-word-eq0
unfolding second_word
returns-then-word-eq0 c = simp (eq-eqb _ _ c.if-word-eq0.true)

pub returns-then-word-ne0 : goal.returns-then-word-ne0
unfolding second_word
returns-then-word-ne0 c = simp (ne_eqb _ _ c.if-word-eq0.false, ne_eqb _ _ c.if-word-ne0.true)

pub returns-then-per-within : goal.returns-then-per-within
unfolding second_word
returns-then-per-within c = simp (ne_eqb _ _ c.if-word-eq0.false, eq-eqb _ _ c.if-word-ne0.false, lt-leb _ _ c.if-per-within.true)

pub returns : goal.returns
unfolding second_word
returns c =
    simp (ne_eqb _ _ c.if-word-eq0.false, eq-eqb _ _ c.if-word-ne0.false, le-leb _ _ c.if-per-within.false)
    (changed_is _ _ _ _ c.then_some.ensures c.mark_run.ensures)
