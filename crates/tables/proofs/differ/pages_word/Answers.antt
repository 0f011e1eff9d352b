-- The word of the two rows is the word of the pages.
use Rattle.std.proofs.Common.{rules}
use native.Mathlib.Omega.{arith}
use Prim.Native.Nat.{◌-◌}
use Rattle.choice.proofs.Births.{word_from}
use Rattle.model.specs.Layout.{page_cell}
use Rattle.tables.specs.Rows.{apart, filled}
use Rattle.tables.proofs.PagesWord.{word_apart, word_filled}
use Rattle.tables.proofs.differ.pages_word.Goals as goal

pub returns-then-link-eq0 : goal.returns-then-link-eq0
unfolding filled
returns-then-link-eq0 c = let a = c.args in
    word_filled a.g a.t.now a.s a.x a.n c.requires.1 (omega arith) a.link c.if-link-eq0.true
    (word_from (filled a.t.now (page_cell a.s a.x)) 0 a.n c.word_where.ensures.fits (λ k h. let e = c.word_where.ensures.bits k h in search rules))

pub returns : goal.returns
unfolding apart
returns c = let a = c.args in
    let here = page_cell a.s a.x in
    let there = page_cell (a.link - 1) a.x in
    word_apart a.g a.t.now a.s a.x a.n c.requires.1 (omega arith) a.link c.if-link-eq0.false c.requires.2
    (word_from (apart a.t.now here there) 0 a.n c.word_where-2.ensures.fits (λ k h. let e = c.word_where-2.ensures.bits k h in search rules))
