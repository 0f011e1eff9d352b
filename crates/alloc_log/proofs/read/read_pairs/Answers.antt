-- `read_pairs`: the log was read up to `at`.
use Rattle.std.proofs.Common.{◌+◌, arith}
use borrow.Author.Tests.{not-true, not-false}
use Rattle.alloc_log.specs.Read.{ReadOn}
use Rattle.alloc_log.proofs.ReadingOn.{on_none, on_word, on_barrier}
use Rattle.alloc_log.proofs.read.read_pairs.Goals as goal

pub loop-at-init : goal.loop-at-init
loop-at-init c =
    let s = c.args in
    on_none s.arenas s.per s.log.now s.from c.requires.1 c.requires.2

pub overflow_add-at : goal.overflow_add-at
overflow_add-at c = omega (arith, c.loop-at.invariant.most)

pub loop-at-preserved-then-first-eq3 : goal.loop-at-preserved-then-first-eq3
loop-at-preserved-then-first-eq3 c =
    let l = c.loop-at in
    let s = c.args in
    on_barrier s.arenas s.per s.log.now l.invariant (omega arith) c.get_word-first.ensures c.if-first-eq3.true

pub read_single-requires : goal.read_single-requires
read_single-requires c =
    (c.requires.0, c.loop-at.invariant.table)

pub returns-then-not-read_single : goal.returns-then-not-read_single
returns-then-not-read_single c =
    let r = c.read_single in
    rw (r.ensures.no (not-true r.result c.if-not-read_single.true-raw)) c.loop-at.invariant

pub read_single-requires-else-first-eq3 : goal.read_single-requires-else-first-eq3
read_single-requires-else-first-eq3 c =
    (c.requires.0, c.read_single.ensures.table)

pub loop-at-preserved-then-read_single : goal.loop-at-preserved-then-read_single
loop-at-preserved-then-read_single c =
    let first : (let s = c.args in
    ReadOn s.arenas s.per s.log.now s.marks.now s.from c.read_single.new.marks (c.loop-at.at + 8)) = (let s = c.args in
    let r = c.read_single in
    on_word s.arenas s.per s.log.now c.loop-at.invariant (omega arith) c.get_word-first.ensures r.ensures.table
    (r.ensures.yes (not-false r.result c.if-not-read_single.false-raw))) in
    let s = c.args in
    let r = c.read_single-else-first-eq3 in
    on_word s.arenas s.per s.log.now (first) (omega arith) c.get_word.ensures r.ensures.table
    (r.ensures.yes c.if-read_single.true)

pub loop-at-preserved : goal.loop-at-preserved
loop-at-preserved c =
    let first : (let s = c.args in
    ReadOn s.arenas s.per s.log.now s.marks.now s.from c.read_single.new.marks (c.loop-at.at + 8)) = (let s = c.args in
    let r = c.read_single in
    on_word s.arenas s.per s.log.now c.loop-at.invariant (omega arith) c.get_word-first.ensures r.ensures.table
    (r.ensures.yes (not-false r.result c.if-not-read_single.false-raw))) in
    rw (c.read_single-else-first-eq3.ensures.no c.if-read_single.false) (first)

pub returns : goal.returns
returns c = c.loop-at.invariant
