-- `other_line`: a store, a call of a name, or nothing.
use mathlib.Core.Path.{ap}
use lib.ListN.{length}
use Rattle.script.specs.Said.{NameAt}
use Rattle.script.specs.Spoken.{spoken_at}
use Rattle.session.proofs.Stepping.{no_call, is_no, name_lies, name_asks, told_as, stepping_as, store_hints, no_hints}
use native.Mathlib.Omega.{arith}
use Rattle.session.proofs.other_line.Goals as goal

pub returns-in-Store : goal.returns-in-Store
returns-in-Store c =
    let a = c.args in let both = told_as a.hints.now (ap (spoken_at a.text.now a.at) c.in-Store.is) c.store_line.ensures
    (store_hints a.s a.t.now a.hints.now _) in record {
      line = both.0;
      hints = both.1;
    }

pub returns-in_default-said : goal.returns-in_default-said
returns-in_default-said c =
    let a = c.args in let both = told_as a.hints.now
    (ap (spoken_at a.text.now a.at) (is_no a.said c.in_default.in_default-own.keys2 c.in_default-said.in_default-said-own.keys2 c.requires.1.1))
    (stepping_as c.refuse.ensures (no_call a.s a.t.now a.log.now a.out.now c.requires.0))
    (no_hints a.s a.t.now a.hints.now) in record {
      line = both.0;
      hints = both.1;
    }

pub overflow_add-from : goal.overflow_add-from
overflow_add-from c =
    let lies : (let a = c.args in
    NameAt a.text.now a.at c.in-Named.e (length a.text.now)) = (let s = c in name_lies s.args.text.now s.args.at c.in-Named.is s.requires.1.0) in
    let w = lies in omega arith

pub overflow_add-end : goal.overflow_add-end
overflow_add-end c =
    let lies : (let a = c.args in
    NameAt a.text.now a.at c.in-Named.e (length a.text.now)) = (let s = c in name_lies s.args.text.now s.args.at c.in-Named.is s.requires.1.0) in
    let w = lies in omega arith

pub slice_bounds-name_line-count : goal.slice_bounds-name_line-count
slice_bounds-name_line-count c =
    let lies : (let a = c.args in
    NameAt a.text.now a.at c.in-Named.e (length a.text.now)) = (let s = c in name_lies s.args.text.now s.args.at c.in-Named.is s.requires.1.0) in
    let w = lies in omega arith

pub slice_bounds-name_line-start : goal.slice_bounds-name_line-start
slice_bounds-name_line-start c =
    let lies : (let a = c.args in
    NameAt a.text.now a.at c.in-Named.e (length a.text.now)) = (let s = c in name_lies s.args.text.now s.args.at c.in-Named.is s.requires.1.0) in
    let w = lies in omega arith

pub slice_bounds-name_line-end : goal.slice_bounds-name_line-end
slice_bounds-name_line-end c =
    let lies : (let a = c.args in
    NameAt a.text.now a.at c.in-Named.e (length a.text.now)) = (let s = c in name_lies s.args.text.now s.args.at c.in-Named.is s.requires.1.0) in
    let w = lies in omega arith

pub returns : goal.returns
returns c =
    let lies : (let a = c.args in
    NameAt a.text.now a.at c.in-Named.e (length a.text.now)) = (let s = c in name_lies s.args.text.now s.args.at c.in-Named.is s.requires.1.0) in
    let a = c.args in
    let e = c.name_line.ensures in
    let both = told_as a.hints.now (name_asks a.text.now a.at c.in-Named.is (lies) c.wide.ensures) e.line e.hints in record {
      line = both.0;
      hints = both.1;
    }
