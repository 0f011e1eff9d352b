-- `first_word`: the tests in the order of the definition.
use Rattle.std.proofs.Common.{◌≡◌, ℕ, None, ◌-◌, ◌/◌, ◌%◌, sym, ap, ◌∙◌, arith, eq-eqb, ne_eqb, le-leb, nat_eq}
use Rattle.alloc_log.specs.Read.{by_code, first_word}
use Rattle.alloc_log.proofs.Reading.{first_code}
use Rattle.alloc_log.proofs.Loops.{changed_is, some_or}
use Rattle.alloc_log.proofs.read.first_word.Goals as goal

pub returns-then-low-eq3 : goal.returns-then-low-eq3
unfolding first_word
returns-then-low-eq3 c =
    let rest = c.args.word - c.args.word % 256 in
    simp (eq-eqb _ _ c.if-low-eq3.true, c.then_some.ensures) (some_or (nat_eq rest 0) c.args.marks.now)

pub returns-then-rest-ne0 : goal.returns-then-rest-ne0
unfolding first_word
returns-then-rest-ne0 c = simp (ne_eqb _ _ c.if-low-eq3.false, ne_eqb _ _ c.if-rest-ne0.true)

pub returns-then-blocks-block : goal.returns-then-blocks-block
unfolding first_word
returns-then-blocks-block c = simp (ne_eqb _ _ c.if-low-eq3.false, eq-eqb _ _ c.if-rest-ne0.false, le-leb _ _ c.if-blocks-block.true)

pub returns-in-1 : goal.returns-in-1
unfolding by_code
returns-in-1 c =
    let m = c.args.marks.now in
    let low = c.args.word % 256 in
    let b = (c.args.word - low) / 16384 in
    let coded = first_code c.args.blocks m c.args.word c.if-low-eq3.false c.if-rest-ne0.false c.if-blocks-block.false in
    changed_is _ _ _ _ c.then_some-in-1.ensures c.mark_run.ensures ∙ sym (coded ∙ ap (λ (k : ℕ). by_code m k b) c.in-1.is)

pub returns-in-2 : goal.returns-in-2
unfolding by_code
returns-in-2 c =
    let m = c.args.marks.now in
    let low = c.args.word % 256 in
    let b = (c.args.word - low) / 16384 in
    let coded = first_code c.args.blocks m c.args.word c.if-low-eq3.false c.if-rest-ne0.false c.if-blocks-block.false in
    changed_is _ _ _ _ c.then_some-in-2.ensures c.mark_run-in-2.ensures ∙ sym (coded ∙ ap (λ (k : ℕ). by_code m k b) c.in-2.is)

pub returns-in-4 : goal.returns-in-4
unfolding by_code
returns-in-4 c =
    let m = c.args.marks.now in
    let low = c.args.word % 256 in
    let b = (c.args.word - low) / 16384 in
    let coded = first_code c.args.blocks m c.args.word c.if-low-eq3.false c.if-rest-ne0.false c.if-blocks-block.false in
    sym (coded ∙ ap (λ (k : ℕ). by_code m k b) c.in-4.is)

pub returns-in-5 : goal.returns-in-5
unfolding by_code
returns-in-5 c =
    let m = c.args.marks.now in
    let low = c.args.word % 256 in
    let b = (c.args.word - low) / 16384 in
    let coded = first_code c.args.blocks m c.args.word c.if-low-eq3.false c.if-rest-ne0.false c.if-blocks-block.false in
    sym (coded ∙ ap (λ (k : ℕ). by_code m k b) c.in-5.is)

pub returns-in_default : goal.returns-in_default
unfolding by_code
returns-in_default c =
    let m = c.args.marks.now in
    let low = c.args.word % 256 in
    let b = (c.args.word - low) / 16384 in
    let coded = first_code c.args.blocks m c.args.word c.if-low-eq3.false c.if-rest-ne0.false c.if-blocks-block.false in
    let none : by_code m low b ≡ (None, m) =
    simp (ne_eqb low 1 (λ e. omega arith), ne_eqb low 2 (λ e. omega arith), ne_eqb low 4 (λ e. omega arith), ne_eqb low 5 (λ e. omega arith)) in
    sym (coded ∙ none)
