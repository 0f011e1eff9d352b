-- `by_line` meets its contract: the line that the reader finds lies inside the text, and what it says is read from that part.
use native.Mathlib.Omega.{arith}
use mathlib.Core.Path.{sym, ◌∙◌}
use Rattle.script.proofs.LinesFacts.{part_inside}
use Rattle.script.proofs.OnePass.{said_none, said_part}
use Rattle.script.proofs.said.by_line.Goals as goal

pub returns-in_default : goal.returns-in_default
returns-in_default c = said_none c.args.text.now c.args.at (sym c.in_default.is ∙ c.line_from.ensures)

pub slice_bounds-parse-count : goal.slice_bounds-parse-count
slice_bounds-parse-count c =
    omega (arith, part_inside c.args.text.now c.args.at c.in-Some.start c.in-Some.end (sym c.line_from.ensures ∙ c.in-Some.is))

pub slice_bounds-parse-start : goal.slice_bounds-parse-start
slice_bounds-parse-start c =
    omega (arith, part_inside c.args.text.now c.args.at c.in-Some.start c.in-Some.end (sym c.line_from.ensures ∙ c.in-Some.is))

pub slice_bounds-parse-end : goal.slice_bounds-parse-end
slice_bounds-parse-end c =
    omega (arith, part_inside c.args.text.now c.args.at c.in-Some.start c.in-Some.end (sym c.line_from.ensures ∙ c.in-Some.is))

pub returns : goal.returns
returns c = said_part c.args.text.now c.args.at _ _ _ (sym c.in-Some.is ∙ c.line_from.ensures) c.parse-says.ensures
