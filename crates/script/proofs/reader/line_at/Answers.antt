-- `line_at` meets its contract.
use borrow.Author.Tests.{lt-ltb, le-ltb}
use mathlib.Core.Path.{◌≡◌, refl, ◌∙◌}
use lib.ListN.{length, drop}
use Rattle.script.specs.Lines.{run, line_at}
use Rattle.script.proofs.Runs.{run_is}
use Rattle.script.proofs.reader.line_at.Goals as goal

pub returns-then-at-text : goal.returns-then-at-text
unfolding line_at
returns-then-at-text c =
    let text = c.args.text.now in
    let e : c.run_to.result ≡ run (drop c.args.at text) = c.run_to.ensures.is ∙ run_is text c.args.at _ refl in
    rw (lt-ltb c.args.at (length text) c.if-at-text.true, e)

pub returns : goal.returns
unfolding line_at
returns c = search (lt-ltb, le-ltb)
