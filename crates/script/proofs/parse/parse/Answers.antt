-- `parse` meets its contract.
use mathlib.Core.Path.{sym, ◌∙◌}
use borrow.Author.Tests.{lt-ltb, le-ltb}
use lib.ListN.{length}
use Rattle.script.specs.Parse.{parsed}
use Rattle.script.proofs.parse.parse.Goals as goal

pub returns-then-line-gt80 : goal.returns-then-line-gt80
unfolding parsed
returns-then-line-gt80 c = let xs = c.args.line.now in rw (lt-ltb 80 (length xs) c.if-line-gt80.true)

pub returns-then-opens_store : goal.returns-then-opens_store
unfolding parsed
returns-then-opens_store c =
    let xs = c.args.line.now in
    rw (le-ltb 80 (length xs) c.if-line-gt80.false, sym c.opens_store.ensures ∙ c.if-opens_store.true) c.store_line.ensures

pub returns-then-opens_name : goal.returns-then-opens_name
unfolding parsed
returns-then-opens_name c =
    let xs = c.args.line.now in
    let not-store = sym c.opens_store.ensures ∙ c.if-opens_store.false in
    let name = sym c.opens_name.ensures ∙ c.if-opens_name.true in
    rw (le-ltb 80 (length xs) c.if-line-gt80.false, not-store, name) c.name_line.ensures

pub returns : goal.returns
unfolding parsed
returns c =
    let xs = c.args.line.now in
    let not-store = sym c.opens_store.ensures ∙ c.if-opens_store.false in
    let no_name_lem = sym c.opens_name.ensures ∙ c.if-opens_name.false in
    rw (le-ltb 80 (length xs) c.if-line-gt80.false, not-store, no_name_lem) c.call_line.ensures
