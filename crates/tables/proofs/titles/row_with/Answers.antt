-- The first row with the link, as `find` gives it.
use Rattle.std.proofs.Common.{◌≡◌, ℕ, Bool, get_or, rules, tests}
use Rattle.std.proofs.lemmas.Iterator.{first_from_Range}
use borrow.Author.Tests.{eq-eqb, ne_eqb}
use mathlib.Core.Path.{sym, ◌∙◌}
use lib.Dec.{eqb}
use Rattle.model.specs.Layout.{title_cell, titles_of}
use Rattle.tables.specs.Titles.{row_with}
use Rattle.tables.proofs.Seeks.{find_seeks, link_seeks}
use Rattle.tables.proofs.TitleRows.{link_at}
use Rattle.tables.proofs.titles.row_with.Goals as goal

pub returns : goal.returns
unfolding row_with
returns c =
    let t = c.args.t.now in
    let has : ℕ → Bool = λ i. eqb ((titles_of t).owner i) c.args.link in
    let first = first_from_Range _ _ _ _ (λ i. get_or t (title_cell i) 0 ≡ c.args.link) (λ i. get_or t (title_cell i) 0 ≡ c.args.link → ⊥) c.find.ensures.ran
    (λ x q e. search (rules, tests))
    (λ x q e. (search (rules, tests), search (rules, tests))) in
    let seeks = find_seeks has 32 _ _ (λ i l e. eq-eqb _ c.args.link (link_at t i l ∙ e))
    (λ i l d. ne_eqb _ c.args.link (λ e. d (sym (link_at t i l) ∙ e))) c.find.result first in
    let link = link_seeks has 32 c.find.result seeks in
    record { is = link.0; range = link.1 }
