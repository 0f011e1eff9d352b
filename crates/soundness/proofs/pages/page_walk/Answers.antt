-- `page_walk`: the page does not fit; it fits and nothing was before it; it fits and what was there may be gone.
use Rattle.std.proofs.Common.{arith}
use Rattle.soundness.proofs.PagesStep.{pred_range, page_stops, page_first, page_next}
use Rattle.soundness.proofs.pages.page_walk.Goals as goal

pub returns-then-not-page_fits : goal.returns-then-not-page_fits
returns-then-not-page_fits c = let a = c.args in let g = a.tables.now.g in let t = a.tables.now.cells.now in
    let p = c.page_fits.ensures in
    page_stops g t a.s c.requires.3 a.x a.count c.wide-link.result a.own.now a.gone.now c.page_fits.new.own c.requires.0 c.requires.1
    c.requires.2 c.requires.4 c.wide-link.ensures p.is p.marked p.size c.requires.6 c.if-not-page_fits.true-raw

pub page_behind-was-requires : goal.page_behind-was-requires
page_behind-was-requires c = let a = c.args in let g = a.tables.now.g in let t = a.tables.now.cells.now in
    (pred_range g t a.s c.requires.3, omega (arith, c.args.tables.now.roomy.inside.pages_least))

pub returns-then-kin : goal.returns-then-kin
returns-then-kin c =
    let a = c.args in let g = a.tables.now.g in let t = a.tables.now.cells.now in
    let p = c.page_fits.ensures in
    let m = c.mark_gone-more.ensures in
    let q = c.requires in
    page_next g t a.s q.3 a.x a.count c.wide-link.result a.own.now a.gone.now c.page_fits.new.own q.0 q.1 q.2 q.4 c.wide-link.ensures p.is
    p.marked p.size c.mark_gone-more.new.gone m.size.1 c.if-not-page_fits.false-raw c.if-kin.true c.page_behind-was.ensures m.count m.stamped m.size.0

pub returns : goal.returns
returns c = let a = c.args in let g = a.tables.now.g in let t = a.tables.now.cells.now in
    let p = c.page_fits.ensures in
    page_first g t a.s c.requires.3 a.x a.count c.wide-link.result a.own.now a.gone.now c.page_fits.new.own c.requires.0 c.requires.1
    c.requires.2 c.requires.4 c.wide-link.ensures p.is p.marked p.size c.requires.6 c.if-not-page_fits.false-raw c.if-kin.false
