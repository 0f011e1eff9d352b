-- `serve_lent`: each return is one law of `Hosting`, from the tests that led there.
use mathlib.Core.Path.{sym, ◌∙◌}
use lib.ListN.{length}
use Rattle.serving.specs.Host.{lent_by}
use Rattle.serving.proofs.Hosting.{by_2, by_3, by_4, kept, done, long, inside_limits, narrow_after}
use Rattle.serving.proofs.host.serve_lent.Goals as goal

pub returns-then-is_outside : goal.returns-then-is_outside
returns-then-is_outside c =
    let a = c.args in
    let H = lent_by a.run.now a.tables.now a.log.now a.out.now a.replies.now in
    let s = c.session_of-session in
    by_2 a.text.now a.at H s.result s.ensures.is (sym c.is_outside.ensures ∙ c.if-is_outside.true)

pub returns-then-is_too_short : goal.returns-then-is_too_short
returns-then-is_too_short c =
    let a = c.args in
    let H = lent_by a.run.now a.tables.now a.log.now a.out.now a.replies.now in
    let s = c.session_of-session in
    by_3 a.text.now a.at H s.result s.ensures.is (sym c.is_outside.ensures ∙ c.if-is_outside.false) (sym c.is_too_short.ensures ∙ c.if-is_too_short.true)

pub is_unsound-requires : goal.is_unsound-requires
is_unsound-requires c =
    let a = c.args in
    let H = lent_by a.run.now a.tables.now a.log.now a.out.now a.replies.now in
    let s = c.session_of-session in
    let l = long H (sym c.is_too_short.ensures ∙ c.if-is_too_short.false) in
    (inside_limits s.result (sym c.is_outside.ensures ∙ c.if-is_outside.false), l.tables, l.log)

pub returns-then-is_unsound : goal.returns-then-is_unsound
returns-then-is_unsound c =
    let a = c.args in
    let H = lent_by a.run.now a.tables.now a.log.now a.out.now a.replies.now in
    let s = c.session_of-session in
    by_4 a.text.now a.at H s.result s.ensures.is (sym c.is_outside.ensures ∙ c.if-is_outside.false) (sym c.is_too_short.ensures ∙ c.if-is_too_short.false) (sym c.is_unsound.ensures ∙ c.if-is_unsound.true)

pub serve_part-served-requires : goal.serve_part-served-requires
serve_part-served-requires c =
    let a = c.args in
    let H = lent_by a.run.now a.tables.now a.log.now a.out.now a.replies.now in
    let s = c.session_of-session in
    kept a.text.now a.at H s.result s.ensures.is (sym c.is_outside.ensures ∙ c.if-is_outside.false) (sym c.is_too_short.ensures ∙ c.if-is_too_short.false) (sym c.is_unsound.ensures ∙ c.if-is_unsound.false)

pub put_run-requires : goal.put_run-requires
put_run-requires c =
    let a = c.args in
    let H = lent_by a.run.now a.tables.now a.log.now a.out.now a.replies.now in
    let s = c.session_of-session in
    ((long H (sym c.is_too_short.ensures ∙ c.if-is_too_short.false)).run, narrow_after a.text.now (length a.replies.now) a.at s.result _ a.replies.now _ _ _ s.ensures.narrow c.serve_part-served.ensures)

pub returns : goal.returns
returns c =
    let a = c.args in
    let H = lent_by a.run.now a.tables.now a.log.now a.out.now a.replies.now in
    let s = c.session_of-session in
    done a.text.now a.at H s.result s.ensures.is (sym c.is_outside.ensures ∙ c.if-is_outside.false) (sym c.is_too_short.ensures ∙ c.if-is_too_short.false) (sym c.is_unsound.ensures ∙ c.if-is_unsound.false) _ _ _ _ c.serve_part-served.ensures c.put_run.ensures
