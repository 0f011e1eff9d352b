-- `read_log`: the state of the whole log, and what it comes to.
use Rattle.std.proofs.Common.{Option, Some, sym, ap, ◌∙◌, ne_eqb}
use Rattle.alloc_log.specs.Read.{free, ended, read_log}
use Rattle.alloc_log.specs.declared.read.Progress.{Progress}
use Rattle.alloc_log.proofs.Reading.{result_is}
use Rattle.alloc_log.proofs.RoundTrip.{free_table}
use Rattle.alloc_log.proofs.read.read_log.Goals as goal

pub returns-then-log-ne0 : goal.returns-then-log-ne0
unfolding read_log
returns-then-log-ne0 c = simp (ne_eqb _ _ c.if-log-ne0.true)

pub read_all-requires : goal.read_all-requires
unfolding free
read_all-requires c = (c.requires.0, c.requires.1, c.if-log-ne0.false, free_table c.args.arenas c.args.per c.requires.0)

pub returns-in_err-read_all : goal.returns-in_err-read_all
unfolding ended free
returns-in_err-read_all c =
    let s = c.args in
    let r = c.read_all in
    let e = result_is s.arenas s.per s.log.now r.result r.new.marks c.if-log-ne0.false r.ensures in
    rw c.from_residual.ensures (sym (e ∙ ap (λ (p : Option Progress). ended p r.new.marks) c.in_err-read_all.was))

pub returns-in-Ready : goal.returns-in-Ready
unfolding ended free
returns-in-Ready c =
    let s = c.args in
    let r = c.read_all in
    let e = result_is s.arenas s.per s.log.now r.result r.new.marks c.if-log-ne0.false r.ensures in
    sym (e ∙ ap (λ (p : Option Progress). ended p r.new.marks) (c.in_ok-read_all.was ∙ ap Some c.in-Ready.is))

pub returns-in-Run : goal.returns-in-Run
unfolding ended free
returns-in-Run c =
    let s = c.args in
    let r = c.read_all in
    let e = result_is s.arenas s.per s.log.now r.result r.new.marks c.if-log-ne0.false r.ensures in
    sym (e ∙ ap (λ (p : Option Progress). ended p r.new.marks) (c.in_ok-read_all.was ∙ ap Some c.in-Run.is))
