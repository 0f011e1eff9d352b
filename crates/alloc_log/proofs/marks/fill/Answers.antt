-- `fill`: a part of one value is one store after the other.
use Rattle.std.proofs.Common.{◌≡◌, ◌-◌, rules, ap, ◌∙◌, arith, replicate}
use borrow.Rule.Slice.PartMut.{put_mid}
use Rattle.alloc_log.proofs.Loops.{filled}
use Rattle.alloc_log.proofs.marks.fill.Goals as goal

pub returns : goal.returns
returns c =
    let s = c.args in
    let e : c.fill.new.self ≡ replicate (s.to - s.from) s.x = search rules in
    ap (put_mid s.from (s.to - s.from) s.marks.now) e ∙ filled s.marks.now s.from (s.to - s.from) s.x (omega arith)
