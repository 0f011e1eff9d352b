-- `all_are`: the joined differences are none exactly where all marks are x.
use Rattle.std.proofs.Common.{◌≡◌, ℕ, ◌-◌, rules, ap, ◌∙◌, eqb, bit_or, bit_xor, arith}
use Rattle.std.specs.List.{between, fold}
use Rattle.alloc_log.proofs.Loops.{differences}
use Rattle.alloc_log.proofs.marks.all_are.Goals as goal

pub returns : goal.returns
returns c =
    let s = c.args in
    let e : c.fold.result ≡ fold (λ (v m : ℕ). bit_or v (bit_xor m s.x)) 0 (between s.from s.to s.marks.now) = search rules in
    ap (λ (v : ℕ). eqb v 0) e ∙ differences s.x 0 s.from (s.to - s.from) s.marks.now (omega arith)
