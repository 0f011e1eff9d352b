-- One subtraction, or none, and then one more, or none.
use mathlib.Core.Path.{◌≡◌, ap, ◌∙◌}
use Prim.Native.Nat.{ℕ, ◌+◌, ◌%◌, ◌<◌}
use native.Mathlib.Omega.{arith}
use Rattle.choice.proofs.Modulo.{minus_mod, below_mod}
use Rattle.choice.proofs.start_arena.Goals.{then-sum-arenas, else-sum-arenas}
use Rattle.choice.proofs.start_arena.Goals as goal

-- after the second
pub returns-then-once-arenas : goal.returns-then-once-arenas
returns-then-once-arenas c =
    let same : (c.if-sum-arenas.once % c.args.arenas ≡ (c.args.counter + c.args.kind) % c.args.arenas) = (let s = c.args in
    elim c.if-sum-arenas.branch [
      | then-sum-arenas w ↦ ap (λ (x : ℕ). x % s.arenas) w.once-is
      | else-sum-arenas w ↦ ap (λ (x : ℕ). x % s.arenas) w.once-is ∙ minus_mod _ _ (omega arith)
    ]) in
    record {
      is = below_mod _ _ c.if-once-arenas.true ∙ same;
      below = c.if-once-arenas.true;
    }

pub returns-else-once-arenas : goal.returns-else-once-arenas
returns-else-once-arenas c =
    let less : (c.if-sum-arenas.once < c.args.arenas + c.args.arenas) = (elim c.if-sum-arenas.branch [ then-sum-arenas w ↦ omega arith | else-sum-arenas w ↦ omega arith ]) in
    let same : (c.if-sum-arenas.once % c.args.arenas ≡ (c.args.counter + c.args.kind) % c.args.arenas) = (let s = c.args in
    elim c.if-sum-arenas.branch [
      | then-sum-arenas w ↦ ap (λ (x : ℕ). x % s.arenas) w.once-is
      | else-sum-arenas w ↦ ap (λ (x : ℕ). x % s.arenas) w.once-is ∙ minus_mod _ _ (omega arith)
    ]) in
    let d = c.before.before in
    let l = less in
    record {
      is = below_mod _ _ (omega arith) ∙ minus_mod _ _ (omega arith) ∙ same;
      below = omega arith;
    }
