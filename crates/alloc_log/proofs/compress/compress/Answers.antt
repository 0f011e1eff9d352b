-- `compress`: the words that the loops have still to write complete the compressed log.
use Rattle.std.proofs.Common.{◌≡◌, ◌+◌, ◌-◌, ◌*◌, sym, refl, ◌∙◌, zero-add, zero-mul, ap, arith}
use native.Mathlib.Nat.{sub-zero}
use Rattle.alloc_log.specs.Marks.{held_in}
use Rattle.alloc_log.specs.Runs.{runs}
use Rattle.alloc_log.specs.Compress.{compressed}
use Rattle.alloc_log.proofs.Loops.{held_no, held_yes}
use Rattle.alloc_log.proofs.Walking.{arena_inside, arena_next, arena_edge, arena_first}
use Rattle.alloc_log.proofs.Compressing.{words_from, left_free, left_held, left_edge, turn_emit, turn_keep, last_turn, through}
use Rattle.alloc_log.proofs.compress.compress.Goals as goal
use Rattle.alloc_log.proofs.compress.compress.Goals.{then-marks-b-eq0, else-marks-b-eq0}

pub loop-arena-init : goal.loop-arena-init
unfolding compressed runs words_from
loop-arena-init c =
    rw (zero-mul c.args.per) record {
      inside = omega arith;
      behind = omega arith;
      room = omega arith;
      same = refl;
      count = simp (zero-add, sub-zero);
      bytes = simp sub-zero;
    }

pub loop-b-preserved : goal.loop-b-preserved
loop-b-preserved c =
    let m = c.args.marks.now in
    let n = c.args.arenas * c.args.per in
    let b = c.loop-b.b in
    let l = c.loop-b-test.true in
    let start = c.loop-arena.arena * c.args.per in
    let i = arena_inside c.loop-arena.arena c.args.arenas c.args.per start refl c.loop-arena-test.true in
    elim c.if-marks-b-eq0.branch [
      | then-marks-b-eq0 w ↦
          rw (w.log-is, w.used-is, w.run-is) (
            turn_emit c.loop-arena.log c.loop-arena.used c.args.per (held_in m) n _ c.loop-b.log _ c.loop-b.used _
                (b - c.loop-b.run) c.loop-b.run c.loop-b.run 0 b (b + 1)
                c.loop-b.invariant.0 (omega (arith, c.requires, c.loop-arena.invariant.same)) (omega arith) (omega arith) (omega arith) refl
                (left_free c.args.per (held_in m) b c.loop-b.run n (omega arith) (held_no m b w.if-marks-b-eq0.true))
                w.put_run-used.ensures.0 w.put_run-used.ensures.1,
            omega arith,
          )
      | else-marks-b-eq0 w ↦
          rw (w.log-is, w.used-is, w.run-is) (
            turn_keep c.loop-arena.log c.loop-arena.used c.args.per (held_in m) n _ c.loop-b.log c.loop-b.used c.loop-b.run b c.loop-b.invariant.0 (omega arith)
                (left_held c.args.per (held_in m) b c.loop-b.run n (omega arith) (held_yes m b w.if-marks-b-eq0.false)
                (arena_first c.loop-arena.arena c.args.per start b c.loop-b.run refl c.loop-b.invariant.1 l)),
            omega arith,
          )
    ]

pub loop-arena-preserved : goal.loop-arena-preserved
loop-arena-preserved c =
    let m = c.args.marks.now in
    let n = c.args.arenas * c.args.per in
    let start = c.loop-arena.arena * c.args.per in
    let i = arena_inside c.loop-arena.arena c.args.arenas c.args.per start refl c.loop-arena-test.true in
    let edge = start + c.args.per in
    let run = c.loop-b.run in
    let f : c.loop-b.b ≡ edge = omega (arith, c.loop-b-test.false, c.loop-b.auto.b-end) in
    let g : edge ≡ (c.loop-arena.arena + 1) * c.args.per = arena_next c.loop-arena.arena c.args.per start refl in
    rw (sym g) (
    through c.args.log.now c.loop-arena.log _ 0 c.args.per (held_in m) n (compressed c.args.arenas c.args.per (held_in m)) c.loop-arena.used start _ 0 edge
    c.loop-arena.invariant
    (turn_emit c.loop-arena.log c.loop-arena.used c.args.per (held_in m) n _ c.loop-b.log _ c.loop-b.used _ (edge - run) run run 0 edge edge
    (rw f at c.loop-b.invariant.0) (omega (arith, c.requires, c.loop-arena.invariant.same)) (omega arith) (omega arith)
    (rw f at c.loop-b.invariant.0).inside refl
    (left_edge c.args.per (held_in m) edge run n (arena_edge (c.loop-arena.arena + 1) c.args.per edge g))
    c.put_run-used-in-loop-arena.ensures.0 c.put_run-used-in-loop-arena.ensures.1)
    )

pub returns : goal.returns
returns c =
    let n = c.args.arenas * c.args.per in
    let a : c.loop-arena.arena ≡ c.args.arenas = omega (arith, c.loop-arena-test.false, c.loop-arena.auto.arena-end) in
    let t = last_turn c.args.log.now 0 c.args.per (held_in c.args.marks.now) n _ c.loop-arena.log c.append.new.log
    c.loop-arena.used (c.loop-arena.arena * c.args.per) c.loop-arena.invariant (omega (arith, ap (λ x. x * c.args.per) a)) c.append.ensures.1 in
    (c.append.ensures.0 ∙ t.0 ∙ zero-add _, t.1)
