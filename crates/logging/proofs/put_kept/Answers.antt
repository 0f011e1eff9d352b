-- `put_kept`: the words that the loops have still to write complete the compressed log.
use native.Mathlib.Omega.{arith}
use mathlib.Core.Path.{◌≡◌, refl, sym, ap, ◌∙◌}
use Prim.Native.Nat.{◌+◌, ◌-◌, ◌*◌}
use native.Mathlib.Nat.{zero-add, zero-mul, sub-zero}
use Rattle.alloc_log.specs.Runs.{runs}
use Rattle.alloc_log.specs.Compress.{compressed}
use Rattle.alloc_log.proofs.Walking.{arena_inside, arena_next}
use Rattle.alloc_log.proofs.Compressing.{words_from, turn_emit, last_turn, through}
use Rattle.logging.proofs.Births.{kept}
use Rattle.logging.proofs.Told.{kept_run, left_run}
use Rattle.logging.proofs.put_kept.Goals as goal

pub loop-arena-init : goal.loop-arena-init
unfolding compressed runs words_from
loop-arena-init c =
    rw (zero-mul c.args.per) (record {
      inside = omega arith;
      behind = omega arith;
      room = omega arith;
      same = refl;
      count = simp (zero-add, sub-zero);
      bytes = simp sub-zero;
    })

pub overflow_add-edge : goal.overflow_add-edge
overflow_add-edge c =
    omega (arith, c.requires, arena_inside c.loop-arena.arena c.args.arenas c.args.per (c.loop-arena.arena * c.args.per) refl c.loop-arena-test.true)

pub loop-b-init : goal.loop-b-init
loop-b-init c =
    let i = arena_inside c.loop-arena.arena c.args.arenas c.args.per (c.loop-arena.arena * c.args.per) refl c.loop-arena-test.true in (
      record { inside = omega arith; behind = omega arith; room = c.loop-arena.invariant.room; same = refl; count = refl; bytes = refl },
      omega arith,
      i,
      omega arith,
    )

pub overflow_sub-b : goal.overflow_sub-b
overflow_sub-b c =
    let r = kept_run c.args.words.now c.args.arenas c.loop-arena.arena c.args.per (c.loop-arena.arena * c.args.per) refl c.loop-arena-test.true
    c.loop-b.b _ _ c.loop-b.invariant.3 c.loop-b.invariant.1 c.first_kept-from.ensures c.first_given-b.ensures in
    r.to

pub put_run-used-requires : goal.put_run-used-requires
put_run-used-requires c =
    let r = kept_run c.args.words.now c.args.arenas c.loop-arena.arena c.args.per (c.loop-arena.arena * c.args.per) refl c.loop-arena-test.true
    c.loop-b.b _ _ c.loop-b.invariant.3 c.loop-b.invariant.1 c.first_kept-from.ensures c.first_given-b.ensures in
    omega (arith, c.requires, c.loop-b.invariant.0.same, c.loop-b.invariant.0.room, c.loop-arena.invariant.same, c.loop-b.invariant.2, r.from, r.to, r.edge)

pub loop-b-smaller : goal.loop-b-smaller
loop-b-smaller c =
    let r = kept_run c.args.words.now c.args.arenas c.loop-arena.arena c.args.per (c.loop-arena.arena * c.args.per) refl c.loop-arena-test.true
    c.loop-b.b _ _ c.loop-b.invariant.3 c.loop-b.invariant.1 c.first_kept-from.ensures c.first_given-b.ensures in
    omega (arith, r.more c.loop-b-test.true, r.edge)

pub loop-b-preserved : goal.loop-b-preserved
loop-b-preserved c =
    let lo = c.first_kept-from.result in
    let hi = c.first_given-b.result in
    let r = kept_run c.args.words.now c.args.arenas c.loop-arena.arena c.args.per (c.loop-arena.arena * c.args.per) refl c.loop-arena-test.true
    c.loop-b.b _ _ c.loop-b.invariant.3 c.loop-b.invariant.1 c.first_kept-from.ensures c.first_given-b.ensures in (
      turn_emit c.loop-arena.log c.loop-arena.used c.args.per (kept c.args.words.now) (c.args.arenas * c.args.per) _ c.loop-b.log _ c.loop-b.used
          _ lo (hi - lo) 0 0 c.loop-b.b hi c.loop-b.invariant.0 (omega (arith, c.requires, c.loop-arena.invariant.same))
          (omega (arith, r.from, r.to)) (omega (arith, r.from, r.to)) (omega (arith, r.edge, c.loop-b.invariant.2)) refl
          (left_run c.args.per (kept c.args.words.now) _ c.loop-b.b lo hi r.to r.run) c.put_run-used.ensures.0 c.put_run-used.ensures.1,
      r.edge,
      c.loop-b.invariant.2,
      omega (arith, r.from, r.to, c.loop-b.invariant.3),
    )

pub loop-arena-preserved : goal.loop-arena-preserved
loop-arena-preserved c =
    let e : c.loop-b.b ≡ c.loop-arena.arena * c.args.per + c.args.per = omega (arith, c.loop-b-test.false, c.loop-b.invariant.1) in
    rw (e ∙ arena_next c.loop-arena.arena c.args.per (c.loop-arena.arena * c.args.per) refl) at (through c.args.log.now c.loop-arena.log _ 0 c.args.per
    (kept c.args.words.now) _ _ c.loop-arena.used (c.loop-arena.arena * c.args.per) _ 0 _ c.loop-arena.invariant c.loop-b.invariant.0)

pub append-requires : goal.append-requires
append-requires c =
    omega (arith, c.loop-arena.invariant.room, c.loop-arena.invariant.inside, c.loop-arena.invariant.same, c.requires)

pub returns : goal.returns
returns c =
    let n = c.args.arenas * c.args.per in
    let a : c.loop-arena.arena ≡ c.args.arenas = omega arith in
    let t = last_turn c.args.log.now 0 c.args.per (kept c.args.words.now) n _ c.loop-arena.log c.append.new.log
    c.loop-arena.used (c.loop-arena.arena * c.args.per) c.loop-arena.invariant (omega (arith, ap (λ x. x * c.args.per) a)) c.append.ensures.1 in
    record {
      count = c.append.ensures.0 ∙ t.0 ∙ zero-add _;
      bytes = t.1;
    }
