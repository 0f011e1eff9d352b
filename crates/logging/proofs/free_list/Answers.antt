-- `free_list`: the pairs that the loops have still to write complete the free list.
use native.Mathlib.Omega.{arith}
use mathlib.Core.Path.{◌≡◌, refl, sym, ap, ◌∙◌}
use Prim.Native.Nat.{◌+◌, ◌*◌}
use native.Mathlib.Nat.{zero-add, zero-mul, sub-zero}
use Rattle.choice.specs.Words.{free_in}
use Rattle.alloc_log.proofs.Walking.{arena_inside, arena_next}
use Rattle.logging.proofs.Births.{words, words_long}
use Rattle.logging.proofs.NextRun.{next_run}
use Rattle.logging.proofs.Listing.{turn, last_turn, through}
use Rattle.logging.proofs.Answers.{listed}
use Rattle.logging.proofs.free_list.Goals as goal

pub loop-arena-init : goal.loop-arena-init
loop-arena-init c =
    rw (zero-mul c.args.g.per)
    (record { inside = omega arith; room = omega arith; same = refl; count = simp (zero-add, sub-zero); numbers = simp sub-zero })

pub overflow_add-edge : goal.overflow_add-edge
overflow_add-edge c =
    omega (arith, arena_inside c.loop-arena.arena c.args.g.arenas c.args.g.per (c.loop-arena.arena * c.args.g.per) refl c.loop-arena-test.true)

pub loop-b-init : goal.loop-b-init
loop-b-init c =
    let i = arena_inside c.loop-arena.arena c.args.g.arenas c.args.g.per (c.loop-arena.arena * c.args.g.per) refl c.loop-arena-test.true in
    (record { inside = omega arith; room = c.loop-arena.invariant.room; same = refl; count = refl; numbers = refl }, omega arith, i, omega arith)

pub first_given-from-requires : goal.first_given-from-requires
first_given-from-requires c =
    omega (arith, words_long c.requires.0.roomy c.requires.0.free)

pub first_kept-b-requires : goal.first_kept-b-requires
first_kept-b-requires c =
    omega (arith, words_long c.requires.0.roomy c.requires.0.free)

pub put_pair-at-requires : goal.put_pair-at-requires
put_pair-at-requires c =
    let r = next_run c.args.g.per (free_in (words c.args.t.now)) _ (λ i. refl) c.args.g.arenas c.loop-arena.arena (c.loop-arena.arena * c.args.g.per) refl
    c.loop-arena-test.true c.loop-b.b _ _ c.loop-b.invariant.3 c.loop-b.invariant.1 c.first_given-from.ensures c.first_kept-b.ensures in
    omega (arith, c.loop-b.invariant.0.same, c.loop-b.invariant.0.room, c.loop-arena.invariant.same, r.to, r.edge)

pub loop-b-smaller : goal.loop-b-smaller
loop-b-smaller c =
    let r = next_run c.args.g.per (free_in (words c.args.t.now)) _ (λ i. refl) c.args.g.arenas c.loop-arena.arena (c.loop-arena.arena * c.args.g.per) refl
    c.loop-arena-test.true c.loop-b.b _ _ c.loop-b.invariant.3 c.loop-b.invariant.1 c.first_given-from.ensures c.first_kept-b.ensures in
    omega (arith, r.more c.loop-b-test.true, r.edge)

pub loop-b-preserved : goal.loop-b-preserved
loop-b-preserved c =
    let r = next_run c.args.g.per (free_in (words c.args.t.now)) _ (λ i. refl) c.args.g.arenas c.loop-arena.arena (c.loop-arena.arena * c.args.g.per) refl
    c.loop-arena-test.true c.loop-b.b _ _ c.loop-b.invariant.3 c.loop-b.invariant.1 c.first_given-from.ensures c.first_kept-b.ensures in (
      turn c.loop-arena.out c.loop-arena.at _ _ _ _ c.loop-b.out _ c.loop-b.at _ _ c.loop-b.b _ c.loop-b.invariant.0 (omega (arith, r.from, r.to))
          (omega (arith, r.edge, c.loop-b.invariant.2)) r.run c.put_pair-at.ensures.count c.put_pair-at.ensures.numbers,
      r.edge,
      c.loop-b.invariant.2,
      omega (arith, r.from, r.to, c.loop-b.invariant.3),
    )

pub loop-arena-preserved : goal.loop-arena-preserved
loop-arena-preserved c =
    let e : c.loop-b.b ≡ c.loop-arena.arena * c.args.g.per + c.args.g.per = omega (arith, c.loop-b-test.false, c.loop-b.invariant.1) in
    rw (e ∙ arena_next c.loop-arena.arena c.args.g.per (c.loop-arena.arena * c.args.g.per) refl) at (through c.args.out.now c.loop-arena.out _ 0 _ _ _ _
    c.loop-arena.at (c.loop-arena.arena * c.args.g.per) _ _ c.loop-arena.invariant c.loop-b.invariant.0)

pub returns : goal.returns
returns c =
    let a = c.args in
    let k : c.loop-arena.arena ≡ a.g.arenas = omega arith in
    let w = last_turn a.out.now 0 _ _ _ _ c.loop-arena.out c.loop-arena.at (c.loop-arena.arena * c.args.g.per) c.loop-arena.invariant
    (omega (arith, ap (λ x. x * a.g.per) k)) in
    let both = listed c.requires.0 a.out.now _ _ c.requires.1 (w.0 ∙ zero-add _) w.1 w.2 in record {
      reply = both.0;
      out = both.1;
    }
