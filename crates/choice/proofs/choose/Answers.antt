-- The two loops: what is left of the search is the whole, at the head of each.
use mathlib.Core.Path.{◌≡◌, refl, sym, ap, ◌∙◌}
use mathlib.Core.Bool.{false}
use Prim.Native.Nat.{ℕ, ◌+◌, ◌-◌, ◌*◌, ◌%◌, ◌≤◌, ◌<◌}
use native.Mathlib.Nat.{add-zero}
use native.Mathlib.Omega.{arith}
use lib.ListN.{get_or}
use Rattle.answer.proofs.Cases.{cases, lt?}
use Rattle.choice.specs.Words.{free_in, mark_in}
use Rattle.choice.specs.Search.{chosen}
use Rattle.choice.proofs.Left.{left_blocks, arenas_all, arenas_end, arenas_step, blocks_end, blocks_round, blocks_hit, blocks_pass}
use Rattle.choice.proofs.Skips.{few, wider}
use Rattle.choice.proofs.Passes.{arena_on, arenas_between, chosen_nothing}
use Rattle.choice.proofs.choose.Goals as goal

pub start_arena-arena-requires : goal.start_arena-arena-requires
start_arena-arena-requires c = let p = c.requires in
    (p.arenas_least, p.arenas_most, omega (arith, p.counter_low), omega (arith, p.kind_low))

pub search-init : goal.search-init
search-init c = let s = c.args in
    let free = free_in s.words.now in
    let mark = mark_in s.marks.now in
    let first = s.counter + s.kind in
    record {
      low = c.start_arena-arena.ensures.below;
      round = rw (add-zero (s.counter + s.kind)) c.start_arena-arena.ensures.is;
      whole = arenas_all free mark s.arenas s.per first;
    }

pub offset_bounds-marks-arena : goal.offset_bounds-marks-arena
offset_bounds-marks-arena c = omega (arith, c.search.invariant.low, c.requires.arenas_most)

pub bounds-marks-arena : goal.bounds-marks-arena
bounds-marks-arena c = omega (arith, c.search.invariant.low, c.requires.marks_long)

pub overflow_cast-mark : goal.overflow_cast-mark
overflow_cast-mark c = wider _ (c.shared_slice_known-in-search-1.given _)

pub loop-at-init : goal.loop-at-init
unfolding mark_in
loop-at-init c =
    let marked : (get_or c.args.marks.now c.search.arena 0 < c.args.per) = (c.requires.marks_low c.search.arena c.search.invariant.low) in
    let o = c.before in
    let s = c.args in
    let free = free_in s.words.now in
    let mark = mark_in s.marks.now in
    let first = s.counter + s.kind in
    let h = o.search in
    let m = marked in
    record {
      end_inside = omega arith;
      more_inside = omega arith;
      last = λ l. absurd (omega arith);
      whole = sym (arenas_step free mark s.arenas s.per first (omega arith) h.invariant.round) ∙ h.invariant.whole;
    }

pub overflow_mul-block : goal.overflow_mul-block
overflow_mul-block c =
    let ends : (let s = c.args in
    (c.search.arena * s.per + s.per ≤ s.arenas * s.per) × (s.arenas * s.per ≤ 16384)) =
    (let p = c.requires in few _ _ c.search.arena p.arenas_most p.per_most c.search.invariant.low) in
    omega (arith, ends)

pub overflow_add-block : goal.overflow_add-block
overflow_add-block c =
    let ends : (let s = c.args in
    (c.search.arena * s.per + s.per ≤ s.arenas * s.per) × (s.arenas * s.per ≤ 16384)) =
    (let p = c.requires in few _ _ c.search.arena p.arenas_most p.per_most c.search.invariant.low) in
    omega (arith, ends, c.loop-at.invariant.end_inside)

pub look-near-requires : goal.look-near-requires
look-near-requires c =
    let ends : (let s = c.args in
    (c.search.arena * s.per + s.per ≤ s.arenas * s.per) × (s.arenas * s.per ≤ 16384)) =
    (let p = c.requires in few _ _ c.search.arena p.arenas_most p.per_most c.search.invariant.low) in
    let e = ends in
    let i = c.loop-at.invariant.end_inside in
    let w = c.requires.words_long in
    (omega arith, omega arith)

pub overflow_add-offset : goal.overflow_add-offset
overflow_add-offset c = let d = c.before.before in omega (arith, d.loop-at.invariant.end_inside, c.requires.per_most)

pub overflow_mul-arenas : goal.overflow_mul-arenas
overflow_mul-arenas c =
    let ends : (let s = c.args in
    (c.search.arena * s.per + s.per ≤ s.arenas * s.per) × (s.arenas * s.per ≤ 16384)) =
    (let p = c.requires in few _ _ c.search.arena p.arenas_most p.per_most c.search.invariant.low) in
    omega (arith, ends)

pub none_free-requires : goal.none_free-requires
none_free-requires c =
    let ends : (let s = c.args in
    (c.search.arena * s.per + s.per ≤ s.arenas * s.per) × (s.arenas * s.per ≤ 16384)) =
    (let p = c.requires in few _ _ c.search.arena p.arenas_most p.per_most c.search.invariant.low) in
    let o = c in ((ends).1, c.requires.words_long)

pub jump-at-requires : goal.jump-at-requires
jump-at-requires c =
    let ends : (let s = c.args in
    (c.search.arena * s.per + s.per ≤ s.arenas * s.per) × (s.arenas * s.per ≤ 16384)) =
    (let p = c.requires in few _ _ c.search.arena p.arenas_most p.per_most c.search.invariant.low) in
    let d = c.before.before.before.before in
    let e = ends in
    let i = d.loop-at.invariant.end_inside in
    let w = c.requires.words_long in
    (omega arith, omega arith, omega arith)

pub overflow_add-at : goal.overflow_add-at
overflow_add-at c = omega (arith, c.loop-at.invariant.end_inside, c.requires.per_most)

pub loop-at-preserved-then-end-at : goal.loop-at-preserved-then-end-at
loop-at-preserved-then-end-at c =
    let passed : (let s = c.args in
    let a = c.search.arena in
    (j : ℕ) → j < c.jump-at.result → free_in s.words.now (a * s.per + c.loop-at.at + j) ≡ false) = (λ j h. let b = c.search.arena * c.args.per + c.loop-at.at in
    cases (lt? (b % 32 + j) 32)
    (λ l. c.look-near.ensures.none j (omega arith) l)
    (λ l. c.jump-at.ensures.none j h l)) in
    let stepped : (let s = c.args in
    let free = free_in s.words.now in
    let mark = mark_in s.marks.now in
    let first = s.counter + s.kind in
    let h = c.search in
    let l = c.loop-at in
    let free = free_in s.words.now in
    let mark = mark_in s.marks.now in
    let first = s.counter + s.kind in
    left_blocks free mark s.arenas s.per first h.tried h.arena (l.at + c.jump-at.result) l.end l.more
    ≡ chosen free mark s.arenas s.per first) = (let s = c.args in
    let free = free_in s.words.now in
    let mark = mark_in s.marks.now in
    let first = s.counter + s.kind in
    let h = c.search in
    let l = c.loop-at in
    sym (blocks_pass free mark s.arenas s.per first h.tried h.arena l.at l.end l.more
    c.jump-at.result (omega arith) (passed))
    ∙ l.invariant.whole) in
    let d = c.before in
    let s = c.args in
    let free = free_in s.words.now in
    let mark = mark_in s.marks.now in
    let first = s.counter + s.kind in
    let h = c.search in
    let l = c.loop-at in
    record {
      end_inside = l.invariant.more_inside;
      more_inside = omega arith;
      last = λ z. refl;
      whole = sym (blocks_round free mark s.arenas s.per first h.tried h.arena l.more c.if-end-at.true) ∙ stepped;
    }

pub loop-at-preserved : goal.loop-at-preserved
loop-at-preserved c =
    let passed : (let s = c.args in
    let a = c.search.arena in
    (j : ℕ) → j < c.jump-at.result → free_in s.words.now (a * s.per + c.loop-at.at + j) ≡ false) = (λ j h. let b = c.search.arena * c.args.per + c.loop-at.at in
    cases (lt? (b % 32 + j) 32)
    (λ l. c.look-near.ensures.none j (omega arith) l)
    (λ l. c.jump-at.ensures.none j h l)) in
    let stepped : (let s = c.args in
    let free = free_in s.words.now in
    let mark = mark_in s.marks.now in
    let first = s.counter + s.kind in
    let h = c.search in
    let l = c.loop-at in
    let free = free_in s.words.now in
    let mark = mark_in s.marks.now in
    let first = s.counter + s.kind in
    left_blocks free mark s.arenas s.per first h.tried h.arena (l.at + c.jump-at.result) l.end l.more
    ≡ chosen free mark s.arenas s.per first) = (let s = c.args in
    let free = free_in s.words.now in
    let mark = mark_in s.marks.now in
    let first = s.counter + s.kind in
    let h = c.search in
    let l = c.loop-at in
    sym (blocks_pass free mark s.arenas s.per first h.tried h.arena l.at l.end l.more
    c.jump-at.result (omega arith) (passed))
    ∙ l.invariant.whole) in
    let i = c.loop-at.invariant in
    record { end_inside = i.end_inside; more_inside = i.more_inside; last = λ z. absurd (omega arith); whole = stepped }

pub arena_after-next-requires : goal.arena_after-next-requires
arena_after-next-requires c = let p = c.requires in
    (c.search.invariant.low, p.arenas_most, p.per_least, p.per_most, p.words_long)

pub overflow_add-tried : goal.overflow_add-tried
overflow_add-tried c = omega (arith, c.requires.arenas_most)

pub round_of-arena-requires : goal.round_of-arena-requires
round_of-arena-requires c = omega (arith, c.requires.arenas_least)

pub search-preserved : goal.search-preserved
unfolding mark_in
search-preserved c = let w = c.before.before in
    let s = c.args in
    let p = c.requires in
    let h = c.search in
    let l = w.loop-at in
    let n = c.arena_after-next in
    let first = s.counter + s.kind in
    let free = free_in s.words.now in
    let mark = mark_in s.marks.now in
    let on : h.arena + (n.result - h.arena) ≡ n.result = omega arith in
    record {
      low = c.round_of-arena.ensures.below;
      round = c.round_of-arena.ensures.is ∙ ap (λ (x : ℕ). x % s.arenas) (sym on)
          ∙ arena_on first h.tried s.arenas h.arena (n.result - h.arena) h.invariant.round;
      whole = sym (arenas_between free mark s.arenas s.per p.arenas_least p.marks_low first h.tried h.invariant.round n.result
          (omega arith) (omega arith) n.ensures.none)
          ∙ sym (blocks_end free mark s.arenas s.per first h.tried h.arena w.loop-at-test.false (l.invariant.last w.loop-at-test.false))
          ∙ l.invariant.whole;
    }

-- ---- the three ways out
pub returns-then-arenas-tried : goal.returns-then-arenas-tried
returns-then-arenas-tried c = let s = c.args in
    let free = free_in s.words.now in
    let mark = mark_in s.marks.now in
    let first = s.counter + s.kind in
    sym (arenas_end free mark s.arenas s.per first c.if-arenas-tried.true) ∙ c.search.invariant.whole

pub returns-then-near-end : goal.returns-then-near-end
returns-then-near-end c = let d = c.before.before in
    let s = c.args in
    let free = free_in s.words.now in
    let mark = mark_in s.marks.now in
    let first = s.counter + s.kind in
    let h = c.search in
    let l = d.loop-at in
    let look = c.look-near in
    let hit = look.ensures.hit c.if-near-end.true in
    sym (blocks_hit free mark s.arenas s.per first h.tried h.arena l.at l.end l.more
    look.result c.if-near-end.true (λ j u. look.ensures.none j u (omega (arith, hit.0))) hit.1)
    ∙ l.invariant.whole

pub returns-then-none_free : goal.returns-then-none_free
unfolding mark_in
returns-then-none_free c = let o = c in
    let s = c.args in
    let p = c.requires in
    chosen_nothing (free_in s.words.now) (mark_in s.marks.now) s.arenas s.per p.arenas_least p.marks_low (s.counter + s.kind)
    (c.none_free.ensures c.if-none_free.true)
