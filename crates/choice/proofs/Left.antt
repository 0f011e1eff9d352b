-- What is left of the search at the head of each of the two loops, and one turn of each.
use mathlib.Core.Path.{◌≡◌, refl, ◌∙◌}
use Prim.Native.Nat.{ℕ, zero, suc, ◌+◌, ◌-◌, ◌*◌, ◌%◌, ◌≤◌, ◌<◌}
use native.Mathlib.Nat.{add-zero, zero-add, sub-zero, add-suc, suc-add}
use native.Mathlib.Numerals.{add-one}
use native.Mathlib.Omega.{arith}
use mathlib.Core.Bool.{Bool, true, false}
use Rattle.std.specs.Prelude.{Option, Some, None}
use Rattle.choice.specs.declared.Place.{Place}
use Rattle.choice.specs.Search.{place_at, or_else, first_free, in_arena, in_arenas, chosen}
use Rattle.choice.specs.First.{Full}

-- when `tried` arenas are tried
unfoldable pub left_arenas : (ℕ → Bool) → (ℕ → ℕ) → ℕ → ℕ → ℕ → ℕ → Option Place
left_arenas free mark arenas per first tried = in_arenas free mark arenas per (first + tried) (arenas - tried)

-- when in the next arena, a, the blocks from offset `at` up to `end` are left, and after them its first `more` blocks
unfoldable pub left_blocks : (ℕ → Bool) → (ℕ → ℕ) → ℕ → ℕ → ℕ → ℕ → ℕ → ℕ → ℕ → ℕ → Option Place
left_blocks free mark arenas per first tried a at end more =
    or_else (first_free free per a at (end - at)) (or_else (first_free free per a 0 more) (left_arenas free mark arenas per first (tried + 1)))

-- three searches one after the other
else_else : (f g h : Option Place) → or_else (or_else f g) h ≡ or_else f (or_else g h)
unfolding or_else
else_else (Some p) g h = refl
else_else None g h = refl

-- ---- blocks of one arena

module _ (free : ℕ → Bool) (per a : ℕ) where
  -- the blocks after the first of some that are not free
  rest : (o k : ℕ) → ((j : ℕ) → j < suc k → free (a * per + o + j) ≡ false) → (j : ℕ) → j < k → free (a * per + suc o + j) ≡ false
  rest o k f j h = rw (add-suc (a * per) o, suc-add (a * per + o) j, ← add-suc (a * per + o) j) (f (suc j) (omega arith))

  -- k blocks that are not free
  stretch_past : (k n o : ℕ) → ((j : ℕ) → j < k → free (a * per + o + j) ≡ false) → first_free free per a o (k + n) ≡ first_free free per a (o + k) n
  unfolding first_free
  stretch_past zero n o f = rw (zero-add n, add-zero o)
  stretch_past (suc k) n o f =
      let e : free (a * per + o) ≡ false = rw (add-zero (a * per + o)) at (f 0 (omega arith)) in
      rw (suc-add k n, e, add-suc o k, ← suc-add o k) (stretch_past k n (suc o) (rest o k f))

  -- a free block after t that are not
  stretch_hit : (t n o : ℕ) → ((j : ℕ) → j < t → free (a * per + o + j) ≡ false) → free (a * per + o + t) ≡ true
      → first_free free per a o (t + suc n) ≡ place_at a (o + t)
  unfolding first_free
  stretch_hit t n o f u =
      let s : a * per + (o + t) ≡ a * per + o + t = omega arith in
      let e : free (a * per + (o + t)) ≡ true = rw s u in
      stretch_past t (suc n) o f ∙ rw e

  -- none that is free
  stretch_full : (n o : ℕ) → ((j : ℕ) → j < n → free (a * per + o + j) ≡ false) → first_free free per a o n ≡ None
  unfolding first_free
  stretch_full n o f = rw (add-zero n) at (stretch_past n 0 o f)

  arena_full : (mark : ℕ → ℕ) → mark a < per → Full free per a → in_arena free mark per a ≡ None
  unfolding in_arena or_else
  arena_full mark l f =
      let there : (o n : ℕ) → o + n ≤ per → first_free free per a o n ≡ None = λ o n h. stretch_full n o (λ j u.
      let s : a * per + o + j ≡ a * per + (o + j) = omega arith in rw s (f (o + j) (omega arith))) in
      rw (there (mark a) (per - mark a) (omega arith), there 0 (mark a) (omega arith))

-- ---- the two loops

module _ (free : ℕ → Bool) (mark : ℕ → ℕ) (arenas per first : ℕ) where
  pub arenas_all : left_arenas free mark arenas per first 0 ≡ chosen free mark arenas per first
  unfolding left_arenas chosen
  arenas_all = rw (add-zero first, sub-zero arenas)

  pub arenas_end : {tried : ℕ} → arenas ≤ tried → left_arenas free mark arenas per first tried ≡ None
  unfolding left_arenas in_arenas
  arenas_end {tried} h = let e : arenas - tried ≡ 0 = omega arith in rw e

  -- the next arena, from its mark to its end, and then from its start
  pub arenas_step : {tried a : ℕ} → tried < arenas → a ≡ (first + tried) % arenas
      → left_arenas free mark arenas per first tried ≡ left_blocks free mark arenas per first tried a (mark a) per (mark a)
  unfolding left_arenas left_blocks in_arenas in_arena
  arenas_step {tried} {a} h e =
      let n : arenas - tried ≡ suc (arenas - (tried + 1)) = omega arith in
      rw (n, ← e, add-one, add-suc)
      (else_else (first_free free per a (mark a) (per - mark a)) (first_free free per a 0 (mark a))
      (in_arenas free mark arenas per (suc (first + tried)) (arenas - suc tried)))

  -- an arena with no free block is passed over
  pub arenas_pass : {tried a : ℕ} → tried < arenas → a ≡ (first + tried) % arenas → mark a < per → Full free per a
      → left_arenas free mark arenas per first tried ≡ left_arenas free mark arenas per first (tried + 1)
  unfolding left_arenas in_arenas or_else
  arenas_pass {tried} {a} h e l f =
      let n : arenas - tried ≡ suc (arenas - (tried + 1)) = omega arith in
      rw (n, ← e, arena_full free per a mark l f, add-one, add-suc)

  module _ (tried a : ℕ) where
    abbrev left : ℕ → ℕ → ℕ → Option Place
    left at end more = left_blocks free mark arenas per first tried a at end more

    pub blocks_end : {at end more : ℕ} → end ≤ at → more ≡ 0 → left at end more ≡ left_arenas free mark arenas per first (tried + 1)
    unfolding left_blocks first_free or_else
    blocks_end {at} {end} h z = let e : end - at ≡ 0 = omega arith in rw (e, z)

    -- the stretch is over, and the arena's first blocks come next
    pub blocks_round : {at end : ℕ} (more : ℕ) → end ≤ at → left at end more ≡ left 0 more 0
    unfolding left_blocks first_free or_else
    blocks_round {at} {end} more h = let e : end - at ≡ 0 = omega arith in rw (e, sub-zero more)

    -- a free block after t that are not
    pub blocks_hit : (at end more t : ℕ) → t < end - at → ((j : ℕ) → j < t → free (a * per + at + j) ≡ false) → free (a * per + at + t) ≡ true
        → left at end more ≡ place_at a (at + t)
    unfolding left_blocks or_else
    blocks_hit at end more t h f u =
        let e : end - at ≡ t + suc (end - at - suc t) = omega arith in
        rw (e, stretch_hit free per a t (end - at - suc t) at f u)

    -- k blocks that are not free
    pub blocks_pass : (at end more k : ℕ) → k ≤ end - at → ((j : ℕ) → j < k → free (a * per + at + j) ≡ false) → left at end more ≡ left (at + k) end more
    unfolding left_blocks
    blocks_pass at end more k h f =
        let e : end - at ≡ k + (end - (at + k)) = omega arith in
        rw (e, stretch_past free per a k (end - (at + k)) at f)

-- ---- what holds at the head of each loop

-- `a` is the next arena, and what is left is the whole
pub record AtArena (free : ℕ → Bool) (mark : ℕ → ℕ) (arenas per first tried a : ℕ) : Type 0 where
  pub low : a < arenas
  pub round : a ≡ (first + tried) % arenas
  pub whole : left_arenas free mark arenas per first tried ≡ chosen free mark arenas per first

pub record AtBlock (free : ℕ → Bool) (mark : ℕ → ℕ) (arenas per first tried a at end more : ℕ) : Type 0 where
  pub end_inside : end ≤ per
  pub more_inside : more ≤ per
  -- the stretch is over only where no other comes after it
  pub last : end ≤ at → more ≡ 0
  pub whole : left_blocks free mark arenas per first tried a at end more ≡ chosen free mark arenas per first
