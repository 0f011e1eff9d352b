-- The search of a free block, on the lent tables, and what its answer tells.
use mathlib.Core.Path.{◌≡◌, refl, sym, ap, ap₂, ◌∙◌}
use mathlib.Core.Bool.{Bool, cond}
use mathlib.Core.List.{List}
use Prim.Native.Nat.{ℕ, zero, suc, ◌+◌, ◌-◌, ◌*◌, ◌/◌, ◌%◌, ◌≤◌, ◌<◌, min}
use native.Mathlib.Nat.{mod-lt}
use native.Mathlib.Omega.{arith}
use lib.ListN.{length, get_or, take, drop, length-drop}
use lib.Seq.{get_or-take, get_or-drop, length-take-le}
use Rattle.std.specs.Prelude.{Option, Some, None}
use Rattle.geometry.specs.declared.Geometry.{Geometry}
use Rattle.geometry.specs.Limits.{blocks}
use Rattle.choice.specs.declared.Place.{Place}
use Rattle.choice.specs.Search.{place_at, or_else, first_free, in_arena, in_arenas, chosen}
use Rattle.choice.specs.Words.{free_in, mark_in, word_of, Searchable}
use Rattle.choice.proofs.Ranges.{block_inside}
use Rattle.choice.proofs.Births.{says}
use Rattle.model.specs.Held.{available}
use Rattle.model.specs.Calls.{found}
use Rattle.model.specs.Layout.{free_word, view_of, state_of}
use Rattle.tables.specs.Ready.{Ready}
use Rattle.tables.proofs.Fields
use Rattle.paging.specs.Kind.{kind_number}
use Rattle.paging.specs.Place.{spot_of}
use Rattle.paging.specs.declared.place.Spot.{Spot}
use Rattle.paging.specs.declared.kind.Kind.{Kind}
use Rattle.paging.specs.declared.kind.Kind.TheVariants.{Data, Pivot, Leaf}

-- ── the choice depends on the blocks and marks of the store alone ──

module _ (p q : ℕ → Bool) (m k : ℕ → ℕ) (arenas per : ℕ) (frees : (b : ℕ) → b < arenas * per → p b ≡ q b)
    (marks : (a : ℕ) → a < arenas → m a ≡ k a) (low : (a : ℕ) → a < arenas → m a < per) where
  first_same : (a o n : ℕ) → a < arenas → o + n ≤ per → first_free p per a o n ≡ first_free q per a o n
  unfolding first_free
  first_same a o zero h l = refl
  first_same a o (suc n) h l =
      ap₂ (λ y f. cond y (place_at a o) f) (frees (a * per + o) (block_inside a arenas per o h (omega arith))) (first_same a (suc o) n h (omega arith))

  arena_same : (a : ℕ) → a < arenas → in_arena p m per a ≡ in_arena q k per a
  unfolding in_arena
  arena_same a h =
      let l : m a < per = low a h in
      ap₂ or_else
      (first_same a (m a) (per - m a) h (omega arith) ∙ ap (λ i. first_free q per a i (per - i)) (marks a h))
      (first_same a 0 (m a) h (omega arith) ∙ ap (first_free q per a 0) (marks a h))

  arenas_same : (f n : ℕ) → 0 < arenas → in_arenas p m arenas per f n ≡ in_arenas q k arenas per f n
  unfolding in_arenas
  arenas_same f zero h = refl
  arenas_same f (suc n) h = ap₂ or_else (arena_same (f % arenas) (mod-lt f h)) (arenas_same (suc f) n h)

  pub chosen_same : (first : ℕ) → 0 < arenas → chosen p m arenas per first ≡ chosen q k arenas per first
  unfolding chosen
  chosen_same first h = arenas_same first arenas h

-- no number of a kind is above 2
pub kind_low : (d : Kind) → kind_number d ≤ 2
kind_low Data = omega arith
kind_low Pivot = omega arith
kind_low Leaf = omega arith

-- ── the parts of the tables that the search is lent: n numbers from i on ──

part_at : (t : List ℕ) (i n j : ℕ) → j < n → get_or (take n (drop i t)) j 0 ≡ get_or t (i + j) 0
part_at t i n j h = get_or-take n (drop i t) j 0 h ∙ get_or-drop i t j 0

part_long : (t : List ℕ) (i n : ℕ) → i + n ≤ length t → length (take n (drop i t)) ≡ n
part_long t i n h = length-take-le n (drop i t) (omega (arith, length-drop i t))

module _ {g : Geometry} {t : List ℕ} (R : Ready g t) where
  abbrev words : List ℕ
  words = take 64 (drop 64 t)

  abbrev marks : List ℕ
  marks = take 16 (drop 16 t)

  mark_at : (a : ℕ) → a < g.arenas → get_or marks a 0 ≡ (state_of g t).mark a
  mark_at a h = part_at t 16 16 a (omega (arith, R.roomy.inside.arenas_most)) ∙ sym (Fields.mark_is g t a h)

  word_at : (k : ℕ) → k < 64 → get_or words k 0 ≡ word_of (available (state_of g t)) (32 * k) (min 32 (blocks g - 32 * k))
  unfolding free_word state_of view_of
  word_at k h = part_at t 64 64 k h ∙ R.free k h

  free_at : (b : ℕ) → b < blocks g → free_in words b ≡ available (state_of g t) b
  free_at b h =
      says (available (state_of g t)) words (min 32 (blocks g - 32 * (b / 32))) b
      (word_at (b / 32) (omega (arith, R.roomy.inside.blocks_most))) (omega arith)

  pub search_fine : (c k : ℕ) (d : Kind) → c ≡ get_or t 7 0 → k ≡ kind_number d → Searchable (take 64 (drop 64 t)) (take 16 (drop 16 t)) g.arenas g.per c k
  unfolding state_of
  search_fine c k d e ek = record {
    arenas_least = R.roomy.inside.arenas_least;
    arenas_most = R.roomy.inside.arenas_most;
    per_least = R.roomy.inside.per_least;
    per_most = R.roomy.inside.per_most;
    words_long = omega (arith, R.roomy.inside.blocks_most, part_long t 64 64 (omega (arith, R.roomy.room)));
    marks_long = omega (arith, R.roomy.inside.arenas_most, part_long t 16 16 (omega (arith, R.roomy.room)));
    marks_low = λ a l. omega (arith, mark_at a l, R.range.marks a);
    counter_low = omega (arith, R.range.counter);
    kind_low = omega (arith, kind_low d);
  }

  -- r is the choice, v the number of the kind
  module _ (r : Option Place) (c k v : ℕ) (e : c ≡ get_or t 7 0) (ek : k ≡ v)
      (d : r ≡ chosen (free_in (take 64 (drop 64 t))) (mark_in (take 16 (drop 16 t))) g.arenas g.per (c + k)) where
    pub found_is : r ≡ found g (state_of g t) v
    unfolding found mark_in
    found_is =
        d ∙ chosen_same (free_in words) (available (state_of g t)) (mark_in marks) (state_of g t).mark g.arenas g.per
        free_at mark_at (λ a l. omega (arith, mark_at a l, R.range.marks a)) (c + k) R.roomy.inside.arenas_least ∙
        ap (λ f. chosen (available (state_of g t)) (state_of g t).mark g.arenas g.per f)
        (omega (arith, Fields.counter_is g t))

    -- n is the birth
    pub search_at : (n : ℕ) {p : Place} → r ≡ Some p → ◌≡◌ {A = Option Spot} (Some (record { place = p; birth = n })) (spot_of n (found g (state_of g t) v))
    unfolding spot_of
    search_at n f = ap (spot_of n) (sym f ∙ found_is)

    pub search_none : (n : ℕ) → r ≡ None → ◌≡◌ {A = Option Spot} None (spot_of n (found g (state_of g t) v))
    unfolding spot_of
    search_none n f = ap (spot_of n) (sym f ∙ found_is)

-- ── what was found, told by the answer ──

pub found_at : (n : ℕ) (f : Option Place) (s : Spot) → spot_of n f ≡ Some s → (f ≡ Some s.place) × (s.birth ≡ n)
unfolding spot_of
found_at n (Some p) s e = (cc, cc)
found_at n None s e = absurd (let z : ◌≡◌ {A = ℕ} 0 1 = cc in omega arith)

pub found_nothing : (n : ℕ) (f : Option Place) → spot_of n f ≡ None → f ≡ None
unfolding spot_of
found_nothing n (Some p) e = absurd (let z : ◌≡◌ {A = ℕ} 0 1 = cc in omega arith)
found_nothing n None e = refl
