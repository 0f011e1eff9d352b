-- Clamped reads, and parts of the tables.
use Rattle.std.proofs.Common.{◌≡◌, ℕ, ◌+◌, ◌-◌, ◌<◌, ◌≤◌, ltb, List, length, get_or, take, drop, sym, ◌∙◌, arith, lt-ltb}
use Rattle.std.proofs.Common.{length-drop, length-take-le, get_or-drop, get_or-take, ext_get_or}
use Rattle.geometry.specs.declared.Geometry.{Geometry}
use Rattle.model.specs.Layout.{field, numbers, state_of}
use Rattle.model.proofs.LayoutFacts.{length_numbers, get_d_numbers}

-- the number at address a, clamped
module _ (t : List ℕ) (a n i : ℕ) where
  field_in : {r : ℕ} → i < n → r ≡ get_or t a 0 → r ≡ field t (ltb i n) a
  unfolding field
  field_in h e = rw (lt-ltb i n h) e

-- an arena's mark
pub mark_is : (g : Geometry) (t : List ℕ) (a : ℕ) {m : ℕ} → a < g.arenas → m ≡ get_or t (16 + a) 0 → m ≡ (state_of g t).mark a
unfolding state_of
mark_is g t a h e = field_in t (16 + a) g.arenas a h e

-- ── n numbers of the tables from an address on ──

pub part_at : (t : List ℕ) (at n j : ℕ) → j < n → get_or (take n (drop at t)) j 0 ≡ get_or t (at + j) 0
part_at t at n j h = get_or-take n (drop at t) j 0 h ∙ get_or-drop at t j 0

pub part_long : (t : List ℕ) (at n : ℕ) → at + n ≤ length t → length (take n (drop at t)) ≡ n
part_long t at n h = length-take-le n (drop at t) (omega (arith, length-drop at t))

pub part_is : (t : List ℕ) (at n : ℕ) → at + n ≤ length t → take n (drop at t) ≡ numbers t at n
part_is t at n h =
    ext_get_or 0 (take n (drop at t)) (numbers t at n) (part_long t at n h ∙ sym (length_numbers t at n))
    (λ j l. let k : j < n = omega (arith, part_long t at n h) in part_at t at n j k ∙ sym (get_d_numbers t at n j k))

-- the i-th of `&t[at..at + n]`, and its end
pub part_turn : (t : List ℕ) (at n i : ℕ) → at + n ≤ length t → i < length (take (at + n - at) (drop at t)) →
    (i < n) × (get_or (take (at + n - at) (drop at t)) i 0 ≡ get_or t (at + i) 0)
part_turn t at n i h l =
    let e : at + n - at ≡ n = omega arith in
    let k : i < n = omega (arith, part_long t at n h, rw e at l) in
    (k, rw e (part_at t at n i k))

pub part_end : (t : List ℕ) (at n i : ℕ) → at + n ≤ length t → length (take (at + n - at) (drop at t)) ≤ i → n ≤ i
part_end t at n i h l = let e : at + n - at ≡ n = omega arith in omega (arith, part_long t at n h, rw e at l)
