-- The first blocks of the queue in the result buffer, each with its birth after it: how they are written, and how they are read.
use mathlib.Core.Path.{◌≡◌, refl, sym, ap, ap₂, ◌∙◌}
use mathlib.Core.List.{List, [], ◌∷◌, ◌++◌, append_assoc}
use Prim.Native.Nat.{ℕ, zero, suc, ◌+◌, ◌-◌, ◌*◌, ◌≤◌, ◌<◌}
use native.Mathlib.Omega.{arith}
use lib.ListN.{length, get_or, set, take}
use lib.Seq.{sets, length-take-le, take-suc}
use Rattle.geometry.specs.declared.Geometry.{Geometry}
use Rattle.geometry.specs.Limits.{blocks}
use Rattle.alloc_log.proofs.Tools.{take_sets}
use Rattle.model.specs.Layout.{queue_cell, queue_birth_cell, state_of}
use Rattle.model.specs.Results.{paired, blocks_in}
use Rattle.model.proofs.ResultFacts.{blocks_in_paired, paired_length, paired_append}
use Rattle.tables.specs.Ready.{Ready}
use Rattle.tables.proofs.Fields
use Rattle.tables.proofs.Ranges
use Rattle.tables.proofs.Sets.{sets_on, sets_append}

-- ── the buffer ──

-- one more block with its birth
pair_last : (f : ℕ → ℕ) (o l : List ℕ) (b v i : ℕ) → i ≡ length l → v ≡ f b →
    set (set (sets o 0 (paired f l)) (2 * i) b) (2 * i + 1) v ≡ sets o 0 (paired f (l ++ (b ∷ [])))
unfolding paired
pair_last f o l b v i e ev =
    let m : List ℕ = paired f l in
    let n : length m ≡ 2 * length l = paired_length f l in
    ap₂ (λ (j k : ℕ). set (set (sets o 0 m) j b) k v) (let z : 2 * i ≡ 0 + length m = omega arith in z)
    (let z : 2 * i + 1 ≡ suc (0 + length m) = omega arith in z) ∙
    sets_append m o (b ∷ v ∷ []) 0 ∙ ap (λ w. sets o 0 (m ++ (b ∷ w ∷ []))) ev ∙ ap (sets o 0) (sym (paired_append f l (b ∷ [])))

-- ── the queue of sound tables ──

module _ {g : Geometry} {t : List ℕ} (R : Ready g t) where
  abbrev q : List ℕ
  q = (state_of g t).queue.list

  abbrev f : ℕ → ℕ
  f = (state_of g t).queue.birth

  pub list_start : (o : List ℕ) → o ≡ sets o 0 (paired (state_of g t).queue.birth (take 0 (state_of g t).queue.list))
  unfolding paired
  list_start o = refl

  -- the block at place i, read at x + i
  module _ (i : ℕ) (h : i < get_or t 10 0) (x : ℕ) (ex : x ≡ queue_cell g.records (blocks g) 0) where
    abbrev b : ℕ
    b = get_or t (x + i) 0

    entry_is : b ≡ get_or t (queue_cell g.records (blocks g) i) 0
    entry_is = ap (λ k. get_or t k 0) (let z : x + i ≡ queue_cell g.records (blocks g) i = omega arith in z)

    pub entry_below : get_or t (x + i) 0 < blocks g
    entry_below = omega (arith, Ranges.queue_cell_lt R i h, entry_is)

    inside : i < length q
    inside = omega (arith, Fields.queue_length_lem g t)

    -- its birth, read at y + w
    birth_is : (y w : ℕ) → y ≡ queue_birth_cell g.records (blocks g) 0 → w ≡ get_or t (x + i) 0 → get_or t (y + w) 0 ≡ f b
    birth_is y w ey ew =
        ap (λ k. get_or t k 0) (let z : y + w ≡ queue_birth_cell g.records (blocks g) b = omega arith in z) ∙ sym (Fields.queue_birth_is g t b entry_below)

    pub list_turn : (o₀ o : List ℕ) (y w : ℕ) → o ≡ sets o₀ 0 (paired (state_of g t).queue.birth (take i (state_of g t).queue.list)) →
        y ≡ queue_birth_cell g.records (blocks g) 0 → w ≡ get_or t (x + i) 0 →
        set (set o (2 * i) (get_or t (x + i) 0)) (2 * i + 1) (get_or t (y + w) 0) ≡
        sets o₀ 0 (paired (state_of g t).queue.birth (take (i + 1) (state_of g t).queue.list))
    list_turn o₀ o y w so_far ey ew =
        ap (λ (u : List ℕ). set (set u (2 * i) b) (2 * i + 1) (get_or t (y + w) 0)) so_far ∙
        pair_last f o₀ (take i q) b (get_or t (y + w) 0) i (sym (length-take-le i q (omega (arith, inside)))) (birth_is y w ey ew) ∙
        ap (λ (c : ℕ). sets o₀ 0 (paired f (take i q ++ (c ∷ [])))) (entry_is ∙ sym (Fields.queue_at g t i h)) ∙
        ap (λ (l : List ℕ). sets o₀ 0 (paired f l))
        (sym (ap (λ k. take k q) (let z : i + 1 ≡ suc i = omega arith in z) ∙ take-suc q i 0 inside))

-- ── the blocks are read ──

-- the first n blocks of a buffer
abbrev pub firsts : ℕ → List ℕ → List ℕ
firsts n out = blocks_in (take (2 * n) out)

blocks_length : (l : List ℕ) (n : ℕ) → length l ≡ 2 * n → length (blocks_in l) ≡ n
unfolding blocks_in
blocks_length [] n e = omega arith
blocks_length (b ∷ []) n e = absurd (let z : ⊥ = omega arith in z)
blocks_length (b ∷ v ∷ l) n e = omega (arith, blocks_length l (n - 1) (omega arith))

blocks_append : (l m : List ℕ) (n : ℕ) → length l ≡ 2 * n → blocks_in (l ++ m) ≡ blocks_in l ++ blocks_in m
unfolding blocks_in
blocks_append [] m n e = refl
blocks_append (b ∷ []) m n e = absurd (let z : ⊥ = omega arith in z)
blocks_append (b ∷ v ∷ l) m n e = ap (λ k. b ∷ k) (blocks_append l m (n - 1) (omega arith))

module _ (out : List ℕ) (n : ℕ) where
  pub firsts_length : 2 * n ≤ length out → length (firsts n out) ≡ n
  firsts_length h = blocks_length (take (2 * n) out) n (length-take-le (2 * n) out h)

  -- two numbers more, and one block
  two_more : 2 * n + 1 < length out → take (2 * (n + 1)) out ≡ take (2 * n) out ++ (get_or out (2 * n) 0 ∷ get_or out (suc (2 * n)) 0 ∷ [])
  two_more h =
      ap (λ k. take k out) (let z : 2 * (n + 1) ≡ suc (suc (2 * n)) = omega arith in z) ∙ take-suc out (suc (2 * n)) 0 (omega arith) ∙
      ap (λ (l : List ℕ). l ++ (get_or out (suc (2 * n)) 0 ∷ [])) (take-suc out (2 * n) 0 (omega arith)) ∙ append_assoc (take (2 * n) out) _ _

  pub firsts_next : 2 * n + 1 < length out → firsts (n + 1) out ≡ firsts n out ++ (get_or out (2 * n) 0 ∷ [])
  unfolding blocks_in
  firsts_next h = ap blocks_in (two_more h) ∙ blocks_append (take (2 * n) out) _ n (length-take-le (2 * n) out (omega arith))

block_at : (f : ℕ → ℕ) (l : List ℕ) (k : ℕ) → get_or (paired f l) (2 * k) 0 ≡ get_or l k 0
unfolding paired
block_at f [] k = refl
block_at f (b ∷ l) zero = refl
block_at f (b ∷ l) (suc k) =
    ap (λ j. get_or (b ∷ f b ∷ paired f l) j 0) (let z : 2 * suc k ≡ suc (suc (2 * k)) = omega arith in z) ∙ block_at f l k

-- of blocks that were written with their births: all numbers, the blocks, and each block
module _ (f : ℕ → ℕ) (o l : List ℕ) (n : ℕ) (count : n ≡ length l) (room : 2 * n ≤ length o) where
  pub take_paired : take (2 * n) (sets o 0 (paired f l)) ≡ paired f l
  take_paired =
      let p : 2 * n ≡ length (paired f l) = omega (arith, paired_length f l) in
      ap (λ m. take m (sets o 0 (paired f l))) p ∙ take_sets (paired f l) o (omega arith)

  pub firsts_paired : firsts n (sets o 0 (paired f l)) ≡ l
  firsts_paired = ap blocks_in take_paired ∙ blocks_in_paired f l

  pub get_paired : (k : ℕ) → k < n → get_or (sets o 0 (paired f l)) (2 * k) 0 ≡ get_or l k 0
  get_paired k h =
      ap (λ j. get_or (sets o 0 (paired f l)) j 0) (let z : 2 * k ≡ 0 + 2 * k = omega arith in z) ∙
      sets_on (paired f l) o 0 (2 * k) (omega (arith, paired_length f l)) (omega (arith, paired_length f l)) ∙ block_at f l k
