-- The blocks of a record that its pred has not on the same page, page by page.
use mathlib.Core.Path.{◌≡◌, refl, sym, ap, ap₂, ◌∙◌}
use mathlib.Core.Bool.{true, false}
use mathlib.Core.List.{List, [], ◌∷◌, ◌++◌, append-nil}
use Prim.Native.Nat.{ℕ, zero, suc, ◌+◌, ◌-◌, ◌≤◌, ◌<◌}
use native.Mathlib.Omega.{arith}
use lib.Bits.{bit_and}
use lib.Count.{count_trailing_zeros}
use lib.Dec.{eqb}
use lib.ListN.{length, get_or, set, length-append}
use lib.Seq.{sets, length-sets}
use borrow.Author.Tests.{eq-eqb, ne_eqb, eqb-true, eqb-false, not-true, not-false}
use Rattle.choice.proofs.Taking.{Left, left_none, left_inside, left_from, left_at, left_below, left_next}
use Rattle.geometry.specs.declared.Geometry.{Geometry}
use Rattle.model.specs.Table.{first_link}
use Rattle.model.specs.Lists.{rows, on_page}
use Rattle.model.specs.View.{View, parent, page_of}
use Rattle.model.specs.Check.{like?, own_at}
use Rattle.model.specs.Effects.{pruned}
use Rattle.model.specs.Layout.{prev_cell, base_cell, view_of}
use Rattle.model.proofs.ListFacts.{rows_split, rows_snoc}
use Rattle.model.proofs.CheckFacts.{pruned_own}
use Rattle.tables.specs.Ready.{Ready}
use Rattle.tables.specs.Rows.{differs}
use Rattle.tables.proofs.Fields
use Rattle.tables.proofs.Ranges
use Rattle.tables.proofs.Sets.{sets_append, sets_last}

-- ── the pred ──

module _ {g : Geometry} {t : List ℕ} (R : Ready g t) (s : ℕ) (hs : s < g.records) (live : 0 < (view_of g t).num s) where
  pub link_base : (prev : ℕ) → prev ≡ get_or t (prev_cell s) 0 → prev ≡ 0 → (base : ℕ) → base ≡ get_or t (base_cell s) 0
      → (base ≡ parent (view_of g t) s) × (base ≤ g.records)
  unfolding first_link
  link_base prev e z base d =
      let b : base ≡ (view_of g t).base s = d ∙ sym (Fields.base_is g t s hs) in
      (b ∙ sym (ap (λ l. first_link l ((view_of g t).base s)) (Fields.prev_is g t s hs ∙ sym e ∙ z)), omega (arith, Ranges.base_le R s live))

  first_some : (l m : ℕ) → (l ≡ 0 → ⊥) → l ≡ first_link l m
  unfolding first_link
  first_some zero m n = absurd (n refl)
  first_some (suc l) m n = refl

  pub link_prev : (prev : ℕ) → prev ≡ get_or t (prev_cell s) 0 → (prev ≡ 0 → ⊥) → (prev ≡ parent (view_of g t) s) × (prev ≤ g.records)
  link_prev prev e n =
      let p : prev ≡ (view_of g t).prev s = e ∙ sym (Fields.prev_is g t s hs) in
      (first_some prev ((view_of g t).base s) n ∙ ap (λ l. first_link l ((view_of g t).base s)) p, omega (arith, Ranges.prev_le R s live))

-- ── lists of which many are empty ──

module _ (f : ℕ → List ℕ) where
  rows_none : (n i : ℕ) → ((y : ℕ) → i ≤ y → y < i + n → f y ≡ []) → rows f i n ≡ []
  unfolding rows
  rows_none zero i h = refl
  rows_none (suc n) i h =
      ap₂ (λ (x y : List ℕ). x ++ y) (h i (omega arith) (omega arith)) (rows_none n (suc i) (λ y l k. h y (omega arith) (omega arith)))

  -- from page x + a on: the next m are empty, and the one behind them
  rows_skip : (x a m : ℕ) → ((j : ℕ) → j < m → f (x + a + j) ≡ []) → rows f x (a + m) ≡ rows f x a
  rows_skip x a m h =
      rows_split f a m x ∙ ap (λ (l : List ℕ). rows f x a ++ l)
      (rows_none m (x + a) (λ y l k. ap f (let z : y ≡ x + a + (y - (x + a)) = omega arith in z) ∙ h (y - (x + a)) (omega arith))) ∙ append-nil (rows f x a)

  rows_behind : (x a m : ℕ) → ((j : ℕ) → j < m → f (x + a + j) ≡ []) → rows f x (a + m + 1) ≡ rows f x a ++ f (x + a + m)
  rows_behind x a m h =
      ap (rows f x) (let z : a + m + 1 ≡ suc (a + m) = omega arith in z) ∙ rows_snoc f (a + m) x ∙
      ap₂ (λ (u v : List ℕ). u ++ v) (rows_skip x a m h) (ap f (let z : x + (a + m) ≡ x + a + m = omega arith in z))

  rows_part : (i x y : ℕ) → x ≤ y → length (rows f i x) ≤ length (rows f i y)
  rows_part i x y l =
      omega (
        arith,
        ap (λ j. length (rows f i j)) (let z : y ≡ x + (y - x) = omega arith in z),
        ap length (rows_split f x (y - x) i),
        length-append (rows f i x) (rows f (i + x) (y - x)),
      )

-- ── the walk by words ──

-- pages of s against those of its pred
module _ (K : View) (s link : ℕ) (el : link ≡ parent K s) where
  same_none : (y : ℕ) → differs K s link y ≡ false → own_at K s y ≡ []
  unfolding own_at like? differs
  same_none y e =
      rw (eq-eqb (K.page s y) (page_of K (parent K s) y)
      (eqb-true (K.page s y) (page_of K link y) (not-false (eqb (K.page s y) (page_of K link y)) e) ∙ ap (λ l. page_of K l y) el))

  apart_is : (y : ℕ) → differs K s link y ≡ true → own_at K s y ≡ on_page (K.page s y)
  unfolding own_at like? differs
  apart_is y e =
      rw (ne_eqb (K.page s y) (page_of K (parent K s) y)
      (λ d. eqb-false (K.page s y) (page_of K link y) (not-true (eqb (K.page s y) (page_of K link y)) e) (d ∙ ap (λ l. page_of K l y) (sym el))))

  abbrev own : ℕ → List ℕ
  own = own_at K s

  -- `rest` is what is left of the word of n pages from x on, after the first i
  module _ (x n i : ℕ) {rest : ℕ} (few : n ≤ 32) (L : Left (differs K s link) x n i rest) where
    pub listed_end : rest ≡ 0 → rows (own_at K s) x i ≡ rows (own_at K s) x n
    listed_end z =
        sym (rows_skip own x i (n - i) (λ j h. same_none (x + i + j)
        (let at : x + (i + j) ≡ x + i + j = omega arith in rw at at (left_none (differs K s link) x n few L z (i + j) (omega arith) (omega arith))))) ∙
        ap (rows own x) (let w : i + (n - i) ≡ n = omega (arith, L.to) in w)

    -- k is the next page that differs
    module _ (some : rest ≡ 0 → ⊥) (k : ℕ) (ek : k ≡ count_trailing_zeros 32 rest) where
      pub listed_inside : k < n
      listed_inside = rw ek (left_inside (differs K s link) x n few L some)

      pub listed_from : i ≤ k
      listed_from = rw ek (left_from (differs K s link) x n few L some)

      pub listed_left : Left (differs K s link) x n (k + 1) (bit_and rest (rest - 1))
      listed_left = rw ek (left_next (differs K s link) x n few L some)

      between : (j : ℕ) → j < k - i → differs K s link (x + i + j) ≡ false
      between j h =
          let at : x + (i + j) ≡ x + i + j = omega arith in
          rw at at (left_below (differs K s link) x n few L some (i + j) (omega arith) (omega (arith, ek)))

      -- v is its link
      module _ (v : ℕ) (hv : v ≡ K.page s (x + k)) where
        next_page : rows own x (k + 1) ≡ rows own x i ++ on_page v
        next_page =
            let at : x + i + (k - i) ≡ x + k = omega (arith, listed_from) in
            ap (rows own x) (let w : k + 1 ≡ i + (k - i) + 1 = omega (arith, listed_from) in w) ∙
            rows_behind own x i (k - i) (λ j h. same_none (x + i + j) (between j h)) ∙
            ap (λ (m : List ℕ). rows own x i ++ m)
            (ap (own_at K s) at ∙ apart_is (x + k) (rw ek (left_at (differs K s link) x n few L some)) ∙ ap on_page (sym hv))

        pub listed_none : v ≡ 0 → rows (own_at K s) x (k + 1) ≡ rows (own_at K s) x i
        unfolding on_page
        listed_none z = next_page ∙ ap (λ w. rows own x i ++ on_page w) z ∙ append-nil (rows own x i)

        module _ (full : v ≡ 0 → ⊥) where
          listed_one : rows own x (k + 1) ≡ rows own x i ++ ((v - 1) ∷ [])
          unfolding on_page
          listed_one = next_page ∙ ap (λ w. rows own x i ++ on_page w) (let z : v ≡ suc (v - 1) = (let w : 0 < v = omega arith in omega arith) in z)

          pub listed_count : length (rows (own_at K s) x (k + 1)) ≡ length (rows (own_at K s) x i) + 1
          listed_count = ap length listed_one ∙ length-append (rows own x i) ((v - 1) ∷ [])

          pub listed_room : length (rows (own_at K s) x i) < length (rows (own_at K s) x n)
          listed_room = omega (arith, listed_count, rows_part own x (k + 1) n (omega (arith, listed_inside)))

          pub listed_out : (o₀ o : List ℕ) (c d : ℕ) → d ≡ c + length (rows (own_at K s) x i) → o ≡ sets o₀ c (rows (own_at K s) x i) →
              set o d (v - 1) ≡ sets o₀ c (rows (own_at K s) x (k + 1))
          listed_out o₀ o c d ed eo =
              ap (λ (u : List ℕ). set u d (v - 1)) eo ∙ sets_last o₀ c (rows own x i) (v - 1) d ed ∙ ap (sets o₀ c) (sym listed_one)

-- a word's blocks behind those of the pages before
module _ (K : View) (s x n : ℕ) where
  pub joined_rows : rows (own_at K s) 0 (x + n) ≡ rows (own_at K s) 0 x ++ rows (own_at K s) x n
  joined_rows = rows_split (own_at K s) x n 0 ∙ ap (λ i. rows (own_at K s) 0 x ++ rows (own_at K s) i n) (let z : 0 + x ≡ x = omega arith in z)

  pub joined_count : (c d : ℕ) → c ≡ length (rows (own_at K s) 0 x) → d ≡ c + length (rows (own_at K s) x n) → d ≡ length (rows (own_at K s) 0 (x + n))
  joined_count c d e h = omega (arith, ap length joined_rows, length-append (rows (own_at K s) 0 x) (rows (own_at K s) x n))

  pub joined_out : (o₀ o u : List ℕ) (c : ℕ) → c ≡ length (rows (own_at K s) 0 x) → o ≡ sets o₀ 0 (rows (own_at K s) 0 x) →
      u ≡ sets o c (rows (own_at K s) x n) → u ≡ sets o₀ 0 (rows (own_at K s) 0 (x + n))
  joined_out o₀ o u c e eo eu =
      eu ∙ ap (λ (m : List ℕ). sets m c (rows (own_at K s) x n)) eo ∙
      ap (λ i. sets (sets o₀ 0 (rows (own_at K s) 0 x)) i (rows (own_at K s) x n)) (let z : c ≡ 0 + length (rows (own_at K s) 0 x) = omega arith in z) ∙
      sets_append (rows (own_at K s) 0 x) o₀ (rows (own_at K s) x n) 0 ∙ ap (sets o₀ 0) (sym joined_rows)

  pub joined_length : (o₀ o u : List ℕ) (c : ℕ) → u ≡ sets o c (rows (own_at K s) x n) → length o ≡ length o₀ → length u ≡ length o₀
  joined_length o₀ o u c eu e = ap length eu ∙ length-sets o c (rows (own_at K s) x n) ∙ e

  pub joined_room : (c p : ℕ) → c ≡ length (rows (own_at K s) 0 x) → x ≤ p → n ≤ p - x → c + length (rows (own_at K s) x n) ≤ length (rows (own_at K s) 0 p)
  joined_room c p e h k = omega (arith, joined_count c (c + length (rows (own_at K s) x n)) e refl, rows_part (own_at K s) 0 (x + n) p (omega arith))

-- all pages: what the deletion queues
module _ {g : Geometry} {t : List ℕ} (R : Ready g t) (s : ℕ) (live : 0 < (view_of g t).num s) where
  pub owned_all : (x : ℕ) → x ≤ g.pages → g.pages ≤ x → rows (own_at (view_of g t) s) 0 x ≡ pruned (view_of g t) s g.pages
  owned_all x h k =
      ap (rows (own_at (view_of g t) s) 0) (let z : x ≡ g.pages = omega arith in z) ∙ sym (pruned_own (view_of g t) (Ranges.sound R) s live g.pages)
