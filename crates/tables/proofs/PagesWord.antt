-- Words that say where two rows of pages differ.
use mathlib.Core.Path.{◌≡◌, refl, sym, ◌∙◌}
use mathlib.Core.Bool.{Bool}
use mathlib.Core.List.{List}
use Prim.Native.Nat.{ℕ, zero, suc, ◌+◌, ◌-◌, ◌≤◌, ◌<◌}
use native.Mathlib.Omega.{arith}
use lib.ListN.{get_or}
use Rattle.choice.specs.Words.{word_of}
use Rattle.geometry.specs.declared.Geometry.{Geometry}
use Rattle.model.specs.Table.{via}
use Rattle.model.specs.Layout.{page_cell, view_of}
use Rattle.tables.specs.Rows.{apart, filled, differs}
use Rattle.tables.proofs.Fields.{page_is}

-- ── the word of a row's pages ──

-- two tests that say the same of n places have the same word
word_ext : (p q : ℕ → Bool) (i j n : ℕ) → ((k : ℕ) → k < n → p (i + k) ≡ q (j + k)) → word_of p i n ≡ word_of q j n
unfolding word_of
word_ext p q i j zero h = refl
word_ext p q i j (suc n) h = rw (word_ext p q i j n (λ k l. h k (omega arith)), h n (omega arith))

module _ (g : Geometry) (t : List ℕ) (s x n : ℕ) (hs : s < g.records) (hx : x + n ≤ g.pages) where
  page_at : (r k : ℕ) → r < g.records → k < n → get_or t (page_cell r x + (0 + k)) 0 ≡ (view_of g t).page r (x + k)
  page_at r k h l = let e : page_cell r x + (0 + k) ≡ page_cell r (x + k) = omega arith in rw e (sym (page_is g t r (x + k) h (omega arith)))

  -- against the record behind a link
  pub word_apart : (l : ℕ) {w : ℕ} → (l ≡ 0 → ⊥) → l ≤ g.records → w ≡ word_of (apart t (page_cell s x) (page_cell (l - 1) x)) 0 n →
      w ≡ word_of (differs (view_of g t) s l) x n
  unfolding apart differs via
  word_apart zero d h e = absurd (d refl)
  word_apart (suc r) d h e =
      let z : suc r - 1 ≡ r = omega arith in
      (rw z at e) ∙ word_ext (apart t (page_cell s x) (page_cell r x)) (differs (view_of g t) s (suc r)) 0 x n
      (λ k l. rw (page_at s k hs l, page_at r k (omega arith) l))

  -- against nothing
  pub word_filled : (l : ℕ) {w : ℕ} → l ≡ 0 → w ≡ word_of (filled t (page_cell s x)) 0 n → w ≡ word_of (differs (view_of g t) s l) x n
  unfolding filled differs via
  word_filled zero d e =
      e ∙ word_ext (filled t (page_cell s x)) (differs (view_of g t) s 0) 0 x n (λ k l. rw (page_at s k hs l))
  word_filled (suc r) d e = absurd (let z : ⊥ = omega arith in z)
