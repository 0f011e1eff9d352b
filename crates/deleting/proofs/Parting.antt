-- A deadlist is parted by birth: what leaves it, and what stays.
use mathlib.Core.Path.{◌≡◌, refl, sym, ap, ◌∙◌}
use mathlib.Core.Bool.{Bool, true, false}
use mathlib.Core.List.{List, [], ◌∷◌, ◌++◌, append-nil}
use Prim.Native.Nat.{ℕ, ◌+◌, ◌≤◌, ◌<◌}
use native.Mathlib.Omega.{arith}
use native.Mathlib.Numerals.{add-one}
use lib.Dec.{ltb, leb}
use lib.ListN.{length, get_or, set, take, drop, length-append, take-append-drop}
use lib.Seq.{sets, take-suc, take-length}
use borrow.Author.Tests.{lt-ltb, le-ltb, lt-leb, le-leb}
use Rattle.answer.proofs.Cases.{cases, lt?}
use Rattle.geometry.specs.declared.Geometry.{Geometry}
use Rattle.geometry.specs.Limits.{blocks}
use Rattle.model.specs.Lists.{keep_if}
use Rattle.model.specs.View.{View, pred_num}
use Rattle.model.specs.Effects.{unlinked}
use Rattle.model.specs.Window.{born_above}
use Rattle.model.specs.Layout.{length_cell, list_cell, birth_cell, view_of}
use Rattle.model.proofs.ListFacts.{keep_yes, keep_no, keep_append}
use Rattle.model.specs.Sorted.{sorted_onto}
use Rattle.model.proofs.Sorting.{unlinked_sorted}
use Rattle.tables.specs.Ready.{Ready}
use Rattle.tables.proofs.Fields
use Rattle.tables.proofs.Ranges
use Rattle.deleting.specs.Stages.{younger, others}
use Rattle.tables.proofs.Sets.{get_after, sets_last}
use Rattle.deleting.proofs.Sifting.{length_sorted}

-- ── one entry more ──

module _ (c : ℕ → Bool) (l : List ℕ) (i : ℕ) (h : i < length l) where
  keep_last : keep_if c (take (i + 1) l) ≡ keep_if c (take i l) ++ keep_if c (get_or l i 0 ∷ [])
  keep_last = ap (λ j. keep_if c (take j l)) (add-one i) ∙ ap (keep_if c) (take-suc l i 0 h) ∙ keep_append c (take i l) (get_or l i 0 ∷ [])

  keep_more : c (get_or l i 0) ≡ true → keep_if c (take (i + 1) l) ≡ keep_if c (take i l) ++ (get_or l i 0 ∷ [])
  unfolding keep_if
  keep_more y = keep_last ∙ ap (λ (m : List ℕ). keep_if c (take i l) ++ m) (keep_yes c (get_or l i 0) [] y)

  keep_past : c (get_or l i 0) ≡ false → keep_if c (take (i + 1) l) ≡ keep_if c (take i l)
  unfolding keep_if
  keep_past n = keep_last ∙ ap (λ (m : List ℕ). keep_if c (take i l) ++ m) (keep_no c (get_or l i 0) [] n) ∙ append-nil (keep_if c (take i l))

-- no more of the first i than of all
keep_front : (c : ℕ → Bool) (l : List ℕ) (i : ℕ) → length (keep_if c (take i l)) ≤ length (keep_if c l)
keep_front c l i =
    omega (
      arith,
      ap (λ (m : List ℕ). length (keep_if c m)) (take-append-drop i l),
      ap length (keep_append c (take i l) (drop i l)),
      length-append (keep_if c (take i l)) (keep_if c (drop i l)),
    )

-- the two parts are all
pub parts : (K : View) (p : ℕ) (l : List ℕ) → length (younger K p l) + length (others K p l) ≡ length l
unfolding keep_if
parts K p [] = omega arith
parts K p (b ∷ l) =
    cases (lt? p (K.birth b))
    (λ h. rw (lt-ltb p (K.birth b) h, lt-leb (K.birth b) p h) (omega (arith, parts K p l)))
    (λ h. rw (le-ltb p (K.birth b) h, le-leb (K.birth b) p h) (omega (arith, parts K p l)))

-- ── what leaves it ──

module _ {g : Geometry} {t : List ℕ} (R : Ready g t) (s n p : ℕ) (ep : p ≡ pred_num (view_of g t) s) where
  pub freed_is : sorted_onto (view_of g t).birth [] (younger (view_of g t) p ((view_of g t).list n)) ≡ unlinked (view_of g t) s n
  freed_is =
      ap (λ q. sorted_onto (view_of g t).birth [] (younger (view_of g t) q ((view_of g t).list n))) ep ∙ sym (unlinked_sorted (view_of g t) (Ranges.sound R) s n)

  pub freed_many : length (younger (view_of g t) p ((view_of g t).list n)) ≡ length (unlinked (view_of g t) s n)
  freed_many =
      omega (arith, length_sorted (view_of g t).birth [] (younger (view_of g t) p ((view_of g t).list n)), ap length freed_is)

  -- as `count_gone` counts them
  pub frees_many : born_above (view_of g t) p n ≡ length (unlinked (view_of g t) s n)
  unfolding born_above
  frees_many = freed_many

-- no more than there are entries, and pages
pub unlinked_short : {g : Geometry} {t : List ℕ} → Ready g t → (s n : ℕ) → length (unlinked (view_of g t) s n) ≤ g.pages
unlinked_short {g} {t} R s n =
    omega (
      arith,
      freed_many R s n (pred_num (view_of g t) s) refl,
      parts (view_of g t) (pred_num (view_of g t) s) ((view_of g t).list n),
      Ranges.list_le R n,
    )

-- ── the walk along the deadlist of slot n ──

module _ {g : Geometry} {t₀ : List ℕ} (R : Ready g t₀) (n : ℕ) (hn : n < g.records) (p i : ℕ) (more : i < get_or t₀ (length_cell n) 0) where
  abbrev K : View
  K = view_of g t₀

  abbrev l : List ℕ
  l = (view_of g t₀).list n

  has : i < length l
  has = omega (arith, Fields.list_length g t₀ n hn)

  -- block b is entry i
  module _ (b : ℕ) (e : b ≡ get_or ((view_of g t₀).list n) i 0) where
    pub entry_block : b < blocks g
    entry_block = rw e (Ranges.entry_in R n (get_or l i 0) (Ranges.in_get_d l i has))

    here : K.birth (get_or l i 0) ≡ K.birth b
    here = ap K.birth (sym e)

    -- it leaves
    module _ (y : p < (view_of g t₀).birth b) where
      young_more : younger K p (take (i + 1) l) ≡ younger K p (take i l) ++ (b ∷ [])
      young_more =
          keep_more (λ c. ltb p (K.birth c)) l i has (lt-ltb p (K.birth (get_or l i 0)) (omega (arith, here))) ∙
          ap (λ (d : ℕ). younger K p (take i l) ++ (d ∷ [])) (sym e)

      old_past : others K p (take (i + 1) l) ≡ others K p (take i l)
      old_past = keep_past (λ c. leb (K.birth c) p) l i has (lt-leb (K.birth (get_or l i 0)) p (omega (arith, here)))

      pub count_more : (c : ℕ) → c ≡ length (younger (view_of g t₀) p (take i ((view_of g t₀).list n))) →
          c + 1 ≡ length (younger (view_of g t₀) p (take (i + 1) ((view_of g t₀).list n)))
      count_more c d = omega (arith, ap length young_more, length-append (younger K p (take i l)) (b ∷ []))

      pub count_room : (c : ℕ) → c ≡ length (younger (view_of g t₀) p (take i ((view_of g t₀).list n))) → c < length (younger (view_of g t₀) p ((view_of g t₀).list n))
      count_room c d = omega (arith, count_more c d, keep_front (λ c. ltb p (K.birth c)) l (i + 1))

      pub out_more : (c : ℕ) → c ≡ length (younger (view_of g t₀) p (take i ((view_of g t₀).list n))) → (o₀ o : List ℕ) →
          o ≡ sets o₀ 0 (younger (view_of g t₀) p (take i ((view_of g t₀).list n))) → set o c b ≡ sets o₀ 0 (younger (view_of g t₀) p (take (i + 1) ((view_of g t₀).list n)))
      out_more c d o₀ o eo =
          ap (λ (u : List ℕ). set u c b) eo ∙ sets_last o₀ 0 (younger K p (take i l)) b c (omega arith) ∙ ap (sets o₀ 0) (sym young_more)

      pub kept_past : (k : ℕ) → k ≡ length (others (view_of g t₀) p (take i ((view_of g t₀).list n))) →
          k ≡ length (others (view_of g t₀) p (take (i + 1) ((view_of g t₀).list n)))
      kept_past k d = d ∙ sym (ap length old_past)

      pub row_past : {t : List ℕ} → t ≡ sets t₀ (list_cell g.records n 0) (others (view_of g t₀) p (take i ((view_of g t₀).list n))) →
          t ≡ sets t₀ (list_cell g.records n 0) (others (view_of g t₀) p (take (i + 1) ((view_of g t₀).list n)))
      row_past d = d ∙ ap (sets t₀ (list_cell g.records n 0)) (sym old_past)

    -- it stays
    module _ (y : (view_of g t₀).birth b ≤ p) where
      old_more : others K p (take (i + 1) l) ≡ others K p (take i l) ++ (b ∷ [])
      old_more =
          keep_more (λ c. leb (K.birth c) p) l i has (le-leb (K.birth (get_or l i 0)) p (omega (arith, here))) ∙
          ap (λ (d : ℕ). others K p (take i l) ++ (d ∷ [])) (sym e)

      young_past : younger K p (take (i + 1) l) ≡ younger K p (take i l)
      young_past = keep_past (λ c. ltb p (K.birth c)) l i has (le-ltb p (K.birth (get_or l i 0)) (omega (arith, here)))

      pub count_past : (c : ℕ) → c ≡ length (younger (view_of g t₀) p (take i ((view_of g t₀).list n))) →
          c ≡ length (younger (view_of g t₀) p (take (i + 1) ((view_of g t₀).list n)))
      count_past c d = d ∙ sym (ap length young_past)

      pub out_past : (o₀ o : List ℕ) → o ≡ sets o₀ 0 (younger (view_of g t₀) p (take i ((view_of g t₀).list n))) →
          o ≡ sets o₀ 0 (younger (view_of g t₀) p (take (i + 1) ((view_of g t₀).list n)))
      out_past o₀ o d = d ∙ ap (sets o₀ 0) (sym young_past)

      pub kept_more : (k : ℕ) → k ≡ length (others (view_of g t₀) p (take i ((view_of g t₀).list n))) →
          k + 1 ≡ length (others (view_of g t₀) p (take (i + 1) ((view_of g t₀).list n)))
      kept_more k d = omega (arith, ap length old_more, length-append (others K p (take i l)) (b ∷ []))

      pub row_more : (k : ℕ) → k ≡ length (others (view_of g t₀) p (take i ((view_of g t₀).list n))) → {t : List ℕ} →
          t ≡ sets t₀ (list_cell g.records n 0) (others (view_of g t₀) p (take i ((view_of g t₀).list n))) →
          set t (list_cell g.records n k) b ≡ sets t₀ (list_cell g.records n 0) (others (view_of g t₀) p (take (i + 1) ((view_of g t₀).list n)))
      row_more k d {t} et =
          ap (λ (u : List ℕ). set u (list_cell g.records n k) b) et ∙
          sets_last t₀ (list_cell g.records n 0) (others K p (take i l)) b (list_cell g.records n k) (omega arith) ∙
          ap (sets t₀ (list_cell g.records n 0)) (sym old_more)

  -- entry i and its birth in tables whose row n is parted up to i
  module _ (k : ℕ) (ek : k ≡ length (others (view_of g t₀) p (take i ((view_of g t₀).list n)))) (low : k ≤ i) {t : List ℕ}
      (et : t ≡ sets t₀ (list_cell g.records n 0) (others (view_of g t₀) p (take i ((view_of g t₀).list n)))) where
    pub entry_read : get_or t (list_cell g.records n i) 0 ≡ get_or ((view_of g t₀).list n) i 0
    entry_read =
        ap (λ (u : List ℕ). get_or u (list_cell g.records n i) 0) et ∙
        get_after (others K p (take i l)) t₀ (list_cell g.records n 0) (list_cell g.records n i) (omega arith) ∙
        sym (Fields.list_at g t₀ n i hn more)

    pub birth_read : (b : ℕ) → b < blocks g → get_or t (birth_cell g.records b) 0 ≡ (view_of g t₀).birth b
    birth_read b h =
        ap (λ (u : List ℕ). get_or u (birth_cell g.records b) 0) et ∙
        get_after (others K p (take i l)) t₀ (list_cell g.records n 0) (birth_cell g.records b)
        (omega (arith, Ranges.length_cell_le R n hn, R.roomy.inside.pages_most)) ∙ sym (Fields.birth_is g t₀ b h)

-- a count as it was read
pub below : {i n m : ℕ} → i < n → n ≡ m → i < m
below h e = omega arith

-- the walk is at its end
pub part_end_lem : (g : Geometry) (t₀ : List ℕ) (n : ℕ) → n < g.records → (i len : ℕ) → len ≡ get_or t₀ (length_cell n) 0 → i ≤ len → len ≤ i →
    take i ((view_of g t₀).list n) ≡ (view_of g t₀).list n
part_end_lem g t₀ n hn i len e h k =
    ap (λ j. take j ((view_of g t₀).list n)) (let z : i ≡ length ((view_of g t₀).list n) = omega (arith, Fields.list_length g t₀ n hn) in z) ∙ take-length ((view_of g t₀).list n)
