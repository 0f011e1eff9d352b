-- A block that is freed: no free word changes, since it was held and now waits; and where the lists of blocks that wait agree.
use mathlib.Core.Path.{◌≡◌, refl, sym, ap, ◌∙◌}
use mathlib.Core.Logic.{inl, inr}
use mathlib.Core.Bool.{◌||◌}
use mathlib.Core.List.{List, [], ◌∷◌, ◌++◌}
use Prim.Native.Nat.{ℕ, zero, suc, ◌+◌, ◌-◌, ◌*◌, ◌<◌, min}
use native.Mathlib.Omega.{arith}
use lib.Dec.{eqb}
use lib.ListN.{length, get_or, length-append}
use borrow.Author.Tests.{ne_eqb}
use Rattle.answer.proofs.Cases.{cases, same?, lt?}
use Rattle.geometry.specs.declared.Geometry.{Geometry}
use Rattle.geometry.specs.Limits.{blocks}
use Rattle.model.specs.Lists.{elem}
use Rattle.model.specs.Held.{waits, available}
use Rattle.model.specs.State.{State}
use Rattle.model.specs.Layout.{wait_cell, free_word, state_of, header_number, column_number, page_number, list_number, row_number}
use Rattle.model.proofs.TabFacts.{put_other}
use Rattle.model.proofs.LayoutFacts.{length_numbers, get_d_numbers}
use Rattle.model.proofs.StoredFacts.{row_number_lem, row_other}
use Rattle.model.proofs.Restored.{wait_said}
use Rattle.model.proofs.BirthPut.{word_ext}
use Rattle.model.proofs.ListFacts.{in_right}
use Rattle.model.proofs.Waiting.{held_unavailable, waits_unavailable}
use Rattle.tables.specs.Puts.{with_freed}

-- ── what tables say of the blocks that wait ──

module _ (g : Geometry) (t : List ℕ) where
  pub waiting_length : length (state_of g t).waiting ≡ get_or t 11 0
  unfolding state_of
  waiting_length = length_numbers t (wait_cell g.records (blocks g) 0) (get_or t 11 0)

  pub waiting_at : (i : ℕ) → i < get_or t 11 0 → get_or (state_of g t).waiting i 0 ≡ get_or t (wait_cell g.records (blocks g) i) 0
  unfolding state_of
  waiting_at i h = get_d_numbers t (wait_cell g.records (blocks g) 0) (get_or t 11 0) i h ∙ ap (λ k. get_or t k 0) (omega arith)

pub waits_header : (g : Geometry) (T : State) (t : List ℕ) → header_number g T t 11 ≡ length T.waiting
unfolding header_number
waits_header g T t = refl

-- to drop them all leaves their numbers
pub wait_dropped : (g : Geometry) (t : List ℕ) (i : ℕ) →
    row_number [] t (wait_cell g.records (blocks g) 0) i ≡ row_number (state_of g t).waiting t (wait_cell g.records (blocks g) 0) i
wait_dropped g t i =
    row_other [] t (wait_cell g.records (blocks g) 0) i (cases (lt? i (wait_cell g.records (blocks g) 0)) (λ l. inl l) (λ l. inr (omega arith))) ∙
    sym (wait_said g t i)

-- ── one more in a row of blocks ──

pub joined_last : (l : List ℕ) (b : ℕ) → get_or (l ++ (b ∷ [])) (length l) 0 ≡ b
joined_last [] b = refl
joined_last (c ∷ l) b = joined_last l b

pub joined_before : (l : List ℕ) (b i : ℕ) → i < length l → get_or (l ++ (b ∷ [])) i 0 ≡ get_or l i 0
joined_before [] b i h = absurd (let z : ⊥ = omega arith in z)
joined_before (c ∷ l) b zero h = refl
joined_before (c ∷ l) b (suc i) h = joined_before l b i (omega arith)

-- every number but its own stays
pub row_joined : (l t : List ℕ) (a b i : ℕ) → (i ≡ a + length l → ⊥) → row_number (l ++ (b ∷ [])) t a i ≡ row_number l t a i
row_joined l t a b i n =
    let len : length (l ++ (b ∷ [])) ≡ length l + 1 = length-append l (b ∷ []) in
    cases (lt? i a)
    (λ h. row_other (l ++ (b ∷ [])) t a i (inl h) ∙ sym (row_other l t a i (inl h)))
    (λ h. cases (lt? i (a + length l))
    (λ k.
    let e : i ≡ a + (i - a) = omega arith in
    ap (row_number (l ++ (b ∷ [])) t a) e ∙ row_number_lem (l ++ (b ∷ [])) t a (i - a) (omega arith) ∙ joined_before l b (i - a) (omega arith) ∙
    sym (ap (row_number l t a) e ∙ row_number_lem l t a (i - a) (omega arith)))
    (λ k. row_other (l ++ (b ∷ [])) t a i (inr (omega arith)) ∙ sym (row_other l t a i (inr k))))

-- ── the state with b freed ──

pub elem_other : (l : List ℕ) (b c : ℕ) → (c ≡ b → ⊥) → elem c (l ++ (b ∷ [])) ≡ elem c l
unfolding elem
elem_other [] b c n = rw (ne_eqb c b n)
elem_other (d ∷ l) b c n = ap (λ t. eqb c d || t) (elem_other l b c n)

module _ (T : State) (b : ℕ) where
  -- no free word changes
  freed_available : 0 < T.view.birth b → (c : ℕ) → available (with_freed T b) c ≡ available T c
  unfolding with_freed available waits
  freed_available h c =
      cases (same? c b)
      (λ e. rw e (waits_unavailable (with_freed T b) b (in_right b T.waiting (b ∷ []) (inl refl)) ∙ sym (held_unavailable T b h)))
      (λ n. rw (put_other T.view.birth b 0 c n, elem_other T.waiting b c n))

  pub word_freed : (k : ℕ) → 0 < T.view.birth b → free_word (with_freed T b) k ≡ free_word T k
  unfolding free_word with_freed
  word_freed k h = word_ext (available (with_freed T b)) (available T) (min 32 (T.view.blocks - 32 * k)) (32 * k) (λ j l m. freed_available h j)

  -- nor does a column, a page or a deadlist
  pub freed_column : (t : List ℕ) (f s : ℕ) → column_number (with_freed T b).view t f s ≡ column_number T.view t f s
  unfolding with_freed column_number
  freed_column t f s = refl

  pub freed_page : (t : List ℕ) (s x : ℕ) → page_number (with_freed T b).view t s x ≡ page_number T.view t s x
  unfolding with_freed page_number
  freed_page t s x = refl

  pub freed_list : (t : List ℕ) (s i : ℕ) → list_number (with_freed T b).view t s i ≡ list_number T.view t s i
  unfolding with_freed list_number
  freed_list t s i = refl
