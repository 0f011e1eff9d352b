-- The freed blocks leave the births of the queue and wait, one after another; then the queue loses its first blocks. Both as steps of the state.
use mathlib.Core.Path.{◌≡◌, refl, sym, ap, ap₂, ◌∙◌}
use mathlib.Core.Logic.{inl, inr}
use mathlib.Core.List.{List, [], ◌∷◌, ◌++◌}
use Prim.Native.Nat.{ℕ, zero, suc, ◌+◌, ◌-◌, ◌*◌, ◌≤◌, ◌<◌}
use native.Mathlib.Omega.{arith}
use lib.ListN.{length, get_or, set, take, drop, length-append}
use lib.Seq.{sets, paste, drop-cons, get_or-set_other}
use Rattle.std.proofs.lemmas.List.Edits.{sets-eq}
use Rattle.answer.proofs.Cases.{cases}
use Rattle.geometry.specs.declared.Geometry.{Geometry}
use Rattle.geometry.specs.Limits.{blocks}
use Rattle.model.specs.Lists.{In, Once}
use Rattle.model.specs.State.{State}
use Rattle.model.specs.Results.{blocks_in}
use Rattle.model.specs.Layout.{queue_cell, queue_birth_cell, numbers, state_of}
use Rattle.model.proofs.ListFacts.{cleared_out}
use Rattle.model.proofs.LayoutFacts.{length_numbers}
use Rattle.tables.specs.Ready.{Roomy}
use Rattle.tables.specs.Births.{waited}
use Rattle.tables.specs.Puts.{with_ended, with_queue_list}
use Rattle.tables.proofs.Steps.{Holds, holds_as}
use Rattle.tables.proofs.QueueStores.{step_ended, step_shortened, ended_none, ended_next, ended_birth, ended_waiting, ended_length, ended_count}
use Rattle.reclaiming.specs.Stages.{ended_all, shortened}
use Rattle.reclaiming.proofs.Listing.{firsts, firsts_next}

-- tables of the same length have room too
pub roomy_as : {g : Geometry} {t u : List ℕ} → length u ≡ length t → Roomy g t → Roomy g u
roomy_as e r = record { inside = r.inside; room = omega (arith, r.room) }

-- ── `free_queued`, block after block ──

-- one block
abbrev pub ended : ℕ → ℕ → List ℕ → ℕ → List ℕ
ended R N t b = waited R N (set t (queue_birth_cell R N b) 0) b

module _ (R N : ℕ) where
  pub end_none : (t out : List ℕ) → t ≡ ended_all R N t (firsts 0 out)
  unfolding ended_all blocks_in
  end_none t out = refl

  end_snoc : (l t : List ℕ) (b : ℕ) → ended R N (ended_all R N t l) b ≡ ended_all R N t (l ++ (b ∷ []))
  unfolding ended_all
  end_snoc [] t b = refl
  end_snoc (c ∷ l) t b = end_snoc l (ended R N t c) b

  -- the birth's place, y + b, is not where those that wait are counted
  pub cleared_waits : (t : List ℕ) (y b : ℕ) → y ≡ queue_birth_cell R N 0 → get_or (set t (y + b) 0) 11 0 ≡ get_or t 11 0
  cleared_waits t y b e = get_or-set_other t (y + b) 11 0 0 (λ d. let z : ⊥ = omega arith in z)

  pub end_made : (t t₁ : List ℕ) (y b : ℕ) → y ≡ queue_birth_cell R N 0 → t₁ ≡ waited R N (set t (y + b) 0) b →
      t₁ ≡ waited R N (set t (queue_birth_cell R N b) 0) b
  end_made t t₁ y b e d = d ∙ ap (λ k. waited R N (set t k 0) b) (let z : y + b ≡ queue_birth_cell R N b = omega arith in z)

  -- the block b at place i of the buffer
  module _ (t t₁ : List ℕ) (b : ℕ) (made : t₁ ≡ waited R N (set t (queue_birth_cell R N b) 0) b) where
    pub end_turn : (t₀ out : List ℕ) (i : ℕ) → 2 * i + 1 < length out → t ≡ ended_all R N t₀ (firsts i out) → b ≡ get_or out (2 * i) 0 →
        t₁ ≡ ended_all R N t₀ (firsts (i + 1) out)
    end_turn t₀ out i h so_far e =
        made ∙ ap (λ (u : List ℕ). ended R N u b) so_far ∙ end_snoc (firsts i out) t₀ b ∙
        ap (λ c. ended_all R N t₀ (firsts i out ++ (c ∷ []))) e ∙ ap (ended_all R N t₀) (sym (firsts_next out i h))

    pub end_waits : (i k : ℕ) → 11 < length t → get_or t 11 0 ≡ k + i → get_or t₁ 11 0 ≡ k + (i + 1)
    end_waits i k h e = omega (arith, ap (λ (u : List ℕ). get_or u 11 0) made, ended_count R N t b h)

-- ── `shorten_queue` ──

-- the m numbers from x on, as a part of the list
part_is : (t : List ℕ) (x m : ℕ) → x + m ≤ length t → take m (drop x t) ≡ numbers t x m
unfolding numbers
part_is t x zero h = refl
part_is t x (suc m) h = ap (take (suc m)) (drop-cons t x 0 (omega arith)) ∙ ap (λ l. get_or t x 0 ∷ l) (part_is t (suc x) m (omega arith))

-- they are copied to a
copied_is : (t : List ℕ) (a x m : ℕ) → x + m ≤ length t → a + m ≤ length t → paste t a (drop x t) m ≡ sets t a (numbers t x m)
copied_is t a x m hx ha =
    let n : length (numbers t x m) ≡ m = length_numbers t x m in
    ap (λ l. take a t ++ l ++ drop (a + m) t) (part_is t x m hx) ∙ ap (λ k. take a t ++ numbers t x m ++ drop (a + k) t) (sym n) ∙
    sym (sets-eq (numbers t x m) t a (omega arith))

module _ (R N : ℕ) (t₀ : List ℕ) (n : ℕ) where
  -- x is where the queue begins
  pub moved : (t : List ℕ) (x m left : ℕ) → t ≡ paste t₀ x (drop (x + n) t₀) m → x ≡ queue_cell R N 0 → m ≡ left → left ≡ get_or t₀ 10 0 - n →
      x + n + left ≤ length t₀ → set t 10 left ≡ shortened R N t₀ n
  unfolding shortened
  moved t x m left e ex em d h =
      let y : x + n ≡ queue_cell R N n = omega arith in
      ap (λ (u : List ℕ). set u 10 left)
      (e ∙ ap (paste t₀ x (drop (x + n) t₀)) em ∙ copied_is t₀ x (x + n) left h (omega arith) ∙ ap₂ (λ a b. sets t₀ a (numbers t₀ b left)) ex y) ∙
      ap (λ k. set (sets t₀ (queue_cell R N 0) (numbers t₀ (queue_cell R N n) k)) 10 k) d

-- ── as steps of the state ──

module _ (g : Geometry) (t₀ : List ℕ) (roomy : Roomy g t₀) where
  -- the blocks of l are queued, none is twice among them, and there is room for them among those that wait
  pub step_end : (l : List ℕ) {T : State} {t : List ℕ} → Holds g t₀ T t → Once l → ((b : ℕ) → In b l → b < blocks g) →
      ((b : ℕ) → In b l → 0 < T.queue.birth b) → length T.waiting + length l ≤ blocks g →
      Holds g t₀ (with_ended T l) (ended_all g.records (blocks g) t l)
  unfolding ended_all
  step_end [] {T} H once below born few = holds_as g t₀ refl (sym (ended_none T)) H
  step_end (b ∷ l) {T} H once below born few =
      let first = step_ended g t₀ roomy H b (below b (inl refl)) (born b (inl refl)) (omega arith) in
      holds_as g t₀ refl (ended_next T (b ∷ []) l)
      (step_end l first once.1 (λ c i. below c (inr i))
      (λ c i. omega (
        arith,
        born c (inr i),
        ap (λ (h : ℕ → ℕ). h c) (ended_birth T (b ∷ [])),
        cleared_out T.queue.birth (b ∷ []) c (λ j. cases j (λ e. once.0 c i (sym e)) (λ z. z)),
      ))
      (omega (arith, ap length (ended_waiting T (b ∷ [])), length-append T.waiting (b ∷ []))))

  pub step_short : (n : ℕ) {T : State} {t : List ℕ} → Holds g t₀ T t → n ≤ get_or t 10 0 → T.queue.list ≡ (state_of g t₀).queue.list →
      Holds g t₀ (with_queue_list T (drop n T.queue.list)) (shortened g.records (blocks g) t n)
  unfolding shortened
  step_short n H h same = step_shortened g t₀ roomy H n h same
