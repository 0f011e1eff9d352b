-- A deadlist, entry by entry, against the stamps of its slot.
use Rattle.std.proofs.Common.{
  ◌≡◌,
  ℕ,
  suc,
  ◌+◌,
  ◌-◌,
  ◌<◌,
  ◌≤◌,
  Bool,
  true,
  false,
  ◌&&◌,
  eqb,
  List,
  ◌∷◌,
  length,
  get_or,
  set,
  sym,
  ap,
  ◌∙◌,
  arith,
  length-set,
  get_or-set_other,
  get_or-set_same,
  eq-eqb,
  ne_eqb,
}
use lib.ListN.{get_or-eq_default}
use Rattle.answer.proofs.Cases.{cases, same?}
use Rattle.geometry.specs.declared.Geometry.{Geometry}
use Rattle.model.specs.Table.{put}
use Rattle.model.specs.Check.{takes?}
use Rattle.model.specs.Layout.{length_cell, list_cell, numbers, view_of}
use Rattle.model.specs.Stamps.{stamps}
use Rattle.model.proofs.Marking.{takes_alike, stamps_off}
use Rattle.tables.proofs.Fields.{list_is, list_length}
use Rattle.soundness.specs.Pages.{seen}
use Rattle.soundness.proofs.PagesMarks.{seen_set, and_no}

-- ── an entry ──

module _ (v : ℕ) (f : ℕ → ℕ) (b : ℕ) (l : List ℕ) where
  takes_none : (f b ≡ v → ⊥) → takes? (stamps v f) (b ∷ l) ≡ false
  unfolding takes?
  takes_none d = rw (ne_eqb (f b) v d)

  takes_one : f b ≡ v → (0 ≡ v → ⊥) → takes? (stamps v f) (b ∷ l) ≡ takes? (stamps v (put f b 0)) l
  unfolding takes?
  takes_one e n = rw (eq-eqb (f b) v e) (sym (takes_alike (stamps v (put f b 0)) (put (stamps v f) b 0) l (stamps_off v 0 f b n)))

-- ── the loop ──

-- the entries before the i-th have taken their stamps off
pub record Taking (g : Geometry) (t : List ℕ) (s count : ℕ) (gone₀ gone : List ℕ) (i : ℕ) : Type 0 where
  pub to : i ≤ count
  pub size : length gone ≡ 2048
  pub lower : (b : ℕ) → seen gone b ≤ seen gone₀ b
  pub same : takes? (stamps (suc s) (seen gone)) (numbers t (list_cell g.records s i) (count - i)) ≡ takes? (stamps (suc s) (seen gone₀)) ((view_of g t).list s)

module _ (g : Geometry) (t : List ℕ) (s count : ℕ) (gone₀ : List ℕ) (hs : s < g.records) where
  -- what `list_fits` answers
  abbrev pub Listed : Bool
  Listed = eqb (length ((view_of g t).list s)) count && takes? (stamps (suc s) (seen gone₀)) ((view_of g t).list s)

  pub list_other : {n : ℕ} → n ≡ get_or t (length_cell s) 0 → (n ≡ count → ⊥) → false ≡ Listed
  list_other e d =
      let z : eqb (length ((view_of g t).list s)) count ≡ false = ne_eqb (length ((view_of g t).list s)) count (λ w. d (e ∙ sym (list_length g t s hs) ∙ w)) in
      rw z

  module _ {n : ℕ} (e : n ≡ get_or t (length_cell s) 0) (z : n ≡ count) where
    long : eqb (length ((view_of g t).list s)) count ≡ true
    long = eq-eqb (length ((view_of g t).list s)) count (list_length g t s hs ∙ sym e ∙ z)

    pub taking_starts : length gone₀ ≡ 2048 → Taking g t s count gone₀ gone₀ 0
    taking_starts h =
        let d : count - 0 ≡ get_or t (length_cell s) 0 = omega arith in
        record { to = omega arith; size = h; lower = λ b. omega arith; same = rw (d, list_is g t s hs) }

    module _ {gone : List ℕ} {i : ℕ} (W : Taking g t s count gone₀ gone i) where
      pub taking_ends : count ≤ i → true ≡ Listed
      unfolding numbers takes?
      taking_ends h =
          let d : count - i ≡ 0 = omega arith in
          let k : takes? (stamps (suc s) (seen gone₀)) ((view_of g t).list s) ≡ true = sym W.same ∙ rw d in
          rw (long, k)

      module _ (h : i < count) {b : ℕ} (eb : b ≡ get_or t (list_cell g.records s i) 0) where
        entry : numbers t (list_cell g.records s i) (count - i) ≡ b ∷ numbers t (list_cell g.records s (i + 1)) (count - (i + 1))
        unfolding numbers
        entry =
            let d : count - i ≡ suc (count - (i + 1)) = omega arith in
            let k : suc (list_cell g.records s i) ≡ list_cell g.records s (i + 1) = omega arith in
            rw (d, eb, ← k)

        pub taking_fails : (seen gone b ≡ suc s → ⊥) → false ≡ Listed
        taking_fails d =
            let k : takes? (stamps (suc s) (seen gone₀)) ((view_of g t).list s) ≡ false =
            sym W.same ∙ ap (takes? (stamps (suc s) (seen gone))) entry ∙ takes_none (suc s) (seen gone) b _ d in
            and_no (eqb (length ((view_of g t).list s)) count) k

        -- an entry that is no block at all
        pub taking_beyond : 2048 ≤ b → false ≡ Listed
        taking_beyond k =
            let d : seen gone b ≡ 0 = get_or-eq_default gone 0 (omega (arith, W.size)) in
            taking_fails (λ w. absurd (let y : ⊥ = omega arith in y))

        pub taking_goes : seen gone b ≡ suc s → b < 2048 → Taking g t s count gone₀ (set gone b 0) (i + 1)
        taking_goes d k = record {
          to = omega arith;
          size = length-set gone b 0 ∙ W.size;
          lower = λ c. cases (same? c b)
              (λ w. rw (w, get_or-set_same gone b 0 0 (omega (arith, W.size))) (omega arith))
              (λ w. rw (get_or-set_other gone b c 0 0 w) (W.lower c));
          same = ap (λ (f : ℕ → ℕ). takes? (stamps (suc s) f) (numbers t (list_cell g.records s (i + 1)) (count - (i + 1))))
              (seen_set gone b 0 (omega (arith, W.size))) ∙
              sym (ap (takes? (stamps (suc s) (seen gone))) entry ∙ takes_one (suc s) (seen gone) b _ d (λ w. absurd (let y : ⊥ = omega arith in y))) ∙ W.same;
        }
