-- The counts of names of a stranger's tables: the rows of each link, counted one by one, and what is asked of a slot.
use Rattle.std.proofs.Common.{
  ◌≡◌,
  ℕ,
  suc,
  ◌+◌,
  ◌<◌,
  ◌≤◌,
  Bool,
  true,
  false,
  ◌&&◌,
  ◌||◌,
  eqb,
  leb,
  List,
  length,
  get_or,
  set,
  replicate,
  sym,
  refl,
  ap,
  ◌∙◌,
  add-one,
  arith,
  length-set,
  get_or-set_other,
  get_or-set_same,
  eq-eqb,
  ne_eqb,
}
use lib.ListN.{get_or-replicate}
use Rattle.answer.proofs.Cases.{cases, same?}
use Rattle.geometry.specs.declared.Geometry.{Geometry}
use Rattle.model.specs.Table.{all}
use Rattle.model.specs.Held.{bit, tally}
use Rattle.model.specs.NamesAgree.{owned}
use Rattle.model.specs.Layout.{num_cell, open_cell, name_cell, title_cell, titles_of, view_of, notes_of, state_of}
use Rattle.model.specs.Memory.{row?, count?, names?}
use Rattle.model.proofs.Tally.{tally_ext, tally_le}
use Rattle.tables.specs.Ready.{Roomy}
use Rattle.tables.proofs.Fields
use Rattle.tables.proofs.TitleRows.{link_at}
use Rattle.std.proofs.lemmas.Bool.{and_left}
use Rattle.soundness.proofs.Loops.{all_at, all_same}
use Rattle.soundness.proofs.NamesRows.{row_linked}

-- ── the rows of each link ──

-- row j has the link k
abbrev has : List ℕ → ℕ → ℕ → Bool
has t k j = eqb (get_or t (title_cell j) 0) k

-- the rows before i are counted
pub record Counted (t rows : List ℕ) (i : ℕ) : Type 0 where
  pub size : length rows ≡ 65
  pub each : (k : ℕ) → k < 65 → get_or rows k 0 ≡ tally (has t k) i

module _ (t rows : List ℕ) where
  pub counted_first : length rows ≡ 65 → ((k : ℕ) → k < 65 → get_or rows k 0 ≡ 0) → Counted t rows 0
  unfolding tally
  counted_first s z = record { size = s; each = z }

  module _ (i : ℕ) (C : Counted t rows i) where
    -- no number is above the number of rows
    pub counted_most : (k : ℕ) → k < 65 → get_or rows k 0 ≤ i
    counted_most k h = omega (arith, C.each k h, tally_le (has t k) i)

    pub counted_next : {link : ℕ} → link ≡ get_or t (title_cell i) 0 → link < 65 → Counted t (set rows link (get_or rows link 0 + 1)) (i + 1)
    unfolding tally
    counted_next {link} e h = record {
      size = length-set rows link (get_or rows link 0 + 1) ∙ C.size;
      each = λ k l. cases (same? k link)
          (λ d.
          let a : get_or (set rows link (get_or rows link 0 + 1)) k 0 ≡ get_or rows link 0 + 1 =
          rw d (get_or-set_same rows link (get_or rows link 0 + 1) 0 (omega (arith, C.size))) in
          rw (add-one i) (omega (arith, a, C.each k l, ap (λ n. get_or rows n 0) d, ap bit (eq-eqb (get_or t (title_cell i) 0) k (sym (d ∙ e))))))
          (λ n.
          let a : get_or (set rows link (get_or rows link 0 + 1)) k 0 ≡ get_or rows k 0 = get_or-set_other rows link k (get_or rows link 0 + 1) 0 n in
          rw (add-one i) (omega (arith, a, C.each k l, ap bit (ne_eqb (get_or t (title_cell i) 0) k (λ d. n (sym (e ∙ d)))))));
    }

    -- all are: those of slot s
    pub counted_all : i ≤ 32 → 32 ≤ i → (s : ℕ) → s < 64 → get_or rows (s + 1) 0 ≡ owned (titles_of t) s
    unfolding owned
    counted_all l h s k =
        let d : i ≡ 32 = omega arith in
        C.each (s + 1) (omega arith) ∙ ap (tally (has t (s + 1))) d ∙
        tally_ext (has t (s + 1)) (λ j. eqb ((titles_of t).owner j) (suc s)) 32
        (λ j m. rw (link_at t j m, add-one s))

-- none is counted
pub none_counted : (k : ℕ) → k < 65 → ◌≡◌ {A = ℕ} (get_or (replicate 65 0) k 0) 0
none_counted k h = get_or-replicate 65 k 0 0 h

-- ── the counts of the slots ──

module _ (g : Geometry) (t rows : List ℕ) where
  -- of slot s
  abbrev pub counts? : ℕ → Bool
  counts? s =
      eqb (get_or t (num_cell s) 0) 0 ||
      (eqb (get_or t (name_cell s) 0) (get_or rows (s + 1) 0) && (eqb (get_or t (open_cell s) 0) 0 || leb (get_or t (name_cell s) 0) 1))

  pub counts_are : {r : Bool} → Roomy g t → ((s : ℕ) → s < 64 → get_or rows (s + 1) 0 ≡ owned (titles_of t) s) → r ≡ all g.records counts? →
      r ≡ all g.records (count? (view_of g t) (titles_of t) (state_of g t).notes.names)
  unfolding count?
  counts_are roomy f e =
      e ∙ all_same g.records counts? (count? (view_of g t) (titles_of t) (state_of g t).notes.names)
      (λ s h. rw (Fields.num_is g t s h, Fields.names_is g t s h, Fields.open_is g t s h, f s (omega (arith, roomy.inside.records_most))))

-- ── both ──

module _ (g : Geometry) (t : List ℕ) where
  abbrev rowed : Bool
  rowed = all 32 (row? (view_of g t) (titles_of t))

  abbrev counted : Bool
  counted = all g.records (count? (view_of g t) (titles_of t) (state_of g t).notes.names)

  names_are : names? (view_of g t) (state_of g t).notes ≡ (rowed && counted)
  unfolding names? view_of state_of notes_of
  names_are = refl

  pub names_no : rowed ≡ false → false ≡ names? (view_of g t) (state_of g t).notes
  names_no h = sym (names_are ∙ and_left rowed counted h)

  pub names_rest : {r : Bool} → rowed ≡ true → r ≡ counted → r ≡ names? (view_of g t) (state_of g t).notes
  names_rest y e = e ∙ sym (names_are ∙ rw y)

  -- each link of rows that fit leads into the table
  pub links_low : Roomy g t → rowed ≡ true → (i : ℕ) → i < 32 → get_or t (title_cell i) 0 ≤ 64
  links_low roomy y i h =
      omega (arith, row_linked g t i h (all_at 32 i (row? (view_of g t) (titles_of t)) h y), roomy.inside.records_most)
