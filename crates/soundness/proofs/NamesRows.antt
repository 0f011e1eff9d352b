-- The rows of names of a stranger's tables: letters, two names beside each other, and what is asked of a row.
use Rattle.std.proofs.Common.{
  ◌≡◌,
  ℕ,
  suc,
  ◌+◌,
  ◌-◌,
  ◌<◌,
  ◌≤◌,
  Bool,
  true,
  false,
  not,
  ◌&&◌,
  eqb,
  ltb,
  leb,
  List,
  [],
  ◌∷◌,
  length,
  get_or,
  take,
  drop,
  refl,
  sym,
  ap,
  ◌∙◌,
  ap₂,
  arith,
  ltb-true,
  le-ltb,
  lt-ltb,
  eq-eqb,
  ne_eqb,
}
use Rattle.std.specs.Cmp.Lexicographic.{pointwise}
use Rattle.std.specs.List.{list_all}
use Rattle.answer.proofs.Cases.{cases, same?, pos}
use Rattle.geometry.specs.declared.Geometry.{Geometry}
use Rattle.model.specs.Table.{via, all}
use Rattle.model.specs.View.{View}
use Rattle.model.specs.Names.{Titles, letters, valid_name, same_name}
use Rattle.model.specs.Layout.{num_cell, title_cell, letters_cell, field, numbers, view_of, titles_of}
use Rattle.model.specs.Memory.{other_name?, row?}
use Rattle.model.proofs.TabFacts.{via_suc}
use Rattle.model.proofs.LayoutFacts.{length_numbers}
use Rattle.model.proofs.NameBytes.{same_false}
use Rattle.tables.proofs.Fields
use Rattle.tables.proofs.TitleRows.{link_at, text_at, text_length}
use Rattle.soundness.proofs.Cells.{part_is}
use Rattle.std.proofs.lemmas.Bool.{and_parts}

-- ── n numbers from an address on: whether they are letters, and whether they are a valid name ──

-- what `is_letter` says
abbrev pub letter? : ℕ → Bool
letter? x = leb 97 x && leb x 122

letters_all : (l : List ℕ) → list_all letter? l ≡ letters l
unfolding letters
letters_all [] = refl
letters_all (x ∷ l) = ap (λ (b : Bool). letter? x && b) (letters_all l)

pub letters_part : (t : List ℕ) (at n : ℕ) → at + n ≤ length t → list_all letter? (take n (drop at t)) ≡ letters (numbers t at n)
letters_part t at n h = letters_all (take n (drop at t)) ∙ ap letters (part_is t at n h)

module _ (t : List ℕ) (at n : ℕ) {m : ℕ} (em : m ≡ n) where
  abbrev name : List ℕ
  name = numbers t at n

  -- v is whether its length is 1 to 32
  bounds : {v : Bool} → v ≡ (leb 1 m && leb m 32) → (ltb 0 (length name) && leb (length name) 32) ≡ v
  bounds ev = ap (λ (k : ℕ). leb 1 k && leb k 32) (length_numbers t at n ∙ sym em) ∙ sym ev

  pub name_no : {v : Bool} → v ≡ (leb 1 m && leb m 32) → v ≡ false → v ≡ valid_name (numbers t at n)
  unfolding valid_name
  name_no ev z = let k : (ltb 0 (length name) && leb (length name) 32) ≡ false = bounds ev ∙ z in rw (k, z)

  pub name_is : {v r : Bool} → v ≡ (leb 1 m && leb m 32) → v ≡ true → r ≡ letters (numbers t at m) → r ≡ valid_name (numbers t at n)
  unfolding valid_name
  name_is ev y e = let k : (ltb 0 (length name) && leb (length name) 32) ≡ true = bounds ev ∙ y in rw k (e ∙ ap (λ k. letters (numbers t at k)) em)

-- ── two rows beside each other ──

same_pointwise : (l m : List ℕ) → same_name l m ≡ pointwise eqb l m
unfolding same_name
same_pointwise [] [] = refl
same_pointwise [] (y ∷ m) = refl
same_pointwise (x ∷ l) [] = refl
same_pointwise (x ∷ l) (y ∷ m) = ap (λ (b : Bool). eqb x y && b) (same_pointwise l m)

module _ (t : List ℕ) (i j : ℕ) (hi : i < 32) (hj : j < 32) (used : 0 < get_or t (title_cell i) 0) where
  abbrev X : Titles
  X = titles_of t

  pub other_empty : get_or t (title_cell j) 0 ≡ 0 → true ≡ other_name? (titles_of t) i j
  unfolding other_name?
  other_empty z = rw (eq-eqb (X.owner j) 0 (link_at t j hj ∙ z))

  module _ (full : get_or t (title_cell j) 0 ≡ 0 → ⊥) where
    in_use : eqb (X.owner j) 0 ≡ false
    in_use = ne_eqb (X.owner j) 0 (λ e. full (sym (link_at t j hj) ∙ e))

    length_i : length (X.text i) ≡ get_or t (title_cell i + 1) 0
    length_i = text_length t i hi used

    length_j : length (X.text j) ≡ get_or t (title_cell j + 1) 0
    length_j = text_length t j hj (let z : 0 < get_or t (title_cell j) 0 = omega arith in z)

    pub other_length : (get_or t (title_cell j + 1) 0 ≡ get_or t (title_cell i + 1) 0 → ⊥) → true ≡ other_name? (titles_of t) i j
    unfolding other_name?
    other_length d = rw (in_use, same_false (X.text j) (X.text i) (λ e. d (sym length_j ∙ ap length e ∙ length_i)))

    -- r is what a comparison of the letters says, n from b on and as many from a on
    pub other_letters : {n a b : ℕ} {r : Bool} → get_or t (title_cell j + 1) 0 ≡ get_or t (title_cell i + 1) 0 → n ≡ get_or t (title_cell i + 1) 0 →
        a ≡ letters_cell i → b ≡ letters_cell j → a + n ≤ length t → b + n ≤ length t →
        r ≡ not (pointwise eqb (take (b + n - b) (drop b t)) (take (a + n - a) (drop a t))) → r ≡ other_name? (titles_of t) i j
    unfolding other_name?
    other_letters {n} {a} {b} {r} even en ea eb la lb er =
        let na : a + n - a ≡ n = omega arith in
        let nb : b + n - b ≡ n = omega arith in
        let ti : X.text i ≡ numbers t a n = text_at t i hi used ∙ ap₂ (numbers t) (sym ea) (sym en) in
        let tj : X.text j ≡ numbers t b n =
        text_at t j hj (let z : 0 < get_or t (title_cell j) 0 = omega arith in z) ∙ ap₂ (numbers t) (sym eb) (even ∙ sym en) in
        let e : r ≡ not (pointwise eqb (numbers t b n) (numbers t a n)) = rw (na, nb, part_is t a n la, part_is t b n lb) at er in
        rw (in_use, ti, tj, same_pointwise (numbers t b n) (numbers t a n)) e

-- ── a row ──

module _ (g : Geometry) (t : List ℕ) (i : ℕ) (h : i < 32) where
  abbrev K : View
  K = view_of g t

  -- link is what stands in it
  module _ {link : ℕ} (el : link ≡ get_or t (title_cell i) 0) where
    owner_is : (titles_of t).owner i ≡ link
    owner_is = link_at t i h ∙ sym el

    pub row_empty : link ≡ 0 → true ≡ row? (view_of g t) (titles_of t) i
    unfolding row?
    row_empty z = rw (eq-eqb ((titles_of t).owner i) 0 (owner_is ∙ z))

    -- number is that of the record that the link leads to
    module _ (full : link ≡ 0 → ⊥) {number : ℕ} (en : number ≡ field t (ltb (link - 1) g.records) (num_cell (link - 1))) where
      filled : eqb ((titles_of t).owner i) 0 ≡ false
      filled = ne_eqb ((titles_of t).owner i) 0 (λ e. full (sym owner_is ∙ e))

      number_is : via K.num ((titles_of t).owner i) ≡ number
      unfolding view_of
      number_is = ap (via K.num) (let z : (titles_of t).owner i ≡ suc (link - 1) = omega (arith, owner_is) in z) ∙ via_suc K.num (link - 1) ∙ sym en

      pub row_dead : number ≡ 0 → false ≡ row? (view_of g t) (titles_of t) i
      unfolding row?
      row_dead z = rw (filled, le-ltb 0 (via K.num ((titles_of t).owner i)) (omega (arith, number_is)))

      -- v is what `name_fits` says
      module _ (live : number ≡ 0 → ⊥) {v : Bool} (ev : v ≡ valid_name (numbers t (letters_cell i) (get_or t (title_cell i + 1) 0))) where
        living : ltb 0 (via K.num ((titles_of t).owner i)) ≡ true
        living = lt-ltb 0 (via K.num ((titles_of t).owner i)) (omega (arith, number_is))

        name_said : valid_name ((titles_of t).text i) ≡ v
        name_said = ap valid_name (text_at t i h (let z : 0 < get_or t (title_cell i) 0 = omega arith in z)) ∙ sym ev

        pub row_misnamed : v ≡ false → false ≡ row? (view_of g t) (titles_of t) i
        unfolding row?
        row_misnamed n = rw (filled, living, name_said ∙ n)

        pub row_named : {r : Bool} → v ≡ true → r ≡ all i (other_name? (titles_of t) i) → r ≡ row? (view_of g t) (titles_of t) i
        unfolding row?
        row_named n e = rw (filled, living, name_said ∙ n) e

  -- the link of a row that fits leads into the table
  pub row_linked : row? (view_of g t) (titles_of t) i ≡ true → get_or t (title_cell i) 0 ≤ g.records
  unfolding row?
  row_linked e =
      cases (same? ((titles_of t).owner i) 0) (λ z. omega (arith, link_at t i h)) (λ n.
      let (s, d) = pos ((titles_of t).owner i) (let z : 0 < (titles_of t).owner i = omega arith in z) in
      let e' = rw (ne_eqb ((titles_of t).owner i) 0 n) at e in
      let l = ltb-true 0 (via K.num ((titles_of t).owner i)) (and_parts _ _ (and_parts _ _ e').0).0 in
      let k = Fields.num_in g t s (omega (arith, l, ap (via K.num) d, via_suc K.num s)) in
      omega (arith, k, link_at t i h))
