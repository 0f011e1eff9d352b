-- The check of the names says what sound means of them.
use mathlib.Core.Path.{◌≡◌, sym, ap}
use mathlib.Core.Logic.{◌⊎◌, inl, inr, ◌↔◌}
use mathlib.Core.Bool.{true}
use Prim.Native.Nat.{ℕ, suc, ◌≤◌, ◌<◌}
use native.Mathlib.Omega.{arith}
use Rattle.answer.proofs.Cases.{cases, same?, lt?, pos}
use Rattle.model.specs.Table.{via}
use Rattle.model.specs.View.{View}
use Rattle.model.specs.SoundMeans.{Live}
use Rattle.model.specs.State.{Notes}
use Rattle.model.specs.Names.{Titles, ValidName}
use Rattle.model.specs.NamesAgree.{owned, NamesAgree}
use Rattle.model.specs.Memory.{other_name?, row?, count?, names?}
use Rattle.model.proofs.TabFacts.{via_suc}
use Rattle.model.proofs.Reflect.{Says, says_eq, says_lt, says_le, says_map, says_not, says_all, says_or, ◌&◌}
use Rattle.model.proofs.NameBytes.{says_name, says_valid}

-- 0 or not
zero? : (n : ℕ) → (n ≡ 0) ⊎ (0 < n)
zero? n = cases (lt? 0 n) (λ h. inr h) (λ h. inl (omega arith))

-- ── what the tests of a row and of a slot say ──

-- row j is empty, or its name is another than that of row i
abbrev Other : Titles → ℕ → ℕ → Type 0
Other X i j = (X.owner j ≡ 0) ⊎ (X.text j ≡ X.text i → ⊥)

says_other : (X : Titles) (i j : ℕ) → Says (other_name? X i j) (Other X i j)
unfolding other_name?
says_other X i j = says_or (says_eq (X.owner j) 0) (says_not (says_name (X.text j) (X.text i)))

-- row i is empty, or it names a record in the store by a valid name that no row before it has
abbrev RowGood : View → Titles → ℕ → Type 0
RowGood K X i = (X.owner i ≡ 0) ⊎ (((0 < via K.num (X.owner i)) × ValidName (X.text i)) × ((j : ℕ) → j < i → Other X i j))

says_row : (K : View) (X : Titles) (i : ℕ) → Says (row? K X i) (RowGood K X i)
unfolding row?
says_row K X i =
    says_or (says_eq (X.owner i) 0)
    (says_lt 0 (via K.num (X.owner i)) & says_valid (X.text i) & says_all (other_name? X i) (Other X i) i (says_other X i))

-- slot s is empty, or its count is the number of rows that it owns, and at most 1 where its record is open
abbrev CountGood : View → Titles → (ℕ → ℕ) → ℕ → Type 0
CountGood K X names s = (K.num s ≡ 0) ⊎ ((names s ≡ owned X s) × ((K.is_open s ≡ 0) ⊎ (names s ≤ 1)))

says_count : (K : View) (X : Titles) (names : ℕ → ℕ) (s : ℕ) → Says (count? K X names s) (CountGood K X names s)
unfolding count?
says_count K X names s =
    says_or (says_eq (K.num s) 0) (says_eq (names s) (owned X s) & says_or (says_eq (K.is_open s) 0) (says_le (names s) 1))

-- ── both together ──

module _ (K : View) (X : Titles) (names : ℕ → ℕ) where
  -- a row in use
  row_good : (i s : ℕ) → RowGood K X i → X.owner i ≡ suc s → Live K s × ValidName (X.text i) × ((j : ℕ) → j < i → Other X i j)
  row_good i s g o =
      cases g
      (λ z. absurd (let y : ⊥ = omega arith in y))
      (λ w. (omega (arith, w.0.0, ap (via K.num) o, via_suc K.num s), w.0.1, w.1))

  good_row : NamesAgree K X names → (i : ℕ) → i < 32 → RowGood K X i
  good_row N i h =
      cases (zero? (X.owner i)) (λ z. inl z) (λ o.
      let (s, e) = pos (X.owner i) o in
      inr (
        (omega (arith, N.live i s h e, ap (via K.num) e, via_suc K.num s), N.valid i s h e),
        λ j l. cases (zero? (X.owner j)) (λ z. inl z) (λ p. inr (λ t. let y : ⊥ = omega (arith, N.different j i (omega arith) h p o t) in y)),
      ))

  count_good : (s : ℕ) → CountGood K X names s → Live K s → (names s ≡ owned X s) × (0 < K.is_open s → names s ≤ 1)
  count_good s g h =
      cases g
      (λ z. absurd (let y : ⊥ = omega arith in y))
      (λ w. (w.0, λ o. cases w.1 (λ z. absurd (let y : ⊥ = omega arith in y)) (λ l. l)))

  good_count : NamesAgree K X names → (s : ℕ) → CountGood K X names s
  good_count N s =
      cases (zero? (K.num s)) (λ z. inl z) (λ h.
      inr (N.counted s h, cases (zero? (K.is_open s)) (λ z. inl z) (λ o. inr (N.open_one s h o))))

  -- two rows of the same name: the later one would have been refused
  one_row : ((i : ℕ) → i < 32 → RowGood K X i) → (i j : ℕ) → j < i → i < 32 → 0 < X.owner i → 0 < X.owner j → X.text j ≡ X.text i → ⊥
  one_row rows i j l h o p t =
      let (s, e) = pos (X.owner i) o in
      cases ((row_good i s (rows i h) e).2 j l) (λ z. let y : ⊥ = omega arith in y) (λ n. n t)

  good : ((i : ℕ) → i < 32 → RowGood K X i) → ((s : ℕ) → Live K s → CountGood K X names s) → NamesAgree K X names
  good rows counts = record {
    live = λ i s h o. (row_good i s (rows i h) o).0;
    valid = λ i s h o. (row_good i s (rows i h) o).1;
    different = λ i j h g o p t. cases (same? i j)
        (λ d. d)
        (λ n. cases (lt? i j)
        (λ l. absurd (one_row rows j i l g p o t))
        (λ l. absurd (one_row rows i j (omega arith) h o p (sym t))));
    counted = λ s h. (count_good s (counts s h) h).0;
    open_one = λ s h o. (count_good s (counts s h) h).1 o;
  }

-- THE CHECK IS THE MEANING, in a store whose records are in slots of the table
pub says_names : (K : View) (N : Notes) → ((s : ℕ) → K.slots ≤ s → K.num s ≡ 0) → Says (names? K N) (NamesAgree K N.titles N.names)
unfolding names?
says_names K N out =
    let X : Titles = N.titles in
    says_map
    (λ p. good K X N.names p.0 (λ s h. cases (lt? s K.slots) (p.1 s) (λ l. absurd (let z : ⊥ = omega (arith, out s l) in z))))
    (λ A. (good_row K X N.names A, λ s l. good_count K X N.names A s))
    (says_all (row? K X) (RowGood K X) 32 (says_row K X) & says_all (count? K X N.names) (CountGood K X N.names) K.slots (says_count K X N.names))

pub names_test : (K : View) (N : Notes) → ((s : ℕ) → K.slots ≤ s → K.num s ≡ 0) → (names? K N ≡ true) ↔ NamesAgree K N.titles N.names
names_test K N out = let s = says_names K N out in (s.holds, s.passes)
