-- The rows of names: which row is found, what a change of the rows does to it, how many a slot owns.
use mathlib.Core.Path.{◌≡◌, refl, sym, ap, ◌∙◌}
use mathlib.Core.Logic.{◌⊎◌, inl, inr, ◌↔◌}
use mathlib.Core.Bool.{Bool, true, false, false≢true}
use mathlib.Core.List.{List, []}
use Prim.Native.Nat.{ℕ, zero, suc, ◌≤◌, ◌<◌}
use native.Mathlib.Omega.{arith}
use lib.Dec.{eqb}
use borrow.Author.Tests.{eq-eqb, ne_eqb, eqb-true, eqb-false}
use Rattle.answer.proofs.Cases.{cases, either, same?, pos}
use Rattle.model.specs.Table.{via}
use Rattle.model.specs.Held.{bit, tally}
use Rattle.model.specs.Names.{Titles, carries, row_of, owner_of, empty_row, named, unnamed, moved}
use Rattle.model.specs.NamesAgree.{owned}
use Rattle.model.proofs.TabFacts.{put_other, put_same, via_suc, via_is, seek_found, seek_none}
use Rattle.model.proofs.Tally.{tally_ext, tally_none, tally_le}
use Rattle.model.proofs.Reflect.{Says, says_lt, ◌&◌}
use Rattle.model.proofs.NameBytes.{says_name}

-- ── how many ──

-- one number more passes
tally_more : (t u : ℕ → Bool) (c k : ℕ) → c < k → t c ≡ false → u c ≡ true → ((b : ℕ) → (b ≡ c → ⊥) → u b ≡ t b) → tally u k ≡ suc (tally t k)
unfolding tally
tally_more t u c zero h f e o = absurd (let z : ⊥ = omega arith in z)
tally_more t u c (suc k) h f e o =
    cases (same? k c)
    (λ i.
    let same : tally u k ≡ tally t k = tally_ext u t k (λ b l. o b (λ d. let z : ⊥ = omega arith in z)) in
    omega (arith, ap bit (ap u i ∙ e), ap bit (ap t i ∙ f)))
    (λ n. omega (arith, ap bit (o k n), tally_more t u c k (omega arith) f e o))

tally_some : (t : ℕ → Bool) (k i : ℕ) → i < k → t i ≡ true → 0 < tally t k
unfolding tally
tally_some t zero i h e = absurd (let z : ⊥ = omega arith in z)
tally_some t (suc k) i h e =
    cases (same? i k)
    (λ d. omega (arith, ap bit (ap t (sym d) ∙ e)))
    (λ n. omega (arith, tally_some t k i (omega arith) e))

-- where at most one passes, two that pass are the same
tally_one : (t : ℕ → Bool) (k i j : ℕ) → tally t k ≤ 1 → i < k → j < k → t i ≡ true → t j ≡ true → i ≡ j
unfolding tally
tally_one t zero i j l h g e d = absurd (let z : ⊥ = omega arith in z)
tally_one t (suc k) i j l h g e d =
    cases (same? i k)
    (λ a. cases (same? j k)
    (λ b. a ∙ sym b)
    (λ b. absurd (let z : ⊥ = omega (arith, ap bit (ap t (sym a) ∙ e), tally_some t k j (omega arith) d) in z)))
    (λ a. cases (same? j k)
    (λ b. absurd (let z : ⊥ = omega (arith, ap bit (ap t (sym b) ∙ d), tally_some t k i (omega arith) e) in z))
    (λ b. tally_one t k i j (omega arith) (omega arith) (omega arith) e d))

-- some number that passes, where there is one
tally_found : (t : ℕ → Bool) (k : ℕ) → 0 < tally t k → (i : ℕ) × (i < k) × (t i ≡ true)
unfolding tally
tally_found t zero h = absurd (let z : ⊥ = omega arith in z)
tally_found t (suc k) h =
    cases (either (t k))
    (λ y. (k, omega arith, y))
    (λ n. let (i, l, e) = tally_found t k (omega (arith, ap bit n)) in (i, omega arith, e))

pub tally_full : (t : ℕ → Bool) (k : ℕ) → ((i : ℕ) → i < k → t i ≡ true) → tally t k ≡ k
unfolding tally
tally_full t zero h = refl
tally_full t (suc k) h = omega (arith, ap bit (h k (omega arith)), tally_full t k (λ i l. h i (omega arith)))

pub tally_less : (t : ℕ → Bool) (k i : ℕ) → i < k → t i ≡ false → tally t k < k
unfolding tally
tally_less t zero i h e = absurd (let z : ⊥ = omega arith in z)
tally_less t (suc k) i h e =
    cases (same? i k)
    (λ d. omega (arith, ap bit (ap t (sym d) ∙ e), tally_le t k))
    (λ n. cases (either (t k))
    (λ y. omega (arith, ap bit y, tally_less t k i (omega arith) e))
    (λ y. omega (arith, ap bit y, tally_less t k i (omega arith) e)))

-- ── the row that is found ──

-- a row has the name l, for slot s
pub record Carried (X : Titles) (l : List ℕ) (s : ℕ) : Type 0 where
  pub row : ℕ
  pub room : row < 32
  pub owner : X.owner row ≡ suc s
  pub text : X.text row ≡ l

-- two rows in use have different names
abbrev pub Different : Titles → Type 0
Different X = (i j : ℕ) → i < 32 → j < 32 → 0 < X.owner i → 0 < X.owner j → X.text i ≡ X.text j → i ≡ j

-- a link leads somewhere, or nowhere
link? : (n : ℕ) → ((i : ℕ) × (n ≡ suc i)) ⊎ (n ≡ 0)
link? zero = inr refl
link? (suc i) = inl (i, refl)

module _ (X : Titles) (l : List ℕ) where
  says_carries : (i : ℕ) → Says (carries X l i) ((0 < X.owner i) × (X.text i ≡ l))
  unfolding carries
  says_carries i = says_lt 0 (X.owner i) & says_name (X.text i) l

  pub row_found : (i : ℕ) → row_of X l ≡ suc i → (i < 32) × (0 < X.owner i) × (X.text i ≡ l)
  unfolding row_of
  row_found i e =
      let (c, a, b) = seek_found (carries X l) 32 0 i e in
      let (o, t) = (says_carries i).holds c in
      (omega arith, o, t)

  pub row_none : row_of X l ≡ 0 → (i : ℕ) → i < 32 → 0 < X.owner i → X.text i ≡ l → ⊥
  unfolding row_of
  row_none e i h o t = false≢true (sym (seek_none (carries X l) 32 0 i e (omega arith) (omega arith)) ∙ (says_carries i).passes (o, t))

  pub row? : ((i : ℕ) × (row_of X l ≡ suc i)) ⊎ (row_of X l ≡ 0)
  row? = link? (row_of X l)

  pub row_is : Different X → (i : ℕ) → i < 32 → 0 < X.owner i → X.text i ≡ l → row_of X l ≡ suc i
  row_is D i h o t =
      cases row?
      (λ w.
      let (j, e) = w in
      let (k, p, q) = row_found j e in
      e ∙ ap suc (D j i k h p o (q ∙ sym t)))
      (λ e. absurd (row_none e i h o t))

  pub owner_carried : (s : ℕ) → owner_of X l ≡ suc s → Carried X l s
  unfolding owner_of
  owner_carried s e =
      let (i, f, o) = via_is X.owner (row_of X l) s e in
      let (k, p, q) = row_found i f in
      record { row = i; room = k; owner = o; text = q }

  -- the owner of the row that is found
  pub owner_from : (i s : ℕ) → row_of X l ≡ suc i → X.owner i ≡ suc s → owner_of X l ≡ suc s
  unfolding owner_of
  owner_from i s e o = ap (via X.owner) e ∙ via_suc X.owner i ∙ o

  pub carried_owner : Different X → (s : ℕ) → Carried X l s → owner_of X l ≡ suc s
  carried_owner D s c = owner_from c.row s (row_is D c.row c.room (omega (arith, c.owner)) c.text) c.owner

  -- THE ROW THAT IS FOUND leads to slot s exactly where a row has that name for s
  pub owner_iff : Different X → (s : ℕ) → (owner_of X l ≡ suc s) ↔ Carried X l s
  owner_iff D s = (owner_carried s, carried_owner D s)

  -- a name is not in use exactly where no slot carries it
  pub row_carried : (i : ℕ) → row_of X l ≡ suc i → (s : ℕ) × Carried X l s
  row_carried i e =
      let (k, p, q) = row_found i e in
      let (s, o) = pos (X.owner i) p in
      (s, record { row = i; room = k; owner = o; text = q })

  pub none_carried : row_of X l ≡ 0 → (s : ℕ) → Carried X l s → ⊥
  none_carried e s c = row_none e c.row c.room (omega (arith, c.owner)) c.text

-- ── an empty row ──

module _ (X : Titles) where
  pub empty_found : (i : ℕ) → empty_row X ≡ suc i → (i < 32) × (X.owner i ≡ 0)
  unfolding empty_row
  empty_found i e =
      let (c, a, b) = seek_found (λ i. eqb (X.owner i) 0) 32 0 i e in
      (omega arith, eqb-true (X.owner i) 0 c)

  pub empty_none : empty_row X ≡ 0 → (i : ℕ) → i < 32 → 0 < X.owner i
  unfolding empty_row
  empty_none e i h =
      let n = eqb-false (X.owner i) 0 (seek_none (λ i. eqb (X.owner i) 0) 32 0 i e (omega arith) (omega arith)) in
      omega arith

  pub empty? : ((i : ℕ) × (empty_row X ≡ suc i)) ⊎ (empty_row X ≡ 0)
  empty? = link? (empty_row X)

-- ── how many rows a slot owns ──

module _ (X : Titles) (s : ℕ) where
  pub owned_none : ((i : ℕ) → i < 32 → X.owner i ≡ suc s → ⊥) → owned X s ≡ 0
  unfolding owned
  owned_none h = tally_none (λ i. eqb (X.owner i) (suc s)) 32 (λ i l. ne_eqb (X.owner i) (suc s) (h i l))

  pub owned_some : (i : ℕ) → i < 32 → X.owner i ≡ suc s → 0 < owned X s
  unfolding owned
  owned_some i h e = tally_some (λ i. eqb (X.owner i) (suc s)) 32 i h (eq-eqb (X.owner i) (suc s) e)

  pub owned_one : owned X s ≤ 1 → (i j : ℕ) → i < 32 → j < 32 → X.owner i ≡ suc s → X.owner j ≡ suc s → i ≡ j
  unfolding owned
  owned_one l i j h g e d =
      tally_one (λ i. eqb (X.owner i) (suc s)) 32 i j l h g (eq-eqb (X.owner i) (suc s) e) (eq-eqb (X.owner j) (suc s) d)

  pub owned_found : 0 < owned X s → (i : ℕ) × (i < 32) × (X.owner i ≡ suc s)
  unfolding owned
  owned_found h =
      let (i, l, e) = tally_found (λ i. eqb (X.owner i) (suc s)) 32 h in
      (i, l, eqb-true (X.owner i) (suc s) e)

-- the same owners, the same counts
pub owned_same : (X Y : Titles) (s t : ℕ) → ((i : ℕ) → i < 32 → (X.owner i ≡ suc s) ↔ (Y.owner i ≡ suc t)) → owned X s ≡ owned Y t
unfolding owned
owned_same X Y s t h =
    tally_ext (λ i. eqb (X.owner i) (suc s)) (λ i. eqb (Y.owner i) (suc t)) 32
    (λ i l. cases (same? (X.owner i) (suc s))
    (λ e. eq-eqb (X.owner i) (suc s) e ∙ sym (eq-eqb (Y.owner i) (suc t) ((h i l).0 e)))
    (λ n. ne_eqb (X.owner i) (suc s) n ∙ sym (ne_eqb (Y.owner i) (suc t) (λ e. n ((h i l).1 e)))))

-- Y has one row more for s than X: row c
pub owned_more : (X Y : Titles) (s c : ℕ) → c < 32 → (X.owner c ≡ suc s → ⊥) → Y.owner c ≡ suc s →
    ((i : ℕ) → (i ≡ c → ⊥) → Y.owner i ≡ X.owner i) → owned Y s ≡ suc (owned X s)
unfolding owned
owned_more X Y s c h n e o =
    tally_more (λ i. eqb (X.owner i) (suc s)) (λ i. eqb (Y.owner i) (suc s)) c 32 h
    (ne_eqb (X.owner c) (suc s) n) (eq-eqb (Y.owner c) (suc s) e) (λ b d. ap (λ k. eqb k (suc s)) (o b d))

-- ── a name goes on ──

module _ (X : Titles) (i s : ℕ) (l : List ℕ) where
  pub named_owner : (named X i s l).owner i ≡ suc s
  unfolding named
  named_owner = put_same X.owner i (suc s)

  pub named_text : (named X i s l).text i ≡ l
  unfolding named
  named_text = put_same X.text i l

  pub named_owners : (j : ℕ) → (j ≡ i → ⊥) → (named X i s l).owner j ≡ X.owner j
  unfolding named
  named_owners j n = put_other X.owner i (suc s) j n

  pub named_texts : (j : ℕ) → (j ≡ i → ⊥) → (named X i s l).text j ≡ X.text j
  unfolding named
  named_texts j n = put_other X.text i l j n

  pub named_carried : i < 32 → X.owner i ≡ 0 → (k : List ℕ) (t : ℕ) → Carried (named X i s l) k t ↔ (((l ≡ k) × (s ≡ t)) ⊎ Carried X k t)
  named_carried h e k t = (
    λ c. cases (same? c.row i)
        (λ d.
        let so : suc t ≡ suc s = sym c.owner ∙ ap (named X i s l).owner d ∙ named_owner in
        inl (sym named_text ∙ ap (named X i s l).text (sym d) ∙ c.text, omega arith))
        (λ n. inr (record { row = c.row; room = c.room; owner = sym (named_owners c.row n) ∙ c.owner; text = sym (named_texts c.row n) ∙ c.text })),
    λ w. cases w
        (λ (a : (l ≡ k) × (s ≡ t)). record { row = i; room = h; owner = named_owner ∙ ap suc a.1; text = named_text ∙ a.0 })
        (λ (c : Carried X k t).
        let n : c.row ≡ i → ⊥ = λ d. let z : ⊥ = omega (arith, c.owner, ap X.owner d) in z in
        record { row = c.row; room = c.room; owner = named_owners c.row n ∙ c.owner; text = named_texts c.row n ∙ c.text }),
  )

-- ── a name is taken off ──

module _ (X : Titles) (i : ℕ) where
  pub off_owner : (unnamed X i).owner i ≡ 0
  unfolding unnamed
  off_owner = put_same X.owner i 0

  pub off_owners : (j : ℕ) → (j ≡ i → ⊥) → (unnamed X i).owner j ≡ X.owner j
  unfolding unnamed
  off_owners j n = put_other X.owner i 0 j n

  pub off_texts : (j : ℕ) → (j ≡ i → ⊥) → (unnamed X i).text j ≡ X.text j
  unfolding unnamed
  off_texts j n = put_other X.text i [] j n

  -- a row in use afterwards was so before, and it is another one
  pub off_other : (j s : ℕ) → (unnamed X i).owner j ≡ suc s → (j ≡ i → ⊥) × (X.owner j ≡ suc s)
  off_other j s e =
      let n : j ≡ i → ⊥ = λ d. let z : ⊥ = omega (arith, off_owner, ap (unnamed X i).owner d) in z in
      (n, sym (off_owners j n) ∙ e)

  pub off_carried : Different X → i < 32 → 0 < X.owner i → (k : List ℕ) (t : ℕ) →
      Carried (unnamed X i) k t ↔ (Carried X k t × (k ≡ X.text i → ⊥))
  off_carried D h o k t = (
    λ c.
        let (n, e) = off_other c.row t c.owner in
        let f : X.text c.row ≡ k = sym (off_texts c.row n) ∙ c.text in (
          record { row = c.row; room = c.room; owner = e; text = f },
          λ d. n (D c.row i c.room h (omega arith) o (f ∙ d)),
        ),
    λ (w : Carried X k t × (k ≡ X.text i → ⊥)).
        let c = w.0 in
        let n : c.row ≡ i → ⊥ = λ d. w.1 (sym c.text ∙ ap X.text d) in
        record { row = c.row; room = c.room; owner = off_owners c.row n ∙ c.owner; text = off_texts c.row n ∙ c.text },
  )

-- ── the names of r move to f ──

module _ (X : Titles) (r f : ℕ) where
  pub moved_owner : (i : ℕ) → X.owner i ≡ suc r → (moved X r f).owner i ≡ suc f
  unfolding moved
  moved_owner i e = rw (eq-eqb (X.owner i) (suc r) e)

  pub moved_owners : (i : ℕ) → (X.owner i ≡ suc r → ⊥) → (moved X r f).owner i ≡ X.owner i
  unfolding moved
  moved_owners i n = rw (ne_eqb (X.owner i) (suc r) n)

  pub moved_texts : (i : ℕ) → (moved X r f).text i ≡ X.text i
  unfolding moved
  moved_texts i = refl

  -- whose a row was that is t's afterwards
  pub of_moved : (i t : ℕ) → (moved X r f).owner i ≡ suc t → ((t ≡ f) × (X.owner i ≡ suc r)) ⊎ ((t ≡ r → ⊥) × (X.owner i ≡ suc t))
  of_moved i t e =
      cases (same? (X.owner i) (suc r))
      (λ d. inl (let z : t ≡ f = omega (arith, moved_owner i d) in z, d))
      (λ n.
      let g : X.owner i ≡ suc t = sym (moved_owners i n) ∙ e in
      inr (λ d. n (g ∙ ap suc d), g))

  pub moved_in_use : (i : ℕ) → (0 < (moved X r f).owner i) ↔ (0 < X.owner i)
  moved_in_use i =
      cases (same? (X.owner i) (suc r))
      (λ d. (λ h. omega arith, λ h. omega (arith, moved_owner i d)))
      (λ n. (λ h. omega (arith, moved_owners i n), λ h. omega (arith, moved_owners i n)))

  pub moved_carried : (k : List ℕ) (t : ℕ) → Carried (moved X r f) k t ↔ (((t ≡ f) × Carried X k r) ⊎ ((t ≡ r → ⊥) × Carried X k t))
  moved_carried k t = (
    λ c. cases (of_moved c.row t c.owner)
        (λ w. inl (w.0, record { row = c.row; room = c.room; owner = w.1; text = sym (moved_texts c.row) ∙ c.text }))
        (λ w. inr (w.0, record { row = c.row; room = c.room; owner = w.1; text = sym (moved_texts c.row) ∙ c.text })),
    λ w. cases w
        (λ (a : (t ≡ f) × Carried X k r).
        let c = a.1 in
        record { row = c.row; room = c.room; owner = moved_owner c.row c.owner ∙ ap suc (sym a.0); text = moved_texts c.row ∙ c.text })
        (λ (a : (t ≡ r → ⊥) × Carried X k t).
        let c = a.1 in
        let n : X.owner c.row ≡ suc r → ⊥ = λ d. a.0 (let z : t ≡ r = omega (arith, c.owner) in z) in
        record { row = c.row; room = c.room; owner = moved_owners c.row n ∙ c.owner; text = moved_texts c.row ∙ c.text }),
  )
