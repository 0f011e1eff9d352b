-- The book's names and the store's rows say the same after each step.
use mathlib.Core.Path.{◌≡◌, refl, sym, ap, ◌∙◌}
use mathlib.Core.Logic.{◌⊎◌, inl, inr, ◌↔◌}
use mathlib.Core.Bool.{true, false≢true}
use mathlib.Core.List.{List, [], ◌∷◌}
use Prim.Native.Nat.{ℕ, suc, ◌<◌}
use native.Mathlib.Omega.{arith}
use lib.Dec.{ltb}
use borrow.Author.Tests.{eq-eqb, ne_eqb, ltb-true, ltb-false}
use Rattle.answer.proofs.Cases.{cases, either, same?}
use Rattle.model.specs.Table.{put}
use Rattle.model.specs.View.{View}
use Rattle.model.specs.Sound.{Sound}
use Rattle.model.specs.SoundMeans.{Live}
use Rattle.model.specs.Names.{Titles, ValidName, no_titles, same_name, row_of, owner_of, named, unnamed, moved, one_more, one_less, count_moved}
use Rattle.model.specs.NamesAgree.{NamesAgree}
use Rattle.model.specs.Book.{NameOn, named_in, name_off, names_moved}
use Rattle.model.specs.NameBook.{HasName, Unknown, OnceNamed}
use Rattle.model.proofs.NameBytes.{says_name, same_not}
use Rattle.model.proofs.NameRows.{Carried, owner_carried, carried_owner, none_carried, row_found, named_carried, off_carried, moved_carried}
use Rattle.model.proofs.NameRows.{owned_found, owned_some}
use Rattle.model.proofs.NameSteps.{Stays, Comes, Seals, Leaves, not_empty, fresh_names, agree_stays, agree_comes, agree_seals, agree_leaves}
use Rattle.model.proofs.NameSteps.{agree_named, agree_unnamed, gone_owns}

-- ── the book's steps ──

-- U TAKES OFF that name and no other
pub off_has : (ps : List NameOn) (l k : List ℕ) (n : ℕ) → HasName (name_off ps l) k n ↔ (HasName ps k n × (k ≡ l → ⊥))
unfolding name_off
off_has [] l k n = (λ h. absurd h, λ (w : ⊥ × (k ≡ l → ⊥)). w.0)
off_has (p ∷ ps) l k n =
    let ih = off_has ps l k n in
    cases (either (same_name p.0 l))
    (λ y. rw (y, name_off) (
      λ h. (inr (ih.0 h).0, (ih.0 h).1),
      λ (w : HasName (p ∷ ps) k n × (k ≡ l → ⊥)). cases w.0
          (λ a. absurd (w.1 (sym a.0 ∙ (says_name p.0 l).holds y)))
          (λ h. ih.1 (h, w.1)),
    ))
    (λ y. rw (y, name_off) (
      λ (h : HasName (p ∷ name_off ps l) k n). cases h
          (λ a. (inl a, λ d. same_not p.0 l y (a.0 ∙ d)))
          (λ g. (inr (ih.0 g).0, (ih.0 g).1)),
      λ (w : HasName (p ∷ ps) k n × (k ≡ l → ⊥)). cases w.0 (λ a. inl a) (λ h. inr (ih.1 (h, w.1))),
    ))

-- THE SEAL MOVES, in the book: every name that was on r is on m, and no other name moved
abbrev Passed : List NameOn → (r m : ℕ) → List ℕ → ℕ → Type 0
Passed ps r m k n = ((n ≡ m) × HasName ps k r) ⊎ ((n ≡ r → ⊥) × HasName ps k n)

-- a name more in the book
passed_more : (p : NameOn) (ps : List NameOn) (r m : ℕ) (k : List ℕ) (n : ℕ) → Passed ps r m k n → Passed (p ∷ ps) r m k n
passed_more p ps r m k n w = cases w (λ a. inl (a.0, inr a.1)) (λ a. inr (a.0, inr a.1))

pub moved_has : (ps : List NameOn) (r m : ℕ) (k : List ℕ) (n : ℕ) → HasName (names_moved ps r m) k n ↔ Passed ps r m k n
unfolding names_moved
moved_has [] r m k n = (λ h. absurd h, λ w. cases w (λ (a : (n ≡ m) × ⊥). a.1) (λ (a : (n ≡ r → ⊥) × ⊥). a.1))
moved_has (p ∷ ps) r m k n =
    let ih = moved_has ps r m k n in
    let more : HasName (names_moved ps r m) k n → Passed (p ∷ ps) r m k n = λ h. passed_more p ps r m k n (ih.0 h) in
    cases (same? p.1 r)
    (λ d. rw (eq-eqb p.1 r d, names_moved) (
      λ (h : ((p.0 ≡ k) × (m ≡ n)) ⊎ HasName (names_moved ps r m) k n). cases h (λ a. inl (sym a.1, inl (a.0, d))) more,
      λ (w : Passed (p ∷ ps) r m k n). cases w
          (λ (a : (n ≡ m) × HasName (p ∷ ps) k r). cases a.1 (λ b. inl (b.0, sym a.0)) (λ h. inr (ih.1 (inl (a.0, h)))))
          (λ (a : (n ≡ r → ⊥) × HasName (p ∷ ps) k n). cases a.1 (λ b. absurd (a.0 (sym b.1 ∙ d))) (λ h. inr (ih.1 (inr (a.0, h))))),
    ))
    (λ d. rw (ne_eqb p.1 r d, names_moved) (
      λ (h : ((p.0 ≡ k) × (p.1 ≡ n)) ⊎ HasName (names_moved ps r m) k n). cases h (λ a. inr (λ g. d (a.1 ∙ g), inl a)) more,
      λ (w : Passed (p ∷ ps) r m k n). cases w
          (λ (a : (n ≡ m) × HasName (p ∷ ps) k r). cases a.1 (λ b. absurd (d b.1)) (λ h. inr (ih.1 (inl (a.0, h)))))
          (λ (a : (n ≡ r → ⊥) × HasName (p ∷ ps) k n). cases a.1 (λ b. inl b) (λ h. inr (ih.1 (inr (a.0, h))))),
    ))

-- a record is named exactly where some name is on it
pub named_in_lem : (ps : List NameOn) (n : ℕ) → (named_in ps n ≡ true) ↔ ((l : List ℕ) × HasName ps l n)
unfolding named_in
named_in_lem [] n = (λ e. absurd (false≢true e), λ (w : (l : List ℕ) × ⊥). absurd w.1)
named_in_lem (p ∷ ps) n =
    let ih = named_in_lem ps n in
    cases (same? p.1 n)
    (λ d. rw (eq-eqb p.1 n d, named_in) (λ e. (p.0, inl (refl, d)), λ w. refl))
    (λ d. rw (ne_eqb p.1 n d, named_in) (
      λ e. let (l, h) = ih.0 e in (l, inr h),
      λ (w : (l : List ℕ) × HasName (p ∷ ps) l n).
          let (l, h) = w in
          cases h (λ (a : (p.0 ≡ l) × (p.1 ≡ n)). absurd (d a.1)) (λ g. ih.1 (l, g)),
    ))

once_off : (ps : List NameOn) (l : List ℕ) → OnceNamed ps → OnceNamed (name_off ps l)
unfolding name_off
once_off [] l o = tt
once_off (p ∷ ps) l o =
    cases (either (same_name p.0 l))
    (λ y. rw (y, name_off) (once_off ps l o.1))
    (λ y. rw (y, name_off) (λ n h. o.0 n ((off_has ps l p.0 n).0 h).0, once_off ps l o.1))

once_moved : (ps : List NameOn) (r m : ℕ) → OnceNamed ps → OnceNamed (names_moved ps r m)
unfolding names_moved
once_moved [] r m o = tt
once_moved (p ∷ ps) r m o = (
  λ n h. cases ((moved_has ps r m p.0 n).0 h)
      (λ (a : (n ≡ m) × HasName ps p.0 r). o.0 r a.1)
      (λ (a : (n ≡ r → ⊥) × HasName ps p.0 n). o.0 n a.1),
  once_moved ps r m o.1,
)

-- ── the two sides agree ──

pub record SidesAgree (K : View) (X : Titles) (names : ℕ → ℕ) (ps : List NameOn) : Type 0 where
  pub rows : NamesAgree K X names
  -- the book has a name on n exactly where the row that is found for it leads to the record of number n; for any bytes
  pub told : (l : List ℕ) (n : ℕ) → HasName ps l n ↔ ((s : ℕ) × (owner_of X l ≡ suc s) × (K.num s ≡ n))
  pub once : OnceNamed ps

-- a row has the name l, for the slot of the record of number n
abbrev pub OnRecord : View → Titles → List ℕ → ℕ → Type 0
OnRecord K X l n = (s : ℕ) × Carried X l s × (K.num s ≡ n)

-- the same by any row
abbrev Tells : View → Titles → List NameOn → Type 0
Tells K X ps = (l : List ℕ) (n : ℕ) → HasName ps l n ↔ OnRecord K X l n

sides_of : {K : View} {X : Titles} {names : ℕ → ℕ} {ps : List NameOn} → NamesAgree K X names → Tells K X ps → OnceNamed ps → SidesAgree K X names ps
sides_of {K} {X} N h o = record {
  rows = N;
  told = λ l n. (
    λ a. let (s, c, e) = (h l n).0 a in (s, carried_owner X l N.different s c, e),
    λ (w : (s : ℕ) × (owner_of X l ≡ suc s) × (K.num s ≡ n)). let (s, c, e) = w in (h l n).1 (s, owner_carried X l s c, e),
  );
  once = o;
}

pub on_record : {K : View} {X : Titles} {names : ℕ → ℕ} {ps : List NameOn} → SidesAgree K X names ps →
    (l : List ℕ) (n : ℕ) → HasName ps l n ↔ OnRecord K X l n
on_record {K} {X} A l n = (
  λ a. let (s, c, e) = (A.told l n).0 a in (s, owner_carried X l s c, e),
  λ (w : OnRecord K X l n). let (s, c, e) = w in (A.told l n).1 (s, carried_owner X l A.rows.different s c, e),
)

-- a store with no records
pub sides_fresh : (K : View) (names : ℕ → ℕ) → ((s : ℕ) → K.num s ≡ 0) → SidesAgree K no_titles names []
unfolding no_titles
sides_fresh K names e =
    sides_of (fresh_names K names e)
    (λ l n. (λ h. absurd h, λ (w : OnRecord K no_titles l n). let (s, c, d) = w in absurd (let z : ⊥ = omega (arith, c.owner) in z)))
    tt

module _ {K : View} {X : Titles} {names : ℕ → ℕ} {ps : List NameOn} (A : SidesAgree K X names ps) where
  -- the slot of a row is live
  pub carried_live : (l : List ℕ) (s : ℕ) → Carried X l s → Live K s
  carried_live l s c = A.rows.live c.row s c.room c.owner

  -- where the numbers of the slots that carry names stay
  same_told : (L : View) → ((l : List ℕ) (s : ℕ) → Carried X l s → L.num s ≡ K.num s) → Tells L X ps
  same_told L h l n = (
    λ a. let (s, c, e) = (on_record A l n).0 a in (s, c, h l s c ∙ e),
    λ (w : OnRecord L X l n). let (s, c, e) = w in (on_record A l n).1 (s, c, sym (h l s c) ∙ e),
  )

  pub sides_stay : {L : View} → Stays K L → SidesAgree L X names ps
  sides_stay {L} T = sides_of (agree_stays A.rows T) (same_told L (λ l s c. T.num s)) A.once

  pub sides_come : {L : View} {f : ℕ} → Comes K L f → SidesAgree L X (put names f 0) ps
  sides_come {L} {f} T =
      sides_of (agree_comes A.rows T) (same_told L (λ l s c. T.num s (not_empty K s f (carried_live l s c) T.empty))) A.once

  pub sides_leave : {L : View} {d : ℕ} → Leaves K L d → names d ≡ 0 → SidesAgree L X names ps
  sides_leave {L} T z =
      sides_of (agree_leaves A.rows T z)
      (same_told L (λ l s c. T.num s (λ e. gone_owns A.rows T z c.row c.room (c.owner ∙ ap suc e)))) A.once

  -- S: the names on r's number are on the new record's
  module _ {L : View} {r f : ℕ} (T : Seals K L r f) (apart : (s t : ℕ) → Live K s → K.num s ≡ K.num t → s ≡ t) where
    stays : (k : List ℕ) (t : ℕ) → Carried X k t → L.num t ≡ K.num t
    stays k t c = T.num t (not_empty K t f (carried_live k t c) T.empty)

    seal_tells : Tells L (moved X r f) (names_moved ps (K.num r) (L.num f))
    seal_tells k n = (
      λ h. cases ((moved_has ps (K.num r) (L.num f) k n).0 h)
          (λ (a : (n ≡ L.num f) × HasName ps k (K.num r)).
          let (t, c, e) = (on_record A k (K.num r)).0 a.1 in
          let b : Carried X k r = rw (apart t r (carried_live k t c) e) at c in
          (f, (moved_carried X r f k f).1 (inl (refl, b)), sym a.0))
          (λ (a : (n ≡ K.num r → ⊥) × HasName ps k n).
          let (t, c, e) = (on_record A k n).0 a.1 in
          (t, (moved_carried X r f k t).1 (inr (λ d. a.0 (sym e ∙ ap K.num d), c)), stays k t c ∙ e)),
      λ (w : OnRecord L (moved X r f) k n).
          let (t, c, e) = w in
          (moved_has ps (K.num r) (L.num f) k n).1 (cases ((moved_carried X r f k t).0 c)
          (λ (a : (t ≡ f) × Carried X k r). inl (sym e ∙ ap L.num a.0, (on_record A k (K.num r)).1 (r, a.1, refl)))
          (λ (a : (t ≡ r → ⊥) × Carried X k t).
          let g : K.num t ≡ n = sym (stays k t a.1) ∙ e in
          inr (λ d. a.0 (apart t r (carried_live k t a.1) (g ∙ d)), (on_record A k n).1 (t, a.1, g)))),
    )

    pub sides_seal : SidesAgree L (moved X r f) (count_moved names r f) (names_moved ps (K.num r) (L.num f))
    sides_seal = sides_of (agree_seals A.rows T) seal_tells (once_moved ps (K.num r) (L.num f) A.once)

  -- a name not in use is unknown to the book
  pub unused_unknown : (l : List ℕ) → row_of X l ≡ 0 → Unknown ps l
  unused_unknown l u n h = let (s, c, e) = (on_record A l n).0 h in none_carried X l u s c

  -- N
  pub sides_named : (i s : ℕ) (l : List ℕ) → i < 32 → X.owner i ≡ 0 → Live K s → ValidName l → row_of X l ≡ 0 → (0 < K.is_open s → names s ≡ 0) →
      SidesAgree K (named X i s l) (one_more names s) ((l, K.num s) ∷ ps)
  sides_named i s l h e a v u o =
      sides_of (agree_named A.rows i s l h e a v u o)
      (λ k n. (
        λ (w : ((l ≡ k) × (K.num s ≡ n)) ⊎ HasName ps k n). cases w
            (λ b. (s, (named_carried X i s l h e k s).1 (inl (b.0, refl)), b.1))
            (λ g. let (t, c, d) = (on_record A k n).0 g in (t, (named_carried X i s l h e k t).1 (inr c), d)),
        λ (w : OnRecord K (named X i s l) k n).
            let (t, c, d) = w in
            cases ((named_carried X i s l h e k t).0 c)
            (λ (b : (l ≡ k) × (s ≡ t)). inl (b.0, ap K.num b.1 ∙ d))
            (λ (b : Carried X k t). inr ((on_record A k n).1 (t, b, d))),
      ))
      (unused_unknown l u, A.once)

  -- U
  pub sides_unnamed : (i s : ℕ) (l : List ℕ) → row_of X l ≡ suc i → X.owner i ≡ suc s → SidesAgree K (unnamed X i) (one_less names s) (name_off ps l)
  sides_unnamed i s l e o =
      let (h, p, t) = row_found X l i e in
      sides_of (agree_unnamed A.rows i s h o)
      (λ k n. (
        λ g.
            let (a, b) = (off_has ps l k n).0 g in
            let (u, c, d) = (on_record A k n).0 a in
            (u, (off_carried X i A.rows.different h p k u).1 (c, λ q. b (q ∙ t)), d),
        λ (w : OnRecord K (unnamed X i) k n).
            let (u, c, d) = w in
            let (c', q) = (off_carried X i A.rows.different h p k u).0 c in
            (off_has ps l k n).1 ((on_record A k n).1 (u, c', d), λ g. q (g ∙ sym t)),
      ))
      (once_off ps l A.once)

  -- ── the count of a record ──

  -- THE COUNT SAYS WHETHER THE BOOK NAMES A RECORD (18)
  pub count_iff : Sound K → (s : ℕ) → Live K s → (0 < names s) ↔ ((l : List ℕ) × HasName ps l (K.num s))
  count_iff S s a = (
    λ h.
        let (i, g, o) = owned_found X s (omega (arith, A.rows.counted s a)) in
        (X.text i, (on_record A (X.text i) (K.num s)).1 (s, record { row = i; room = g; owner = o; text = refl }, refl)),
    λ (w : (l : List ℕ) × HasName ps l (K.num s)).
        let (l, h) = w in
        let (t, c, e) = (on_record A l (K.num s)).0 h in
        let d : t ≡ s = S.links.apart t s (carried_live l t c) e in
        omega (arith, A.rows.counted s a, owned_some X s c.row c.room (c.owner ∙ ap suc d)),
  )

  -- as tests, of the book and of the store
  pub named_alike : Sound K → (s : ℕ) → Live K s → named_in ps (K.num s) ≡ ltb 0 (names s)
  named_alike S s a =
      let i = named_in_lem ps (K.num s) in
      let j = count_iff S s a in
      cases (either (ltb 0 (names s)))
      (λ y. i.1 (j.0 (ltb-true 0 (names s) y)) ∙ sym y)
      (λ n. cases (either (named_in ps (K.num s)))
      (λ y. absurd (let z : ⊥ = omega (arith, j.1 (i.0 y), ltb-false 0 (names s) n) in z))
      (λ y. y ∙ sym n))
