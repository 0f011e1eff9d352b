-- Each step keeps the names sound. Of the store a step is told by what names depend on: the numbers and the open marks of the slots.
use mathlib.Core.Path.{◌≡◌, refl, sym, ap, ◌∙◌}
use mathlib.Core.Logic.{◌⊎◌, inl, inr}
use mathlib.Core.List.{List}
use Prim.Native.Nat.{ℕ, suc, pred, ◌<◌}
use native.Mathlib.Omega.{arith}
use Rattle.answer.proofs.Cases.{cases, same?}
use Rattle.model.specs.Table.{put}
use Rattle.model.specs.View.{View}
use Rattle.model.specs.SoundMeans.{Live}
use Rattle.model.specs.Names.{Titles, ValidName, no_titles, row_of, named, unnamed, moved, one_more, one_less, count_moved}
use Rattle.model.specs.NamesAgree.{owned, NamesAgree}
use Rattle.model.proofs.TabFacts.{put_at, put_other}
use Rattle.model.proofs.NameRows.{row_none, owned_none, owned_some, owned_same, owned_more, named_owner, named_owners, named_text, named_texts}
use Rattle.model.proofs.NameRows.{off_owner, off_owners, off_texts, off_other, moved_owner, moved_owners, moved_texts, of_moved, moved_in_use}

-- ── the steps of the store ──

-- K is the store before, L the store after. No record comes, goes or is sealed (W, E, and the calls that change no record)
pub record Stays (K L : View) : Type 0 where
  pub num : (s : ℕ) → L.num s ≡ K.num s
  pub is_open : (s : ℕ) → L.is_open s ≡ K.is_open s

-- a record comes to the empty slot f (B, F)
pub record Comes (K L : View) (f : ℕ) : Type 0 where
  pub empty : K.num f ≡ 0
  pub new : Live L f
  pub num : (s : ℕ) → (s ≡ f → ⊥) → L.num s ≡ K.num s
  pub is_open : (s : ℕ) → (s ≡ f → ⊥) → L.is_open s ≡ K.is_open s

-- the open record in slot r is sealed, and a record comes to the empty slot f (S)
pub record Seals (K L : View) (r f : ℕ) : Type 0 where
  pub empty : K.num f ≡ 0
  pub live : Live K r
  pub was_open : 0 < K.is_open r
  pub new : Live L f
  pub sealed : L.is_open r ≡ 0
  pub num : (s : ℕ) → (s ≡ f → ⊥) → L.num s ≡ K.num s
  pub is_open : (s : ℕ) → (s ≡ f → ⊥) → (s ≡ r → ⊥) → L.is_open s ≡ K.is_open s

-- the record in slot d goes (D, and each delete of a window)
pub record Leaves (K L : View) (d : ℕ) : Type 0 where
  pub live : Live K d
  pub gone : L.num d ≡ 0
  pub num : (s : ℕ) → (s ≡ d → ⊥) → L.num s ≡ K.num s
  pub is_open : (s : ℕ) → (s ≡ d → ⊥) → L.is_open s ≡ K.is_open s

-- a live slot is no empty one
pub not_empty : (K : View) (s f : ℕ) → Live K s → K.num f ≡ 0 → s ≡ f → ⊥
not_empty K s f h e d = let z : ⊥ = omega (arith, ap K.num d) in z

-- ── a fresh store has no names ──

pub fresh_names : (K : View) (names : ℕ → ℕ) → ((s : ℕ) → K.num s ≡ 0) → NamesAgree K no_titles names
unfolding no_titles
fresh_names K names e = record {
  live = λ i s h o. absurd (let z : ⊥ = omega arith in z);
  valid = λ i s h o. absurd (let z : ⊥ = omega arith in z);
  different = λ i j h g o p t. absurd (let z : ⊥ = omega arith in z);
  counted = λ s h. absurd (let z : ⊥ = omega (arith, e s) in z);
  open_one = λ s h o. absurd (let z : ⊥ = omega (arith, e s) in z);
}

-- ── the steps keep the names sound ──

module _ {K : View} {X : Titles} {names : ℕ → ℕ} (N : NamesAgree K X names) where
  pub agree_stays : {L : View} → Stays K L → NamesAgree L X names
  agree_stays {L} T = record {
    live = λ i s h e. let l : Live K s = N.live i s h e in omega (arith, T.num s);
    valid = N.valid;
    different = N.different;
    counted = λ s h. N.counted s (omega (arith, T.num s));
    open_one = λ s h o. N.open_one s (omega (arith, T.num s)) (omega (arith, T.is_open s));
  }

  -- an empty slot owns no row: what comes to it has no names
  pub empty_owns : (f : ℕ) → K.num f ≡ 0 → (i : ℕ) → i < 32 → X.owner i ≡ suc f → ⊥
  empty_owns f e i h o = omega (arith, N.live i f h o)

  pub agree_comes : {L : View} {f : ℕ} → Comes K L f → NamesAgree L X (put names f 0)
  agree_comes {L} {f} T =
      let old : (s : ℕ) → (s ≡ f → ⊥) → Live L s → Live K s = λ s n h. omega (arith, T.num s n) in
      record {
        live = λ i s h e.
            let l : Live K s = N.live i s h e in
            omega (arith, T.num s (not_empty K s f l T.empty));
        valid = N.valid;
        different = N.different;
        counted = λ s h. cases (same? s f)
            (λ d. put_at names f 0 s d ∙ sym (owned_none X s (λ i l o. empty_owns f T.empty i l (o ∙ ap suc d))))
            (λ n. put_other names f 0 s n ∙ N.counted s (old s n h));
        open_one = λ s h o. cases (same? s f)
            (λ d. omega (arith, put_at names f 0 s d))
            (λ n. omega (arith, put_other names f 0 s n, N.open_one s (old s n h) (omega (arith, T.is_open s n))));
      }

  -- S MOVES THE NAMES: those of r are f's
  module _ {L : View} {r f : ℕ} (T : Seals K L r f) where
    pub two_slots : r ≡ f → ⊥
    two_slots = not_empty K r f T.live T.empty

    pub count_sealed : count_moved names r f r ≡ 0
    unfolding count_moved
    count_sealed = put_at (put names f (names r)) r 0 r refl

    pub count_new : count_moved names r f f ≡ names r
    unfolding count_moved
    count_new = put_other (put names f (names r)) r 0 f (λ d. two_slots (sym d)) ∙ put_at names f (names r) f refl

    pub count_others : (s : ℕ) → (s ≡ r → ⊥) → (s ≡ f → ⊥) → count_moved names r f s ≡ names s
    unfolding count_moved
    count_others s n m = put_other (put names f (names r)) r 0 s n ∙ put_other names f (names r) s m

    sealed_live : (s : ℕ) → (s ≡ f → ⊥) → Live L s → Live K s
    sealed_live s n h = omega (arith, T.num s n)

    sealed_counted : (s : ℕ) → Live L s → count_moved names r f s ≡ owned (moved X r f) s
    sealed_counted s h =
        cases (same? s r)
        (λ d.
        ap (count_moved names r f) d ∙ count_sealed ∙
        sym (owned_none (moved X r f) s (λ i l o. cases (of_moved X r f i s o)
        (λ w. two_slots (sym d ∙ w.0))
        (λ w. w.0 d))))
        (λ n. cases (same? s f)
        (λ d.
        ap (count_moved names r f) d ∙ count_new ∙ N.counted r T.live ∙
        owned_same X (moved X r f) r s (λ i l. (
          λ e. moved_owner X r f i e ∙ ap suc (sym d),
          λ e. cases (of_moved X r f i s e) (λ w. w.1) (λ w. absurd (empty_owns f T.empty i l (w.1 ∙ ap suc d))),
        )))
        (λ m.
        count_others s n m ∙ N.counted s (sealed_live s m h) ∙
        owned_same X (moved X r f) s s (λ i l. (
          λ e. moved_owners X r f i (λ d. n (let z : s ≡ r = omega arith in z)) ∙ e,
          λ e. cases (of_moved X r f i s e) (λ w. absurd (m w.0)) (λ w. w.1),
        ))))

    pub agree_seals : NamesAgree L (moved X r f) (count_moved names r f)
    agree_seals = record {
      live = λ i s h e. cases (of_moved X r f i s e)
          (λ w. rw w.0 T.new)
          (λ w. let l : Live K s = N.live i s h w.1 in omega (arith, T.num s (not_empty K s f l T.empty)));
      valid = λ i s h e. cases (of_moved X r f i s e)
          (λ w. rw (moved_texts X r f i) (N.valid i r h w.1))
          (λ w. rw (moved_texts X r f i) (N.valid i s h w.1));
      different = λ i j h g o p t.
          N.different i j h g ((moved_in_use X r f i).0 o) ((moved_in_use X r f j).0 p) (sym (moved_texts X r f i) ∙ t ∙ moved_texts X r f j);
      counted = sealed_counted;
      open_one = λ s h o. cases (same? s r)
          (λ d. absurd (let z : ⊥ = omega (arith, T.sealed, ap L.is_open d) in z))
          (λ n. cases (same? s f)
          (λ d. omega (arith, ap (count_moved names r f) d, count_new, N.open_one r T.live T.was_open))
          (λ m. omega (arith, count_others s n m, N.open_one s (sealed_live s m h) (omega (arith, T.is_open s m n)))));
    }

  -- A RECORD THAT GOES HAS NO NAME: its slot owns no row
  module _ {L : View} {d : ℕ} (T : Leaves K L d) (z : names d ≡ 0) where
    pub gone_owns : (i : ℕ) → i < 32 → X.owner i ≡ suc d → ⊥
    gone_owns i h e = omega (arith, owned_some X d i h e, N.counted d T.live)

    stayed_live : (s : ℕ) → Live L s → Live K s
    stayed_live s h = cases (same? s d) (λ e. rw e T.live) (λ n. omega (arith, T.num s n))

    stayed : (s : ℕ) → Live L s → s ≡ d → ⊥
    stayed s h e = let z : ⊥ = omega (arith, T.gone, ap L.num e) in z

    pub agree_leaves : NamesAgree L X names
    agree_leaves = record {
      live = λ i s h e.
          let l : Live K s = N.live i s h e in
          omega (arith, T.num s (λ g. gone_owns i h (e ∙ ap suc g)));
      valid = N.valid;
      different = N.different;
      counted = λ s h. N.counted s (stayed_live s h);
      open_one = λ s h o. N.open_one s (stayed_live s h) (omega (arith, T.is_open s (stayed s h)));
    }

  -- N: the name l goes on the record in slot s, in the empty row i
  module _ (i s : ℕ) (l : List ℕ) (h : i < 32) (e : X.owner i ≡ 0) (a : Live K s) (v : ValidName l) (u : row_of X l ≡ 0)
      (o : 0 < K.is_open s → names s ≡ 0) where
    named_whose : (j t : ℕ) → (named X i s l).owner j ≡ suc t → ((j ≡ i) × (t ≡ s)) ⊎ ((j ≡ i → ⊥) × (X.owner j ≡ suc t))
    named_whose j t g =
        cases (same? j i)
        (λ d. inl (d, let z : t ≡ s = omega (arith, named_owner X i s l, ap (named X i s l).owner d) in z))
        (λ n. inr (n, sym (named_owners X i s l j n) ∙ g))

    named_in_use : (j : ℕ) → (j ≡ i → ⊥) → 0 < (named X i s l).owner j → 0 < X.owner j
    named_in_use j n g = omega (arith, named_owners X i s l j n)

    -- no other row has the name
    named_fresh : (j : ℕ) → j < 32 → (j ≡ i → ⊥) → 0 < (named X i s l).owner j → (named X i s l).text j ≡ l → ⊥
    named_fresh j k n g t = row_none X l u j k (named_in_use j n g) (sym (named_texts X i s l j n) ∙ t)

    named_different : (j k : ℕ) → j < 32 → k < 32 → 0 < (named X i s l).owner j → 0 < (named X i s l).owner k →
        (named X i s l).text j ≡ (named X i s l).text k → j ≡ k
    named_different j k b c p q t =
        cases (same? j i)
        (λ d. cases (same? k i)
        (λ f. d ∙ sym f)
        (λ f. absurd (named_fresh k c f q (sym t ∙ ap (named X i s l).text d ∙ named_text X i s l))))
        (λ d. cases (same? k i)
        (λ f. absurd (named_fresh j b d p (t ∙ ap (named X i s l).text f ∙ named_text X i s l)))
        (λ f.
        N.different j k b c (named_in_use j d p) (named_in_use k f q)
        (sym (named_texts X i s l j d) ∙ t ∙ named_texts X i s l k f)))

    count_more : (t : ℕ) → t ≡ s → one_more names s t ≡ suc (names s)
    unfolding one_more
    count_more t d = put_at names s (suc (names s)) t d

    count_same : (t : ℕ) → (t ≡ s → ⊥) → one_more names s t ≡ names t
    unfolding one_more
    count_same t n = put_other names s (suc (names s)) t n

    named_counted : (t : ℕ) → Live K t → one_more names s t ≡ owned (named X i s l) t
    named_counted t b =
        cases (same? t s)
        (λ d.
        count_more t d ∙ ap suc (N.counted s a) ∙
        sym (ap (owned (named X i s l)) d ∙
        owned_more X (named X i s l) s i h (λ g. let z : ⊥ = omega arith in z) (named_owner X i s l) (named_owners X i s l)))
        (λ n.
        count_same t n ∙ N.counted t b ∙
        owned_same X (named X i s l) t t (λ j k. (
          λ g. named_owners X i s l j (λ d. let z : ⊥ = omega (arith, ap X.owner d) in z) ∙ g,
          λ g. cases (named_whose j t g) (λ w. absurd (n w.1)) (λ w. w.1),
        )))

    pub agree_named : NamesAgree K (named X i s l) (one_more names s)
    agree_named = record {
      live = λ j t k g. cases (named_whose j t g) (λ w. rw w.1 a) (λ w. N.live j t k w.1);
      valid = λ j t k g. cases (named_whose j t g)
          (λ w. rw (w.0, named_text X i s l) v)
          (λ w. rw (named_texts X i s l j w.0) (N.valid j t k w.1));
      different = named_different;
      counted = named_counted;
      open_one = λ t b p. cases (same? t s)
          (λ d. omega (arith, count_more t d, o (rw d at p)))
          (λ n. omega (arith, count_same t n, N.open_one t b p));
    }

  -- U: row i, which s owns, becomes empty
  module _ (i s : ℕ) (h : i < 32) (e : X.owner i ≡ suc s) where
    count_less : (t : ℕ) → t ≡ s → one_less names s t ≡ pred (names s)
    unfolding one_less
    count_less t d = put_at names s (pred (names s)) t d

    count_left : (t : ℕ) → (t ≡ s → ⊥) → one_less names s t ≡ names t
    unfolding one_less
    count_left t n = put_other names s (pred (names s)) t n

    off_counted : (t : ℕ) → Live K t → one_less names s t ≡ owned (unnamed X i) t
    off_counted t b =
        cases (same? t s)
        (λ d.
        count_less t d ∙
        ap pred (N.counted s (N.live i s h e) ∙
        owned_more (unnamed X i) X s i h (λ g. let z : ⊥ = omega (arith, off_owner X i) in z) e (λ j n. sym (off_owners X i j n))) ∙
        ap (owned (unnamed X i)) (sym d))
        (λ n.
        count_left t n ∙ N.counted t b ∙
        owned_same X (unnamed X i) t t (λ j k. (
          λ g. off_owners X i j (λ d. n (let z : t ≡ s = omega (arith, ap X.owner d) in z)) ∙ g,
          λ g. (off_other X i j t g).1,
        )))

    off_in_use : (j : ℕ) → 0 < (unnamed X i).owner j → (j ≡ i → ⊥) × (0 < X.owner j)
    off_in_use j g =
        let n : j ≡ i → ⊥ = λ d. let z : ⊥ = omega (arith, off_owner X i, ap (unnamed X i).owner d) in z in
        (n, omega (arith, off_owners X i j n))

    pub agree_unnamed : NamesAgree K (unnamed X i) (one_less names s)
    agree_unnamed = record {
      live = λ j t k g. N.live j t k (off_other X i j t g).1;
      valid = λ j t k g. rw (off_texts X i j (off_other X i j t g).0) (N.valid j t k (off_other X i j t g).1);
      different = λ j k b c p q t.
          let (n, o) = off_in_use j p in
          let (m, u) = off_in_use k q in
          N.different j k b c o u (sym (off_texts X i j n) ∙ t ∙ off_texts X i k m);
      counted = off_counted;
      open_one = λ t b p. cases (same? t s)
          (λ d. omega (arith, count_less t d, N.open_one s (rw d at b) (rw d at p)))
          (λ n. omega (arith, count_left t n, N.open_one t b p));
    }
