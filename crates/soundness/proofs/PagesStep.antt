-- The walk over a record's pages as the code goes it: a page that differs, the pages between, a word of pages, a row.
use Rattle.std.proofs.Common.{
  Option,
  Some,
  None,
  ◌≡◌,
  ℕ,
  suc,
  ◌+◌,
  ◌-◌,
  ◌*◌,
  ◌^◌,
  ◌<◌,
  ◌≤◌,
  min,
  Bool,
  true,
  false,
  not,
  ◌&&◌,
  ltb,
  List,
  length,
  get_or,
  set,
  sym,
  refl,
  ap,
  ◌∙◌,
  lt_of_lt_of_le,
  lt_of_le_of_lt,
  arith,
  get_or-set_other,
  get_or-set_same,
  pow_mono,
  ltb-false,
  ltb-true,
}
use lib.Bits.{bit_and, and_le_l}
use lib.Count.{count_trailing_zeros}
use borrow.Author.Tests.{not-true, not-false}
use Rattle.answer.proofs.Cases.{cases, same?, lt?}
use Rattle.choice.specs.Words.{bit, word_of}
use Rattle.choice.proofs.Bit.{bit_high, no_bit, tz_below, tz_at}
use Rattle.choice.proofs.Births.{word_bit, word_lt}
use Rattle.choice.proofs.Finds.{true_false}
use Rattle.geometry.specs.declared.Geometry.{Geometry}
use Rattle.model.specs.Lists.{on_page}
use Rattle.model.specs.View.{View, parent, page_of}
use Rattle.model.specs.Check.{marks_of, once?, like?, fits?}
use Rattle.model.specs.Layout.{page_cell, view_of}
use Rattle.model.specs.Stamps.{stamped}
use Rattle.tables.specs.Rows.{differs}
use Rattle.tables.proofs.Fields.{page_is}
use Rattle.soundness.specs.declared.pages.Kin.{Kin}
use Rattle.soundness.specs.Pages.{reached, kin_of, younger, seen, left_at, Rest, rest_of, Walked, RowWords}
use Rattle.choice.proofs.Lowest.{off_at, off_below, off_above}
use Rattle.soundness.proofs.PagesLinks.{reached_in, reached_out, page_reached}
use Rattle.soundness.proofs.PagesWalk.{left_apart, left_first, rest_fails, rest_next, rest_skip}

-- ── the two answers ──

module _ {K : View} {s : ℕ} {own gone : List ℕ} {n x : ℕ} {own' gone' : List ℕ} {y : ℕ} (os : length own' ≡ 2048) (gs : length gone' ≡ 2048) where
  walked_no : (rest_of K s own gone n x).fits ≡ false → Walked K s own gone n x None own' gone' y
  walked_no e = record {
    own_size = os;
    gone_size = gs;
    fails = λ d. e;
    few = λ k d. absurd (let z : ◌≡◌ {A = ℕ} 0 1 = cc in let w : ⊥ = omega arith in w);
    fits = λ k d. absurd (let z : ◌≡◌ {A = ℕ} 0 1 = cc in let w : ⊥ = omega arith in w);
  }

  walked_yes : (k : ℕ) → k ≤ y → rest_of K s own' gone' k y ≡ rest_of K s own gone n x → Walked K s own gone n x (Some k) own' gone' y
  walked_yes k l e = record {
    own_size = os;
    gone_size = gs;
    fails = λ d. absurd (let z : ◌≡◌ {A = ℕ} 0 1 = cc in let w : ⊥ = omega arith in w);
    few = λ j d. let z : k ≡ j = cc in omega arith;
    fits = λ j d. let z : k ≡ j = cc in rw (← z) e;
  }

-- ── a page that differs ──

reached_le : (R l : ℕ) → reached R l ≤ R
reached_le R l = cases (lt? R l) (λ h. rw (← reached_out R l h) (omega arith)) (λ h. rw (← reached_in R l h) h)

module _ (g : Geometry) (t : List ℕ) (s : ℕ) {kin : Kin} (ek : kin ≡ kin_of (view_of g t) s) where
  pub pred_range : kin.pred ≤ g.records
  unfolding view_of
  pred_range = rw ek (reached_le g.records (parent (view_of g t) s))

  pred_page : (x : ℕ) → page_of (view_of g t) kin.pred x ≡ page_of (view_of g t) (parent (view_of g t) s) x
  unfolding view_of
  pred_page x = ap (λ (k : Kin). page_of (view_of g t) k.pred x) ek ∙ page_reached g t (parent (view_of g t) s) x

  listing_is : kin.listing ≡ ltb 0 ((view_of g t).prev s)
  listing_is = ap (λ (k : Kin). k.listing) ek

  module _ (x n link : ℕ) (own gone own' : List ℕ) {r : Bool} (hs : s < g.records) (hx : x < g.pages) (few : n ≤ x) (d : like? (view_of g t) s x ≡ false)
      (el : link ≡ get_or t (page_cell s x) 0) (er : r ≡ (fits? (view_of g t) s link && once? (seen own) (on_page link)))
      (em : r ≡ true → seen own' ≡ marks_of (seen own) (on_page link)) (os : length own' ≡ 2048) where
    link_said : link ≡ (view_of g t).page s x
    link_said = el ∙ sym (page_is g t s x hs hx)

    its_fit : r ≡ (fits? (view_of g t) s ((view_of g t).page s x) && once? (seen own) (on_page ((view_of g t).page s x)))
    its_fit = rw link_said at er

    pub page_stops : length gone ≡ 2048 → not r ≡ true → Walked (view_of g t) s own gone n x None own' gone (x + 1)
    unfolding view_of
    page_stops gs e = walked_no os gs (rest_fails (view_of g t) s own gone n x hx d (sym (not-true r e) ∙ its_fit))

    page_goes : (gone' : List ℕ) (k : ℕ) → length gone' ≡ 2048 → k ≤ x + 1 → not r ≡ false → seen gone' ≡ stamped (suc s) (seen gone)
        (left_at (view_of g t) s x) →
        k ≡ n + length (left_at (view_of g t) s x) → Walked (view_of g t) s own gone n x (Some k) own' gone' (x + 1)
    unfolding view_of
    page_goes gone' k gs l e eg ek =
        let m : seen own' ≡ marks_of (seen own) (on_page ((view_of g t).page s x)) = rw link_said at (em (not-false r e)) in
        walked_yes os gs k l
        (rest_next (view_of g t) s own gone n x hx d own' gone' k (sym (not-false r e) ∙ its_fit) m eg ek)

    -- no record is before it: nothing is gone
    pub page_first : length gone ≡ 2048 → not r ≡ false → kin.listing ≡ false → Walked (view_of g t) s own gone n x (Some n) own' gone (x + 1)
    unfolding stamped
    page_first gs e f =
        let z : (view_of g t).prev s ≡ 0 = below (ltb-false 0 ((view_of g t).prev s) (sym listing_is ∙ f)) in
        let l = left_first (view_of g t) s x z in
        page_goes gone n gs (omega arith) e (rw l) (rw l (omega arith))
      where
        below : {k : ℕ} → k ≤ 0 → k ≡ 0
        below h = omega arith

    -- what was on the page of the record before is stamped, if it is gone
    pub page_next : (gone' : List ℕ) {was more : ℕ} → length gone' ≡ 2048 → not r ≡ false → kin.listing ≡ true → was ≡ page_of (view_of g t) kin.pred x →
        more ≡ length (younger (view_of g t) s was) → seen gone' ≡ stamped (suc s) (seen gone) (younger (view_of g t) s was) → more ≤ 1 →
        Walked (view_of g t) s own gone n x (Some (n + more)) own' gone' (x + 1)
    page_next gone' {was} {more} gs e f ew ec eg one =
        let z : 0 < (view_of g t).prev s = ltb-true 0 ((view_of g t).prev s) (sym listing_is ∙ f) in
        let l : left_at (view_of g t) s x ≡ younger (view_of g t) s was =
        left_apart (view_of g t) s x d (λ w. absurd (let y : ⊥ = omega arith in y)) ∙ ap (younger (view_of g t) s) (sym (ew ∙ pred_page x)) in
        page_goes gone' (n + more) gs (omega arith) e (eg ∙ ap (stamped (suc s) (seen gone)) (sym l)) (rw (l, ← ec))

-- ── a word of pages ──

-- of the n pages of s from x on those before y are walked: `rest` has the bits of the others, and what is left of the pages comes to the same
pub record Walking (K : View) (s l x n : ℕ) (own₀ gone₀ : List ℕ) (count : ℕ) (own gone : List ℕ) (rest found : ℕ) : Type 0 where
  pub y : ℕ
  pub from : x ≤ y
  pub to : y ≤ x + n
  pub wide : rest < 2 ^ n
  pub used : (j : ℕ) → x + j < y → bit rest j ≡ false
  pub left : (j : ℕ) → y ≤ x + j → j < n → bit rest j ≡ differs K s l (x + j)
  pub few : found ≤ y
  pub own_size : length own ≡ 2048
  pub gone_size : length gone ≡ 2048
  pub same : rest_of K s own gone found y ≡ rest_of K s own₀ gone₀ count x

module _ (g : Geometry) (t : List ℕ) (s : ℕ) {kin : Kin} (ek : kin ≡ kin_of (view_of g t) s) where
  abbrev apart? : ℕ → Bool
  apart? = differs (view_of g t) s kin.pred

  differs_is : (y : ℕ) → apart? y ≡ not (like? (view_of g t) s y)
  unfolding differs like?
  differs_is y = rw (pred_page g t s ek y)

  as_pred : (y : ℕ) → apart? y ≡ false → like? (view_of g t) s y ≡ true
  as_pred y e = not-false (like? (view_of g t) s y) (sym (differs_is y) ∙ e)

  not_pred : (y : ℕ) → apart? y ≡ true → like? (view_of g t) s y ≡ false
  not_pred y e = not-true (like? (view_of g t) s y) (sym (differs_is y) ∙ e)

  module _ (x n : ℕ) (own₀ gone₀ : List ℕ) (count : ℕ) (hn : n ≤ 32) (hx : x + n ≤ g.pages) where
    pub word_starts : {rest : ℕ} → rest ≡ word_of apart? x n → count ≤ x → length own₀ ≡ 2048 → length gone₀ ≡ 2048 →
        Walking (view_of g t) s kin.pred x n own₀ gone₀ count own₀ gone₀ rest count
    word_starts e l os gs =
        record {
          y = x;
          from = omega arith;
          to = omega arith;
          wide = rw e (word_lt apart? x n);
          used = λ j h. absurd (let z : ⊥ = omega arith in z);
          left = λ j h k. rw e (word_bit apart? x n j k);
          few = l;
          own_size = os;
          gone_size = gs;
          same = refl;
        }

    module _ {own gone : List ℕ} {rest found : ℕ} (W : Walking (view_of g t) s kin.pred x n own₀ gone₀ count own gone rest found) where
      -- the pages from y on that are not in the word
      skip : (k : ℕ) → W.y + k ≤ x + n → ((j : ℕ) → j < k → bit rest (W.y - x + j) ≡ false) →
          rest_of (view_of g t) s own gone found (W.y + k) ≡ rest_of (view_of g t) s own₀ gone₀ count x
      unfolding view_of
      skip k l a =
          rest_skip (view_of g t) s (seen own) (seen gone) found W.y k (omega arith)
          (λ j i.
          let z : x + (W.y - x + j) ≡ W.y + j = omega (arith, W.from) in
          as_pred (W.y + j) (ap apart? (sym z) ∙ sym (W.left (W.y - x + j) (omega (arith, W.from)) (omega (arith, W.from))) ∙ a j i))
          ∙ W.same

      -- no page is left that differs
      pub word_ends : rest ≡ 0 → Walked (view_of g t) s own₀ gone₀ count x (Some found) own gone (x + n)
      word_ends z =
          let e : W.y + (x + n - W.y) ≡ x + n = omega (arith, W.to) in
          let r = skip (x + n - W.y) (omega (arith, W.to)) (λ j h. rw z (no_bit (W.y - x + j))) in
          walked_yes W.own_size W.gone_size found (omega (arith, W.few, W.to)) (rw e at r)

      module _ (some : rest ≡ 0 → ⊥) where
        more : 0 < rest
        more = pos rest some
          where
            pos : (k : ℕ) → (k ≡ 0 → ⊥) → 0 < k
            pos k m = omega arith

        fits : rest < 2 ^ 32
        fits = lt_of_lt_of_le W.wide (pow_mono hn)

        lowest : bit rest (count_trailing_zeros 32 rest) ≡ true
        lowest = (tz_at 32 rest more fits).1

        pub word_inside : x + count_trailing_zeros 32 rest < x + n
        word_inside =
            cases (lt? (count_trailing_zeros 32 rest) n)
            (λ h. omega arith)
            (λ h. absurd (true_false lowest (bit_high n rest (count_trailing_zeros 32 rest) W.wide h)))

        not_used : W.y ≤ x + count_trailing_zeros 32 rest
        not_used =
            cases (lt? (x + count_trailing_zeros 32 rest) W.y)
            (λ h. absurd (true_false lowest (W.used (count_trailing_zeros 32 rest) h)))
            (λ h. h)

        pub word_few : found ≤ x + count_trailing_zeros 32 rest
        word_few = omega (arith, W.few, not_used)

        pub word_differs : like? (view_of g t) s (x + count_trailing_zeros 32 rest) ≡ false
        word_differs = not_pred (x + count_trailing_zeros 32 rest) (sym (W.left (count_trailing_zeros 32 rest) not_used (omega (arith, word_inside))) ∙ lowest)

        skipped : rest_of (view_of g t) s own gone found (x + count_trailing_zeros 32 rest) ≡ rest_of (view_of g t) s own₀ gone₀ count x
        skipped =
            let k = x + count_trailing_zeros 32 rest - W.y in
            let e : W.y + k ≡ x + count_trailing_zeros 32 rest = omega (arith, not_used) in
            let r = skip k (omega (arith, not_used, word_inside)) (λ j h. tz_below 32 rest (W.y - x + j) (omega (arith, W.from, not_used))) in
            rw e at r

        module _ {r : Option ℕ} {own' gone' : List ℕ} (done : Walked (view_of g t) s own gone found (x + count_trailing_zeros 32 rest) r own' gone'
            (x + count_trailing_zeros 32 rest + 1)) where
          pub word_stops : r ≡ None → Walked (view_of g t) s own₀ gone₀ count x None own' gone' (x + n)
          word_stops e = walked_no done.own_size done.gone_size (sym (ap (λ (q : Rest). q.fits) skipped) ∙ done.fails e)

          pub word_goes : {k : ℕ} → r ≡ Some k → Walking (view_of g t) s kin.pred x n own₀ gone₀ count own' gone' (bit_and rest (rest - 1)) k
          word_goes {k} e =
              record {
                y = x + count_trailing_zeros 32 rest + 1;
                from = omega arith;
                to = omega (arith, word_inside);
                wide = lt_of_le_of_lt (and_le_l rest (rest - 1)) W.wide;
                used = λ j h. cases (same? j (count_trailing_zeros 32 rest))
                    (λ d. rw d (off_at 32 rest more fits))
                    (λ d. off_below 32 rest more fits j (omega arith));
                left = λ j h i. off_above 32 rest more fits j (omega arith) ∙ W.left j (omega (arith, not_used)) i;
                few = done.few k e;
                own_size = done.own_size;
                gone_size = done.gone_size;
                same = done.fits k e ∙ skipped;
              }

-- ── a row of pages ──

-- a word more of a row's stands
pub words_more : (words : List ℕ) (k v : ℕ) (f : ℕ → ℕ) → k < length words → ((j : ℕ) → j < k → get_or words j 0 ≡ f j) → v ≡ f k →
    (j : ℕ) → j < k + 1 → get_or (set words k v) j 0 ≡ f j
words_more words k v f h a e j l =
    cases (same? j k)
    (λ d. rw d (get_or-set_same words k v 0 h ∙ e))
    (λ d. get_or-set_other words k j v 0 d ∙ a j (omega arith))

pub row_word : (g : Geometry) (t : List ℕ) (s l : ℕ) {words : List ℕ} (k : ℕ) {n : ℕ} → RowWords (view_of g t) s l words → 32 * k < g.pages →
    n ≡ min 32 (g.pages - 32 * k) → get_or words k 0 ≡ word_of (differs (view_of g t) s l) (32 * k) n
unfolding view_of
row_word g t s l k R h e = rw e (R.word k h)

-- the pages of s before x are walked
pub record Rowing (K : View) (s : ℕ) (own₀ gone₀ own gone : List ℕ) (found x : ℕ) : Type 0 where
  pub to : x ≤ K.pages
  pub few : found ≤ x
  pub own_size : length own ≡ 2048
  pub gone_size : length gone ≡ 2048
  pub same : rest_of K s own gone found x ≡ rest_of K s own₀ gone₀ 0 0

module _ (K : View) (s : ℕ) (own₀ gone₀ : List ℕ) where
  module _ {own gone : List ℕ} {found x : ℕ} (W : Rowing K s own₀ gone₀ own gone found x) where
    module _ {r : Option ℕ} {own' gone' : List ℕ} {y : ℕ} (done : Walked K s own gone found x r own' gone' y) where
      pub row_goes : {k : ℕ} → r ≡ Some k → y ≤ K.pages → Rowing K s own₀ gone₀ own' gone' k y
      row_goes {k} e h = record {
        to = h;
        few = done.few k e;
        own_size = done.own_size;
        gone_size = done.gone_size;
        same = done.fits k e ∙ W.same;
      }
