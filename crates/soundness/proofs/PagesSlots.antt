-- A slot: its walk and its deadlist together; and all slots.
use Rattle.std.proofs.Common.{
  Option,
  Some,
  None,
  ◌≡◌,
  ℕ,
  suc,
  ◌+◌,
  ◌-◌,
  ◌<◌,
  ◌≤◌,
  Bool,
  true,
  false,
  cond,
  not,
  ◌&&◌,
  eqb,
  ltb,
  List,
  [],
  ◌∷◌,
  length,
  get_or,
  replicate,
  sym,
  refl,
  ap,
  ◌∙◌,
  add-one,
  arith,
  le-ltb,
  lt-ltb,
}
use lib.ListN.{get_or-replicate, length-replicate, get_or-eq_default}
use borrow.Author.Tests.{not-true, not-false}
use Rattle.answer.proofs.Cases.{cases, same?, lt?}
use Rattle.geometry.specs.declared.Geometry.{Geometry}
use Rattle.model.specs.Table.{all, put}
use Rattle.model.specs.Lists.{rows}
use Rattle.model.specs.View.{View}
use Rattle.model.specs.Check.{marks_of, once?, takes?, page?, own_at, owns, all_own, gone, list?, empty?}
use Rattle.model.specs.Layout.{num_cell, length_cell, view_of}
use Rattle.model.proofs.TabFacts.{put_at, put_other}
use Rattle.model.specs.Stamps.{stamped, stamps}
use Rattle.model.proofs.Marking.{takes_alike, stamps_fresh, marks_rows}
use Rattle.tables.proofs.Fields.{num_is, list_length}
use Rattle.soundness.specs.Pages.{seen, left_at, walk, Rest, rest_from, rest_of, Walked, slot_fits}
use Rattle.soundness.proofs.PagesWalk.{both_true, walk_all, walk_next, walk_stops, walk_none, rest_end}

-- ── an empty slot ──

module _ (g : Geometry) (t : List ℕ) (s : ℕ) (m : List ℕ) (hs : s < g.records) (z : get_or t (num_cell s) 0 ≡ 0) where
  vacant : ltb 0 ((view_of g t).num s) ≡ false
  vacant = let e : (view_of g t).num s ≡ 0 = num_is g t s hs ∙ z in le-ltb 0 ((view_of g t).num s) (omega arith)

  pub slot_empty : eqb (get_or t (length_cell s) 0) 0 ≡ (slot_fits (view_of g t) s && once? (seen m) (owns (view_of g t) s))
  unfolding slot_fits owns once? empty?
  slot_empty = rw (vacant, list_length g t s hs) (sym (whole (eqb (get_or t (length_cell s) 0) 0)))
    where
      whole : (a : Bool) → (a && true) ≡ a
      whole true = refl
      whole false = refl

  pub empty_marks : seen m ≡ marks_of (seen m) (owns (view_of g t) s)
  unfolding owns marks_of
  empty_marks = rw vacant

-- ── a slot in use ──

pub live : (g : Geometry) (t : List ℕ) (s : ℕ) → s < g.records → (get_or t (num_cell s) 0 ≡ 0 → ⊥) → ltb 0 ((view_of g t).num s) ≡ true
live g t s hs n = go ((view_of g t).num s) (λ e. n (sym (num_is g t s hs) ∙ e))
  where
    go : (k : ℕ) → (k ≡ 0 → ⊥) → ltb 0 k ≡ true
    go k m = lt-ltb 0 k (omega arith)

-- a stamp is at most the one of the round, where those before were
stamped_le : (v : ℕ) (f : ℕ → ℕ) (l : List ℕ) → ((b : ℕ) → f b ≤ v) → (b : ℕ) → stamped v f l b ≤ v
unfolding stamped
stamped_le v f [] h b = h b
stamped_le v f (c ∷ l) h b =
    stamped_le v (put f c v) l (λ k. cases (same? k c) (λ e. rw (put_at f c v k e) (omega arith)) (λ n. rw (put_other f c v k n) (h k))) b

module _ (K : View) (s : ℕ) (own₀ gone₀ : List ℕ) (on : ltb 0 (K.num s) ≡ true) where
  all_owns : owns K s ≡ rows (own_at K s) 0 K.pages
  unfolding owns
  all_owns = rw on

  in_use : slot_fits K s ≡ (all K.pages (page? K s) && list? K s)
  unfolding slot_fits
  in_use = rw on

  -- the whole of the walk
  whole_is : rest_of K s own₀ gone₀ 0 0 ≡ record {
    fits = all K.pages (page? K s) && once? (seen own₀) (owns K s);
    own = marks_of (seen own₀) (owns K s);
    gone = stamped (suc s) (seen gone₀) (gone K s);
    count = length (gone K s);
  }
  unfolding rest_from gone
  whole_is =
      let z : K.pages - 0 ≡ K.pages = omega arith in
      let e : 0 + length (rows (left_at K s) 0 K.pages) ≡ length (rows (left_at K s) 0 K.pages) = omega arith in
      rw (z, e, all_owns, walk_all (page? K s) (own_at K s) (seen own₀) K.pages)

  module _ {r : Option ℕ} {own gone' : List ℕ} (done : Walked K s own₀ gone₀ 0 0 r own gone' K.pages) where
    pub slot_fails : r ≡ None → false ≡ (slot_fits K s && once? (seen own₀) (owns K s))
    slot_fails e =
        let d : (all K.pages (page? K s) && once? (seen own₀) (owns K s)) ≡ false = sym (ap (λ (q : Rest). q.fits) whole_is) ∙ done.fails e in
        rw in_use (sym (mid (all K.pages (page? K s)) (list? K s) (once? (seen own₀) (owns K s)) d))
      where
        mid : (a b c : Bool) → (a && c) ≡ false → ((a && b) && c) ≡ false
        mid true true c d = d
        mid true false c d = refl
        mid false b c d = refl

    module _ {n : ℕ} (e : r ≡ Some n) where
      came : record { fits = true; own = seen own; gone = seen gone'; count = n } ≡ rest_of K s own₀ gone₀ 0 0
      came = sym (rest_end K s own gone' n) ∙ done.fits n e

      came_to : ◌≡◌ {A = Rest} (record { fits = true; own = seen own; gone = seen gone'; count = n }) (record {
        fits = all K.pages (page? K s) && once? (seen own₀) (owns K s);
        own = marks_of (seen own₀) (owns K s);
        gone = stamped (suc s) (seen gone₀) (gone K s);
        count = length (gone K s);
      })
      came_to = came ∙ whole_is

      pub slot_marks : seen own ≡ marks_of (seen own₀) (owns K s)
      slot_marks = ap (λ (q : Rest). q.own) came_to

      stamps_are : seen gone' ≡ stamped (suc s) (seen gone₀) (gone K s)
      stamps_are = ap (λ (q : Rest). q.gone) came_to

      pub slot_lists : {q : Bool} → ((b : ℕ) → seen gone₀ b ≤ s) → q ≡ (eqb (length (K.list s)) n && takes? (stamps (suc s) (seen gone')) (K.list s)) →
          q ≡ (slot_fits K s && once? (seen own₀) (owns K s))
      unfolding list?
      slot_lists {q} low h =
          let t = both_true (all K.pages (page? K s)) (once? (seen own₀) (owns K s)) (sym (ap (λ (q : Rest). q.fits) came_to)) in
          let c : n ≡ length (gone K s) = ap (λ (q : Rest). q.count) came_to in
          let f : takes? (stamps (suc s) (seen gone')) (K.list s) ≡ takes? (marks_of (λ b. 0) (gone K s)) (K.list s) =
          takes_alike (stamps (suc s) (seen gone')) (marks_of (λ b. 0) (gone K s)) (K.list s)
          (λ b. ap (λ (f : ℕ → ℕ). ltb 0 (stamps (suc s) f b)) stamps_are ∙ stamps_fresh (suc s) (seen gone₀) (gone K s)
          (λ d w. absurd (let y : ⊥ = omega (arith, low d) in y)) b) in
          h ∙ rw (in_use, t.0, t.1, f, c) (sym (last (list? K s)))
        where
          last : (a : Bool) → ((true && a) && true) ≡ a
          last true = refl
          last false = refl

      pub slot_stamps : (m : List ℕ) → ((b : ℕ) → seen gone₀ b ≤ s) → ((b : ℕ) → seen m b ≤ seen gone' b) → (b : ℕ) → seen m b ≤ s + 1
      slot_stamps m low h b =
          let k : stamped (suc s) (seen gone₀) (gone K s) b ≤ suc s = stamped_le (suc s) (seen gone₀) (gone K s) (λ d. omega (arith, low d)) b in
          let j : seen gone' b ≡ stamped (suc s) (seen gone₀) (gone K s) b = ap (λ (f : ℕ → ℕ). f b) stamps_are in
          omega (arith, h b)

-- ── all slots ──

-- the slots before s are walked: what is left comes to the same
pub record Slots (K : View) (own₀ own gone : List ℕ) (s : ℕ) : Type 0 where
  pub to : s ≤ K.slots
  pub own_size : length own ≡ 2048
  pub gone_size : length gone ≡ 2048
  pub low : (b : ℕ) → seen gone b ≤ s
  pub fits : walk (slot_fits K) (owns K) (seen own) s (K.slots - s) ≡ walk (slot_fits K) (owns K) (seen own₀) 0 K.slots
  pub marks : marks_of (seen own) (rows (owns K) s (K.slots - s)) ≡ marks_of (seen own₀) (all_own K)

-- the stamps at the start
zeros_low : (n b : ℕ) → seen (replicate n 0) b ≤ 0
zeros_low n b =
    cases (lt? b n)
    (λ h. let e : seen (replicate n 0) b ≡ 0 = get_or-replicate n b 0 0 h in omega arith)
    (λ h. let e : seen (replicate n 0) b ≡ 0 = get_or-eq_default (replicate n 0) 0 (omega (arith, length-replicate {A = ℕ} n 0)) in omega arith)

module _ (K : View) (own₀ : List ℕ) where
  -- the test of all slots
  abbrev pub AllFit : Bool
  AllFit = all K.slots (λ s. cond (ltb 0 (K.num s)) (all K.pages (page? K s) && list? K s) (empty? K s)) && once? (seen own₀) (all_own K)

  whole_fits : walk (slot_fits K) (owns K) (seen own₀) 0 K.slots ≡ AllFit
  unfolding slot_fits all_own
  whole_fits = walk_all (slot_fits K) (owns K) (seen own₀) K.slots

  pub slots_start : length own₀ ≡ 2048 → Slots K own₀ own₀ (replicate 2048 0) 0
  unfolding all_own
  slots_start h =
      let z : K.slots - 0 ≡ K.slots = omega arith in
      record { to = omega arith; own_size = h; gone_size = length-replicate {A = ℕ} 2048 0; low = zeros_low 2048; fits = rw z; marks = rw z }

  module _ {own gone : List ℕ} {s : ℕ} (W : Slots K own₀ own gone s) where
    module _ (h : s < K.slots) {r : Bool} (e : r ≡ (slot_fits K s && once? (seen own) (owns K s))) where
      pub slots_stop : not r ≡ true → false ≡ AllFit
      slots_stop n =
          let z : K.slots - s ≡ suc (K.slots - suc s) = omega arith in
          let d = walk_stops (slot_fits K) (owns K) (seen own) s (K.slots - suc s) (sym e ∙ not-true r n) in
          sym (sym whole_fits ∙ sym W.fits ∙ ap (walk (slot_fits K) (owns K) (seen own) s) z ∙ d)

      pub slots_go : {own' gone' : List ℕ} → not r ≡ false → length own' ≡ 2048 → length gone' ≡ 2048 →
          (r ≡ true → seen own' ≡ marks_of (seen own) (owns K s)) →
          (r ≡ true → (b : ℕ) → seen gone' b ≤ s + 1) → Slots K own₀ own' gone' (s + 1)
      slots_go {own'} {gone'} n os gs m l =
          let y : r ≡ true = not-false r n in
          let z : K.slots - s ≡ suc (K.slots - suc s) = omega arith in
          let f = walk_next (slot_fits K) (owns K) (seen own) s (K.slots - suc s) (sym e ∙ y) in
          record {
            to = omega arith;
            own_size = os;
            gone_size = gs;
            low = l y;
            fits = rw (add-one s, m y) (f ∙ ap (walk (slot_fits K) (owns K) (seen own) s) (sym z) ∙ W.fits);
            marks = rw (add-one s, m y) (sym (marks_rows (owns K) (seen own) s (K.slots - suc s)) ∙ ap
                (λ (k : ℕ). marks_of (seen own) (rows (owns K) s k)) (sym z) ∙ W.marks);
          }

    pub slots_end : K.slots ≤ s → (true ≡ AllFit) × ((b : ℕ) → get_or own b 0 ≡ marks_of (seen own₀) (all_own K) b)
    unfolding rows marks_of
    slots_end h =
        let z : K.slots - s ≡ 0 = omega arith in
        let a : true ≡ AllFit = sym (sym whole_fits ∙ sym W.fits ∙ ap (walk (slot_fits K) (owns K) (seen own) s) z ∙ walk_none (slot_fits K) (owns K)
        (seen own) s) in
        let m : seen own ≡ marks_of (seen own₀) (all_own K) = (rw z at W.marks) in
        (a, λ b. ap (λ (f : ℕ → ℕ). f b) m)
