-- One page: its block against the marks, and the block that left it against the stamps.
use Rattle.std.proofs.Common.{◌≡◌, ℕ, zero, suc, ◌+◌, ◌-◌, ◌%◌, ◌^◌, ◌<◌, ◌≤◌, Bool, true, false, ◌&&◌, eqb, ltb, leb, List, [], ◌∷◌, length, get_or, set, sym, refl, ◌∙◌, arith, get_or-set_other, get_or-set_same, le-ltb, lt-ltb, eq-eqb, ne_eqb, le-leb}
use mathlib.Core.Path.{fun_ext}
use borrow.Author.Tests.{lt-leb}
use Rattle.answer.proofs.Cases.{cases, same?}
use Rattle.geometry.specs.declared.Geometry.{Geometry}
use Rattle.geometry.specs.Limits.{blocks}
use Rattle.model.specs.Table.{put}
use Rattle.model.specs.Lists.{on_page}
use Rattle.model.specs.View.{View, pred_num, base_num}
use Rattle.model.specs.Check.{marks_of, once?, fits?}
use Rattle.model.specs.Layout.{birth_cell, view_of}
use Rattle.model.specs.Stamps.{stamped}
use Rattle.tables.proofs.Fields.{birth_is, birth_out}
use Rattle.soundness.specs.Pages.{seen, younger}

pub seen_set : (m : List ℕ) (b v : ℕ) → b < length m → seen (set m b v) ≡ put (seen m) b v
unfolding put
seen_set m b v h =
    fun_ext (λ k. cases (same? k b)
    (λ e. rw (eq-eqb k b e, e) (get_or-set_same m b v 0 h))
    (λ n. rw (ne_eqb k b n) (get_or-set_other m b k v 0 n)))

pub and_no : (a : Bool) {b : Bool} → b ≡ false → false ≡ (a && b)
and_no true e = sym e
and_no false e = refl

-- ── a block of the record's own ──

module _ (K : View) (s : ℕ) (m : List ℕ) where
  -- no block
  pub own_none : (l : ℕ) → l ≡ 0 → (true ≡ (fits? K s l && once? (seen m) (on_page l))) × (seen m ≡ marks_of (seen m) (on_page l))
  unfolding fits? once? on_page marks_of
  own_none zero e = (refl, refl)
  own_none (suc b) e = absurd (let z : ⊥ = omega arith in z)

  -- no block of the store, one that is too old, one that is too young, one that has a mark
  pub own_beyond : (l : ℕ) → K.blocks < l → false ≡ (fits? K s l && once? (seen m) (on_page l))
  unfolding fits?
  own_beyond zero h = absurd (let z : ⊥ = omega arith in z)
  own_beyond (suc b) h = rw (le-ltb b K.blocks (omega arith))

  pub own_old : (l : ℕ) → (l ≡ 0 → ⊥) → K.birth (l - 1) ≤ pred_num K s → false ≡ (fits? K s l && once? (seen m) (on_page l))
  unfolding fits?
  own_old zero n h = absurd (n refl)
  own_old (suc b) n h =
      let z : suc b - 1 ≡ b = omega arith in
      rw (le-ltb (pred_num K s) (K.birth b) (rw z at h)) (late (ltb b K.blocks) (leb (K.birth b) (K.num s)) (once? (seen m) (on_page (suc b))))
    where
      late : (a b c : Bool) → false ≡ (((a && false) && b) && c)
      late true b c = refl
      late false b c = refl

  pub own_young : (l : ℕ) → (l ≡ 0 → ⊥) → K.num s < K.birth (l - 1) → false ≡ (fits? K s l && once? (seen m) (on_page l))
  unfolding fits?
  own_young zero n h = absurd (n refl)
  own_young (suc b) n h =
      let z : suc b - 1 ≡ b = omega arith in
      rw (lt-leb (K.birth b) (K.num s) (rw z at h)) (late (ltb b K.blocks) (ltb (pred_num K s) (K.birth b)) (once? (seen m) (on_page (suc b))))
    where
      late : (a b c : Bool) → false ≡ (((a && b) && false) && c)
      late true true c = refl
      late true false c = refl
      late false b c = refl

  pub own_twice : (l : ℕ) → (l ≡ 0 → ⊥) → (seen m (l - 1) ≡ 0 → ⊥) → false ≡ (fits? K s l && once? (seen m) (on_page l))
  unfolding once? on_page
  own_twice zero n h = absurd (n refl)
  own_twice (suc b) n h =
      let z : suc b - 1 ≡ b = omega arith in
      and_no (fits? K s (suc b)) (rw (ne_eqb (seen m b) 0 (rw z at h)))

  -- a block that fits, and its mark
  pub own_fits : (l : ℕ) → (l ≡ 0 → ⊥) → l ≤ K.blocks → pred_num K s < K.birth (l - 1) → K.birth (l - 1) ≤ K.num s → seen m (l - 1) ≡ 0 →
      l - 1 < length m → (true ≡ (fits? K s l && once? (seen m) (on_page l))) × (seen (set m (l - 1) 1) ≡ marks_of (seen m) (on_page l))
  unfolding fits? once? on_page marks_of
  own_fits zero n h i j k o = absurd (n refl)
  own_fits (suc b) n h i j k o =
      let z : suc b - 1 ≡ b = omega arith in
      let e : ltb b K.blocks ≡ true = lt-ltb b K.blocks (omega arith) in
      let i' : ltb (pred_num K s) (K.birth b) ≡ true = lt-ltb (pred_num K s) (K.birth b) (rw z at i) in
      let j' : leb (K.birth b) (K.num s) ≡ true = le-leb (K.birth b) (K.num s) (rw z at j) in
      let k' : eqb (seen m b) 0 ≡ true = eq-eqb (seen m b) 0 (rw z at k) in
      (rw (e, i', j', k'), rw z (seen_set m b 1 (rw z at o)))

-- ── a block that is gone ──

-- the birth that the code reads
pub birth_said : (g : Geometry) (t : List ℕ) (l : ℕ) {b : ℕ} → (l ≡ 0 → ⊥) → l ≤ blocks g → b ≡ get_or t (birth_cell g.records (l - 1)) 0 →
    b ≡ (view_of g t).birth (l - 1)
birth_said g t zero n h e = absurd (n refl)
birth_said g t (suc k) n h e =
    let z : suc k - 1 ≡ k = omega arith in
    rw z ((rw z at e) ∙ sym (birth_is g t k (omega arith)))

-- a link to no block: nothing is gone
pub young_beyond : (g : Geometry) (t : List ℕ) (s l : ℕ) → blocks g < l → younger (view_of g t) s l ≡ []
unfolding younger
young_beyond g t s zero h = absurd (let z : ⊥ = omega arith in z)
young_beyond g t s (suc b) h =
    let e : (view_of g t).birth b ≡ 0 = birth_out g t b (omega arith) in
    rw (le-ltb (base_num (view_of g t) s) ((view_of g t).birth b) (omega arith))

module _ (K : View) (s : ℕ) where
  pub young_none : (l : ℕ) → l ≡ 0 → younger K s l ≡ []
  unfolding younger
  young_none zero e = refl
  young_none (suc b) e = absurd (let z : ⊥ = omega arith in z)

-- the link to block b, where b is the link less 1, round: a link to no block, and one to a block of the store
pub young_outside : (g : Geometry) (t : List ℕ) (s l : ℕ) {b : ℕ} → (b + 1) % 2 ^ 64 ≡ l → b < 2 ^ 64 → blocks g ≤ b → younger (view_of g t) s l ≡ []
young_outside g t s l {b} e k h =
    cases (same? l 0) (λ z. young_none (view_of g t) s l z) (λ z. young_beyond g t s l (omega arith))

module _ (g : Geometry) (t : List ℕ) (s l : ℕ) {b birth : ℕ} (e : (b + 1) % 2 ^ 64 ≡ l) (h : b < blocks g) (few : blocks g ≤ 2048)
    (f : birth ≡ get_or t (birth_cell g.records b) 0) where
  next : l ≡ suc b
  next = omega arith

  born : birth ≡ (view_of g t).birth b
  born = f ∙ sym (birth_is g t b h)

  pub young_not : birth ≤ base_num (view_of g t) s → younger (view_of g t) s l ≡ []
  unfolding younger
  young_not k = rw (next, le-ltb (base_num (view_of g t) s) ((view_of g t).birth b) (rw born at k))

  pub young_yes : base_num (view_of g t) s < birth → younger (view_of g t) s l ≡ b ∷ []
  unfolding younger
  young_yes k = rw (next, lt-ltb (base_num (view_of g t) s) ((view_of g t).birth b) (rw born at k))

-- nothing is stamped, one block is
module _ (v : ℕ) (m : List ℕ) {l : List ℕ} where
  pub stamp_none : l ≡ [] → (0 ≡ length l) × (seen m ≡ stamped v (seen m) l)
  unfolding stamped
  stamp_none e = rw e (refl, refl)

  pub stamp_one : (b w : ℕ) → w ≡ v → l ≡ b ∷ [] → b < length m → (1 ≡ length l) × (seen (set m b w) ≡ stamped v (seen m) l)
  unfolding stamped
  stamp_one b w d e h = rw (e, d) (refl, seen_set m b v h)
