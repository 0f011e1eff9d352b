-- Each clause of the test, from the numbers that were read.
use Rattle.std.proofs.Common.{
  ◌≡◌,
  ℕ,
  zero,
  suc,
  ◌-◌,
  ◌<◌,
  Bool,
  true,
  false,
  not,
  ◌&&◌,
  ◌||◌,
  eqb,
  ltb,
  leb,
  List,
  get_or,
  sym,
  refl,
  ap,
  ◌∙◌,
  arith,
  le-ltb,
  lt-ltb,
  ne_eqb,
}
use mathlib.Core.Bool.{beq}
use Rattle.geometry.specs.declared.Geometry.{Geometry}
use Rattle.geometry.specs.Limits.{blocks}
use Rattle.alloc_log.specs.Marks.{held_in}
use Rattle.model.specs.Table.{all}
use Rattle.model.specs.View.{View}
use Rattle.model.specs.Held.{on_pages, held}
use Rattle.model.specs.Layout.{num_cell, open_cell, prev_cell, window_cell, birth_cell, view_of, state_of}
use Rattle.model.specs.Check.{imp, same, prev?, base?, two?}
use Rattle.model.specs.Memory.{windows?}
use Rattle.tables.proofs.Fields
use Rattle.soundness.specs.Pairs.{linked_to?}
use Rattle.soundness.specs.Queue.{Marked}
use Rattle.soundness.proofs.Loops.{all_at, all_same}

module _ (K : View) (s : ℕ) where
  -- ── the record behind a link ──

  pub base_none : {l : ℕ} → l ≡ 0 → true ≡ base? K s l
  unfolding base?
  base_none z = rw z

  base_of_lem : (l : ℕ) → (l ≡ 0 → ⊥) → ltb 0 (K.num (l - 1)) && eqb (K.is_open (l - 1)) 0 && ltb (K.num (l - 1)) (K.num s) ≡ base? K s l
  unfolding base?
  base_of_lem zero n = absurd (n refl)
  base_of_lem (suc p) n = let e : suc p - 1 ≡ p = omega arith in rw e

  pub base_some : (l : ℕ) {older opened number : ℕ} → (l ≡ 0 → ⊥) → older ≡ K.num (l - 1) → opened ≡ K.is_open (l - 1) → number ≡ K.num s →
      ltb 0 older && eqb opened 0 && ltb older number ≡ base? K s l
  base_some l n a b c = rw (a, b, c) (base_of_lem l n)

  pub base_is : {l : ℕ} {r : Bool} → l ≡ K.base s → r ≡ base? K s l → r ≡ base? K s (K.base s)
  base_is h e = e ∙ ap (base? K s) h

  module _ {l : ℕ} (h : l ≡ K.prev s) where
    pub prev_none : l ≡ 0 → true ≡ prev? K s (K.prev s)
    unfolding prev?
    prev_none z = let e : K.prev s ≡ 0 = sym h ∙ z in rw e

    prev_of : (l : ℕ) → (l ≡ 0 → ⊥) → base? K s l && eqb (K.base (l - 1)) (K.base s) ≡ prev? K s l
    unfolding prev? base?
    prev_of zero n = absurd (n refl)
    prev_of (suc p) n = let e : suc p - 1 ≡ p = omega arith in rw e

    pub prev_some : {older : Bool} {before base : ℕ} → (l ≡ 0 → ⊥) → older ≡ base? K s l → before ≡ K.base (l - 1) → base ≡ K.base s →
        older && eqb before base ≡ prev? K s (K.prev s)
    prev_some n a b c = rw (a, b, c, h) (prev_of (K.prev s) (rw h at n))

  -- ── a slot: it is empty, it is in use ──

  module _ {number : ℕ} (h : number ≡ K.num s) where
    pub slot_none : number ≡ 0 → true ≡ imp (ltb 0 (K.num s)) (linked_to? K s s)
    unfolding imp
    slot_none z = let e : ltb 0 (K.num s) ≡ false = le-ltb 0 (K.num s) (omega arith) in rw e

    pub slot_some : {last : ℕ} {others prev base : Bool} → (number ≡ 0 → ⊥) → last ≡ K.last →
        others ≡ all s (λ k. imp (ltb 0 (K.num k)) (two? K s k)) → prev ≡ prev? K s (K.prev s) → base ≡ base? K s (K.base s) →
        leb number last && others && prev && base ≡ imp (ltb 0 (K.num s)) (linked_to? K s s)
    unfolding imp linked_to?
    slot_some n a b c d = let p : ltb 0 (K.num s) ≡ true = lt-ltb 0 (K.num s) (omega arith) in rw (p, a, b, c, d, h)

-- ── numbers of the tables ──

-- slot k, if it is in use, has another number and follows another record
abbrev pub apart? : List ℕ → ℕ → ℕ → ℕ → Bool
apart? t number prev k =
    imp (ltb 0 (get_or t (num_cell k) 0)) (not (eqb number (get_or t (num_cell k) 0)) && not (ltb 0 prev && eqb prev (get_or t (prev_cell k) 0)))

-- what two slots may share only if they are one, they do not share
never : (l a b : Bool) {c : Bool} → c ≡ false → imp l (not a && not b) ≡ imp l (imp a c && imp b c)
unfolding imp
never l a b {c} h = rw h (ap (λ (x : Bool). not l || x) (go a b))
  where
    go : (a b : Bool) → (not a && not b) ≡ ((not a || false) && (not b || false))
    go true b = refl
    go false true = refl
    go false false = refl

module _ (g : Geometry) (t : List ℕ) where
  two_is : (s k : ℕ) → s < g.records → k < s →
      apart? t (get_or t (num_cell s) 0) (get_or t (prev_cell s) 0) k ≡ imp (ltb 0 ((view_of g t).num k)) (two? (view_of g t) s k)
  unfolding two?
  two_is s k h i =
      let l : k < g.records = omega arith in
      rw (Fields.num_is g t s h, Fields.num_is g t k l, Fields.prev_is g t s h, Fields.prev_is g t k l)
      (never (ltb 0 (get_or t (num_cell k) 0)) (eqb (get_or t (num_cell s) 0) (get_or t (num_cell k) 0))
      (ltb 0 (get_or t (prev_cell s) 0) && eqb (get_or t (prev_cell s) 0) (get_or t (prev_cell k) 0)) (ne_eqb s k (λ d. let z : ⊥ = omega arith in z)))

  -- slot s, and all before it
  pub others_are : (s : ℕ) {r : Bool} → s < g.records → r ≡ all s (apart? t (get_or t (num_cell s) 0) (get_or t (prev_cell s) 0)) →
      r ≡ all s (λ k. imp (ltb 0 ((view_of g t).num k)) (two? (view_of g t) s k))
  others_are s h e = e ∙ all_same s _ _ (λ k l. two_is s k h l)

  -- the window of slot s, and all of them
  abbrev pub window? : ℕ → Bool
  window? s = not (ltb 0 (get_or t (num_cell s) 0) && ltb 0 (get_or t (open_cell s) 0)) || leb (get_or t (window_cell s) 0) 62

  pub windows_are : {r : Bool} → r ≡ all g.records window? → r ≡ windows? (view_of g t) (state_of g t).notes
  unfolding windows?
  windows_are e =
      let p : ℕ → Bool = λ s. not (ltb 0 ((view_of g t).num s) && ltb 0 ((view_of g t).is_open s)) || leb ((state_of g t).notes.window s) 62 in
      e ∙ all_same g.records window? p (λ s h. rw (Fields.num_is g t s h, Fields.open_is g t s h, Fields.window_is g t s h)) ∙
      ap (λ n. all n p) (sym (Fields.slots_is g t))

  -- block b
  pub born_is : (b : ℕ) → b < blocks g → not (eqb (get_or t (birth_cell g.records b) 0) 0) ≡ on_pages (view_of g t) b
  unfolding on_pages
  born_is b h = rw (Fields.birth_is g t b h)

-- block b of a table of marks, against a test
pub mark_is : (m : List ℕ) (b : ℕ) (r : Bool) → beq (not (eqb (get_or m b 0) 0)) r ≡ same (held_in m b) r
unfolding held_in
mark_is m b r = go (not (eqb (get_or m b 0) 0)) r
  where
    go : (x y : Bool) → beq x y ≡ same x y
    go true true = refl
    go true false = refl
    go false true = refl
    go false false = refl

-- two marks that agree are one, and a table that agrees with the births stands for them
same_one : (a b : Bool) → same a b ≡ true → a ≡ b
same_one true true e = refl
same_one true false e = sym e
same_one false true e = e
same_one false false e = refl

pub own_are : (g : Geometry) (t m : List ℕ) → all (blocks g) (λ b. same (held_in m b) (on_pages (view_of g t) b)) ≡ true →
    Marked (blocks g) m (on_pages (view_of g t))
own_are g t m e b h = same_one (held_in m b) (on_pages (view_of g t) b) (all_at (blocks g) b (λ c. same (held_in m c) (on_pages (view_of g t) c)) h e)

pub held_are : (g : Geometry) (t m k : List ℕ) → Marked (blocks g) k (held (state_of g t)) →
    all (blocks g) (λ b. same (held_in m b) (held_in k b)) ≡ all (blocks g) (λ b. same (held_in m b) (held (state_of g t) b))
held_are g t m k f = all_same (blocks g) _ _ (λ b h. ap (same (held_in m b)) (f b h))
