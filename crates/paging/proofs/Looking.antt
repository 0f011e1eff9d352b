-- The record that a call names, and R: what stands on a page, with its birth.
use mathlib.Core.Path.{◌≡◌, refl, sym, ap, ◌∙◌, subst}
use mathlib.Core.Bool.{Bool, true, false, cond, true≢false, false≢true}
use mathlib.Core.List.{List, [], ◌∷◌}
use Prim.Native.Nat.{ℕ, suc, pred, ◌-◌, ◌≤◌, ◌<◌}
use native.Mathlib.Omega.{arith}
use lib.Dec.{eqb}
use lib.ListN.{length, get_or, set}
use lib.Seq.{sets}
use borrow.Author.Tests.{le-leb, lt-leb, eq-eqb, ne_eqb}
use Rattle.answer.specs.Reply.{refused, reply_of}
use Rattle.answer.specs.Refusal.{NoneHolds}
use Rattle.std.specs.Prelude.{Ok}
use Rattle.geometry.specs.declared.Geometry.{Geometry}
use Rattle.geometry.specs.Limits.{blocks}
use Rattle.model.specs.Command.{Read}
use Rattle.model.specs.Lists.{on_page}
use Rattle.model.specs.Actions.{slot_of}
use Rattle.model.specs.Calls.{slot, conditions, result}
use Rattle.model.specs.Held.{erased}
use Rattle.model.specs.Layout.{open_cell, page_cell, birth_cell, view_of, state_of}
use Rattle.model.specs.Results.{paired}
use Rattle.model.proofs.Fine.{Fine, slot_named}
use Rattle.tables.specs.Ready.{Ready, OutLong}
use Rattle.tables.specs.Outcome.{replied, out_left}
use Rattle.tables.proofs.Fields
use Rattle.tables.proofs.Ranges
use Rattle.paging.specs.Target.{frees_of}
use Rattle.paging.proofs.Answers

pub ready_fine : {g : Geometry} {t : List ℕ} → Ready g t → Fine g (state_of g t)
unfolding state_of view_of
ready_fine R = record {
  sound = R.sound;
  slots = refl;
  pages = refl;
  blocks = refl;
  range = R.range;
  queue = R.queue;
  waits = R.waiting;
  windows = R.windows;
  names = R.names;
}

-- no more log words are used than there are
pub used_le : {g : Geometry} {t : List ℕ} → Ready g t → get_or t 9 0 ≤ g.words
unfolding state_of
used_le R = R.range.used

-- of a copy of the geometry: what `frees_on` asks and gives
abbrev AskedOf : Geometry → List ℕ → ℕ → ℕ → Type 0
AskedOf g t s x = Ready g t × (s < g.records) × (0 < (view_of g t).num s) × (x < g.pages)

pub copy_asked : {h g : Geometry} → h ≡ g → (t : List ℕ) (s x : ℕ) → AskedOf g t s x → AskedOf h t s x
copy_asked e t s x = subst (λ k. AskedOf k t s x) (sym e)

pub copy_frees : {h g : Geometry} → h ≡ g → (t : List ℕ) (s x f : ℕ) → f ≡ length (erased (view_of h t) s ((view_of h t).page s x)) →
    f ≡ length (erased (view_of g t) s ((view_of g t).page s x))
copy_frees e t s x f = subst (λ k. f ≡ length (erased (view_of k t) s ((view_of k t).page s x))) e

-- a test that passes, and one that does not
pub cond_here : {A : Type 0} (b : Bool) (x y : A) → b ≡ true → cond b x y ≡ x
cond_here true x y e = refl
cond_here false x y e = absurd (false≢true e)

pub cond_next : {A : Type 0} (b : Bool) (x y z : A) → b ≡ false → y ≡ z → cond b x y ≡ z
cond_next true x y z e d = absurd (true≢false e)
cond_next false x y z e d = d

pub eight_yes : (g : Geometry) (t : List ℕ) (n l : ℕ) → l ≡ slot_of (view_of g t) n → l ≡ 0 → eqb (slot_of (state_of g t).view n) 0 ≡ true
unfolding state_of
eight_yes g t n l e z = eq-eqb (slot_of (view_of g t) n) 0 (sym e ∙ z)

-- l is the link to the record of number n
module _ {g : Geometry} {t : List ℕ} (R : Ready g t) (n l : ℕ) (e : l ≡ slot_of (view_of g t) n) (used : l ≡ 0 → ⊥) where
  pub slot_is : slot (state_of g t) n ≡ l - 1
  unfolding state_of
  slot_is = let d : pred (slot_of (view_of g t) n) ≡ l - 1 = omega arith in d

  pub named_live : 0 < (view_of g t).num (l - 1)
  unfolding state_of
  named_live = let h = (slot_named (view_of g t) (Ranges.sound R) n (omega arith)).0 in omega (arith, h, ap (view_of g t).num slot_is)

  pub eight_no : eqb (slot_of (state_of g t).view n) 0 ≡ false
  unfolding state_of
  eight_no = ne_eqb (slot_of (view_of g t) n) 0 (λ z. used (e ∙ z))

  named_open : (state_of g t).view.is_open (slot (state_of g t) n) ≡ get_or t (open_cell (l - 1)) 0
  unfolding state_of
  named_open = ap (view_of g t).is_open slot_is ∙ Fields.open_is g t (l - 1) (Ranges.slot_in R (l - 1) named_live)

  pub nine_yes : get_or t (open_cell (l - 1)) 0 ≡ 0 → eqb ((state_of g t).view.is_open (slot (state_of g t) n)) 0 ≡ true
  nine_yes o = eq-eqb _ 0 (named_open ∙ o)

  pub nine_no : (get_or t (open_cell (l - 1)) 0 ≡ 0 → ⊥) → eqb ((state_of g t).view.is_open (slot (state_of g t) n)) 0 ≡ false
  nine_no o = ne_eqb _ 0 (λ z. o (sym named_open ∙ z))

  -- how many blocks page x of it frees; v is x as it was read
  pub frees_are : (v x f : ℕ) → v ≡ x → f ≡ length (erased (view_of g t) (l - 1) ((view_of g t).page (l - 1) v)) →
      f ≡ length (frees_of g t (slot (state_of g t) n) x)
  unfolding state_of
  frees_are v x f ev ef = ef ∙ ap (λ y. length (frees_of g t (l - 1) y)) ev ∙ ap (λ s. length (frees_of g t s x)) (sym slot_is)

-- ── R, on page x of record n; w is x as it was read ──

module _ (g : Geometry) (t : List ℕ) (n x w : ℕ) (ew : w ≡ x) where
  pub read_5 : g.pages ≤ w → replied g t (Read n x) ≡ refused 5
  unfolding replied
  read_5 h = rw (le-leb g.pages x (omega arith))

  pub read_8 : (l : ℕ) → w < g.pages → l ≡ slot_of (view_of g t) n → l ≡ 0 → replied g t (Read n x) ≡ refused 8
  unfolding replied state_of
  read_8 l h e z = rw (lt-leb g.pages x (omega arith), ← e, z)

  module _ (R : Ready g t) (l : ℕ) (h : w < g.pages) (e : l ≡ slot_of (view_of g t) n) (used : l ≡ 0 → ⊥) where
    read_none_holds : NoneHolds (conditions g (state_of g t) (Read n x))
    unfolding state_of
    read_none_holds = (lt-leb g.pages x (omega arith), (ne_eqb (slot_of (view_of g t) n) 0 (λ z. used (e ∙ z)), tt))

    -- b is the page's link as it was read
    module _ (v b : ℕ) (ev : v ≡ x) (eb : b ≡ get_or t (page_cell (l - 1) v) 0) where
      pub read_le : b ≤ blocks g
      read_le = omega (arith, eb, Ranges.page_cell_le R (l - 1) (named_live R n l e used) v (omega arith))

      on_page_lem : (state_of g t).view.page (slot (state_of g t) n) x ≡ b
      unfolding state_of
      on_page_lem =
          ap (λ s. (view_of g t).page s x) (slot_is R n l e used) ∙ ap ((view_of g t).page (l - 1)) (sym ev) ∙
          Fields.page_is g t (l - 1) v (Ranges.slot_in R (l - 1) (named_live R n l e used)) (omega arith) ∙ sym eb

      pub read_empty : (out : List ℕ) → b ≡ 0 → (reply_of (Ok 0) out ≡ replied g t (Read n x)) × (out ≡ out_left g t out (Read n x))
      unfolding on_page paired
      read_empty out z =
          let r : result g (state_of g t) (Read n x) ≡ [] = ap (λ l. paired (state_of g t).view.birth (on_page l)) (on_page_lem ∙ z) in
          Answers.done_out g t (Read n x) read_none_holds 0 out out (sym (ap length r)) (omega arith) (sym (ap (sets out 0) r))

      -- there is a block; c is its birth as it was read
      pub read_one : (c : ℕ) (out : List ℕ) → c ≡ get_or t (birth_cell g.records (b - 1)) 0 → OutLong g out → (b ≡ 0 → ⊥) →
          (reply_of (Ok 2) (set (set out 0 (b - 1)) 1 c) ≡ replied g t (Read n x)) × (set (set out 0 (b - 1)) 1 c ≡ out_left g t out (Read n x))
      unfolding on_page paired state_of
      read_one c out ec long nz =
          let d : b ≡ suc (b - 1) = omega arith in
          let f : (view_of g t).birth (b - 1) ≡ c = Fields.birth_is g t (b - 1) (omega (arith, read_le)) ∙ sym ec in
          let r : result g (state_of g t) (Read n x) ≡ (b - 1) ∷ c ∷ [] =
          ap (λ l. paired (view_of g t).birth (on_page l)) (on_page_lem ∙ d) ∙ ap (λ k. (b - 1) ∷ k ∷ []) f in
          Answers.done_out g t (Read n x) read_none_holds 2 out (set (set out 0 (b - 1)) 1 c) (sym (ap length r)) (omega arith) (sym (ap (sets out 0) r))
