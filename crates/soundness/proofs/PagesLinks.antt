-- Links of a stranger's tables, clamped, and what stands behind them.
use Rattle.std.proofs.Common.{◌≡◌, ℕ, zero, suc, ◌-◌, ◌<◌, ◌≤◌, Bool, not, eqb, ltb, List, get_or, sym, refl, ap, ◌∙◌, ap₂}
use Rattle.std.proofs.Common.{arith, le-leb}
use borrow.Author.Tests.{lt-leb}
use Rattle.answer.proofs.Cases.{cases, lt?}
use Rattle.geometry.specs.declared.Geometry.{Geometry}
use Rattle.model.specs.Table.{via, first_link}
use Rattle.model.specs.View.{View, parent, pred_num, base_num, page_of}
use Rattle.model.specs.Layout.{num_cell, prev_cell, base_cell, page_cell, view_of}
use Rattle.tables.proofs.Fields.{num_is, num_out, prev_is, base_is, page_is, page_out_slot}
use Rattle.soundness.specs.Pages.{reached, kin_of}
use Rattle.soundness.proofs.Loops.{positive}

module _ (R l : ℕ) where
  pub reached_in : l ≤ R → l ≡ reached R l
  unfolding reached
  reached_in h = rw (le-leb l R h)

  pub reached_out : R < l → 0 ≡ reached R l
  unfolding reached
  reached_out h = rw (lt-leb l R h)

-- behind a link that is clamped stands what stands behind the link
reached_via : (f : ℕ → ℕ) (R l : ℕ) → ((p : ℕ) → R ≤ p → f p ≡ 0) → via f (reached R l) ≡ via f l
unfolding via
reached_via f R zero h = rw (← reached_in R 0 (omega arith))
reached_via f R (suc p) h =
    cases (lt? R (suc p))
    (λ k. rw (← reached_out R (suc p) k) (sym (h p (omega arith))))
    (λ k. rw (← reached_in R (suc p) k))

module _ (g : Geometry) (t : List ℕ) where
  pub page_reached : (l x : ℕ) → page_of (view_of g t) (reached g.records l) x ≡ page_of (view_of g t) l x
  page_reached l x = reached_via (λ s. (view_of g t).page s x) g.records l (λ p h. page_out_slot g t p x h)

  num_reached : (l : ℕ) → via (view_of g t).num (reached g.records l) ≡ via (view_of g t).num l
  num_reached l = reached_via (view_of g t).num g.records l (num_out g t)

  -- as the code reads it
  pub page_none : (l x : ℕ) → l ≡ 0 → 0 ≡ page_of (view_of g t) l x
  unfolding via
  page_none l x e = rw e

  pub page_some : (l x : ℕ) {r : ℕ} → (l ≡ 0 → ⊥) → l ≤ g.records → x < g.pages → r ≡ get_or t (page_cell (l - 1) x) 0 → r ≡ page_of (view_of g t) l x
  unfolding via
  page_some zero x n h k e = absurd (n refl)
  page_some (suc p) x n h k e =
      let z : suc p - 1 ≡ p = omega arith in
      (rw z at e) ∙ sym (page_is g t p x (omega arith) k)

-- ── the record's kin ──

first_none : (p q : ℕ) → p ≡ 0 → first_link p q ≡ q
unfolding first_link
first_none p q e = rw e

first_some : (p q : ℕ) → (p ≡ 0 → ⊥) → first_link p q ≡ p
unfolding first_link
first_some zero q n = absurd (n refl)
first_some (suc p) q n = refl

kin_is : (K : View) (s : ℕ) {a b c e : ℕ} {d : Bool} → a ≡ K.num s → b ≡ reached K.slots (parent K s) → c ≡ pred_num K s → d ≡ ltb 0 (K.prev s) →
    e ≡ base_num K s → record { number = a; pred = b; older = c; listing = d; root = e } ≡ kin_of K s
kin_is K s h i j k l = rw (h, i, j, k, l)

-- number n, and links p and q to the record before it and to its base; the pred is a link too
module _ (g : Geometry) (t : List ℕ) (s : ℕ) (hs : s < g.records) {n p q : ℕ} (en : n ≡ get_or t (num_cell s) 0)
    (ep : p ≡ get_or t (prev_cell s) 0) (eq : q ≡ get_or t (base_cell s) 0) where
  prev_said : p ≡ (view_of g t).prev s
  prev_said = ep ∙ sym (prev_is g t s hs)

  base_said : q ≡ (view_of g t).base s
  base_said = eq ∙ sym (base_is g t s hs)

  parent_said : parent (view_of g t) s ≡ first_link p q
  parent_said = ap₂ first_link (sym prev_said) (sym base_said)

  -- no record before it: the pred is the base
  pub pred_first : {l : ℕ} → l ≡ reached g.records q → p ≡ 0 → l ≡ reached g.records (first_link p q)
  pred_first e z = e ∙ ap (reached g.records) (sym (first_none p q z))

  -- the record before it is the pred
  pub pred_next : {l : ℕ} → l ≡ reached g.records p → (p ≡ 0 → ⊥) → l ≡ reached g.records (first_link p q)
  pred_next e d = e ∙ ap (reached g.records) (sym (first_some p q d))

  pub kin_said : {pred base older root : ℕ} → pred ≡ reached g.records (first_link p q) → base ≡ reached g.records q →
      older ≡ via (view_of g t).num pred → root ≡ via (view_of g t).num base →
      record { number = n; pred = pred; older = older; listing = not (eqb p 0); root = root } ≡ kin_of (view_of g t) s
  unfolding view_of
  kin_said {pred} {base} {older} {root} el eb eo er =
      let ed : pred ≡ reached g.records (parent (view_of g t) s) = el ∙ ap (reached g.records) (sym parent_said) in
      kin_is (view_of g t) s (en ∙ sym (num_is g t s hs)) ed
      (eo ∙ ap (via (view_of g t).num) ed ∙ num_reached g t (parent (view_of g t) s))
      (positive p ∙ ap (ltb 0) prev_said)
      (er ∙ ap (via (view_of g t).num) eb ∙ num_reached g t q ∙ ap (via (view_of g t).num) base_said)
