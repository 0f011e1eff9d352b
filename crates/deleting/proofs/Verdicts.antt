-- The verdict on a deletion: what the code's tests say of it, and what it says of the reply.
use mathlib.Core.Path.{◌≡◌, refl, sym, ap, ap₂, ◌∙◌}
use mathlib.Core.Bool.{Bool, true, false, cond}
use mathlib.Core.List.{List}
use Prim.Native.Nat.{ℕ, zero, suc, pred, ◌-◌, ◌≤◌, ◌<◌}
use native.Mathlib.Omega.{arith}
use lib.Dec.{eqb, ltb}
use lib.ListN.{get_or}
use borrow.Author.Tests.{eq-eqb, ne_eqb, lt-ltb, le-ltb}
use Rattle.std.specs.Prelude.{Result, Ok, Err}
use Rattle.answer.specs.declared.Refusal.{Refusal}
use Rattle.answer.specs.declared.Refusal.TheVariants.{NoSuchRecord, HasFork, HasName}
use Rattle.answer.specs.Number.{number_of}
use Rattle.answer.specs.Reply.{accepted, refused}
use Rattle.answer.specs.Refusal.{decide}
use Rattle.geometry.specs.declared.Geometry.{Geometry}
use Rattle.model.specs.Actions.{slot_of, follower, forked}
use Rattle.model.specs.State.{State}
use Rattle.model.specs.Calls.{slot, result, undeletable}
use Rattle.model.specs.Layout.{name_cell, view_of, state_of}
use Rattle.model.specs.Command.{Delete, Estimate}
use Rattle.model.proofs.Fine.{Fine}
use Rattle.tables.specs.Ready.{Ready}
use Rattle.tables.specs.Outcome.{replied}
use Rattle.tables.proofs.Fields
use Rattle.deleting.specs.Verdict.{verdict_of}

pub ready_fine : {g : Geometry} {t : List ℕ} → Ready g t → Fine g (state_of g t)
unfolding state_of view_of
ready_fine R = record {
  sound = R.sound;
  slots = refl;
  pages = refl;
  blocks = refl;
  range = R.range;
  queue = R.queue;
  waits = R.waiting;
  windows = R.windows;
  names = R.names;
}

abbrev pub Verdict : Type 0
Verdict = Result (ℕ × ℕ) Refusal

abbrev accept : ℕ → ℕ → Verdict
accept s f = Ok (s, f)

-- ── the code's tests ──

pred_is : (l : ℕ) → (l ≡ 0 → ⊥) → pred l ≡ l - 1
pred_is zero n = absurd (n refl)
pred_is (suc l) n = omega arith

module _ (g : Geometry) (t : List ℕ) (r l : ℕ) (e : l ≡ slot_of (view_of g t) r) where
  abbrev T : State
  T = state_of g t

  pub no_slot : l ≡ 0 → Err NoSuchRecord ≡ verdict_of (state_of g t) r
  unfolding verdict_of state_of
  no_slot z = rw (eq-eqb (slot_of (view_of g t) r) 0 (sym e ∙ z))

  module _ (n : l ≡ 0 → ⊥) where
    pub slot_is : slot (state_of g t) r ≡ l - 1
    unfolding state_of
    slot_is = ap pred (sym e) ∙ pred_is l n

    pub has_slot : eqb (slot_of (state_of g t).view r) 0 ≡ false
    unfolding state_of
    has_slot = ne_eqb (slot_of (view_of g t) r) 0 (λ z. n (e ∙ z))

    pub names_are : l ≤ g.records → (state_of g t).notes.names (slot (state_of g t) r) ≡ get_or t (name_cell (l - 1)) 0
    names_are below = ap T.notes.names slot_is ∙ Fields.names_is g t (l - 1) (let h : l - 1 < g.records = omega arith in h)

    pub has_fork : (f : Bool) → f ≡ ltb 0 (forked (view_of g t) (l - 1)) → f ≡ true → Err HasFork ≡ verdict_of (state_of g t) r
    unfolding verdict_of state_of
    has_fork f d y = rw (has_slot, ap (λ s. ltb 0 (forked (view_of g t) s)) slot_is ∙ sym d ∙ y)

    module _ (f : Bool) (d : f ≡ ltb 0 (forked (view_of g t) (l - 1))) (z : f ≡ false) (below : l ≤ g.records) where
      no_fork : ltb 0 (forked T.view (slot T r)) ≡ false
      unfolding state_of
      no_fork = ap (λ s. ltb 0 (forked (view_of g t) s)) slot_is ∙ sym d ∙ z

      pub has_name_lem : 0 < get_or t (name_cell (l - 1)) 0 → Err HasName ≡ verdict_of (state_of g t) r
      unfolding verdict_of
      has_name_lem h = rw (has_slot, no_fork, lt-ltb 0 (T.notes.names (slot T r)) (omega (arith, names_are below)))

      pub goes : get_or t (name_cell (l - 1)) 0 ≤ 0 → (o : ℕ) → o ≡ follower (view_of g t) (l - 1) → Ok (l - 1, o) ≡ verdict_of (state_of g t) r
      unfolding verdict_of state_of
      goes h o eo =
          let no_name_lem : ltb 0 (T.notes.names (slot T r)) ≡ false = le-ltb 0 (T.notes.names (slot T r)) (omega (arith, names_are below)) in
          rw (has_slot, no_fork, no_name_lem) (ap₂ (λ (s o : ℕ). accept s o) (sym slot_is) (eo ∙ ap (follower (view_of g t)) (sym slot_is)))

-- ── what the verdict says ──

abbrev chain : Bool → Bool → Bool → Verdict → Verdict
chain a b c v = cond a (Err NoSuchRecord) (cond b (Err HasFork) (cond c (Err HasName) v))

-- the reply of an equal refusal
same_refusal : {j k : Refusal} → ◌≡◌ {A = Verdict} (Err j) (Err k) → refused (number_of j) ≡ refused (number_of k)
same_refusal {j} {k} e = let q : j ≡ k = cc in ap (λ (r : Refusal). refused (number_of r)) q

refused_chain : (a b c : Bool) (s f : ℕ) (k : Refusal) (l : List ℕ) → chain a b c (accept s f) ≡ Err k →
    cond a (refused 8) (cond b (refused 10) (cond c (refused 18) (accepted l))) ≡ refused (number_of k)
refused_chain true b c s f k l e = same_refusal e
refused_chain false true c s f k l e = same_refusal e
refused_chain false false true s f k l e = same_refusal e
refused_chain false false false s f k l e = absurd (let z : ◌≡◌ {A = ℕ} 0 1 = cc in omega arith)

same_slot : {p q : ℕ × ℕ} → ◌≡◌ {A = Verdict} (Ok p) (Ok q) → p ≡ q
same_slot e = cc

-- what acceptance tells: the refusals, by their numbers, that are not true, the slot, and what follows
pub record Told (T : State) (r s f : ℕ) : Type 0 where
  pub eight : eqb (slot_of T.view r) 0 ≡ false
  pub ten : ltb 0 (forked T.view (slot T r)) ≡ false
  pub eighteen : ltb 0 (T.notes.names (slot T r)) ≡ false
  pub at : slot T r ≡ s
  pub next : follower T.view (slot T r) ≡ f

accept_chain : (a b c : Bool) (s f s' f' : ℕ) → chain a b c (accept s f) ≡ accept s' f' → (a ≡ false) × (b ≡ false) × (c ≡ false) × (s ≡ s') × (f ≡ f')
accept_chain true b c s f s' f' e = absurd (let z : ◌≡◌ {A = ℕ} 0 1 = cc in omega arith)
accept_chain false true c s f s' f' e = absurd (let z : ◌≡◌ {A = ℕ} 0 1 = cc in omega arith)
accept_chain false false true s f s' f' e = absurd (let z : ◌≡◌ {A = ℕ} 0 1 = cc in omega arith)
accept_chain false false false s f s' f' e = let w = same_slot e in (refl, refl, refl, ap (λ (p : ℕ × ℕ). p.0) w, ap (λ (p : ℕ × ℕ). p.1) w)

module _ (g : Geometry) (t : List ℕ) (r : ℕ) where
  -- the calls D and Q meet the same refusals
  refusals : (k : Refusal) (l : List ℕ) → Err k ≡ verdict_of (state_of g t) r → decide (undeletable (state_of g t) r) l ≡ refused (number_of k)
  unfolding verdict_of
  refusals k l e =
      let U : State = state_of g t in
      refused_chain (eqb (slot_of U.view r) 0) (ltb 0 (forked U.view (slot U r))) (ltb 0 (U.notes.names (slot U r)))
      (slot U r) (follower U.view (slot U r)) k l (sym e)

  pub delete_refusal : (k : Refusal) → Err k ≡ verdict_of (state_of g t) r → replied g t (Delete r) ≡ refused (number_of k)
  unfolding replied
  delete_refusal k e = refusals k (result g (state_of g t) (Delete r)) e

  pub estimate_refusal : (k : Refusal) → Err k ≡ verdict_of (state_of g t) r → replied g t (Estimate r) ≡ refused (number_of k)
  unfolding replied
  estimate_refusal k e = refusals k (result g (state_of g t) (Estimate r)) e

  pub acceptance : (s f : ℕ) → Ok (s, f) ≡ verdict_of (state_of g t) r → Told (state_of g t) r s f
  unfolding verdict_of
  acceptance s f e =
      let U : State = state_of g t in
      let w = accept_chain (eqb (slot_of U.view r) 0) (ltb 0 (forked U.view (slot U r))) (ltb 0 (U.notes.names (slot U r)))
      (slot U r) (follower U.view (slot U r)) s f (sym e) in
      record { eight = w.0; ten = w.1; eighteen = w.2; at = w.3; next = w.4 }
