-- The call D: what it asks of its parts once it is accepted, and that what they leave is what the model says.
use mathlib.Core.Path.{◌≡◌, refl, sym, ap, ◌∙◌, subst}
use mathlib.Core.List.{List, [], ◌∷◌}
use Prim.Native.Nat.{ℕ, zero, suc, ◌-◌, ◌≤◌}
use native.Mathlib.Omega.{arith}
use mathlib.Core.Bool.{◌&&◌}
use lib.Dec.{eqb, ltb}
use lib.ListN.{length, length-append}
use Rattle.answer.specs.Reply.{accepted, refused, reply_of}
use Rattle.std.specs.Prelude.{Ok, Err}
use Rattle.answer.specs.declared.Refusal.{Refusal}
use Rattle.answer.specs.Number.{number_of}
use Rattle.answer.proofs.Cases.{cases, either}
use Rattle.answer.proofs.Decided.{decide_accepts}
use Rattle.geometry.specs.declared.Geometry.{Geometry}
use Rattle.model.specs.View.{View, pred_num}
use Rattle.model.specs.Effects.{unlinked, young_at, pruned}
use Rattle.model.specs.Actions.{follower, live, do_d, Asks}
use Rattle.model.specs.Held.{deleted}
use Rattle.model.specs.State.{State}
use Rattle.model.specs.Window.{queueing}
use Rattle.model.specs.Calls.{conditions}
use Rattle.model.specs.Layout.{view_of, state_of, stored}
use Rattle.model.specs.Command.{Delete}
use Rattle.model.proofs.Fine.{asks_D}
use Rattle.model.proofs.TabFacts.{seek_found}
use Rattle.tables.specs.Ready.{Ready}
use Rattle.tables.specs.Outcome.{replied, tables_left}
use Rattle.tables.proofs.Fields
use Rattle.deleting.specs.Stages.{bypassed, unhooked, removed}
use Rattle.deleting.specs.Verdict.{verdict_of}
use Rattle.deleting.proofs.Parting.{unlinked_short}
use Rattle.deleting.proofs.Leaving.{removed_is}
use Rattle.deleting.proofs.Verdicts.{ready_fine, Told, acceptance}

-- ── how many blocks leave with a last record ──

-- a page has one block
young_short : (K : View) (s l : ℕ) → length (young_at K s l) ≤ 1
unfolding young_at
young_short K s zero = omega arith
young_short K s (suc b) = cases (either (ltb (pred_num K s) (K.birth b))) (λ y. rw y (omega arith)) (λ n. rw n (omega arith))

pruned_short : (K : View) (s k : ℕ) → length (pruned K s k) ≤ k
unfolding pruned
pruned_short K s zero = omega arith
pruned_short K s (suc k) =
    omega (arith, pruned_short K s k, young_short K s (K.page s k), length-append (pruned K s k) (young_at K s (K.page s k)))

-- ── the two ways of a deletion ──

module _ (g : Geometry) (t : List ℕ) (s : ℕ) where
  pub deleted_last : (f : ℕ) → f ≡ 0 → pruned (view_of g t) s g.pages ≡ deleted (view_of g t) s f
  unfolding deleted view_of
  deleted_last zero e = refl
  deleted_last (suc f) e = absurd (let z : ⊥ = omega arith in z)

  pub deleted_next : (f : ℕ) → (f ≡ 0 → ⊥) → unlinked (view_of g t) s (f - 1) ≡ deleted (view_of g t) s f
  unfolding deleted
  deleted_next zero n = absurd (n refl)
  deleted_next (suc f) n = ap (unlinked (view_of g t) s) (omega arith)

  -- no more than there are pages
  module _ (R : Ready g t) where
    pub deleted_most : (f : ℕ) → length (deleted (view_of g t) s f) ≤ g.pages
    unfolding deleted view_of
    deleted_most zero = pruned_short (view_of g t) s g.pages
    deleted_most (suc n) = unlinked_short R s n

  -- the tables on the two ways
  pub unhook_last : (f : ℕ) → f ≡ 0 → state_of g t ≡ unhooked (state_of g t) s f
  unfolding unhooked
  unhook_last zero e = refl
  unhook_last (suc f) e = absurd (let z : ⊥ = omega arith in z)

  pub unhook_next : (f : ℕ) → (f ≡ 0 → ⊥) → bypassed (state_of g t) s (f - 1) ≡ unhooked (state_of g t) s f
  unfolding unhooked
  unhook_next zero n = absurd (n refl)
  unhook_next (suc f) n = ap (bypassed (state_of g t) s) (omega arith)

-- ── a refusal leaves everything ──

module _ (g : Geometry) (t : List ℕ) (r : ℕ) (k : Refusal) (e : replied g t (Delete r) ≡ refused (number_of k)) where
  pub refuse_reply : (out : List ℕ) → reply_of (Err k) out ≡ replied g t (Delete r)
  unfolding reply_of
  refuse_reply out = sym e

  pub refuse_tables : t ≡ tables_left g t (Delete r)
  unfolding tables_left
  refuse_tables = rw e

-- ── acceptance ──

-- what follows is a record of the table
follower_below : (K : View) (s f : ℕ) → follower K s ≡ f → f ≤ K.slots
unfolding follower
follower_below K s zero e = omega arith
follower_below K s (suc n) e = omega (arith, (seek_found (λ m. live K m && eqb (K.prev m) (suc s)) K.slots 0 n e).2)

module _ (g : Geometry) (t : List ℕ) (R : Ready g t) (r s f : ℕ) (e : Ok (s, f) ≡ verdict_of (state_of g t) r) where
  abbrev T : State
  T = state_of g t

  abbrev told : Told (state_of g t) r s f
  told = acceptance g t r s f e

  pub accept_asks : Asks (view_of g t) (do_d s)
  unfolding state_of
  accept_asks = subst (λ z. Asks (view_of g t) (do_d z)) told.at (asks_D g R.roomy.inside T (ready_fine R) r told.eight told.ten)

  follows : follower T.view s ≡ f
  follows = ap (follower T.view) (sym told.at) ∙ told.next

  pub accept_follows : follower (view_of g t) s ≡ f
  unfolding state_of
  accept_follows = follows

  pub accept_below : f ≤ g.records
  accept_below = omega (arith, follower_below (view_of g t) s f accept_follows, Fields.slots_is g t)

  accept_reply : replied g t (Delete r) ≡ accepted []
  unfolding replied
  accept_reply = decide_accepts (conditions g T (Delete r)) [] (told.eight, (told.ten, (told.eighteen, tt)))

  pub accept_done : (out : List ℕ) → reply_of (Ok 0) out ≡ replied g t (Delete r)
  unfolding reply_of
  accept_done out = sym accept_reply

  pub accept_tables : (t₁ : List ℕ) → t₁ ≡ stored g (removed (state_of g t) s f) t → t₁ ≡ tables_left g t (Delete r)
  unfolding tables_left
  accept_tables t₁ e₁ =
      e₁ ∙ rw accept_reply (ap (λ U. stored g U t) (removed_is T s f follows ∙ ap (λ z. queueing T (do_d z ∷ [])) (sym told.at)))
