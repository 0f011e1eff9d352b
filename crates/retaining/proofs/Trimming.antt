-- The deletes of a line's oldest records: at each turn, what is done and what is left to do are the whole.
use mathlib.Core.Path.{◌≡◌, refl, sym, ap, ap₂, ◌∙◌, subst}
use mathlib.Core.Bool.{true, false}
use mathlib.Core.List.{List, [], ◌∷◌}
use Prim.Native.Nat.{ℕ, suc, ◌+◌, ◌-◌, ◌≤◌, ◌<◌}
use native.Mathlib.Omega.{arith}
use native.Mathlib.Numerals.{add-one}
use lib.ListN.{length, get_or}
use Rattle.geometry.specs.declared.Geometry.{Geometry}
use Rattle.model.specs.View.{View}
use Rattle.model.specs.Sound.{Sound}
use Rattle.model.specs.State.{State, Notes}
use Rattle.model.specs.Actions.{Action, do_d, Asks, follower, forked, delete}
use Rattle.model.specs.Window.{sealed_of, bare, queueing}
use Rattle.model.specs.Layout.{view_of, state_of, stored}
use Rattle.model.specs.Memory.{stored_along}
use Rattle.model.proofs.LayoutFacts.{stored_length}
use Rattle.model.proofs.WindowFacts.{bare_is}
use Rattle.tables.specs.Ready.{Ready}
use Rattle.tables.proofs.Ranges
use Rattle.deleting.specs.Stages.{removed}
use Rattle.deleting.proofs.Leaving.{removed_is}
use Rattle.retaining.specs.Lines.{backwards, Lined}
use Rattle.retaining.specs.Deletes.{oldest, oldest_left}
use Rattle.retaining.proofs.Lining.{backwards_one, backwards_two, backwards_last}
use Rattle.retaining.proofs.Acting
use Rattle.retaining.proofs.Walking
use Rattle.retaining.proofs.Walking.{Ahead}

-- ── the walk ──

-- the deletes that are left in the tables t, where i numbers of the buffer are before the one that is looked at
abbrev pub ahead : Geometry → List ℕ → ℕ → List ℕ → ℕ → List Action
ahead g t left line i = oldest (view_of g t) (state_of g t).notes.names left (backwards line (suc i))

-- t are the tables so far, left says how many records may still go
pub record Walk (g : Geometry) (t₀ line : List ℕ) (r most : ℕ) (t : List ℕ) (left i : ℕ) : Type 0 where
  pub ready : Ready g t
  pub chain : Ahead (view_of g t) r (backwards line (suc i))
  pub tables : stored_along g (state_of g t) (ahead g t left line i) t ≡ oldest_left g t₀ most r
  pub same : length t ≡ length t₀

module _ {g : Geometry} {t₀ : List ℕ} (R₀ : Ready g t₀) (line : List ℕ) (r most : ℕ) where
  pub walk_first : (count : ℕ) → Lined (view_of g t₀) r line count → (i : ℕ) → suc i ≡ count → Walk g t₀ line r most t₀ most i
  unfolding oldest_left
  walk_first count L i e =
      let d : backwards line (suc i) ≡ sealed_of (view_of g t₀) r = ap (backwards line) e ∙ L.slots in
      let K : View = view_of g t₀ in
      record {
        ready = R₀;
        chain = subst (Ahead K r) (sym d) (Walking.ahead_first K (Ranges.sound R₀) r L.live);
        tables = ap (λ l. stored_along g (state_of g t₀) (oldest K (state_of g t₀).notes.names most l) t₀) d;
        same = refl;
      }

  module _ (t : List ℕ) (left i : ℕ) (W : Walk g t₀ line r most t left i) where
    abbrev K : View
    K = view_of g t

    abbrev T : State
    T = state_of g t

    abbrev names : ℕ → ℕ
    names = T.notes.names

    S : Sound K
    S = Ranges.sound W.ready

    -- ── the end ──

    ended : ahead g t left line i ≡ [] → t ≡ oldest_left g t₀ most r
    unfolding stored_along
    ended e = ap (λ l. stored_along g T l t) (sym e) ∙ W.tables

    pub walk_none : left ≡ 0 → t ≡ oldest_left g t₀ most r
    walk_none z = ended (ap (λ k. oldest K names k (backwards line (suc i))) z ∙ Walking.oldest_none K names (backwards line (suc i)))

    pub walk_last : i ≤ 0 → t ≡ oldest_left g t₀ most r
    walk_last h =
        ended (ap (λ j. oldest K names left (backwards line (suc j))) (let z : i ≡ 0 = omega arith in z) ∙
        ap (oldest K names left) (backwards_last line) ∙ Walking.oldest_last K names left (get_or line 0 0))

    pub walk_slot : get_or line i 0 < g.records
    unfolding backwards
    walk_slot = Ranges.slot_in W.ready (get_or line i 0) W.chain.chain.0

    -- ── a turn: s is looked at, and u follows it ──

    module _ (more : 0 < i) (some : 0 < left) (s u : ℕ) (es : s ≡ get_or line i 0) (eu : u ≡ get_or line (i - 1) 0) where
      abbrev m : List ℕ
      m = backwards line (i - 1)

      two : backwards line (suc i) ≡ s ∷ u ∷ m
      two = backwards_two line i more ∙ ap₂ {C = List ℕ} (λ (a b : ℕ). a ∷ b ∷ m) (sym es) (sym eu)

      one : backwards line (suc (i - 1)) ≡ u ∷ m
      one = backwards_one line (i - 1) ∙ ap {B = List ℕ} (λ (b : ℕ). b ∷ m) (sym eu)

      A : Ahead K r (s ∷ u ∷ m)
      A = subst (Ahead K r) two W.chain

      -- it stays
      pub walk_stays : bare (view_of g t) (state_of g t).notes.names s ≡ false → Walk g t₀ line r most t left (i - 1)
      walk_stays f =
          let d : ahead g t left line (i - 1) ≡ ahead g t left line i =
          ap (oldest K names left) one ∙ sym (ap (oldest K names left) two ∙ Walking.oldest_stays K names left s u m some f) in
          record {
            ready = W.ready;
            chain = subst (Ahead K r) (sym one) (Walking.ahead_stays K S r s u m A);
            tables = ap (λ l. stored_along g T l t) d ∙ W.tables;
            same = W.same;
          }

      -- it goes
      module _ (b : bare (view_of g t) (state_of g t).notes.names s ≡ true) where
        unforked : forked K s ≡ 0
        unforked = (bare_is K names s b).0

        nameless : names s ≡ 0
        nameless = (bare_is K names s b).1

        pub turn_asks : Asks (view_of g t) (do_d s)
        turn_asks = (Walking.first_live K S r s u m A, unforked)

        pub turn_follower : follower (view_of g t) s ≡ u + 1
        turn_follower = Walking.first_follower K S r s u m A ∙ sym (add-one u)

        pub turn_slot : u < g.records
        turn_slot = Ranges.slot_in W.ready u (Walking.second_live K S r s u m A)

        -- the deletes after it
        abbrev rest : List Action
        rest = oldest K names (left - 1) (u ∷ m)

        left_is : ahead g t left line i ≡ do_d s ∷ rest
        left_is = ap (oldest K names left) two ∙ Walking.oldest_goes K names left s u m some b

        -- as `delete_record` says it, with the link of the record that follows
        gone_is : removed T s (u + 1) ≡ queueing T (do_d s ∷ [])
        unfolding state_of
        gone_is = removed_is T s (u + 1) turn_follower

        -- the tables t₁ after it, as `delete_record` leaves them
        module _ (t₁ : List ℕ) (e₁ : t₁ ≡ stored g (removed (state_of g t) s (u + 1)) t) where
          e : t₁ ≡ stored g (queueing T (do_d s ∷ [])) t
          e = e₁ ∙ ap (λ U. stored g U t) gone_is

          state_is : state_of g t₁ ≡ queueing T (do_d s ∷ [])
          state_is = Acting.gone_says W.ready s turn_asks nameless t₁ e

          view_is : view_of g t₁ ≡ delete K s
          view_is = Acting.gone_view W.ready s turn_asks nameless t₁ e

          notes_are : (state_of g t₁).notes ≡ T.notes
          notes_are = Acting.gone_notes W.ready s turn_asks nameless t₁ e

          ahead_is : ahead g t₁ (left - 1) line (i - 1) ≡ rest
          ahead_is =
              ap₂ (λ (L : View) (N : Notes). oldest L N.names (left - 1) (backwards line (suc (i - 1)))) view_is notes_are ∙
              ap (oldest (delete K s) names (left - 1)) one ∙ Walking.oldest_then K S r s u m A unforked names (left - 1) (u ∷ m)

          tables_are : stored_along g (state_of g t₁) (ahead g t₁ (left - 1) line (i - 1)) t₁ ≡ oldest_left g t₀ most r
          unfolding stored_along
          tables_are =
              ap₂ (λ (B : State) (l : List Action). stored_along g B l t₁) state_is ahead_is ∙
              ap (stored_along g (queueing T (do_d s ∷ [])) rest) e ∙ sym (ap (λ l. stored_along g T l t) left_is) ∙ W.tables

          pub walk_goes : Walk g t₀ line r most t₁ (left - 1) (i - 1)
          walk_goes = record {
            ready = Acting.gone_ready W.ready s turn_asks nameless t₁ e;
            chain = subst (λ L. Ahead L r (backwards line (suc (i - 1)))) (sym view_is)
                (subst (Ahead (delete K s) r) (sym one) (Walking.ahead_goes K S r s u m A unforked));
            tables = tables_are;
            same = ap length e ∙ stored_length g (queueing T (do_d s ∷ [])) t ∙ W.same;
          }
