-- A walk along the records of a line, oldest first, that deletes some of them.
use mathlib.Core.Path.{◌≡◌, refl, sym, ap, ◌∙◌, fun_ext}
use mathlib.Core.Logic.{inl, inr}
use mathlib.Core.Bool.{Bool, true, false}
use mathlib.Core.List.{List, [], ◌∷◌, map}
use Prim.Native.Nat.{ℕ, suc, pred, ◌-◌, ◌<◌}
use native.Mathlib.Omega.{arith}
use borrow.Author.Tests.{lt-ltb}
use Rattle.answer.proofs.Cases.{cases}
use Rattle.model.specs.View.{View}
use Rattle.model.specs.Lists.{In, trim_walk}
use Rattle.model.specs.Sound.{Sound}
use Rattle.model.specs.Effects.{leave, unlink}
use Rattle.model.specs.Actions.{do_d, follower, forked, delete_at, delete}
use Rattle.model.specs.Window.{sealed_of, bare}
use Rattle.model.proofs.TabFacts.{put_same}
use Rattle.model.proofs.WindowLine.{Chain, sealed_chain}
use Rattle.model.proofs.WindowFacts.{bare_same}
use Rattle.model.proofs.WindowDelete.{follower_is, cut_live, prev_stays, fork_cut}
use Rattle.retaining.specs.Deletes.{oldest}

-- ── the deletes, record by record ──

module _ (K : View) (names : ℕ → ℕ) where
  pub oldest_none : (l : List ℕ) → oldest K names 0 l ≡ []
  unfolding oldest trim_walk
  oldest_none [] = refl
  oldest_none (s ∷ []) = refl
  oldest_none (s ∷ t ∷ l) = oldest_none (t ∷ l)

  pub oldest_last : (k s : ℕ) → oldest K names k (s ∷ []) ≡ []
  unfolding oldest trim_walk
  oldest_last k s = refl

  module _ (k s u : ℕ) (m : List ℕ) (some : 0 < k) where
    pub oldest_goes : bare K names s ≡ true → oldest K names k (s ∷ u ∷ m) ≡ do_d s ∷ oldest K names (k - 1) (u ∷ m)
    unfolding oldest trim_walk
    oldest_goes b =
        rw (lt-ltb 0 k some, b) (ap (λ j. do_d s ∷ oldest K names j (u ∷ m)) (let z : pred k ≡ k - 1 = omega arith in z))

    pub oldest_stays : bare K names s ≡ false → oldest K names k (s ∷ u ∷ m) ≡ oldest K names k (u ∷ m)
    unfolding oldest trim_walk
    oldest_stays b = rw (lt-ltb 0 k some, b)

-- where the same records may go
oldest_same : (K L : View) (names : ℕ → ℕ) → ((t : ℕ) → bare L names t ≡ bare K names t) → (k : ℕ) (l : List ℕ) → oldest L names k l ≡ oldest K names k l
unfolding oldest
oldest_same K L names e k l = ap (λ (p : ℕ → Bool). map do_d (trim_walk p k l)) (fun_ext e)

-- ── what is left of the line ──

-- the records of l follow one another, and the last is r
pub record Ahead (K : View) (r : ℕ) (l : List ℕ) : Type 0 where
  pub start : ℕ
  pub chain : Chain K start l (suc r)

pub ahead_first : (K : View) → Sound K → (r : ℕ) → 0 < K.num r → Ahead K r (sealed_of K r)
ahead_first K S r h = record { start = 0; chain = sealed_chain K S r h }

-- along a chain numbers rise, the base is the same, and the last is there
module _ (K : View) (S : Sound K) where
  above : (l : List ℕ) (p e x : ℕ) → Chain K (suc p) l e → In x l → K.num p < K.num x
  above [] p e x c i = absurd i
  above (t ∷ l) p e x (ht, et, c) i =
      let o = S.links.prevs t p ht et in
      cases i (λ d. omega (arith, o.older, ap K.num d)) (λ j. omega (arith, o.older, above l t e x c j))

  based : (l : List ℕ) (p e x : ℕ) → Chain K (suc p) l e → In x l → K.base p ≡ K.base x
  based [] p e x c i = absurd i
  based (t ∷ l) p e x (ht, et, c) i =
      let o = S.links.prevs t p ht et in
      cases i (λ d. o.base ∙ ap K.base (sym d)) (λ j. o.base ∙ based l t e x c j)

  ending : (t : ℕ) (l : List ℕ) (a r : ℕ) → Chain K a (t ∷ l) (suc r) → In r (t ∷ l) × (0 < K.num r)
  ending t [] a r (ht, et, c) =
      let d : r ≡ t = (let z : r ≡ t = omega arith in z) in
      (inl d, omega (arith, ap K.num d))
  ending t (u ∷ l) a r (ht, et, c) = let w = ending u l (suc t) r c in (inr w.0, w.1)

  -- s is the first, and u follows it
  module _ (r s u : ℕ) (m : List ℕ) (A : Ahead K r (s ∷ u ∷ m)) where
    pub first_live : 0 < K.num s
    first_live = A.chain.0

    pub second_live : 0 < K.num u
    second_live = A.chain.2.0

    second_prev : K.prev u ≡ suc s
    second_prev = A.chain.2.1

    pub first_follower : follower K s ≡ suc u
    first_follower = follower_is K S s u second_live second_prev

    pub ahead_stays : Ahead K r (u ∷ m)
    ahead_stays = record { start = suc s; chain = A.chain.2 }

    last_in : In r (u ∷ m) × (0 < K.num r)
    last_in = ending u m (suc s) r A.chain.2

    last_live : 0 < K.num r
    last_live = last_in.1

    -- none of the others is s
    first_apart : (x : ℕ) → In x (u ∷ m) → x ≡ s → ⊥
    first_apart x i e = let z : ⊥ = omega (arith, above (u ∷ m) s (suc r) x A.chain.2 i, ap K.num e) in z

    -- s is deleted
    module _ (none : forked K s ≡ 0) where
      second_link : (delete K s).prev u ≡ K.prev s
      unfolding delete delete_at unlink leave
      second_link = ap (λ l. (delete_at K s l).prev u) first_follower ∙ put_same K.prev u (K.prev s)

      rest : (l : List ℕ) (p e : ℕ) → Chain K (suc p) l e → (p ≡ s → ⊥) →
          ((x : ℕ) → In x l → x ≡ s → ⊥) → Chain (delete K s) (suc p) l e
      rest [] p e c n a = c
      rest (t ∷ l) p e (ht, et, c) n a = (
        cut_live K S s first_live none t (a t (inl refl)) ht,
        prev_stays K S s first_live none t ht (λ d. n (let z : p ≡ s = omega arith in z)) ∙ et,
        rest l t e c (a t (inl refl)) (λ x i. a x (inr i)),
      )

      pub ahead_goes : Ahead (delete K s) r (u ∷ m)
      ahead_goes = record {
        start = K.prev s;
        chain = (
          cut_live K S s first_live none u (first_apart u (inl refl)) second_live,
          second_link,
          rest m u (suc r) A.chain.2.2 (first_apart u (inl refl)) (λ x i. first_apart x (inr i)),
        );
      }

      pub oldest_then : (names : ℕ → ℕ) (k : ℕ) (l : List ℕ) → oldest (delete K s) names k l ≡ oldest K names k l
      oldest_then names =
          oldest_same K (delete K s) names (λ t. bare_same K (delete K s) names t
          (fork_cut K S s first_live none r last_live (first_apart r last_in.0) (based (u ∷ m) s (suc r) r A.chain.2 last_in.0) t))
