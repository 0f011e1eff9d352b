-- The shards that a deletion frees, counted: as births, and on the freed blocks themselves.
use mathlib.Core.Path.{◌≡◌, refl, sym, ap, ◌∙◌, subst}
use mathlib.Core.Logic.{inl, inr}
use mathlib.Core.Bool.{Bool, true, false, cond}
use mathlib.Core.List.{List, [], ◌∷◌, ◌++◌}
use Prim.Native.Nat.{ℕ, zero, suc, ◌+◌, ◌-◌, ◌≤◌, ◌<◌}
use native.Mathlib.Omega.{arith}
use lib.Dec.{eqb, ltb}
use lib.ListN.{length, length-append}
use borrow.Author.Tests.{lt-ltb, ltb-true, eq-eqb, ne_eqb}
use Rattle.answer.proofs.Cases.{cases, lt?}
use Rattle.model.specs.View.{View, pred_num}
use Rattle.model.specs.Lists.{In, Pairwise, rows}
use Rattle.model.specs.Sound.{Sound}
use Rattle.model.specs.Deadlists.{shard, shards}
use Rattle.model.specs.Effects.{unlinked}
use Rattle.model.specs.Held.{bit, tally, shards_above}
use Rattle.model.specs.Sorted.{stretches}
use Rattle.model.specs.Estimate.{BirthsAbove}
use Rattle.model.proofs.ListFacts.{in_left, in_right, of_append, pw_append}
use Rattle.model.proofs.Facts.{born_le}
use Rattle.model.proofs.Freed.{of_shard}
use Rattle.model.proofs.Tally.{tally_ext}

-- ── the births above p that pass a test, rising ──

module _ (t : ℕ → Bool) (p : ℕ) where
  one : (q : Bool) (v : ℕ) → List ℕ
  one q v = cond q (v ∷ []) []

  births : ℕ → List ℕ
  births zero = []
  births (suc k) = births k ++ one (t k) (suc (p + k))

  one_length : (q : Bool) (v : ℕ) → length (one q v) ≡ bit q
  unfolding one
  one_length true v = refl
  one_length false v = refl

  births_length : (k : ℕ) → length (births k) ≡ tally t k
  unfolding births tally
  births_length zero = refl
  births_length (suc k) = omega (arith, length-append (births k) (one (t k) (suc (p + k))), one_length (t k) (suc (p + k)), births_length k)

  of_one : (q : Bool) (v w : ℕ) → In w (one q v) → (w ≡ v) × (q ≡ true)
  unfolding one
  of_one true v w h = cases h (λ e. (e, refl)) (λ z. absurd z)
  of_one false v w h = absurd h

  of_births : (k v : ℕ) → In v (births k) → (i : ℕ) × (i < k) × (v ≡ suc (p + i)) × (t i ≡ true)
  unfolding births
  of_births zero v h = absurd h
  of_births (suc k) v h =
      cases (of_append v (births k) (one (t k) (suc (p + k))) h)
      (λ a. let (i, l, e, y) = of_births k v a in (i, omega arith, e, y))
      (λ a. let (e, y) = of_one (t k) (suc (p + k)) v a in (k, omega arith, e, y))

  in_one : (q : Bool) (v : ℕ) → q ≡ true → In v (one q v)
  unfolding one
  in_one q v e = rw e (inl refl)

  in_births : (k i : ℕ) → i < k → t i ≡ true → In (suc (p + i)) (births k)
  unfolding births
  in_births zero i l e = omega arith
  in_births (suc k) i l e =
      cases (lt? i k)
      (λ h. in_left (suc (p + i)) (births k) _ (in_births k i h e))
      (λ h. let z : i ≡ k = omega arith in rw z (in_right (suc (p + k)) (births k) _ (in_one (t k) (suc (p + k)) (ap t (sym z) ∙ e))))

  one_rising : (q : Bool) (v : ℕ) → Pairwise (λ a b. a < b) (one q v)
  unfolding one
  one_rising true v = (λ c i. absurd i, tt)
  one_rising false v = tt

  births_rising : (k : ℕ) → Pairwise (λ a b. a < b) (births k)
  unfolding births
  births_rising zero = tt
  births_rising (suc k) =
      pw_append (λ a b. a < b) (births k) (one (t k) (suc (p + k))) (births_rising k) (one_rising (t k) (suc (p + k)))
      (λ a b h j. let (i, l, e, y) = of_births k a h in let (f, z) = of_one (t k) (suc (p + k)) b j in omega arith)

-- ── of a deadlist ──

module _ (K : View) (n p : ℕ) where
  full? : ℕ → Bool
  full? i = ltb 0 (length (shard K n (suc (p + i))))

  not_empty : (l : List ℕ) → ltb 0 (length l) ≡ true → l ≡ [] → ⊥
  not_empty l e z = let w : ⊥ = omega (arith, ltb-true 0 (length l) e, ap length z) in w

  some : (l : List ℕ) → (l ≡ [] → ⊥) → ltb 0 (length l) ≡ true
  some [] h = absurd (h refl)
  some (b ∷ l) h = lt-ltb 0 (length (b ∷ l)) (omega arith)

  -- no shard has a birth above the last number
  within : Sound K → (v : ℕ) → (shard K n v ≡ [] → ⊥) → v ≤ K.last
  within S v h = go (shard K n v) refl h
    where
      go : (l : List ℕ) → shard K n v ≡ l → (l ≡ [] → ⊥) → v ≤ K.last
      go [] e h = absurd (h refl)
      go (b ∷ l) e h = omega (arith, born_le K S b, (of_shard K n v b (rw e (inl refl))).1)

  pub births_above : Sound K → (births : List ℕ) × BirthsAbove K n p births × (length births ≡ shards_above K n p)
  unfolding shards_above full?
  births_above S = (
    births full? p (K.last - p),
    record {
      rising = births_rising full? p (K.last - p);
      these = λ v. (
        λ h. let (i, l, e, y) = of_births full? p (K.last - p) v h in (omega arith, rw e (not_empty (shard K n (suc (p + i))) y)),
        λ (a, h).
            let e : suc (p + (v - suc p)) ≡ v = omega arith in
            subst (λ w. In w (births full? p (K.last - p))) e
            (in_births full? p (K.last - p) (v - suc p) (omega (arith, within S v h)) (rw e (some (shard K n v) h))),
      );
    },
    births_length full? p (K.last - p),
  )

-- ── the stretches of one birth among the freed blocks ──

module _ (key : ℕ → ℕ) (f : ℕ → List ℕ) (each : (v b : ℕ) → In b (f v) → key b ≡ v) where
  -- how many of k lists from v on are not empty
  filled : ℕ → ℕ → ℕ
  filled v zero = 0
  filled v (suc k) = bit (ltb 0 (length (f v))) + filled (suc v) k

  -- blocks of key v, behind one of key v
  on : (v : ℕ) (l m : List ℕ) → ((b : ℕ) → In b l → key b ≡ v) → stretches key v (l ++ m) ≡ stretches key v m
  unfolding stretches
  on v [] m h = refl
  on v (b ∷ l) m h =
      let e : key b ≡ v = h b (inl refl) in rw (eq-eqb (key b) v e) (rw e (omega (arith, on v l m (λ c i. h c (inr i)))))

  -- and behind one of a smaller key
  begun : (v w : ℕ) (l m : List ℕ) → w < v → ((b : ℕ) → In b l → key b ≡ v) →
      ((u : ℕ) → u < suc v → stretches key u m ≡ stretches key v m) → stretches key w (l ++ m) ≡ bit (ltb 0 (length l)) + stretches key v m
  unfolding stretches
  begun v w [] m a h same = omega (arith, same w (omega arith))
  begun v w (b ∷ l) m a h same =
      let e : key b ≡ v = h b (inl refl) in
      let d : eqb (key b) w ≡ false = ne_eqb (key b) w (λ i. let z : ⊥ = omega arith in z) in
      let full : ltb 0 (length (b ∷ l)) ≡ true = lt-ltb 0 (length (b ∷ l)) (omega arith) in
      rw (d, full) (rw e (omega (arith, on v l m (λ c i. h c (inr i)))))

  stretches_filled : (k v w : ℕ) → w < v → stretches key w (rows f v k) ≡ filled v k
  unfolding rows stretches filled
  stretches_filled zero v w a = refl
  stretches_filled (suc k) v w a =
      let next = stretches_filled k (suc v) in
      begun v w (f v) (rows f (suc v) k) a (each v) (λ u h. next u (omega arith) ∙ sym (next v (omega arith))) ∙
      ap (λ n. bit (ltb 0 (length (f v))) + n) (next v (omega arith))

  filled_snoc : (k v : ℕ) → filled v (suc k) ≡ bit (ltb 0 (length (f (v + k)))) + filled v k
  unfolding filled
  filled_snoc zero v = let e : v + 0 ≡ v = omega arith in rw e refl
  filled_snoc (suc k) v =
      let e : suc v + k ≡ v + suc k = omega arith in
      omega (arith, filled_snoc k (suc v), ap (λ (n : ℕ). bit (ltb 0 (length (f n)))) e)

  filled_tally : (k v : ℕ) → filled v k ≡ tally (λ i. ltb 0 (length (f (v + i)))) k
  unfolding filled tally
  filled_tally zero v = refl
  filled_tally (suc k) v = filled_snoc k v ∙ ap (λ n. bit (ltb 0 (length (f (v + k)))) + n) (filled_tally k v)

-- SHARDS ON THE FREED BLOCKS: a shard begins where a birth is met for the first time
pub shards_stretch : (K : View) (s n : ℕ) → stretches K.birth (pred_num K s) (unlinked K s n) ≡ shards_above K n (pred_num K s)
unfolding unlinked shards shards_above
shards_stretch K s n =
    let p = pred_num K s in
    stretches_filled K.birth (shard K n) (λ v b i. (of_shard K n v b i).1) (K.last - p) (suc p) p (omega arith) ∙
    filled_tally K.birth (shard K n) (λ v b i. (of_shard K n v b i).1) (K.last - p) (suc p) ∙
    tally_ext (λ i. ltb 0 (length (shard K n (suc p + i)))) (λ i. ltb 0 (length (shard K n (suc (p + i))))) (K.last - p) (λ i h.
    ap (λ (v : ℕ). ltb 0 (length (shard K n v))) (omega arith))
