-- Q: the blocks to be queued in a buffer of its own, their stretches counted, and what the call answers.
use mathlib.Core.Path.{◌≡◌, refl, sym, ap, ap₂, ◌∙◌}
use mathlib.Core.Bool.{Bool, cond}
use mathlib.Core.List.{List, [], ◌∷◌}
use Prim.Native.Nat.{ℕ, zero, suc, ◌+◌, ◌-◌, ◌≤◌, ◌<◌}
use native.Mathlib.Omega.{arith}
use native.Mathlib.Numerals.{add-one}
use lib.Dec.{eqb, ltb}
use lib.ListN.{length, get_or, set, take, drop, drop_of_length-le}
use lib.Seq.{sets, length-sets, get_or-take, length-take-le, drop-cons}
use borrow.Author.Tests.{eq-eqb, ne_eqb}
use Rattle.std.specs.Prelude.{Ok, Err}
use Rattle.answer.specs.declared.Refusal.{Refusal}
use Rattle.answer.specs.Reply.{Reply, accepted, reply_of}
use Rattle.answer.specs.Refusal.{leaves}
use Rattle.answer.proofs.Cases.{cases}
use Rattle.answer.proofs.Decided.{decide_accepts}
use Rattle.geometry.specs.declared.Geometry.{Geometry}
use Rattle.geometry.specs.Limits.{blocks}
use Rattle.model.specs.Lists.{In}
use Rattle.model.specs.View.{View, pred_num}
use Rattle.model.specs.Held.{deleted, shards_above, shards_freed}
use Rattle.model.specs.Sorted.{sorted_onto, stretches}
use Rattle.model.specs.State.{State}
use Rattle.model.specs.Calls.{result, conditions}
use Rattle.model.specs.Layout.{view_of, state_of}
use Rattle.model.specs.Command.{Estimate}
use Rattle.model.proofs.ListFacts.{of_keep}
use Rattle.model.proofs.ShardFacts.{shards_stretch}
use Rattle.tables.specs.Ready.{Ready, OutLong}
use Rattle.tables.specs.Outcome.{replied, out_left}
use Rattle.tables.proofs.Ranges
use Rattle.deleting.specs.Stages.{younger}
use Rattle.tables.proofs.Sets.{take_sets}
use Rattle.deleting.proofs.Sifting.{length_sorted, of_sorted}
use Rattle.deleting.proofs.Parting.{parts, freed_is}
use Rattle.deleting.specs.Verdict.{verdict_of}
use Rattle.deleting.proofs.Verdicts.{Told, acceptance, estimate_refusal}

-- ── the stretches of one birth ──

-- those of the first n blocks of y from block i on
abbrev pub rest : (ℕ → ℕ) → List ℕ → ℕ → ℕ → ℕ → ℕ
rest key y n v i = stretches key v (drop i (take n y))

module _ (key : ℕ → ℕ) (y : List ℕ) (n i : ℕ) (room : n ≤ length y) where
  long : length (take n y) ≡ n
  long = length-take-le n y room

  -- block i, and those behind it
  rest_cons : (v : ℕ) → i < n → rest key y n v i ≡ cond (eqb (key (get_or y i 0)) v) 0 1 + rest key y n (key (get_or y i 0)) (i + 1)
  unfolding stretches
  rest_cons v h =
      ap (stretches key v) (drop-cons (take n y) i 0 (omega (arith, long))) ∙
      ap₂ (λ (b : ℕ) (j : ℕ). stretches key v (b ∷ drop j (take n y))) (get_or-take n y i 0 h) (sym (add-one i))

  module _ (h : i < n) (birth : ℕ) (eb : birth ≡ key (get_or y i 0)) (whole count v : ℕ) (inv : count + stretches key v (drop i (take n y)) ≡ whole) where
    -- it begins one
    pub begins : (birth ≡ v → ⊥) → count + 1 + stretches key birth (drop (i + 1) (take n y)) ≡ whole
    begins d =
        let w = rest_cons v h in
        let e : rest key y n v i ≡ 1 + rest key y n birth (i + 1) =
        w ∙ ap₂ (λ (q : Bool) (k : ℕ). cond q 0 1 + rest key y n k (i + 1)) (ne_eqb (key (get_or y i 0)) v (λ z. d (eb ∙ z))) (sym eb) in
        omega arith

    -- it belongs to the one before it
    pub goes_on_lem : birth ≡ v → count + stretches key v (drop (i + 1) (take n y)) ≡ whole
    goes_on_lem d =
        let w = rest_cons v h in
        let e : rest key y n v i ≡ 0 + rest key y n v (i + 1) =
        w ∙ ap₂ (λ (q : Bool) (k : ℕ). cond q 0 1 + rest key y n k (i + 1)) (eq-eqb (key (get_or y i 0)) v (sym eb ∙ d)) (sym eb ∙ d) in
        omega arith

  -- none is left
  pub at_end : n ≤ i → (whole count v : ℕ) → count + stretches key v (drop i (take n y)) ≡ whole → count ≡ whole
  unfolding stretches
  at_end h whole count v inv =
      let e : rest key y n v i ≡ 0 = ap (stretches key v) (drop_of_length-le (take n y) {i = i} (omega (arith, long))) in omega arith

-- ── the blocks to be queued in a buffer o₀ ──

module _ {g : Geometry} {t : List ℕ} (R : Ready g t) (n p : ℕ) where
  abbrev K : View
  K = view_of g t

  abbrev Y : List ℕ
  Y = younger (view_of g t) p ((view_of g t).list n)

  pub young_few : length (younger (view_of g t) p ((view_of g t).list n)) ≤ 256
  young_few = omega (arith, parts K p (K.list n), Ranges.list_le R n, R.roomy.inside.pages_most)

  young_block : (b : ℕ) → In b Y → b < blocks g
  young_block b h = Ranges.entry_in R n b (of_keep (λ b. ltb p (K.birth b)) b (K.list n) h).0

  module _ (o₀ o₁ : List ℕ) (count : ℕ) (ec : count ≡ length (younger (view_of g t) p ((view_of g t).list n)))
      (e₁ : o₁ ≡ sets o₀ 0 (younger (view_of g t) p ((view_of g t).list n))) (room : 256 ≤ length o₀) where
    listed : take count o₁ ≡ Y
    listed = ap (take count) e₁ ∙ take_sets o₀ Y count ec (omega (arith, young_few))

    pub list_room : count ≤ length o₁
    list_room = omega (arith, young_few, ap length e₁, length-sets o₀ 0 Y)

    pub list_below : (k : ℕ) → k < count → get_or o₁ k 0 < blocks g
    list_below k h =
        let e : get_or o₁ k 0 ≡ get_or Y k 0 = sym (get_or-take count o₁ k 0 h) ∙ ap (λ (l : List ℕ). get_or l k 0) listed in
        rw e (young_block (get_or Y k 0) (Ranges.in_get_d Y k (omega arith)))

    -- sorted
    module _ (o₂ : List ℕ) (e₂ : o₂ ≡ sets o₁ 0 (sorted_onto (view_of g t).birth [] (take count o₁))) where
      abbrev S : List ℕ
      S = sorted_onto (view_of g t).birth [] (younger (view_of g t) p ((view_of g t).list n))

      many : count ≡ length S
      many = omega (arith, length_sorted K.birth [] Y)

      put_there : o₂ ≡ sets o₁ 0 S
      put_there = e₂ ∙ ap (λ (l : List ℕ). sets o₁ 0 (sorted_onto K.birth [] l)) listed

      sorted : take count o₂ ≡ S
      sorted = ap (take count) put_there ∙ take_sets o₁ S count many (omega (arith, many, list_room))

      pub sort_room : count ≤ length o₂
      sort_room = omega (arith, list_room, ap length put_there, length-sets o₁ 0 S)

      pub sort_below : (k : ℕ) → k < count → get_or o₂ k 0 < blocks g
      sort_below k h =
          let e : get_or o₂ k 0 ≡ get_or S k 0 = sym (get_or-take count o₂ k 0 h) ∙ ap (λ (l : List ℕ). get_or l k 0) sorted in
          rw e (cases (of_sorted K.birth [] Y (get_or S k 0) (Ranges.in_get_d S k (omega (arith, many))))
          (λ j. absurd j)
          (λ j. young_block (get_or S k 0) j))

      -- p is the number of the pred of s: each shard is one stretch
      pub shards_are : (s : ℕ) → p ≡ pred_num (view_of g t) s →
          stretches (view_of g t).birth p (take count o₂) ≡ shards_above (view_of g t) n (pred_num (view_of g t) s)
      shards_are s ep =
          ap₂ (λ (q : ℕ) (l : List ℕ). stretches K.birth q l) ep (sorted ∙ freed_is R s n p ep) ∙ shards_stretch K s n

-- ── with the link f of what follows ──

module _ (K : View) (s : ℕ) where
  pub shards_last : (f : ℕ) → f ≡ 0 → 0 ≡ shards_freed K s f
  unfolding shards_freed
  shards_last zero e = refl
  shards_last (suc f) e = absurd (let z : ⊥ = omega arith in z)

  pub shards_next : (f : ℕ) → (f ≡ 0 → ⊥) → shards_above K (f - 1) (pred_num K s) ≡ shards_freed K s f
  unfolding shards_freed
  shards_next zero n = absurd (n refl)
  shards_next (suc f) n = ap (λ m. shards_above K m (pred_num K s)) (omega arith)

-- ── the call ──

-- a refusal leaves the buffer
pub refuse : (g : Geometry) (t : List ℕ) (r : ℕ) (k : Refusal) (out : List ℕ) → Err k ≡ verdict_of (state_of g t) r →
    (reply_of (Err k) out ≡ replied g t (Estimate r)) × (out ≡ out_left g t out (Estimate r))
unfolding reply_of out_left
refuse g t r k out e = let a = estimate_refusal g t r k e in (sym a, rw a refl)

-- the slots of the verdict are s and that of the link o
module _ (g : Geometry) (t out : List ℕ) (r s o : ℕ) (e : Ok (s, o) ≡ verdict_of (state_of g t) r) where
  abbrev T : State
  T = state_of g t

  abbrev told : Told (state_of g t) r s o
  told = acceptance g t r s o e

  -- a blocks would be queued, of v shards
  module _ (a v : ℕ) (ea : a ≡ length (deleted (view_of g t) s o)) (ev : v ≡ shards_freed (view_of g t) s o) where
    numbers : result g T (Estimate r) ≡ a ∷ 0 ∷ v ∷ []
    unfolding state_of
    numbers =
        ap₂ (λ (m k : ℕ). length (deleted (view_of g t) m k) ∷ 0 ∷ shards_freed (view_of g t) m k ∷ []) told.at told.next ∙
        ap₂ (λ (m k : ℕ). m ∷ 0 ∷ k ∷ []) (sym ea) (sym ev)

    accepts : replied g t (Estimate r) ≡ accepted (result g T (Estimate r))
    unfolding replied
    accepts = decide_accepts (conditions g T (Estimate r)) (result g T (Estimate r)) (told.eight, (told.ten, (told.eighteen, tt)))

    pub answered : OutLong g out →
        (reply_of (Ok 3) (set (set (set out 0 a) 1 0) 2 v) ≡ replied g t (Estimate r)) ×
        (set (set (set out 0 a) 1 0) 2 v ≡ out_left g t out (Estimate r))
    unfolding reply_of out_left
    answered long = (
      ap accepted (take_sets out (a ∷ 0 ∷ v ∷ []) 3 refl (omega arith)) ∙ ap accepted (sym numbers) ∙ sym accepts,
      ap (sets out 0) (sym numbers) ∙ ap (λ (k : Reply). leaves k out (sets out 0 (result g T (Estimate r)))) (sym accepts),
    )
