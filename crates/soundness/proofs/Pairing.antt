-- Two records need one look, from the later slot: of all records together the test that pairs each with the slots before its own says what the
-- model's test says.
use Rattle.std.proofs.Common.{◌≡◌, ℕ, ◌<◌, Bool, true, false, ltb, leb, sym, refl, ◌∙◌, arith}
use Rattle.answer.proofs.Cases.{cases, same?, lt?}
use Rattle.model.specs.Table.{all}
use Rattle.model.specs.View.{View}
use Rattle.model.specs.Check.{imp, prev?, base?, two?, linked?}
use Rattle.model.proofs.Reflect.{Says, says_eq, says_lt, says_map, says_imp, says_all, ◌&◌}
use Rattle.soundness.specs.Pairs.{linked_to?}

itself : (t : Bool) → Says t (t ≡ true)
itself t = record { holds = λ e. e; passes = λ e. e }

alike : (a b : Bool) → (a ≡ true → b ≡ true) → (b ≡ true → a ≡ true) → a ≡ b
alike true b f g = sym (f refl)
alike false true f g = g refl
alike false false f g = refl

module _ (K : View) where
  -- ── two records ──

  says_two : (s t : ℕ) → Says (two? K s t) ((K.num s ≡ K.num t → s ≡ t) × ((0 < K.prev s) × (K.prev s ≡ K.prev t) → s ≡ t))
  unfolding two?
  says_two s t =
      says_imp (says_eq (K.num s) (K.num t)) (says_eq s t) &
      says_imp (says_lt 0 (K.prev s) & says_eq (K.prev s) (K.prev t)) (says_eq s t)

  two_same : (s t : ℕ) → t ≡ s → two? K s t ≡ true
  two_same s t d = (says_two s t).passes (λ e. sym d, λ e. sym d)

  two_turned : (s t : ℕ) → two? K t s ≡ true → two? K s t ≡ true
  two_turned s t h =
      let w = (says_two t s).holds h in
      (says_two s t).passes (λ e. sym (w.0 (sym e)), λ q. sym (w.1 (omega (arith, q.0, q.1), sym q.1)))

  -- ── all records ──

  -- each record in the first n slots passes a test
  abbrev each : ℕ → (ℕ → Bool) → Bool
  each n f = all n (λ s. imp (ltb 0 (K.num s)) (f s))

  says_each : (n : ℕ) (f : ℕ → Bool) → Says (each n f) ((s : ℕ) → s < n → 0 < K.num s → f s ≡ true)
  says_each n f = says_all (λ s. imp (ltb 0 (K.num s)) (f s)) (λ s. 0 < K.num s → f s ≡ true) n (λ s. says_imp (says_lt 0 (K.num s)) (itself (f s)))

  record Parts (n s : ℕ) : Type 0 where
    given : leb (K.num s) K.last ≡ true
    pairs : (t : ℕ) → t < n → 0 < K.num t → two? K s t ≡ true
    prev : prev? K s (K.prev s) ≡ true
    base : base? K s (K.base s) ≡ true

  says_parts : (n s : ℕ) → Says (linked_to? K n s) (Parts n s)
  unfolding linked_to?
  says_parts n s =
      says_map
      (λ q. record { given = q.0.0.0; pairs = q.0.0.1; prev = q.0.1; base = q.1 })
      (λ o. (((o.given, o.pairs), o.prev), o.base))
      (itself (leb (K.num s) K.last) & says_each n (λ t. two? K s t) & itself (prev? K s (K.prev s)) & itself (base? K s (K.base s)))

  linked_is : (s : ℕ) → linked? K s ≡ linked_to? K K.slots s
  unfolding linked? linked_to?
  linked_is s = refl

  module _ (h : each K.slots (λ s. linked_to? K s s) ≡ true) where
    back : (s : ℕ) → s < K.slots → 0 < K.num s → Parts s s
    back s l live = (says_parts s s).holds ((says_each K.slots (λ s. linked_to? K s s)).holds h s l live)

    -- of two slots the later one was paired with the other
    paired : (s t : ℕ) → s < K.slots → t < K.slots → 0 < K.num s → 0 < K.num t → two? K s t ≡ true
    paired s t l m live k =
        cases (lt? t s) (λ b. (back s l live).pairs t b k)
        (λ b. cases (same? t s) (two_same s t) (λ d. two_turned s t ((back t m k).pairs s (omega arith) live)))

    linked_all : (s : ℕ) → s < K.slots → 0 < K.num s → linked? K s ≡ true
    linked_all s l live =
        let w = back s l live in
        linked_is s ∙
        (says_parts K.slots s).passes (record { given = w.given; pairs = λ t m k. paired s t l m live k; prev = w.prev; base = w.base })

  linked_back : (s : ℕ) → s < K.slots → linked? K s ≡ true → linked_to? K s s ≡ true
  linked_back s l h =
      let w = (says_parts K.slots s).holds (sym (linked_is s) ∙ h) in
      (says_parts s s).passes (record { given = w.given; pairs = λ t m k. w.pairs t (omega arith) k; prev = w.prev; base = w.base })

  -- THE TEST OF THE SLOTS BEFORE IS EXACT
  pub pairs_exact : all K.slots (λ s. imp (ltb 0 (K.num s)) (linked_to? K s s)) ≡ all K.slots (λ s. imp (ltb 0 (K.num s)) (linked? K s))
  pairs_exact =
      alike (each K.slots (λ s. linked_to? K s s)) (each K.slots (λ s. linked? K s))
      (λ h. (says_each K.slots (λ s. linked? K s)).passes (λ s l live. linked_all h s l live))
      (λ h.
      (says_each K.slots (λ s. linked_to? K s s)).passes
      (λ s l live. linked_back s l ((says_each K.slots (λ s. linked? K s)).holds h s l live)))
