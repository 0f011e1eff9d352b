-- The sealed records of a line: what `sealed_of` lists, and what a deletion leaves of it.
use mathlib.Core.Path.{◌≡◌, refl, sym, ap, ap₂, ◌∙◌, subst}
use mathlib.Core.Logic.{◌⊎◌, inl, inr}
use mathlib.Core.List.{List, [], ◌∷◌, ◌++◌}
use Prim.Native.Nat.{ℕ, zero, suc, ◌≤◌, ◌<◌}
use native.Mathlib.Omega.{arith}
use native.Mathlib.Nat.{le_refl}
use lib.ListN.{length}
use Rattle.model.specs.View.{View}
use Rattle.model.specs.Lists.{In, Pairwise, Once}
use Rattle.model.specs.Sound.{Sound}
use Rattle.model.specs.Window.{up_to, older, sealed_of, UpTo, itself, after, SealedOf}
use Rattle.answer.proofs.Cases.{cases}
use Rattle.model.proofs.ListFacts.{pw_map, in_left, in_right, of_append}
use Rattle.model.proofs.Waiting.{once_short}

-- ── chains: the slots of l follow one another, the first has the link a before it, and e is the link to the last (a, where l is empty) ──

abbrev pub Chain : View → ℕ → List ℕ → ℕ → Type 0
Chain K a [] e = a ≡ e
Chain K a (s ∷ l) e = (0 < K.num s) × (K.prev s ≡ a) × Chain K (suc s) l e

module _ (K : View) where
  chain_snoc : (l : List ℕ) (a e p : ℕ) → Chain K a l e → 0 < K.num p → K.prev p ≡ e → Chain K a (l ++ (p ∷ [])) (suc p)
  chain_snoc [] a e p c h d = (h, d ∙ sym c, refl)
  chain_snoc (s ∷ l) a e p (hs, es, c) h d = (hs, es, chain_snoc l (suc s) e p c h d)

  -- a chain has a last record, or is none
  record Last (a : ℕ) (l : List ℕ) (e : ℕ) : Type 0 where
    slot : ℕ
    front : List ℕ
    parts : l ≡ front ++ (slot ∷ [])
    link : e ≡ suc slot
    live : 0 < K.num slot
    chain : Chain K a front (K.prev slot)

  chain_last : (l : List ℕ) (a e : ℕ) → Chain K a l e → ((l ≡ []) × (a ≡ e)) ⊎ Last a l e
  chain_last [] a e c = inl (refl, c)
  chain_last (s ∷ l) a e (hs, es, c) =
      cases (chain_last l (suc s) e c)
      (λ (z, i). inr (record { slot = s; front = []; parts = ap {B = List ℕ} (λ m. s ∷ m) z; link = sym i; live = hs; chain = sym es }))
      (λ w. inr (record {
        slot = w.slot;
        front = s ∷ w.front;
        parts = ap {B = List ℕ} (λ m. s ∷ m) w.parts;
        link = w.link;
        live = w.live;
        chain = (hs, es, w.chain);
      }))

module _ (K : View) (S : Sound K) where
  -- following `prev` from a record of number k at most gives a chain, and there is no other
  up_to_chain : (k l : ℕ) → ((p : ℕ) → l ≡ suc p → (0 < K.num p) × (K.num p ≤ k)) → Chain K 0 (up_to K k l) l
  unfolding up_to
  up_to_chain zero zero h = refl
  up_to_chain (suc k) zero h = refl
  up_to_chain zero (suc s) h = absurd (let z : ⊥ = omega (arith, (h s refl).0, (h s refl).1) in z)
  up_to_chain (suc k) (suc s) h =
      let (hs, m) = h s refl in
      chain_snoc K (up_to K k (K.prev s)) 0 (K.prev s) s
      (up_to_chain k (K.prev s) (λ p e. let o = S.links.prevs s p hs e in (o.live, omega (arith, o.older)))) hs refl

  chain_up_to : (k : ℕ) (l : List ℕ) (e : ℕ) → Chain K 0 l e → ((p : ℕ) → e ≡ suc p → K.num p ≤ k) → l ≡ up_to K k e
  unfolding up_to
  chain_up_to zero l zero c h = cases (chain_last K l 0 0 c) (λ w. w.0) (λ w. absurd (let z : ⊥ = omega (arith, w.link) in z))
  chain_up_to (suc k) l zero c h = cases (chain_last K l 0 0 c) (λ w. w.0) (λ w. absurd (let z : ⊥ = omega (arith, w.link) in z))
  chain_up_to zero l (suc s) c h =
      cases (chain_last K l 0 (suc s) c)
      (λ w. absurd (let z : ⊥ = omega (arith, w.1) in z))
      (λ w. absurd (let z : ⊥ = omega (arith, w.live, h w.slot w.link) in z))
  chain_up_to (suc k) l (suc s) c h =
      cases (chain_last K l 0 (suc s) c)
      (λ w. absurd (let z : ⊥ = omega (arith, w.1) in z))
      (λ w.
      let i : w.slot ≡ s = omega (arith, w.link) in
      let d = chain_up_to k w.front (K.prev w.slot) w.chain
      (λ p e. omega (arith, (S.links.prevs w.slot p w.live e).older, h w.slot w.link)) in
      w.parts ∙ ap₂ {C = List ℕ} (λ (m : List ℕ) (t : ℕ). m ++ (t ∷ [])) (d ∙ ap (λ t. up_to K k (K.prev t)) i) i)

  pub older_chain : (s : ℕ) → 0 < K.num s → Chain K 0 (older K s) (K.prev s)
  unfolding older
  older_chain s h = up_to_chain (K.num s) (K.prev s) (λ p e. let o = S.links.prevs s p h e in (o.live, omega (arith, o.older)))

  pub older_is : (s : ℕ) (l : List ℕ) → 0 < K.num s → Chain K 0 l (K.prev s) → l ≡ older K s
  unfolding older
  older_is s l h c = chain_up_to (K.num s) l (K.prev s) c (λ p e. omega (arith, (S.links.prevs s p h e).older))

  pub sealed_chain : (s : ℕ) → 0 < K.num s → Chain K 0 (sealed_of K s) (suc s)
  unfolding sealed_of
  sealed_chain s h = chain_snoc K (older K s) 0 (K.prev s) s (older_chain s h) h refl

  pub sealed_is : (s : ℕ) (l : List ℕ) → Chain K 0 l (suc s) → l ≡ sealed_of K s
  unfolding sealed_of
  sealed_is s l c =
      cases (chain_last K l 0 (suc s) c)
      (λ w. absurd (let z : ⊥ = omega (arith, w.1) in z))
      (λ w.
      let i : w.slot ≡ s = omega (arith, w.link) in
      w.parts ∙
      ap₂ {C = List ℕ} (λ (m : List ℕ) (t : ℕ). m ++ (t ∷ [])) (older_is w.slot w.front w.live w.chain ∙ ap (older K) i) i)

  -- ── along a chain ──

  pub chain_live : (l : List ℕ) (a e s : ℕ) → Chain K a l e → In s l → 0 < K.num s
  chain_live [] a e s c i = absurd i
  chain_live (t ∷ l) a e s (ht, et, c) i = cases i (λ d. omega (arith, ap K.num d)) (λ j. chain_live l (suc t) e s c j)

  chain_above : (l : List ℕ) (p e s : ℕ) → Chain K (suc p) l e → In s l → K.num p < K.num s
  chain_above [] p e s c i = absurd i
  chain_above (t ∷ l) p e s (ht, et, c) i =
      let o = S.links.prevs t p ht et in
      cases i (λ d. omega (arith, o.older, ap K.num d)) (λ j. omega (arith, o.older, chain_above l t e s c j))

  chain_rising : (l : List ℕ) (a e : ℕ) → Chain K a l e → Pairwise (λ s t. K.num s < K.num t) l
  chain_rising [] a e c = tt
  chain_rising (t ∷ l) a e (ht, et, c) = (λ s i. chain_above l t e s c i, chain_rising l (suc t) e c)

  chain_sealed : (l : List ℕ) (a e s : ℕ) → Chain K a l e → ((p : ℕ) → e ≡ suc p → K.is_open p ≡ 0) → In s l → K.is_open s ≡ 0
  chain_sealed [] a e s c h i = absurd i
  chain_sealed (t ∷ []) a e s (ht, et, c) h i = cases i (λ d. ap K.is_open d ∙ h t (sym c)) (λ j. absurd j)
  chain_sealed (t ∷ u ∷ l) a e s (ht, et, c) h i =
      cases i
      (λ d. ap K.is_open d ∙ (S.links.prevs u t c.0 c.1).sealed)
      (λ j. chain_sealed (u ∷ l) (suc t) e s c h j)

  chain_base : (l : List ℕ) (a e s q : ℕ) → Chain K a l e → ((p : ℕ) → e ≡ suc p → K.base p ≡ q) → In s l → K.base s ≡ q
  chain_base [] a e s q c h i = absurd i
  chain_base (t ∷ []) a e s q (ht, et, c) h i = cases i (λ d. ap K.base d ∙ h t (sym c)) (λ j. absurd j)
  chain_base (t ∷ u ∷ l) a e s q (ht, et, c) h i =
      cases i
      (λ d. ap K.base d ∙ (S.links.prevs u t c.0 c.1).base ∙ chain_base (u ∷ l) (suc t) e u q c h (inl refl))
      (λ j. chain_base (u ∷ l) (suc t) e s q c h j)

  -- ── the records before s ──

  module _ (s : ℕ) (h : 0 < K.num s) where
    pub older_live : (t : ℕ) → In t (older K s) → 0 < K.num t
    older_live t i = chain_live (older K s) 0 (K.prev s) t (older_chain s h) i

    pub older_rising : Pairwise (λ t u. K.num t < K.num u) (older K s)
    older_rising = chain_rising (older K s) 0 (K.prev s) (older_chain s h)

    pub sealed_rising : Pairwise (λ t u. K.num t < K.num u) (sealed_of K s)
    sealed_rising = chain_rising (sealed_of K s) 0 (suc s) (sealed_chain s h)

    pub older_once : Once (older K s)
    older_once = pw_map (older K s) (λ b c i j l e. let z : ⊥ = omega (arith, ap K.num e) in z) older_rising

    pub older_base : (t : ℕ) → In t (older K s) → K.base t ≡ K.base s
    older_base t i = chain_base (older K s) 0 (K.prev s) t (K.base s) (older_chain s h) (λ p e. (S.links.prevs s p h e).base) i

    pub sealed_base : (t : ℕ) → In t (sealed_of K s) → K.base t ≡ K.base s
    sealed_base t i =
        chain_base (sealed_of K s) 0 (suc s) t (K.base s) (sealed_chain s h) (λ p e. ap K.base (let z : p ≡ s = omega arith in z)) i

    pub older_sealed : (t : ℕ) → In t (older K s) → K.is_open t ≡ 0
    older_sealed t i = chain_sealed (older K s) 0 (K.prev s) t (older_chain s h) (λ p e. (S.links.prevs s p h e).sealed) i

    pub older_less : (t : ℕ) → In t (older K s) → K.num t < K.num s
    unfolding sealed_of
    older_less t i = across (older K s) sealed_rising i
      where
        across : (l : List ℕ) → Pairwise (λ t u. K.num t < K.num u) (l ++ (s ∷ [])) → In t l → K.num t < K.num s
        across [] p j = absurd j
        across (u ∷ l) p j =
            cases j (λ e. omega (arith, ap K.num e, p.0 s (in_right s l (s ∷ []) (inl refl)))) (λ k. across l p.1 k)

    -- of a record that follows another, and of the first
    pub older_next : (p : ℕ) → K.prev s ≡ suc p → older K s ≡ sealed_of K p
    older_next p e =
        let o = S.links.prevs s p h e in
        sym (older_is s (sealed_of K p) h (subst (λ m. Chain K 0 (sealed_of K p) m) (sym e) (sealed_chain p o.live)))

    pub older_none : K.prev s ≡ 0 → older K s ≡ []
    older_none e = sym (older_is s [] h (sym e))

  -- a line has no more records than there are slots
  pub line_short : (r : ℕ) → 0 < K.num r → length (sealed_of K r) ≤ K.slots
  line_short r h =
      once_short (sealed_of K r) K.slots
      (pw_map (sealed_of K r) (λ b c i j l e. let z : ⊥ = omega (arith, ap K.num e) in z) (sealed_rising r h))
      (λ s i. (S.links.records s (chain_live (sealed_of K r) 0 (suc r) s (sealed_chain r h) i)).room)

  -- ── what `sealed_of` lists ──

  in_up_to : (s t : ℕ) → UpTo K s t → 0 < K.num t → In s (sealed_of K t)
  unfolding sealed_of
  in_up_to s t (itself) h = in_right s (older K s) (s ∷ []) (inl refl)
  in_up_to s t (after {p = p} ht e w) h =
      let i = in_up_to s p w (S.links.prevs t p h e).live in
      in_left s (older K t) (t ∷ []) (rw (older_next t h p e) i)

  of_up_to : (k s t : ℕ) → K.num t ≤ k → 0 < K.num t → In s (sealed_of K t) → UpTo K s t
  unfolding sealed_of
  of_up_to zero s t m h i = absurd (let z : ⊥ = omega arith in z)
  of_up_to (suc k) s t m h i =
      cases (of_append s (older K t) (t ∷ []) i)
      (λ j. go (λ p. of_up_to k s p) (K.prev t) refl j)
      (λ j. cases j (λ e. subst (λ u. UpTo K s u) e itself) (λ z. absurd z))
    where
      go : ((p : ℕ) → K.num p ≤ k → 0 < K.num p → In s (sealed_of K p) → UpTo K s p) →
          (l : ℕ) → K.prev t ≡ l → In s (older K t) → UpTo K s t
      go ih zero e j = absurd (let z : In s [] = rw (older_none t h e) at j in z)
      go ih (suc p) e j =
          let o = S.links.prevs t p h e in
          after h e (ih p (omega (arith, o.older)) o.live (rw (older_next t h p e) at j))

  -- nothing follows an open record
  after_open : (r f t : ℕ) → 0 < K.num f → K.prev f ≡ suc r → 0 < K.is_open f → UpTo K r t → (t ≡ r) ⊎ (t ≡ f)
  after_open r f t hf ef o (itself) = inl refl
  after_open r f t hf ef o (after {p = p} ht e w) =
      cases (after_open r f p hf ef o w)
      (λ i. inr (S.links.one t f r ht hf (e ∙ ap suc i) ef))
      (λ i. absurd (let z : ⊥ = omega (arith, (S.links.prevs t p ht e).sealed, ap K.is_open i) in z))

  pub sealed_of_lem : (r : ℕ) → 0 < K.num r → K.is_open r ≡ 0 → SealedOf K r
  sealed_of_lem r h o = record {
    these = λ s. (λ i. of_up_to (K.num r) s r (le_refl _) h i, λ w. in_up_to s r w h);
    live = λ s i. chain_live (sealed_of K r) 0 (suc r) s (sealed_chain r h) i;
    sealed = λ s i. chain_sealed (sealed_of K r) 0 (suc r) s (sealed_chain r h) (λ p e. ap K.is_open (let z : p ≡ r = omega arith in z) ∙ o) i;
    same_base = λ s i. sealed_base r h s i;
    rising = sealed_rising r h;
    few = line_short r h;
    all = λ f t hf ef of ht ot w. cases (after_open r f t hf ef of w)
        (λ i. i)
        (λ i. absurd (let z : ⊥ = omega (arith, ap K.is_open i) in z));
  }
