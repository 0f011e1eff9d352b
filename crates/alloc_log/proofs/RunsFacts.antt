-- The walk over the blocks gives the longest runs, rising, and each block that passes is in one of them.
use Rattle.std.proofs.Common.{◌≡◌, ℕ, zero, suc, ◌+◌, ◌-◌, ◌%◌, ◌<◌, ◌≤◌, Bool, true, false, eqb, ◌⊎◌, ◌↔◌, List, [], ◌∷◌, ◌++◌, sym, ap, ◌∙◌, subst, inl, inr, true≢false, append-nil, mod-lt, mod-eq_of_lt, arith, eqb-true}
use native.Mathlib.Nat.{mod-add-mod, mod_self}
use borrow.Author.Tests.{eqb-false}
use Rattle.answer.proofs.Cases.{cases, either, same?, lt?}
use Rattle.alloc_log.specs.Runs.{Run, ending, runs_from, runs, Longest, Rising, All, Covered, LongestRuns}

module _ (per : ℕ) (p : 0 < per) (t : ℕ → Bool) where
  -- what is known of the r blocks right before b: they pass, are in one arena, and cannot be joined by one more before them
  pub record Before (b r : ℕ) : Type 0 where
    pub short : r ≤ b
    pub edge : (b - r) % per + r ≤ per
    pub pass : (i : ℕ) → b - r ≤ i → i < b → t i ≡ true
    pub front : ((b - r) % per ≡ 0) ⊎ ((c : ℕ) → suc c ≡ b - r → t c ≡ false)

  -- the offset of b, told by the run before it
  offset : (b r : ℕ) → Before b r → b % per ≡ ((b - r) % per + r) % per
  offset b r o =
      let c : b - r + r ≡ b = omega (arith, o.short) in
      ap (λ (x : ℕ). x % per) (sym c) ∙ sym (mod-add-mod (b - r) per r)

  start : Before 0 0
  start =
      record {
        short = omega arith;
        edge = omega (arith, mod-lt (0 - 0) p);
        pass = λ i u v. absurd (let z : ⊥ = omega arith in z);
        front = inr (λ c e. absurd (let z : ⊥ = omega arith in z));
      }

  none : (b : ℕ) → t b ≡ false → Before (suc b) 0
  none b e =
      record {
        short = omega arith;
        edge = omega (arith, mod-lt (suc b - 0) p);
        pass = λ i u v. absurd (let z : ⊥ = omega arith in z);
        front = inr (λ c h. let d : c ≡ b = omega arith in ap t d ∙ e);
      }

  one : (b : ℕ) → b % per ≡ 0 → t b ≡ true → Before (suc b) 1
  one b y z =
      let a : suc b - 1 ≡ b = omega arith in
      record {
        short = omega arith;
        edge = rw a (omega arith);
        pass = λ i u v. let c : i ≡ b = omega arith in ap t c ∙ z;
        front = inl (rw a y);
      }

  more : (b r : ℕ) → Before b r → (b % per ≡ 0 → ⊥) → t b ≡ true → Before (suc b) (suc r)
  more b r o y z =
      let a : suc b - suc r ≡ b - r = omega arith in
      let n : (b - r) % per + r ≡ per → ⊥ = λ q. y (offset b r o ∙ ap (λ (x : ℕ). x % per) q ∙ mod_self per) in
      record {
        short = omega (arith, o.short);
        edge = rw a (omega (arith, o.edge, n));
        pass = λ i u v. cases (same? i b) (λ e. ap t e ∙ z) (λ m. o.pass i (omega arith) (omega arith));
        front = rw a o.front;
      }

  -- before an arena's first block a run fills its arena
  full : (b r : ℕ) → 0 < r → Before b r → b % per ≡ 0 → (b - r) % per + r ≡ per
  full b r g o y =
      cases (lt? ((b - r) % per + r) per)
      (λ l. absurd (let z : ⊥ = omega (arith, mod-eq_of_lt l, offset b r o) in z))
      (λ l. omega (arith, o.edge))

  -- INDUCTION OVER THE RUNS of n blocks. P b l: l are the runs from block b on. If P holds of no runs behind all blocks, and goes from behind a block that
  -- fails to that block, and from behind a longest run to its start, then it holds of all the runs from block 0 on
  module _ (n : ℕ) (P : ℕ → List Run → Type 0) (nothing : P n []) (skip : (b : ℕ) (l : List Run) → b < n → t b ≡ false → P (suc b) l → P b l)
      (run : (s k : ℕ) (l : List Run) → Longest per t n s k → P (s + k) l → P s ((s, k) ∷ l)) where
    -- a run that ends at b, if it has a block
    ended : (b r : ℕ) (l : List Run) → Before b r → b ≤ n → (0 < r → ((b - r) % per + r ≡ per) ⊎ ((b ≡ n) ⊎ (t b ≡ false))) → P b l → P (b - r) (ending b r ++ l)
    unfolding ending
    ended b zero l o h f k = let e : b - 0 ≡ b = omega arith in rw e k
    ended b (suc r) l o h f k =
        let e : b - suc r + suc r ≡ b = omega (arith, o.short) in
        run (b - suc r) (suc r) l
        (record {
          some = omega arith;
          inside = omega arith;
          edge = o.edge;
          all = λ i u v. o.pass i u (omega arith);
          before = o.front;
          behind = rw e (f (omega arith));
        })
        (rw e k)

    from : (k b r : ℕ) → b + k ≡ n → Before b r → P (b - r) (runs_from per t b r k)
    unfolding runs_from
    from zero b r e o =
        let d : b ≡ n = omega arith in
        subst (P (b - r)) (append-nil (ending b r)) (ended b r [] o (omega arith) (λ _. inr (inl d)) (rw d nothing))
    from (suc k) b r e o =
        cases (either (t b))
        (λ y. cases (either (eqb (b % per) 0))
        (λ z.
        let d : suc b - 1 ≡ b = omega arith in
        let w = from k (suc b) 1 (omega arith) (one b (eqb-true (b % per) 0 z) y) in
        rw (y, z) (ended b r (runs_from per t (suc b) 1 k) o (omega arith)
        (λ g. inl (full b r g o (eqb-true (b % per) 0 z))) (rw d at w)))
        (λ z.
        let d : suc b - suc r ≡ b - r = omega arith in
        let w = from k (suc b) (suc r) (omega arith) (more b r o (eqb-false (b % per) 0 z) y) in
        rw (y, z) (rw d at w)))
        (λ y.
        let d : suc b - 0 ≡ suc b = omega arith in
        let w = from k (suc b) 0 (omega arith) (none b y) in
        rw y (ended b r (runs_from per t (suc b) 0 k) o (omega arith) (λ _. inr (inr y)) (skip b (runs_from per t (suc b) 0 k) (omega arith) y (rw d at w))))

    pub runs_walk : P 0 (runs per t n)
    unfolding runs
    runs_walk = from n 0 0 (omega arith) start

-- ── the longest runs ──

rising_from : (a b : ℕ) (l : List Run) → a ≤ b → Rising b l → Rising a l
rising_from a b [] h r = tt
rising_from a b (x ∷ l) h r = (omega (arith, r.0), r.1)

abbrev CoversFrom : (ℕ → Bool) → ℕ → ℕ → List Run → Type 0
CoversFrom t n k l = (c : ℕ) → k ≤ c → c < n → t c ≡ true → Covered c l

-- the walk gives the longest runs
pub runs_longest : (per : ℕ) → 0 < per → (t : ℕ → Bool) (n : ℕ) → LongestRuns per t n (runs per t n)
runs_longest per p t n =
    record {
      each = runs_walk per p t n (λ k l. All (λ r. Longest per t n r.0 r.1) l) tt (λ b l h e r. r) (λ s k l w r. (w, r));
      rising = runs_walk per p t n Rising tt (λ b l h e r. rising_from b (suc b) l (omega arith) r) (λ s k l w r. (omega arith, r));
      covers = λ b h e. covering b (omega arith) h e;
    }
  where
    covering : CoversFrom t n 0 (runs per t n)
    covering =
        runs_walk per p t n (CoversFrom t n)
        (λ c u v e. absurd (let z : ⊥ = omega arith in z))
        (λ b l h e r c u v y. cases (same? c b)
        (λ i. absurd (true≢false (sym y ∙ ap t i ∙ e)))
        (λ i. r c (omega arith) v y))
        (λ s k l w r c u v y. cases (lt? c (s + k)) (λ i. inl (u, i)) (λ i. inr (r c i v y)))

-- only blocks that pass are in a run
covered_passes : (per : ℕ) (t : ℕ → Bool) (n b : ℕ) (l : List Run) → All (λ r. Longest per t n r.0 r.1) l → Covered b l → t b ≡ true
covered_passes per t n b [] a c = absurd c
covered_passes per t n b (r ∷ l) a c = cases c (λ w. a.0.all b w.0 w.1) (λ w. covered_passes per t n b l a.1 w)

pub covered_iff : (per : ℕ) → 0 < per → (t : ℕ → Bool) (n b : ℕ) → b < n → Covered b (runs per t n) ↔ (t b ≡ true)
covered_iff per p t n b h =
    let r = runs_longest per p t n in
    (covered_passes per t n b (runs per t n) r.each, r.covers b h)
