-- The next run of a test in an arena: from the first block that passes to the first behind it that does not, or to the edge.
use mathlib.Core.Path.{◌≡◌, sym, ap, ap₂, ◌∙◌}
use mathlib.Core.Bool.{Bool, true, false, not}
use mathlib.Core.List.{◌++◌}
use Prim.Native.Nat.{ℕ, zero, suc, ◌+◌, ◌-◌, ◌*◌, ◌≤◌, ◌<◌}
use native.Mathlib.Nat.{add-zero, zero-add}
use native.Mathlib.Omega.{arith}
use borrow.Author.Tests.{not-true, not-false}
use Rattle.answer.proofs.Cases.{cases, lt?, same?}
use Rattle.choice.specs.Words.{first_from}
use Rattle.choice.proofs.Firsts.{Leads, leads}
use Rattle.choice.proofs.Finds.{true_false}
use Rattle.alloc_log.specs.Runs.{ending, runs_from}
use Rattle.alloc_log.proofs.Walking.{runs_fails, runs_passes, runs_arena, arena_first, arena_inside, arena_edge, arena_next}

module _ (per : ℕ) (t : ℕ → Bool) (n : ℕ) where
  -- blocks that fail are passed over
  runs_past : (k b : ℕ) → b + k ≤ n → ((i : ℕ) → b ≤ i → i < b + k → t i ≡ false) → runs_from per t b 0 (n - b) ≡ runs_from per t (b + k) 0 (n - (b + k))
  unfolding ending
  runs_past zero b h f = rw (add-zero b)
  runs_past (suc k) b h f =
      let e : b + 1 + k ≡ b + suc k = omega arith in
      runs_fails per t b 0 n (omega arith) (f b (omega arith) (omega arith)) ∙
      runs_past k (b + 1) (omega arith) (λ i l u. f i (omega arith) (omega arith)) ∙ ap (λ x. runs_from per t x 0 (n - x)) e

  -- blocks of one arena that pass, from s on, join the run
  module _ (arena first : ℕ) (is : first ≡ arena * per) (fits : first + per ≤ n) where
    runs_join : (k b r : ℕ) → first + r ≤ b → b + k ≤ first + per → ((i : ℕ) → b ≤ i → i < b + k → t i ≡ true) →
        runs_from per t b r (n - b) ≡ runs_from per t (b + k) (r + k) (n - (b + k))
    runs_join zero b r g h f = rw (add-zero b, add-zero r)
    runs_join (suc k) b r g h f =
        let e : b + 1 + k ≡ b + suc k = omega arith in
        let d : r + 1 + k ≡ r + suc k = omega arith in
        runs_passes per t b r n (omega arith) (f b (omega arith) (omega arith)) (arena_first arena per first b r is g (omega arith)) ∙
        runs_join k (b + 1) (r + 1) (omega arith) (omega arith) (λ i l u. f i (omega arith) (omega arith)) ∙
        ap₂ (λ x y. runs_from per t x y (n - x)) e d

    -- the run ends before hi: there the test fails, or the arena ends
    runs_end : (hi r : ℕ) → hi ≤ first + per → (hi < first + per → t hi ≡ false) →
        runs_from per t hi r (n - hi) ≡ ending hi r ++ runs_from per t hi 0 (n - hi)
    unfolding ending
    runs_end hi r h f =
        cases (lt? hi (first + per))
        (λ l. runs_fails per t hi r n (omega arith) (f l) ∙ ap (λ x. ending hi r ++ x) (sym (runs_fails per t hi 0 n (omega arith) (f l))))
        (λ l. runs_arena per t hi r (n - hi) (arena_edge (arena + 1) per hi ((let z : hi ≡ first + per = omega arith in z) ∙ arena_next arena per first is)))

    -- THE NEXT RUN from b on is that from lo on and below hi, and ends behind b
    pub record Next (b lo hi : ℕ) : Type 0 where
      pub from : b ≤ lo
      pub to : lo ≤ hi
      pub edge : hi ≤ first + per
      pub more : b < first + per → b < hi
      pub run : runs_from per t b 0 (n - b) ≡ ending hi (hi - lo) ++ runs_from per t hi 0 (n - hi)

    module _ (b lo hi : ℕ) (low : first ≤ b) (given : Leads t b (first + per) lo) (kept : Leads (λ i. not (t i)) lo (first + per) hi) where
      run_is : runs_from per t b 0 (n - b) ≡ ending hi (hi - lo) ++ runs_from per t hi 0 (n - hi)
      run_is =
          let e : b + (lo - b) ≡ lo = omega (arith, given.from) in
          let d : lo + (hi - lo) ≡ hi = omega (arith, kept.from) in
          let past = rw e at (runs_past (lo - b) b (omega (arith, given.to)) (λ i l u. given.none i l (omega arith))) in
          let join = rw (d, zero-add (hi - lo)) at
          (runs_join (hi - lo) lo 0 (omega (arith, given.from)) (omega (arith, kept.to)) (λ i l u. not-false (t i) (kept.none i l (omega arith)))) in
          past ∙ join ∙ runs_end hi (hi - lo) kept.to (λ l. not-true (t hi) (kept.holds l))

      ends_behind : b < first + per → b < hi
      ends_behind h =
          cases (same? hi b)
          (λ e.
          let d : lo ≡ b = omega (arith, given.from, kept.from) in
          absurd (true_false (rw d at (given.holds (omega arith))) (not-true (t b) (rw e at (kept.holds (omega arith))))))
          (λ d. omega (arith, given.from, kept.from))

      next_leads : Next b lo hi
      next_leads = record { from = given.from; to = kept.from; edge = kept.to; more = ends_behind; run = run_is }

leads_same : (p q : ℕ → Bool) (lo hi r : ℕ) → ((i : ℕ) → p i ≡ q i) → Leads p lo hi r → Leads q lo hi r
leads_same p q lo hi r e l = record { from = l.from; to = l.to; none = λ i a b. sym (e i) ∙ l.none i a b; holds = λ h. sym (e r) ∙ l.holds h }

-- as the code finds it, in the arena of this number, where u tells the blocks that fail
module _ (per : ℕ) (t u : ℕ → Bool) (fails : (i : ℕ) → u i ≡ not (t i)) (arenas arena first : ℕ) (is : first ≡ arena * per) (h : arena < arenas) where
  pub next_run : (b lo hi : ℕ) → first ≤ b → b ≤ first + per → lo ≡ first_from t (first + per) b (first + per - b) →
      hi ≡ first_from u (first + per) lo (first + per - lo) → Next per t (arenas * per) arena first is (arena_inside arena arenas per first is h) b lo hi
  next_run b lo hi l k e d =
      let given : Leads t b (first + per) lo = rw e (leads t (first + per) b k) in
      let kept : Leads u lo (first + per) hi = rw d (leads u (first + per) lo given.to) in
      next_leads per t (arenas * per) arena first is (arena_inside arena arenas per first is h) b lo hi l given (leads_same u _ lo (first + per) hi fails kept)
