-- What a write may be given, of the ledger alone: its candidates are the blocks that are on no page, not queued and not waiting.
use mathlib.Core.Path.{◌≡◌, refl, sym, ap, ◌∙◌, subst}
use mathlib.Core.Logic.{◌↔◌, inl, inr}
use mathlib.Core.Bool.{true, false, true≢false}
use mathlib.Core.List.{List, [], ◌∷◌, map, flat_map}
use Prim.Native.Nat.{ℕ, zero, suc, ◌+◌, ◌-◌, ◌*◌, ◌/◌, ◌%◌, ◌≤◌, ◌<◌}
use native.Mathlib.Nat.{mod-lt, mod-eq_of_lt, add-mod_left, mod-add-mod, div-add-mod', div-lt_iff_lt-mul}
use native.Mathlib.Omega.{arith}
use lib.Dec.{leb, ltb}
use borrow.Author.Tests.{lt-ltb, le-leb}
use Rattle.answer.proofs.Cases.{cases, lt?, same?}
use Rattle.geometry.specs.declared.Geometry.{Geometry}
use Rattle.geometry.specs.Limits.{Inside, blocks}
use Rattle.choice.proofs.Ranges.{block_inside}
use Rattle.model.specs.Lists.{In, keep_if}
use Rattle.model.specs.Held.{available}
use Rattle.model.specs.State.{State, fresh}
use Rattle.model.specs.Book.{OnPage}
use Rattle.model.specs.History.{Entry, book, queued_in, unsynced}
use Rattle.model.specs.Model.{Screened, state_after, history}
use Rattle.model.proofs.ListFacts.{in_left, in_right, of_append, in_keep, of_keep}
use Rattle.model.proofs.OnPageFacts.{held_on, on_held}
use Rattle.model.proofs.Waiting.{in_waits, not_waits, available_is, is_available}
use Rattle.model.proofs.Queueing.{in_queue, not_in_queue}
use Rattle.model.proofs.StepFacts.{fresh_fine, reached}
use Rattle.model.proofs.Reckoning.{waits_reckoned, queued_reckoned}
use Rattle.ledger.specs.Ledger.{Ledger, rising, is_free, arena, arenas_from, from_mark, candidates, steps}
use Rattle.ledger.specs.LedgerQueue.{CandidatesAre}
use Rattle.ledger.proofs.Numbers.{of_map}
use Rattle.ledger.proofs.Tells.{free_at, fresh_tells}
use Rattle.ledger.proofs.ToldProof.{left_from}
use Rattle.ledger.proofs.AloneProof.{plains, beside}

-- ── lists ──

in_rising : (n b c : ℕ) → b ≤ c → c < b + n → In c (rising b n)
unfolding rising
in_rising zero b c l u = omega arith
in_rising (suc n) b c l u = cases (same? c b) (λ e. inl e) (λ d. inr (in_rising n (suc b) c (omega (arith, d)) (omega arith)))

of_rising : (n b c : ℕ) → In c (rising b n) → (b ≤ c) × (c < b + n)
unfolding rising
of_rising zero b c i = absurd i
of_rising (suc n) b c i =
    cases i (λ e. (omega (arith, e), omega (arith, e))) (λ j. let (l, u) = of_rising n (suc b) c j in (omega (arith, l), omega (arith, u)))

in_flat : (f : ℕ → List ℕ) (l : List ℕ) (a b : ℕ) → In a l → In b (f a) → In b (flat_map f l)
unfolding flat_map
in_flat f [] a b i j = absurd i
in_flat f (c ∷ l) a b i j =
    cases i
    (λ e. in_left b (f c) (flat_map f l) (subst (λ d. In b (f d)) e j))
    (λ k. in_right b (f c) (flat_map f l) (in_flat f l a b k j))

of_flat : (f : ℕ → List ℕ) (l : List ℕ) (b : ℕ) → In b (flat_map f l) → (a : ℕ) × In a l × In b (f a)
unfolding flat_map
of_flat f [] b i = absurd i
of_flat f (c ∷ l) b i =
    cases (of_append b (f c) (flat_map f l) i) (λ j. (c, inl refl, j)) (λ j. let (a, k, h) = of_flat f l b j in (a, inr k, h))

in_map : (f : ℕ → ℕ) (l : List ℕ) (s : ℕ) → In s l → In (f s) (map f l)
in_map f [] s i = absurd i
in_map f (c ∷ l) s i = cases i (λ e. inl (ap f e)) (λ j. inr (in_map f l s j))

-- ── the search looks at every block, and at no other number ──

-- each number below m is reached from s in fewer than m steps, round
reach : (m s o : ℕ) → o < m → (k : ℕ) × (k < m) × ((s + k) % m ≡ o)
reach m s o h =
    let r : s % m < m = mod-lt s (omega arith) in
    cases (lt? o (s % m))
    (λ l. (
      m - s % m + o,
      below (s % m) o m r l,
      sym (mod-add-mod s m (m - s % m + o)) ∙ ap (λ (x : ℕ). x % m) (back (s % m) o m r) ∙ add-mod_left m o ∙ mod-eq_of_lt h,
    ))
    (λ l. (o - s % m, less (s % m) o m h, sym (mod-add-mod s m (o - s % m)) ∙ ap (λ (x : ℕ). x % m) (fore (s % m) o l) ∙ mod-eq_of_lt h))
  where
    fore : (a b : ℕ) → a ≤ b → a + (b - a) ≡ b
    fore a b l = omega arith

    back : (a b c : ℕ) → a < c → a + (c - a + b) ≡ c + b
    back a b c l = omega arith

    below : (a b c : ℕ) → a < c → b < a → c - a + b < c
    below a b c l u = omega arith

    less : (a b c : ℕ) → b < c → b - a < c
    less a b c u = omega arith

module _ (g : Geometry) (L : Ledger) where
  -- the blocks of an arena, from its mark round, are its blocks
  in_mark : (a b : ℕ) → a * g.per ≤ b → b < a * g.per + g.per → In b (from_mark g L a)
  unfolding from_mark arena
  in_mark a b l u =
      let m : ℕ = L.given a in
      let all : List ℕ = rising (a * g.per) g.per in
      let i : In b all = in_rising g.per (a * g.per) b l u in
      cases (lt? b m)
      (λ h. in_right b (keep_if (λ c. leb m c) all) (keep_if (λ c. ltb c m) all) (in_keep (λ c. ltb c m) b all i (lt-ltb b m h)))
      (λ h. in_left b (keep_if (λ c. leb m c) all) (keep_if (λ c. ltb c m) all) (in_keep (λ c. leb m c) b all i (le-leb m b h)))

  of_mark : (a b : ℕ) → In b (from_mark g L a) → (a * g.per ≤ b) × (b < a * g.per + g.per)
  unfolding from_mark arena
  of_mark a b i =
      let m : ℕ = L.given a in
      let all : List ℕ = rising (a * g.per) g.per in
      of_rising g.per (a * g.per) b
      (cases (of_append b (keep_if (λ c. leb m c) all) (keep_if (λ c. ltb c m) all) i)
      (λ j. (of_keep (λ c. leb m c) b all j).0)
      (λ j. (of_keep (λ c. ltb c m) b all j).0))

  module _ (inside : Inside g) (k : ℕ) where
    in_arenas_lem : (a : ℕ) → a < g.arenas → In a (arenas_from g L k)
    unfolding arenas_from
    in_arenas_lem a h =
        let s : ℕ = L.writes / g.turn + k in
        let (j, few, is) = reach g.arenas s a h in
        subst (λ c. In c (map (λ c. c % g.arenas) (rising s g.arenas))) is
        (in_map (λ c. c % g.arenas) (rising s g.arenas) (s + j) (in_rising g.arenas s (s + j) (omega arith) (omega (arith, few))))

    of_arenas : (a : ℕ) → In a (arenas_from g L k) → a < g.arenas
    unfolding arenas_from
    of_arenas a i =
        let s : ℕ = L.writes / g.turn + k in
        let (c, j, e) = of_map (λ c. c % g.arenas) (rising s g.arenas) a i in
        let low : c % g.arenas < g.arenas = mod-lt c (omega (arith, inside.arenas_least)) in
        omega (arith, e, low)

    -- THE CANDIDATES ARE THE FREE BLOCKS
    pub candidates_free : (b : ℕ) → In b (candidates g L k) ↔ ((b < blocks g) × (is_free L b ≡ true))
    unfolding candidates
    candidates_free b =
        let all : List ℕ = flat_map (from_mark g L) (arenas_from g L k) in (
          λ i.
              let (j, free) = of_keep (is_free L) b all i in
              let (a, h, m) = of_flat (from_mark g L) (arenas_from g L k) b j in
              let (l, u) = of_mark a b m in
              let e : a * g.per + (b - a * g.per) ≡ b = omega (arith, l) in
              (subst (λ c. c < blocks g) e (block_inside a g.arenas g.per (b - a * g.per) (of_arenas a h) (omega (arith, l, u))), free),
          λ w.
              let p : 0 < g.per = omega (arith, inside.per_least) in
              let d : b / g.per * g.per + b % g.per ≡ b = div-add-mod' b g.per in
              let r : b % g.per < g.per = mod-lt b p in
              let h : b / g.per < g.arenas = (div-lt_iff_lt-mul p).1 w.0 in
              let m : In b (from_mark g L (b / g.per)) = in_mark (b / g.per) b (omega (arith, d)) (omega (arith, d, r)) in
              in_keep (is_free L) b all
              (in_flat (from_mark g L) (arenas_from g L k) (b / g.per) b (in_arenas_lem (b / g.per) h) m)
              w.1,
        )

-- ── what may be given by the state is what may be given by the replies ──

module _ (g : Geometry) (inside : Inside g) (l : List Screened) where
  abbrev T : State
  T = state_after g l

  abbrev Kept : List Entry → ℕ → Type 0
  Kept H b = (OnPage (book g.pages H) b → ⊥) × (queued_in g.pages H b ≡ false) × (unsynced H b ≡ false)

  available_told : (b : ℕ) → (available (state_after g l) b ≡ true) ↔ Kept (history g l) b
  available_told b =
      let R = reached g inside l in
      let B = book g.pages (history g l) in (
        λ e.
            let (unborn, awake, unqueued) = available_is T b e in (
              λ o. let z : ⊥ = omega (arith, on_held T.view B R.fine.sound R.inv.agree b o, unborn) in z,
              sym (queued_reckoned g inside l b) ∙ not_in_queue T b unqueued,
              sym (waits_reckoned g l b) ∙ not_waits T b awake,
            ),
        λ w.
            is_available T b
            (cases (same? (T.view.birth b) 0) (λ z. z)
            (λ n. absurd (w.0 (held_on T.view B R.fine.sound R.inv.agree b (omega (arith, n))))))
            (cases (same? (T.queue.birth b) 0) (λ z. z)
            (λ n. absurd (true≢false (sym (in_queue T b (omega (arith, n))) ∙ queued_reckoned g inside l b ∙ w.1))))
            (λ i. true≢false (sym (in_waits T b i) ∙ waits_reckoned g l b ∙ w.2)),
      )

-- WHAT A WRITE MAY BE GIVEN, OF THE LEDGER ALONE
pub candidates_are : CandidatesAre
candidates_are g inside before k b =
    let clean : Ledger = Rattle.ledger.specs.Ledger.fresh in
    let L : Ledger = steps g clean before in
    let H = (beside g inside before clean (fresh g) (fresh_fine g inside) (fresh_tells g inside)).2 in
    let (fine, tells) = left_from g inside before clean (fresh g) (fresh_fine g inside) (fresh_tells g inside) in
    let free = free_at g L (state_after g (plains before)) fine tells b in
    let told = subst (λ h. (available (state_after g (plains before)) b ≡ true) ↔
    ((OnPage (book g.pages h) b → ⊥) × (queued_in g.pages h b ≡ false) × (unsynced h b ≡ false))) H (available_told g inside (plains before) b) in
    let all = candidates_free g L inside k b in (
      λ i. let (low, f) = all.0 i in let (off, unqueued, awake) = told.0 (sym free ∙ f) in (low, off, unqueued, awake),
      λ w. all.1 (w.0, free ∙ told.1 (w.1, w.2, w.3)),
    )
