-- What is kept from writes: the blocks given and not freed since are those on pages and in the queue, and L lists exactly the others that do not wait.
use mathlib.Core.Path.{◌≡◌, refl, sym, ap, ap₂, ◌∙◌, subst}
use mathlib.Core.Logic.{◌⊎◌, ◌↔◌, inl, inr}
use mathlib.Core.Bool.{Bool, true, false, ◌||◌, false≢true, true≢false}
use mathlib.Core.List.{List, [], ◌∷◌, ◌++◌}
use Prim.Native.Nat.{ℕ, ◌+◌, ◌<◌}
use native.Mathlib.Omega.{arith}
use Rattle.answer.specs.Reply.{accepted}
use Rattle.answer.proofs.Cases.{cases, same?, lt?}
use Rattle.geometry.specs.declared.Geometry.{Geometry}
use Rattle.geometry.specs.Limits.{Inside, blocks}
use Rattle.alloc_log.specs.Runs.{Covered}
use Rattle.model.specs.Held.{tally, on_pages, queued, held}
use Rattle.model.specs.State.{State}
use Rattle.model.specs.Calls.{result}
use Rattle.model.specs.FreeList.{Free, free_runs}
use Rattle.model.specs.Book.{Book, OnPage, on_lines}
use Rattle.model.specs.History.{Event, give, free, NotFreed, Standing, book, events, queued_in, unsynced}
use Rattle.model.specs.HistoryFacts.{given_in, freed_in, kept_count, runs_of_pairs}
use Rattle.model.specs.Model.{Screened, answer, state_after, history}
use Rattle.model.specs.Command.{FreeList}
use Rattle.model.proofs.Tally.{tally_ext}
use Rattle.model.proofs.EventFacts.{set_to, set_at, set_off, held_by}
use Rattle.model.proofs.OnPageFacts.{held_on, on_held}
use Rattle.model.proofs.Waiting.{in_waits, not_waits}
use Rattle.model.proofs.Queueing.{on_pages_lem, in_queue, not_in_queue, held_count_lem}
use Rattle.model.proofs.ModelFacts.{accepted_is}
use Rattle.model.proofs.StepFacts.{reached}
use Rattle.model.proofs.BookCount.{on_is}
use Rattle.model.proofs.Reckoning.{waits_reckoned, queued_reckoned}
use Rattle.model.proofs.FreeListFacts.{free_list_is}
use Rattle.model.proofs.AfterBarrier.{runs_back}

-- ── given and not freed since, by the running test ──

give_block : (b c : ℕ) → give b ≡ give c → b ≡ c
give_block b c e = cc

free_block : (b c : ℕ) → free b ≡ free c → b ≡ c
free_block b c e = cc

later : (b : ℕ) (e : Event) (l : List Event) → Standing b l → Standing b (e ∷ l)
later b e l s = record { early = e ∷ s.early; late = s.late; split = ap {B = List Event} (λ m. e ∷ m) s.split; since = s.since }

-- a block that the events hold was held before them and not freed, or stands
holds : (h : ℕ → Bool) (l : List Event) (b : ℕ) → held_by h l b ≡ true → Standing b l ⊎ ((h b ≡ true) × NotFreed b l)
holds h [] b e = inr (e, tt)
holds h (give c ∷ l) b e =
    cases (holds (set_to h c true) l b e)
    (λ s. inl (later b (give c) l s))
    (λ w. cases (same? b c)
    (λ i. inl (record { early = []; late = l; split = ap {B = List Event} (λ d. give d ∷ l) (sym i); since = w.1 }))
    (λ n. inr (sym (set_off h c b true n) ∙ w.0, (λ i. let z : ◌≡◌ {A = ℕ} 0 1 = cc in let y : ⊥ = omega arith in y, w.1))))
holds h (free c ∷ l) b e =
    cases (holds (set_to h c false) l b e)
    (λ s. inl (later b (free c) l s))
    (λ w. cases (same? b c)
    (λ i. absurd (true≢false (sym w.0 ∙ set_at h c b false i)))
    (λ n. inr (sym (set_off h c b false n) ∙ w.0, (λ i. n (sym (free_block c b i)), w.1))))

-- what is held and not freed is held
stays : (h : ℕ → Bool) (l : List Event) (b : ℕ) → h b ≡ true → NotFreed b l → held_by h l b ≡ true
stays h [] b e n = e
stays h (give c ∷ l) b e n =
    stays (set_to h c true) l b (cases (same? b c) (λ i. set_at h c b true i) (λ m. set_off h c b true m ∙ e)) n.1
stays h (free c ∷ l) b e n = stays (set_to h c false) l b (set_off h c b false (λ i. n.0 (ap free (sym i))) ∙ e) n.1

stands : (h : ℕ → Bool) (early late : List Event) (b : ℕ) → NotFreed b late → held_by h (early ++ (give b ∷ late)) b ≡ true
stands h [] late b n = stays (set_to h b true) late b (set_at h b b true refl) n
stands h (give c ∷ early) late b n = stands (set_to h c true) early late b n
stands h (free c ∷ early) late b n = stands (set_to h c false) early late b n

or_either : (p q : Bool) → (p || q) ≡ true → (p ≡ true) ⊎ (q ≡ true)
or_either true q e = inl refl
or_either false q e = inr e

or_first : (p q : Bool) → p ≡ true → (p || q) ≡ true
or_first p q e = rw e

or_second : (p q : Bool) → q ≡ true → (p || q) ≡ true
or_second true q e = refl
or_second false q e = e

module _ (g : Geometry) (inside : Inside g) (before : List Screened) where
  abbrev T : State
  T = state_after g before

  abbrev H : List Rattle.model.specs.History.Entry
  H = history g before

  abbrev B : Book
  B = book g.pages (history g before)

  -- held, by the book and the reckoning
  held_is : (b : ℕ) →
      held (state_after g before) b ≡ (on_lines g.pages (book g.pages (history g before)).lines b || queued_in g.pages (history g before) b)
  unfolding held
  held_is b =
      ap₂ (λ s t. s || t) (sym (on_is g T B (events H) (reached g inside before) b)) (queued_reckoned g inside before b)

  on_held_is : (b : ℕ) → OnPage (book g.pages (history g before)) b → held (state_after g before) b ≡ true
  unfolding held
  on_held_is b i =
      let R = reached g inside before in
      or_first (on_pages T.view b) (queued T b) (on_pages_lem T.view b (on_held T.view B R.fine.sound R.inv.agree b i))

  -- BLOCKS GIVEN LESS FREED ARE THOSE ON PAGES AND IN THE QUEUE
  pub given_less_freed : (b : ℕ) → Standing b (events (history g before)) ↔
      (OnPage (book g.pages (history g before)) b ⊎ (queued_in g.pages (history g before) b ≡ true))
  unfolding held on_pages
  given_less_freed b =
      let R = reached g inside before in (
        λ s.
            let given : held_by (λ c. false) (events H) b ≡ true =
            ap (λ l. held_by (λ c. false) l b) s.split ∙ stands (λ c. false) s.early s.late b s.since in
            let e : held T b ≡ true = sym (R.inv.tells b) ∙ given in
            cases (or_either (on_pages T.view b) (queued T b) e)
            (λ y. inl (held_on T.view B R.fine.sound R.inv.agree b (born y)))
            (λ y. inr (sym (queued_reckoned g inside before b) ∙ y)),
        λ w.
            let e : held T b ≡ true = cases w (on_held_is b)
            (λ y. or_second (on_pages T.view b) (queued T b) (queued_reckoned g inside before b ∙ y)) in
            cases (holds (λ c. false) (events H) b (R.inv.tells b ∙ e)) (λ s. s) (λ z. absurd (false≢true z.0)),
      )
    where
      born : on_pages (state_after g before).view b ≡ true → 0 < (state_after g before).view.birth b
      born y =
          cases (lt? 0 ((state_after g before).view.birth b))
          (λ h. h)
          (λ h. absurd (true≢false (sym y ∙ Rattle.model.proofs.Queueing.off_pages (state_after g before).view b (omega arith))))

  -- in number
  pub kept_count_lem : given_in (events (history g before)) ≡ freed_in (events (history g before)) + kept_count g.pages (blocks g) (history g before)
  unfolding kept_count
  kept_count_lem =
      let R = reached g inside before in
      R.inv.count ∙ ap (λ n. freed_in (events H) + n)
      (sym (held_count_lem T R.fine.queue) ∙ ap (tally (held T)) R.fine.blocks ∙
      tally_ext (held T) (λ b. on_lines g.pages B.lines b || queued_in g.pages H b) (blocks g) (λ b h. held_is b))

  -- L LISTS EXACTLY WHAT IS ON NO PAGE, NOT QUEUED AND NOT WAITING
  pub kept_exactly : (i : Screened) (l : List ℕ) (b : ℕ) → i.call ≡ FreeList → answer g (state_after g before) i ≡ accepted l → b < blocks g →
      Covered b (runs_of_pairs l) ↔ ((OnPage (book g.pages (history g before)) b → ⊥) × (queued_in g.pages (history g before) b ≡ false) ×
      (unsynced (history g before) b ≡ false))
  kept_exactly i l b c a h =
      let R = reached g inside before in
      let F = free_list_is g inside T R.fine.sound R.fine.queue in
      let e : runs_of_pairs l ≡ free_runs g T =
      ap runs_of_pairs (sym (accepted_is g T i l a).1 ∙ ap (result g T) c ∙ F.given) ∙ runs_back (free_runs g T) in
      let f = F.covered b h in (
        λ v.
            let w : Free T b = f.0 (subst (Covered b) e v) in (
              λ p.
                  let (s, x, o) = R.fine.sound.block b (on_held T.view B R.fine.sound R.inv.agree b p) in
                  w.0 s x (record { live = o.live; there = o.there }),
              sym (queued_reckoned g inside before b) ∙ not_in_queue T b (none (λ k. w.1 ((R.fine.queue.births b).1 k))),
              sym (waits_reckoned g before b) ∙ not_waits T b w.2,
            ),
        λ w. subst (Covered b) (sym e) (f.1 (
          λ s x o. w.0 (held_on T.view B R.fine.sound R.inv.agree b (R.fine.sound.paged s x b o.live o.there).born),
          λ j. true≢false (sym (in_queue T b ((R.fine.queue.births b).0 j)) ∙ queued_reckoned g inside before b ∙ w.1),
          λ j. true≢false (sym (in_waits T b j) ∙ waits_reckoned g before b ∙ w.2),
        )),
      )
    where
      none : (0 < (state_after g before).queue.birth b → ⊥) → (state_after g before).queue.birth b ≡ 0
      none n = cases (lt? 0 ((state_after g before).queue.birth b)) (λ k. absurd (n k)) (λ k. omega arith)
