-- Held blocks and used words as the tables have them are those that the book, the reckoned queue and the replies tell.
use mathlib.Core.Path.{◌≡◌, refl, sym, ap, ◌∙◌, subst}
use mathlib.Core.Logic.{◌⊎◌, ◌↔◌, inl, inr}
use mathlib.Core.Bool.{true, false≢true}
use mathlib.Core.List.{List, [], ◌∷◌, map}
use Prim.Native.Nat.{ℕ, suc, ◌+◌, ◌<◌}
use native.Mathlib.Omega.{arith}
use lib.ListN.{length, get_or, length-map}
use Rattle.answer.specs.Reply.{Reply, accepted, refused}
use Rattle.answer.proofs.Cases.{cases, lt?}
use Rattle.geometry.specs.declared.Geometry.{Geometry}
use Rattle.geometry.specs.Limits.{Inside}
use Rattle.alloc_log.specs.Word.{released}
use Rattle.model.specs.Held.{queued, held, frees}
use Rattle.model.specs.Results.{paired, blocks_in}
use Rattle.model.specs.State.{State, fresh}
use Rattle.model.specs.Window.{queueing}
use Rattle.model.specs.Calls.{Account, looking, opening, freeing, closing, removing, reclaiming, placing, marking, renewing, account, result_by, left_by}
use Rattle.model.specs.Calls.{block, writing, first_queued, reclaimed, acted, given, logged, effect}
use Rattle.model.specs.Layout.{state_of}
use Rattle.model.specs.Memory.{Memory, words_used, make_reply, make_after}
use Rattle.model.specs.Book.{OnPage}
use Rattle.model.specs.History.{state_from, history_from, book, queued_in}
use Rattle.model.specs.UsedWords.{used_as, used_then, used_by}
use Rattle.model.specs.Demand.{Own, own_store, run}
use Rattle.model.specs.Crash.{heard, used_after, HeldAfter}
use Rattle.model.specs.Model.{Screened, answer, keep_or, model_after, model, state_after, history}
use Rattle.model.proofs.ResultFacts.{blocks_in_paired}
use Rattle.model.proofs.OnPageFacts.{held_on, on_held}
use Rattle.model.proofs.Queueing.{in_queue, not_in_queue, held_on as held-paged, held_queued, not_held}
use Rattle.model.proofs.ModelFacts.{accepted_is}
use Rattle.model.proofs.StepFacts.{reached}
use Rattle.model.proofs.Reckoning.{queued_reckoned}
use Rattle.model.proofs.MadeFacts.{made_state, made_zero}
use Rattle.model.proofs.Keeps.{making_is, made_tables}
use Rattle.model.proofs.Transfer.{asked, same_state, same_history}
use Rattle.model.proofs.Demands.{own_simulation}

-- ── of the model ──

-- a held block has a birth, on a page or in the queue
pub held_born : (T : State) (b : ℕ) → held T b ≡ true → (0 < T.view.birth b) ⊎ (0 < T.queue.birth b)
held_born T b e =
    cases (lt? 0 (T.view.birth b))
    (λ h. inl h)
    (λ h. cases (lt? 0 (T.queue.birth b)) (λ k. inr k) (λ k. absurd (false≢true (sym (not_held T b (omega arith) (omega arith)) ∙ e))))

-- a queued one has a birth in the queue
queued_born : (T : State) (b : ℕ) → queued T b ≡ true → 0 < T.queue.birth b
queued_born T b e = cases (lt? 0 (T.queue.birth b)) (λ h. h) (λ h. absurd (false≢true (sym (not_in_queue T b (omega arith)) ∙ e)))

-- a word for each block that a result names, W's first among them
pub named_words : (f : ℕ → ℕ) (bs l : List ℕ) → paired f bs ≡ l → length (map released bs) ≡ length (blocks_in l)
named_words f bs l e = length-map bs released ∙ ap (λ m. length m) (sym (blocks_in_paired f bs) ∙ ap blocks_in e)

pub placed_words : (f : ℕ → ℕ) (b r : ℕ) (bs l : List ℕ) → b ∷ r ∷ paired f bs ≡ l → suc (length (map released bs)) ≡ length (blocks_in l)
unfolding blocks_in
placed_words f b r bs l e = ap suc (named_words f bs (paired f bs) refl) ∙ ap (λ m. length (blocks_in m)) e

module _ (g : Geometry) where
  used_by_lem : (T : State) (A : Account) (l : List ℕ) → result_by g T A ≡ l → (left_by g T A).used ≡ used_as T.used A l
  unfolding acted queueing reclaimed given logged
  used_by_lem T (looking s cs res note) l e = refl
  used_by_lem T (opening cs a) l e = omega arith
  used_by_lem T (freeing cs a) l e = ap (λ n. T.used + n) (named_words T.view.birth (frees T.view (a T)) l e)
  used_by_lem T (closing r) l e = refl
  used_by_lem T (removing r) l e = refl
  used_by_lem T (reclaiming k) l e = ap (λ n. T.used + n) (named_words T.queue.birth (first_queued T k) l e)
  used_by_lem T (placing r x k) l e =
      ap (λ n. T.used + n) (placed_words T.view.birth (block g T k) r (frees T.view (writing g T r x k)) l e)
  used_by_lem T marking l e = refl
  used_by_lem T renewing l e = ap (λ m. get_or m 0 0) e

  step_used : (T : State) (i : Screened) → (model_after g T i).used ≡ used_then T.used i.call (answer g T i)
  unfolding model_after
  step_used T i = go (answer g T i) refl
    where
      go : (A : Reply) → answer g T i ≡ A → (keep_or A T (effect g T i.call)).used ≡ used_then T.used i.call A
      go (refused n) e = refl
      go (accepted l) e = used_by_lem T (account i.call) l (accepted_is g T i l e).1

  pub model_used : (l : List Screened) (T : State) → (state_from (model g) T l).used ≡ used_by T.used (history_from (model g) T l)
  model_used [] T = refl
  model_used (i ∷ l) T = model_used l (model_after g T i) ∙ ap (λ n. used_by n (history_from (model g) (model_after g T i) l)) (step_used T i)

  model_holds : Inside g → (l : List Screened) (b : ℕ) →
      (held (state_after g l) b ≡ true) ↔ (OnPage (book g.pages (history g l)) b ⊎ (queued_in g.pages (history g l) b ≡ true))
  model_holds inside l b =
      let R = reached g inside l in
      let T = state_after g l in
      let B = book g.pages (history g l) in
      let told = queued_reckoned g inside l b in (
        λ e. cases (held_born T b e)
            (λ h. inl (held_on T.view B R.fine.sound R.inv.agree b h))
            (λ h. inr (sym told ∙ in_queue T b h)),
        λ o. cases o
            (λ p. held-paged T b (on_held T.view B R.fine.sound R.inv.agree b p))
            (λ q. held_queued T b (queued_born T b (told ∙ q))),
      )

-- ── of the store that keeps its own log ──

module _ (g : Geometry) where
  -- the words used after any calls, on any memory
  pub words_told : (l : List Own) (M : Memory) → words_used (run g M l) ≡ used_by (words_used M) (history_from (own_store g) M l)
  unfolding own_simulation state_of
  words_told l M =
      let k = asked (own_store g) (model g) (own_simulation g) M l in
      let T = state_of g M.tables in
      sym (ap (λ (U : State). U.used) (same_state (own_store g) (model g) (own_simulation g) l M tt)) ∙ model_used g k T ∙
      ap (used_by T.used) (same_history (own_store g) (model g) (own_simulation g) l M tt)

-- a fresh store has used no word
pub fresh_used : (g : Geometry) (M : Memory) → make_reply g M ≡ accepted [] → words_used (make_after g M) ≡ 0
fresh_used g M e =
    let (i, L) = making_is g M e in
    ap (λ t. get_or t 9 0) (made_tables g M e) ∙ made_zero g M.tables L.tables 9 (omega arith) (inl (omega arith)) (omega arith)

module _ (g : Geometry) (M : Memory) (made : make_reply g M ≡ accepted []) (l : List Own) where
  -- the words used after any calls on a fresh store
  pub used_told : words_used (run g (make_after g M) l) ≡ used_after g (make_after g M) l
  used_told = words_told g l (make_after g M) ∙ ap (λ n. used_by n (heard g (make_after g M) l)) (fresh_used g M made)

  -- and the blocks held: those on a page of the book, and those reckoned queued
  pub held_told : (b : ℕ) → (held (state_of g (run g (make_after g M) l).tables) b ≡ true) ↔ HeldAfter g (make_after g M) l b
  unfolding own_simulation make_after
  held_told b =
      let (inside, long) = making_is g M made in
      let F = make_after g M in
      let z : state_of g F.tables ≡ fresh g = ap (state_of g) (made_tables g M made) ∙ made_state g inside M.tables long.tables in
      let k = asked (own_store g) (model g) (own_simulation g) F l in
      let there : state_from (model g) (fresh g) k ≡ state_of g (run g F l).tables =
      ap (λ T. state_from (model g) T k) (sym z) ∙ same_state (own_store g) (model g) (own_simulation g) l F tt in
      let told : history g k ≡ history_from (own_store g) F l =
      ap (λ T. history_from (model g) T k) (sym z) ∙ same_history (own_store g) (model g) (own_simulation g) l F tt in
      let w = model_holds g inside k b in (
        λ h. subst (λ H. OnPage (book g.pages H) b ⊎ (queued_in g.pages H b ≡ true)) told (w.0 (ap (λ T. held T b) there ∙ h)),
        λ o. sym (ap (λ T. held T b) there) ∙
            w.1 (subst (λ H. OnPage (book g.pages H) b ⊎ (queued_in g.pages H b ≡ true)) (sym told) o),
      )
