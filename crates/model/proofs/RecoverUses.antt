-- A USE OF RECOVERY. The script is B · W 1 0 0 · Y, after which the tables are saved, and W 1 0 0 · Y · W 1 1 0; then the plug is pulled.
-- The log after the saved words is lost or garbage. With the saved tables page 0 of record 1 reads the first W's block again.
use mathlib.Core.Path.{◌≡◌, refl, sym, ap, ◌∙◌, subst}
use mathlib.Core.Logic.{inl, inr}
use mathlib.Core.Bool.{Bool, true, false, ◌&&◌, false≢true}
use mathlib.Core.List.{List, [], ◌∷◌, ◌++◌}
use Prim.Native.Nat.{ℕ, ◌*◌, ◌≤◌}
use native.Mathlib.Omega.{arith}
use lib.ListN.{length, take}
use Rattle.answer.specs.Reply.{Reply, accepted, refused}
use Rattle.answer.proofs.Cases.{cases}
use Rattle.geometry.specs.declared.Geometry.{Geometry}
use Rattle.model.specs.Memory.{Memory, reply, after, make_reply, make_after}
use Rattle.model.specs.Book.{Some, OnPage}
use Rattle.model.specs.History.{Entry, book, was_accepted}
use Rattle.model.specs.HistoryFacts.{Synced, Gives}
use Rattle.model.specs.UsedWords.{used_by}
use Rattle.model.specs.Demand.{Own, with_out, own_store, run}
use Rattle.model.specs.Crash.{Compacts, heard, used_after}
use Rattle.model.specs.Recover.{taken_up, Recovered}
use Rattle.model.specs.ReadingLaws.{Touches}
use Rattle.model.specs.Command.{Command}
use Rattle.model.specs.Command.{Begin, Write, Read, Barrier}
use Rattle.model.proofs.Keeps.{making_is}
use Rattle.model.proofs.ReadingProof.{reading}
use Rattle.model.proofs.RecoverProof.{recovers}
use Rattle.model.proofs.Uses.{ten, gave, one_on, book_heard, then_never_4}

-- the answer of the first entry
first_answer : List Entry → Reply
first_answer [] = refused 0
first_answer (e ∷ l) = e.answer

and_false : (b : Bool) → (b && false) ≡ true → ⊥
and_false true e = false≢true e
and_false false e = false≢true e

-- a call, with the result buffer
abbrev ask : List ℕ → Command → Own
ask out c = record { call = c; out = out }

-- the calls up to the saving; those after it up to the next barrier, and from that on
abbrev early : List ℕ → List Own
early out = ask out Begin ∷ ask out (Write 1 0 0) ∷ ask out Barrier ∷ []

abbrev mid : List ℕ → List Own
mid out = ask out (Write 1 0 0) ∷ []

abbrev late : List ℕ → List Own
late out = mid out ++ (ask out Barrier ∷ ask out (Write 1 1 0) ∷ [])

-- the store when the tables are saved
abbrev saved : Geometry → Memory → List ℕ → Memory
saved g M out = run g (make_after g M) (early out)

-- of the log, the words that were used then are as the calls left them
abbrev Front : Geometry → Memory → List ℕ → List ℕ → ℕ → Type 0
Front g M out log n = take (8 * n) log ≡ take (8 * n) (run g (make_after g M) (early out ++ late out)).log

module _ (g : Geometry) (M : Memory) (made : make_reply g M ≡ accepted []) (out : List ℕ) where
  abbrev E : Memory
  E = saved g M out

  -- no C came after that
  no_C : Some Compacts (heard g E (late out)) → ⊥
  no_C i =
      cases i (λ e. and_false (was_accepted (reply g (with_out E out) (Write 1 0 0))) e)
      (λ j. cases j (λ e. and_false (was_accepted (reply g (with_out (run g E (mid out)) out) Barrier)) e)
      (λ k. cases k (λ e. and_false (was_accepted (reply g (with_out (run g E (mid out ++ (ask out Barrier ∷ []))) out) (Write 1 1 0))) e) (λ z. z)))

  -- a Y touches no page
  no_touch : (U : Memory) → Touches (own_store g) U 1 0 (ask out Barrier) → ⊥
  no_touch U (done, inl (inl (k, w))) = let z : ◌≡◌ {A = ℕ} 0 1 = cc in omega arith
  no_touch U (done, inl (inr (inl w))) = let z : ◌≡◌ {A = ℕ} 0 1 = cc in omega arith
  no_touch U (done, inl (inr (inr w))) = let z : ◌≡◌ {A = ℕ} 0 1 = cc in omega arith
  no_touch U (done, inr ((q, w), lost)) = let z : ◌≡◌ {A = ℕ} 0 1 = cc in omega arith

  module _ (log : List ℕ) (long : 8 * g.words ≤ length log) (front : Front g M out log (used_after g (make_after g M) (early out))) where
    recovered : Recovered g (make_after g M) (early out) (late out) log
    recovered = recovers g M made (early out) (late out) no_C log long front

    -- the saved tables with the log as it is
    abbrev N : Memory
    N = taken_up (saved g M out) log

    -- `sound`: no call on what any call leaves is answered 4
    pub stays_sound : (c d : Command) (more : List ℕ) → reply g (with_out (after g (taken_up (saved g M out) log) c) more) d ≡ refused 4 → ⊥
    stays_sound c d more = then_never_4 g N c d more (making_is g M made).0 recovered.sound

    -- `goes_on_lem`, the replies: whatever is called is answered as it would have been when the tables were saved
    pub as_saved : (c : Command) → reply g (with_out (taken_up (saved g M out) log) out) c ≡ reply g (with_out (saved g M out) out) c
    unfolding first_answer
    as_saved c = ap first_answer (recovered.goes_on_lem (ask out c ∷ [])).replies

    -- the first W gave b: that is what is read
    pub reads_again : (b : ℕ) (l : List ℕ) →
        reply g (with_out (run g (make_after g M) (ask out Begin ∷ [])) out) (Write 1 0 0) ≡ accepted (b ∷ 1 ∷ []) →
        reply g (with_out (taken_up (saved g M out) log) out) (Read 1 0) ≡ accepted l → l ≡ b ∷ 1 ∷ []
    reads_again b l w e =
        let (lent, own) = reading g in
        let written = run g (make_after g M) (ask out Begin ∷ ask out (Write 1 0 0) ∷ []) in
        ((own (run g (make_after g M) (ask out Begin ∷ []))).written (ask out (Write 1 0 0)) 1 0 0 b (1 ∷ []) refl w (ask out Barrier ∷ [])
        (λ i. cases i (λ t. no_touch written t) (λ z. z))
        ).gives (ask out (Read 1 0)) l refl (sym (as_saved (Read 1 0)) ∙ e)

    -- the tables and the result buffer: after one call more the host saves what it would have saved
    pub saves_again : (c : Command) →
        ((run g (taken_up (saved g M out) log) (ask out c ∷ [])).tables ≡ (run g (saved g M out) (ask out c ∷ [])).tables) ×
        ((run g (taken_up (saved g M out) log) (ask out c ∷ [])).out ≡ (run g (saved g M out) (ask out c ∷ [])).out)
    saves_again c = let on = recovered.goes_on_lem (ask out c ∷ []) in (on.tables, on.out)

-- of a store with ten words that answered 1 to B, block 0 to W, and + to Y
module _ (M : Memory) (made : make_reply ten M ≡ accepted []) (out : List ℕ)
    (h : heard ten (make_after ten M) (early out) ≡ one_on ++ (gave Barrier [] ∷ [])) (log : List ℕ) (long : 80 ≤ length log)
    (front : Front ten M out log 2) where
  -- two words were used when the tables were saved
  two_used : used_after ten (make_after ten M) (early out) ≡ 2
  unfolding book_heard
  two_used = ap (used_by 0) h

  again : Recovered ten (make_after ten M) (early out) (late out) log
  again = recovered ten M made out log long (subst (Front ten M out log) (sym two_used) front)

  -- the log: a Y that is accepted now leaves the three words, to the byte, that it would have left then
  pub logs_again : reply ten (with_out (saved ten M out) out) Barrier ≡ accepted [] →
      take 24 (run ten (taken_up (saved ten M out) log) (ask out Barrier ∷ [])).log ≡ take 24 (run ten (saved ten M out) (ask out Barrier ∷ [])).log
  logs_again e =
      let E = saved ten M out in
      let used : used_by (used_after ten (make_after ten M) (early out)) (heard ten E (ask out Barrier ∷ [])) ≡ 3 =
      ap (λ r. used_by (used_after ten (make_after ten M) (early out)) (record { call = Barrier; answer = r } ∷ [])) e ∙
      ap (λ n. used_by n (gave Barrier [] ∷ [])) two_used in
      subst (λ n. take (8 * n) (run ten (taken_up E log) (ask out Barrier ∷ [])).log ≡ take (8 * n) (run ten E (ask out Barrier ∷ [])).log) used
      (again.goes_on_lem (ask out Barrier ∷ [])).log

  -- `kept`: the W after the saving was not given block 0, so what was written there is there still
  pub not_given : Some (Gives 0) (heard ten (saved ten M out) (mid out)) → ⊥
  unfolding book_heard
  not_given =
      again.kept (mid out) (ask out Barrier ∷ ask out (Write 1 1 0) ∷ []) refl no_Y 0
      (inl (subst (λ H. OnPage (book 2 H) 0) (sym h) (inl (inl (0, refl)))))
    where
      no_Y : Some Synced (heard ten (saved ten M out) (mid out)) → ⊥
      no_Y i = cases i (λ e. and_false (was_accepted (reply ten (with_out (saved ten M out) out) (Write 1 0 0))) e) (λ z. z)
