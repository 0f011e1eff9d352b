-- USES OF THE QUEUE'S STATEMENTS: replies that were heard, and what follows from them by the statement's name. Each use needs the statement's full
-- strength, and most of them refuse a reply that a wrong program would give.
use mathlib.Core.Path.{◌≡◌, refl, sym, ap, ◌∙◌, subst}
use mathlib.Core.Logic.{◌⊎◌, inl, inr}
use mathlib.Core.Bool.{Bool, true, false, cond, ◌&&◌, true≢false, false≢true}
use mathlib.Core.List.{List, [], ◌∷◌, ◌++◌, map, append-nil}
use Prim.Native.Nat.{ℕ, suc, ◌+◌, ◌-◌, ◌*◌, ◌/◌, ◌%◌, ◌≤◌, ◌<◌, min}
use native.Mathlib.Omega.{arith}
use lib.Dec.{eqb}
use lib.ListN.{length, get_or, take, drop}
use lib.Seq.{take_at}
use borrow.Author.Tests.{eq-eqb, ne_eqb}
use Rattle.answer.specs.Reply.{Reply, accepted, refused}
use Rattle.answer.specs.Refusal.{NoneBefore}
use Rattle.answer.proofs.Cases.{cases, same?}
use Rattle.geometry.specs.declared.Geometry.{Geometry}
use Rattle.geometry.specs.Limits.{geometry_of}
use Rattle.alloc_log.specs.Word.{released, write_at, bytes_of}
use Rattle.alloc_log.specs.Runs.{Covered}
use Rattle.alloc_log.specs.Tool.{read_reply}
use Rattle.model.specs.Table.{put}
use Rattle.model.specs.Lists.{In, Pairwise, but_last, keep_if, trim}
use Rattle.model.specs.Results.{paired, blocks_in}
use Rattle.model.specs.Queue.{rounded_up}
use Rattle.model.specs.View.{View, pred_num}
use Rattle.model.specs.Deadlists.{shards}
use Rattle.model.specs.SoundMeans.{On}
use Rattle.model.specs.Actions.{follower}
use Rattle.model.specs.Held.{tally, held, frees}
use Rattle.model.specs.DeleteOrder.{Earlier}
use Rattle.model.specs.Calls.{slot, deleting}
use Rattle.model.specs.Layout.{state_of}
use Rattle.model.specs.Memory.{Memory, words_used, all_conditions, reply, after, make_reply, make_after}
use Rattle.model.specs.SoundStore.{SoundStore}
use Rattle.model.specs.QueueMeans.{was, now}
use Rattle.model.specs.Model.{Screened, history}
use Rattle.model.specs.Book.{Some, Book, OnPage, retained, set_window, sealed_in, sealed_with, any_rec, fork_among, named_in, may_leave, names_moved}
use Rattle.model.specs.History.{Machine, Entry, state_from, history_from, was_accepted, events, book, syncs, queued_in, unsynced, Standing, Demand3}
use Rattle.model.specs.HistoryFacts.{HistoryFacts, given_in, freed_in, kept_count, Gives, Reclaims, turns_in, runs_of_pairs}
use Rattle.model.specs.HistoryChoice.{MayBeGiven, IsChosen, HistoryChoice}
use Rattle.model.specs.UsedWords.{used_by}
use Rattle.model.specs.Demand.{Request, met_by, machine, Own, own_store, run, turn_blocks_of, turn_blocks}
use Rattle.model.specs.Crash.{Ended, heard, used_after, start_by, Cut}
use Rattle.model.specs.Command.{Command}
use Rattle.model.specs.Command.{Begin, Write, Erase, Seal, Delete, Barrier, Compress, FreeList, Retain, Reclaim}
use Rattle.model.proofs.ListFacts.{in_right}
use Rattle.model.proofs.Demands.{demand, own_facts, queued_means}
use Rattle.model.proofs.Along.{not_true}
use Rattle.model.proofs.QueueFlows.{queue_flows}
use Rattle.model.proofs.CrashProof.{crash}
use Rattle.model.proofs.CutPlace.{drop_front, passes?, place_of, cut_early, cut_mid}
use Rattle.model.proofs.HistoryChoiceProof.{choice}
use Rattle.model.proofs.PaperExample.{fine, replies_to}
use Rattle.model.proofs.QueueTheorems.{queue_order, no_words, seal_delete_not_14, turn_is, turn_14, turn_of_none, held_means}
use Rattle.model.proofs.Uses.{two, ten, arenas3, gave, turned, one_on, one_freed, both_queued, book_heard, writes_heard, put_page, below_two, Taken}
use Rattle.model.proofs.Uses.{stands, standing_stands, HeldBy, AreHeld, one, reads_cut}

-- ── what is heard ──

-- block 0 is queued, block 1 is free, and record 2 is open
abbrev pub first_queued_lem : List Entry
first_queued_lem = one_on ++ (gave (Delete 1) [] ∷ gave Begin (2 ∷ []) ∷ [])

-- block 0 is queued, and block 1 is on page 0 of record 2
abbrev pub one_queued : List Entry
one_queued = first_queued_lem ++ (gave (Write 2 0 0) (1 ∷ 2 ∷ []) ∷ [])

-- so too after a Y and a C
abbrev pub over_barriers : List Entry
over_barriers = one_queued ++ (gave Barrier [] ∷ gave Compress (3 ∷ []) ∷ [])

-- a T freed block 0, which waits; block 1 is on a page
abbrev pub turn_waits : List Entry
turn_waits = one_queued ++ (gave (Reclaim 1) (0 ∷ 1 ∷ []) ∷ [])

-- and waits no more
abbrev pub turn_over : List Entry
turn_over = turn_waits ++ (gave Barrier [] ∷ [])

-- the window of the line is 1: when record 2 is sealed record 1 goes, and with it block 0; block 1 is on pages of 2 and 3
abbrev pub window_queued : List Entry
window_queued =
    one_on ++ (gave (Retain 1 1) [] ∷ gave (Seal 1) (2 ∷ []) ∷ gave (Write 2 0 0) (1 ∷ 2 ∷ []) ∷ gave (Seal 2) (3 ∷ []) ∷ [])

-- the book of it: to unfold it is to unfold all that it is told by
unfoldable pub book_queued : List Entry → Book
unfolding book_heard retained set_window sealed_in sealed_with any_rec fork_among named_in may_leave names_moved but_last keep_if trim
book_queued H = book 2 H

-- ── what is said of a store that answered so ──

-- the entries H are the answers of no calls
abbrev pub Refused : (M : Machine) → M.Tables → List Entry → Type 0
Refused M T H = (l : List M.Asked) → history_from M T l ≡ H → ⊥

-- after H the call c is not answered with l
abbrev pub NotAnswered : (M : Machine) → M.Tables → List Entry → Command → List ℕ → Type 0
NotAnswered M T H c l = (before : List M.Asked) → history_from M T before ≡ H → (i : M.Asked) → M.call i ≡ c →
    M.answer (state_from M T before) i ≡ accepted l → ⊥

-- after H a W that nothing earlier refuses is refused 13; no W is refused 13
abbrev pub FullAfter : (M : Machine) → M.Tables → List Entry → Type 0
FullAfter M T H = (before : List M.Asked) → history_from M T before ≡ H → (w : M.Asked) (r x k : ℕ) → M.call w ≡ Write r x k →
    NoneBefore 13 (M.conditions (state_from M T before) w) → M.answer (state_from M T before) w ≡ refused 13

abbrev pub NotFullAfter : (M : Machine) → M.Tables → List Entry → Type 0
NotFullAfter M T H = (before : List M.Asked) → history_from M T before ≡ H → (w : M.Asked) (r x k : ℕ) → M.call w ≡ Write r x k →
    M.answer (state_from M T before) w ≡ refused 13 → ⊥

-- an accepted W gives block b; no W is accepted
abbrev pub GivenAfter : (M : Machine) → M.Tables → List Entry → ℕ → Type 0
GivenAfter M T H b = (before : List M.Asked) → history_from M T before ≡ H → (w : M.Asked) (r x k : ℕ) (given : List ℕ) → M.call w ≡ Write r x k →
    M.answer (state_from M T before) w ≡ accepted given → (rest : List ℕ) × (given ≡ b ∷ rest)

abbrev pub NoneGivenAfter : (M : Machine) → M.Tables → List Entry → Type 0
NoneGivenAfter M T H = (before : List M.Asked) → history_from M T before ≡ H → (w : M.Asked) (r x k : ℕ) (given : List ℕ) → M.call w ≡ Write r x k →
    M.answer (state_from M T before) w ≡ accepted given → ⊥

-- no accepted T gives block b
abbrev pub NotTurned : (M : Machine) → M.Tables → List Entry → ℕ → Type 0
NotTurned M T H b = (before : List M.Asked) → history_from M T before ≡ H → (i : M.Asked) (k : ℕ) (l : List ℕ) → M.call i ≡ Reclaim k →
    M.answer (state_from M T before) i ≡ accepted l → In b (blocks_in l) → ⊥

-- an accepted L lists block b; it leaves b out
abbrev pub ListedAfter : (M : Machine) → M.Tables → List Entry → ℕ → Type 0
ListedAfter M T H b = (before : List M.Asked) → history_from M T before ≡ H → (i : M.Asked) (l : List ℕ) → M.call i ≡ FreeList →
    M.answer (state_from M T before) i ≡ accepted l → Covered b (runs_of_pairs l)

abbrev pub LeftOutAfter : (M : Machine) → M.Tables → List Entry → ℕ → Type 0
LeftOutAfter M T H b = (before : List M.Asked) → history_from M T before ≡ H → (i : M.Asked) (l : List ℕ) → M.call i ≡ FreeList →
    M.answer (state_from M T before) i ≡ accepted l → Covered b (runs_of_pairs l) → ⊥

-- an accepted T of k gives block b
abbrev pub TurnGives : (M : Machine) → M.Tables → List Entry → ℕ → ℕ → Type 0
TurnGives M T H k b = (before : List M.Asked) → history_from M T before ≡ H → (i : M.Asked) (l : List ℕ) → M.call i ≡ Reclaim k →
    M.answer (state_from M T before) i ≡ accepted l → In b (blocks_in l)

-- ── DEMAND 3 AND THE FACTS, of any store with two blocks and two pages ──

both_taken : (H : List Entry) → Taken H 0 → Taken H 1 → (b : ℕ) → b < 2 → Taken H b
both_taken H first second b l = cases (below_two b l) (λ e. subst (Taken H) (sym e) first) (λ e. subst (Taken H) (sym e) second)

-- while block 0 is queued, block 1 is neither on a page nor queued nor waiting
only_0 : Taken first_queued_lem 1 → ⊥
unfolding book_queued
only_0 t =
    cases t
    (λ o. cases o (λ q. cases q (λ p. omega (arith, p.1)) (λ z. z)) (λ z. z))
    (λ u. cases u (λ q. false≢true q) (λ w. false≢true w))

-- after the T and the Y block 0 is neither
only_1 : Taken turn_over 0 → ⊥
unfolding book_queued
only_1 t =
    cases t
    (λ o. cases o (λ q. cases q (λ p. cases (put_page (λ y. 0) 0 2 p.0 1 p.1) (λ e. omega (arith, e)) (λ e. omega (arith, e))) (λ z. z)) (λ z. z))
    (λ u. cases u (λ q. false≢true q) (λ w. false≢true w))

-- page 0 was written and erased: no page has block 0
erased_0 : (y : ℕ) → ◌≡◌ {A = ℕ} (put (put (λ x. 0) 0 1) 0 0 y) 1 → ⊥
unfolding put
erased_0 y e = go (eqb y 0) e
  where
    go : (t : Bool) → ◌≡◌ {A = ℕ} (cond t 0 (cond t 1 0)) 1 → ⊥
    go true d = omega (arith, d)
    go false d = omega (arith, d)

-- what an accepted T gave
numbers_in : Reply → List ℕ
numbers_in (accepted l) = l
numbers_in (refused n) = []

reclaims_in : (b k : ℕ) (l : List ℕ) → Reclaims b (gave (Reclaim k) l) → In b (blocks_in l)
unfolding numbers_in
reclaims_in b k l (j, m, c, a, i) = subst (λ n. In b (blocks_in n)) (sym (ap numbers_in a)) i

-- other calls, and refused ones, are no turns
no_T : (b : ℕ) (c : Command) (a : Reply) → turn_blocks_of c (accepted (0 ∷ 0 ∷ [])) ≡ [] → Reclaims b (record { call = c; answer = a }) → ⊥
unfolding blocks_in
no_T b c a n (j, m, e, d, i) =
    let z : ◌≡◌ {A = ℕ} 1 0 = ap (λ (x : Command). length (turn_blocks_of x (accepted (0 ∷ 0 ∷ [])))) (sym e) ∙ ap length n in
    omega (arith, z)

not_refused : (b : ℕ) (c : Command) (n : ℕ) → Reclaims b (turned c n) → ⊥
not_refused b c n (j, m, e, d, i) = false≢true (ap was_accepted d)

module _ (M : Machine) (T : M.Tables) (D : (l : List M.Asked) → Demand3 M 2 2 T l × HistoryFacts M 2 2 T l) where
  abbrev reached : List M.Asked → M.Tables
  reached l = state_from M T l

  -- ── `full` ──

  full_of : (H : List Entry) → Taken H 0 → Taken H 1 → FullAfter M T H
  full_of H first second before h w r x k c n =
      ((D (before ++ (w ∷ []))).0.full before [] w r x k refl c).1 (n, λ b l. subst (λ G. Taken G b) (sym h) (both_taken H first second b l))

  not_full_of : (H : List Entry) (b : ℕ) → b < 2 → (Taken H b → ⊥) → NotFullAfter M T H
  not_full_of H b l n before h w r x k c a =
      n (subst (λ G. Taken G b) h ((((D (before ++ (w ∷ []))).0.full before [] w r x k refl c).0 a).1 b l))

  -- from right to left: one block is on a page, and the other queued
  pub full_queued : FullAfter M T one_queued
  unfolding book_queued
  full_queued = full_of one_queued (inr (inl refl)) (inl (inl (inl (0, refl))))

  -- a queued block stays queued over Y and C, which end every wait
  pub full_over_barriers : FullAfter M T over_barriers
  unfolding book_queued
  full_over_barriers = full_of over_barriers (inr (inl refl)) (inl (inl (inl (0, refl))))

  -- so too where a window's delete queued it
  pub full_by_window : FullAfter M T window_queued
  unfolding book_queued
  full_by_window = full_of window_queued (inr (inl refl)) (inl (inl (inl (0, refl))))

  -- and after the T it waits
  pub full_waiting : FullAfter M T turn_waits
  unfolding book_queued
  full_waiting = full_of turn_waits (inr (inr refl)) (inl (inl (inl (0, refl))))

  -- from left to right: block 1 is neither on a page nor queued nor waiting
  pub not_full_queued : NotFullAfter M T first_queued_lem
  not_full_queued = not_full_of first_queued_lem 1 (omega arith) only_0

  -- nor is block 0 once the T's free has met its Y
  pub not_full_over : NotFullAfter M T turn_over
  not_full_over = not_full_of turn_over 0 (omega arith) only_1

  -- ── `gives` ──

  given_of : (H : List Entry) (b c : ℕ) → ((d : ℕ) → d < 2 → (d ≡ b) ⊎ (d ≡ c)) → Taken H b →
      (before : List M.Asked) → history_from M T before ≡ H → (w : M.Asked) (r x k : ℕ) (given : List ℕ) → M.call w ≡ Write r x k →
      M.answer (reached before) w ≡ accepted given → (rest : List ℕ) × (given ≡ c ∷ rest) × (Taken H c → ⊥)
  given_of H b c either taken before h w r x k given e a =
      let (d, rest, is, below, off, unqueued, awake) = (D (before ++ (w ∷ []))).0.gives before [] w r x k given refl e a in
      let none : Taken H d → ⊥ = subst (λ G. Taken G d → ⊥) h (not_taken d off unqueued awake) in
      cases (either d below)
      (λ i. absurd (none (subst (Taken H) (sym i) taken)))
      (λ i. (rest, is ∙ ap {B = List ℕ} (λ m. m ∷ rest) i, subst (λ m. Taken H m → ⊥) i none))
    where
      not_taken : (d : ℕ) → (OnPage (book 2 (history_from M T before)) d → ⊥) → queued_in 2 (history_from M T before) d ≡ false →
          unsynced (history_from M T before) d ≡ false → Taken (history_from M T before) d → ⊥
      not_taken d off unqueued awake t =
          cases t off (λ u. cases u (λ q. true≢false (sym q ∙ unqueued)) (λ v. true≢false (sym v ∙ awake)))

  -- a W is not given the queued block, and is given the only other one
  pub gives_other : GivenAfter M T first_queued_lem 1
  unfolding book_queued
  gives_other before h w r x k given c a =
      let (rest, is, none) = given_of first_queued_lem 0 1 below_two (inr (inl refl)) before h w r x k given c a in (rest, is)

  -- where the other is on a page no W is accepted, a Y and a C later neither
  pub none_given : NoneGivenAfter M T over_barriers
  unfolding book_queued
  none_given before h w r x k given c a =
      let (rest, is, none) = given_of over_barriers 0 1 below_two (inr (inl refl)) before h w r x k given c a in none (inl (inl (inl (0, refl))))

  -- once a T has freed it and a Y was accepted it is given again
  pub gives_again : GivenAfter M T turn_over 0
  unfolding book_queued
  gives_again before h w r x k given c a =
      let (rest, is, none) = given_of turn_over 1 0 (λ d l. cases (below_two d l) inr inl) (inl (inl (inl (0, refl)))) before h w r x k given c a in
      (rest, is)

  -- ── `given_after_barrier`, `listed_after_barrier`, of what a T freed ──

  -- a refused Y does not count
  pub not_given_after_T : Refused M T (first_queued_lem ++ (gave (Reclaim 1) (0 ∷ 1 ∷ []) ∷ turned Barrier 14 ∷ gave (Write 2 0 0) (0 ∷ 2 ∷ []) ∷ []))
  unfolding book_queued
  not_given_after_T l h =
      cases
      ((D l).1.given_after_barrier first_queued_lem (turned Barrier 14 ∷ []) [] (gave (Reclaim 1) (0 ∷ 1 ∷ [])) (gave (Write 2 0 0) (0 ∷ 2 ∷ [])) 0 h
      (inl refl) (inl refl))
      (λ e. false≢true e) (λ z. z)

  -- nor does a Y before the T
  pub not_listed_after_T : Refused M T (first_queued_lem ++ (gave Barrier [] ∷ gave (Reclaim 1) (0 ∷ 1 ∷ []) ∷ gave FreeList (0 ∷ 2 ∷ []) ∷ []))
  unfolding book_queued
  not_listed_after_T l h =
      (D l).1.listed_after_barrier (first_queued_lem ++ (gave Barrier [] ∷ [])) [] [] (gave (Reclaim 1) (0 ∷ 1 ∷ [])) (gave FreeList (0 ∷ 2 ∷ [])) 0 h
      (inl refl) (0 ∷ 2 ∷ [], refl, refl, inl (omega arith, omega arith))

  -- ── `turns` ──

  turns_of : (before more : List M.Asked) (H K : List Entry) → history_from M T before ≡ H → history_from M (reached before) more ≡ K →
      (k : ℕ) → 0 < k → rounded_up (tally (queued_in 2 H) 2) k ≤ turns_in k K → (b : ℕ) → queued_in 2 H b ≡ true → Some (Reclaims b) K
  turns_of before more H K h m k some few b q =
      subst (Some (Reclaims b)) m ((D before).1.turns more k some
      (subst (λ G. rounded_up (tally (queued_in 2 G) 2) k ≤ turns_in k (history_from M (reached before) more)) (sym h)
      (subst (λ G. rounded_up (tally (queued_in 2 H) 2) k ≤ turns_in k G) (sym m) few)) b (subst (λ G. queued_in 2 G b ≡ true) (sym h) q))

  -- of one turn
  turn_of_lem : (H : List Entry) (k b : ℕ) → 0 < k → rounded_up (tally (queued_in 2 H) 2) k ≡ 1 → queued_in 2 H b ≡ true → TurnGives M T H k b
  unfolding turns_in
  turn_of_lem H k b some one q before h i l c a =
      let told : history_from M (reached before) (i ∷ []) ≡ gave (Reclaim k) l ∷ [] = rw (c, a) refl in
      let is : turns_in k (gave (Reclaim k) l ∷ []) ≡ 1 = rw (eq-eqb k k refl) refl in
      cases (turns_of before (i ∷ []) H (gave (Reclaim k) l ∷ []) h told k some (omega (arith, one, is)) b q) (reclaims_in b k l) (λ z. absurd z)

  -- two are queued: a T of 2 gives both
  pub T_2_gives_0 : TurnGives M T both_queued 2 0
  unfolding book_queued rounded_up tally
  T_2_gives_0 = turn_of_lem both_queued 2 0 (omega arith) refl refl

  pub T_2_gives_1 : TurnGives M T both_queued 2 1
  unfolding book_queued rounded_up tally
  T_2_gives_1 = turn_of_lem both_queued 2 1 (omega arith) refl refl

  -- a T of 64 that gives the first and leaves the other is refused
  pub none_left : NotAnswered M T both_queued (Reclaim 64) (0 ∷ 1 ∷ [])
  unfolding book_queued rounded_up tally
  none_left before h i c a =
      cases (turn_of_lem both_queued 64 1 (omega arith) refl refl before h i (0 ∷ 1 ∷ []) c a) (λ e. omega (arith, e)) (λ z. z)

  -- a window's delete queued one, and a T of 1 gives it
  pub T_gives_window's : TurnGives M T window_queued 1 0
  unfolding book_queued rounded_up tally
  T_gives_window's = turn_of_lem window_queued 1 0 (omega arith) refl refl

  -- two T's of 1 give both, whatever is called between them; one that was refused is none of them
  pub two_turns : (before more : List M.Asked) (l m : List ℕ) → history_from M T before ≡ both_queued →
      history_from M (reached before) more ≡ gave (Reclaim 1) l ∷ gave Begin (2 ∷ []) ∷ turned (Reclaim 1) 3 ∷ gave Barrier [] ∷ gave (Reclaim 1) m ∷ [] →
      (b : ℕ) → b < 2 → In b (blocks_in l) ⊎ In b (blocks_in m)
  unfolding book_queued rounded_up tally turns_in
  two_turns before more l m h told b low =
      let q : queued_in 2 both_queued b ≡ true =
      cases (below_two b low) (λ e. ap (λ d. queued_in 2 both_queued d) e) (λ e. ap (λ d. queued_in 2 both_queued d) e) in
      cases (turns_of before more both_queued _ h told 1 (omega arith) (omega arith) b q)
      (λ g. inl (reclaims_in b 1 l g))
      (λ s. cases s (λ g. absurd (no_T b Begin (accepted (2 ∷ [])) refl g))
      (λ t. cases t (λ g. absurd (not_refused b (Reclaim 1) 3 g))
      (λ u. cases u (λ g. absurd (no_T b Barrier (accepted []) refl g))
      (λ v. cases v (λ g. inr (reclaims_in b 1 m g)) (λ z. absurd z)))))

  -- so two accepted T's of 1 after which block 1 was given by neither are refused
  pub none_skipped : (before more : List M.Asked) → history_from M T before ≡ both_queued →
      history_from M (reached before) more ≡
      gave (Reclaim 1) (0 ∷ 1 ∷ []) ∷ gave Begin (2 ∷ []) ∷ turned (Reclaim 1) 3 ∷ gave Barrier [] ∷ gave (Reclaim 1) [] ∷ [] → ⊥
  unfolding book_queued
  none_skipped before more h told =
      cases (two_turns before more (0 ∷ 1 ∷ []) [] h told 1 (omega arith)) (λ i. cases i (λ e. omega (arith, e)) (λ z. z)) (λ z. z)

  -- ── `turn_frees_queued` ──

  only_queued : (H : List Entry) (b : ℕ) → queued_in 2 H b ≡ false → NotTurned M T H b
  only_queued H b off before h i k l c a g =
      true≢false (sym ((D before).1.turn_frees_queued i b (k, l, c, a, g)) ∙ ap (λ G. queued_in 2 G b) h ∙ off)

  -- a T gives no block that E freed, none that is on a page, none that no W gave
  pub not_from_E : NotTurned M T one_freed 0
  unfolding book_queued
  not_from_E = only_queued one_freed 0 refl

  pub not_from_page : NotTurned M T one_queued 1
  unfolding book_queued
  not_from_page = only_queued one_queued 1 refl

  pub not_from_nowhere : NotTurned M T first_queued_lem 1
  unfolding book_queued
  not_from_nowhere = only_queued first_queued_lem 1 refl

  -- nor, a second time, one that a T gave
  pub not_again : NotTurned M T (both_queued ++ (gave (Reclaim 1) (0 ∷ 1 ∷ []) ∷ [])) 0
  unfolding book_queued
  not_again = only_queued (both_queued ++ (gave (Reclaim 1) (0 ∷ 1 ∷ []) ∷ [])) 0 refl

  -- ── `kept_exactly` ──

  listed_of : (H : List Entry) (b : ℕ) → b < 2 → (OnPage (book 2 H) b → ⊥) → queued_in 2 H b ≡ false → unsynced H b ≡ false → ListedAfter M T H b
  listed_of H b low off unqueued awake before h i l c a =
      ((D before).1.kept_exactly i l b c a low).1 (
        subst (λ G. OnPage (book 2 G) b → ⊥) (sym h) off,
        ap (λ G. queued_in 2 G b) h ∙ unqueued,
        ap (λ G. unsynced G b) h ∙ awake,
      )

  -- with block 0 queued and block 1 on no page L lists block 1, and not block 0
  pub L_lists_1 : ListedAfter M T first_queued_lem 1
  unfolding book_queued
  L_lists_1 = listed_of first_queued_lem 1 (omega arith) (λ o. only_0 (inl o)) refl refl

  pub L_leaves_0 : LeftOutAfter M T first_queued_lem 0
  unfolding book_queued
  L_leaves_0 before h i l c a v =
      let (off, unqueued, awake) = ((D before).1.kept_exactly i l 0 c a (omega arith)).0 v in
      true≢false (ap (λ H. queued_in 2 H 0) (sym h) ∙ unqueued)

  -- so an L that lists nothing is refused, and one that lists both
  pub L_not_none : NotAnswered M T first_queued_lem FreeList []
  L_not_none before h i c a = L_lists_1 before h i [] c a

  pub L_not_both : NotAnswered M T first_queued_lem FreeList (0 ∷ 2 ∷ [])
  L_not_both before h i c a = L_leaves_0 before h i (0 ∷ 2 ∷ []) c a (inl (omega arith, omega arith))

  -- after the T it waits, and is listed no sooner than after a Y or C
  pub L_leaves_waiting : LeftOutAfter M T turn_waits 0
  unfolding book_queued
  L_leaves_waiting before h i l c a v =
      let (off, unqueued, awake) = ((D before).1.kept_exactly i l 0 c a (omega arith)).0 v in
      true≢false (ap (λ H. unsynced H 0) (sym h) ∙ awake)

  pub L_lists_again : ListedAfter M T turn_over 0
  unfolding book_queued
  L_lists_again = listed_of turn_over 0 (omega arith) (λ o. only_1 (inl o)) refl refl

  -- it lists none that is on a page
  pub L_leaves_paged : LeftOutAfter M T turn_over 1
  unfolding book_queued
  L_leaves_paged before h i l c a v =
      let (off, unqueued, awake) = ((D before).1.kept_exactly i l 1 c a (omega arith)).0 v in
      off (subst (λ H. OnPage (book 2 H) 1) (sym h) (inl (inl (0, refl))))

  -- ── `given_less_freed`, and its number ──

  -- from left to right: block 0 was given and not freed, and is neither on a page nor queued. So an E that does not name it is refused
  pub E_must_free : Refused M T (one_on ++ (gave (Erase 1 0) [] ∷ []))
  unfolding book_queued
  E_must_free l h =
      let s : Standing 0 (events (history_from M T l)) =
      subst (λ H. Standing 0 (events H)) (sym h) (record { early = []; late = []; split = refl; since = tt }) in
      cases (subst (λ H. OnPage (book 2 H) 0 ⊎ (queued_in 2 H 0 ≡ true)) h (((D l).1.given_less_freed 0).0 s))
      (λ o. cases o (λ q. cases q (λ p. erased_0 p.0 p.1) (λ z. z)) (λ z. z))
      (λ q. false≢true q)

  -- from right to left, of a page: a T does not free a block that is on a page
  pub T_frees_no_page : Refused M T (one_on ++ (gave (Reclaim 1) (0 ∷ 1 ∷ []) ∷ []))
  unfolding stands book_queued
  T_frees_no_page l h =
      let on = subst (λ H. OnPage (book 2 H) 0) (sym h) (inl (inl (0, refl))) in
      false≢true (sym (ap (λ H. stands 0 false (events H)) h) ∙ standing_stands 0 (events (history_from M T l)) (((D l).1.given_less_freed 0).1 (inl on)))

  -- and of the queue: what is queued is freed by no E
  pub E_frees_no_queued : Refused M T (first_queued_lem ++ (gave (Erase 2 0) (0 ∷ 1 ∷ []) ∷ []))
  unfolding stands book_queued
  E_frees_no_queued l h =
      let q : queued_in 2 (history_from M T l) 0 ≡ true = ap (λ H. queued_in 2 H 0) h in
      false≢true (sym (ap (λ H. stands 0 false (events H)) h) ∙ standing_stands 0 (events (history_from M T l)) (((D l).1.given_less_freed 0).1 (inr q)))

  -- `held`: it does not fit the number either, of one given, one freed and one queued
  pub E_counts_queued : Refused M T (first_queued_lem ++ (gave (Erase 2 0) (0 ∷ 1 ∷ []) ∷ []))
  unfolding given_in freed_in kept_count tally book_queued
  E_counts_queued l h =
      let e : ◌≡◌ {A = ℕ} 1 2 = subst (λ H. given_in (events H) ≡ freed_in (events H) + kept_count 2 2 H) h (D l).1.held in
      omega (arith, e)

-- ── THE CHOICE ──

-- arena 1 has block 2, which is queued, and block 3, which is free; its mark stands at block 2
abbrev pub past_queued : List Entry
past_queued =
    gave Begin (1 ∷ []) ∷ gave (Write 1 0 1) (2 ∷ 1 ∷ []) ∷ gave (Write 1 1 1) (3 ∷ 1 ∷ []) ∷ gave (Erase 1 1) (3 ∷ 1 ∷ []) ∷ gave (Delete 1) [] ∷
    gave Barrier [] ∷ gave Begin (2 ∷ []) ∷ []

three_free : MayBeGiven arenas3 past_queued 3
unfolding book_queued
three_free = record {
  inside = omega arith;
  off = λ o. cases o (λ q. cases q (λ p. omega (arith, p.1)) (λ z. z)) (λ z. z);
  unqueued = refl;
  awake = refl;
}

-- `choice`, `unqueued`: the search passes over a queued block, and goes to no other arena for it
pub gives_3 : (M : Machine) (T : M.Tables) → ((l : List M.Asked) → HistoryChoice M arenas3 T l) → (before : List M.Asked) →
    history_from M T before ≡ past_queued → (w : M.Asked) (r x b : ℕ) (rest : List ℕ) → M.call w ≡ Write r x 0 →
    M.answer (state_from M T before) w ≡ accepted (b ∷ rest) → b ≡ 3
unfolding book_queued writes_heard
gives_3 M T D before h w r x b rest c a =
    let C : IsChosen arenas3 past_queued 0 b = subst (λ H. IsChosen arenas3 H 0 b) h ((D before).choice w r x 0 b rest c a) in
    cases (same? C.passed 0)
    (λ z.
    let at : b / 2 ≡ 1 = C.arena ∙ ap (λ (j : ℕ). (2 / 2 + 0 + j) % 3) z in
    cases (same? b 2)
    (λ e. absurd (true≢false (ap (λ d. queued_in 4 past_queued d) (sym e) ∙ C.free.unqueued)))
    (λ n. omega (arith, at, n)))
    (λ n. absurd (C.full 0 3 (omega (arith, n)) refl three_free))

pub lent_gives_3 : (M : Memory) → make_reply arenas3 M ≡ accepted [] → (before : List Request) →
    history_from (machine arenas3) (make_after arenas3 M).tables before ≡ past_queued → (w : Request) (r x b : ℕ) (rest : List ℕ) → w.call ≡ Write r x 0 →
    reply arenas3 (met_by (state_from (machine arenas3) (make_after arenas3 M).tables before) w) w.call ≡ accepted (b ∷ rest) → b ≡ 3
lent_gives_3 M made = gives_3 (machine arenas3) (make_after arenas3 M).tables (choice arenas3 M made).0

-- ── the same of the calls on lent memory, and of a store that keeps its own log ──

module _ (M : Memory) (made : make_reply two M ≡ accepted []) where
  -- `demand`
  pub lent_full_queued : FullAfter (machine two) (make_after two M).tables one_queued
  lent_full_queued = full_queued (machine two) (make_after two M).tables (demand two M made)

  pub lent_not_full : NotFullAfter (machine two) (make_after two M).tables first_queued_lem
  lent_not_full = not_full_queued (machine two) (make_after two M).tables (demand two M made)

  pub lent_gives_other : GivenAfter (machine two) (make_after two M).tables first_queued_lem 1
  lent_gives_other = gives_other (machine two) (make_after two M).tables (demand two M made)

  pub lent_T_2_gives_1 : TurnGives (machine two) (make_after two M).tables both_queued 2 1
  lent_T_2_gives_1 = T_2_gives_1 (machine two) (make_after two M).tables (demand two M made)

  pub lent_not_again : NotTurned (machine two) (make_after two M).tables (both_queued ++ (gave (Reclaim 1) (0 ∷ 1 ∷ []) ∷ [])) 0
  lent_not_again = not_again (machine two) (make_after two M).tables (demand two M made)

  pub lent_L_lists_1 : ListedAfter (machine two) (make_after two M).tables first_queued_lem 1
  lent_L_lists_1 = L_lists_1 (machine two) (make_after two M).tables (demand two M made)

  pub lent_L_leaves_0 : LeftOutAfter (machine two) (make_after two M).tables first_queued_lem 0
  lent_L_leaves_0 = L_leaves_0 (machine two) (make_after two M).tables (demand two M made)

  pub lent_E_frees_no_queued : Refused (machine two) (make_after two M).tables (first_queued_lem ++ (gave (Erase 2 0) (0 ∷ 1 ∷ []) ∷ []))
  lent_E_frees_no_queued = E_frees_no_queued (machine two) (make_after two M).tables (demand two M made)

  -- `own_facts`
  pub own_full_over_barriers : FullAfter (own_store two) (make_after two M) over_barriers
  own_full_over_barriers = full_over_barriers (own_store two) (make_after two M) (own_facts two M made)

  pub own_none_given : NoneGivenAfter (own_store two) (make_after two M) over_barriers
  own_none_given = none_given (own_store two) (make_after two M) (own_facts two M made)

  pub own_none_left : NotAnswered (own_store two) (make_after two M) both_queued (Reclaim 64) (0 ∷ 1 ∷ [])
  own_none_left = none_left (own_store two) (make_after two M) (own_facts two M made)

  pub own_not_from_page : NotTurned (own_store two) (make_after two M) one_queued 1
  own_not_from_page = not_from_page (own_store two) (make_after two M) (own_facts two M made)

  pub own_L_not_both : NotAnswered (own_store two) (make_after two M) first_queued_lem FreeList (0 ∷ 2 ∷ [])
  own_L_not_both = L_not_both (own_store two) (make_after two M) (own_facts two M made)

  pub own_E_counts_queued : Refused (own_store two) (make_after two M) (first_queued_lem ++ (gave (Erase 2 0) (0 ∷ 1 ∷ []) ∷ []))
  own_E_counts_queued = E_counts_queued (own_store two) (make_after two M) (own_facts two M made)

  -- `queued_means`, from right to left: the tables have block 0 in the queue, a Y and a C later too
  abbrev queue_at : List Request → List ℕ
  queue_at l = (state_of two (state_from (machine two) (make_after two M).tables l)).queue.list

  pub lent_queued : (l : List Request) → history_from (machine two) (make_after two M).tables l ≡ over_barriers → In 0 (queue_at l)
  unfolding book_queued
  lent_queued l h = (queued_means two M made l 0).1 (ap (λ H. queued_in 2 H 0) h)

  -- and from left to right: not block 1, which is on a page, nor block 0 once a T gave it
  pub lent_not_queued : (l : List Request) → history_from (machine two) (make_after two M).tables l ≡ over_barriers → In 1 (queue_at l) → ⊥
  unfolding book_queued
  lent_not_queued l h i = false≢true (ap (λ H. queued_in 2 H 1) (sym h) ∙ (queued_means two M made l 1).0 i)

  pub lent_turned_out : (l : List Request) → history_from (machine two) (make_after two M).tables l ≡ turn_waits → In 0 (queue_at l) → ⊥
  unfolding book_queued
  lent_turned_out l h i = false≢true (ap (λ H. queued_in 2 H 0) (sym h) ∙ (queued_means two M made l 0).0 i)

-- ── THE QUEUE FLOWS, on any tables ──

module _ (g : Geometry) (t : List ℕ) (more : List Request) where
  -- the queue that there was, the queue that is left, and what the T's gave
  abbrev Q : List ℕ
  Q = (state_of g t).queue.list

  abbrev R : List ℕ
  R = (state_of g (state_from (machine g) t more)).queue.list

  abbrev came_out : List ℕ
  came_out = turn_blocks (history_from (machine g) t more)

  -- `queue_flows`: where no T gave a block, what was queued stands first, in its order
  pub stands_first : turn_blocks (history_from (machine g) t more) ≡ [] →
      take (length (state_of g t).queue.list) (state_of g (state_from (machine g) t more)).queue.list ≡ (state_of g t).queue.list
  stands_first none =
      let (joined, flow) = queue_flows g t more in
      ap (take (length Q)) (ap (λ (l : List ℕ). l ++ R) (sym none) ∙ flow) ∙ take_at Q joined (length Q) refl

  -- where nothing is queued any more, the T's gave all that was, in its order and ahead of the rest
  pub came_first : (state_of g (state_from (machine g) t more)).queue.list ≡ [] →
      take (length (state_of g t).queue.list) (turn_blocks (history_from (machine g) t more)) ≡ (state_of g t).queue.list
  came_first none =
      let (joined, flow) = queue_flows g t more in
      ap (take (length Q)) (sym (append-nil came_out) ∙ ap (λ (l : List ℕ). came_out ++ l) (sym none) ∙ flow) ∙ take_at Q joined (length Q) refl

  -- with b and c queued, two T's of 1 with a Y and a D between them give b and then c
  pub in_order_lem : (b c d e v w : ℕ) → (state_of g t).queue.list ≡ b ∷ c ∷ [] →
      history_from (machine g) t more ≡
      gave (Reclaim 1) (d ∷ v ∷ []) ∷ gave Barrier [] ∷ gave (Delete 1) [] ∷ gave (Reclaim 1) (e ∷ w ∷ []) ∷ [] → (d ≡ b) × (e ≡ c)
  unfolding blocks_in
  in_order_lem b c d e v w two told =
      let (joined, flow) = queue_flows g t more in
      let same : ◌≡◌ {A = List ℕ} (d ∷ e ∷ R) (b ∷ c ∷ joined) =
      ap (λ (H : List Entry). turn_blocks H ++ R) (sym told) ∙ flow ∙ ap (λ (l : List ℕ). l ++ joined) two in
      (ap (λ (l : List ℕ). get_or l 0 0) same, ap (λ (l : List ℕ). get_or l 1 0) same)

-- ── A PLUG PULLED, with a block queued ──

-- block 0 is queued at the Y, then a T frees it. Five words: allocate 0, barrier, free 0, allocate 1, barrier
abbrev pub queue_plugged : List Entry
queue_plugged =
    one_on ++
    (gave (Delete 1) [] ∷ gave Barrier [] ∷ gave (Reclaim 1) (0 ∷ 1 ∷ []) ∷ gave Begin (2 ∷ []) ∷ gave (Write 2 0 0) (1 ∷ 2 ∷ []) ∷ gave Barrier [] ∷ [])

-- it is queued at a C
abbrev pub queue_compressed : List Entry
queue_compressed = one_on ++ (gave (Delete 1) [] ∷ gave Compress (2 ∷ []) ∷ gave (Reclaim 1) (0 ∷ 1 ∷ []) ∷ [])

-- a wrong program: the T's block does not wait. It is given again before the next barrier, and freed again
abbrev turned_too_soon : List Entry
turned_too_soon =
    one_on ++
    (gave (Delete 1) [] ∷ gave Barrier [] ∷ gave (Reclaim 1) (0 ∷ 1 ∷ []) ∷ gave Begin (2 ∷ []) ∷ gave (Write 2 0 0) (0 ∷ 2 ∷ []) ∷
    gave (Erase 2 0) (0 ∷ 2 ∷ []) ∷ [])

-- after the D none but block 0 is queued
queued_0 : (b : ℕ) → queued_in 2 (take 3 queue_plugged) b ≡ true → b ≡ 0
unfolding book_queued
queued_0 b q =
    cases (same? b 0) (λ e. e)
    (λ n. absurd (false≢true (sym (rw (ne_eqb 0 (suc b) (λ e. omega (arith, e)), ne_eqb 1 (suc b) (λ e. omega (arith, e, n))) refl) ∙ q)))

held_at_Y : AreHeld (take 4 queue_plugged) (0 ∷ [])
unfolding book_queued
held_at_Y b = (
  λ i. cases i (λ e. inr (ap (λ d. queued_in 2 (take 4 queue_plugged) d) e)) (λ z. absurd z),
  λ w. cases w (λ o. absurd o) (λ q. inl (queued_0 b q)),
)

held_at_C : AreHeld (take 4 queue_compressed) (0 ∷ [])
unfolding book_queued
held_at_C b = (
  λ i. cases i (λ e. inr (ap (λ d. queued_in 2 (take 4 queue_compressed) d) e)) (λ z. absurd z),
  λ w. cases w (λ o. absurd o) (λ q. inl (queued_0 b q)),
)

-- the first of two that are both so
first_true : (s t : Bool) → (s && t) ≡ true → s ≡ true
first_true true t e = refl
first_true false t e = e

held_at_YY : AreHeld queue_plugged (1 ∷ [])
unfolding book_queued
held_at_YY b = (
  λ i. cases i (λ e. subst (λ d. HeldBy queue_plugged d) (sym e) (inl (inl (inl (0, refl))))) (λ z. absurd z),
  λ w. cases w
      (λ o. cases o
      (λ q. cases q
      (λ p. cases (put_page (λ y. 0) 0 2 p.0 (suc b) p.1) (λ e. inl (omega (arith, e))) (λ e. absurd (omega (arith, e))))
      (λ z. absurd z))
      (λ z. absurd z))
      (λ q. absurd (cases (same? b 0)
      (λ e. false≢true (sym (ap (λ d. queued_in 2 queue_plugged d) e) ∙ q))
      (λ n. n (queued_0 b (first_true (queued_in 2 (take 3 queue_plugged) b) _ q))))),
)

module _ (M : Memory) (made : make_reply ten M ≡ accepted []) (l : List Own) where
  module _ (h : heard ten (make_after ten M) l ≡ queue_plugged) (out : List ℕ) (long : 68 ≤ length out) where
    -- `crash`: right at the Y, block 0 is read, which is on no page
    pub cut_at_Y : read_reply ten (take 16 (run ten (make_after ten M) l).log) out ≡ accepted (0 ∷ [])
    unfolding place_of passes? start_by blocks_in
    cut_at_Y = reads_cut M made l queue_plugged h out long 16 4 (0 ∷ []) (omega arith) (omega arith) refl one held_at_Y

    -- after the T's free word, and up to the last byte of the next barrier: it is read still
    pub cut_after_T : read_reply ten (take 24 (run ten (make_after ten M) l).log) out ≡ accepted (0 ∷ [])
    unfolding place_of passes? start_by blocks_in
    cut_after_T = reads_cut M made l queue_plugged h out long 24 4 (0 ∷ []) (omega arith) (omega arith) refl one held_at_Y

    pub cut_before_end : read_reply ten (take 39 (run ten (make_after ten M) l).log) out ≡ accepted (0 ∷ [])
    unfolding place_of passes? start_by blocks_in
    cut_before_end = reads_cut M made l queue_plugged h out long 39 4 (0 ∷ []) (omega arith) (omega arith) refl one held_at_Y

    -- the T's free counts once the Y after it is whole
    pub cut_at_end : read_reply ten (take 40 (run ten (make_after ten M) l).log) out ≡ accepted (1 ∷ [])
    unfolding place_of passes? start_by blocks_in
    cut_at_end = reads_cut M made l queue_plugged h out long 40 8 (1 ∷ []) (omega arith) (omega arith) refl one held_at_YY

  -- C writes a queued block as held: its words are read so, with the T's free word after them too
  pub cut_C : heard ten (make_after ten M) l ≡ queue_compressed → (out : List ℕ) → 68 ≤ length out →
      (read_reply ten (take 16 (run ten (make_after ten M) l).log) out ≡ accepted (0 ∷ [])) ×
      (read_reply ten (take 24 (run ten (make_after ten M) l).log) out ≡ accepted (0 ∷ []))
  unfolding place_of passes? start_by blocks_in
  cut_C h out long = (
    reads_cut M made l queue_compressed h out long 16 4 (0 ∷ []) (omega arith) (omega arith) refl one held_at_C,
    reads_cut M made l queue_compressed h out long 24 4 (0 ∷ []) (omega arith) (omega arith) refl one held_at_C,
  )

  -- `kept`: block 0, queued at the barrier, is not given before the next one
  pub not_turned_too_soon : heard ten (make_after ten M) l ≡ turned_too_soon → ⊥
  unfolding place_of passes? start_by book_queued
  not_turned_too_soon h =
      let start : start_by 0 (heard ten (make_after ten M) l) ≡ 0 = ap (start_by 0) h in
      let end : used_after ten (make_after ten M) l ≡ 5 = ap (used_by 0) h in
      let c : Cut ten (make_after ten M) l 40 = crash ten M made l 40 (omega (arith, start)) (omega (arith, end)) in
      let at : place_of 40 0 0 0 (heard ten (make_after ten M) l) ≡ 4 = ap (place_of 40 0 0 0) h in
      let told : heard ten (make_after ten M) c.early ≡ take 4 turned_too_soon = (cut_early ten (make_after ten M) l 40 4 c at).2 ∙ ap (take 4) h in
      let mid = cut_mid ten (make_after ten M) l 40 4 c at (subst (λ H. Some Ended (drop 4 H) → ⊥) (sym h) no_Y) ∙ ap (drop 4) h in
      c.kept 0 (subst (λ H. HeldBy H 0) (sym told) (inr refl)) (subst (Some (Gives 0)) (sym mid) (inr (inr (inl (inl refl)))))
    where
      no_Y : Some Ended (drop 4 turned_too_soon) → ⊥
      no_Y s =
          cases s (λ e. false≢true (ap syncs e.0))
          (λ t. cases t (λ e. false≢true (ap syncs e.0))
          (λ u. cases u (λ e. false≢true (ap syncs e.0)) (λ v. cases v (λ e. false≢true (ap syncs e.0)) (λ z. z))))

-- ── D, of the memory before it and after it ──

-- `no_words`, `seal_delete_not_14`: whatever a D or an S is answered, it leaves the log to the byte, and 14 it is not answered
module _ (g : Geometry) (M : Memory) (r : ℕ) where
  pub D_leaves_log : ((after g M (Delete r)).log ≡ M.log) × (words_used (after g M (Delete r)) ≡ words_used M)
  D_leaves_log = no_words g M (Delete r) (inl (r, refl))

  pub S_leaves_log : ((after g M (Seal r)).log ≡ M.log) × (words_used (after g M (Seal r)) ≡ words_used M)
  S_leaves_log = no_words g M (Seal r) (inr (r, refl))

  pub D_not_14 : reply g M (Delete r) ≡ refused 14 → ⊥
  D_not_14 = seal_delete_not_14 g M (Delete r) (inl (r, refl))

  pub S_not_14 : reply g M (Seal r) ≡ refused 14 → ⊥
  S_not_14 = seal_delete_not_14 g M (Seal r) (inr (r, refl))

-- `queue_order`: an accepted D
module _ (g : Geometry) (M : Memory) (r : ℕ) (l : List ℕ) (done : reply g M (Delete r) ≡ accepted l) where
  abbrev K : View
  K = (was g M).view

  abbrev s : ℕ
  s = slot (was g M) r

  -- `result`
  pub D_gives_none : l ≡ []
  D_gives_none = (queue_order g M r l done).result

  -- `list`: what was queued before stands first, as it stood
  pub D_joins_after : take (length (was g M).queue.list) (now g M (Delete r)).queue.list ≡ (was g M).queue.list
  D_joins_after =
      let q = (was g M).queue.list in
      ap (take (length q)) (queue_order g M r l done).queues.list ∙ take_at q (frees K (deleting (was g M) r)) (length q) refl

  -- `young`, `births`: where nothing follows r, a block of one of its pages that is younger than its pred joins, with the birth that it had
  pub D_queues_page : follower (was g M).view (slot (was g M) r) ≡ 0 → (b x : ℕ) → x < (was g M).view.pages →
      (was g M).view.page (slot (was g M) r) x ≡ suc b → pred_num (was g M).view (slot (was g M) r) < (was g M).view.birth b →
      In b (now g M (Delete r)).queue.list × ((now g M (Delete r)).queue.birth b ≡ (was g M).view.birth b)
  D_queues_page none b x low on young =
      let q = queue_order g M r l done in
      let i = ((q.order.last none).young b).1 (x, low, on, young) in
      (subst (In b) (sym q.queues.list) (in_right b (was g M).queue.list (frees K (deleting (was g M) r)) i), q.queues.births b i)

  -- `rising`: not in the order of falling pages
  pub D_not_falling : follower (was g M).view (slot (was g M) r) ≡ 0 → (b c : ℕ) → (was g M).view.page (slot (was g M) r) 0 ≡ suc b →
      (was g M).view.page (slot (was g M) r) 1 ≡ suc c → (now g M (Delete r)).queue.list ≡ (was g M).queue.list ++ (c ∷ b ∷ []) → ⊥
  D_not_falling none b c first second e =
      let q = queue_order g M r l done in
      let old = (was g M).queue.list in
      let joined : frees K (deleting (was g M) r) ≡ c ∷ b ∷ [] =
      sym (drop_front old (frees K (deleting (was g M) r))) ∙ ap (drop (length old)) (sym q.queues.list ∙ e) ∙ drop_front old (c ∷ b ∷ []) in
      let rises : Pairwise (Earlier K s) (c ∷ b ∷ []) = subst (Pairwise (Earlier K s)) joined (q.order.last none).rising in
      let z : 1 < 0 = rises.0 b (inl refl) 1 0 second first in
      omega (arith, z)

  -- `next`: where a record follows r, its shards that are younger than r's pred join, by rising birth
  pub D_queues_shards : (n : ℕ) → follower (was g M).view (slot (was g M) r) ≡ suc n → (now g M (Delete r)).queue.list ≡
      (was g M).queue.list ++ shards (was g M).view n (suc (pred_num (was g M).view (slot (was g M) r)))
      ((was g M).view.last - pred_num (was g M).view (slot (was g M) r))
  D_queues_shards n e =
      let q = queue_order g M r l done in
      q.queues.list ∙ ap (λ (m : List ℕ). (was g M).queue.list ++ m) (q.order.next n e).freed

  -- `others`, `log`, `used`, `waiting`: a block that does not join keeps its birth in the queue, no word is written, and none waits yet
  pub D_frees_none : ((b v : ℕ) → (In b (frees (was g M).view (deleting (was g M) r)) → ⊥) → (was g M).queue.birth b ≡ v →
      (now g M (Delete r)).queue.birth b ≡ v) ×
      ((after g M (Delete r)).log ≡ M.log) × (words_used (after g M (Delete r)) ≡ words_used M) × ((now g M (Delete r)).waiting ≡ (was g M).waiting)
  D_frees_none =
      let q = (queue_order g M r l done).queues in
      (λ b v n e. q.others b n ∙ e, q.log, q.used, q.waiting)

-- ── T, of the memory before it and after it ──

-- blocks 5, 7 and 9 are queued
module _ (g : Geometry) (M : Memory) (q : (was g M).queue.list ≡ 5 ∷ 7 ∷ 9 ∷ []) where
  -- `turn_is`, `parts`, `many`, `result`: a T of 2 gives the first two, each with its birth in the queue, and leaves the third
  module _ (l : List ℕ) (done : reply g M (Reclaim 2) ≡ accepted l) where
    two_of_three : length (blocks_in l) ≡ 2
    two_of_three = (turn_is g M 2 l done).many ∙ ap (λ (m : List ℕ). min 2 (length m)) q

    pub T_gives_first : blocks_in l ≡ 5 ∷ 7 ∷ []
    T_gives_first =
        sym (take_at (blocks_in l) (now g M (Reclaim 2)).queue.list 2 two_of_three) ∙ ap (take 2) ((turn_is g M 2 l done).parts ∙ q)

    pub T_leaves_third : (now g M (Reclaim 2)).queue.list ≡ 9 ∷ []
    T_leaves_third =
        sym (ap (λ (n : ℕ). drop n (blocks_in l ++ (now g M (Reclaim 2)).queue.list)) (sym two_of_three) ∙ drop_front (blocks_in l) _) ∙
        ap (drop 2) ((turn_is g M 2 l done).parts ∙ q)

    pub T_names_births : l ≡ 5 ∷ (was g M).queue.birth 5 ∷ 7 ∷ (was g M).queue.birth 7 ∷ []
    unfolding paired
    T_names_births = (turn_is g M 2 l done).result ∙ ap (paired (was g M).queue.birth) T_gives_first

    -- `gone`, `left`: block 5 has no birth in the queue any more, and block 9 keeps its own
    pub T_births_after : ((now g M (Reclaim 2)).queue.birth 5 ≡ 0) × ((now g M (Reclaim 2)).queue.birth 9 ≡ (was g M).queue.birth 9)
    T_births_after =
        let t = turn_is g M 2 l done in (
          t.gone 5 (subst (In 5) (sym T_gives_first) (inl refl)),
          t.left 9 (λ i. cases (subst (In 9) T_gives_first i) (λ e. omega (arith, e)) (λ j. cases j (λ e. omega (arith, e)) (λ z. z))),
        )

    -- `log`, `used`: two words, the frees of 5 and of 7
    pub T_writes_two : ((after g M (Reclaim 2)).log ≡ write_at M.log (8 * words_used M) (bytes_of (released 5 ∷ released 7 ∷ []))) ×
        (words_used (after g M (Reclaim 2)) ≡ words_used M + 2)
    T_writes_two =
        let t = turn_is g M 2 l done in (
          t.log ∙ ap (λ (m : List ℕ). write_at M.log (8 * words_used M) (bytes_of (map released m))) T_gives_first,
          t.used ∙ ap (λ (n : ℕ). words_used M + n) two_of_three,
        )

    -- `waiting`, `view`: both wait from now on, and no record changes
    pub T_two_wait : ((now g M (Reclaim 2)).waiting ≡ (was g M).waiting ++ (5 ∷ 7 ∷ [])) × ((now g M (Reclaim 2)).view ≡ (was g M).view)
    T_two_wait =
        let t = turn_is g M 2 l done in (
          t.waiting ∙ ap (λ (m : List ℕ). (was g M).waiting ++ m) T_gives_first,
          t.view,
        )

  -- "or all if fewer"
  pub T_gives_all : (l : List ℕ) → reply g M (Reclaim 64) ≡ accepted l → blocks_in l ≡ 5 ∷ 7 ∷ 9 ∷ []
  T_gives_all l done =
      let t = turn_is g M 64 l done in
      let many : length (blocks_in l) ≡ 3 = t.many ∙ ap (λ (m : List ℕ). min 64 (length m)) q in
      sym (take_at (blocks_in l) (now g M (Reclaim 64)).queue.list 3 many) ∙ ap (take 3) (t.parts ∙ q)

  -- `turn_14`, with two words unused: a T of 3 is refused 14 and nothing is altered, so it does not free two
  pub T_3_refused : words_used M + 2 ≡ g.words → NoneBefore 14 (all_conditions g M (Reclaim 3)) →
      (reply g M (Reclaim 3) ≡ refused 14) × (after g M (Reclaim 3) ≡ M)
  T_3_refused room none =
      let f = turn_14 g M 3 in
      let many : min 3 (length (was g M).queue.list) ≡ 3 = ap (λ (m : List ℕ). min 3 (length m)) q in
      let e = f.exactly.1 (none, omega (arith, room, many)) in
      (e, f.unaltered e)

  -- so is one of 64, which would free three
  pub T_64_refused : words_used M + 2 ≡ g.words → NoneBefore 14 (all_conditions g M (Reclaim 64)) → reply g M (Reclaim 64) ≡ refused 14
  T_64_refused room none =
      let many : min 64 (length (was g M).queue.list) ≡ 3 = ap (λ (m : List ℕ). min 64 (length m)) q in
      (turn_14 g M 64).exactly.1 (none, omega (arith, room, many))

  -- and a T of 2 has room; one of 64 too where three are unused
  pub T_2_fits : words_used M + 2 ≡ g.words → reply g M (Reclaim 2) ≡ refused 14 → ⊥
  T_2_fits room e =
      let many : min 2 (length (was g M).queue.list) ≡ 2 = ap (λ (m : List ℕ). min 2 (length m)) q in
      let z : ⊥ = omega (arith, ((turn_14 g M 2).exactly.0 e).1, room, many) in z

  pub T_64_fits : words_used M + 3 ≡ g.words → reply g M (Reclaim 64) ≡ refused 14 → ⊥
  T_64_fits room e =
      let many : min 64 (length (was g M).queue.list) ≡ 3 = ap (λ (m : List ℕ). min 64 (length m)) q in
      let z : ⊥ = omega (arith, ((turn_14 g M 64).exactly.0 e).1, room, many) in z

-- `low`, `high`: neither a T of 0 nor one of 65 is accepted
pub T_0_refused : (g : Geometry) (M : Memory) (l : List ℕ) → reply g M (Reclaim 0) ≡ accepted l → ⊥
T_0_refused g M l done = let z : ⊥ = omega (arith, (turn_is g M 0 l done).low) in z

pub T_65_refused : (g : Geometry) (M : Memory) (l : List ℕ) → reply g M (Reclaim 65) ≡ accepted l → ⊥
T_65_refused g M l done = let z : ⊥ = omega (arith, (turn_is g M 65 l done).high) in z

-- `turn_of_none`: with no unused word, and nothing queued, T is accepted and writes none
pub T_of_none : (g : Geometry) (M : Memory) (k : ℕ) → (was g M).queue.list ≡ [] → words_used M ≡ g.words → NoneBefore 14 (all_conditions g M (Reclaim k)) →
    (reply g M (Reclaim k) ≡ accepted []) × (words_used (after g M (Reclaim k)) ≡ g.words)
unfolding blocks_in
T_of_none g M k none full before =
    let e = turn_of_none g M k none before in
    (e, omega (arith, (turn_is g M k [] e).used, full))

-- ── the held blocks of a sound store ──

module _ (g : Geometry) (t log : List ℕ) (S : SoundStore g t log) (b : ℕ) where
  -- `held_means`: a queued block is held, and on no page
  pub queued_held : In b (state_of g t).queue.list → (held (state_of g t) b ≡ true) × ((s x : ℕ) → On (state_of g t).view s x b → ⊥)
  queued_held i = let h = held_means g t log S b in (h.either.1 (inr i), λ s x on. h.apart s x on i)

  -- so is one on a page, and it is not queued
  pub paged_held : (s x : ℕ) → On (state_of g t).view s x b → (held (state_of g t) b ≡ true) × (In b (state_of g t).queue.list → ⊥)
  paged_held s x on = let h = held_means g t log S b in (h.either.1 (inl (s, x, on)), λ i. h.apart s x on i)

  -- and no other
  pub others_not_held : ((s x : ℕ) → On (state_of g t).view s x b → ⊥) → (In b (state_of g t).queue.list → ⊥) → held (state_of g t) b ≡ false
  others_not_held off out =
      not_true (held (state_of g t) b) (λ e. cases ((held_means g t log S b).either.0 e) (λ w. off w.0 w.1 w.2) out)

-- ── what was taken as heard is what the model answers ──

-- store 1 2 2 3 8 6: a third record, for the window
abbrev roomy : Geometry
roomy = geometry_of 1 2 2 3 8 6

-- the two turns, one after the other
abbrev both_turned : List Entry
both_turned = both_queued ++ (gave (Reclaim 1) (0 ∷ 1 ∷ []) ∷ gave Begin (2 ∷ []) ∷ gave Barrier [] ∷ gave (Reclaim 1) (1 ∷ 1 ∷ []) ∷ [])

abbrev called : List Entry → List Screened
called l = map (λ e. fine e.call) l

pub queue_heard_so : (history two (called over_barriers) ≡ over_barriers) × (history two (called turn_over) ≡ turn_over) ×
    (history two (called both_turned) ≡ both_turned) × (history roomy (called window_queued) ≡ window_queued) ×
    (history arenas3 (called past_queued) ≡ past_queued) × (history ten (called queue_plugged) ≡ queue_plugged) ×
    (history ten (called queue_compressed) ≡ queue_compressed)
unfolding replies_to
queue_heard_so = (refl, refl, refl, refl, refl, refl, refl)
