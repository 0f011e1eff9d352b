-- A USE FOR EACH STATEMENT, in the statements' order: replies that were heard, and what follows from them by the statement's name. Each use needs the
-- statement's full strength. Most of them refuse a reply that a wrong program would give.
use mathlib.Core.Path.{◌≡◌, refl, sym, ap, ◌∙◌, subst}
use mathlib.Core.Logic.{◌⊎◌, inl, inr, ◌↔◌}
use mathlib.Core.Bool.{Bool, true, false, cond, true≢false, false≢true}
use mathlib.Core.List.{List, [], ◌∷◌, ◌++◌, map}
use Prim.Native.Nat.{ℕ, suc, ◌+◌, ◌*◌, ◌/◌, ◌%◌, ◌≤◌, ◌<◌}
use native.Mathlib.Omega.{arith}
use lib.Dec.{eqb}
use lib.ListN.{length, take, drop, get_or}
use borrow.Author.Tests.{eq-eqb, ne_eqb}
use Rattle.answer.specs.Reply.{Reply, accepted, refused}
use Rattle.answer.specs.Refusal.{Holds, NoneBefore}
use Rattle.answer.proofs.Cases.{cases, same?}
use Rattle.answer.proofs.Decided.{refused_iff}
use Rattle.geometry.specs.declared.Geometry.{Geometry}
use Rattle.geometry.specs.Limits.{geometry_of, Inside, blocks}
use Rattle.choice.specs.First.{Ahead}
use Rattle.choice.specs.Turn.{next}
use Rattle.alloc_log.specs.Word.{released, write_at, bytes_of}
use Rattle.alloc_log.specs.Tool.{read_reply}
use Rattle.model.specs.Table.{put}
use Rattle.model.specs.Lists.{In, Pairwise}
use Rattle.model.specs.View.{View, pred_num}
use Rattle.model.specs.Deadlists.{shard}
use Rattle.model.specs.SoundMeans.{Live, On}
use Rattle.model.specs.RefusalMeans.{There}
use Rattle.model.specs.Held.{waits, tally}
use Rattle.model.specs.Results.{paired, blocks_in, blocks_of, born, born_in, items_of}
use Rattle.model.specs.Calls.{Account, looking, opening, freeing, closing, removing, reclaiming, placing, marking, renewing, account}
use Rattle.model.specs.Calls.{result, spelling}
use Rattle.model.specs.Book.{Some, Book, OnPage, empty_book, enter, open_line, page_set, in_line, set_page, in_recs, in_lines, rec_sealed, seal_rec}
use Rattle.model.specs.Book.{rec_out, drop_rec, keep_line, drop_in, window_with, taken_out, recs_out, trimmed, on_rec, on_recs, on_lines}
use Rattle.model.specs.History.{Machine, Event, give, free, Entry, entry_of, state_from, history_from, events, book, syncs, unsynced}
use Rattle.model.specs.History.{was_accepted, queued_in, NotFreed, Standing, Demand3}
use Rattle.model.specs.HistoryFacts.{HistoryFacts, given_in, freed_in, kept_count, Sealed, Gave, Names, LastGave, Gives}
use Rattle.model.specs.Layout.{state_of}
use Rattle.model.specs.Memory.{Memory, lent, words_used, all_conditions, reply, after, make_reply, make_after}
use Rattle.model.specs.SoundStore.{SoundStore}
use Rattle.model.specs.Model.{Screened, history}
use Rattle.model.specs.UsedWords.{used_then, used_by}
use Rattle.model.specs.Demand.{Request, met_by, machine, Own, with_out, own_store, run}
use Rattle.model.specs.Crash.{Ended, heard, used_after, start_by, Cut}
use Rattle.model.specs.HistoryChoice.{is_w, writes_in, mark_by, MayBeGiven, IsChosen, HistoryChoice}
use Rattle.model.specs.Estimate.{behind, queue_length, BirthsAbove}
use Rattle.model.specs.Command.{Command}
use Rattle.model.specs.Command.{Begin, Write, Erase, Seal, Delete, Read, Barrier, Compress, FreeList, Estimate, Reclaim}
use Rattle.model.proofs.ListFacts.{rising_same}
use Rattle.model.proofs.EachCall.{Is, is}
use Rattle.model.proofs.Keeps.{making_is}
use Rattle.model.proofs.Demands.{all_ordered, demand, own_facts, waits_means, sound_not_4, never_4}
use Rattle.model.proofs.AnyMemoryProof.{fresh_sound, keeps_sound, room}
use Rattle.model.proofs.CrashProof.{crash}
use Rattle.model.proofs.HistoryChoiceProof.{choice}
use Rattle.model.proofs.PaperExample.{fine, replies_to}
use Rattle.model.proofs.EstimateFacts.{estimate_still, estimate_refusals, estimate_true, estimate_enough, shards_counted}
use Rattle.model.proofs.BirthsInResults.{births_in_results, log_as_before}
use Rattle.model.proofs.Along.{history_append}
use Rattle.model.proofs.CutPlace.{passes?, place_of, cut_early, cut_mid}

-- ── what is heard ──

-- store 1 2 2 2 8 6: two blocks, two pages
abbrev pub two : Geometry
two = geometry_of 1 2 2 2 8 6

abbrev pub gave : Command → List ℕ → Entry
gave c l = record { call = c; answer = accepted l }

abbrev pub turned : Command → ℕ → Entry
turned c n = record { call = c; answer = refused n }

-- block 0 is on page 0 of record 1, and block 1 is free
abbrev pub one_on : List Entry
one_on = gave Begin (1 ∷ []) ∷ gave (Write 1 0 0) (0 ∷ 1 ∷ []) ∷ []

-- block 1 took its place, and block 0 waits
abbrev pub one_waits : List Entry
one_waits = one_on ++ (gave (Write 1 0 0) (1 ∷ 1 ∷ 0 ∷ 1 ∷ []) ∷ [])

-- record 1 is sealed, with block 0 on its page 0
abbrev pub one_sealed : List Entry
one_sealed = one_on ++ (gave (Seal 1) (2 ∷ []) ∷ [])

-- blocks 0 and 1 were on pages of record 1, and both are queued
abbrev pub both_queued : List Entry
both_queued = one_on ++ (gave (Write 1 1 0) (1 ∷ 1 ∷ []) ∷ gave (Delete 1) [] ∷ [])

-- block 0 was freed, and nothing is on a page
abbrev pub one_freed : List Entry
one_freed = one_on ++ (gave (Erase 1 0) (0 ∷ 1 ∷ []) ∷ [])

-- block 0 was given to record 1, and then to record 2
abbrev pub given_twice : List Entry
given_twice =
    one_freed ++
    (gave Barrier [] ∷ gave Begin (2 ∷ []) ∷ gave (Write 2 0 0) (1 ∷ 2 ∷ []) ∷ gave (Erase 2 0) (1 ∷ 2 ∷ []) ∷ gave (Write 2 0 0) (0 ∷ 2 ∷ []) ∷ [])

-- the book of what was heard: to unfold it is to unfold all that it is told by
unfoldable pub book_heard : List Entry → Book
unfolding put empty_book enter open_line page_set in_line set_page in_recs in_lines rec_sealed seal_rec rec_out drop_rec keep_line drop_in blocks_in window_with taken_out
    recs_out trimmed on_rec on_recs on_lines
book_heard H = book 2 H

-- ── lists that are written out ──

pub put_page : (f : ℕ → ℕ) (x v y w : ℕ) → put f x v y ≡ w → (v ≡ w) ⊎ (f y ≡ w)
unfolding put
put_page f x v y w e = go (eqb y x) e
  where
    go : (t : Bool) → cond t v (f y) ≡ w → (v ≡ w) ⊎ (f y ≡ w)
    go true d = inl d
    go false d = inr d

-- is b given and not freed since, after some events? h: before them
unfoldable pub stands : ℕ → Bool → List Event → Bool
stands b h [] = h
stands b h (give c ∷ l) = stands b (cond (eqb b c) true h) l
stands b h (free c ∷ l) = stands b (cond (eqb b c) false h) l

stands_append : (b : ℕ) (l m : List Event) (h : Bool) → stands b h (l ++ m) ≡ stands b (stands b h l) m
unfolding stands
stands_append b [] m h = refl
stands_append b (give c ∷ l) m h = stands_append b l m (cond (eqb b c) true h)
stands_append b (free c ∷ l) m h = stands_append b l m (cond (eqb b c) false h)

still_stands : (b : ℕ) (l : List Event) → NotFreed b l → stands b true l ≡ true
unfolding stands
still_stands b [] n = refl
still_stands b (give c ∷ l) n = cases (same? b c) (λ e. rw (eq-eqb b c e) (still_stands b l n.1)) (λ d. rw (ne_eqb b c d) (still_stands b l n.1))
still_stands b (free c ∷ l) n = rw (ne_eqb b c (λ e. n.0 (ap free (sym e)))) (still_stands b l n.1)

pub standing_stands : (b : ℕ) (l : List Event) → Standing b l → stands b false l ≡ true
unfolding stands
standing_stands b l s =
    ap (stands b false) s.split ∙ stands_append b s.early (give b ∷ s.late) false ∙ rw (eq-eqb b b refl) (still_stands b s.late s.since)

-- the record of the last W that gave b, or v where there is none
unfoldable giver_by : ℕ → ℕ → Account → Reply → ℕ
giver_by b v (placing r x k) (accepted (c ∷ l)) = cond (eqb c b) r v
giver_by b v (placing r x k) (accepted []) = v
giver_by b v (placing r x k) (refused n) = v
giver_by b v (looking s cs res note) a = v
giver_by b v (opening cs d) a = v
giver_by b v (freeing cs d) a = v
giver_by b v (closing r) a = v
giver_by b v (removing r) a = v
giver_by b v (reclaiming k) a = v
giver_by b v marking a = v
giver_by b v renewing a = v

abbrev giver : ℕ → ℕ → Command → Reply → ℕ
giver b v c a = giver_by b v (account c) a

unfoldable last_giver : ℕ → ℕ → List Entry → ℕ
last_giver b v [] = v
last_giver b v (e ∷ l) = last_giver b (giver b v e.call e.answer) l

giver_append : (b v : ℕ) (l m : List Entry) → last_giver b v (l ++ m) ≡ last_giver b (last_giver b v l) m
unfolding last_giver
giver_append b v [] m = refl
giver_append b v (e ∷ l) m = giver_append b (giver b v e.call e.answer) l m

gives_it : (b r v : ℕ) (e : Entry) → Gave b r e → giver b v e.call e.answer ≡ r
unfolding giver_by
gives_it b r v e (x, k, rest, c, a) = rw (c, a, eq-eqb b b refl)

gives_not : (b v : ℕ) (c : Command) (A : Account) (a : Reply) → Is c A → ((q : ℕ) → Gave b q (record { call = c; answer = a }) → ⊥) → giver_by b v A a ≡ v
unfolding giver_by
gives_not b v c (placing r x k) (accepted (d ∷ l)) i n =
    rw (ne_eqb d b (λ e. n r (x, k, l, i, ap (λ (f : ℕ). accepted (f ∷ l)) e)))
gives_not b v c (placing r x k) (accepted []) i n = refl
gives_not b v c (placing r x k) (refused m) i n = refl
gives_not b v c (looking s cs res note) a i n = refl
gives_not b v c (opening cs d) a i n = refl
gives_not b v c (freeing cs d) a i n = refl
gives_not b v c (closing r) a i n = refl
gives_not b v c (removing r) a i n = refl
gives_not b v c (reclaiming k) a i n = refl
gives_not b v c marking a i n = refl
gives_not b v c renewing a i n = refl

none_gives : (b v : ℕ) (l : List Entry) → ((q : ℕ) → Some (Gave b q) l → ⊥) → last_giver b v l ≡ v
unfolding last_giver
none_gives b v [] n = refl
none_gives b v (e ∷ l) n =
    ap (λ (w : ℕ). last_giver b w l) (gives_not b v e.call (account e.call) e.answer (is e.call) (λ q g. n q (inl g))) ∙
    none_gives b v l (λ q i. n q (inr i))

last_giver_lem : (b r : ℕ) (l : List Entry) → LastGave b r l → last_giver b 0 l ≡ r
unfolding last_giver
last_giver_lem b r l G =
    ap (last_giver b 0) G.split ∙ giver_append b 0 G.early (G.entry ∷ G.late) ∙
    ap (λ (w : ℕ). last_giver b w G.late) (gives_it b r (last_giver b 0 G.early) G.entry G.gave) ∙ none_gives b r G.late G.since

pub below_two : (b : ℕ) → b < 2 → (b ≡ 0) ⊎ (b ≡ 1)
below_two b h = cases (same? b 0) (λ e. inl e) (λ n. inr (omega (arith, h, n)))

-- on a page, queued or waiting
abbrev pub Taken : List Entry → ℕ → Type 0
Taken H b = OnPage (book 2 H) b ⊎ ((queued_in 2 H b ≡ true) ⊎ (unsynced H b ≡ true))

-- ── DEMAND 3 AND THE FACTS, of any store with two blocks and two pages ──

module _ (M : Machine) (T : M.Tables) (D : (l : List M.Asked) → Demand3 M 2 2 T l × HistoryFacts M 2 2 T l) where
  abbrev now : List M.Asked → M.Tables
  now l = state_from M T l

  -- `full`, from left to right: while block 1 is free no W is refused 13
  pub not_yet_full : (before : List M.Asked) → history_from M T before ≡ one_on →
      (w : M.Asked) (r x k : ℕ) → M.call w ≡ Write r x k → M.answer (now before) w ≡ refused 13 → ⊥
  unfolding book_heard
  not_yet_full before h w r x k c a =
      let all = (((D (before ++ (w ∷ []))).0.full before [] w r x k refl c).0 a).1 in
      let at : Taken one_on 1 = subst (λ H. Taken H 1) h (all 1 (omega arith)) in
      cases at
      (λ o. cases o (λ q. cases q (λ p. cases (put_page (λ y. 0) 0 1 p.0 2 p.1) (λ e. omega (arith, e)) (λ e. omega (arith, e))) (λ z. z)) (λ z. z))
      (λ u. cases u (λ q. false≢true q) (λ w. false≢true w))

  -- and from right to left: with block 1 on a page and block 0 waiting, a W that nothing earlier refuses is refused 13
  pub full_now : (before : List M.Asked) → history_from M T before ≡ one_waits →
      (w : M.Asked) (r x k : ℕ) → M.call w ≡ Write r x k → NoneBefore 13 (M.conditions (now before) w) → M.answer (now before) w ≡ refused 13
  unfolding book_heard
  full_now before h w r x k c n =
      ((D (before ++ (w ∷ []))).0.full before [] w r x k refl c).1 (
        n,
        λ b l. subst (λ H. Taken H b) (sym h)
            (cases (below_two b l)
            (λ e. subst (Taken one_waits) (sym e) (inr (inr refl)))
            (λ e. subst (Taken one_waits) (sym e) (inl (inl (inl (0, refl)))))),
      )

  -- `gives`: the only block that is free is given
  pub gives_1 : (before : List M.Asked) → history_from M T before ≡ one_on → (w : M.Asked) (r x k : ℕ) (given : List ℕ) →
      M.call w ≡ Write r x k → M.answer (now before) w ≡ accepted given → (rest : List ℕ) × (given ≡ 1 ∷ rest)
  unfolding book_heard
  gives_1 before h w r x k given c a =
      let (b, rest, is, below, off, unqueued, awake) = (D (before ++ (w ∷ []))).0.gives before [] w r x k given refl c a in
      cases (below_two b below)
      (λ e. absurd (off (subst (λ H. OnPage (book 2 H) b) (sym h) (subst (λ d. OnPage (book 2 one_on) d) (sym e) (inl (inl (0, refl)))))))
      (λ e. (rest, is ∙ ap {B = List ℕ} (λ d. d ∷ rest) e))

  -- and none that waits: with block 1 on a page and block 0 waiting no W is accepted
  pub none_to_give : (before : List M.Asked) → history_from M T before ≡ one_waits → (w : M.Asked) (r x k : ℕ) (given : List ℕ) →
      M.call w ≡ Write r x k → M.answer (now before) w ≡ accepted given → ⊥
  unfolding book_heard
  none_to_give before h w r x k given c a =
      let (b, rest, is, below, off, unqueued, awake) = (D (before ++ (w ∷ []))).0.gives before [] w r x k given refl c a in
      cases (below_two b below)
      (λ e. true≢false (ap (λ d. unsynced one_waits d) (sym e) ∙ subst (λ H. unsynced H b ≡ false) h awake))
      (λ e. off (subst (λ H. OnPage (book 2 H) b) (sym h) (subst (λ d. OnPage (book 2 one_waits) d) (sym e) (inl (inl (0, refl))))))

  -- `frees`, with its 'since': block 0 was freed already, so a T after the D cannot free it once more
  pub not_twice : (l : List M.Asked) →
      history_from M T l ≡ one_waits ++ (gave (Delete 1) [] ∷ gave (Reclaim 64) (1 ∷ 1 ∷ 0 ∷ 1 ∷ []) ∷ []) → ⊥
  unfolding stands book_heard
  not_twice l h =
      false≢true
      (standing_stands 0 (give 0 ∷ give 1 ∷ free 0 ∷ free 1 ∷ []) ((D l).0.frees (give 0 ∷ give 1 ∷ free 0 ∷ free 1 ∷ []) [] 0 (ap events h)))

  -- `held`, of the pages: an E that merely drops its block is refused
  pub none_dropped : (l : List M.Asked) → history_from M T l ≡ one_on ++ (gave (Write 1 1 0) (1 ∷ 1 ∷ []) ∷ gave (Erase 1 0) [] ∷ []) → ⊥
  unfolding given_in freed_in kept_count tally book_heard
  none_dropped l h =
      let e : ◌≡◌ {A = ℕ} 2 1 = subst (λ H. given_in (events H) ≡ freed_in (events H) + kept_count 2 2 H) h (D l).1.held in
      omega (arith, e)

  -- and of the queue: a T that gives one of the two queued blocks twice, and forgets the other
  pub none_lost : (l : List M.Asked) →
      history_from M T l ≡ both_queued ++ (gave (Reclaim 2) (0 ∷ 1 ∷ 0 ∷ 1 ∷ []) ∷ []) → ⊥
  unfolding given_in freed_in kept_count tally book_heard
  none_lost l h =
      let e : ◌≡◌ {A = ℕ} 2 3 = subst (λ H. given_in (events H) ≡ freed_in (events H) + kept_count 2 2 H) h (D l).1.held in
      omega (arith, e)

  -- `sealed`: whatever is called between them, two readings of a sealed page give the same
  pub reads_same : (before more : List M.Asked) → history_from M T before ≡ one_sealed → (v w : M.Asked) (l m : List ℕ) →
      M.call v ≡ Read 1 0 → M.call w ≡ Read 1 0 → M.answer (now before) v ≡ accepted l → M.answer (now (before ++ more)) w ≡ accepted m → l ≡ m
  unfolding book_heard
  reads_same before more h v w l m cv cw av aw =
      (D before).1.sealed more v w 1 0 l m cv cw (subst (λ H. Sealed (book 2 H) 1) (sym h) (inl (inl (refl, refl)))) av aw

  -- `room`: right after C neither W nor E nor D nor T nor Y is refused 14
  abbrev Roomy : Command → Type 0
  Roomy d = (before : List M.Asked) (c i : M.Asked) (l : List ℕ) → M.call c ≡ Compress → M.answer (now before) c ≡ accepted l →
      M.call i ≡ d → M.answer (now (before ++ (c ∷ []))) i ≡ refused 14 → ⊥

  pub room_W : (r x k : ℕ) → Roomy (Write r x k)
  room_W r x k before c i l cc a e = (D before).1.room c i l cc a

  pub room_E : (r x : ℕ) → Roomy (Erase r x)
  room_E r x before c i l cc a e = (D before).1.room c i l cc a

  pub room_D : (r : ℕ) → Roomy (Delete r)
  room_D r before c i l cc a e = (D before).1.room c i l cc a

  pub room_T : (k : ℕ) → Roomy (Reclaim k)
  room_T k before c i l cc a e = (D before).1.room c i l cc a

  pub room_Y : Roomy Barrier
  room_Y before c i l cc a e = (D before).1.room c i l cc a

  -- `birth_is`, of R, E and T: block 0 was given to record 1 once, and then to record 2; that is the birth that is named
  born_in_2 : (before : List M.Asked) (H : List Entry) → history_from M T before ≡ H → last_giver 0 0 H ≡ 2 → (i : M.Asked) (v : ℕ) →
      Names 0 v (entry_of M (now before) i) → giver 0 2 (M.call i) (M.answer (now before) i) ≡ 2 → v ≡ 2
  unfolding last_giver giver_by
  born_in_2 before H h given i v n still =
      let e : Entry = entry_of M (now before) i in
      sym (last_giver_lem 0 v (history_from M T (before ++ (i ∷ []))) ((D before).1.birth_is i 0 v n)) ∙
      ap (last_giver 0 0) (history_append M before (i ∷ []) T ∙ ap {B = List Entry} (λ K. K ++ (e ∷ [])) h) ∙
      giver_append 0 0 H (e ∷ []) ∙ ap (λ (w : ℕ). last_giver 0 w (e ∷ [])) given ∙ still

  pub R_names_2 : (before : List M.Asked) → history_from M T before ≡ given_twice → (i : M.Asked) (v : ℕ) → M.call i ≡ Read 2 0 →
      M.answer (now before) i ≡ accepted (0 ∷ v ∷ []) → v ≡ 2
  unfolding last_giver giver_by items_of born_in
  R_names_2 before h i v c a =
      born_in_2 before given_twice h refl i v
      (0 ∷ v ∷ [], a, subst (λ d. Some (λ j. j ≡ born 0 v) (items_of (spelling d) (0 ∷ v ∷ []))) (sym c) (inl refl)) (rw c refl)

  pub E_names_2 : (before : List M.Asked) → history_from M T before ≡ given_twice → (i : M.Asked) (v : ℕ) → M.call i ≡ Erase 2 0 →
      M.answer (now before) i ≡ accepted (0 ∷ v ∷ []) → v ≡ 2
  unfolding last_giver giver_by items_of born_in
  E_names_2 before h i v c a =
      born_in_2 before given_twice h refl i v
      (0 ∷ v ∷ [], a, subst (λ d. Some (λ j. j ≡ born 0 v) (items_of (spelling d) (0 ∷ v ∷ []))) (sym c) (inl refl)) (rw c refl)

  -- T names it when record 2 is out of the store
  pub T_names_2 : (before : List M.Asked) → history_from M T before ≡ given_twice ++ (gave (Delete 2) [] ∷ []) → (i : M.Asked) (k v : ℕ) →
      M.call i ≡ Reclaim k → M.answer (now before) i ≡ accepted (0 ∷ v ∷ []) → v ≡ 2
  unfolding last_giver giver_by items_of born_in
  T_names_2 before h i k v c a =
      born_in_2 before (given_twice ++ (gave (Delete 2) [] ∷ [])) h refl i v
      (0 ∷ v ∷ [], a, subst (λ d. Some (λ j. j ≡ born 0 v) (items_of (spelling d) (0 ∷ v ∷ []))) (sym c) (inl refl)) (rw c refl)

  -- `given_after_barrier`: a block that E freed is not given while no Y or C was accepted; a refused Y does not count
  pub not_given_yet : (l : List M.Asked) → history_from M T l ≡ one_freed ++ (turned Barrier 14 ∷ gave (Write 1 0 0) (0 ∷ 1 ∷ []) ∷ []) → ⊥
  unfolding book_heard
  not_given_yet l h =
      cases
      ((D l).1.given_after_barrier one_on (turned Barrier 14 ∷ []) [] (gave (Erase 1 0) (0 ∷ 1 ∷ [])) (gave (Write 1 0 0) (0 ∷ 1 ∷ [])) 0 h
      (inl refl) (inl refl))
      (λ e. false≢true e) (λ z. z)

  -- nor one that a W freed
  pub not_given_back : (l : List M.Asked) → history_from M T l ≡ one_waits ++ (gave (Write 1 1 0) (0 ∷ 1 ∷ []) ∷ []) → ⊥
  unfolding book_heard
  not_given_back l h =
      (D l).1.given_after_barrier one_on [] [] (gave (Write 1 0 0) (1 ∷ 1 ∷ 0 ∷ 1 ∷ [])) (gave (Write 1 1 0) (0 ∷ 1 ∷ [])) 0 h (inr (inl refl)) (inl refl)

  -- `listed_after_barrier`: nor listed; block 1 is the second of the run
  pub not_listed_yet : (l : List M.Asked) →
      history_from M T l ≡ one_on ++ (gave (Write 1 1 0) (1 ∷ 1 ∷ []) ∷ gave (Erase 1 1) (1 ∷ 1 ∷ []) ∷ gave FreeList (0 ∷ 2 ∷ []) ∷ []) → ⊥
  unfolding book_heard
  not_listed_yet l h =
      (D l).1.listed_after_barrier (one_on ++ (gave (Write 1 1 0) (1 ∷ 1 ∷ []) ∷ [])) [] [] (gave (Erase 1 1) (1 ∷ 1 ∷ [])) (gave FreeList (0 ∷ 2 ∷ [])) 1 h
      (inl refl) (0 ∷ 2 ∷ [], refl, refl, inl (omega arith, omega arith))

-- ── the same of the calls on lent memory ──

-- `demand`: on any memory on which the making was accepted, each call with a log and a buffer of its own
module _ (M : Memory) (made : make_reply two M ≡ accepted []) where
  abbrev lent_at : List Request → List ℕ
  lent_at l = state_from (machine two) (make_after two M).tables l

  pub lent_full : (before : List Request) → history_from (machine two) (make_after two M).tables before ≡ one_waits → (w : Request) (r x k : ℕ) →
      w.call ≡ Write r x k → NoneBefore 13 (all_conditions two (met_by (lent_at before) w) w.call) →
      reply two (met_by (lent_at before) w) w.call ≡ refused 13
  lent_full = full_now (machine two) (make_after two M).tables (demand two M made)

  pub lent_not_twice : (l : List Request) →
      history_from (machine two) (make_after two M).tables l ≡ one_waits ++ (gave (Delete 1) [] ∷ gave (Reclaim 64) (1 ∷ 1 ∷ 0 ∷ 1 ∷ []) ∷ []) → ⊥
  lent_not_twice = not_twice (machine two) (make_after two M).tables (demand two M made)

  pub lent_room : (r x k : ℕ) (before : List Request) (c i : Request) (l : List ℕ) → c.call ≡ Compress →
      reply two (met_by (lent_at before) c) c.call ≡ accepted l → i.call ≡ Write r x k →
      reply two (met_by (lent_at (before ++ (c ∷ []))) i) i.call ≡ refused 14 → ⊥
  lent_room = room_W (machine two) (make_after two M).tables (demand two M made)

  -- `own_facts`: the same of a store that keeps its own log
  pub own_full : (before : List Own) → history_from (own_store two) (make_after two M) before ≡ one_waits → (w : Own) (r x k : ℕ) →
      w.call ≡ Write r x k → NoneBefore 13 (all_conditions two (with_out (state_from (own_store two) (make_after two M) before) w.out) w.call) →
      reply two (with_out (state_from (own_store two) (make_after two M) before) w.out) w.call ≡ refused 13
  own_full = full_now (own_store two) (make_after two M) (own_facts two M made)

  -- `waits_means`, both ways: the tables say that block 0 waits, and say no longer so once a Y was accepted
  pub lent_waits : (l : List Request) → history_from (machine two) (make_after two M).tables l ≡ one_freed → waits (state_of two (lent_at l)) 0 ≡ true
  unfolding book_heard
  lent_waits l h = waits_means two M made l 0 ∙ ap (λ H. unsynced H 0) h

  pub lent_synced : (l : List Request) → history_from (machine two) (make_after two M).tables l ≡ one_freed ++ (gave Barrier [] ∷ []) →
      waits (state_of two (lent_at l)) 0 ≡ false
  unfolding book_heard
  lent_synced l h = waits_means two M made l 0 ∙ ap (λ H. unsynced H 0) h

  -- `never_4`: neither W nor C, with a buffer of any length
  pub never_W : (before : List Own) (out : List ℕ) (r x k : ℕ) → reply two (with_out (run two (make_after two M) before) out) (Write r x k) ≡ refused 4 → ⊥
  never_W before out r x k = never_4 two M made before (record { call = Write r x k; out = out })

  pub never_C : (before : List Own) (out : List ℕ) → reply two (with_out (run two (make_after two M) before) out) Compress ≡ refused 4 → ⊥
  never_C before out = never_4 two M made before (record { call = Compress; out = out })

-- ── A PLUG PULLED ──

-- store 1 2 2 2 8 10: room for ten words
abbrev pub ten : Geometry
ten = geometry_of 1 2 2 2 8 10

-- the log after C has two words, and then five: allocate 1, barrier, free 0, barrier, allocate 0
abbrev pub plugged : List Entry
plugged =
    one_on ++
    (gave Compress (2 ∷ []) ∷ gave (Write 1 1 0) (1 ∷ 1 ∷ []) ∷ gave Barrier [] ∷ gave (Erase 1 0) (0 ∷ 1 ∷ []) ∷ gave Barrier [] ∷
    gave (Write 1 0 0) (0 ∷ 1 ∷ []) ∷ [])

-- a wrong program: block 0 is given again while it waits, and freed again
abbrev given_too_soon : List Entry
given_too_soon =
    one_on ++ (gave Barrier [] ∷ gave (Erase 1 0) (0 ∷ 1 ∷ []) ∷ gave (Write 1 0 0) (0 ∷ 1 ∷ []) ∷ gave (Erase 1 0) (0 ∷ 1 ∷ []) ∷ [])

-- pages that hold blocks 0 and 1
two_pages : (y w : ℕ) → put (put (λ x. 0) 0 1) 1 2 y ≡ w → (w ≡ 0) ⊎ ((w ≡ 1) ⊎ (w ≡ 2))
two_pages y w e =
    cases (put_page (put (λ x. 0) 0 1) 1 2 y w e)
    (λ d. inr (inr (sym d)))
    (λ d. cases (put_page (λ x. 0) 0 1 y w d) (λ f. inr (inl (sym f))) (λ f. inl (sym f)))

-- page 0 was written and erased, page 1 was written
pages_then : (y w : ℕ) → put (put (put (λ x. 0) 0 1) 1 2) 0 0 y ≡ w → (w ≡ 0) ⊎ (w ≡ 2)
unfolding put
pages_then y w e =
    cases (same? y 0)
    (λ z. inl (sym e ∙ rw (eq-eqb y 0 z) refl))
    (λ n. cases (same? y 1)
    (λ z. inr (sym e ∙ rw (ne_eqb y 0 n, eq-eqb y 1 z) refl))
    (λ m. inl (sym e ∙ rw (ne_eqb y 0 n, ne_eqb y 1 m) refl)))

pub one : {b : ℕ} → Pairwise (λ c d. c < d) (b ∷ [])
one = (λ c i. absurd i, tt)

both : Pairwise (λ c d. c < d) (0 ∷ 1 ∷ [])
both = (λ c i. cases i (λ e. omega (arith, e)) (λ z. absurd z), one)

-- these and no others are on a page of the book or queued
abbrev pub HeldBy : List Entry → ℕ → Type 0
HeldBy H b = OnPage (book 2 H) b ⊎ (queued_in 2 H b ≡ true)

abbrev pub AreHeld : List Entry → List ℕ → Type 0
AreHeld H these = (b : ℕ) → In b these ↔ HeldBy H b

-- where none is queued
none_queued : (H : List Entry) (these : List ℕ) → ((b : ℕ) → In b these ↔ OnPage (book 2 H) b) → ((b : ℕ) → queued_in 2 H b ≡ false) → AreHeld H these
none_queued H these paged none b = (
  λ i. inl ((paged b).0 i),
  λ w. cases w (λ o. (paged b).1 o) (λ q. absurd (false≢true (sym (none b) ∙ q))),
)

-- after C, after the first Y, after the second
held_C : AreHeld (take 3 plugged) (0 ∷ [])
unfolding book_heard
held_C = none_queued (take 3 plugged) (0 ∷ []) (λ b. (
  λ i. cases i (λ e. subst (λ d. OnPage (book 2 (take 3 plugged)) d) (sym e) (inl (inl (0, refl)))) (λ z. absurd z),
  λ o. cases o
      (λ q. cases q
      (λ p. cases (put_page (λ y. 0) 0 1 p.0 (suc b) p.1) (λ e. inl (omega (arith, e))) (λ e. absurd (omega (arith, e))))
      (λ z. absurd z))
      (λ z. absurd z),
)) (λ b. refl)

held_Y : AreHeld (take 5 plugged) (0 ∷ 1 ∷ [])
unfolding book_heard
held_Y = none_queued (take 5 plugged) (0 ∷ 1 ∷ []) (λ b. (
  λ i. cases i
      (λ e. subst (λ d. OnPage (book 2 (take 5 plugged)) d) (sym e) (inl (inl (0, refl))))
      (λ j. cases j (λ e. subst (λ d. OnPage (book 2 (take 5 plugged)) d) (sym e) (inl (inl (1, refl)))) (λ z. absurd z)),
  λ o. cases o
      (λ q. cases q
      (λ p. cases (two_pages p.0 (suc b) p.1)
      (λ e. absurd (omega (arith, e)))
      (λ d. cases d (λ e. inl (omega (arith, e))) (λ e. inr (inl (omega (arith, e))))))
      (λ z. absurd z))
      (λ z. absurd z),
)) (λ b. refl)

held_YY : AreHeld (take 7 plugged) (1 ∷ [])
unfolding book_heard
held_YY = none_queued (take 7 plugged) (1 ∷ []) (λ b. (
  λ i. cases i (λ e. subst (λ d. OnPage (book 2 (take 7 plugged)) d) (sym e) (inl (inl (1, refl)))) (λ z. absurd z),
  λ o. cases o
      (λ q. cases q (λ p. cases (pages_then p.0 (suc b) p.1) (λ e. absurd (omega (arith, e))) (λ e. inl (omega (arith, e)))) (λ z. absurd z))
      (λ z. absurd z),
)) (λ b. refl)

module _ (M : Memory) (made : make_reply ten M ≡ accepted []) (l : List Own) where
  -- `crash`, for a cut at byte n that leaves k calls up to the last whole barrier: a held block is read, one that is read is held, each once
  pub reads_cut : (H : List Entry) → heard ten (make_after ten M) l ≡ H → (out : List ℕ) → 68 ≤ length out → (n k : ℕ) (these : List ℕ) →
      8 * start_by 0 H ≤ n → n ≤ 8 * used_by 0 H → place_of n 0 0 0 H ≡ k → Pairwise (λ b c. b < c) these → AreHeld (take k H) these →
      read_reply ten (take n (run ten (make_after ten M) l).log) out ≡ accepted these
  reads_cut H h out long n k these least most e rises are =
      let F = make_after ten M in
      let c = crash ten M made l n (subst (λ K. 8 * start_by 0 K ≤ n) (sym h) least) (subst (λ K. n ≤ 8 * used_by 0 K) (sym h) most) in
      let told : heard ten F c.early ≡ take k H = (cut_early ten F l n k c (ap (place_of n 0 0 0) h ∙ e)).2 ∙ ap (take k) h in
      let (read, is, all) = c.reads out (omega (arith, long)) in
      is ∙ ap accepted (rising_same read these all.rising rises (λ b. (
        λ i. (are b).1 (subst (λ K. HeldBy K b) told ((all.held b).0 i)),
        λ i. (all.held b).1 (subst (λ K. HeldBy K b) (sym told) ((are b).0 i)),
      )))

  module _ (h : heard ten (make_after ten M) l ≡ plugged) (out : List ℕ) (long : 68 ≤ length out) where
    -- right at the end of C's words
    pub cut_16 : read_reply ten (take 16 (run ten (make_after ten M) l).log) out ≡ accepted (0 ∷ [])
    unfolding place_of passes? start_by blocks_in
    cut_16 = reads_cut plugged h out long 16 3 (0 ∷ []) (omega arith) (omega arith) refl one held_C

    -- one byte of the Y is missing: back to the C
    pub cut_31 : read_reply ten (take 31 (run ten (make_after ten M) l).log) out ≡ accepted (0 ∷ [])
    unfolding place_of passes? start_by blocks_in
    cut_31 = reads_cut plugged h out long 31 3 (0 ∷ []) (omega arith) (omega arith) refl one held_C

    -- at the Y's end, and inside the word after it
    pub cut_32 : read_reply ten (take 32 (run ten (make_after ten M) l).log) out ≡ accepted (0 ∷ 1 ∷ [])
    unfolding place_of passes? start_by blocks_in
    cut_32 = reads_cut plugged h out long 32 5 (0 ∷ 1 ∷ []) (omega arith) (omega arith) refl both held_Y

    pub cut_35 : read_reply ten (take 35 (run ten (make_after ten M) l).log) out ≡ accepted (0 ∷ 1 ∷ [])
    unfolding place_of passes? start_by blocks_in
    cut_35 = reads_cut plugged h out long 35 5 (0 ∷ 1 ∷ []) (omega arith) (omega arith) refl both held_Y

    -- the free of block 0 counts once the Y after it is whole
    pub cut_48 : read_reply ten (take 48 (run ten (make_after ten M) l).log) out ≡ accepted (1 ∷ [])
    unfolding place_of passes? start_by blocks_in
    cut_48 = reads_cut plugged h out long 48 7 (1 ∷ []) (omega arith) (omega arith) refl one held_YY

  -- "none where there is none" (6.10): W's word is whole, and no barrier is there yet
  pub cut_8 : heard ten (make_after ten M) l ≡ one_on → (out : List ℕ) → 68 ≤ length out →
      read_reply ten (take 8 (run ten (make_after ten M) l).log) out ≡ accepted []
  unfolding place_of passes? start_by book_heard
  cut_8 h out long = reads_cut one_on h out long 8 0 [] (omega arith) (omega arith) refl tt (none_queued [] [] (λ b. (λ i. i, λ o. o)) (λ b. refl))

  -- `kept`: block 0, held at the barrier, is not given before the next one, though it was freed since and is freed again after that
  pub not_too_soon : heard ten (make_after ten M) l ≡ given_too_soon → ⊥
  unfolding place_of passes? start_by book_heard
  not_too_soon h =
      let start : start_by 0 (heard ten (make_after ten M) l) ≡ 0 = ap (start_by 0) h in
      let end : used_after ten (make_after ten M) l ≡ 5 = ap (used_by 0) h in
      let c : Cut ten (make_after ten M) l 40 = crash ten M made l 40 (omega (arith, start)) (omega (arith, end)) in
      let at : place_of 40 0 0 0 (heard ten (make_after ten M) l) ≡ 3 = ap (place_of 40 0 0 0) h in
      let told : heard ten (make_after ten M) c.early ≡ take 3 given_too_soon = (cut_early ten (make_after ten M) l 40 3 c at).2 ∙ ap (take 3) h in
      let mid = cut_mid ten (make_after ten M) l 40 3 c at (subst (λ H. Some Ended (drop 3 H) → ⊥) (sym h) no_Y) ∙ ap (drop 3) h in
      c.kept 0 (subst (λ H. HeldBy H 0) (sym told) (inl (inl (inl (0, refl))))) (subst (Some (Gives 0)) (sym mid) (inr (inl (inl refl))))
    where
      no_Y : Some Ended (drop 3 given_too_soon) → ⊥
      no_Y s =
          cases s (λ e. false≢true (ap syncs e.0))
          (λ t. cases t (λ e. false≢true (ap syncs e.0)) (λ u. cases u (λ e. false≢true (ap syncs e.0)) (λ z. z)))

-- ── ANY MEMORY ──

-- `fresh_sound`: with whatever bytes in its log and whatever buffer, no call on a fresh store is answered 4
pub fresh_never_4 : (g : Geometry) (M : Memory) → make_reply g M ≡ accepted [] → (log out : List ℕ) (c : Command) →
    reply g (lent (make_after g M).tables log out) c ≡ refused 4 → ⊥
fresh_never_4 g M made log out c = sound_not_4 g (lent (make_after g M).tables log out) c (making_is g M made).0 (fresh_sound g M made log)

-- `keeps_sound`: whatever was called on a sound memory, accepted or refused, no call on what it left is answered 4, with any buffer
pub then_never_4 : (g : Geometry) (M : Memory) (c d : Command) (out : List ℕ) → Inside g → SoundStore g M.tables M.log →
    reply g (with_out (after g M c) out) d ≡ refused 4 → ⊥
then_never_4 g M c d out inside S = sound_not_4 g (with_out (after g M c) out) d inside (keeps_sound g M c S)

-- and of any six numbers: the counter stays the number of an arena
pub counter_below : (g : Geometry) (M : Memory) (c : Command) → SoundStore g M.tables M.log → get_or (after g M c).tables 7 0 < g.arenas
unfolding state_of
counter_below g M c S = (keeps_sound g M c S).range.counter

-- `room`: on any tables, also such as no fresh store leads to, and with other log bytes than C left, no call right after C is refused 14
pub lent_room_any : (g : Geometry) (t log other out more k : List ℕ) (c : Command) → reply g (lent t log out) Compress ≡ accepted k →
    reply g (lent (after g (lent t log out) Compress).tables other more) c ≡ refused 14 → ⊥
lent_room_any g t log other out more k c done =
    (room g).0 t (record { call = Compress; log = log; out = out }) (record { call = c; log = other; out = more }) k refl done

-- nor any call of a store that keeps its own log
pub own_room : (g : Geometry) (M : Memory) (out more k : List ℕ) (c : Command) → reply g (with_out M out) Compress ≡ accepted k →
    reply g (with_out (after g (with_out M out) Compress) more) c ≡ refused 14 → ⊥
own_room g M out more k c done = (room g).1 M (record { call = Compress; out = out }) (record { call = c; out = more }) k refl done

-- ── THE CHOICE AND 14, OVER HISTORIES ──

-- store 3 2 4 1 2 14: three arenas of two blocks, a turn of two writes
abbrev pub arenas3 : Geometry
arenas3 = geometry_of 3 2 4 1 2 14

-- two writes: the turn has ended, and arena 0 is full
abbrev pub turn_ended : List Entry
turn_ended = gave Begin (1 ∷ []) ∷ gave (Write 1 0 0) (0 ∷ 1 ∷ []) ∷ gave (Write 1 1 0) (1 ∷ 1 ∷ []) ∷ []

-- block 4 was given, freed, and waits no more: the mark of arena 2 stands after it
abbrev pub mark_moved : List Entry
mark_moved = turn_ended ++ (gave (Write 1 2 1) (4 ∷ 1 ∷ []) ∷ gave (Erase 1 2) (4 ∷ 1 ∷ []) ∷ gave Barrier [] ∷ [])

unfoldable pub writes_heard : List Entry → ℕ
unfolding writes_in mark_by next book_heard
writes_heard H = writes_in H

third_page : (y w : ℕ) → put (put (put (put (λ x. 0) 0 1) 1 2) 2 5) 2 0 y ≡ w → (w ≡ 0) ⊎ ((w ≡ 1) ⊎ (w ≡ 2))
unfolding put
third_page y w e =
    cases (same? y 2)
    (λ z. inl (sym e ∙ rw (eq-eqb y 2 z) refl))
    (λ n. two_pages y w (rw (ne_eqb y 2 n) at e))

not_low : (b : ℕ) → 2 ≤ b → (suc b ≡ 0) ⊎ ((suc b ≡ 1) ⊎ (suc b ≡ 2)) → ⊥
not_low b k h = cases h (λ e. omega (arith, e)) (λ d. cases d (λ e. omega (arith, e, k)) (λ e. omega (arith, e, k)))

free_then : (b : ℕ) → b < 6 → 2 ≤ b → MayBeGiven arenas3 turn_ended b
unfolding writes_heard
free_then b h k = record {
  inside = h;
  off = λ o. cases o (λ q. cases q (λ p. not_low b k (two_pages p.0 (suc b) p.1)) (λ z. z)) (λ z. z);
  unqueued = refl;
  awake = refl;
}

free_later : (b : ℕ) → b < 6 → 2 ≤ b → MayBeGiven arenas3 mark_moved b
unfolding writes_heard
free_later b h k = record {
  inside = h;
  off = λ o. cases o (λ q. cases q (λ p. not_low b k (third_page p.0 (suc b) p.1)) (λ z. z)) (λ z. z);
  unqueued = refl;
  awake = refl;
}

module _ (M : Machine) (T : M.Tables) (D : (l : List M.Asked) → HistoryChoice M arenas3 T l) where
  -- `choice`: the counter is 1, so kind 1 is arena 2, and its first block is given
  pub gives_4 : (before : List M.Asked) → history_from M T before ≡ turn_ended → (w : M.Asked) (r x b : ℕ) (rest : List ℕ) →
      M.call w ≡ Write r x 1 → M.answer (state_from M T before) w ≡ accepted (b ∷ rest) → b ≡ 4
  unfolding writes_heard
  gives_4 before h w r x b rest c a =
      let C : IsChosen arenas3 turn_ended 1 b = subst (λ H. IsChosen arenas3 H 1 b) h ((D before).choice w r x 1 b rest c a) in
      cases (same? C.passed 0)
      (λ z.
      let at : b / 2 ≡ 2 = C.arena ∙ ap (λ (j : ℕ). (2 / 2 + 1 + j) % 3) z in
      cases (same? b 5)
      (λ e.
      let ahead : Ahead (mark_by arenas3 (b / 2) 0 (events turn_ended)) 0 (b % 2) =
      subst (λ (d : ℕ). Ahead (mark_by arenas3 (d / 2) 0 (events turn_ended)) 0 (d % 2)) (sym e) (inl (omega arith, omega arith)) in
      absurd (C.first 4 (sym at) ahead (free_then 4 (omega arith) (omega arith))))
      (λ n. omega (arith, at, n)))
      (λ n. absurd (C.full 0 4 (omega (arith, n)) refl (free_then 4 (omega arith) (omega arith))))

  -- and from its mark on: block 5, though block 4 is free again
  pub gives_5 : (before : List M.Asked) → history_from M T before ≡ mark_moved → (w : M.Asked) (r x b : ℕ) (rest : List ℕ) →
      M.call w ≡ Write r x 1 → M.answer (state_from M T before) w ≡ accepted (b ∷ rest) → b ≡ 5
  unfolding writes_heard
  gives_5 before h w r x b rest c a =
      let C : IsChosen arenas3 mark_moved 1 b = subst (λ H. IsChosen arenas3 H 1 b) h ((D before).choice w r x 1 b rest c a) in
      cases (same? C.passed 0)
      (λ z.
      let at : b / 2 ≡ 2 = C.arena ∙ ap (λ (j : ℕ). (3 / 2 + 1 + j) % 3) z in
      cases (same? b 4)
      (λ e.
      let ahead : Ahead (mark_by arenas3 (b / 2) 0 (events mark_moved)) 1 (b % 2) =
      subst (λ (d : ℕ). Ahead (mark_by arenas3 (d / 2) 0 (events mark_moved)) 1 (d % 2)) (sym e) (inr (inr (omega arith, omega arith))) in
      absurd (C.first 5 (sym at) ahead (free_later 5 (omega arith) (omega arith))))
      (λ n. omega (arith, at, n)))
      (λ n. absurd (C.full 0 4 (omega (arith, n)) refl (free_later 4 (omega arith) (omega arith))))

-- `free`: with block 1 on a page and block 0 waiting none is chosen, of any kind
pub none_chosen : (M : Machine) (T : M.Tables) → ((l : List M.Asked) → HistoryChoice M two T l) → (before : List M.Asked) →
    history_from M T before ≡ one_waits → (w : M.Asked) (r x k b : ℕ) (rest : List ℕ) → M.call w ≡ Write r x k →
    M.answer (state_from M T before) w ≡ accepted (b ∷ rest) → ⊥
unfolding book_heard
none_chosen M T D before h w r x k b rest c a =
    let F : MayBeGiven two one_waits b = (subst (λ H. IsChosen two H k b) h ((D before).choice w r x k b rest c a)).free in
    cases (below_two b F.inside)
    (λ e. true≢false (ap (λ d. unsynced one_waits d) (sym e) ∙ F.awake))
    (λ e. F.off (subst (λ d. OnPage (book 2 one_waits) d) (sym e) (inl (inl (0, refl)))))

-- five words of six are used, and block 0 is on page 0
abbrev pub five_used : List Entry
five_used = one_on ++ (gave Barrier [] ∷ gave Barrier [] ∷ gave Barrier [] ∷ gave Barrier [] ∷ [])

module _ (M : Machine) (T : M.Tables) (D : (l : List M.Asked) → HistoryChoice M two T l) (before : List M.Asked)
    (h : history_from M T before ≡ five_used) (c : M.Asked) (k : List ℕ) (compress : M.call c ≡ Compress)
    (done : M.answer (state_from M T before) c ≡ accepted k) where
  -- `fourteen`, from right to left: a W that names two blocks right after C writes two words: it is refused 14, or for something else
  pub W_has_no_room : (i j : M.Asked) (r x : ℕ) → M.call i ≡ Write r x 0 → M.call j ≡ Write r x 0 →
      M.answer (state_from M T (before ++ (c ∷ []))) j ≡ accepted (1 ∷ 1 ∷ 0 ∷ 1 ∷ []) →
      ((n : ℕ) → M.answer (state_from M T before) i ≡ refused n → n ≡ 14) → M.answer (state_from M T before) i ≡ refused 14
  unfolding book_heard
  W_has_no_room i j r x ci cj after_C others =
      let w = (D before).fourteen c i j k (1 ∷ 1 ∷ 0 ∷ 1 ∷ []) compress done (λ e. true≢false (ap is_w (sym ci ∙ e))) (cj ∙ sym ci) after_C in
      w.1 (
        others,
        subst (λ H. 6 < used_by 0 H + used_then 0 (M.call i) (accepted (1 ∷ 1 ∷ 0 ∷ 1 ∷ []))) (sym h)
            (subst (λ d. 6 < used_by 0 five_used + used_then 0 d (accepted (1 ∷ 1 ∷ 0 ∷ 1 ∷ []))) (sym ci) (omega arith)),
      )

  -- and from left to right: an E that names one block has room for its word
  pub E_has_room : (i j : M.Asked) (r x : ℕ) → M.call i ≡ Erase r x → M.call j ≡ Erase r x →
      M.answer (state_from M T (before ++ (c ∷ []))) j ≡ accepted (0 ∷ 1 ∷ []) → M.answer (state_from M T before) i ≡ refused 14 → ⊥
  unfolding book_heard
  E_has_room i j r x ci cj after_C e =
      let w = (D before).fourteen c i j k (0 ∷ 1 ∷ []) compress done (λ f. erases (sym ci ∙ f)) (cj ∙ sym ci) after_C in
      let more : 6 < used_by 0 five_used + used_then 0 (M.call i) (accepted (0 ∷ 1 ∷ [])) =
      subst (λ H. 6 < used_by 0 H + used_then 0 (M.call i) (accepted (0 ∷ 1 ∷ []))) h (w.0 e).1 in
      let none : 6 < 6 = subst (λ d. 6 < used_by 0 five_used + used_then 0 d (accepted (0 ∷ 1 ∷ []))) ci more in
      omega (arith, none)
    where
      erases : Erase r x ≡ Compress → ⊥
      erases f = false≢true (ap syncs f)

  -- `fits`: a W that names two blocks is not accepted
  pub W_not_accepted : (i : M.Asked) (r x : ℕ) → M.call i ≡ Write r x 0 → M.answer (state_from M T before) i ≡ accepted (1 ∷ 1 ∷ 0 ∷ 1 ∷ []) → ⊥
  unfolding book_heard
  W_not_accepted i r x ci a =
      let most : used_then (used_by 0 five_used) (M.call i) (accepted (1 ∷ 1 ∷ 0 ∷ 1 ∷ [])) ≤ 6 =
      subst (λ H. used_then (used_by 0 H) (M.call i) (accepted (1 ∷ 1 ∷ 0 ∷ 1 ∷ [])) ≤ 6) h ((D before).fits i (1 ∷ 1 ∷ 0 ∷ 1 ∷ []) a) in
      let seven : 7 ≤ 6 = subst (λ d. used_then 5 d (accepted (1 ∷ 1 ∷ 0 ∷ 1 ∷ [])) ≤ 6) ci most in
      omega (arith, seven)

  -- `never_C`
  pub C_has_room : (i : M.Asked) → M.call i ≡ Compress → M.answer (state_from M T before) i ≡ refused 14 → ⊥
  C_has_room i ci = (D before).never_C i ci

-- `choice` itself: on lent memory, and on a store that keeps its own log
pub lent_gives_4 : (M : Memory) → make_reply arenas3 M ≡ accepted [] → (before : List Request) →
    history_from (machine arenas3) (make_after arenas3 M).tables before ≡ turn_ended → (w : Request) (r x b : ℕ) (rest : List ℕ) → w.call ≡ Write r x 1 →
    reply arenas3 (met_by (state_from (machine arenas3) (make_after arenas3 M).tables before) w) w.call ≡ accepted (b ∷ rest) → b ≡ 4
lent_gives_4 M made = gives_4 (machine arenas3) (make_after arenas3 M).tables (choice arenas3 M made).0

pub own_gives_5 : (M : Memory) → make_reply arenas3 M ≡ accepted [] → (before : List Own) →
    history_from (own_store arenas3) (make_after arenas3 M) before ≡ mark_moved → (w : Own) (r x b : ℕ) (rest : List ℕ) → w.call ≡ Write r x 1 →
    reply arenas3 (with_out (run arenas3 (make_after arenas3 M) before) w.out) w.call ≡ accepted (b ∷ rest) → b ≡ 5
own_gives_5 M made = gives_5 (own_store arenas3) (make_after arenas3 M) (choice arenas3 M made).1

-- ── Q AND THE D AFTER IT ──

-- on any memory Q answered that D r would queue two blocks and write w words, of one shard
module _ (g : Geometry) (M : Memory) (r w : ℕ) (asked : reply g M (Estimate r) ≡ accepted (2 ∷ w ∷ 1 ∷ [])) where
  -- `estimate_true`, `three`, `none`: it has to answer that none is written
  pub Q_says_none : w ≡ 0
  Q_says_none = let q = estimate_true g M r (2 ∷ w ∷ 1 ∷ []) asked in ap (λ (l : List ℕ). get_or l 1 0) q.three ∙ q.none

  -- `exactly`: an accepted D queues two blocks, no more and no fewer, and uses no word
  pub D_queues_two : (out l : List ℕ) → reply g (behind g M r out) (Delete r) ≡ accepted l →
      (queue_length g (after g (behind g M r out) (Delete r)) ≡ queue_length g M + 2) × (words_used (after g (behind g M r out) (Delete r)) ≡ words_used M)
  D_queues_two out l d =
      let q = estimate_true g M r (2 ∷ w ∷ 1 ∷ []) asked in
      let e = q.exactly out l d in (
        e.0 ∙ ap (λ (n : ℕ). queue_length g M + n) (sym (ap (λ (l : List ℕ). get_or l 0 0) q.three)),
        omega (arith, e.1, q.none),
      )

  -- `estimate_enough`: however full the log is that D is accepted, and gives nothing
  pub D_with_full_log : (out : List ℕ) → 2 * blocks g + 64 ≤ length out → words_used M ≡ g.words →
      (reply g (behind g M r out) (Delete r) ≡ accepted []) × (words_used (after g (behind g M r out) (Delete r)) ≡ g.words)
  D_with_full_log out long full =
      let d = estimate_enough g M r (2 ∷ w ∷ 1 ∷ []) out asked long in (
        d,
        (D_queues_two out [] d).1 ∙ full,
      )

  -- so it is refused for nothing
  pub D_not_refused : (out : List ℕ) (n : ℕ) → 2 * blocks g + 64 ≤ length out → reply g (behind g M r out) (Delete r) ≡ refused n → ⊥
  D_not_refused out n long e = false≢true (ap was_accepted (sym e ∙ estimate_enough g M r (2 ∷ w ∷ 1 ∷ []) out asked long))

  -- `estimate_still`: it looks only
  pub Q_looks_only : ((after g M (Estimate r)).tables ≡ M.tables) × ((after g M (Estimate r)).log ≡ M.log)
  Q_looks_only = estimate_still g M r

  -- `shards_counted`: the record that follows has a shard, born after r's pred, that is not empty
  pub a_shard : (s n : ℕ) → There (state_of g M.tables).view r s → Live (state_of g M.tables).view n → (state_of g M.tables).view.prev n ≡ suc s →
      (v : ℕ) × (pred_num (state_of g M.tables).view s < v) × (shard (state_of g M.tables).view n v ≡ [] → ⊥)
  a_shard s n there live follows = let (births, above, long) = (shards_counted g M r 2 w 1 s asked there).next n live follows in go births above long
    where
      K : View
      K = (state_of g M.tables).view

      go : (births : List ℕ) → BirthsAbove K n (pred_num K s) births → length births ≡ 1 → (v : ℕ) × (pred_num K s < v) × (shard K n v ≡ [] → ⊥)
      go [] B e = absurd (omega (arith, e))
      go (v ∷ vs) B e = let (low, some) = (B.these v).0 (inl refl) in (v, low, some)

-- `estimate_refusals`: on any memory Q is refused with a number exactly where D is
pub refused_alike : (g : Geometry) (M : Memory) (r n : ℕ) → (reply g M (Estimate r) ≡ refused n) ↔ (reply g M (Delete r) ≡ refused n)
unfolding reply
refused_alike g M r n =
    let T = state_of g M.tables in
    let same = estimate_refusals g M r in
    let q = refused_iff (all_conditions g M (Estimate r)) (result g T (Estimate r)) 1 n (all_ordered g M (Estimate r)) in
    let d = refused_iff (all_conditions g M (Delete r)) (result g T (Delete r)) 1 n (all_ordered g M (Delete r)) in (
      λ e. d.1 (subst (λ cs. Holds n cs × NoneBefore n cs) (sym same) (q.0 e)),
      λ e. q.1 (subst (λ cs. Holds n cs × NoneBefore n cs) same (d.0 e)),
    )

-- ── BIRTHS BESIDE BLOCKS ──

-- block b with v is all that was given, by some births
alone : (birth : ℕ → ℕ) (b v : ℕ) (these : List ℕ) → ◌≡◌ {A = List ℕ} (b ∷ v ∷ []) (paired birth these) → (birth b ≡ v) × In b these
unfolding paired
alone birth b v [] e = absurd (let z : ◌≡◌ {A = ℕ} 2 0 = ap (λ (l : List ℕ). length l) e in omega (arith, z))
alone birth b v (c ∷ cs) e =
    let d : b ≡ c = ap (λ (l : List ℕ). get_or l 0 0) e in
    let f : v ≡ birth c = ap (λ (l : List ℕ). get_or l 1 0) e in
    (ap birth d ∙ sym f, inl d)

-- on any memory E gave block b with v
module _ (g : Geometry) (M : Memory) (r x b v : ℕ) (done : reply g M (Erase r x) ≡ accepted (b ∷ v ∷ [])) where
  -- `births_in_results`: v is the birth that b had, and b was on a page
  pub E_gives_birth : (state_of g M.tables).view.birth b ≡ v
  E_gives_birth = let w = births_in_results g M (Erase r x) (b ∷ v ∷ []) done in (alone (state_of g M.tables).view.birth b v w.these w.numbers).0

  pub E_was_on_page : (s : ℕ) × (y : ℕ) × On (state_of g M.tables).view s y b
  E_was_on_page =
      let w = births_in_results g M (Erase r x) (b ∷ v ∷ []) done in
      let i = w.in_store b (alone (state_of g M.tables).view.birth b v w.these w.numbers).1 in
      (i.slot, i.page, i.on)

  -- `log_as_before`: one word, a free of b; the birth is no part of it
  pub E_writes_free : (after g M (Erase r x)).log ≡ write_at M.log (8 * words_used M) (bytes_of (released b ∷ []))
  unfolding blocks_in blocks_of
  E_writes_free = log_as_before g M (Erase r x) (b ∷ v ∷ []) (λ e. false≢true (ap syncs e)) done

-- D gives nothing, so neither a block nor a birth of 0
pub D_names_none : (g : Geometry) (M : Memory) (r b v : ℕ) (l : List ℕ) → reply g M (Delete r) ≡ accepted (b ∷ v ∷ l) → ⊥
D_names_none g M r b v l done =
    let z : suc (suc (length l)) ≡ 0 = ap (λ (m : List ℕ). length m) (births_in_results g M (Delete r) (b ∷ v ∷ l) done) in
    omega (arith, z)

-- on any memory T gave block b with v
module _ (g : Geometry) (M : Memory) (k b v : ℕ) (done : reply g M (Reclaim k) ≡ accepted (b ∷ v ∷ [])) where
  -- `births_in_results`: v is the birth that b has in the queue, where it stood, and b is on no page
  pub T_gives_birth : ((state_of g M.tables).queue.birth b ≡ v) × In b (state_of g M.tables).queue.list × ((state_of g M.tables).view.birth b ≡ 0)
  T_gives_birth =
      let w = births_in_results g M (Reclaim k) (b ∷ v ∷ []) done in
      let (e, i) = alone (state_of g M.tables).queue.birth b v w.these w.numbers in
      (e, w.in_queue b i, w.unborn b i)

  -- it is a number that was given, so never 0
  pub T_birth_given : (0 < v) × (v ≤ (state_of g M.tables).view.last)
  T_birth_given =
      let w = births_in_results g M (Reclaim k) (b ∷ v ∷ []) done in
      let (e, i) = alone (state_of g M.tables).queue.birth b v w.these w.numbers in
      (omega (arith, w.above b i, e), omega (arith, w.given b i, e))

  -- `log_as_before`: one word, a free of b
  pub T_writes_free : (after g M (Reclaim k)).log ≡ write_at M.log (8 * words_used M) (bytes_of (released b ∷ []))
  unfolding blocks_in blocks_of
  T_writes_free = log_as_before g M (Reclaim k) (b ∷ v ∷ []) (λ e. false≢true (ap syncs e)) done

-- ── what was taken as heard is what the model answers ──

abbrev called : List Entry → List Screened
called l = map (λ e. fine e.call) l

pub heard_so : (history two (called one_waits) ≡ one_waits) × (history two (called one_sealed) ≡ one_sealed) ×
    (history two (called given_twice) ≡ given_twice) × (history two (called both_queued) ≡ both_queued) × (history ten (called plugged) ≡ plugged) ×
    (history arenas3 (called mark_moved) ≡ mark_moved) × (history two (called five_used) ≡ five_used)
unfolding replies_to
heard_so = (refl, refl, refl, refl, refl, refl, refl)
