-- A PLUG PULLED: the log of a store, cut at any byte. The statement is `Crash` in specs/Crash.antt.
use mathlib.Core.Path.{◌≡◌, refl, sym, ap, ap₂, ◌∙◌, subst}
use mathlib.Core.Logic.{◌⊎◌, inl, inr}
use mathlib.Core.Bool.{Bool, true, false, cond, not, ◌&&◌, false≢true}
use mathlib.Core.List.{List, [], ◌∷◌, ◌++◌, append_assoc, append-nil}
use Prim.Native.Nat.{ℕ, zero, suc, ◌+◌, ◌-◌, ◌*◌, ◌%◌, ◌≤◌, ◌<◌}
use native.Mathlib.Omega.{arith}
use lib.ListN.{length, take}
use lib.Seq.{take-take, take-append-add, length-take-le, take_all}
use Rattle.answer.specs.Reply.{Reply, accepted, refused}
use Rattle.answer.specs.Refusal.{NoneHolds}
use Rattle.answer.proofs.Cases.{cases, either, lt?, same?}
use Rattle.geometry.specs.declared.Geometry.{Geometry}
use Rattle.geometry.specs.Limits.{Inside, blocks}
use Rattle.alloc_log.specs.Word.{words, bytes_of}
use Rattle.alloc_log.specs.Settled.{NoBarrier}
use Rattle.alloc_log.specs.Marks.{held_in, passing, held_blocks}
use Rattle.alloc_log.specs.Tool.{readable, marks_of, held_at_end, every_reply, read_reply}
use Rattle.alloc_log.proofs.Writing.{length_bytes, bytes_append}
use Rattle.alloc_log.proofs.Appending.{words_append}
use Rattle.alloc_log.proofs.SettledFacts.{settled_judged, settled_cut, every_accepted}
use Rattle.model.specs.Book.{Some}
use Rattle.model.specs.Lists.{In, Pairwise}
use Rattle.model.specs.Sound.{Sound}
use Rattle.model.specs.Actions.{Action, Asks, done}
use Rattle.model.specs.Held.{held, frees}
use Rattle.model.specs.State.{State, with_notes, QueueFits}
use Rattle.model.specs.Window.{AsksAlong, queueing}
use Rattle.model.specs.Calls.{Account, looking, opening, freeing, closing, removing, reclaiming, placing, marking, renewing, account, renews, refusals_by}
use Rattle.model.specs.Calls.{words_by, left_by, begun_notes, sealed_notes, freed, closes, deleting, first_queued, reclaimed, reclaimed_words, found, block}
use Rattle.model.specs.Calls.{writing, conditions, result, acted, given, effect}
use Rattle.model.specs.Layout.{state_of}
use Rattle.model.specs.Memory.{Memory, words_used, reply, make_after}
use Rattle.model.specs.SoundStore.{SoundStore}
use Rattle.model.specs.History.{give, entry_of, events_of, history_from, was_accepted, syncs_by, syncs, synced?}
use Rattle.model.specs.HistoryFacts.{Synced, Gives}
use Rattle.model.specs.UsedWords.{used_as, used_then}
use Rattle.model.specs.Demand.{Own, with_out, own_store, run}
use Rattle.model.specs.Crash.{is_c, compacts?, Compacts, Ended, heard, entry_after, start_by, Crash}
use Rattle.model.specs.Command.{Command}
use Rattle.model.specs.Command.{Write}
use Rattle.model.proofs.ByNumber.{none_at}
use Rattle.model.proofs.Facts.{held_inside}
use Rattle.model.proofs.ListFacts.{in_left, in_right, in?}
use Rattle.model.proofs.HeldFacts.{frees_is}
use Rattle.model.proofs.ChoiceFacts.{given_block}
use Rattle.model.proofs.CallKinds.{none_left}
use Rattle.model.proofs.Waiting.{not_in_elem}
use Rattle.model.proofs.WindowMoves.{Giveless}
use Rattle.model.proofs.Queueing.{held_on, held_queued, not_held, held_same, held_queueing, held_reclaimed}
use Rattle.model.proofs.Closing.{closing_first, closing_asks, closing_giveless}
use Rattle.model.proofs.EachCall.{Fits, fits}
use Rattle.model.proofs.Fine.{Fine, asks_W}
use Rattle.model.proofs.AfterBarrier.{GaveBy, gave_by, same_first}
use Rattle.model.proofs.Keeps.{sound_fine, accepted_state, calls_keep_sound, making_is, fresh_is_sound}
use Rattle.model.proofs.Demands.{run_sound}
use Rattle.model.proofs.ByReplies.{held_born, words_told, fresh_used, used_told, held_told}
use Rattle.model.proofs.Along.{
  not_true,
  run_append,
  history_append,
  some_append,
  compacts_syncs,
  quiet_keeps,
  used_of,
  Whole,
  wrote_all,
  refused_tables,
  joined,
  grown,
  wrote_append,
  plain_bytes,
  plain_wrote,
  Ends,
  ended,
  barriered,
  whole_run,
  synced_ends,
}

-- how many log words are used after some calls, and which blocks are held, as the tables have it
abbrev pub words_after : Geometry → Memory → List Own → ℕ
words_after g M l = words_used (run g M l)

abbrev pub held_then : Geometry → Memory → List Own → ℕ → Bool
held_then g M l = held (state_of g (run g M l).tables)

-- ── where the calls since the last C begin ──

-- an accepted C says how many words are used after it
renews_all : (A : Account) (n m : ℕ) (l : List ℕ) → renews A ≡ true → used_as n A l ≡ used_as m A l
renews_all (looking s cs res note) n m l e = absurd (false≢true e)
renews_all (opening cs a) n m l e = absurd (false≢true e)
renews_all (freeing cs a) n m l e = absurd (false≢true e)
renews_all (closing r) n m l e = absurd (false≢true e)
renews_all (removing r) n m l e = absurd (false≢true e)
renews_all (reclaiming k) n m l e = absurd (false≢true e)
renews_all (placing r x k) n m l e = absurd (false≢true e)
renews_all marking n m l e = absurd (false≢true e)
renews_all renewing n m l e = refl

C_says : (c : Command) (r : Reply) (n m : ℕ) → (was_accepted r && is_c c) ≡ true → used_then n c r ≡ used_then m c r
C_says c (accepted l) n m e = renews_all (account c) n m l e
C_says c (refused k) n m e = absurd (false≢true e)

after_C : (g : Geometry) (M : Memory) (a : Own) (n : ℕ) → Compacts (entry_of (own_store g) M a) →
    used_then n a.call (reply g (with_out M a.out) a.call) ≡ words_used ((own_store g).after M a)
after_C g M a n e = C_says a.call (reply g (with_out M a.out) a.call) n (words_used M) e ∙ sym (words_told g (a ∷ []) M)

-- the calls up to the last accepted C, and those after it
pub record Since (g : Geometry) (M : Memory) (n : ℕ) (l : List Own) : Type 0 where
  pub front : List Own
  pub back : List Own
  pub split : l ≡ front ++ back
  pub none : Some Compacts (history_from (own_store g) (run g M front) back) → ⊥
  pub at : ((front ≡ []) × (start_by n (heard g M l) ≡ n)) ⊎
      ((calls : List Own) × (a : Own) × (front ≡ calls ++ (a ∷ [])) × Compacts (entry_after g M calls a) × (start_by n (heard g M l) ≡ words_after g M front))

-- where the calls after it hold no C
later_none : (g : Geometry) (N : Memory) (k : ℕ) (l : List Own) (s : Since g N k l) → s.front ≡ [] → Some Compacts (history_from (own_store g) N l) → ⊥
later_none g N k l s z i =
    s.none (subst (λ f. Some Compacts (history_from (own_store g) (run g N f) s.back)) (sym z)
    (subst (λ b. Some Compacts (history_from (own_store g) N b)) (s.split ∙ ap (λ f. f ++ s.back) z) i))

since : (g : Geometry) (l : List Own) (M : Memory) (n : ℕ) → Since g M n l
unfolding start_by
since g [] M n = record { front = []; back = []; split = refl; none = λ i. i; at = inl (refl, refl) }
since g (a ∷ l) M n =
    let N : Memory = (own_store g).after M a in
    let t : Bool = compacts? (entry_of (own_store g) M a) in
    let v : ℕ = used_then n a.call (reply g (with_out M a.out) a.call) in
    let s = since g l N (cond t v n) in
    cases s.at
    (λ z. cases (either t)
    (λ y. record {
      front = a ∷ [];
      back = l;
      split = refl;
      none = later_none g N (cond t v n) l s z.0;
      at = inr ([], a, refl, y, z.1 ∙ ap (λ b. cond b v n) y ∙ after_C g M a n y);
    })
    (λ y. record {
      front = [];
      back = a ∷ l;
      split = refl;
      none = λ i. cases i (λ c. false≢true (sym y ∙ c)) (later_none g N (cond t v n) l s z.0);
      at = inl (refl, z.1 ∙ ap (λ b. cond b v n) y);
    }))
    (λ z. record {
      front = a ∷ s.front;
      back = s.back;
      split = ap (λ k. a ∷ k) s.split;
      none = s.none;
      at = inr (a ∷ z.0, z.1, ap (λ k. a ∷ k) z.2, z.3, z.4);
    })

-- ── the last whole barrier ──

-- an accepted Y or C is the last of the calls, or there are none
abbrev pub Closed : Geometry → Memory → List Own → Type 0
Closed g M l = (l ≡ []) ⊎ ((calls : List Own) × (a : Own) × (l ≡ calls ++ (a ∷ [])) × Synced (entry_after g M calls a))

-- byte n stands before the end of the barrier's word that begins `late`; u words are used before `late`
abbrev UpTo : Geometry → Memory → List Own → List Own → ℕ → ℕ → Type 0
UpTo g M before late n u = ((late ≡ []) × (n ≤ 8 * u)) ⊎
    ((a : Own) × (rest : List Own) × (late ≡ a ∷ rest) × Ended (entry_after g M before a) × (n < 8 * u + 8))

pub record Found (g : Geometry) (M : Memory) (l : List Own) (n : ℕ) : Type 0 where
  pub early : List Own
  pub mid : List Own
  pub late : List Own
  pub split : l ≡ early ++ (mid ++ late)
  pub barrier : Closed g M early
  pub quiet : Some Synced (history_from (own_store g) (run g M early) mid) → ⊥
  pub same_log : Some Compacts (history_from (own_store g) (run g M (early ++ mid)) late) → ⊥
  pub from : 8 * words_after g M early ≤ n
  pub up_to : UpTo g M (early ++ mid) late n (words_after g M (early ++ mid))

module _ (g : Geometry) (M : Memory) (l : List Own) (n : ℕ) (most : n ≤ 8 * words_after g M l) where
  -- one call more
  run_one : (m : List Own) (a : Own) → run g M (m ++ (a ∷ [])) ≡ (own_store g).after (run g M m) a
  run_one m a = run_append (own_store g) m (a ∷ []) M

  find : (rest early mid : List Own) → l ≡ early ++ (mid ++ rest) → Closed g M early → (Some Synced (history_from (own_store g) (run g M early) mid) → ⊥) →
      (Some Compacts (history_from (own_store g) (run g M (early ++ mid)) rest) → ⊥) → 8 * words_after g M early ≤ n → Found g M l n
  find [] early mid s c q k f = record {
    early = early;
    mid = mid;
    late = [];
    split = s;
    barrier = c;
    quiet = q;
    same_log = λ i. i;
    from = f;
    up_to = inl (refl, subst (λ m. n ≤ 8 * words_after g M m) (s ∙ ap (λ m. early ++ m) (append-nil mid)) most);
  }
  find (a ∷ r) early mid s c q k f =
      let N : Memory = run g M (early ++ mid) in
      let assoc : early ++ (mid ++ (a ∷ r)) ≡ (early ++ mid) ++ (a ∷ r) = sym (append_assoc early mid (a ∷ r)) in
      cases (either (synced? (entry_after g M (early ++ mid) a)))
      (λ y.
      let no : compacts? (entry_after g M (early ++ mid) a) ≡ false = not_true (compacts? (entry_after g M (early ++ mid) a)) (λ z. k (inl z)) in
      let e = ended a.call (was_accepted (reply g (with_out N a.out) a.call)) y (λ z. k (inl z)) in
      let j = joined g N a no in
      cases (lt? n (8 * words_after g M (early ++ mid) + 8))
      (λ h. record {
        early = early;
        mid = mid;
        late = a ∷ r;
        split = s;
        barrier = c;
        quiet = q;
        same_log = k;
        from = f;
        up_to = inr (a, r, refl, e, h);
      })
      (λ h.
      let E : List Own = (early ++ mid) ++ (a ∷ []) in
      let o : run g M E ≡ (own_store g).after N a = run_one (early ++ mid) a in
      find r E [] (s ∙ assoc ∙ sym (append_assoc (early ++ mid) (a ∷ []) r)) (inr (early ++ mid, a, refl, y)) (λ i. i)
      (λ i. k (inr (subst (λ U. Some Compacts (history_from (own_store g) U r)) (ap (run g M) (append-nil E) ∙ o) i)))
      (omega (arith, ap words_used o, j.used, ap length (barriered g N a e.0 e.1)))))
      (λ y.
      let m : List Own = mid ++ (a ∷ []) in
      find r early m (s ∙ ap (λ z. early ++ z) (sym (append_assoc mid (a ∷ []) r))) c
      (λ i. cases (some_append Synced (history_from (own_store g) (run g M early) mid) (history_from (own_store g) (run g (run g M early) mid) (a ∷ []))
      (subst (Some Synced) (history_append (own_store g) mid (a ∷ []) (run g M early)) i)) q
      (λ z. cases z
      (λ w. false≢true (sym y ∙ subst (λ U. Synced (entry_of (own_store g) U a)) (sym (run_append (own_store g) early mid M)) w))
      (λ w. w)))
      (λ i. k (inr (subst (λ U. Some Compacts (history_from (own_store g) U r))
      (ap (run g M) (sym (append_assoc early mid (a ∷ []))) ∙ run_one (early ++ mid) a) i))) f)

-- ── reading what is left ──

-- fewer than eight bytes are no word
words_few : (l : List ℕ) → length l < 8 → words l ≡ []
unfolding words
words_few [] h = refl
words_few (a ∷ []) h = refl
words_few (a ∷ b ∷ []) h = refl
words_few (a ∷ b ∷ c ∷ []) h = refl
words_few (a ∷ b ∷ c ∷ d ∷ []) h = refl
words_few (a ∷ b ∷ c ∷ d ∷ e ∷ []) h = refl
words_few (a ∷ b ∷ c ∷ d ∷ e ∷ f ∷ []) h = refl
words_few (a ∷ b ∷ c ∷ d ∷ e ∷ f ∷ i ∷ []) h = refl
words_few (a ∷ b ∷ c ∷ d ∷ e ∷ f ∷ i ∷ j ∷ l) h = absurd (let z : ⊥ = omega arith in z)

-- a word that is torn
torn : (A Z : List ℕ) (k : ℕ) → k < length A + 8 → take k (A ++ Z) ≡ take k (A ++ take 7 Z)
torn A Z k h = sym (take-take k (length A + 7) (A ++ Z) (omega arith)) ∙ ap (take k) (take-append-add A Z 7)

torn_plain : (A Z : List ℕ) → length A % 8 ≡ 0 → NoBarrier (words A) → NoBarrier (words (A ++ take 7 Z))
torn_plain A Z h p =
    subst NoBarrier
    (sym (words_append A (take 7 Z) h ∙ ap (λ k. words A ++ k) (words_few (take 7 Z) (omega (arith, few Z))) ∙ append-nil (words A))) p
  where
    few : (l : List ℕ) → length (take 7 l) ≤ 7
    few l = cases (lt? (length l) 7) (λ k. omega (arith, ap length (take_all 7 l (omega arith)))) (λ k. omega (arith, length-take-le 7 l k))

passing_ext : (t u : ℕ → Bool) (b n : ℕ) → ((i : ℕ) → i < b + n → t i ≡ u i) → passing t b n ≡ passing u b n
passing_ext t u b zero h = refl
passing_ext t u b (suc n) h =
    ap₂ (λ (x : Bool) (k : List ℕ). cond x (b ∷ k) k) (h b (omega arith)) (passing_ext t u (suc b) n (λ i l. h i (omega arith)))

module _ (g : Geometry) (inside : Inside g) where
  -- the used part of a sound store's log, and plain bytes after it, cut
  reads_cut : (E : Memory) → SoundStore g E.tables E.log → Whole g E → Ends (used_of g E) → (tail : List ℕ) → NoBarrier (words tail) →
      (k : ℕ) (out : List ℕ) → 2 * blocks g + 64 ≤ length out →
      read_reply g (used_of g E ++ take k tail) out ≡ accepted (passing (held (state_of g E.tables)) 0 (blocks g))
  unfolding readable held_at_end held_blocks marks_of
  reads_cut E S w e tail p k out h =
      settled_judged g (used_of g E ++ take k tail) out ∙
      ap (λ l. every_reply g l out) (settled_cut (used_of g E) tail k (omega (arith, w)) p e) ∙
      every_accepted g (used_of g E) out inside h S.logged.readable ∙
      ap accepted (passing_ext (held_in (marks_of g (used_of g E))) (held (state_of g E.tables)) 0 (blocks g) (λ i l. S.logged.marks i (omega arith)))

  module _ (M : Memory) (S : SoundStore g M.tables M.log) (bare : words_used M ≡ 0) (l : List Own) (n : ℕ) (most : n ≤ 8 * words_after g M l) where
    -- nothing is used at first
    used_none : used_of g M ≡ []
    unfolding state_of
    used_none = ap (λ u. take (8 * u) M.log) bare

    whole_first : Whole g M
    whole_first = ap length used_none ∙ ap (λ u. 8 * u) (sym bare)

    module _ (F : Found g M l n) where
      abbrev E : Memory
      E = run g M F.early

      ends : Ends (used_of g (run g M F.early))
      ends = cases F.barrier
          (λ z. inl (ap (λ k. used_of g (run g M k)) z ∙ used_none))
          (λ z. subst (λ U. Ends (used_of g U)) (sym (ap (run g M) z.2 ∙ run_append (own_store g) z.0 (z.1 ∷ []) M))
          (synced_ends g (run g M z.0) z.1 (whole_run g z.0 M whole_first) z.3))

      -- no C since
      none : Some Compacts (history_from (own_store g) E (F.mid ++ F.late)) → ⊥
      none i = cases (some_append Compacts (history_from (own_store g) E F.mid) (history_from (own_store g) (run g E F.mid) F.late)
          (subst (Some Compacts) (history_append (own_store g) F.mid F.late E) i))
          (quiet_keeps (history_from (own_store g) E F.mid) F.quiet)
          (λ j. F.same_log (subst (λ U. Some Compacts (history_from (own_store g) U F.late)) (sym (run_append (own_store g) F.early F.mid M)) j))

      there : run g M l ≡ run g E (F.mid ++ F.late)
      there = ap (run g M) F.split ∙ run_append (own_store g) F.early (F.mid ++ F.late) M

      long : length (used_of g E) ≡ 8 * words_used E
      long = whole_run g F.early M whole_first

      abbrev k : ℕ
      k = n - 8 * words_used E

      -- the cut log: that of the last whole barrier, and some of the words after it
      cut_is : take n (run g M l).log ≡ used_of g E ++ take k (bytes_of (wrote_all g E (F.mid ++ F.late)))
      unfolding state_of
      cut_is =
          let X : List ℕ = bytes_of (wrote_all g E (F.mid ++ F.late)) in
          sym (take-take n (8 * words_used (run g M l)) (run g M l).log most) ∙
          ap (take n) (ap (used_of g) there ∙ (grown g (F.mid ++ F.late) E none).1) ∙
          ap (λ m. take m (used_of g E ++ X)) (let z : n ≡ length (used_of g E) + k = omega (arith, long, F.from) in z) ∙
          take-append-add (used_of g E) X k

      quiet_words : NoBarrier (words (bytes_of (wrote_all g E F.mid)))
      quiet_words = plain_bytes (wrote_all g E F.mid) (plain_wrote g F.mid E F.quiet)

      mid_used : words_after g M (F.early ++ F.mid) ≡ words_used E + length (wrote_all g E F.mid)
      mid_used =
          ap words_used (run_append (own_store g) F.early F.mid M) ∙
          (grown g F.mid E (quiet_keeps (history_from (own_store g) E F.mid) F.quiet)).0

      -- what is left after the last whole barrier is plain
      tail_is : (tail : List ℕ) × NoBarrier (words tail) × (take k (bytes_of (wrote_all g E (F.mid ++ F.late))) ≡ take k tail)
      unfolding wrote_all
      tail_is =
          let A : List ℕ = bytes_of (wrote_all g E F.mid) in
          let Z : List ℕ = bytes_of (wrote_all g (run g E F.mid) F.late) in
          let all : bytes_of (wrote_all g E (F.mid ++ F.late)) ≡ A ++ Z =
          ap bytes_of (wrote_append g F.mid F.late E) ∙ bytes_append (wrote_all g E F.mid) (wrote_all g (run g E F.mid) F.late) in
          let len : length A ≡ 8 * length (wrote_all g E F.mid) = length_bytes (wrote_all g E F.mid) in
          cases F.up_to
          (λ z. (A, quiet_words, ap (take k) (all ∙ ap (λ x. A ++ bytes_of (wrote_all g (run g E F.mid) x)) z.0 ∙ append-nil A)))
          (λ z. (
            A ++ take 7 Z,
            torn_plain A Z (omega (arith, len)) quiet_words,
            ap (take k) all ∙ torn A Z k (omega (arith, len, mid_used, z.4, F.from)),
          ))

      pub cut_reads : (out : List ℕ) → 2 * blocks g + 64 ≤ length out →
          read_reply g (take n (run g M l).log) out ≡ accepted (passing (held_then g M F.early) 0 (blocks g))
      cut_reads out h =
          let t = tail_is in
          ap (λ x. read_reply g x out) (cut_is ∙ ap (λ x. used_of g E ++ x) t.2) ∙
          reads_cut E (run_sound g F.early M S) long ends t.0 t.1 k out h

-- ── a block that was held is not given before the next barrier ──

-- a block that is held, on a page or in the queue, or waits
abbrev Kept : ℕ → State → Type 0
Kept b T = (held T b ≡ true) ⊎ In b T.waiting

-- an action keeps it so
acted_stays : (T : State) (a : Action) (k b : ℕ) → Sound T.view → Asks T.view a → Kept b T → Kept b (acted T a k)
unfolding acted
acted_stays T a k b S q o =
    cases o
    (λ y. cases (held_born T b y)
    (λ h. cases (same? ((done T.view a).birth b) 0)
    (λ e. inr (in_right b T.waiting (frees T.view a) ((frees_is T.view a S q b).1 (h, e))))
    (λ n. inl (held_on (acted T a k) b (omega arith))))
    (λ h. inl (held_queued (acted T a k) b h)))
    (λ i. inr (in_left b T.waiting (frees T.view a) i))

-- actions that queue blocks keep it so
queueing_stays : (T : State) (l : List Action) (b : ℕ) → Sound T.view → AsksAlong T.view l → Giveless l → Kept b T → Kept b (queueing T l)
unfolding queueing
queueing_stays T l b S q n o = cases o (λ y. inl (held_queueing T l S q n b ∙ y)) (λ i. inr i)

-- and a turn
turn_stays : (T : State) (k n b : ℕ) → QueueFits T → Kept b T → Kept b (reclaimed T k n)
unfolding reclaimed
turn_stays T k n b F o =
    let fs = first_queued T k in
    cases o
    (λ y. cases (in? b fs)
    (λ i. inr (in_right b T.waiting fs i))
    (λ i. inl (held_reclaimed T k n F b ∙ ap₂ (λ s t. s && not t) y (not_in_elem b fs i))))
    (λ i. inr (in_left b T.waiting fs i))

-- other notes, marks and counts change nothing of it
same_kept : (b : ℕ) (T U : State) → U.view ≡ T.view → U.queue ≡ T.queue → U.waiting ≡ T.waiting → Kept b T → Kept b U
same_kept b T U e d w o =
    cases o
    (λ y. inl (held_same T U b (ap (λ K. K.birth b) e) (ap (λ Q. Q.birth b) d) ∙ y))
    (λ i. inr (subst (In b) (sym w) i))

-- the numbers of an accepted reply
numbers_of : Reply → List ℕ
numbers_of (accepted l) = l
numbers_of (refused n) = []

same_list : (l m : List ℕ) → accepted l ≡ accepted m → l ≡ m
unfolding numbers_of
same_list l m e = ap numbers_of e

module _ (g : Geometry) (inside : Inside g) where
  module _ (T : State) (R : Fine g T) (b : ℕ) where
    stays_by : (c : Command) (A : Account) → Fits g T c A → NoneHolds (refusals_by g T A) → syncs_by A ≡ false → Kept b T → Kept b (left_by g T A)
    unfolding given
    stays_by c (looking s cs res note) f n e o = same_kept b T (with_notes T (note T)) refl refl refl o
    stays_by c (opening cs a) f n e o =
        same_kept b (acted T (a T) 0) (with_notes (acted T (a T) 0) (begun_notes T)) refl refl refl (acted_stays T (a T) 0 b R.sound (f n).asks o)
    stays_by c (freeing cs a) f n e o = acted_stays T (a T) (length (freed T (a T))) b R.sound (f (none_left (cs g T) _ n)).asks o
    stays_by c (closing r) f n e o =
        let m = closing_first g T r n in
        let U : State = queueing T (closes T r) in
        same_kept b U (with_notes U (sealed_notes T r)) refl refl refl
        (queueing_stays T (closes T r) b R.sound (closing_asks g inside T R r m) (closing_giveless g inside T R r m) o)
    stays_by c (removing r) f n e o = queueing_stays T (deleting T r ∷ []) b R.sound ((f n).asks, tt) (λ c y. y, tt) o
    stays_by c (reclaiming k) f n e o = turn_stays T k (length (reclaimed_words T k)) b R.queue o
    stays_by c (placing r x j) f n e o =
        let U : State = acted T (writing g T r x j) (length (words_by g T (placing r x j))) in
        same_kept b U (given g U (found g T j)) refl refl refl
        (acted_stays T (writing g T r x j) (length (words_by g T (placing r x j))) b R.sound (asks_W g inside T R r x j n) o)
    stays_by c marking f n e o = absurd (false≢true (sym e))
    stays_by c renewing f n e o = absurd (false≢true (sym e))

    stays : (c : Command) → NoneHolds (conditions g T c) → syncs c ≡ false → Kept b T → Kept b (effect g T c)
    stays c n e o = stays_by c (account c) (fits g inside T R c) n e o

    -- and it is not given
    not_given : (c : Command) (l : List ℕ) → NoneHolds (conditions g T c) → result g T c ≡ l → Kept b T → GaveBy b c (accepted l) → ⊥
    not_given c l n e o G =
        let m = subst (λ d. NoneHolds (conditions g T d)) G.call n in
        let q = given_block g inside T R.range G.k (none_at (conditions g T (Write G.r G.x G.k)) m 13) in
        let f : block g T G.k ≡ b =
        same_first (block g T G.k) b _ G.rest (ap (result g T) (sym G.call) ∙ e ∙ same_list l (b ∷ G.rest) G.answer) in
        cases o
        (λ y. false≢true (sym (not_held T (block g T G.k) q.1 q.3) ∙ ap (held T) f ∙ y))
        (λ i. q.2 (subst (λ d. In d T.waiting) (sym f) i))

  -- along calls with no accepted Y or C
  pub untouched : (m : List Own) (M : Memory) (b : ℕ) → SoundStore g M.tables M.log → (Some Synced (history_from (own_store g) M m) → ⊥) →
      Kept b (state_of g M.tables) → Some (Gives b) (history_from (own_store g) M m) → ⊥
  untouched [] M b S n o i = i
  untouched (a ∷ m) M b S n o i =
      go (untouched m ((own_store g).after M a) b (calls_keep_sound g (with_out M a.out) a.call S) (λ j. n (inr j)))
      (reply g (with_out M a.out) a.call) refl
    where
      N : Memory
      N = with_out M a.out

      T : State
      T = state_of g M.tables

      go : (Kept b (state_of g ((own_store g).after M a).tables) → Some (Gives b) (history_from (own_store g) ((own_store g).after M a) m) → ⊥) →
          (r : Reply) → reply g (with_out M a.out) a.call ≡ r → ⊥
      go next (refused k) e =
          cases i
          (λ j. let w : Some (λ v. v ≡ give b) (events_of a.call (refused k)) = subst (λ r. Some (λ v. v ≡ give b) (events_of a.call r)) e j in w)
          (next (subst (λ t. Kept b (state_of g t)) (sym (refused_tables g N a.call k e)) o))
      go next (accepted l) e =
          let A = Rattle.model.proofs.Keeps.accepted_is g N a.call l e in
          let R = sound_fine g M.tables M.log S in
          let c : syncs a.call ≡ false = not_true (syncs a.call) (λ y. n (inl (ap (λ r. was_accepted r && syncs a.call) e ∙ y))) in
          cases i
          (λ j. not_given T R b a.call l A.0.none A.1 o
          (gave_by b a.call (accepted l) (subst (λ r. Some (λ v. v ≡ give b) (events_of a.call r)) e j)))
          (next (subst (Kept b) (sym (accepted_state g N a.call l e)) (stays T R b a.call A.0.none c o)))

-- ── the blocks that pass a test, rising ──

module _ (t : ℕ → Bool) where
  of_passing : (b n i : ℕ) → In i (passing t b n) → (t i ≡ true) × (b ≤ i)
  of_passing b zero i h = absurd h
  of_passing b (suc n) i h = go (t b) refl h (λ j. let (y, up) = of_passing (suc b) n i j in (y, omega (arith, up)))
    where
      go : (x : Bool) → t b ≡ x → In i (cond x (b ∷ passing t (suc b) n) (passing t (suc b) n)) →
          (In i (passing t (suc b) n) → (t i ≡ true) × (b ≤ i)) → (t i ≡ true) × (b ≤ i)
      go true e j later = cases j (λ d. (ap t d ∙ e, omega (arith, d))) later
      go false e j later = later j

  in_passing : (b n i : ℕ) → t i ≡ true → b ≤ i → i < b + n → In i (passing t b n)
  in_passing b zero i y up below = absurd (omega (arith, up, below))
  in_passing b (suc n) i y up below = go (t b) refl (λ d. in_passing (suc b) n i y (omega (arith, up, d)) (omega (arith, below)))
    where
      go : (x : Bool) → t b ≡ x → ((b ≡ i → ⊥) → In i (passing t (suc b) n)) → In i (cond x (b ∷ passing t (suc b) n) (passing t (suc b) n))
      go true e later = cases (same? b i) (λ d. inl (sym d)) (λ d. inr (later d))
      go false e later = later (λ d. false≢true (sym e ∙ ap t d ∙ y))

  passing_rises : (b n : ℕ) → Pairwise (λ c d. c < d) (passing t b n)
  passing_rises b zero = tt
  passing_rises b (suc n) = go (t b) (λ c i. let (y, up) = of_passing (suc b) n c i in omega (arith, up)) (passing_rises (suc b) n)
    where
      go : (x : Bool) → ((c : ℕ) → In c (passing t (suc b) n) → b < c) → Pairwise (λ c d. c < d) (passing t (suc b) n) →
          Pairwise (λ c d. c < d) (cond x (b ∷ passing t (suc b) n) (passing t (suc b) n))
      go true first later = (first, later)
      go false first later = later

-- a held block is a block of the store
held_below : (g : Geometry) (T : State) → Fine g T → (b : ℕ) → held T b ≡ true → b < blocks g
held_below g T R b y =
    cases (held_born T b y)
    (λ h. omega (arith, held_inside T.view R.sound b h, R.blocks))
    (λ h. omega (arith, R.queue.below b ((R.queue.births b).1 h), R.blocks))

-- A PLUG PULLED
pub crash : Crash
crash g M e l n least most =
    let F = make_after g M in
    let (inside, L) = making_is g M e in
    let S = fresh_is_sound g M e (make_after g M).log in
    let s = since g l F 0 in
    let bare : words_used F ≡ 0 = fresh_used g M e in
    let end : n ≤ 8 * words_after g F l = omega (arith, most, used_told g M e l) in
    let start : 8 * words_after g F s.front ≤ n = cases s.at
    (λ z. omega (arith, ap (words_after g F) z.0, bare))
    (λ z. omega (arith, z.4, least)) in
    let closed : Closed g F s.front = cases s.at (λ z. inl z.0)
    (λ z. inr (z.0, z.1, z.2, compacts_syncs z.1.call (was_accepted (entry_after g F z.0 z.1).answer) z.3)) in
    let f = find g F l n end s.back s.front [] s.split closed (λ i. i)
    (λ i. s.none (subst (λ m. Some Compacts (history_from (own_store g) (run g F m) s.back)) (append-nil s.front) i)) start in
    let E = run g F f.early in
    let T = state_of g E.tables in
    let sound = run_sound g f.early F S in
    let told = held_told g M e f.early in
    record {
      early = f.early;
      mid = f.mid;
      late = f.late;
      split = f.split;
      barrier = f.barrier;
      quiet = f.quiet;
      same_log = f.same_log;
      from = omega (arith, f.from, used_told g M e f.early);
      up_to = subst (UpTo g F (f.early ++ f.mid) f.late n) (used_told g M e (f.early ++ f.mid)) f.up_to;
      reads = λ out h. (
        passing (held T) 0 (blocks g),
        cut_reads g inside F S bare l n end f out h,
        record {
          rising = passing_rises (held T) 0 (blocks g);
          held = λ b. (
            λ i. let (y, up) = of_passing (held T) 0 (blocks g) b i in (told b).0 y,
            λ o.
                let y = (told b).1 o in
                let low = held_below g T (sound_fine g E.tables E.log sound) b y in
                in_passing (held T) 0 (blocks g) b y (omega arith) (omega (arith, low)),
          );
        },
      );
      kept = λ b o. untouched g inside f.mid E b sound f.quiet (inl ((told b).1 o));
    }
