-- S: the ledger's loop takes the records that the window takes, in the same order; so what the call leaves is what the ledger keeps, its queue too.
use mathlib.Core.Path.{◌≡◌, refl, sym, ap, ap₂, ◌∙◌, subst}
use mathlib.Core.Bool.{Bool, true, false, cond, not, ◌&&◌, ◌||◌}
use mathlib.Core.Logic.{inl}
use mathlib.Core.List.{List, [], ◌∷◌, map}
use Prim.Native.Nat.{ℕ, zero, suc, pred, ◌+◌, ◌-◌, ◌≤◌, ◌<◌}
use native.Mathlib.Omega.{arith}
use lib.Dec.{eqb, ltb, leb}
use lib.ListN.{length, take, length-append}
use borrow.Author.Tests.{ne_eqb, leb-false, lt-ltb, le-ltb, ltb-false}
use Rattle.answer.specs.Refusal.{NoneHolds}
use Rattle.answer.proofs.Cases.{cases, either, lt?}
use Rattle.geometry.specs.declared.Geometry.{Geometry}
use Rattle.geometry.specs.Limits.{Inside}
use Rattle.model.specs.Lists.{In, Once, keep_if, on_first}
use Rattle.model.specs.Results.{numbers_of}
use Rattle.model.specs.View.{View}
use Rattle.model.specs.Effects.{grow, close, seal}
use Rattle.model.specs.Actions.{do_s, do_d, Asks, done, forked, vacant, slot_of, delete}
use Rattle.model.specs.State.{State, with_view, with_notes, QueueFits, WaitingFits}
use Rattle.model.specs.Window.{steps, AsksAlong, older, sealed_of, bare, victims, sealing, queueing}
use Rattle.model.specs.Calls.{closing, refusals_by, slot, undeletable, window_of, sealed_notes, closes}
use Rattle.model.specs.Book.{Rec, Line, Book, in_recs, rec_sealed, rec_out, window_with, sealed_in}
use Rattle.model.specs.Book.{names_moved, sealed_with, any_rec, fork_among, may_leave, taken_out, recs_out, trimmed, accept}
use Rattle.model.specs.Command.{Seal, Delete}
use Rattle.model.proofs.Agree.{Agree}
use Rattle.model.proofs.TabFacts.{put_same, put_other}
use Rattle.model.proofs.DoneSound.{spare, done_sound, miss}
use Rattle.model.proofs.Sizes.{done_sized}
use Rattle.model.proofs.BookFacts.{seal_grown, agree_sealed}
use Rattle.model.proofs.ListFacts.{of_keep}
use Rattle.model.proofs.WindowLine.{line_short, older_live, older_less}
use Rattle.model.proofs.WindowDelete.{cut}
use Rattle.model.proofs.WindowAlong.{head_live, head_free, head_not}
use Rattle.model.proofs.WindowFacts.{bare_is, loose, sealed_length, victims_are, first, next_loose, next_length, take_none}
use Rattle.model.proofs.WindowMoves.{Giveless}
use Rattle.model.proofs.Queueing.{queueing_fits, queueing_waits, queueing_none, queueing_quiet, queueing_step}
use Rattle.model.proofs.WindowSeal.{seal_sealed, seal_num}
use Rattle.model.proofs.WindowBook.{OpenNext, NamedAlike, OlderNamed, older_named, just_live, book_sealed, book_loose, book_takes, next_open}
use Rattle.model.proofs.WindowBook.{next_numbers, next_named}
use Rattle.model.proofs.Windows.{WindowsAgree, fit_done, windows_sealed}
use Rattle.model.proofs.NameBook.{named_alike}
use Rattle.model.proofs.NameActions.{NamesTold, names_kept_done, sides_kept_done}
use Rattle.model.proofs.Asked.{Unrefused}
use Rattle.model.proofs.Fine.{Fine, named_slot, effect_fine}
use Rattle.model.proofs.Closing.{closing_first, closing_12, seals, closing_asks, closing_giveless, closing_book, closing_agrees, closing_windows}
use Rattle.ledger.specs.BookReading.{line_in, is_there, base_among, fork_on, sealed_on, window_on, has_name}
use Rattle.ledger.specs.Ledger.{Ledger, take_out, may_go, trimmed_to, after_seal, closed, after_delete, account, says, keeps}
use Rattle.ledger.proofs.Numbers.{numbers_in, Full}
use Rattle.ledger.proofs.Tells.{Tells, Answered, Keeping}
use Rattle.ledger.proofs.NamesRead.{has_alike}
use Rattle.ledger.proofs.CallsTold.{there_told}
use Rattle.ledger.proofs.KillTold.{sealed_told}
use Rattle.ledger.proofs.OpenTold.{table_told}
use Rattle.ledger.proofs.GrowKept.{sealed_once_lem, sealed_full, grown_lists}
use Rattle.ledger.proofs.DeleteKept.{taken_told}

-- ── the line, as the ledger reads it ──

pub line_sealed : (r : ℕ) (ls : List Line) → sealed_in (line_in ls r).recs ≡ sealed_with r ls
unfolding line_in sealed_with sealed_in
line_sealed r [] = refl
line_sealed r (l ∷ ls) = cases (either (in_recs r l.recs)) (λ y. rw y) (λ n. rw n (line_sealed r ls))

pub line_window : (r : ℕ) (ls : List Line) → (line_in ls r).window ≡ window_with r ls
unfolding line_in window_with
line_window r [] = refl
line_window r (l ∷ ls) = cases (either (in_recs r l.recs)) (λ y. rw y) (λ n. rw n (line_window r ls))

-- no line of the book is without records
fork_same : (m : ℕ) (ls : List Line) → Full ls → base_among ls m ≡ fork_among m ls
unfolding base_among fork_among any_rec
fork_same m [] h = refl
fork_same m (l ∷ ls) h = ap₂ (λ (p q : Bool). p || q) (has l.recs h.0) (fork_same m ls h.1)
  where
    and_true : (p : Bool) → p ≡ (p && true)
    and_true true = refl
    and_true false = refl

    has : (qs : List Rec) → 0 < length qs → eqb l.base m ≡ (eqb l.base m && any_rec qs)
    has [] k = absurd (let z : ⊥ = omega arith in z)
    has (q ∷ qs) k = and_true (eqb l.base m)

-- neither a fork nor a name is on it
may_leave_lem : (B : Book) (m : ℕ) → Full B.lines → (not (fork_on B m) && not (has_name B m)) ≡ may_leave B m
unfolding may_leave has_name
may_leave_lem B m h = ap₂ (λ (p q : Bool). not p && not q) (fork_same m B.lines h) (has_alike B.names m)

-- ── a state that the deletes meet ──

-- a record is found by its number
slot_of_lem : (g : Geometry) → Inside g → (T : State) → Fine g T → (v : ℕ) → 0 < T.view.num v →
    (eqb (slot_of T.view (T.view.num v)) 0 ≡ false) × (slot T (T.view.num v) ≡ v)
unfolding slot_of
slot_of_lem g inside T R v h =
    let K = T.view in
    let n : eqb (slot_of K (K.num v)) 0 ≡ false = ne_eqb (slot_of K (K.num v)) 0 (λ e. miss K R.sound K.num (K.num v) e v h refl) in
    let w = named_slot g inside T R (K.num v) n in
    (n, R.sound.links.apart (slot T (K.num v)) v w.0 w.1)

-- ── the loop ──

-- what the loop leaves where it takes the records in the slots vs
record Turned (g : Geometry) (L : Ledger) (T : State) (vs : List ℕ) (E : Ledger) : Type 0 where
  book : E.book ≡ recs_out L.book (map T.view.num vs)
  asks : AsksAlong T.view (map do_d vs)
  tells : Tells g E (queueing T (map do_d vs))

none_turned : (g : Geometry) (L : Ledger) (T : State) → Tells g L T → Turned g L T [] L
unfolding recs_out
none_turned g L T t = record { book = refl; asks = tt; tells = subst (Tells g L) (sym (queueing_none T)) t }

deletes_giveless : (vs : List ℕ) → Giveless (map do_d vs)
deletes_giveless [] = tt
deletes_giveless (v ∷ vs) = (λ c g. g, deletes_giveless vs)

module _ (g : Geometry) (inside : Inside g) where
  -- the loop's tests, of the store
  module _ (L : Ledger) (T : State) (R : Fine g T) (t : Tells g L T) (s : ℕ) (O : OpenNext T.view s) where
    sealed_many : length (sealed_on L.book (T.view.num s)) ≡ length (sealed_of T.view s)
    sealed_many =
        ap length (line_sealed (T.view.num s) L.book.lines ∙ book_sealed T.view R.sound L.book s t.book O) ∙
        map_many (sealed_of T.view s)
      where
        map_many : (l : List ℕ) → length (map T.view.num l) ≡ length l
        map_many [] = refl
        map_many (c ∷ l) = ap suc (map_many l)

    may_go_lem : (names : ℕ → ℕ) → OlderNamed T.view names s L.book → may_go L.book (T.view.num s) ≡ map T.view.num (loose T.view names s)
    unfolding may_go
    may_go_lem names N =
        ap (keep_if (λ m. not (eqb m (T.view.num s)) && (not (fork_on L.book m) && not (has_name L.book m))))
        (line_sealed (T.view.num s) L.book.lines) ∙
        ap (λ (f : ℕ → Bool). keep_if (λ m. not (eqb m (T.view.num s)) && f m) (sealed_with (T.view.num s) L.book.lines))
        (λ i m. may_leave_lem L.book m t.full i) ∙
        book_loose T.view R.sound names L.book s t.book O N

  loop_ends : (k n r : ℕ) (L : Ledger) → length (sealed_on L.book r) ≤ n → trimmed_to g (suc k) L n r ≡ L
  unfolding trimmed_to
  loop_ends k n r L h = rw (le-ltb n (length (sealed_on L.book r)) h)

  loop_stuck : (k n r : ℕ) (L : Ledger) → may_go L.book r ≡ [] → trimmed_to g (suc k) L n r ≡ L
  unfolding trimmed_to on_first
  loop_stuck k n r L e = cases (either (ltb n (length (sealed_on L.book r)))) (λ y. rw (y, e)) (λ y. rw y)

  loop_turn : (k n r m : ℕ) (c : List ℕ) (L : Ledger) → n < length (sealed_on L.book r) → may_go L.book r ≡ m ∷ c →
      trimmed_to g (suc k) L n r ≡ trimmed_to g k (take_out g L m) n r
  unfolding trimmed_to on_first
  loop_turn k n r m c L h e = rw (lt-ltb n (length (sealed_on L.book r)) h, e)

  -- a record that may go is taken out
  module _ (L : Ledger) (T : State) (R : Fine g T) (t : Tells g L T) (v : ℕ) (q : Asks T.view (do_d v)) (bare : T.notes.names v ≡ 0) where
    abbrev m : ℕ
    m = T.view.num v

    turn_slot : slot T m ≡ v
    turn_slot = (slot_of_lem g inside T R v q.0).1

    turn_none : NoneHolds (undeletable T m)
    turn_none = (
      (slot_of_lem g inside T R v q.0).0,
      (
        le-ltb 0 (forked T.view (slot T m)) (omega (arith, ap (forked T.view) turn_slot, q.1)),
        (le-ltb 0 (T.notes.names (slot T m)) (omega (arith, ap T.notes.names turn_slot, bare)), tt),
      ),
    )

    turn_tells : Tells g (take_out g L m) (queueing T (do_d v ∷ []))
    turn_tells = subst (λ u. Tells g (take_out g L m) (queueing T (do_d u ∷ []))) turn_slot (taken_told g L T inside R t m turn_none)

    turn_fine : Fine g (queueing T (do_d v ∷ []))
    turn_fine = subst (λ u. Fine g (queueing T (do_d u ∷ []))) turn_slot (effect_fine g inside T R (Delete m) turn_none)

  -- the first that may go has no name, by the counts `names` that the window reads: so it has none by those of the store
  turn_bare : (names : ℕ → ℕ) (s v : ℕ) (c : List ℕ) (L : Ledger) (T : State) → Fine g T → Tells g L T → OpenNext T.view s →
      OlderNamed T.view names s L.book → loose T.view names s ≡ v ∷ c → T.notes.names v ≡ 0
  turn_bare names s v c L T R t O N e =
      let K = T.view in
      let hs = just_live K R.sound s O in
      let (i, b) = of_keep (bare K names) v (older K s) (subst (In v) (sym e) (inl refl)) in
      let z = (bare_is K names v b).1 in
      let hv = older_live K R.sound s hs v i in
      let same : ltb 0 (T.notes.names v) ≡ ltb 0 (names v) =
      sym (named_alike t.names R.sound v hv) ∙ N v hv (older_less K R.sound s hs v i) in
      omega (arith, ltb-false 0 (T.notes.names v) (same ∙ le-ltb 0 (names v) (omega arith)))

  turns : (names : ℕ → ℕ) (n s : ℕ) (c : List ℕ) (k : ℕ) (L : Ledger) (T : State) → Fine g T → Tells g L T → OpenNext T.view s →
      OlderNamed T.view names s L.book → loose T.view names s ≡ c →
      length (sealed_of T.view s) ≤ k → Turned g L T (take (length (sealed_of T.view s) - n) c) (trimmed_to g k L n (T.view.num s))
  unfolding queueing steps recs_out
  turns names n s c zero L T R t O N e h = absurd (let z : ⊥ = omega (arith, sealed_length T.view s) in z)
  turns names n s [] (suc k) L T R t O N e h =
      subst (λ vs. Turned g L T vs (trimmed_to g (suc k) L n (T.view.num s))) (sym (take_none (length (sealed_of T.view s) - n)))
      (subst (Turned g L T []) (sym (loop_stuck k n (T.view.num s) L (may_go_lem L T R t s O names N ∙ ap (map T.view.num) e))) (none_turned g L T t))
  turns names n s (v ∷ c) (suc k) L T R t O N e h =
      let K = T.view in
      let S = R.sound in
      let hs = just_live K S s O in
      let many = sealed_many L T R t s O in
      cases (lt? n (length (sealed_of K s)))
      (λ l.
      let M = first K names s v c S hs e in
      let none = turn_bare names s v c L T R t O N e in
      let q : Asks K (do_d v) = (head_live K s v [] M, head_free K s v [] M) in
      let G = cut K S v q.0 q.1 in
      let d : length (sealed_of K s) - n ≡ suc (length (sealed_of (delete K v) s) - n) = omega (arith, next_length K names s v c S hs e) in
      let vs : List ℕ = take (length (sealed_of (delete K v) s) - n) c in
      let T' : State = queueing T (do_d v ∷ []) in
      let L' : Ledger = take_out g L (K.num v) in
      let ih : Turned g L' T' vs (trimmed_to g k L' n (K.num s)) =
      subst (λ r. Turned g L' T' vs (trimmed_to g k L' n r)) (G.num s (head_not K s v [] M))
      (turns names n s c k L' T' (turn_fine L T R t v q none) (turn_tells L T R t v q none) (next_open K s v [] M O)
      (next_named K names s v [] L.book M N) (next_loose K names s v c S hs e)
      (omega (arith, next_length K names s v c S hs e))) in
      subst (λ j. Turned g L T (take j (v ∷ c)) (trimmed_to g (suc k) L n (K.num s))) (sym d)
      (subst (Turned g L T (v ∷ vs))
      (sym (loop_turn k n (K.num s) (K.num v) (map K.num c) L (omega arith) (may_go_lem L T R t s O names N ∙ ap (map K.num) e)))
      (record {
        book = ih.book ∙ ap (recs_out (rec_out L.book (K.num v))) (next_numbers K names s v c S hs e (length (sealed_of (delete K v) s) - n));
        asks = (q, ih.asks);
        tells = subst (Tells g (trimmed_to g k L' n (K.num s)))
            (sym (queueing_step T (do_d v) (map do_d vs) S (q, ih.asks) (λ c y. y, deletes_giveless vs))) ih.tells;
      })))
      (λ l.
      let d : length (sealed_of K s) - n ≡ 0 = omega arith in
      subst (λ j. Turned g L T (take j (v ∷ c)) (trimmed_to g (suc k) L n (K.num s))) (sym d)
      (subst (Turned g L T []) (sym (loop_ends k n (K.num s) L (omega arith))) (none_turned g L T t)))

  -- ── the seal, then the window ──

  module _ (L : Ledger) (T : State) (R : Fine g T) (t : Tells g L T) (r : ℕ) (n : Unrefused T r) where
    abbrev s : ℕ
    s = slot T r

    -- the store after the seal
    abbrev sealed_state : State
    sealed_state = with_notes (with_view T (done T.view (do_s (slot T r)))) (sealed_notes T r)

    pub asks : Asks T.view (do_s (slot T r))
    asks = seals g inside T R r n

    pub named : T.view.num (slot T r) ≡ r
    named = (named_slot g inside T R r n.eight).1

    -- the seal queues nothing
    quiet : queueing T (do_s (slot T r) ∷ []) ≡ with_view T (done T.view (do_s (slot T r)))
    quiet = queueing_quiet T (do_s (slot T r)) refl

    pub sealed_fine : leb 999999 T.view.last ≡ false → Fine g (with_notes (with_view T (done T.view (do_s (slot T r)))) (sealed_notes T r))
    unfolding seal grow close
    sealed_fine h =
        let K = T.view in
        let z = done_sized K (do_s (slot T r)) in
        let q = subst QueueFits quiet (queueing_fits T (do_s (slot T r) ∷ []) R.sound (asks, tt) (λ c y. y, tt) R.queue) in
        let w = subst WaitingFits quiet (queueing_waits T (do_s (slot T r) ∷ []) R.sound (asks, tt) (λ c y. y, tt) R.waits) in
        record {
          sound = done_sound K (do_s (slot T r)) R.sound asks;
          slots = z.slots ∙ R.slots;
          pages = z.pages ∙ R.pages;
          blocks = z.blocks ∙ R.blocks;
          range = record {
            last = omega (arith, leb-false 999999 K.last h);
            marks = R.range.marks;
            counter = R.range.counter;
            writes = R.range.writes;
            used = R.range.used;
          };
          queue = record { below = q.below; once = q.once; births = q.births; given = q.given; unborn = q.unborn };
          waits = record { below = w.below; unborn = w.unborn; unqueued = w.unqueued; once = w.once };
          windows = fit_done K (do_s (slot T r)) T.notes R.sound asks R.windows;
          names = names_kept_done K (do_s (slot T r)) T.notes R.sound asks tt R.names;
        }

    -- the name of r is on the new record
    sealed_names : NamesTold (done T.view (do_s (slot T r))) (sealed_notes T r) (rec_sealed L.book r).names
    unfolding rec_sealed
    sealed_names =
        subst (λ (m : ℕ). NamesTold (done T.view (do_s (slot T r))) (sealed_notes T r) (names_moved L.book.names m (L.book.last + 1))) named
        (sides_kept_done T.view (do_s (slot T r)) T.notes L.book R.sound asks tt t.book t.names)

    pub sealed_tells : Tells g (after_seal L r) (with_notes (with_view T (done T.view (do_s (slot T r)))) (sealed_notes T r))
    unfolding seal grow close
    sealed_tells =
        let K = T.view in
        let f : ℕ = pred (vacant K) in
        record {
          book = subst (λ (m : ℕ). Agree (done K (do_s (slot T r))) (rec_sealed L.book m)) named
              (agree_sealed K (slot T r) L.book R.sound asks t.book);
          once = sealed_once_lem g L T R t r;
          full = sealed_full g L T R t r;
          birth = t.birth;
          lists = grown_lists g L T R t (seal K (slot T r) f) f (slot T r) (seal_grown K (slot T r) f (spare K asks.2).1) (put_same K.list f [])
              (put_other K.list f []);
          counter = t.counter;
          turn = t.turn;
          marks = t.marks;
          used = t.used;
          waiting = t.waiting;
          queue = t.queue;
          windows = subst (λ (m : ℕ). WindowsAgree (done K (do_s (slot T r))) (sealed_notes T r) (rec_sealed L.book m)) named
              (windows_sealed K (slot T r) f T.notes L.book R.sound asks.0 asks.1 (spare K asks.2).1 t.book t.windows);
          names = sealed_names;
        }

    pub window_told : window_on L.book r ≡ window_of T r
    window_told = line_window r L.book.lines ∙ ap (λ m. window_with m L.book.lines) (sym named) ∙ t.windows (slot T r) asks.0 asks.1

    pub next : OpenNext (done T.view (do_s (slot T r))) (slot T r)
    next =
        let (d, hf, ef, of) = seal_sealed T.view (slot T r) R.sound asks in
        record { slot = pred (vacant T.view); live = hf; prev = ef; is_open = of }

    -- the number of r after the seal
    pub now_named : (done T.view (do_s (slot T r))).num (slot T r) ≡ r
    now_named = seal_num T.view (slot T r) R.sound asks ∙ named

    -- the book names the records that the store counts names of; after the seal the older ones still
    alike : NamedAlike T.view T.notes.names L.book
    alike v h = named_alike t.names R.sound v h

    pub older_alike : OlderNamed (done T.view (do_s (slot T r))) T.notes.names (slot T r) (rec_sealed L.book r)
    older_alike =
        subst (λ (m : ℕ). OlderNamed (done T.view (do_s (slot T r))) T.notes.names (slot T r) (rec_sealed L.book m)) named
        (older_named T.view T.notes.names L.book (slot T r) R.sound asks t.book alike)

    closed_turned : leb 999999 T.view.last ≡ false →
        Turned g (after_seal L r) (with_notes (with_view T (done T.view (do_s (slot T r)))) (sealed_notes T r))
        (victims (done T.view (do_s (slot T r))) T.notes.names (window_of T r) (slot T r)) (closed g L r)
    unfolding closed victims
    closed_turned h =
        subst (λ w. Turned g (after_seal L r) sealed_state (victims K' T.notes.names (window_of T r) (slot T r))
        (cond (eqb w 0) (after_seal L r) (trimmed_to g g.records (after_seal L r) w r))) (sym window_told)
        (go (window_of T r))
      where
        K' : View
        K' = done T.view (do_s (slot T r))

        go : (w : ℕ) → Turned g (after_seal L r) sealed_state (victims (done T.view (do_s (slot T r))) T.notes.names w (slot T r))
            (cond (eqb w 0) (after_seal L r) (trimmed_to g g.records (after_seal L r) w r))
        go zero = none_turned g (after_seal L r) sealed_state sealed_tells
        go (suc w) =
            let F = sealed_fine h in
            let live = just_live (done T.view (do_s (slot T r))) F.sound (slot T r) next in
            rw (ne_eqb (suc w) 0 (λ e. let z : ⊥ = omega arith in z))
            (subst (λ vs. Turned g (after_seal L r) sealed_state vs (trimmed_to g g.records (after_seal L r) (suc w) r))
            (sym (victims_are (done T.view (do_s (slot T r))) T.notes.names w (slot T r)))
            (subst (λ m. Turned g (after_seal L r) sealed_state
            (take (length (sealed_of (done T.view (do_s (slot T r))) (slot T r)) - suc w)
            (loose (done T.view (do_s (slot T r))) T.notes.names (slot T r)))
            (trimmed_to g g.records (after_seal L r) (suc w) m)) now_named
            (turns T.notes.names (suc w) (slot T r) (loose (done T.view (do_s (slot T r))) T.notes.names (slot T r)) g.records (after_seal L r)
            sealed_state F sealed_tells next older_alike refl
            (omega (arith, line_short (done T.view (do_s (slot T r))) F.sound (slot T r) live, F.slots)))))

    -- THE LOOP TAKES OUT WHAT THE BOOK'S OWN STEP TAKES OUT, in the same order
    pub closed_book : leb 999999 T.view.last ≡ false → (b : ℕ) → (closed g L r).book ≡ accept g.pages L.book (Seal r) b
    unfolding trimmed
    closed_book h b =
        let K = T.view in
        let L' : View = done K (do_s (slot T r)) in
        let C : Book = rec_sealed L.book (K.num (slot T r)) in
        let A = agree_sealed K (slot T r) L.book R.sound asks t.book in
        (closed_turned h).book ∙ ap (λ m. recs_out (rec_sealed L.book m) (map L'.num (victims L' T.notes.names (window_of T r) (slot T r)))) (sym named) ∙
        ap (recs_out C) (sym (ap (λ m. taken_out C (window_of T r) m) (sym (seal_num K (slot T r) R.sound asks)) ∙
        book_takes L' (done_sound K (do_s (slot T r)) R.sound asks) T.notes.names C (window_of T r) (slot T r) A next
        (older_named K T.notes.names L.book (slot T r) R.sound asks t.book alike))) ∙
        closing_book g inside T R r n L.book g.pages b t.book t.windows

-- the loop leaves the log
loop_log : (g : Geometry) (k n r : ℕ) (L : Ledger) → (trimmed_to g k L n r).log ≡ L.log
unfolding trimmed_to after_delete on_first
loop_log g zero n r L = refl
loop_log g (suc k) n r L =
    cases (either (ltb n (length (sealed_on L.book r))))
    (λ y. rw y (one (λ m. loop_log g k n r (take_out g L m)) (may_go L.book r)))
    (λ y. rw y)
  where
    one : ((m : ℕ) → (trimmed_to g k (take_out g L m) n r).log ≡ L.log) → (l : List ℕ) →
        (on_first l L (λ m. trimmed_to g k (take_out g L m) n r)).log ≡ L.log
    one h [] = refl
    one h (m ∷ l) = h m

keeps_log : (g : Geometry) (L : Ledger) (r : ℕ) → (closed g L r).log ≡ L.log
unfolding closed
keeps_log g L r = cases (either (eqb (window_on L.book r) 0)) (λ y. rw y) (λ y. rw y (loop_log g g.records (window_on L.book r) r (after_seal L r)))

pub closed_log : (r : ℕ) (g : Geometry) (L : Ledger) → (account g L (Seal r)).leaving.log ≡ L.log
unfolding account
closed_log r g L = keeps_log g L r

pub seal_answered : (r : ℕ) → Answered (Seal r)
unfolding says account numbers_of
seal_answered r g L T inside fine t =
    let none : ltb (g.words - length (closed g L r).log) 0 ≡ false = le-ltb (g.words - length (closed g L r).log) 0 (omega arith) in
    let there : not (is_there L.book r) ≡ eqb (slot_of T.view r) 0 = there_told T.view L.book r fine.sound t.book in
    rw (none, there, table_told g L T fine t)
    (cases (either (eqb (slot_of T.view r) 0)) (λ y. rw y)
    (λ a. rw (a, sealed_told g L T inside fine t r a, t.book.last)))

-- what the seal and the window's deletes leave, all at once and one after another
pub closed_tells : (g : Geometry) (L : Ledger) (T : State) → Inside g → Fine g T → Tells g L T → (r : ℕ) → NoneHolds (refusals_by g T (closing r)) →
    Tells g (closed g L r) (with_notes (queueing T (closes T r)) (sealed_notes T r))
unfolding queueing sealing
closed_tells g L T inside fine t r n =
    let m = closing_first g T r n in
    let w = closed_turned g inside L T fine t r m (closing_12 g T r n) in
    let K' : View = done T.view (do_s (slot T r)) in
    let vs : List ℕ = victims K' T.notes.names (window_of T r) (slot T r) in
    let one : queueing T (closes T r) ≡ queueing (with_view T K') (map do_d vs) =
    queueing_step T (do_s (slot T r)) (map do_d vs) fine.sound (closing_asks g inside T fine r m) (closing_giveless g inside T fine r m) ∙
    ap (λ (U : State). queueing U (map do_d vs)) (quiet g inside L T fine t r m) in
    subst (λ (U : State). Tells g (closed g L r) (with_notes U (sealed_notes T r))) (sym one) w.tells

pub seal_kept : (r : ℕ) → Keeping (Seal r)
unfolding keeps account queueing
seal_kept r g L T inside fine t n =
    let m = closing_first g T r n in
    let w = closed_tells g L T inside fine t r n in
    let e = closed_book g inside L T fine t r m (closing_12 g T r n) 0 in
    record {
      book = closing_agrees g inside T fine r m L.book g.pages 0 t.book t.windows (alike g inside L T fine t r m);
      once = subst (λ (B : Book). Once (numbers_in B.lines)) e w.once;
      full = subst (λ (B : Book). Full B.lines) e w.full;
      birth = w.birth;
      lists = w.lists;
      counter = w.counter;
      turn = w.turn;
      marks = w.marks;
      used = omega (arith, w.used, length-append (closed g L r).log []);
      waiting = w.waiting;
      queue = w.queue;
      windows = closing_windows g inside T fine r m L.book g.pages 0 t.book t.windows (alike g inside L T fine t r m);
      names = subst (λ (B : Book). NamesTold (steps T.view (closes T r)) (sealed_notes T r) B.names) e w.names;
    }
