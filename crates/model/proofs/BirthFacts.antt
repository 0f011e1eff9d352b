-- A birth in a result is the number of the record whose write last gave the block (1.7), over any list of calls on a fresh store.
use mathlib.Core.Path.{◌≡◌, refl, sym, ap, ◌∙◌, subst}
use mathlib.Core.Logic.{◌⊎◌, inl, inr}
use mathlib.Core.List.{List, [], ◌∷◌, ◌++◌, map, append_assoc, append-nil}
use Prim.Native.Nat.{ℕ, ◌<◌}
use native.Mathlib.Omega.{arith}
use lib.ListN.{get_or}
use Rattle.answer.specs.Reply.{Reply, accepted, refused}
use Rattle.answer.specs.Refusal.{NoneHolds}
use Rattle.answer.proofs.Cases.{cases, same?}
use Rattle.model.proofs.ListFacts.{in?, cleared_in, cleared_out}
use Rattle.model.proofs.QueueFacts.{in_first, overlaid_in, overlaid_out}
use Rattle.geometry.specs.declared.Geometry.{Geometry}
use Rattle.geometry.specs.Limits.{Inside}
use Rattle.model.specs.View.{View}
use Rattle.model.specs.Lists.{In}
use Rattle.model.specs.Queue.{Queue}
use Rattle.model.specs.Results.{paired, Item, plain, born, born_in, items_of}
use Rattle.model.specs.Book.{Some}
use Rattle.model.specs.Actions.{Action, Asks, done}
use Rattle.model.specs.Held.{frees}
use Rattle.model.specs.State.{State, fresh}
use Rattle.model.specs.Window.{steps, frees_along, queueing}
use Rattle.model.specs.Calls.{Account, looking, opening, freeing, closing, removing, reclaiming, placing, marking, renewing, account, refusals_by}
use Rattle.model.specs.Calls.{result_by, spelling_by, left_by, window_of, closes, deleting, first_queued, reclaimed, freed_with, spelling, slot, block}
use Rattle.model.specs.Calls.{writing, conditions, result, acted, given, logged, effect}
use Rattle.model.specs.History.{Entry, entry_of, state_from, history_from}
use Rattle.model.specs.HistoryFacts.{Names, Gave, LastGave}
use Rattle.model.specs.Model.{Screened, answer, keep_or, model_after, model, state_after, history}
use Rattle.model.specs.Command.{Command}
use Rattle.model.specs.Command.{Write}
use Rattle.model.specs.declared.Spelling.{Spelling}
use Rattle.model.specs.declared.Spelling.TheVariants.{Numbers, Blocks}
use Rattle.model.proofs.ByNumber.{none_at}
use Rattle.model.proofs.BirthStays.{Gives, done_birth, write_birth}
use Rattle.model.proofs.ResultFacts.{born_paired}
use Rattle.model.proofs.HeldFacts.{frees_is}
use Rattle.model.proofs.CallKinds.{none_left, opens, frees_only}
use Rattle.model.proofs.WindowMoves.{sealing_giveless, steps_birth, frees_along_is}
use Rattle.model.proofs.ChoiceFacts.{given_block}
use Rattle.model.proofs.Closing.{closing_first, closing_asks, closing_giveless}
use Rattle.model.proofs.EachCall.{Is, is, HeldIf, Fits, fits}
use Rattle.model.proofs.Fine.{Fine, named_slot, asks_W, effect_fine}
use Rattle.model.proofs.ModelFacts.{accepted_is}
use Rattle.model.proofs.StepFacts.{fresh_fine, reached}

-- ── the last write that gave a block ──

some_last : {A : Type 0} (P : A → Type 0) (l : List A) (a : A) → Some P (l ++ (a ∷ [])) → Some P l ⊎ P a
some_last P [] a i = cases i (λ p. inr p) (λ j. absurd j)
some_last P (b ∷ l) a i = cases i (λ p. inl (inl p)) (λ j. cases (some_last P l a j) (λ k. inl (inr k)) (λ p. inr p))

-- an entry that did not give b changes nothing for b
kept_last : (b r : ℕ) (h : List Entry) (e : Entry) → ((q : ℕ) → Gave b q e → ⊥) → LastGave b r h → LastGave b r (h ++ (e ∷ []))
kept_last b r h e n G = record {
  early = G.early;
  entry = G.entry;
  late = G.late ++ (e ∷ []);
  split = ap (λ l. l ++ (e ∷ [])) G.split ∙ append_assoc G.early (G.entry ∷ G.late) (e ∷ []);
  gave = G.gave;
  since = λ q i. cases (some_last (Gave b q) G.late e i) (λ j. G.since q j) (λ j. n q j);
}

-- one that gave it is the last
new_last : (b r : ℕ) (h : List Entry) (e : Entry) → Gave b r e → LastGave b r (h ++ (e ∷ []))
new_last b r h e g = record { early = h; entry = e; late = []; split = refl; gave = g; since = λ q i. i }

-- ── the items of a result ──

-- what an item is read off by: 1 for a block, its number and its birth
abbrev is_block : Item → ℕ
is_block (plain n) = 0
is_block (born b v) = 1

abbrev block_of : Item → ℕ
block_of (plain n) = 0
block_of (born b v) = b

abbrev birth_of : Item → ℕ
birth_of (plain n) = 0
birth_of (born b v) = v

-- numbers are no blocks
none_born : (l : List ℕ) (b v : ℕ) → Some (λ i. i ≡ born b v) (map plain l) → ⊥
none_born [] b v i = i
none_born (n ∷ l) b v i = cases i (λ e. let z : ⊥ = omega (arith, ap is_block e) in z) (λ j. none_born l b v j)

some_born : (f : ℕ → ℕ) (l : List ℕ) (b v : ℕ) → Some (λ i. i ≡ born b v) (map (λ c. born c (f c)) l) → In b l × (f b ≡ v)
some_born f [] b v i = absurd i
some_born f (c ∷ l) b v i =
    cases i
    (λ e. let w : b ≡ c = sym (ap block_of e) in (inl w, ap f w ∙ ap birth_of e))
    (λ j. let w = some_born f l b v j in (inr w.0, w.1))

-- ── the invariant: each birth in the store is that of the last write that gave its block ──

abbrev pub Tracked : View → List Entry → Type 0
Tracked K h = (b : ℕ) → 0 < K.birth b → LastGave b (K.birth b) h

-- and so is each birth in the queue
abbrev pub TrackedQueue : Queue → List Entry → Type 0
TrackedQueue Q h = (b : ℕ) → 0 < Q.birth b → LastGave b (Q.birth b) h

-- an entry that is no accepted W gave nothing
abbrev writes_by : Account → ℕ
writes_by (looking s cs res note) = 0
writes_by (opening cs a) = 0
writes_by (freeing cs a) = 0
writes_by (closing r) = 0
writes_by (removing r) = 0
writes_by (reclaiming k) = 0
writes_by (placing r x k) = 1
writes_by marking = 0
writes_by renewing = 0

abbrev writes : Command → ℕ
writes c = writes_by (account c)

abbrev entry : Command → Reply → Entry
entry c A = record { call = c; answer = A }

no_write : (c : Command) (A : Reply) → writes c ≡ 0 → (b q : ℕ) → Gave b q (entry c A) → ⊥
no_write c A n b q w = let z : ⊥ = omega (arith, ap writes w.3) in z

abbrev gives? : Reply → ℕ
gives? (accepted l) = 1
gives? (refused n) = 0

no_refusal : (c : Command) (n b q : ℕ) → Gave b q (entry c (refused n)) → ⊥
no_refusal c n b q w = let z : ⊥ = omega (arith, ap gives? w.4) in z

abbrev first_from : Reply → ℕ
first_from (accepted l) = get_or l 0 0
first_from (refused n) = 0

-- a W gave its first number
other_given : (c : Command) (l : List ℕ) (b q : ℕ) → (b ≡ get_or l 0 0 → ⊥) → Gave b q (entry c (accepted l)) → ⊥
other_given c l b q n w = n (sym (ap first_from w.4))

-- an action that gives nothing: what is held then has its birth
quiet : (K : View) (a : Action) (h : List Entry) (e : Entry) → ((b : ℕ) → Gives a b → ⊥) → ((b q : ℕ) → Gave b q e → ⊥) → Tracked K h → Tracked (done K a) (h ++ (e ∷ []))
quiet K a h e n m t b k =
    cases (done_birth K a b k)
    (λ g. absurd (n b g))
    (λ i. subst (λ v. LastGave b v (h ++ (e ∷ []))) (sym i) (kept_last b (K.birth b) h e (m b) (t b (omega (arith, i)))))

module _ (g : Geometry) (inside : Inside g) (T : State) (R : Fine g T) (h : List Entry) (t : Tracked T.view h) (u : TrackedQueue T.queue h) where
  -- a call whose action gives nothing, or that has none
  acts : (a : Action) (c : Command) (l : List ℕ) → ((b : ℕ) → Gives a b → ⊥) → writes c ≡ 0 → Tracked (done T.view a) (h ++ (entry c (accepted l) ∷ []))
  acts a c l n z = quiet T.view a h (entry c (accepted l)) n (no_write c (accepted l) z) t

  looks : (c : Command) (A : Reply) → ((b q : ℕ) → Gave b q (entry c A) → ⊥) → Tracked T.view (h ++ (entry c A ∷ []))
  looks c A n b k = kept_last b (T.view.birth b) h (entry c A) (n b) (t b k)

  write_told : (r x k : ℕ) (l : List ℕ) → NoneHolds (conditions g T (Write r x k)) → get_or l 0 0 ≡ block g T k → l ≡ block g T k ∷ lib.ListN.drop 1 l →
      Tracked (done T.view (writing g T r x k)) (h ++ (entry (Write r x k) (accepted l) ∷ []))
  write_told r x k l n f d b p =
      let a = writing g T r x k in
      let e : Entry = entry (Write r x k) (accepted l) in
      let K = T.view in
      cases (same? b (block g T k))
      (λ i.
      let (live, at) = named_slot g inside T R r (none_at (conditions g T (Write r x k)) n 8) in
      let v : (done K a).birth b ≡ r = ap (done K a).birth i ∙ write_birth K (slot T r) x (block g T k) ∙ at in
      let w : Gave b r e = (x, k, lib.ListN.drop 1 l, refl, ap accepted d ∙ ap (λ c. accepted (c ∷ lib.ListN.drop 1 l)) (sym i)) in
      subst (λ u. LastGave b u (h ++ (e ∷ []))) (sym v) (new_last b r h e w))
      (λ m.
      cases (done_birth K a b p)
      (λ i. absurd (m i))
      (λ i.
      let s = kept_last b (K.birth b) h e (λ q. other_given (Write r x k) l b q (λ j. m (j ∙ f))) (t b (omega (arith, i))) in
      subst (λ u. LastGave b u (h ++ (e ∷ []))) (sym i) s))

  told_by : (c : Command) (A : Account) (l : List ℕ) → account c ≡ A → Is c A → NoneHolds (refusals_by g T A) → result_by g T A ≡ l →
      Tracked (left_by g T A).view (h ++ (entry c (accepted l) ∷ []))
  unfolding logged given acted queueing reclaimed steps
  told_by c (looking s cs res note) l d i n e = looks c (accepted l) (no_write c (accepted l) (ap writes_by d))
  told_by c (opening cs a) l d i n e = acts (a T) c l (opens T.view (a T) (i T).0).none (ap writes_by d)
  told_by c (freeing cs a) l d i n e = acts (a T) c l (frees_only T.view (a T) R.sound (i g T).0).none (ap writes_by d)
  told_by c (closing r) l d i n e =
      let K = T.view in
      λ b k.
      let v = steps_birth K (closes T r) (sealing_giveless K T.notes.names (window_of T r) (slot T r)) b k in
      subst (λ u. LastGave b u (h ++ (entry c (accepted l) ∷ []))) (sym v)
      (kept_last b (K.birth b) h (entry c (accepted l)) (no_write c (accepted l) (ap writes_by d) b) (t b (omega (arith, v))))
  told_by c (removing r) l d i n e = acts (deleting T r) c l (λ b y. y) (ap writes_by d)
  told_by c (reclaiming k) l d i n e = looks c (accepted l) (no_write c (accepted l) (ap writes_by d))
  told_by c (placing r x k) l d i n e =
      subst (λ z. Tracked (done T.view (writing g T r x k)) (h ++ (entry z (accepted l) ∷ []))) (sym i)
      (write_told r x k l n (sym (ap (λ m. get_or m 0 0) e)) (sym e ∙ ap (λ m. block g T k ∷ lib.ListN.drop 1 m) e))
  told_by c marking l d i n e = looks c (accepted l) (no_write c (accepted l) (ap writes_by d))
  told_by c renewing l d i n e = looks c (accepted l) (no_write c (accepted l) (ap writes_by d))

  effect_told : (c : Command) (l : List ℕ) → NoneHolds (conditions g T c) → result g T c ≡ l → Tracked (effect g T c).view (h ++ (entry c (accepted l) ∷ []))
  effect_told c l n e = told_by c (account c) l refl (is c) n e

  -- ── the queue ──

  -- it stays, and the entry gave none of its blocks
  same_queue : (e : Entry) → ((b q : ℕ) → 0 < T.queue.birth b → Gave b q e → ⊥) → TrackedQueue T.queue (h ++ (e ∷ []))
  same_queue e n b k = kept_last b (T.queue.birth b) h e (λ q. n b q k) (u b k)

  -- D or S: a block that joins has the birth that it had on its page
  queue_joins : (ds : List Action) (e : Entry) → ((b : ℕ) → In b (frees_along T.view ds) → 0 < T.view.birth b) → ((b q : ℕ) → Gave b q e → ⊥) →
      TrackedQueue (queueing T ds).queue (h ++ (e ∷ []))
  unfolding queueing
  queue_joins ds e p n b k =
      let fs = frees_along T.view ds in
      cases (in? b fs)
      (λ i.
      subst (λ v. LastGave b v (h ++ (e ∷ []))) (sym (overlaid_in T.queue.birth T.view.birth fs b i))
      (kept_last b (T.view.birth b) h e (n b) (t b (p b i))))
      (λ m.
      let v = overlaid_out T.queue.birth T.view.birth fs b m in
      subst (λ v. LastGave b v (h ++ (e ∷ []))) (sym v) (kept_last b (T.queue.birth b) h e (n b) (u b (omega (arith, v)))))

  -- T: those that are left keep their births
  queue_turns : (k m : ℕ) (e : Entry) → ((b q : ℕ) → Gave b q e → ⊥) → TrackedQueue (reclaimed T k m).queue (h ++ (e ∷ []))
  unfolding reclaimed
  queue_turns k m e n b p =
      let fs = first_queued T k in
      cases (in? b fs)
      (λ i. absurd (let z : ⊥ = omega (arith, cleared_in T.queue.birth fs b i) in z))
      (λ i.
      let v = cleared_out T.queue.birth fs b i in
      subst (λ v. LastGave b v (h ++ (e ∷ []))) (sym v) (kept_last b (T.queue.birth b) h e (n b) (u b (omega (arith, v)))))

  queue_by : (c : Command) (A : Account) (l : List ℕ) → account c ≡ A → Is c A → Fits g T c A → NoneHolds (refusals_by g T A) → result_by g T A ≡ l →
      TrackedQueue (left_by g T A).queue (h ++ (entry c (accepted l) ∷ []))
  unfolding logged given acted
  queue_by c (looking s cs res note) l d i f n e = same_queue (entry c (accepted l)) (λ b q k. no_write c (accepted l) (ap writes_by d) b q)
  queue_by c (opening cs a) l d i f n e = same_queue (entry c (accepted l)) (λ b q k. no_write c (accepted l) (ap writes_by d) b q)
  queue_by c (freeing cs a) l d i f n e = same_queue (entry c (accepted l)) (λ b q k. no_write c (accepted l) (ap writes_by d) b q)
  queue_by c (closing r) l d i f n e =
      let m = closing_first g T r n in
      queue_joins (closes T r) (entry c (accepted l))
      (λ b j. ((frees_along_is T.view (closes T r) R.sound (closing_asks g inside T R r m) (closing_giveless g inside T R r m) b).0 j).0)
      (no_write c (accepted l) (ap writes_by d))
  queue_by c (removing r) l d i f n e =
      queue_joins (deleting T r ∷ []) (entry c (accepted l))
      (λ b j. ((frees_along_is T.view (deleting T r ∷ []) R.sound ((f n).asks, tt) (λ c y. y, tt) b).0 j).0)
      (no_write c (accepted l) (ap writes_by d))
  queue_by c (reclaiming k) l d i f n e = queue_turns k _ (entry c (accepted l)) (no_write c (accepted l) (ap writes_by d))
  queue_by c (placing r x k) l d i f n e =
      let b = given_block g inside T R.range k (none_at (refusals_by g T (placing r x k)) n 13) in
      same_queue (entry c (accepted l))
      (λ a q p. other_given c l a q
      (λ j. let z : ⊥ = omega (arith, ap T.queue.birth (j ∙ sym (ap (λ m. get_or m 0 0) e)), b.3) in z))
  queue_by c marking l d i f n e = same_queue (entry c (accepted l)) (λ b q k. no_write c (accepted l) (ap writes_by d) b q)
  queue_by c renewing l d i f n e = same_queue (entry c (accepted l)) (λ b q k. no_write c (accepted l) (ap writes_by d) b q)

  pub queue_step : (i : Screened) → TrackedQueue (model_after g T i).queue (h ++ (entry_of (model g) T i ∷ []))
  unfolding model_after
  queue_step i = go (answer g T i) refl
    where
      go : (A : Reply) → answer g T i ≡ A → TrackedQueue (keep_or A T (effect g T i.call)).queue (h ++ (entry i.call A ∷ []))
      go (refused n) e = same_queue (entry i.call (refused n)) (λ b q k. no_refusal i.call n b q)
      go (accepted l) e =
          let w = accepted_is g T i l e in
          queue_by i.call (account i.call) l refl (is i.call) (fits g inside T R i.call) w.0 w.1

  pub told_step : (i : Screened) → Tracked (model_after g T i).view (h ++ (entry_of (model g) T i ∷ []))
  unfolding model_after
  told_step i = go (answer g T i) refl
    where
      go : (A : Reply) → answer g T i ≡ A → Tracked (keep_or A T (effect g T i.call)).view (h ++ (entry i.call A ∷ []))
      go (refused n) e = looks i.call (refused n) (no_refusal i.call n)
      go (accepted l) e = let w = accepted_is g T i l e in effect_told i.call l w.0 w.1

  -- ── a birth in the next result ──

  -- of blocks that are held
  named : (c : Command) (A : Reply) (bs : List ℕ) (b v : ℕ) → ((q : ℕ) → In b bs → Gave b q (entry c A) → ⊥) → ((d : ℕ) → In d bs → 0 < T.view.birth d) →
      Some (λ i. i ≡ born b v) (born_in (paired T.view.birth bs)) → LastGave b v (h ++ (entry c A ∷ []))
  named c A bs b v n p i =
      let (j, e) = some_born T.view.birth bs b v (subst (Some (λ i. i ≡ born b v)) (born_paired T.view.birth bs) i) in
      subst (λ u. LastGave b u (h ++ (entry c A ∷ []))) e (kept_last b (T.view.birth b) h (entry c A) (λ q. n q j) (t b (p b j)))

  -- of blocks that are queued
  turned : (c : Command) (A : Reply) (bs : List ℕ) (b v : ℕ) → ((q : ℕ) → Gave b q (entry c A) → ⊥) → ((d : ℕ) → In d bs → 0 < T.queue.birth d) →
      Some (λ i. i ≡ born b v) (born_in (paired T.queue.birth bs)) → LastGave b v (h ++ (entry c A ∷ []))
  turned c A bs b v n p i =
      let (j, e) = some_born T.queue.birth bs b v (subst (Some (λ i. i ≡ born b v)) (born_paired T.queue.birth bs) i) in
      subst (λ w. LastGave b w (h ++ (entry c A ∷ []))) e (kept_last b (T.queue.birth b) h (entry c A) n (u b (p b j)))

  -- of what is freed
  freed_held : (a : Action) → Asks T.view a → (d : ℕ) → In d (frees T.view a) → 0 < T.view.birth d
  freed_held a q d i = ((frees_is T.view a R.sound q d).0 i).0

  -- a W's block, then what it freed
  write_named : (r x k : ℕ) (l : List ℕ) (b v : ℕ) → NoneHolds (conditions g T (Write r x k)) → result g T (Write r x k) ≡ l →
      Some (λ i. i ≡ born b v) (items_of Blocks (result g T (Write r x k))) → LastGave b v (h ++ (entry (Write r x k) (accepted l) ∷ []))
  unfolding items_of born_in
  write_named r x k l b v n e i =
      let c = Write r x k in
      let q = asks_W g inside T R r x k n in
      let f : get_or l 0 0 ≡ block g T k = sym (ap (λ m. get_or m 0 0) e) in
      cases i
      (λ j.
      let w : Gave (block g T k) r (entry c (accepted l)) = (x, k, lib.ListN.drop 1 (result g T c), refl, ap accepted (sym e)) in
      subst (λ u. LastGave b u (h ++ (entry c (accepted l) ∷ []))) (ap birth_of j)
      (subst (λ d. LastGave d r (h ++ (entry c (accepted l) ∷ []))) (ap block_of j) (new_last (block g T k) r h (entry c (accepted l)) w)))
      (λ j.
      named c (accepted l) (frees T.view (writing g T r x k)) b v
      (λ u m. other_given c l b u (λ o. let z : ⊥ = omega (arith, freed_held (writing g T r x k) q b m, ap T.view.birth (o ∙ f), q.4) in z))
      (freed_held (writing g T r x k) q) j)

  -- a result of a call that gives no block, by its spelling
  looked : (c : Command) (s : Spelling) (m l : List ℕ) (b v : ℕ) → writes c ≡ 0 → HeldIf T s m →
      Some (λ i. i ≡ born b v) (items_of s m) → LastGave b v (h ++ (entry c (accepted l) ∷ []))
  unfolding items_of
  looked c Numbers m l b v z w i = absurd (none_born m b v i)
  looked c Blocks m l b v z w i =
      named c (accepted l) w.these b v (λ u j. no_write c (accepted l) z b u) w.held
      (subst (λ k. Some (λ i. i ≡ born b v) (born_in k)) (sym w.numbers) i)

  named_by : (c : Command) (A : Account) (l : List ℕ) (b v : ℕ) → account c ≡ A → Is c A → Fits g T c A → NoneHolds (refusals_by g T A) → result_by g T A ≡ l →
      Some (λ i. i ≡ born b v) (items_of (spelling_by A) (result_by g T A)) → LastGave b v (h ++ (entry c (accepted l) ∷ []))
  unfolding items_of
  named_by c (looking s cs res note) l b v d i f n e o = looked c s (res g T) l b v (ap writes_by d) (f n).1 o
  named_by c (opening cs a) l b v d i f n e o = absurd (none_born (result_by g T (opening cs a)) b v o)
  named_by c (freeing cs a) l b v d i f n e o =
      looked c Blocks (freed_with T (a T)) l b v (ap writes_by d)
      (record { these = frees T.view (a T); numbers = refl; held = freed_held (a T) (f (none_left (cs g T) _ n)).asks }) o
  named_by c (closing r) l b v d i f n e o = absurd (none_born (result_by g T (closing r)) b v o)
  named_by c (removing r) l b v d i f n e o = absurd o
  named_by c (reclaiming k) l b v d i f n e o =
      turned c (accepted l) (first_queued T k) b v (no_write c (accepted l) (ap writes_by d) b)
      (λ a j. (R.queue.births a).0 (in_first k T.queue.list a j)) o
  named_by c (placing r x k) l b v d i f n e o =
      subst (λ z. LastGave b v (h ++ (entry z (accepted l) ∷ []))) (sym i) (write_named r x k l b v n e o)
  named_by c marking l b v d i f n e o = absurd o
  named_by c renewing l b v d i f n e o = absurd (none_born (result_by g T renewing) b v o)

  result_told : (c : Command) (l : List ℕ) (b v : ℕ) → NoneHolds (conditions g T c) → result g T c ≡ l →
      Some (λ i. i ≡ born b v) (items_of (spelling c) (result g T c)) → LastGave b v (h ++ (entry c (accepted l) ∷ []))
  result_told c l b v n e i = named_by c (account c) l b v refl (is c) (fits g inside T R c) n e i

  next_told : (i : Screened) (b v : ℕ) → Names b v (entry_of (model g) T i) → LastGave b v (h ++ (entry_of (model g) T i ∷ []))
  next_told i b v (l, e, j) =
      let w = accepted_is g T i l e in
      let k = subst (λ m. Some (λ d. d ≡ born b v) (items_of (spelling i.call) m)) (sym w.1) j in
      subst (λ A. LastGave b v (h ++ (entry i.call A ∷ []))) (sym e) (result_told i.call l b v w.0 w.1 k)

-- ── any list of calls ──

history_append : (g : Geometry) (l m : List Screened) (T : State) →
    history_from (model g) T (l ++ m) ≡ history_from (model g) T l ++ history_from (model g) (state_from (model g) T l) m
history_append g [] m T = refl
history_append g (i ∷ l) m T = ap {B = List Entry} (λ k. entry_of (model g) T i ∷ k) (history_append g l m (model_after g T i))

pub after_fine : (g : Geometry) → Inside g → (T : State) → Fine g T → (i : Screened) → Fine g (model_after g T i)
unfolding model_after
after_fine g inside T R i = go (answer g T i) refl
  where
    go : (A : Reply) → answer g T i ≡ A → Fine g (keep_or A T (effect g T i.call))
    go (refused n) e = R
    go (accepted l) e = effect_fine g inside T R i.call (accepted_is g T i l e).0

-- of pages and queue
abbrev TrackedState : State → List Entry → Type 0
TrackedState T h = Tracked T.view h × TrackedQueue T.queue h

told_from : (g : Geometry) → Inside g → (l : List Screened) (T : State) (h : List Entry) → Fine g T → TrackedState T h →
    TrackedState (state_from (model g) T l) (h ++ history_from (model g) T l)
told_from g inside [] T h R t = subst (TrackedState T) (sym (append-nil h)) t
told_from g inside (i ∷ l) T h R t =
    let e = entry_of (model g) T i in
    subst (TrackedState (state_from (model g) (model_after g T i) l)) (append_assoc h (e ∷ []) (history_from (model g) (model_after g T i) l))
    (told_from g inside l (model_after g T i) (h ++ (e ∷ [])) (after_fine g inside T R i)
    (told_step g inside T R h t.0 t.1 i, queue_step g inside T R h t.0 t.1 i))

-- A BIRTH IS THE NUMBER OF THE RECORD WHOSE WRITE LAST GAVE THE BLOCK
pub birth_is : (g : Geometry) → Inside g → (before : List Screened) (i : Screened) (b v : ℕ) →
    Names b v (entry_of (model g) (state_after g before) i) → LastGave b v (history g (before ++ (i ∷ [])))
unfolding fresh
birth_is g inside before i b v n =
    let R = (reached g inside before).fine in
    let none : TrackedState (fresh g) [] = (λ c k. absurd (let z : ⊥ = omega arith in z), λ c k. absurd (let z : ⊥ = omega arith in z)) in
    let t = told_from g inside before (fresh g) [] (fresh_fine g inside) none in
    subst (LastGave b v) (sym (history_append g before (i ∷ []) (fresh g)))
    (next_told g inside (state_after g before) R (history g before) t.0 t.1 i b v n)
