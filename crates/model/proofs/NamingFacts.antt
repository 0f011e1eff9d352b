-- The naming laws, of the model: which record a name is on before and after a call. The statement is `NamingLaws` in specs/NamingLaws.antt.
use mathlib.Core.Path.{◌≡◌, refl, sym, ap, ◌∙◌, subst}
use mathlib.Core.Logic.{◌⊎◌, inl, inr, ◌↔◌}
use mathlib.Core.Bool.{true, false, false≢true}
use mathlib.Core.List.{List, [], ◌∷◌}
use Prim.Native.Nat.{ℕ, suc, pred, ◌≤◌, ◌<◌}
use native.Mathlib.Omega.{arith}
use lib.Dec.{eqb}
use lib.ListN.{length}
use borrow.Author.Tests.{eqb-true, ltb-false}
use Rattle.answer.specs.Reply.{Reply, accepted, refused}
use Rattle.answer.specs.Refusal.{Condition, place, Holds, NoneBefore, Ordered, NoneHolds}
use Rattle.answer.proofs.Cases.{cases, either, lt?}
use Rattle.answer.proofs.Decided.{none_in}
use Rattle.geometry.specs.declared.Geometry.{Geometry}
use Rattle.geometry.specs.Limits.{Inside}
use Rattle.model.specs.Table.{via}
use Rattle.model.specs.Lists.{In, Once}
use Rattle.model.specs.View.{View}
use Rattle.model.specs.Sound.{Sound}
use Rattle.model.specs.Effects.{begin, seal, fork, erase}
use Rattle.model.specs.Actions.{Action, do_b, do_w, do_e, do_s, do_f, do_d, Asks, done, follower, vacant, slot_of, delete}
use Rattle.model.specs.Names.{Titles, ValidName, row_of, empty_row}
use Rattle.model.specs.NamesAgree.{NamesAgree}
use Rattle.model.specs.State.{State, with_notes}
use Rattle.model.specs.Window.{steps, WindowTakes, queueing}
use Rattle.model.specs.Calls.{Account, looking, opening, freeing, closing, removing, reclaiming, placing, marking, renewing, account, slot, new_slot}
use Rattle.model.specs.Calls.{window_of, closes, deleting, undeletable, reclaimed, bad_name, no_record, not_attached, unknown_name, writing, acted, given}
use Rattle.model.specs.Calls.{logged, refusals_by, left_by, conditions, result, effect}
use Rattle.model.specs.RefusalMeans.{BadName, InUse}
use Rattle.model.specs.History.{was_accepted}
use Rattle.model.specs.NamingLaws.{GivesNumber, Resolves, Unused, Did, OfName, NeedsOpen, Deletes, EachNamed, Different, NamingLaws}
use Rattle.model.specs.Model.{Screened, screened_conditions, answer, model_after, model}
use Rattle.model.specs.Command.{Command}
use Rattle.model.specs.Command.{Begin, Write, Erase, Seal, Fork, Delete, Read, Barrier, Compress, FreeList, Estimate, Retain, Reclaim}
use Rattle.model.specs.Command.{Attach, Detach, Resolve}
use Rattle.model.proofs.TabFacts.{via_suc}
use Rattle.model.proofs.DoneSound.{spare, miss}
use Rattle.model.proofs.Waiting.{once_short}
use Rattle.model.proofs.WindowSeal.{seal_takes}
use Rattle.model.proofs.BookFacts.{Grown, erase_paged, write_paged, grow_grown, seal_grown, delete_gone}
use Rattle.model.proofs.ByNumber.{none_at, true_at, earlier_at, earlier_beyond}
use Rattle.model.proofs.CallKinds.{none_left}
use Rattle.model.proofs.NameBytes.{not_bad}
use Rattle.model.proofs.NameRows.{Carried, row_found, row?, carried_owner, row_carried, none_carried, owned_some, owned_one}
use Rattle.model.proofs.NameRows.{named_carried, off_carried, moved_carried}
use Rattle.model.proofs.NameBook.{OnRecord}
use Rattle.model.proofs.NameActions.{NamesFit}
use Rattle.model.proofs.NameCalls.{attaches, detaches}
use Rattle.model.proofs.NameRefusals.{bad_name_lem, unknown_name_lem}
use Rattle.model.proofs.Refusals.{ordered}
use Rattle.model.proofs.EachCall.{Is, is, Fits, fits}
use Rattle.model.proofs.Closing.{closing_first, seals}
use Rattle.model.proofs.Fine.{Fine, not_zero, named_slot, asks_W, effect_fine}
use Rattle.model.proofs.BirthFacts.{after_fine}
use Rattle.model.proofs.ModelFacts.{refused_iff, accepted_is}
use Rattle.model.proofs.ReadingFacts.{first, after_none, after_is}

-- the name l is on record r
abbrev pub On : State → List ℕ → ℕ → Type 0
On T l r = OnRecord T.view T.notes.titles l r

-- ── what a reply tells ──

accepts : (A : Reply) → was_accepted A ≡ true → (m : List ℕ) × (A ≡ accepted m)
accepts (accepted m) e = (m, refl)
accepts (refused n) e = absurd (false≢true e)

module _ (g : Geometry) (T : State) where
  -- a refusal is 2, 3 or 4, or the first of the call's own that is true
  own_refusal : (v : Screened) (c : Command) (n : ℕ) → v.call ≡ c → answer g T v ≡ refused n →
      (n < 5) ⊎ (Holds n (conditions g T c) × NoneBefore n (conditions g T c))
  own_refusal v c n e a =
      let (h, b) = (refused_iff g T v n).0 a in
      cases h (λ w. inl (omega (arith, w.0)))
      (λ o. cases o (λ w. inl (omega (arith, w.0)))
      (λ p. cases p (λ w. inl (omega (arith, w.0)))
      (λ q. inr (subst (λ d. Holds n (conditions g T d) × NoneBefore n (conditions g T d)) e (q, earlier_beyond (screened_conditions g T v) n b 4)))))

  -- an accepted call
  unrefused : (v : Screened) (c : Command) (m : List ℕ) → v.call ≡ c → answer g T v ≡ accepted m → NoneHolds (conditions g T c)
  unrefused v c m e a = subst (λ d. NoneHolds (conditions g T d)) e (accepted_is g T v m a).0

  -- ── 16, of any state ──

  -- the three calls of the name l look at it first
  of_name : (l : List ℕ) (c : Command) → OfName l c → (cs : List Condition) × (conditions g T c ≡ bad_name l ∷ cs) × Ordered (place 16) cs
  of_name l c (inl (r, e)) = (no_record T r ∷ not_attached T l r ∷ [], ap (conditions g T) e, (omega arith, (omega arith, tt)))
  of_name l c (inr (inl e)) = (unknown_name T l ∷ [], ap (conditions g T) e, (omega arith, tt))
  of_name l c (inr (inr e)) = (unknown_name T l ∷ [], ap (conditions g T) e, (omega arith, tt))

  bad_first : (l : List ℕ) (cs : List Condition) (n : ℕ) → Ordered (place 16) cs → BadName l →
      Holds n (bad_name l ∷ cs) → NoneBefore n (bad_name l ∷ cs) → n ≡ 16
  bad_first l cs n o b (inl w) q = sym w.0
  bad_first l cs n o b (inr h) q =
      cases (lt? (place 16) (place n))
      (λ e. absurd (false≢true (sym (q.0 e) ∙ (bad_name_lem l).1 b)))
      (λ e. absurd (none_in (place 16) n e cs o h))

  bad_16 : (v : Screened) (l : List ℕ) (n : ℕ) → OfName l v.call → BadName l → answer g T v ≡ refused n → (n < 5) ⊎ (n ≡ 16)
  bad_16 v l n i b a =
      let (cs, e, o) = of_name l v.call i in
      cases (own_refusal v v.call n refl a)
      (λ h. inl h)
      (λ w. inr (bad_first l cs n o b (subst (Holds n) e w.0) (subst (NoneBefore n) e w.1)))

  bad_not : (v : Screened) (l m : List ℕ) → OfName l v.call → BadName l → answer g T v ≡ accepted m → ⊥
  bad_not v l m i b a =
      let (cs, e, o) = of_name l v.call i in
      b (not_bad l (none_at (bad_name l ∷ cs) (subst NoneHolds e (unrefused v v.call m refl a)) 16))

  good_not : (v : Screened) (l : List ℕ) → OfName l v.call → ValidName l → answer g T v ≡ refused 16 → ⊥
  good_not v l i valid a =
      let (cs, e, o) = of_name l v.call i in
      cases (own_refusal v v.call 16 refl a)
      (λ h. let z : ⊥ = omega arith in z)
      (λ w. (bad_name_lem l).0 (true_at (bad_name l ∷ cs) 4 (omega arith, o) 16 (subst (Holds 16) e w.0)) valid)

-- ── what a call does to the names ──

-- from T to U, by the call c: nothing, or it is N, U or S
data Named (T U : State) (c : Command) : Type 0 where
  stay : ((k : List ℕ) (n : ℕ) → On U k n ↔ On T k n) → Named T U c
  put : (l : List ℕ) (r : ℕ) → c ≡ Attach l r → ((k : List ℕ) (n : ℕ) → On U k n ↔ (((l ≡ k) × (r ≡ n)) ⊎ On T k n)) → Named T U c
  take : (l : List ℕ) → c ≡ Detach l → ((k : List ℕ) (n : ℕ) → On U k n ↔ (On T k n × (k ≡ l → ⊥))) → Named T U c
  move : (r : ℕ) → c ≡ Seal r →
      ((k : List ℕ) (n : ℕ) → On U k n ↔ (((n ≡ suc T.view.last) × On T k r) ⊎ ((n ≡ r → ⊥) × On T k n))) → Named T U c

-- a name stays on its record unless it is taken off or its record sealed, and a name that is on some record was on one before or was put on it
named_stays : (T U : State) (c : Command) (l : List ℕ) (r : ℕ) → Named T U c → (c ≡ Detach l → ⊥) → (c ≡ Seal r → ⊥) → On T l r → On U l r
named_stays T U c l r (stay h) d s o = (h l r).1 o
named_stays T U c l r (put k q e h) d s o = (h l r).1 (inr o)
named_stays T U c l r (take k e h) d s o = (h l r).1 (o, λ i. d (e ∙ ap Detach (sym i)))
named_stays T U c l r (move q e h) d s o = (h l r).1 (inr (λ i. s (e ∙ ap Seal (sym i)), o))

named_was : (T U : State) (c : Command) (l : List ℕ) (r : ℕ) → Named T U c → ((q : ℕ) → c ≡ Attach l q → ⊥) → On U l r → (q : ℕ) × On T l q
named_was T U c l r (stay h) n o = (r, (h l r).0 o)
named_was T U c l r (put k q e h) n o = cases ((h l r).0 o) (λ w. absurd (n q (e ∙ ap (λ b. Attach b q) w.0))) (λ w. (r, w))
named_was T U c l r (take k e h) n o = (r, ((h l r).0 o).0)
named_was T U c l r (move q e h) n o = cases ((h l r).0 o) (λ w. (q, w.1)) (λ w. (r, w.1))

-- the rows stay, and the numbers of the slots that carry names
same_on : (K L : View) (X : Titles) → ((k : List ℕ) (s : ℕ) → Carried X k s → L.num s ≡ K.num s) → (k : List ℕ) (n : ℕ) →
    OnRecord L X k n ↔ OnRecord K X k n
same_on K L X h k n = (
  λ (w : OnRecord L X k n). let (s, c, e) = w in (s, c, sym (h k s c) ∙ e),
  λ (w : OnRecord K X k n). let (s, c, e) = w in (s, c, h k s c ∙ e),
)

-- a record that is there before an action and after it has its number
grown_num : (K L : View) (f o s : ℕ) → 0 < K.num s → Grown K L f o → L.num s ≡ K.num s
grown_num K L f o s h G = G.num s (λ e. let z : ⊥ = omega (arith, ap K.num e, G.empty) in z)

done_num : (K : View) (a : Action) → Sound K → Asks K a → (s : ℕ) → 0 < K.num s → 0 < (done K a).num s → (done K a).num s ≡ K.num s
unfolding begin fork erase delete
done_num K do_b S q s h l =
    let f : ℕ = pred (vacant K) in
    grown_num K (begin K f) f f s h (grow_grown K f 0 0 (spare K q).1)
done_num K (do_w t x b) S q s h l = (write_paged K t x b).num s
done_num K (do_e t x) S q s h l = (erase_paged K t x (K.page t x) refl).num s
done_num K (do_s t) S q s h l =
    let f : ℕ = pred (vacant K) in
    grown_num K (seal K t f) f t s h (seal_grown K t f (spare K q.2).1)
done_num K (do_f t) S q s h l =
    let f : ℕ = pred (vacant K) in
    grown_num K (fork K t f) f f s h (grow_grown K f 0 (suc t) (spare K q.2).1)
done_num K (do_d t) S q s h l =
    let G = delete_gone K t (follower K t) S refl in
    G.num s (λ e. let z : ⊥ = omega (arith, ap (delete K t).num e, G.num_s) in z)

-- a carried name is on a live slot, and is a valid one
carried_live : {K : View} {X : Titles} {names : ℕ → ℕ} → NamesAgree K X names → (l : List ℕ) (s : ℕ) → Carried X l s → 0 < K.num s
carried_live N l s c = N.live c.row s c.room c.owner

carried_valid : {K : View} {X : Titles} {names : ℕ → ℕ} → NamesAgree K X names → (l : List ℕ) (s : ℕ) → Carried X l s → ValidName l
carried_valid N l s c = subst ValidName c.text (N.valid c.row s c.room c.owner)

acts_on : (K : View) (a : Action) (X : Titles) (names then : ℕ → ℕ) → Sound K → Asks K a → NamesAgree K X names → NamesAgree (done K a) X then →
    (k : List ℕ) (n : ℕ) → OnRecord (done K a) X k n ↔ OnRecord K X k n
acts_on K a X names then S q N M = same_on K (done K a) X (λ k s c. done_num K a S q s (carried_live N k s c) (carried_live M k s c))

module _ (g : Geometry) (inside : Inside g) (T : State) (R : Fine g T) where
  abbrev K : View
  K = T.view

  abbrev X : Titles
  X = T.notes.titles

  -- N
  attached_on : (l : List ℕ) (r : ℕ) → NoneHolds (conditions g T (Attach l r)) → (k : List ℕ) (n : ℕ) →
      On (effect g T (Attach l r)) k n ↔ (((l ≡ k) × (r ≡ n)) ⊎ On T k n)
  attached_on l r none k n =
      let a = attaches T l r R.sound none in
      let named = named_carried X (pred (empty_row X)) (slot T r) l a.room a.empty k in (
        λ (w : On (effect g T (Attach l r)) k n).
            let (t, c, e) = w in
            cases ((named t).0 c)
            (λ (b : (l ≡ k) × (slot T r ≡ t)). inl (b.0, sym a.number ∙ ap K.num b.1 ∙ e))
            (λ (b : Carried X k t). inr (t, b, e)),
        λ (w : ((l ≡ k) × (r ≡ n)) ⊎ On T k n). cases w
            (λ b. (slot T r, (named (slot T r)).1 (inl (b.0, refl)), a.number ∙ b.1))
            (λ b. let (t, c, e) = b in (t, (named t).1 (inr c), e)),
      )

  -- U
  detached_on : (l : List ℕ) → NoneHolds (conditions g T (Detach l)) → (k : List ℕ) (n : ℕ) →
      On (effect g T (Detach l)) k n ↔ (On T k n × (k ≡ l → ⊥))
  detached_on l none k n =
      let i : ℕ = pred (row_of X l) in
      let (h, p, t) = row_found X l i (detaches T l none).row in
      let off = off_carried X i R.names.different h p k in (
        λ (w : On (effect g T (Detach l)) k n).
            let (u, c, e) = w in
            let (b, q) = (off u).0 c in
            ((u, b, e), λ d. q (d ∙ sym t)),
        λ (w : On T k n × (k ≡ l → ⊥)).
            let ((u, c, e), q) = w in
            (u, (off u).1 (c, λ d. q (d ∙ t)), e),
      )

  -- S
  sealed_on_lem : (r : ℕ) → NoneHolds (conditions g T (Seal r)) → (k : List ℕ) (n : ℕ) →
      On (effect g T (Seal r)) k n ↔ (((n ≡ suc T.view.last) × On T k r) ⊎ ((n ≡ r → ⊥) × On T k n))
  unfolding queueing seal
  sealed_on_lem r none k n =
      let q : ℕ = slot T r in
      let f : ℕ = new_slot T in
      let o = closing_first g T r none in
      let a = seals g inside T R r o in
      let number : K.num q ≡ r = (named_slot g inside T R r o.eight).1 in
      let J = done K (do_s q) in
      let L = steps K (closes T r) in
      let W : WindowTakes J L T.notes.names (window_of T r) q = seal_takes K q R.sound a T.notes.names (window_of T r) in
      let G : Grown K J f q = seal_grown K q f (spare K a.2).1 in
      let N = (effect_fine g inside T R (Seal r) none).names in
      -- what carries a name afterwards was not taken
      let stays : (t : ℕ) → 0 < L.num t → L.num t ≡ J.num t =
      λ t h. W.num t (λ i. let z : ⊥ = omega (arith, W.gone t i) in z) in
      let old : (t : ℕ) → 0 < K.num t → 0 < L.num t → L.num t ≡ K.num t = λ t h l. stays t l ∙ grown_num K J f q t h G in
      let new : 0 < L.num f → L.num f ≡ suc K.last = λ h. let z : L.num f ≡ suc K.last = omega (arith, stays f h, G.num_f) in z in
      let moved = moved_carried X q f k in (
        λ (w : On (effect g T (Seal r)) k n).
            let (t, c, e) = w in
            let l : 0 < L.num t = carried_live N k t c in
            cases ((moved t).0 c)
            (λ (b : (t ≡ f) × Carried X k q).
            inl (sym e ∙ ap L.num b.0 ∙ new (subst (λ u. 0 < L.num u) b.0 l), (q, b.1, number)))
            (λ (b : (t ≡ q → ⊥) × Carried X k t).
            let h = carried_live R.names k t b.1 in
            let i : K.num t ≡ n = sym (old t h l) ∙ e in
            inr (λ d. b.0 (R.sound.links.apart t q h (i ∙ d ∙ sym number)), (t, b.1, i))),
        λ (w : ((n ≡ suc K.last) × On T k r) ⊎ ((n ≡ r → ⊥) × On T k n)). cases w
            (λ b.
            let (i, (t, c, e)) = b in
            let here : t ≡ q = R.sound.links.apart t q (carried_live R.names k t c) (e ∙ sym number) in
            let d = (moved f).1 (inl (refl, subst (Carried X k) here c)) in
            (f, d, new (carried_live N k f d) ∙ sym i))
            (λ b.
            let (i, (t, c, e)) = b in
            let h = carried_live R.names k t c in
            let d = (moved t).1 (inr (λ j. i (sym e ∙ ap K.num j ∙ number), c)) in
            (t, d, old t h (carried_live N k t d) ∙ e)),
      )

  -- of a call that looks and notes
  abbrev Noted : Command → Account → Type 0
  Noted c (looking s cs res note) = NoneHolds (cs g T) → Named T (with_notes T (note T)) c
  Noted c (opening cs a) = Unit {0}
  Noted c (freeing cs a) = Unit {0}
  Noted c (closing r) = Unit {0}
  Noted c (removing r) = Unit {0}
  Noted c (reclaiming k) = Unit {0}
  Noted c (placing r x k) = Unit {0}
  Noted c marking = Unit {0}
  Noted c renewing = Unit {0}

  noted : (c : Command) → Noted c (account c)
  noted Begin = tt
  noted (Write r x k) = tt
  noted (Erase r x) = tt
  noted (Seal r) = tt
  noted (Fork r) = tt
  noted (Delete r) = tt
  noted (Read r x) = λ none. stay (λ k n. (λ w. w, λ w. w))
  noted Barrier = tt
  noted Compress = tt
  noted FreeList = λ none. stay (λ k n. (λ w. w, λ w. w))
  noted (Estimate r) = λ none. stay (λ k n. (λ w. w, λ w. w))
  noted (Retain r m) = λ none. stay (λ k n. (λ w. w, λ w. w))
  noted (Reclaim k) = tt
  noted (Attach l r) = λ none. put l r refl (attached_on l r none)
  noted (Detach l) = λ none. take l refl (detached_on l none)
  noted (Resolve l) = λ none. stay (λ k n. (λ w. w, λ w. w))

  named_by : (c : Command) (A : Account) → Is c A → Fits g T c A → Noted c A → NamesFit (left_by g T A).view (left_by g T A).notes →
      NoneHolds (refusals_by g T A) → Named T (left_by g T A) c
  unfolding acted given logged queueing reclaimed steps
  named_by c (looking s cs res note) i f m N none = m none
  named_by c (opening cs a) i f m N none = stay (acts_on K (a T) X T.notes.names _ R.sound (f none).asks R.names N)
  named_by c (freeing cs a) i f m N none =
      stay (acts_on K (a T) X T.notes.names _ R.sound (f (none_left (cs g T) _ none)).asks R.names N)
  named_by c (closing r) i f m N none = move r i (sealed_on_lem r none)
  named_by c (removing r) i f m N none = stay (acts_on K (deleting T r) X T.notes.names _ R.sound (f none).asks R.names N)
  named_by c (reclaiming k) i f m N none = stay (λ k n. (λ w. w, λ w. w))
  named_by c (placing r x k) i f m N none =
      stay (acts_on K (writing g T r x k) X T.notes.names _ R.sound (asks_W g inside T R r x k none) R.names N)
  named_by c marking i f m N none = stay (λ k n. (λ w. w, λ w. w))
  named_by c renewing i f m N none = stay (λ k n. (λ w. w, λ w. w))

  -- WHAT AN ACCEPTED CALL DOES TO THE NAMES
  call_named : (c : Command) → NoneHolds (conditions g T c) → Named T (effect g T c) c
  call_named c none = named_by c (account c) (is c) (fits g inside T R c) (noted c) (effect_fine g inside T R c none).names none

  -- ── what M answers ──

  in_use : (l : List ℕ) (r : ℕ) → On T l r → InUse T l
  in_use l r (s, c, e) = (s, (c.row, c.room, c.owner, c.text))

  resolves : (l : List ℕ) (r : ℕ) → On T l r → Resolves (model g) T l r
  resolves l r (s, c, e) = record {
    gives = λ v m i a.
        sym (accepted_is g T v m a).1 ∙ ap (result g T) i ∙
        ap (λ k. via K.num k ∷ []) (carried_owner X l R.names.different s c) ∙ ap (λ n. n ∷ []) (via_suc K.num s ∙ e);
    there = λ v n i a. cases (own_refusal g T v (Resolve l) n i a) (λ h. h) (λ w. absurd (never n w.0));
  }
    where
      never : (n : ℕ) → Holds n (conditions g T (Resolve l)) → ⊥
      never n (inl w) = (bad_name_lem l).0 w.1 (carried_valid R.names l s c)
      never n (inr (inl w)) = (unknown_name_lem T l).0 w.1 (in_use l r (s, c, e))
      never n (inr (inr w)) = w

  -- a valid name that is on no record
  unused : (l : List ℕ) → ValidName l → ((r : ℕ) → On T l r → ⊥) → Unused (model g) T l
  unused l valid none = record {
    none = λ v m i a.
        let past = none_at (conditions g T (Resolve l)) (unrefused g T v (Resolve l) m i a) in
        cases (row? X l)
        (λ w. let (s, c) = row_carried X l w.0 w.1 in none (K.num s) (s, c, refl))
        (λ e. let z : ⊥ = omega (arith, not_zero (row_of X l) (past 17)) in z);
    seventeen = λ v n i a. cases (own_refusal g T v (Resolve l) n i a) (λ h. inl h) (λ w. inr (only n w.0));
  }
    where
      only : (n : ℕ) → Holds n (conditions g T (Resolve l)) → n ≡ 17
      only n (inl w) = absurd ((bad_name_lem l).0 w.1 valid)
      only n (inr (inl w)) = sym w.0
      only n (inr (inr w)) = absurd w

  -- and the other way round
  asked_on : (v : Screened) (l : List ℕ) (r : ℕ) → v.call ≡ Resolve l → answer g T v ≡ accepted (r ∷ []) → On T l r
  asked_on v l r i a =
      let past = none_at (conditions g T (Resolve l)) (unrefused g T v (Resolve l) (r ∷ []) i a) in
      cases (row? X l)
      (λ w.
      let (s, c) = row_carried X l w.0 w.1 in
      let d : K.num s ∷ [] ≡ r ∷ [] = sym ((resolves l (K.num s) (s, c, refl)).gives v (r ∷ []) i a) in
      (s, c, first (K.num s) r [] [] d))
      (λ e. absurd (let z : ⊥ = omega (arith, not_zero (row_of X l) (past 17)) in z))

  refused_17 : (v : Screened) (l : List ℕ) → v.call ≡ Resolve l → answer g T v ≡ refused 17 → ValidName l × ((r : ℕ) → On T l r → ⊥)
  refused_17 v l i a =
      cases (own_refusal g T v (Resolve l) 17 i a)
      (λ h. absurd (let z : ⊥ = omega arith in z))
      (λ w. (
        not_bad l (earlier_at (conditions g T (Resolve l)) 17 w.1 16 (omega arith)),
        λ r o. (unknown_name_lem T l).0 (true_at (conditions g T (Resolve l)) 4 (ordered g T (Resolve l)) 17 w.0) (in_use l r o),
      ))

  -- ── a record that has a name ──

  -- it is there, and its slot is the one that its number leads to
  named_there : (l : List ℕ) (r : ℕ) → On T l r → (eqb (slot_of K r) 0 ≡ false) × Carried X l (slot T r)
  unfolding slot_of
  named_there l r (s, c, e) =
      let h = carried_live R.names l s c in
      let there : eqb (slot_of K r) 0 ≡ false = cases (either (eqb (slot_of K r) 0))
      (λ y. absurd (miss K R.sound K.num r (eqb-true (slot_of K r) 0 y) s h e)) (λ n. n) in
      let (live, number) = named_slot g inside T R r there in
      (there, subst (Carried X l) (R.sound.links.apart s (slot T r) h (e ∙ sym number)) c)

  -- it has a count
  named_counted : (l : List ℕ) (r : ℕ) → On T l r → 0 < T.notes.names (slot T r)
  named_counted l r o =
      let c = (named_there l r o).1 in
      omega (arith, R.names.counted (slot T r) (carried_live R.names l (slot T r) c), owned_some X (slot T r) c.row c.room c.owner)

  -- two names on an open record are one
  open_one_lem : (l k : List ℕ) (r : ℕ) → On T l r → On T k r → 0 < K.is_open (slot T r) → l ≡ k
  open_one_lem l k r o p h =
      let s : ℕ = slot T r in
      let c = (named_there l r o).1 in
      let d = (named_there k r p).1 in
      let live = carried_live R.names l s c in
      let few = R.names.open_one s live h in
      let same = owned_one X s (omega (arith, R.names.counted s live, few)) c.row d.row c.room d.room c.owner d.owner in
      sym c.text ∙ ap X.text same ∙ d.text

  by_9 : (r : ℕ) → eqb (K.is_open (slot T r)) 0 ≡ false → 0 < K.is_open (slot T r)
  by_9 r e = not_zero (K.is_open (slot T r)) e

  needs_open : (r : ℕ) (c : Command) → NeedsOpen r c → NoneHolds (conditions g T c) → 0 < K.is_open (slot T r)
  needs_open r c (inl (x, k, e)) n = by_9 r (none_at (conditions g T (Write r x k)) (subst (λ d. NoneHolds (conditions g T d)) e n) 9)
  needs_open r c (inr (inl (x, e))) n = by_9 r (none_at (conditions g T (Erase r x)) (subst (λ d. NoneHolds (conditions g T d)) e n) 9)
  needs_open r c (inr (inr (inl e))) n = by_9 r (none_at (conditions g T (Seal r)) (subst (λ d. NoneHolds (conditions g T d)) e n) 9)
  needs_open r c (inr (inr (inr (m, e)))) n = by_9 r (none_at (conditions g T (Retain r m)) (subst (λ d. NoneHolds (conditions g T d)) e n) 9)

  -- 8 of a named record
  not_8 : (v : Screened) (l : List ℕ) (r x : ℕ) → On T l r → v.call ≡ Read r x → answer g T v ≡ refused 8 → ⊥
  not_8 v l r x o e a =
      cases (own_refusal g T v (Read r x) 8 e a)
      (λ h. let z : ⊥ = omega arith in z)
      (λ w. false≢true (sym (named_there l r o).0 ∙ true_at (conditions g T (Read r x)) 4 (ordered g T (Read r x)) 8 w.0))

  -- D and Q of it
  deletes_18 : (l : List ℕ) (r : ℕ) (c : Command) → On T l r → Deletes r c → (n : ℕ) → Holds n (conditions g T c) → (n ≡ 10) ⊎ (n ≡ 18)
  deletes_18 l r c o d n h = cases d (λ e. told (Delete r) e refl) (λ e. told (Estimate r) e refl)
    where
      ten_or_18 : Holds n (undeletable T r) → (n ≡ 10) ⊎ (n ≡ 18)
      ten_or_18 (inl w) = absurd (false≢true (sym (named_there l r o).0 ∙ w.1))
      ten_or_18 (inr (inl w)) = inl (sym w.0)
      ten_or_18 (inr (inr (inl w))) = inr (sym w.0)
      ten_or_18 (inr (inr (inr w))) = absurd w

      told : (d : Command) → c ≡ d → conditions g T d ≡ undeletable T r → (n ≡ 10) ⊎ (n ≡ 18)
      told d e i = ten_or_18 (subst (Holds n) (ap (conditions g T) e ∙ i) h)

  never_deleted : (l : List ℕ) (r : ℕ) (c : Command) → On T l r → Deletes r c → NoneHolds (conditions g T c) → ⊥
  never_deleted l r c o (inl e) n =
      let free = none_at (conditions g T (Delete r)) (subst (λ d. NoneHolds (conditions g T d)) e n) 18 in
      let z : ⊥ = omega (arith, ltb-false 0 (T.notes.names (slot T r)) free, named_counted l r o) in z
  never_deleted l r c o (inr e) n =
      let free = none_at (conditions g T (Estimate r)) (subst (λ d. NoneHolds (conditions g T d)) e n) 18 in
      let z : ⊥ = omega (arith, ltb-false 0 (T.notes.names (slot T r)) free, named_counted l r o) in z

  -- ── at most 32 names ──

  -- a row for each name
  abbrev rows_for : List (List ℕ) → List ℕ
  rows_for [] = []
  rows_for (l ∷ ls) = pred (row_of X l) ∷ rows_for ls

  rows_length : (ls : List (List ℕ)) → length (rows_for ls) ≡ length ls
  rows_length [] = refl
  rows_length (l ∷ ls) = ap suc (rows_length ls)

  abbrev Used : List ℕ → Type 0
  Used l = (r : ℕ) × On T l r

  row_for : (l : List ℕ) → Used l → (pred (row_of X l) < 32) × (X.text (pred (row_of X l)) ≡ l)
  row_for l u =
      cases (row? X l)
      (λ w.
      let (i, e) = w in
      let (h, p, t) = row_found X l i e in
      let d : pred (row_of X l) ≡ i = omega arith in
      (omega arith, ap X.text d ∙ t))
      (λ e. let (r, (s, c, d)) = u in absurd (none_carried X l e s c))

  -- a row of theirs has one of their names
  row_of_lem : (ls : List (List ℕ)) → EachNamed Used ls → (i : ℕ) → In i (rows_for ls) → (i < 32) × (EachNamed (λ k. k ≡ X.text i → ⊥) ls → ⊥)
  row_of_lem [] u i h = absurd h
  row_of_lem (l ∷ ls) (u, us) i (inl e) =
      let (h, t) = row_for l u in
      (omega arith, λ n. n.0 (sym t ∙ ap X.text (sym e)))
  row_of_lem (l ∷ ls) (u, us) i (inr m) = let (h, n) = row_of_lem ls us i m in (h, λ w. n w.1)

  rows_once : (ls : List (List ℕ)) → Different ls → EachNamed Used ls → Once (rows_for ls)
  rows_once [] d u = tt
  rows_once (l ∷ ls) (n, d) (u, us) = (
    λ i m e. (row_of_lem ls us i m).1 (subst (λ t. EachNamed (λ k. k ≡ t → ⊥) ls) (sym (row_for l u).1 ∙ ap X.text e) n),
    rows_once ls d us,
  )

  few_names : (ls : List (List ℕ)) → Different ls → EachNamed Used ls → length ls ≤ 32
  few_names ls d u = omega (arith, rows_length ls, once_short (rows_for ls) 32 (rows_once ls d u) (λ i m. (row_of_lem ls u i m).0))

  -- ── after a call ──

  -- an accepted call d
  did : (c : Screened) (d : Command) → Did (model g) T c d → (model_after g T c ≡ effect g T d) × NoneHolds (conditions g T d)
  did c d (e, w) =
      let (m, a) = accepts (answer g T c) w in
      let (i, none, q) = after_is g inside T R c d m e a in
      (i, none)

  stays_on : (c : Screened) (l : List ℕ) (r : ℕ) → (Did (model g) T c (Detach l) → ⊥) → (Did (model g) T c (Seal r) → ⊥) → On T l r →
      On (model_after g T c) l r
  stays_on c l r d s o = go (answer g T c) refl
    where
      go : (A : Reply) → answer g T c ≡ A → On (model_after g T c) l r
      go (refused n) e = subst (λ U. On U l r) (sym (after_none g T c n e)) o
      go (accepted m) e =
          let (i, none) = did c c.call (refl, ap was_accepted e) in
          subst (λ U. On U l r) (sym i)
          (named_stays T (effect g T c.call) c.call l r (call_named c.call none) (λ j. d (j, ap was_accepted e)) (λ j. s (j, ap was_accepted e)) o)

  was_on : (c : Screened) (l : List ℕ) (r : ℕ) → ((q : ℕ) → Did (model g) T c (Attach l q) → ⊥) → On (model_after g T c) l r → (q : ℕ) × On T l q
  was_on c l r n o = go (answer g T c) refl
    where
      go : (A : Reply) → answer g T c ≡ A → (q : ℕ) × On T l q
      go (refused m) e = (r, subst (λ U. On U l r) (after_none g T c m e) o)
      go (accepted m) e =
          let (i, none) = did c c.call (refl, ap was_accepted e) in
          named_was T (effect g T c.call) c.call l r (call_named c.call none) (λ q j. n q (j, ap was_accepted e)) (subst (λ U. On U l r) i o)

-- of each name of a list
pub each_named : {P Q : List ℕ → Type 0} → ((l : List ℕ) → P l → Q l) → (ls : List (List ℕ)) → EachNamed P ls → EachNamed Q ls
each_named f [] u = tt
each_named f (l ∷ ls) u = (f l u.0, each_named f ls u.1)

-- THE NAMING LAWS, of any state that the calls keep
pub naming_laws : (g : Geometry) → Inside g → (T : State) → Fine g T → NamingLaws (model g) T
naming_laws g inside T R =
    let next : (c : Screened) → Fine g (model_after g T c) = after_fine g inside T R in
    let on : (l : List ℕ) (r : ℕ) → GivesNumber (model g) T l r → On T l r =
    λ l r A. let (v, e, a) = A in asked_on g inside T R v l r e a in
    record {
      attached = λ c l r d.
          let (i, none) = did g inside T R c (Attach l r) d in
          resolves g inside (model_after g T c) (next c) l r
          (subst (λ U. On U l r) (sym i) ((attached_on g inside T R l r none l r).1 (inl (refl, refl))));
      detached = λ c l d.
          let (i, none) = did g inside T R c (Detach l) d in
          unused g inside (model_after g T c) (next c) l (not_bad l (none_at (conditions g T (Detach l)) none 16))
          (λ r o. ((detached_on g inside T R l none l r).0 (subst (λ U. On U l r) i o)).1 refl);
      sealed = λ c l r n rest e a A.
          let (i, none, q) = after_is g inside T R c (Seal r) (n ∷ rest) e a in
          let m = first (suc T.view.last) n [] rest q in
          resolves g inside (model_after g T c) (next c) l n
          (subst (λ U. On U l n) (sym i) ((sealed_on_lem g inside T R r none l n).1 (inl (sym m, on l r A))));
      stays = λ c l r A d s. resolves g inside (model_after g T c) (next c) l r (stays_on g inside T R c l r d s (on l r A));
      unused = λ c v l e a n.
          let (valid, none) = refused_17 g inside T R v l e a in
          unused g inside (model_after g T c) (next c) l valid (λ r o. let (q, w) = was_on g inside T R c l r n o in none q w);
      there = λ v l r x A e a. not_8 g inside T R v l r x (on l r A) e a;
      bad = bad_16 g T;
      bad_never = bad_not g T;
      good = good_not g T;
      in_use = λ v l r q m A e a.
          let (s, c, d) = on l r A in
          none_carried T.notes.titles l (attaches T l q R.sound (unrefused g T v (Attach l q) m e a)).unused s c;
      second = λ v l k r m A B n o a.
          n (open_one_lem g inside T R l k r (on l r A) (on k r B) (needs_open g inside T R r v.call o (unrefused g T v v.call m refl a)));
      few = λ ls d u. few_names g inside T R ls d (each_named (λ l w. (w.0, on l w.0 w.1)) ls u);
      unknown = λ v w l m ew aw e a.
          let i = (detaches T l (unrefused g T v (Detach l) m e a)).row in
          let (s, c) = row_carried T.notes.titles l (pred (row_of T.notes.titles l)) i in
          (refused_17 g inside T R w l ew aw).1 (T.view.num s) (s, c, refl);
      named = λ v l r n A d a.
          cases (own_refusal g T v v.call n refl a) (λ h. inl h) (λ w. inr (deletes_18 g inside T R l r v.call (on l r A) d n w.0));
      named_never = λ v l r m A d a. never_deleted g inside T R l r v.call (on l r A) d (unrefused g T v v.call m refl a);
    }
