-- The reading laws, of the model: what a record's page reads after any calls that do not touch it. The statement is `ReadingLaws` in specs/ReadingLaws.antt.
use mathlib.Core.Path.{◌≡◌, refl, sym, ap, ◌∙◌, subst}
use mathlib.Core.Logic.{◌⊎◌, inl, inr}
use mathlib.Core.List.{List, [], ◌∷◌}
use Prim.Native.Nat.{ℕ, suc, pred, ◌≤◌, ◌<◌}
use native.Mathlib.Omega.{arith}
use lib.ListN.{get_or}
use borrow.Author.Tests.{leb-true, leb-false, eqb-true}
use Rattle.answer.specs.Reply.{Reply, accepted, refused}
use Rattle.answer.specs.Refusal.{Holds, NoneHolds}
use Rattle.answer.proofs.Cases.{cases, same?}
use Rattle.geometry.specs.declared.Geometry.{Geometry}
use Rattle.geometry.specs.Limits.{Inside}
use Rattle.model.specs.View.{View}
use Rattle.model.specs.Lists.{In, on_page}
use Rattle.model.specs.Results.{paired}
use Rattle.model.specs.Sound.{Sound}
use Rattle.model.specs.Effects.{grow, close, begin, seal, fork, erase, write}
use Rattle.model.specs.Actions.{Action, do_b, do_w, do_e, do_s, do_f, do_d, Asks, done, follower, vacant, slot_of, delete}
use Rattle.model.specs.State.{State}
use Rattle.model.specs.Window.{steps, sealing, victims, WindowTakes, queueing}
use Rattle.model.specs.Calls.{Account, looking, opening, freeing, closing, removing, reclaiming, placing, marking, renewing, account}
use Rattle.model.specs.Calls.{slot, block, writing, deleting, window_of, closes, reclaimed, acted, given, logged}
use Rattle.model.specs.Calls.{refusals_by, left_by, conditions, result, effect}
use Rattle.model.specs.History.{state_from, was_accepted}
use Rattle.model.specs.ReadingLaws.{Shows, Changes, Lost, Seals, Touches, ShowsFrom, Opens, ReadingLaws}
use Rattle.model.specs.Model.{Screened, answer, keep_or, model_after, model}
use Rattle.model.specs.Command.{Command}
use Rattle.model.specs.Command.{Begin, Write, Erase, Seal, Fork, Delete, Read}
use Rattle.model.proofs.ListFacts.{in?}
use Rattle.model.proofs.DoneSound.{spare, miss, done_sound}
use Rattle.model.proofs.WindowMoves.{steps_birth}
use Rattle.model.proofs.WindowSeal.{seal_takes, seal_steps_sound, seal_num}
use Rattle.model.proofs.Closing.{closing_first, seals, closing_giveless, closing_last}
use Rattle.model.proofs.BookFacts.{Repaged, Grown, Gone, erase_paged, write_paged, grow_grown, seal_grown, delete_gone}
use Rattle.model.proofs.BookFacts.{begin_pages, seal_pages, fork_pages}
use Rattle.model.proofs.BirthStays.{held_birth, write_birth}
use Rattle.model.proofs.BirthFacts.{after_fine}
use Rattle.model.proofs.ByNumber.{none_at}
use Rattle.model.proofs.CallKinds.{none_left}
use Rattle.model.proofs.EachCall.{named, Is, is, Fits, fits}
use Rattle.model.proofs.Fine.{Fine, slot_named, not_zero, named_slot, asks_W, asks_F, effect_view, effect_fine}
use Rattle.model.proofs.ModelFacts.{refused_iff, accepted_is}
use Rattle.model.proofs.SealedPages.{Forward, Births, same_forward, done_forward, steps_forward, reads, same_read}

-- record r stands in slot s of K, and its page x reads l
record Stands (K : View) (r s x : ℕ) (l : List ℕ) : Type 0 where
  live : 0 < K.num s
  number : K.num s ≡ r
  page : l ≡ paired K.birth (on_page (K.page s x))

-- from K to L neither the slot's number nor its page x changes
record Same (K L : View) (s x : ℕ) : Type 0 where
  num : L.num s ≡ K.num s
  page : L.page s x ≡ K.page s x

same_view : (K : View) (s x : ℕ) → Same K K s x
same_view K s x = record { num = refl; page = refl }

same_grown : (K L : View) (f o s x : ℕ) → 0 < K.num s → Grown K L f o → Same K L s x
same_grown K L f o s x h G =
    let n : s ≡ f → ⊥ = λ e. let z : ⊥ = omega (arith, ap K.num e, G.empty) in z in
    record { num = G.num s n; page = G.page s x n }

same_paged : (K L : View) (s x t y v : ℕ) → (s ≡ t → x ≡ y → ⊥) → Repaged K L t y v → Same K L s x
same_paged K L s x t y v n R = record { num = R.num s; page = R.other s x n }

same_gone : (K L : View) (s x t : ℕ) → (s ≡ t → ⊥) → Gone K L t → Same K L s x
same_gone K L s x t n G = record { num = G.num s n; page = G.page s x }

-- an action that is no write or erasure of page x of record r, and no deletion of r
abbrev Misses : View → ℕ → ℕ → Action → Type 0
Misses K r x do_b = Unit {0}
Misses K r x (do_w t y b) = K.num t ≡ r → y ≡ x → ⊥
Misses K r x (do_e t y) = K.num t ≡ r → y ≡ x → ⊥
Misses K r x (do_s t) = Unit {0}
Misses K r x (do_f t) = Unit {0}
Misses K r x (do_d t) = K.num t ≡ r → ⊥

done_same : (K : View) (a : Action) → Sound K → Asks K a → (r s x : ℕ) → 0 < K.num s → K.num s ≡ r → Misses K r x a → Same K (done K a) s x
unfolding begin fork erase delete
done_same K do_b S vacancy r s x h e m =
    let (room, empty) = spare K vacancy in
    let f : ℕ = pred (vacant K) in
    same_grown K (begin K f) f f s x h (grow_grown K f 0 0 empty)
done_same K (do_w t y b) S q r s x h e m =
    same_paged K (write K t y b) s x t y (suc b) (λ d j. m (ap K.num (sym d) ∙ e) (sym j)) (write_paged K t y b)
done_same K (do_e t y) S q r s x h e m =
    same_paged K (erase K t y) s x t y 0 (λ d j. m (ap K.num (sym d) ∙ e) (sym j)) (erase_paged K t y (K.page t y) refl)
done_same K (do_s t) S (live, is_open, vacancy) r s x h e m =
    let (room, empty) = spare K vacancy in
    let f : ℕ = pred (vacant K) in
    same_grown K (seal K t f) f t s x h (seal_grown K t f empty)
done_same K (do_f t) S (live, is_sealed, vacancy) r s x h e m =
    let (room, empty) = spare K vacancy in
    let f : ℕ = pred (vacant K) in
    same_grown K (fork K t f) f f s x h (grow_grown K f 0 (suc t) empty)
done_same K (do_d t) S q r s x h e m =
    same_gone K (delete K t) s x t (λ d. m (ap K.num (sym d) ∙ e)) (delete_gone K t (follower K t) S refl)

-- the block on the page keeps its birth, as long as it is there
stands_on : (K L : View) (r s x : ℕ) (l : List ℕ) → Sound K → Sound L → Births K L → Same K L s x → Stands K r s x l → Stands L r s x l
stands_on K L r s x l G H B E S =
    let h : 0 < L.num s = omega (arith, E.num, S.live) in
    record {
      live = h;
      number = E.num ∙ S.number;
      page = S.page
          ∙ same_read K L (K.page s x) (λ b i. B b (G.paged s x b S.live i).born (H.paged s x b h (E.page ∙ i)).born)
          ∙ ap (λ p. paired L.birth (on_page p)) (sym E.page);
    }

-- no record has number r
abbrev Absent : View → ℕ → Type 0
Absent K r = (t : ℕ) → 0 < K.num t → K.num t ≡ r → ⊥

-- what S does, with the deletes of a window of n, to another record: it leaves its number and its page, or takes it
sealing_same : (K : View) (names : ℕ → ℕ) (q n : ℕ) → Sound K → Asks K (do_s q) → (r s x : ℕ) → 0 < K.num s → K.num s ≡ r →
    Same K (steps K (sealing K names n q)) s x ⊎ Absent (steps K (sealing K names n q)) r
sealing_same K names q n S a r s x h e =
    let J = done K (do_s q) in
    let L = steps K (sealing K names n q) in
    let W : WindowTakes J L names n q = seal_takes K q S a names n in
    let D : Same K J s x = done_same K (do_s q) S a r s x h e tt in
    let sound = done_sound K (do_s q) S a in
    cases (in? s (victims J names n q))
    (λ i. inr (λ t k j.
    let away : In t (victims J names n q) → ⊥ = λ m. let z : ⊥ = omega (arith, W.gone t m) in z in
    let same = W.num t away in
    let here : t ≡ s = sound.links.apart t s (omega (arith, same)) (sym same ∙ j ∙ sym e ∙ sym D.num) in
    let z : ⊥ = omega (arith, ap L.num here, W.gone s i) in z))
    (λ m. inl (record { num = W.num s m ∙ D.num; page = W.page s x ∙ D.page }))

-- the number that a result begins with
pub first : (n m : ℕ) (k l : List ℕ) → n ∷ k ≡ m ∷ l → n ≡ m
first n m k l e = ap (λ a. get_or a 0 0) e

-- a refused call leaves all
pub after_none : (g : Geometry) (T : State) (i : Screened) (n : ℕ) → answer g T i ≡ refused n → model_after g T i ≡ T
unfolding model_after
after_none g T i n e = ap (λ A. keep_or A T (effect g T i.call)) e

-- S is no W, E or D
sealed_changes : (q r x : ℕ) → Changes r x (Seal q) → ⊥
sealed_changes q r x (inl (k, e)) = let z : ◌≡◌ {A = ℕ} 0 1 = cc in omega arith
sealed_changes q r x (inr (inl e)) = let z : ◌≡◌ {A = ℕ} 0 1 = cc in omega arith
sealed_changes q r x (inr (inr e)) = let z : ◌≡◌ {A = ℕ} 0 1 = cc in omega arith

module _ (g : Geometry) (inside : Inside g) where
  module _ (T : State) (R : Fine g T) where
    abbrev K : View
    K = T.view

    -- ── one call ──

    -- what an accepted call does: nothing to the tables, or an action that misses the page
    missed : (r x : ℕ) (c : Command) (a : Action) → named T.view a ≡ c → (Changes r x c → ⊥) → Misses T.view r x a
    missed r x c do_b i n = tt
    missed r x c (do_w t y b) i n = λ e j. n (inl (0, sym i ∙ ap (λ q. Write q y 0) e ∙ ap (λ z. Write r z 0) j))
    missed r x c (do_e t y) i n = λ e j. n (inr (inl (sym i ∙ ap (λ q. Erase q y) e ∙ ap (Erase r) j)))
    missed r x c (do_s t) i n = tt
    missed r x c (do_f t) i n = tt
    missed r x c (do_d t) i n = λ e. n (inr (inr (sym i ∙ ap Delete e)))

    -- a call that does not touch the page, nor delete its record
    same_by : (c : Command) (A : Account) → Is c A → Fits g T c A → NoneHolds (refusals_by g T A) → (r s x : ℕ) → 0 < T.view.num s → T.view.num s ≡ r →
        (Changes r x c → ⊥) → Same T.view (left_by g T A).view s x ⊎ (Seals c × Absent (left_by g T A).view r)
    unfolding logged given acted queueing reclaimed steps
    same_by c (looking p cs res note) i f n r s x h e a = inl (same_view K s x)
    same_by c (opening cs act) i f n r s x h e a =
        let does = f n in
        inl (done_same K (act T) R.sound does.asks r s x h e (missed r x c (act T) does.name a))
    same_by c (freeing cs act) i f n r s x h e a =
        let does = f (none_left (cs g T) _ n) in
        inl (done_same K (act T) R.sound does.asks r s x h e (missed r x c (act T) does.name a))
    same_by c (closing q) i f n r s x h e a =
        cases (sealing_same K T.notes.names (slot T q) (window_of T q) R.sound (seals g inside T R q (closing_first g T q n)) r s x h e)
        (λ d. inl d) (λ d. inr ((q, i), d))
    same_by c (removing q) i f n r s x h e a =
        let does = f n in
        inl (done_same K (deleting T q) R.sound does.asks r s x h e (missed r x c (deleting T q) does.name a))
    same_by c (reclaiming k) i f n r s x h e a = inl (same_view K s x)
    same_by c (placing q y k) i f n r s x h e a =
        let at = (named_slot g inside T R q (none_at (conditions g T (Write q y k)) n 8)).1 in
        inl (done_same K (writing g T q y k) R.sound (asks_W g inside T R q y k n) r s x h e
        (λ d j. a (inl (k, i ∙ ap (λ u. Write u y k) (sym at ∙ d) ∙ ap (λ u. Write r u k) j))))
    same_by c marking i f n r s x h e a = inl (same_view K s x)
    same_by c renewing i f n r s x h e a = inl (same_view K s x)

    call_same : (c : Command) → NoneHolds (conditions g T c) → (r s x : ℕ) → 0 < T.view.num s → T.view.num s ≡ r →
        (Changes r x c → ⊥) → Same T.view (effect g T c).view s x ⊎ (Seals c × Absent (effect g T c).view r)
    call_same c n r s x h e a = same_by c (account c) (is c) (fits g inside T R c) n r s x h e a

    call_births : (c : Command) → NoneHolds (conditions g T c) → Births T.view (effect g T c).view
    call_births c n =
        cases (effect_view g inside T R c n)
        (λ w. subst (Births T.view) (sym w.2) (held_birth T.view w.0 w.1))
        (λ w. subst (Births T.view) (sym w.3) (λ b h k. steps_birth T.view w.0 w.2 b k))

    call_forward : (c : Command) → NoneHolds (conditions g T c) → Forward T.view (effect g T c).view
    call_forward c n =
        cases (effect_view g inside T R c n)
        (λ w. subst (Forward T.view) (sym w.2) (done_forward T.view w.0 R.sound w.1))
        (λ w. subst (Forward T.view) (sym w.3) (steps_forward w.0 T.view R.sound w.1))

    next_forward : (i : Screened) → Forward T.view (model_after g T i).view
    unfolding model_after
    next_forward i = go (answer g T i) refl
      where
        go : (A : Reply) → answer g T i ≡ A → Forward T.view (keep_or A T (effect g T i.call)).view
        go (refused m) e = same_forward T.view
        go (accepted m) e = call_forward i.call (accepted_is g T i m e).0

    -- ── a reading ──

    shows : (r s x : ℕ) (l : List ℕ) → x < g.pages → Stands T.view r s x l → Shows (model g) T r x l
    unfolding slot_of
    shows r s x l hx S = record {
      gives = λ v m c a.
          let (h, e) = reads g T v r x m c a in
          let (ht, et) = slot_named T.view R.sound r h in
          let here : slot T r ≡ s = R.sound.links.apart (slot T r) s ht (et ∙ sym S.number) in
          e ∙ ap (λ t. paired T.view.birth (on_page (T.view.page t x))) here ∙ sym S.page;
      there = λ v n c a. cases ((refused_iff g T v n).0 a).0 (λ w. omega (arith, w.0))
          (λ o. cases o (λ w. omega (arith, w.0))
          (λ p. cases p (λ w. omega (arith, w.0))
          (λ q. absurd (not_refused n (subst (λ d. Holds n (conditions g T d)) c q)))));
    }
      where
        not_refused : (n : ℕ) → Holds n (conditions g T (Read r x)) → ⊥
        not_refused n (inl w) = omega (arith, leb-true g.pages x w.1)
        not_refused n (inr (inl w)) = miss T.view R.sound T.view.num r (eqb-true (slot_of T.view r) 0 w.1) s S.live S.number
        not_refused n (inr (inr w)) = w

    -- where no record has number r, R r x is refused with 8
    lost : (r x : ℕ) → x < g.pages → Absent T.view r → Lost (model g) T r x
    lost r x hx n = record {
      unread = λ v m c a.
          let (h, e) = reads g T v r x m c a in
          let (ht, et) = slot_named T.view R.sound r h in
          n (slot T r) ht et;
      eight = λ v m c a. cases ((refused_iff g T v m).0 a).0 (λ w. inl (omega (arith, w.0)))
          (λ o. cases o (λ w. inl (omega (arith, w.0)))
          (λ p. cases p (λ w. inl (omega (arith, w.0)))
          (λ q. inr (only_8 m (subst (λ d. Holds m (conditions g T d)) c q)))));
    }
      where
        only_8 : (m : ℕ) → Holds m (conditions g T (Read r x)) → m ≡ 8
        only_8 m (inl w) = absurd (let z : ⊥ = omega (arith, leb-true g.pages x w.1) in z)
        only_8 m (inr (inl w)) = sym w.0
        only_8 m (inr (inr w)) = absurd w

    -- and the other way round
    absent : (v : Screened) (r x : ℕ) → v.call ≡ Read r x → answer g T v ≡ refused 8 → Absent T.view r
    unfolding slot_of
    absent v r x c a t h e =
        cases ((refused_iff g T v 8).0 a).0 (λ w. let z : ⊥ = omega (arith, w.0) in z)
        (λ o. cases o (λ w. let z : ⊥ = omega (arith, w.0) in z)
        (λ p. cases p (λ w. let z : ⊥ = omega (arith, w.0) in z)
        (λ q. not_there (subst (λ d. Holds 8 (conditions g T d)) c q))))
      where
        not_there : Holds 8 (conditions g T (Read r x)) → ⊥
        not_there (inl w) = omega (arith, w.0)
        not_there (inr (inl w)) = miss T.view R.sound T.view.num r (eqb-true (slot_of T.view r) 0 w.1) t h e
        not_there (inr (inr w)) = w

    -- an accepted reading: where the record stands
    standing : (v : Screened) (r x : ℕ) (l : List ℕ) → v.call ≡ Read r x → answer g T v ≡ accepted l → (x < g.pages) × Stands T.view r (slot T r) x l
    standing v r x l c a =
        let (h, e) = reads g T v r x l c a in
        let (ht, et) = slot_named T.view R.sound r h in
        let met = subst (λ d. NoneHolds (conditions g T d)) c (accepted_is g T v l a).0 in
        (leb-false g.pages x (none_at (conditions g T (Read r x)) met 5), record { live = ht; number = et; page = e })

    -- what an accepted call leaves, and what it met
    pub after_is : (i : Screened) (c : Command) (l : List ℕ) → i.call ≡ c → answer g T i ≡ accepted l →
        (model_after g T i ≡ effect g T c) × NoneHolds (conditions g T c) × (result g T c ≡ l)
    unfolding model_after
    after_is i c l e a =
        let (n, q) = accepted_is g T i l a in
        (ap (λ A. keep_or A T (effect g T i.call)) a ∙ ap (effect g T) e, subst (λ d. NoneHolds (conditions g T d)) e n, sym (ap (result g T) e) ∙ q)

    -- an accepted call that does not change the page leaves it, or is an S that takes its record
    moved : (i : Screened) (m : List ℕ) (r s x : ℕ) (l : List ℕ) → answer g T i ≡ accepted m →
        (Changes r x i.call → ⊥) → Stands T.view r s x l →
        Stands (model_after g T i).view r s x l ⊎ (Seals i.call × Absent (model_after g T i).view r)
    moved i m r s x l e n S =
        let c = i.call in
        let (j, q, d) = after_is i c m refl e in
        cases (call_same c q r s x S.live S.number n)
        (λ w. inl (subst (λ U. Stands U.view r s x l) (sym j)
        (stands_on T.view (effect g T c).view r s x l R.sound (effect_fine g inside T R c q).sound (call_births c q) w S)))
        (λ w. inr (w.0, subst (λ U. Absent U.view r) (sym j) w.1))

    -- ── what each call leaves on the page ──

    begun : (n x : ℕ) (rest : List ℕ) → NoneHolds (conditions g T Begin) → result g T Begin ≡ n ∷ rest →
        Stands (effect g T Begin).view n (pred (vacant T.view)) x []
    unfolding acted begin grow on_page paired
    begun n x rest c e =
        let f : ℕ = pred (vacant K) in
        let (room, empty) = spare K (not_zero (vacant K) (none_at (conditions g T Begin) c 11)) in
        let G = grow_grown K f 0 0 empty in
        let m = first (suc K.last) n [] rest e in
        record {
          live = omega (arith, G.num_f);
          number = omega (arith, G.num_f);
          page = ap (λ p. paired K.birth (on_page p)) (begin_pages K f x);
        }

    sealed : (r n x : ℕ) (l rest : List ℕ) → NoneHolds (conditions g T (Seal r)) → result g T (Seal r) ≡ n ∷ rest → Stands T.view r (slot T r) x l →
        Stands (effect g T (Seal r)).view n (pred (vacant T.view)) x l
    unfolding queueing seal grow close
    sealed r n x l rest c e S =
        let q : ℕ = slot T r in
        let f : ℕ = pred (vacant K) in
        let o = closing_first g T r c in
        let a = seals g inside T R r o in
        let J = done K (do_s q) in
        let L = steps K (closes T r) in
        let W : WindowTakes J L T.notes.names (window_of T r) q = seal_takes K q R.sound a T.notes.names (window_of T r) in
        let G = seal_grown K q f (spare K a.2).1 in
        -- the new record is not taken
        let stays : In f (victims J T.notes.names (window_of T r) q) → ⊥ = λ i.
        let z : ⊥ = omega (arith, W.not_newest f i, G.num_f, seal_num K q R.sound a, (R.sound.links.records q a.0).given) in z in
        let num : L.num f ≡ suc K.last = omega (arith, W.num f stays, G.num_f) in
        let page : L.page f x ≡ K.page q x = W.page f x ∙ sym (seal_pages K q f x) in
        let sound : Sound L = seal_steps_sound K q R.sound a T.notes.names (window_of T r) in
        let m = first (suc K.last) n [] rest e in
        let live : 0 < L.num f = omega (arith, num) in
        record {
          live = live;
          number = num ∙ m;
          page = S.page
              ∙ same_read K L (K.page q x)
              (λ b i. steps_birth K (closes T r) (closing_giveless g inside T R r o) b (sound.paged f x b live (page ∙ i)).born)
              ∙ ap (λ p. paired L.birth (on_page p)) (sym page);
        }

    forked : (r n x : ℕ) (l rest : List ℕ) → NoneHolds (conditions g T (Fork r)) → result g T (Fork r) ≡ n ∷ rest → Stands T.view r (slot T r) x l →
        Stands (effect g T (Fork r)).view n (pred (vacant T.view)) x l
    unfolding acted fork grow
    forked r n x l rest c e S =
        let f : ℕ = pred (vacant K) in
        let (live, is_sealed, vacancy) = asks_F g inside T R r c in
        let (room, empty) = spare K vacancy in
        let G = grow_grown K f 0 (suc (slot T r)) empty in
        let m = first (suc K.last) n [] rest e in
        record {
          live = omega (arith, G.num_f);
          number = omega (arith, G.num_f);
          page = S.page ∙ ap (λ p. paired K.birth (on_page p)) (fork_pages K (slot T r) f x);
        }

    written : (r x k b : ℕ) (rest : List ℕ) → NoneHolds (conditions g T (Write r x k)) → result g T (Write r x k) ≡ b ∷ rest →
        (x < g.pages) × Stands (effect g T (Write r x k)).view r (slot T r) x (b ∷ r ∷ [])
    unfolding acted given on_page paired
    written r x k b rest c e =
        let s = slot T r in
        let d = block g T k in
        let L = write K s x d in
        let (h, i) = named_slot g inside T R r (none_at (conditions g T (Write r x k)) c 8) in
        let W = write_paged K s x d in
        let m : d ≡ b = ap (λ a. get_or a 0 0) e in (
          leb-false g.pages x (none_at (conditions g T (Write r x k)) c 5),
          record {
            live = omega (arith, W.num s);
            number = W.num s ∙ i;
            page = ap (λ a. a ∷ r ∷ []) (sym m) ∙ ap (λ v. d ∷ v ∷ []) (sym i ∙ sym (write_birth K s x d)) ∙
                ap (λ p. paired L.birth (on_page p)) (sym W.here);
          },
        )

    erased : (r x : ℕ) → NoneHolds (conditions g T (Erase r x)) → (x < g.pages) × Stands (effect g T (Erase r x)).view r (slot T r) x []
    unfolding acted erase on_page paired
    erased r x c =
        let s = slot T r in
        let L = erase K s x in
        let (h, i) = named_slot g inside T R r (none_at (conditions g T (Erase r x)) c 8) in
        let W = erase_paged K s x (K.page s x) refl in (
          leb-false g.pages x (none_at (conditions g T (Erase r x)) c 5),
          record { live = omega (arith, W.num s); number = W.num s ∙ i; page = ap (λ p. paired L.birth (on_page p)) (sym W.here) },
        )

    -- B, S and F give the number after the last one, and it is then the last
    opened : (c : Command) (n : ℕ) (rest : List ℕ) → Opens c → NoneHolds (conditions g T c) → result g T c ≡ n ∷ rest →
        (n ≡ suc T.view.last) × ((effect g T c).view.last ≡ n)
    unfolding acted queueing begin fork grow
    opened c n rest o none e =
        cases o
        (λ i. told c Begin i e (λ d. let m = first (suc K.last) n [] rest d in (sym m, omega arith)))
        (λ w.
        cases w
        (λ s. told c (Seal s.0) s.1 e
        (λ d.
        let m = first (suc K.last) n [] rest d in
        let q = closing_first g T s.0 (subst (λ b. NoneHolds (conditions g T b)) s.1 none) in
        (sym m, omega (arith, closing_last g inside T R s.0 q))))
        (λ f. told c (Fork f.0) f.1 e (λ d. let m = first (suc K.last) n [] rest d in (sym m, omega arith))))
      where
        told : (c d : Command) → c ≡ d → result g T c ≡ n ∷ rest →
            (result g T d ≡ n ∷ rest → (n ≡ suc T.view.last) × ((effect g T d).view.last ≡ n)) → (n ≡ suc T.view.last) × ((effect g T c).view.last ≡ n)
        told c d i e k =
            subst (λ b. (n ≡ suc T.view.last) × ((effect g T b).view.last ≡ n)) (sym i) (k (sym (ap (result g T) i) ∙ e))

  -- a call that does not touch the page
  next : (T : State) → Fine g T → (i : Screened) (r s x : ℕ) (l : List ℕ) → x < g.pages →
      (Touches (model g) T r x i → ⊥) → Stands T.view r s x l →
      Stands (model_after g T i).view r s x l
  next T R i r s x l hx n S = go (answer g T i) refl
    where
      go : (A : Reply) → answer g T i ≡ A → Stands (model_after g T i).view r s x l
      go (refused m) e = subst (λ U. Stands U.view r s x l) (sym (after_none g T i m e)) S
      go (accepted m) e =
          cases (moved T R i m r s x l e (λ w. n (ap was_accepted e, inl w)) S)
          (λ w. w)
          (λ w. absurd (n (ap was_accepted e, inr (w.0, lost (model_after g T i) (after_fine g inside T R i) r x hx w.1))))

  -- ── any calls ──

  shows_from : (T : State) → Fine g T → (r s x : ℕ) (l : List ℕ) → x < g.pages → Stands T.view r s x l → ShowsFrom (model g) T r x l
  shows_from T R r s x l hx S [] n = shows T R r s x l hx S
  shows_from T R r s x l hx S (i ∷ more) n =
      shows_from (model_after g T i) (after_fine g inside T R i) r s x l hx (next T R i r s x l hx (λ w. n (inl w)) S) more (λ w. n (inr w))

  pub fine_from : (more : List Screened) (T : State) → Fine g T → Fine g (state_from (model g) T more)
  fine_from [] T R = R
  fine_from (i ∷ more) T R = fine_from more (model_after g T i) (after_fine g inside T R i)

  last_from : (more : List Screened) (T : State) → Fine g T → T.view.last ≤ (state_from (model g) T more).view.last
  last_from [] T R = omega arith
  last_from (i ∷ more) T R =
      omega (arith, (next_forward T R i).last, last_from more (model_after g T i) (after_fine g inside T R i))

  -- a record of number r was there, and is there no more
  lost_from : (more : List Screened) (T : State) → Fine g T → (r : ℕ) → r ≤ T.view.last → ((t : ℕ) → 0 < T.view.num t → T.view.num t ≡ r → ⊥) →
      (t : ℕ) → 0 < (state_from (model g) T more).view.num t → (state_from (model g) T more).view.num t ≡ r → ⊥
  lost_from [] T R r h n = n
  lost_from (i ∷ more) T R r h n =
      let F = next_forward T R i in
      lost_from more (model_after g T i) (after_fine g inside T R i) r (omega (arith, F.last))
      (λ t k e. cases (F.old t k)
      (λ s. n t (omega (arith, s)) (sym s ∙ e))
      (λ a. let z : ⊥ = omega arith in z))

  -- THE READING LAWS, of any state that the calls keep
  pub reading_laws : (T : State) → Fine g T → ReadingLaws (model g) g.pages T
  unfolding acted queueing steps delete
  reading_laws T R = record {
    stays = λ v r x l c a.
        let (hx, S) = standing T R v r x l c a in
        shows_from T R r (slot T r) x l hx S;
    begun = λ c n x rest e a hx.
        let (i, q, d) = after_is T R c Begin (n ∷ rest) e a in
        from c n (pred (vacant T.view)) x [] hx i (begun T R n x rest q d);
    sealed = λ c v r n x l rest e a ev av.
        let (hx, S) = standing T R v r x l ev av in
        let (i, q, d) = after_is T R c (Seal r) (n ∷ rest) e a in
        from c n (pred (vacant T.view)) x l hx i (sealed T R r n x l rest q d S);
    forked = λ c v r n x l rest e a ev av.
        let (hx, S) = standing T R v r x l ev av in
        let (i, q, d) = after_is T R c (Fork r) (n ∷ rest) e a in
        from c n (pred (vacant T.view)) x l hx i (forked T R r n x l rest q d S);
    written = λ c r x k b rest e a.
        let (i, q, d) = after_is T R c (Write r x k) (b ∷ rest) e a in
        let (hx, S) = written T R r x k b rest q d in
        from c r (slot T r) x (b ∷ r ∷ []) hx i S;
    erased = λ c r x l e a.
        let (i, q, d) = after_is T R c (Erase r x) l e a in
        let (hx, S) = erased T R r x q in
        from c r (slot T r) x [] hx i S;
    gone = λ c r l e a more v x m ev av.
        let U = model_after g T c in
        let (i, q, d) = after_is T R c (Delete r) l e a in
        let (hs, es) = named_slot g inside T R r (none_at (conditions g T (Delete r)) q 8) in
        let F = after_fine g inside T R c in
        let (h, w) = reads g (state_from (model g) U more) v r x m ev av in
        let (ht, et) = slot_named (state_from (model g) U more).view (fine_from more U F).sound r h in
        lost_from more U F r
        (omega (arith, (next_forward T R c).last, es, (R.sound.links.records (slot T r) hs).given))
        (subst (λ Z. (t : ℕ) → 0 < Z.view.num t → Z.view.num t ≡ r → ⊥) (sym i) (deleted_lost r hs es))
        (slot (state_from (model g) U more) r) ht et;
    kept = λ c v q r x l m e a ev av.
        let U = model_after g T c in
        let F = after_fine g inside T R c in
        let (hx, S) = standing T R v r x l ev av in
        cases (moved T R c m r (slot T r) x l a (λ w. sealed_changes q r x (subst (Changes r x) e w)) S)
        (λ w. inl (shows U F r (slot T r) x l hx w))
        (λ w. inr (lost U F r x hx w.1));
    taken = λ c v w r x y l ev av ew aw more u z m eu au.
        let U = model_after g T c in
        let F = after_fine g inside T R c in
        let (hx, S) = standing T R v r x l ev av in
        let (h, i) = reads g (state_from (model g) U more) u r z m eu au in
        let (ht, et) = slot_named (state_from (model g) U more).view (fine_from more U F).sound r h in
        lost_from more U F r (omega (arith, (next_forward T R c).last, S.number, (R.sound.links.records (slot T r) S.live).given))
        (absent U F w r y ew aw) (slot (state_from (model g) U more) r) ht et;
    rises = λ c d n m rest others more oc od ac ad.
        let U = model_after g T c in
        let F = after_fine g inside T R c in
        let W = state_from (model g) U more in
        let (i, q, e) = after_is T R c c.call (n ∷ rest) refl ac in
        let (j, p, f) = after_is W (fine_from more U F) d d.call (m ∷ others) refl ad in
        let (at, here) = opened T R c.call n rest oc q e in
        let (then, there) = opened W (fine_from more U F) d.call m others od p f in
        omega (arith, here, ap (λ Z. Z.view.last) i, last_from more U F, then);
    unread = λ c v n x rest l oc ac ev av.
        let (i, q, e) = after_is T R c c.call (n ∷ rest) refl ac in
        let (hx, S) = standing T R v n x l ev av in
        omega (arith, (opened T R c.call n rest oc q e).0, S.number, (R.sound.links.records (slot T n) S.live).given);
  }
    where
      from : (c : Screened) (r s x : ℕ) (l : List ℕ) → x < g.pages → {U : State} → model_after g T c ≡ U → Stands U.view r s x l →
          ShowsFrom (model g) (model_after g T c) r x l
      from c r s x l hx i S =
          shows_from (model_after g T c) (after_fine g inside T R c) r s x l hx (subst (λ U. Stands U.view r s x l) (sym i) S)

      deleted : (r : ℕ) → Gone T.view (delete T.view (slot T r)) (slot T r)
      deleted r = delete_gone T.view (slot T r) (follower T.view (slot T r)) R.sound refl

      deleted_lost : (r : ℕ) → 0 < T.view.num (slot T r) → T.view.num (slot T r) ≡ r →
          (t : ℕ) → 0 < (effect g T (Delete r)).view.num t → (effect g T (Delete r)).view.num t ≡ r → ⊥
      deleted_lost r hs es t k j =
          let G = deleted r in
          cases (same? t (slot T r))
          (λ e. let z : ⊥ = omega (arith, ap (delete T.view (slot T r)).num e, G.num_s) in z)
          (λ n. n (R.sound.links.apart t (slot T r) (omega (arith, G.num t n)) (sym (G.num t n) ∙ j ∙ sym es)))
