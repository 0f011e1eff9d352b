-- The window by record numbers, after any calls.
use mathlib.Core.Path.{◌≡◌, refl, sym, ap, ◌∙◌, subst}
use mathlib.Core.Logic.{inl, inr}
use mathlib.Core.Bool.{true, false, not, true≢false}
use mathlib.Core.List.{List, [], ◌∷◌, map}
use Prim.Native.Nat.{ℕ, suc, ◌<◌}
use native.Mathlib.Omega.{arith}
use lib.Dec.{eqb, leb, ltb}
use lib.ListN.{length}
use borrow.Author.Tests.{lt-ltb, ltb-false, le-ltb}
use Rattle.answer.specs.Reply.{accepted}
use Rattle.answer.specs.Refusal.{NoneHolds}
use Rattle.answer.proofs.Cases.{cases, same?, lt?}
use Rattle.answer.proofs.Decided.{decide_accepted}
use Rattle.geometry.specs.declared.Geometry.{Geometry}
use Rattle.geometry.specs.Limits.{Inside}
use Rattle.model.specs.View.{View}
use Rattle.model.specs.Lists.{In}
use Rattle.model.specs.Actions.{do_s, done, forked, slot_of}
use Rattle.model.specs.State.{State, with_view, with_notes}
use Rattle.model.specs.Window.{steps, sealed_of, victims, sealing, queueing, WindowStops}
use Rattle.model.specs.WindowMeans.{Took, TakesOldest}
use Rattle.model.specs.Calls.{slot, window_of, sealed_notes, closes, conditions, result, effect}
use Rattle.model.specs.Book.{Book, rec_sealed, accept}
use Rattle.model.specs.NameBook.{HasName}
use Rattle.model.specs.Model.{state_after}
use Rattle.model.specs.Command.{Command}
use Rattle.model.specs.Command.{Seal}
use Rattle.model.proofs.Asked.{Unrefused}
use Rattle.model.proofs.Fine.{Fine, named_slot, effect_fine}
use Rattle.model.proofs.WindowLine.{sealed_of_lem, older_less}
use Rattle.model.proofs.WindowFacts.{of_sealed, victims_may}
use Rattle.model.proofs.WindowSeal.{seal_stops, seal_takes}
use Rattle.model.proofs.WindowBook.{OpenNext, OlderNamed, just_live, book_sealed, open_along}
use Rattle.model.proofs.NameBook.{named_in_lem}
use Rattle.model.proofs.NameActions.{trimmed_names}
use Rattle.model.proofs.WindowTheorems.{takes_oldest}
use Rattle.model.proofs.Closing.{closing_first, closing_12, closing_book}
use Rattle.ledger.specs.BookReading.{is_there, page_block, block_on, fork_on, sealed_on, window_on}
use Rattle.ledger.specs.Ledger.{Ledger, after_seal, closed, account, says, block_given, keeps}
use Rattle.ledger.specs.WindowTold.{after, WindowLoop, TakenOut, WindowBooked, WindowBook}
use Rattle.ledger.proofs.BookRead.{line_has}
use Rattle.ledger.proofs.Numbers.{of_map}
use Rattle.model.proofs.StepFacts.{fresh_fine}
use Rattle.ledger.proofs.Tells.{Tells, fresh_tells}
use Rattle.ledger.proofs.CallsTold.{there_told, slot_told}
use Rattle.ledger.proofs.DeleteTold.{fork_told}
use Rattle.ledger.proofs.SealTold.{line_sealed, asks, sealed_fine, sealed_tells, window_told}
use Rattle.ledger.proofs.SealTold.{next, now_named, older_alike, closed_book, seal_answered, seal_kept}
use Rattle.ledger.proofs.ToldProof.{plain, left_from}

-- ── a record by its number and by its slot ──

module _ (g : Geometry) (inside : Inside g) (L : Ledger) (T : State) (R : Fine g T) (t : Tells g L T) where
  found : (m : ℕ) → is_there L.book m ≡ true → eqb (slot_of T.view m) 0 ≡ false
  found m y = sym (there_told T.view L.book m R.sound t.book) ∙ ap not y

  there : (s : ℕ) → 0 < T.view.num s → is_there L.book (T.view.num s) ≡ true
  there s h = line_has (T.view.num s) L.book.lines (t.book.stored s h)

  -- the slot of a number that the book has
  at : (m : ℕ) → is_there L.book m ≡ true → (0 < T.view.num (slot T m)) × (T.view.num (slot T m) ≡ m)
  at m y = named_slot g inside T R m (found m y)

  fork_at : (s : ℕ) → 0 < T.view.num s → fork_on L.book (T.view.num s) ≡ ltb 0 (forked T.view s)
  fork_at s h =
      let y = there s h in
      let w = at (T.view.num s) y in
      fork_told g L T inside R t (T.view.num s) (found (T.view.num s) y) ∙
      ap (λ u. ltb 0 (forked T.view u)) (R.sound.links.apart (slot T (T.view.num s)) s w.0 w.1)

  page_at : (s x : ℕ) → 0 < T.view.num s → block_on L.book (T.view.num s) x ≡ page_block (T.view.page s x)
  page_at s x h =
      let y = there s h in
      let (w, e) = slot_told g L T inside R t (T.view.num s) (found (T.view.num s) y) in
      let d : w.slot ≡ s = R.sound.links.apart w.slot s w.live w.number in
      w.on x ∙ ap (λ u. page_block (T.view.page u x)) d

  sealed_at : (s : ℕ) → OpenNext T.view s → sealed_on L.book (T.view.num s) ≡ map T.view.num (sealed_of T.view s)
  sealed_at s O = line_sealed (T.view.num s) L.book.lines ∙ book_sealed T.view R.sound L.book s t.book O

unforked_is : (n : ℕ) → ltb 0 n ≡ false → n ≡ 0
unforked_is n e = let z = ltb-false 0 n e in omega arith

map_many : (f : ℕ → ℕ) (l : List ℕ) → length (map f l) ≡ length l
map_many f [] = refl
map_many f (c ∷ l) = ap suc (map_many f l)

-- ── S, between the ledger right after the seal and the ledger after the call ──

module _ (g : Geometry) (inside : Inside g) (A : Ledger) (T : State) (F : Fine g T) (a : Tells g A T) (Z : Ledger) (U : State) (G : Fine g U) (z : Tells g Z U)
    (names : ℕ → ℕ) (n s : ℕ) (w : TakesOldest T.view U.view names n s) (p : 0 < n → WindowStops U.view names n s)
    (O : OpenNext T.view s) (P : OpenNext U.view s) (N : OlderNamed T.view names s A.book) (kept : Z.book.names ≡ A.book.names) where
  abbrev K : View
  K = T.view

  abbrev L : View
  L = U.view

  abbrev r : ℕ
  r = T.view.num s

  same_r : U.view.num s ≡ T.view.num s
  same_r = w.num s (just_live L G.sound s P)

  -- what was taken out left the store
  took : (m : ℕ) → TakenOut A.book Z.book m → Took T.view U.view (slot T m)
  took m (y, x) =
      let h = at g inside A T F a m y in (
        h.0,
        cases (same? (U.view.num (slot T m)) 0) (λ e. e)
            (λ d.
            let live : 0 < U.view.num (slot T m) = omega (arith, d) in
            let e : U.view.num (slot T m) ≡ m = w.num (slot T m) live ∙ h.1 in
            absurd (true≢false (sym (ap (is_there Z.book) (sym e) ∙ there g inside Z U G z (slot T m) live) ∙ x))),
      )

  number : (m : ℕ) → TakenOut A.book Z.book m → T.view.num (slot T m) ≡ m
  number m t = (at g inside A T F a m t.0).1

  sealed_now : sealed_on Z.book (T.view.num s) ≡ map U.view.num (sealed_of U.view s)
  sealed_now = ap (sealed_on Z.book) (sym same_r) ∙ sealed_at g inside Z U G z s P

  few_now : length (sealed_on Z.book (T.view.num s)) ≡ length (sealed_of U.view s)
  few_now = ap length sealed_now ∙ map_many U.view.num (sealed_of U.view s)

  -- an older record, by the counts that the window reads and by the book's names
  some_name : (c : ℕ) → 0 < T.view.num c → T.view.num c < T.view.num s → 0 < names c → (l : List ℕ) × HasName A.book.names l (T.view.num c)
  some_name c h o i = (named_in_lem A.book.names (K.num c)).0 (N c h o ∙ lt-ltb 0 (names c) i)

  no_name_lem : (c : ℕ) (l : List ℕ) → 0 < T.view.num c → T.view.num c < T.view.num s → names c ≡ 0 → HasName A.book.names l (T.view.num c) → ⊥
  no_name_lem c l h o e i =
      true≢false (sym ((named_in_lem A.book.names (K.num c)).1 (l, i)) ∙ N c h o ∙ le-ltb 0 (names c) (omega arith))

  -- a sealed record other than s is older
  is_older : (c : ℕ) → In c (sealed_of T.view s) → (c ≡ s → ⊥) → T.view.num c < T.view.num s
  is_older c i d = older_less K F.sound s (just_live K F.sound s O) c (of_sealed K s c i d)

  still_older : (c : ℕ) → In c (sealed_of U.view s) → (c ≡ s → ⊥) → U.view.num c < U.view.num s
  still_older c i d = older_less L G.sound s (just_live L G.sound s P) c (of_sealed L s c i d)

  -- one that stays and has no fork on it has a name
  stays_named : (c : ℕ) → 0 < U.view.num c → In c (sealed_of U.view s) → (c ≡ s → ⊥) → 0 < names c →
      (l : List ℕ) × HasName Z.book.names l (U.view.num c)
  stays_named c live i d h =
      let e = w.num c live in
      let o : T.view.num c < T.view.num s = omega (arith, still_older c i d, same_r) in
      let (l, a) = some_name c (omega arith) o h in
      (l, subst (λ ps. HasName ps l (U.view.num c)) (sym kept) (subst (HasName A.book.names l) (sym e) a))

  booked : WindowBooked A.book Z.book n (T.view.num s)
  booked = record {
    windowed = λ m t. w.windowed (slot T m) (took m t);
    sealed = λ m t. subst (λ l. In m l) (sym (sealed_at g inside A T F a s O))
        (subst (λ k. In k (map K.num (sealed_of K s))) (number m t) (in_map K.num (sealed_of K s) (slot T m) (w.sealed (slot T m) (took m t))));
    older = λ m t. omega (arith, w.not_newest (slot T m) (took m t), number m t);
    unforked = λ m t.
        let u = took m t in
        ap (fork_on A.book) (sym (number m t)) ∙ fork_at g inside A T F a (slot T m) u.0 ∙
        le-ltb 0 (forked K (slot T m)) (omega (arith, w.unforked (slot T m) u));
    nameless = λ m l t h.
        let u = took m t in
        no_name_lem (slot T m) l u.0 (w.not_newest (slot T m) u) (w.nameless (slot T m) u) (subst (HasName A.book.names l) (sym (number m t)) h);
    oldest = λ m k t i d f q y.
        let (c, ic, ec) = of_map K.num (sealed_of K s) k (subst (λ l. In k l) (sealed_at g inside A T F a s O) i) in
        let h = at g inside Z U G z k y in
        let e : K.num (slot U k) ≡ k = sym (w.num (slot U k) h.0) ∙ h.1 in
        let same : slot U k ≡ c = F.sound.links.apart (slot U k) c (omega (arith, w.num (slot U k) h.0, h.0)) (e ∙ ec) in
        let live : 0 < K.num c = omega (arith, ap K.num same, w.num (slot U k) h.0, h.0) in
        let bare : forked K c ≡ 0 = unforked_is (forked K c) (sym (fork_at g inside A T F a c live) ∙ ap (fork_on A.book) (sym ec) ∙ f) in
        let other : c ≡ s → ⊥ = λ z. d (ec ∙ ap K.num z) in
        let none : names c ≡ 0 = cases (lt? 0 (names c))
        (λ b. let (l, x) = some_name c live (is_older c ic other) b in absurd (q l (subst (HasName A.book.names l) (sym ec) x)))
        (λ b. omega arith) in
        omega (arith, w.oldest (slot T m) c (took m t) ic other bare none (omega (arith, ap L.num same, h.0)), number m t, ec);
    needed = λ m t. omega (arith, w.needed (slot T m) (took m t), few_now);
    stops = λ h. cases (p h)
        (λ l. inl (omega (arith, few_now)))
        (λ f. inr (λ k i d.
        let (c, ic, ec) = of_map L.num (sealed_of L s) k (subst (λ l. In k l) sealed_now i) in
        let live = (sealed_of_lem L G.sound s (just_live L G.sound s P) (G.sound.links.prevs P.slot s P.live P.prev).sealed).live c ic in
        let other : c ≡ s → ⊥ = λ q. d (ec ∙ ap L.num q ∙ same_r) in
        cases (f c ic other)
        (λ b. inl (ap (fork_on Z.book) ec ∙ fork_at g inside Z U G z c live ∙ lt-ltb 0 (forked L c) b))
        (λ b. let (l, x) = stays_named c live ic other b in inr (l, subst (HasName Z.book.names l) (sym ec) x))));
    names = kept;
    pages = λ m x y.
        let h = at g inside Z U G z m y in
        let e : K.num (slot U m) ≡ m = sym (w.num (slot U m) h.0) ∙ h.1 in
        let live : 0 < K.num (slot U m) = omega (arith, w.num (slot U m) h.0, h.0) in (
          ap (is_there A.book) (sym e) ∙ there g inside A T F a (slot U m) live,
          ap (λ k. block_on Z.book k x) (sym h.1) ∙ page_at g inside Z U G z (slot U m) x h.0 ∙ ap page_block (w.page (slot U m) x) ∙
              sym (page_at g inside A T F a (slot U m) x live) ∙ ap (λ k. block_on A.book k x) e,
        );
  }
    where
      in_map : (f : ℕ → ℕ) (l : List ℕ) (c : ℕ) → In c l → In (f c) (map f l)
      in_map f [] c i = i
      in_map f (d ∷ l) c i = cases i (λ e. inl (ap f e)) (λ j. inr (in_map f l c j))

-- ── after any calls ──

module _ (g : Geometry) (inside : Inside g) (before : List Command) (r : ℕ) (l : List ℕ) (e : says g (after g before) (Seal r) ≡ accepted l) where
  abbrev L₀ : Ledger
  L₀ = after g before

  abbrev T₀ : State
  T₀ = state_after g (map plain before)

  stands : Fine g (state_after g (map plain before)) × Tells g (after g before) (state_after g (map plain before))
  stands =
      left_from g inside before Rattle.ledger.specs.Ledger.fresh (Rattle.model.specs.State.fresh g) (fresh_fine g inside) (fresh_tells g inside)

  fine : Fine g (state_after g (map plain before))
  fine = stands.0

  tells : Tells g (after g before) (state_after g (map plain before))
  tells = stands.1

  none : NoneHolds (conditions g (state_after g (map plain before)) (Seal r))
  none = (decide_accepted (conditions g T₀ (Seal r)) (result g T₀ (Seal r)) l (sym (seal_answered r g L₀ T₀ inside fine tells) ∙ e)).0

  early : Unrefused (state_after g (map plain before)) r
  early = closing_first g T₀ r none

  last : leb 999999 (state_after g (map plain before)).view.last ≡ false
  last = closing_12 g T₀ r none

  loop : (b : ℕ) → (closed g (after g before) r).book ≡ accept g.pages (after g before).book (Seal r) b
  loop b = closed_book g inside L₀ T₀ fine tells r early last b

  -- the deletes move no name
  same_names : (keeps g (after g before) (Seal r)).book.names ≡ (rec_sealed (after g before).book r).names
  unfolding keeps
  same_names =
      let B : Book = L₀.book in
      let m : ℕ = T₀.view.num (slot T₀ r) in
      let b : ℕ = block_given (account g L₀ (Seal r)).result in
      ap (λ (C : Book). C.names) (sym (closing_book g inside T₀ fine r early B g.pages b tells.book tells.windows)) ∙
      trimmed_names (rec_sealed B m) (window_of T₀ r) m ∙ ap (λ k. (rec_sealed B k).names) (named_slot g inside T₀ fine r early.eight).1

  window_booked : WindowBooked (rec_sealed (after g before).book r) (keeps g (after g before) (Seal r)).book (window_on (after g before).book r) r
  unfolding queueing sealing steps
  window_booked =
      let K₀ : View = T₀.view in
      let s₀ : ℕ = slot T₀ r in
      let q = asks g inside L₀ T₀ fine tells r early in
      let n₀ : ℕ = window_of T₀ r in
      let names₀ : ℕ → ℕ = T₀.notes.names in
      let O = next g inside L₀ T₀ fine tells r early in
      let F = sealed_fine g inside L₀ T₀ fine tells r early last in
      let K₁ : View = done K₀ (do_s s₀) in
      subst (λ n. WindowBooked (rec_sealed L₀.book r) (keeps g L₀ (Seal r)).book n r) (sym (window_told g inside L₀ T₀ fine tells r early))
      (subst (λ m. WindowBooked (rec_sealed L₀.book r) (keeps g L₀ (Seal r)).book n₀ m) (now_named g inside L₀ T₀ fine tells r early)
      (booked g inside (after_seal L₀ r) (with_notes (with_view T₀ (done K₀ (do_s s₀))) (sealed_notes T₀ r)) F (sealed_tells g inside L₀ T₀ fine tells r early)
      (keeps g L₀ (Seal r)) (effect g T₀ (Seal r)) (effect_fine g inside T₀ fine (Seal r) none) (seal_kept r g L₀ T₀ inside fine tells none)
      names₀ n₀ s₀ (takes_oldest K₁ (steps K₀ (closes T₀ r)) names₀ n₀ s₀ (seal_takes K₀ s₀ fine.sound q names₀ n₀))
      (seal_stops K₀ s₀ fine.sound q names₀ n₀) O
      (open_along (victims K₁ names₀ n₀ s₀) K₁ s₀ (victims_may K₁ names₀ n₀ s₀ F.sound (just_live K₁ F.sound s₀ O)) O)
      (older_alike g inside L₀ T₀ fine tells r early) same_names))

-- THE LOOP IS THE BOOK'S OWN STEP
pub window_loop : WindowLoop
unfolding keeps
window_loop g inside before r l e = loop g inside before r l e (block_given (account g (after g before) (Seal r)).result)

-- WHAT THE WINDOW TAKES, by the books before and after
pub window_book : WindowBook
window_book g inside before r l e = window_booked g inside before r l e
