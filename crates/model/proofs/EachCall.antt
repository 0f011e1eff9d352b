-- WHAT EACH CALL OWES, in one place: a clause in `is` and one in `fits`. All that is said of every call elsewhere goes by the call's kind.
use mathlib.Core.Path.{◌≡◌, refl, sym, ap, subst, ◌∙◌}
use mathlib.Core.Logic.{inl, inr}
use mathlib.Core.Bool.{Bool, false}
use mathlib.Core.List.{List, [], ◌∷◌}
use Prim.Native.Nat.{ℕ, pred, ◌*◌, ◌<◌, ◌≤◌}
use native.Mathlib.Omega.{arith}
use lib.Dec.{eqb, ltb}
use lib.ListN.{length}
use borrow.Author.Tests.{ltb-false}
use Rattle.answer.specs.Refusal.{place, NoneHolds}
use Rattle.answer.proofs.Cases.{cases, same?}
use Rattle.geometry.specs.declared.Geometry.{Geometry}
use Rattle.geometry.specs.Limits.{Inside, blocks}
use Rattle.alloc_log.specs.Runs.{runs}
use Rattle.model.specs.View.{View}
use Rattle.model.specs.Lists.{In, on_page}
use Rattle.model.specs.Results.{paired}
use Rattle.model.specs.Actions.{Action, do_b, do_w, do_e, do_s, do_f, do_d, Asks, slot_of, vacant}
use Rattle.model.specs.Names.{empty_row, row_of}
use Rattle.model.specs.State.{State, Notes, with_window, WindowsFit, synced}
use Rattle.model.specs.Calls.{Account, looking, opening, freeing, closing, removing, reclaiming, placing, marking, renewing, account, slot}
use Rattle.model.specs.Calls.{bad_window, no_record, is_sealed, undeletable, deleting}
use Rattle.model.specs.Calls.{pairs, free_list, logged, refusals_by, conditions, carrier, attached, detached, bad_name, not_attached, unknown_name}
use Rattle.model.specs.Book.{Book, retained, name_added, accept}
use Rattle.model.specs.declared.Spelling.{Spelling}
use Rattle.model.specs.declared.Spelling.TheVariants.{Numbers, Blocks}
use Rattle.model.specs.Command.{Command}
use Rattle.model.specs.Command.{Begin, Write, Erase, Seal, Fork, Delete, Read, Barrier, Compress, FreeList, Estimate, Retain, Reclaim}
use Rattle.model.specs.Command.{Attach, Detach, Resolve}
use Rattle.model.proofs.Agree.{Agree}
use Rattle.model.proofs.TabFacts.{put_at, put_other}
use Rattle.model.proofs.BookFacts.{entered}
use Rattle.model.proofs.Shape.{ShapedNotes}
use Rattle.model.proofs.NameShape.{named_shaped, unnamed_shaped}
use Rattle.model.proofs.NameRows.{row_found}
use Rattle.model.proofs.NameActions.{NamesFit, NamesTold, Nameless}
use Rattle.model.proofs.NameCalls.{attaches, names_kept_attach, attach_booked, sides_attach_accepted, agree_attach, detaches, names_kept_detach}
use Rattle.model.proofs.NameCalls.{sides_kept_detach, agree_detach}
use Rattle.model.proofs.Windows.{WindowsAgree, retained_agrees, retained_windows}
use Rattle.model.proofs.ResultFacts.{paired_length, on_page_lem}
use Rattle.model.proofs.ByNumber.{none_at, or_false}
use Rattle.model.proofs.CallKinds.{Between, Opens, Frees, own_refusals}
use Rattle.model.proofs.Asked.{Fine, not_zero, named_slot, asks_erase, asks_F, asks_D}
use Rattle.model.proofs.Few.{page_one, runs_le, Few}

-- ── of a call alone ──

-- its refusals stand in their order; one that frees does the same with any log and any blocks waiting; T, Y and C leave the book;
-- S, D, T, W, Y and C are the only calls of their kinds
abbrev pub Is : Command → Account → Type 0
Is c (looking s cs res note) = (g : Geometry) (T : State) → Between 4 (place 14) (cs g T)
Is c (opening cs a) = (T : State) → Opens (a T) × Between 4 (place 11) (cs T)
Is c (freeing cs a) = (g : Geometry) (T : State) → Frees (a T) × Between 4 (place 14) (cs g T) × ((n : ℕ) → a (synced (logged T n)) ≡ a T)
Is c (closing r) = c ≡ Seal r
Is c (removing r) = c ≡ Delete r
Is c (reclaiming k) = (c ≡ Reclaim k) × ((P : ℕ) (B : Book) (b : ℕ) → accept P B c b ≡ B)
Is c (placing r x k) = c ≡ Write r x k
Is c marking = (c ≡ Barrier) × ((P : ℕ) (B : Book) (b : ℕ) → accept P B c b ≡ B)
Is c renewing = (c ≡ Compress) × ((P : ℕ) (B : Book) (b : ℕ) → accept P B c b ≡ B)

pub is : (c : Command) → Is c (account c)
unfolding logged
is Begin = λ T. (tt, omega arith)
is (Write r x k) = refl
is (Erase r x) = λ g T. (tt, omega arith, λ n. refl)
is (Seal r) = refl
is (Fork r) = λ T. (tt, omega arith)
is (Delete r) = refl
is (Read r x) = λ g T. omega arith
is Barrier = (refl, λ P B b. refl)
is Compress = (refl, λ P B b. refl)
is FreeList = λ g T. omega arith
is (Estimate r) = λ g T. omega arith
is (Retain r n) = λ g T. omega arith
is (Reclaim k) = (refl, λ P B b. refl)
is (Attach l r) = λ g T. omega arith
is (Detach l) = λ g T. omega arith
is (Resolve l) = λ g T. omega arith

-- ── of a call on a fine state ──

-- what is named as blocks are blocks that are held, with their births
pub record Held (T : State) (l : List ℕ) : Type 0 where
  pub these : List ℕ
  pub numbers : paired T.view.birth these ≡ l
  pub held : (b : ℕ) → In b these → 0 < T.view.birth b

abbrev pub HeldIf : State → Spelling → List ℕ → Type 0
HeldIf T Numbers l = Unit {0}
HeldIf T Blocks l = Held T l

-- an action as a call, by numbers (with kind 0)
abbrev pub named : View → Action → Command
named K do_b = Begin
named K (do_w s x b) = Write (K.num s) x 0
named K (do_e s x) = Erase (K.num s) x
named K (do_s s) = Seal (K.num s)
named K (do_f s) = Fork (K.num s)
named K (do_d s) = Delete (K.num s)

-- the action of an accepted call: what it asks is so, it is the call, and the book's step is that of the call
pub record Does (T : State) (c : Command) (a : Action) : Type 0 where
  pub asks : Asks T.view a
  pub name : named T.view a ≡ c
  pub nameless : Nameless T.notes a
  pub book : (P : ℕ) (B : Book) (b : ℕ) → entered P B T.view a ≡ accept P B c b

-- what an accepted call notes: windows in range, names that agree, a shape that tables can hold, and the book notes the same
pub record Noting (g : Geometry) (T : State) (c : Command) (N : Notes) : Type 0 where
  pub fit : WindowsFit T.view N
  pub names : NamesFit T.view N
  pub shaped : ShapedNotes g.records T.notes → ShapedNotes g.records N
  pub agree : (B : Book) (b : ℕ) → Agree T.view B → Agree T.view (accept g.pages B c b)
  pub windows : (B : Book) (b : ℕ) → Agree T.view B → WindowsAgree T.view T.notes B → WindowsAgree T.view N (accept g.pages B c b)
  pub sides : (B : Book) (b : ℕ) → Agree T.view B → NamesTold T.view T.notes B.names →
      NamesTold T.view N (accept g.pages B c b).names

abbrev pub Fits : Geometry → State → Command → Account → Type 0
Fits g T c (looking s cs res note) = NoneHolds (cs g T) → Few g (res g T) × HeldIf T s (res g T) × Noting g T c (note T)
Fits g T c (opening cs a) = NoneHolds (refusals_by g T (opening cs a)) → Does T c (a T)
Fits g T c (freeing cs a) = NoneHolds (cs g T) → Does T c (a T)
Fits g T c (closing r) = Unit {0}
Fits g T c (removing r) = NoneHolds (undeletable T r) → Does T c (deleting T r)
Fits g T c (reclaiming k) = Unit {0}
Fits g T c (placing r x k) = Unit {0}
Fits g T c marking = Unit {0}
Fits g T c renewing = Unit {0}

module _ (g : Geometry) (inside : Inside g) (T : State) (R : Fine g T) where
  -- the number of the slot of r is r
  is_named_lem : (r : ℕ) → eqb (slot_of T.view r) 0 ≡ false → T.view.num (slot T r) ≡ r
  is_named_lem r n = (named_slot g inside T R r n).1

  -- a page of a record that is there
  page_held : (r x : ℕ) → eqb (slot_of T.view r) 0 ≡ false → Held T (paired T.view.birth (on_page (T.view.page (slot T r) x)))
  page_held r x n = record {
    these = on_page (T.view.page (slot T r) x);
    numbers = refl;
    held = λ b i. (R.sound.paged (slot T r) x b (named_slot g inside T R r n).0 (on_page_lem (T.view.page (slot T r) x) b i)).born;
  }

  -- as many runs as there are blocks at most, of whatever kind of blocks
  runs_few : (p : ℕ → Bool) → length (pairs (runs g.per p (blocks g))) ≤ 2 * blocks g
  unfolding runs
  runs_few p = omega (arith, runs_le g.per p 0 0 (blocks g))

  -- the notes stay
  nothing_noted : (c : Command) → ((P : ℕ) (B : Book) (b : ℕ) → accept P B c b ≡ B) → Noting g T c T.notes
  nothing_noted c e = record {
    fit = R.windows;
    names = R.names;
    shaped = λ S. S;
    agree = λ B b A. subst (Agree T.view) (sym (e g.pages B b)) A;
    windows = λ B b A W. subst (λ C. WindowsAgree T.view T.notes C) (sym (e g.pages B b)) W;
    sides = λ B b A D. subst (λ C. NamesTold T.view T.notes C.names) (sym (e g.pages B b)) D;
  }

  -- the window of the line of r
  window_noted : (r k : ℕ) → NoneHolds (bad_window k ∷ no_record T r ∷ is_sealed T r ∷ []) →
      Noting g T (Retain r k) (with_window T.notes (slot T r) k)
  unfolding retained
  window_noted r k n =
      let past = none_at (bad_window k ∷ no_record T r ∷ is_sealed T r ∷ []) n in
      let h = named_slot g inside T R r (past 8) in
      let o = not_zero (T.view.is_open (slot T r)) (past 9) in
      let few : k ≤ 62 = ltb-false 62 k (or_false (eqb k 0) (ltb 62 k) (past 15)).1 in
      record {
        fit = λ s l p. cases (same? s (slot T r))
            (λ e. omega (arith, put_at T.notes.window (slot T r) k s e))
            (λ m. omega (arith, put_other T.notes.window (slot T r) k s m, R.windows s l p));
        names = R.names;
        shaped = λ S. record {
          window = λ s l. put_other T.notes.window (slot T r) k s
              (λ e. let w : ⊥ = omega (arith, (R.sound.links.records (slot T r) h.0).room, R.slots) in w) ∙ S.window s l;
          names = S.names;
          rows = S.rows;
          empty = S.empty;
          short = S.short;
        };
        agree = λ B b A. retained_agrees T.view B r k A;
        windows = λ B b A W. subst (λ m. WindowsAgree T.view (with_window T.notes (slot T r) k) (retained B m k)) h.1
            (retained_windows T.view R.sound B T.notes (slot T r) k h.0 o A W);
        sides = λ B b A D. D;
      }

  -- a name on r
  name_attached : (l : List ℕ) (r : ℕ) → NoneHolds (bad_name l ∷ no_record T r ∷ not_attached T l r ∷ []) →
      Noting g T (Attach l r) (attached T l (slot T r))
  unfolding name_added
  name_attached l r n =
      let a = attaches T l r R.sound n in
      let i : ℕ = pred (empty_row T.notes.titles) in
      record {
        fit = R.windows;
        names = names_kept_attach T l r R.sound n R.names;
        shaped = λ S. named_shaped g.records T.notes i (slot T r) l a.room a.valid
            (omega (arith, (R.sound.links.records (slot T r) a.live).room, R.slots)) S;
        agree = λ B b A. agree_attach T.view B g.pages b l r A;
        windows = λ B b A W. rw (attach_booked T l r R.sound n B A) (λ s h o. W s h o);
        sides = λ B b A D. sides_attach_accepted T l r R.sound n B A g.pages b D;
      }

  -- a name taken off
  name_detached : (l : List ℕ) → NoneHolds (bad_name l ∷ unknown_name T l ∷ []) → Noting g T (Detach l) (detached T l)
  name_detached l n =
      let d = detaches T l n in
      let i : ℕ = pred (row_of T.notes.titles l) in
      let h = (row_found T.notes.titles l i d.row).0 in
      record {
        fit = R.windows;
        names = names_kept_detach T l n R.names;
        shaped = λ S. unnamed_shaped g.records T.notes i (pred (carrier T l))
            (omega (arith, (R.sound.links.records (pred (carrier T l)) (R.names.live i (pred (carrier T l)) h d.owner)).room, R.slots)) S;
        agree = λ B b A. agree_detach T.view B g.pages b l A;
        windows = λ B b A W. W;
        sides = λ B b A D. sides_kept_detach T l n B D;
      }

  listed_le : length (free_list g T) ≤ 2 * blocks g
  unfolding free_list
  listed_le = runs_few _

  pub fits : (c : Command) → Fits g T c (account c)
  fits Begin = λ n. record { asks = not_zero (vacant T.view) (none_at (conditions g T Begin) n 11); name = refl; nameless = tt; book = λ P B b. refl }
  fits (Write r x k) = tt
  fits (Erase r x) = λ n.
      let past = none_at (own_refusals g T (account (Erase r x))) n in
      let e = is_named_lem r (past 8) in
      record { asks = asks_erase g inside T R r x n; name = ap (λ m. Erase m x) e; nameless = tt; book = λ P B b. ap (λ m. accept P B (Erase m x) b) e }
  fits (Seal r) = tt
  fits (Fork r) = λ n.
      let past = none_at (conditions g T (Fork r)) n in
      let e = is_named_lem r (past 8) in
      record { asks = asks_F g inside T R r n; name = ap Fork e; nameless = tt; book = λ P B b. ap (λ m. accept P B (Fork m) b) e }
  fits (Delete r) = λ n.
      let past = none_at (undeletable T r) n in
      let e = is_named_lem r (past 8) in
      record {
        asks = asks_D g inside T R r (past 8) (past 10);
        name = ap Delete e;
        nameless = omega (arith, ltb-false 0 (T.notes.names (slot T r)) (past 18));
        book = λ P B b. ap (λ m. accept P B (Delete m) b) e;
      }
  fits (Read r x) = λ n. (
    inr (omega (arith, paired_length T.view.birth (on_page (T.view.page (slot T r) x)), page_one (T.view.page (slot T r) x))),
    page_held r x (none_at (conditions g T (Read r x)) n 8),
    nothing_noted (Read r x) (λ P B b. refl),
  )
  fits Barrier = tt
  fits Compress = tt
  fits FreeList = λ n. (inl (omega (arith, listed_le)), tt, nothing_noted FreeList (λ P B b. refl))
  fits (Estimate r) = λ n. (inr (omega arith), tt, nothing_noted (Estimate r) (λ P B b. refl))
  fits (Retain r k) = λ n. (inr (omega arith), tt, window_noted r k n)
  fits (Reclaim k) = tt
  fits (Attach l r) = λ n. (inr (omega arith), tt, name_attached l r n)
  fits (Detach l) = λ n. (inr (omega arith), tt, name_detached l n)
  fits (Resolve l) = λ n. (inr (omega arith), tt, nothing_noted (Resolve l) (λ P B b. refl))
