-- Demand 3 and the two facts, of the ledger alone: its answers and histories are those of the model, whose proofs they carry over.
use mathlib.Core.Path.{◌≡◌, refl, sym, ap, ap₂, ◌∙◌, subst}
use mathlib.Core.Logic.{◌⊎◌, ◌↔◌}
use mathlib.Core.Bool.{true, false}
use mathlib.Core.List.{List, [], ◌∷◌, ◌++◌, map}
use Prim.Native.Nat.{ℕ, ◌+◌, ◌≤◌}
use lib.ListN.{length}
use Rattle.answer.specs.Reply.{accepted, refused}
use Rattle.answer.specs.Refusal.{NoneBefore}
use Rattle.geometry.specs.declared.Geometry.{Geometry}
use Rattle.geometry.specs.Limits.{Inside, blocks}
use Rattle.alloc_log.specs.Runs.{Covered}
use Rattle.model.specs.Queue.{rounded_up}
use Rattle.model.specs.Held.{tally}
use Rattle.model.specs.Calls.{result}
use Rattle.model.specs.Book.{Book, Some, OnPage, enter}
use Rattle.model.specs.Results.{numbers_of}
use Rattle.model.specs.State.{State, fresh}
use Rattle.model.specs.Memory.{make_after}
use Rattle.model.specs.History.{Entry, events, entry_of, told, book_from, book, state_from, history_from, queued_in, unsynced, Standing}
use Rattle.model.specs.NameBook.{HasName, OnceNamed, InBook, OpenIn, SealMoved}
use Rattle.model.specs.HistoryFacts.{HistoryFacts, given_in, freed_in, kept_count, Sealed, Names, LastGave, runs_of_pairs, Reclaims, turns_in, ResolveIs}
use Rattle.model.specs.Model.{Screened, screened_conditions, answer, model_after, model}
use Rattle.model.specs.Command.{Command}
use Rattle.model.proofs.ByNumber.{earlier_iff}
use Rattle.model.proofs.ModelFacts.{all_ordered}
use Rattle.model.proofs.Fine.{Fine}
use Rattle.model.proofs.Keeps.{making_is}
use Rattle.model.proofs.StepFacts.{fresh_fine}
use Rattle.model.proofs.WholeList.{WholeList, each_list}
use Rattle.model.proofs.WholeListProof.{whole_list}
use Rattle.model.proofs.HistoryFactsProof.{history_facts}
use Rattle.ledger.specs.Ledger.{Ledger, account, refusals_of, says, step}
use Rattle.ledger.specs.Told.{noted, BookKept}
use Rattle.ledger.specs.Alone.{clerk, LedgerDemand, LedgerBook}
use Rattle.ledger.proofs.Tells.{Tells, fresh_tells}
use Rattle.ledger.proofs.ToldProof.{plain, plain_told, noted_step, after_told, book_entered}
use Rattle.ledger.proofs.StoreToldProof.{made_book}
use Rattle.ledger.proofs.OwnToldProof.{own_book, fresh_owned}

-- ── the book inside the ledger is the book ──

book_step : (g : Geometry) (L : Ledger) (c : Command) → (step g L c).book ≡ enter g.pages L.book (told (entry_of (clerk g) L c))
unfolding step noted
book_step g L c = book_entered g L c (says g L c) (λ l e. e)

book_from_lem : (g : Geometry) (L : Ledger) → BookKept g (clerk g) L L.book (state_from (clerk g) L)
book_from_lem g L [] = refl
book_from_lem g L (c ∷ l) =
    book_from_lem g (step g L c) l ∙ ap (λ (B : Book). book_from g.pages B (history_from (clerk g) (step g L c) l)) (book_step g L c)

-- THE BOOK INSIDE THE LEDGER IS THE BOOK
pub ledger_book : LedgerBook
unfolding Rattle.ledger.specs.Ledger.fresh
ledger_book = record {
  alone = λ g. book_from_lem g Rattle.ledger.specs.Ledger.fresh;
  lent = made_book;
  own = λ g M e. own_book g (making_is g M e).0 (make_after g M) Rattle.ledger.specs.Ledger.fresh (fresh_owned g M e);
}

-- ── beside the model: the calls are those that meet none of 2, 3 and 4 ──

abbrev pub plains : List Command → List Screened
plains l = map plain l

pub plains_append : (l m : List Command) → plains (l ++ m) ≡ plains l ++ plains m
plains_append [] m = refl
plains_append (c ∷ l) m = ap {B = List Screened} (λ k. plain c ∷ k) (plains_append l m)

module _ (g : Geometry) (inside : Inside g) where
  -- the two machines side by side
  pub beside : (l : List Command) (L : Ledger) (T : State) → Fine g T → Tells g L T →
      Fine g (state_from (model g) T (plains l)) × Tells g (state_from (clerk g) L l) (state_from (model g) T (plains l)) ×
      (history_from (model g) T (plains l) ≡ history_from (clerk g) L l)
  beside [] L T fine t = (fine, t, refl)
  beside (c ∷ l) L T fine t =
      let e : answer g T (plain c) ≡ says g L c = plain_told g inside c L T fine t in
      let w = after_told g inside L T fine t (plain c) in
      let u = subst (λ (K : Ledger). Tells g K (model_after g T (plain c))) (noted_step g L c (answer g T (plain c)) e) w.1 in
      let r = beside l (step g L c) (model_after g T (plain c)) w.0 u in
      let d : entry_of (model g) T (plain c) ≡ entry_of (clerk g) L c = λ i. record { call = c; answer = e i } in
      (r.0, r.1, ap₂ {C = List Entry} (λ x m. x ∷ m) d r.2)

  -- what a call meets before k, by the ledger and by the model: it is read off the reply, which is the same
  none_told : (L : Ledger) (T : State) → Fine g T → Tells g L T → (c : Command) (k : ℕ) →
      NoneBefore k (screened_conditions g T (plain c)) ↔ NoneBefore k (refusals_of g L c)
  unfolding answer says
  none_told L T fine t c k =
      let same : answer g T (plain c) ≡ says g L c = plain_told g inside c L T fine t in
      let m = earlier_iff (screened_conditions g T (plain c)) (result g T c) 1 (all_ordered g T (plain c)) k in
      let l = earlier_iff (refusals_of g L c) (numbers_of (account g L c).result) 4 ((Rattle.ledger.proofs.EachTold.told c).ordered g L) k in
      (λ h. l.1 (λ n e d. m.0 h n e (same ∙ d)), λ h. m.1 (λ n e d. l.0 h n e (sym same ∙ d)))

  -- what the calls ahead of one lead to
  module _ (before : List Command) where
    abbrev L : Ledger
    L = state_from (clerk g) Rattle.ledger.specs.Ledger.fresh before

    abbrev T : State
    T = state_from (model g) (fresh g) (plains before)

    side : Fine g T × Tells g L T × (history_from (model g) (fresh g) (plains before) ≡ history_from (clerk g) Rattle.ledger.specs.Ledger.fresh before)
    side = beside before Rattle.ledger.specs.Ledger.fresh (fresh g) (fresh_fine g inside) (fresh_tells g inside)

    same_answer : (c : Command) → answer g T (plain c) ≡ says g L c
    same_answer c = plain_told g inside c L T side.0 side.1

    whole : WholeList (clerk g) g.pages (blocks g) Rattle.ledger.specs.Ledger.fresh before
    whole =
        let W = whole_list g inside (plains before) in
        let H = side.2 in
        record {
          full = λ w r x k e.
              let i = W.full (plain w) r x k e in
              let n = none_told L T side.0 side.1 w 13 in
              let kept : ℕ → List Entry → Type 0 = λ b h. OnPage (book g.pages h) b ⊎ ((queued_in g.pages h b ≡ true) ⊎ (unsynced h b ≡ true)) in (
                λ a. let q = i.0 (same_answer w ∙ a) in (n.0 q.0, λ b l. subst (kept b) H (q.1 b l)),
                λ q. sym (same_answer w) ∙ i.1 (n.1 q.0, λ b l. subst (kept b) (sym H) (q.1 b l)),
              );
          gives = λ w r x k l e a.
              let q = W.gives (plain w) r x k l e (same_answer w ∙ a) in (
                q.0,
                q.1,
                q.2,
                q.3,
                λ p. q.4 (subst (λ h. OnPage (book g.pages h) q.0) (sym H) p),
                subst (λ h. queued_in g.pages h q.0 ≡ false) H q.5,
                subst (λ h. unsynced h q.0 ≡ false) H q.6,
              );
          frees = λ xs ys b e. W.frees xs ys b (ap events H ∙ e);
        }

  facts : (before : List Command) → HistoryFacts (clerk g) g.pages (blocks g) Rattle.ledger.specs.Ledger.fresh before
  facts before =
      let W = history_facts g inside (plains before) in
      let H = (side before).2 in
      let entry : (i : Command) → entry_of (clerk g) (L before) i ≡ entry_of (model g) (T before) (plain i) =
      λ i j. record { call = i; answer = sym (same_answer before i) j } in
      record {
        given_less_freed = λ b.
            subst (λ h. Standing b (events h) ↔ (OnPage (book g.pages h) b ⊎ (queued_in g.pages h b ≡ true))) H (W.given_less_freed b);
        held = subst (λ h. given_in (events h) ≡ freed_in (events h) + kept_count g.pages (blocks g) h) H W.held;
        sealed = λ more v w r x l m ev ew s av aw.
            W.sealed (plains more) (plain v) (plain w) r x l m ev ew (subst (λ h. Sealed (book g.pages h) r) (sym H) s) (same_answer before v ∙ av)
            (subst (λ k. answer g (state_from (model g) (fresh g) k) (plain w) ≡ accepted m) (plains_append before more) (same_answer (before ++ more) w ∙ aw));
        room = λ c i l ec ac e.
            W.room (plain c) (plain i) l ec (same_answer before c ∙ ac)
            (subst (λ k. answer g (state_from (model g) (fresh g) k) (plain i) ≡ refused 14) (plains_append before (c ∷ [])) (same_answer (before ++ (c ∷ [])) i ∙ e));
        birth_is = λ i b v n.
            subst (LastGave b v) (ap (history_from (model g) (fresh g)) (sym (plains_append before (i ∷ []))) ∙ (side (before ++ (i ∷ []))).2)
            (W.birth_is (plain i) b v (subst (Names b v) (entry i) n));
        given_after_barrier = λ xs ys zs e f b s. W.given_after_barrier xs ys zs e f b (H ∙ s);
        listed_after_barrier = λ xs ys zs e f b s. W.listed_after_barrier xs ys zs e f b (H ∙ s);
        turn_frees_queued = λ i b n.
            subst (λ h. queued_in g.pages h b ≡ true) H (W.turn_frees_queued (plain i) b (subst (Reclaims b) (entry i) n));
        kept_exactly = λ i l b e a m.
            subst (λ h. Covered b (runs_of_pairs l) ↔ ((OnPage (book g.pages h) b → ⊥) × (queued_in g.pages h b ≡ false) × (unsynced h b ≡ false))) H
            (W.kept_exactly (plain i) l b e (same_answer before i ∙ a) m);
        turns = λ more k p c b q.
            let now : List Entry = history_from (clerk g) Rattle.ledger.specs.Ledger.fresh before in
            let later : history_from (model g) (T before) (plains more) ≡ history_from (clerk g) (L before) more =
            (beside more (L before) (T before) (side before).0 (side before).1).2 in
            subst (Some (Reclaims b)) later
            (W.turns (plains more) k p
            (subst (λ h. rounded_up (tally (queued_in g.pages h) (blocks g)) k ≤ turns_in k (history_from (model g) (T before) (plains more))) (sym H)
            (subst (λ h. rounded_up (tally (queued_in g.pages now) (blocks g)) k ≤ turns_in k h) (sym later) c))
            b (subst (λ h. queued_in g.pages h b ≡ true) (sym H) q));
        resolve_is = λ i l e v n.
            subst (λ h. ResolveIs (book g.pages h).names l (says g (L before) i)) H
            (subst (ResolveIs (book g.pages (history_from (model g) (fresh g) (plains before))).names l) (same_answer before i)
            (W.resolve_is (plain i) l e v ((none_told (L before) (T before) (side before).0 (side before).1 i 5).1 n)));
        names_few = subst (λ h. length (book g.pages h).names ≤ 32) H W.names_few;
        names_valid = λ l r n. W.names_valid l r (subst (λ h. HasName (book g.pages h).names l r) (sym H) n);
        names_once = subst (λ h. OnceNamed (book g.pages h).names) H W.names_once;
        open_one_lem = λ r l k o a b.
            W.open_one_lem r l k (subst (λ h. OpenIn (book g.pages h) r) (sym H) o)
            (subst (λ h. HasName (book g.pages h).names l r) (sym H) a) (subst (λ h. HasName (book g.pages h).names k r) (sym H) b);
        named_stays = λ l r n.
            subst (λ h. InBook (book g.pages h) r) H (W.named_stays l r (subst (λ h. HasName (book g.pages h).names l r) (sym H) n));
        seal_moves = λ i r m rest e a.
            let w = W.seal_moves (plain i) r m rest e (same_answer before i ∙ a) in
            let K : List Screened = plains before ++ (plain i ∷ []) in
            subst (λ h. SealMoved (book g.pages (history_from (clerk g) Rattle.ledger.specs.Ledger.fresh before)).names (book g.pages h).names r m)
            (ap (history_from (model g) (fresh g)) (sym (plains_append before (i ∷ []))) ∙ (side (before ++ (i ∷ []))).2)
            (subst (λ h. SealMoved (book g.pages h).names (book g.pages (history_from (model g) (fresh g) K)).names r m) H w);
      }

-- DEMAND 3 AND THE TWO FACTS, OF THE LEDGER ALONE
pub ledger_demand : LedgerDemand
ledger_demand g inside l =
    (each_list (clerk g) g.pages (blocks g) Rattle.ledger.specs.Ledger.fresh (whole g inside) l, facts g inside l)
