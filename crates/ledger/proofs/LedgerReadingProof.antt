-- The reading laws of the ledger alone: it answers as the model does. The statement is `LedgerReading` in specs/LedgerReading.antt.
use mathlib.Core.Path.{◌≡◌, sym, ap, ◌∙◌}
use mathlib.Core.Logic.{inl, inr}
use mathlib.Core.List.{List, [], ◌∷◌}
use Prim.Native.Nat.{ℕ}
use Rattle.answer.specs.Reply.{Reply, accepted, refused}
use Rattle.answer.proofs.Cases.{cases}
use Rattle.geometry.specs.declared.Geometry.{Geometry}
use Rattle.geometry.specs.Limits.{Inside}
use Rattle.model.specs.State.{State, fresh}
use Rattle.model.specs.History.{was_accepted, state_from}
use Rattle.model.specs.ReadingLaws.{Shows, Lost, Touched, ShowsFrom, ReadingLaws}
use Rattle.model.specs.Model.{answer, model_after, model}
use Rattle.model.specs.Command.{Command}
use Rattle.model.proofs.Fine.{Fine}
use Rattle.model.proofs.StepFacts.{fresh_fine}
use Rattle.model.proofs.ReadingFacts.{reading_laws}
use Rattle.ledger.specs.Ledger.{Ledger, says, step}
use Rattle.ledger.specs.Alone.{clerk}
use Rattle.ledger.specs.LedgerReading.{LedgerReading}
use Rattle.ledger.proofs.Tells.{Tells, fresh_tells}
use Rattle.ledger.proofs.ToldProof.{plain, plain_told}
use Rattle.ledger.proofs.AloneProof.{plains, beside}

module _ (g : Geometry) (inside : Inside g) where
  shows_told : (L : Ledger) (T : State) → Fine g T → Tells g L T → (r x : ℕ) (l : List ℕ) → Shows (model g) T r x l → Shows (clerk g) L r x l
  shows_told L T F t r x l S = record {
    gives = λ v m c a. S.gives (plain v) m c (plain_told g inside v L T F t ∙ a);
    there = λ v n c a. S.there (plain v) n c (plain_told g inside v L T F t ∙ a);
  }

  lost_told : (L : Ledger) (T : State) → Fine g T → Tells g L T → (r x : ℕ) → Lost (model g) T r x → Lost (clerk g) L r x
  lost_told L T F t r x W = record {
    unread = λ v m c a. W.unread (plain v) m c (plain_told g inside v L T F t ∙ a);
    eight = λ v n c a. W.eight (plain v) n c (plain_told g inside v L T F t ∙ a);
  }

  touched_told : (more : List Command) (L : Ledger) (T : State) → Fine g T → Tells g L T → (r x : ℕ) → Touched (model g) T r x (plains more) →
      Touched (clerk g) L r x more
  touched_told [] L T F t r x w = w
  touched_told (c ∷ more) L T F t r x w =
      let (fine, tells, same) = beside g inside (c ∷ []) L T F t in
      cases w
      (λ u. inl (
        ap was_accepted (sym (plain_told g inside c L T F t)) ∙ u.0,
        cases u.1 (λ d. inl d) (λ d. inr (d.0, lost_told (step g L c) (model_after g T (plain c)) fine tells r x d.1)),
      ))
      (λ u. inr (touched_told more (step g L c) (model_after g T (plain c)) fine tells r x u))

  from_told : (L : Ledger) (T : State) → Fine g T → Tells g L T → (r x : ℕ) (l : List ℕ) → ShowsFrom (model g) T r x l → ShowsFrom (clerk g) L r x l
  from_told L T F t r x l S more n =
      let (fine, tells, same) = beside g inside more L T F t in
      shows_told (state_from (clerk g) L more) (state_from (model g) T (plains more)) fine tells r x l
      (S (plains more) (λ w. n (touched_told more L T F t r x w)))

  module _ (L : Ledger) (T : State) (F : Fine g T) (t : Tells g L T) where
    same : (c : Command) (a : Reply) → says g L c ≡ a → answer g T (plain c) ≡ a
    same c a e = plain_told g inside c L T F t ∙ e

    -- after a call
    next_told : (c : Command) (r x : ℕ) (l : List ℕ) → ShowsFrom (model g) (model_after g T (plain c)) r x l → ShowsFrom (clerk g) (step g L c) r x l
    next_told c r x l S =
        let (fine, tells, e) = beside g inside (c ∷ []) L T F t in
        from_told (step g L c) (model_after g T (plain c)) fine tells r x l S

    -- after a call and any more
    later_same : (c : Command) (more : List Command) (d : Command) (a : Reply) → says g (state_from (clerk g) (step g L c) more) d ≡ a →
        answer g (state_from (model g) (model_after g T (plain c)) (plains more)) (plain d) ≡ a
    later_same c more d a e =
        let (fine, tells, h) = beside g inside (c ∷ more) L T F t in
        plain_told g inside d (state_from (clerk g) (step g L c) more) (state_from (model g) (model_after g T (plain c)) (plains more)) fine tells ∙ e

    -- any ledger that tells a fine state
    pub laws_told : ReadingLaws (clerk g) g.pages L
    laws_told =
        let W = reading_laws g inside T F in
        record {
          stays = λ v r x l e a. from_told L T F t r x l (W.stays (plain v) r x l e (same v (accepted l) a));
          begun = λ c n x rest e a h. next_told c n x [] (W.begun (plain c) n x rest e (same c (accepted (n ∷ rest)) a) h);
          sealed = λ c v r n x l rest e a ev av.
              next_told c n x l (W.sealed (plain c) (plain v) r n x l rest e (same c (accepted (n ∷ rest)) a) ev (same v (accepted l) av));
          forked = λ c v r n x l rest e a ev av.
              next_told c n x l (W.forked (plain c) (plain v) r n x l rest e (same c (accepted (n ∷ rest)) a) ev (same v (accepted l) av));
          written = λ c r x k b rest e a. next_told c r x (b ∷ r ∷ []) (W.written (plain c) r x k b rest e (same c (accepted (b ∷ rest)) a));
          erased = λ c r x l e a. next_told c r x [] (W.erased (plain c) r x l e (same c (accepted l) a));
          gone = λ c r l e a more v x m ev av.
              W.gone (plain c) r l e (same c (accepted l) a) (plains more) (plain v) x m ev (later_same c more v (accepted m) av);
          kept = λ c v q r x l m e a ev av.
              let (fine, tells, h) = beside g inside (c ∷ []) L T F t in
              cases (W.kept (plain c) (plain v) q r x l m e (same c (accepted m) a) ev (same v (accepted l) av))
              (λ s. inl (shows_told (step g L c) (model_after g T (plain c)) fine tells r x l s))
              (λ s. inr (lost_told (step g L c) (model_after g T (plain c)) fine tells r x s));
          taken = λ c v w r x y l ev av ew aw more u z m eu au.
              W.taken (plain c) (plain v) (plain w) r x y l ev (same v (accepted l) av) ew (later_same c [] w (refused 8) aw)
              (plains more) (plain u) z m eu (later_same c more u (accepted m) au);
          rises = λ c d n m rest others more oc od ac ad.
              W.rises (plain c) (plain d) n m rest others (plains more) oc od
              (same c (accepted (n ∷ rest)) ac) (later_same c more d (accepted (m ∷ others)) ad);
          unread = λ c v n x rest l oc ac ev av.
              W.unread (plain c) (plain v) n x rest l oc (same c (accepted (n ∷ rest)) ac) ev (same v (accepted l) av);
        }

pub ledger_reading : LedgerReading
ledger_reading g inside before =
    let (fine, tells, same) = beside g inside before Rattle.ledger.specs.Ledger.fresh (fresh g) (fresh_fine g inside) (fresh_tells g inside) in
    laws_told g inside (state_from (clerk g) Rattle.ledger.specs.Ledger.fresh before) (state_from (model g) (fresh g) (plains before)) fine tells
