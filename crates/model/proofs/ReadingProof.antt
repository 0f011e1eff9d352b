-- THE READING LAWS OF THE CALLS AS THEY ARE MADE, on any tables. The statement is `Reading` in specs/ReadingLaws.antt.
use mathlib.Core.Path.{◌≡◌, sym, ap, ◌∙◌, subst}
use mathlib.Core.Logic.{inl, inr}
use mathlib.Core.List.{List, [], ◌∷◌}
use Prim.Native.Nat.{ℕ}
use Rattle.answer.specs.Reply.{Reply, accepted, refused}
use Rattle.answer.proofs.Cases.{cases}
use Rattle.geometry.specs.declared.Geometry.{Geometry}
use Rattle.model.specs.Layout.{state_of}
use Rattle.model.specs.Memory.{Memory}
use Rattle.model.specs.History.{Machine, was_accepted, state_from}
use Rattle.model.specs.Simulation.{Simulation}
use Rattle.model.specs.Demand.{met_by, machine, with_out, own_store}
use Rattle.model.specs.ReadingLaws.{Shows, Changes, Lost, Seals, Touched, ShowsFrom, Opens, ReadingLaws, Reading}
use Rattle.model.specs.Model.{model}
use Rattle.model.proofs.Keeps.{accepted_is, sound_fine}
use Rattle.model.proofs.Transfer.{asked, same_state, keeps}
use Rattle.model.proofs.Demands.{simulation, own_simulation}
use Rattle.model.proofs.ReadingFacts.{reading_laws}

-- ── a machine that does what another does reads as it does ──

module _ (M O : Machine) (Z : Simulation M O) where
  shows_back : (U : M.Tables) → Z.Fits U → (r x : ℕ) (l : List ℕ) → Shows O (Z.shows U) r x l → Shows M U r x l
  shows_back U h r x l S = record {
    gives = λ v m c a. S.gives (Z.looks U v) m (Z.call U v ∙ c) (Z.answer U v h ∙ a);
    there = λ v n c a. S.there (Z.looks U v) n (Z.call U v ∙ c) (Z.answer U v h ∙ a);
  }

  lost_back : (U : M.Tables) → Z.Fits U → (r x : ℕ) → Lost O (Z.shows U) r x → Lost M U r x
  lost_back U h r x W = record {
    unread = λ v m c a. W.unread (Z.looks U v) m (Z.call U v ∙ c) (Z.answer U v h ∙ a);
    eight = λ v n c a. W.eight (Z.looks U v) n (Z.call U v ∙ c) (Z.answer U v h ∙ a);
  }

  touched_back : (more : List M.Asked) (U : M.Tables) → Z.Fits U → (r x : ℕ) →
      Touched O (Z.shows U) r x (asked M O Z U more) → Touched M U r x more
  unfolding asked
  touched_back [] U h r x w = w
  touched_back (i ∷ more) U h r x w =
      cases w
      (λ t. inl (
        ap was_accepted (sym (Z.answer U i h)) ∙ t.0,
        cases t.1
            (λ c. inl (subst (Changes r x) (Z.call U i) c))
            (λ s. inr (subst Seals (Z.call U i) s.0, lost_back (M.after U i) (Z.fits U i h) r x (subst (λ N. Lost O N r x) (Z.after U i h) s.1))),
      ))
      (λ t. inr (touched_back more (M.after U i) (Z.fits U i h) r x
      (subst (λ N. Touched O N r x (asked M O Z (M.after U i) more)) (Z.after U i h) t)))

  from_back : (U : M.Tables) → Z.Fits U → (r x : ℕ) (l : List ℕ) → ShowsFrom O (Z.shows U) r x l → ShowsFrom M U r x l
  from_back U h r x l S more n =
      shows_back (state_from M U more) (keeps M O Z more U h) r x l
      (subst (λ W. Shows O W r x l) (same_state M O Z more U h)
      (S (asked M O Z U more) (λ w. n (touched_back more U h r x w))))

  module _ (P : ℕ) (U : M.Tables) (h : Z.Fits U) (L : ReadingLaws O P (Z.shows U)) where
    -- after a call, and after any more
    next_back : (c : M.Asked) (r x : ℕ) (l : List ℕ) → ShowsFrom O (O.after (Z.shows U) (Z.looks U c)) r x l → ShowsFrom M (M.after U c) r x l
    next_back c r x l S = from_back (M.after U c) (Z.fits U c h) r x l (subst (λ W. ShowsFrom O W r x l) (Z.after U c h) S)

    next_answer : (c v : M.Asked) (a : Reply) → M.answer (M.after U c) v ≡ a →
        O.answer (O.after (Z.shows U) (Z.looks U c)) (Z.looks (M.after U c) v) ≡ a
    next_answer c v a e = ap (λ Y. O.answer Y (Z.looks (M.after U c) v)) (Z.after U c h) ∙ Z.answer (M.after U c) v (Z.fits U c h) ∙ e

    later_state : (c : M.Asked) (more : List M.Asked) →
        state_from O (O.after (Z.shows U) (Z.looks U c)) (asked M O Z (M.after U c) more) ≡ Z.shows (state_from M (M.after U c) more)
    later_state c more =
        ap (λ W. state_from O W (asked M O Z (M.after U c) more)) (Z.after U c h) ∙ same_state M O Z more (M.after U c) (Z.fits U c h)

    later_answer : (c : M.Asked) (more : List M.Asked) (v : M.Asked) (a : Reply) → M.answer (state_from M (M.after U c) more) v ≡ a →
        O.answer (state_from O (O.after (Z.shows U) (Z.looks U c)) (asked M O Z (M.after U c) more)) (Z.looks (state_from M (M.after U c) more) v) ≡ a
    later_answer c more v a e =
        let W = state_from M (M.after U c) more in
        ap (λ Y. O.answer Y (Z.looks W v)) (later_state c more) ∙ Z.answer W v (keeps M O Z more (M.after U c) (Z.fits U c h)) ∙ e

    pub laws_back : ReadingLaws M P U
    laws_back = record {
      stays = λ v r x l e a. from_back U h r x l (L.stays (Z.looks U v) r x l (Z.call U v ∙ e) (Z.answer U v h ∙ a));
      begun = λ c n x rest e a hx. next_back c n x [] (L.begun (Z.looks U c) n x rest (Z.call U c ∙ e) (Z.answer U c h ∙ a) hx);
      sealed = λ c v r n x l rest e a ev av.
          next_back c n x l
          (L.sealed (Z.looks U c) (Z.looks U v) r n x l rest (Z.call U c ∙ e) (Z.answer U c h ∙ a) (Z.call U v ∙ ev) (Z.answer U v h ∙ av));
      forked = λ c v r n x l rest e a ev av.
          next_back c n x l
          (L.forked (Z.looks U c) (Z.looks U v) r n x l rest (Z.call U c ∙ e) (Z.answer U c h ∙ a) (Z.call U v ∙ ev) (Z.answer U v h ∙ av));
      written = λ c r x k b rest e a.
          next_back c r x (b ∷ r ∷ []) (L.written (Z.looks U c) r x k b rest (Z.call U c ∙ e) (Z.answer U c h ∙ a));
      erased = λ c r x l e a. next_back c r x [] (L.erased (Z.looks U c) r x l (Z.call U c ∙ e) (Z.answer U c h ∙ a));
      gone = λ c r l e a more v x m ev av.
          L.gone (Z.looks U c) r l (Z.call U c ∙ e) (Z.answer U c h ∙ a) (asked M O Z (M.after U c) more)
          (Z.looks (state_from M (M.after U c) more) v) x m (Z.call (state_from M (M.after U c) more) v ∙ ev) (later_answer c more v (accepted m) av);
      kept = λ c v q r x l m e a ev av.
          cases (L.kept (Z.looks U c) (Z.looks U v) q r x l m (Z.call U c ∙ e) (Z.answer U c h ∙ a) (Z.call U v ∙ ev) (Z.answer U v h ∙ av))
          (λ s. inl (shows_back (M.after U c) (Z.fits U c h) r x l (subst (λ N. Shows O N r x l) (Z.after U c h) s)))
          (λ s. inr (lost_back (M.after U c) (Z.fits U c h) r x (subst (λ N. Lost O N r x) (Z.after U c h) s)));
      taken = λ c v w r x y l ev av ew aw more u z m eu au.
          L.taken (Z.looks U c) (Z.looks U v) (Z.looks (M.after U c) w) r x y l (Z.call U v ∙ ev) (Z.answer U v h ∙ av)
          (Z.call (M.after U c) w ∙ ew) (next_answer c w (refused 8) aw)
          (asked M O Z (M.after U c) more) (Z.looks (state_from M (M.after U c) more) u) z m
          (Z.call (state_from M (M.after U c) more) u ∙ eu) (later_answer c more u (accepted m) au);
      rises = λ c d n m rest others more oc od ac ad.
          let W = state_from M (M.after U c) more in
          L.rises (Z.looks U c) (Z.looks W d) n m rest others (asked M O Z (M.after U c) more)
          (subst Opens (sym (Z.call U c)) oc) (subst Opens (sym (Z.call W d)) od)
          (Z.answer U c h ∙ ac) (later_answer c more d (accepted (m ∷ others)) ad);
      unread = λ c v n x rest l oc ac ev av.
          L.unread (Z.looks U c) (Z.looks U v) n x rest l (subst Opens (sym (Z.call U c)) oc)
          (Z.answer U c h ∙ ac) (Z.call U v ∙ ev) (Z.answer U v h ∙ av);
    }

-- every law begins with an accepted call: it is enough that they hold where one is accepted
where_accepted : (M : Machine) (P : ℕ) (U : M.Tables) → ((c : M.Asked) (l : List ℕ) → M.answer U c ≡ accepted l → ReadingLaws M P U) → ReadingLaws M P U
where_accepted M P U L = record {
  stays = λ v r x l e a. (L v l a).stays v r x l e a;
  begun = λ c n x rest e a. (L c (n ∷ rest) a).begun c n x rest e a;
  sealed = λ c v r n x l rest e a. (L c (n ∷ rest) a).sealed c v r n x l rest e a;
  forked = λ c v r n x l rest e a. (L c (n ∷ rest) a).forked c v r n x l rest e a;
  written = λ c r x k b rest e a. (L c (b ∷ rest) a).written c r x k b rest e a;
  erased = λ c r x l e a. (L c l a).erased c r x l e a;
  gone = λ c r l e a. (L c l a).gone c r l e a;
  kept = λ c v q r x l m e a. (L c m a).kept c v q r x l m e a;
  taken = λ c v w r x y l ev a. (L v l a).taken c v w r x y l ev a;
  rises = λ c d n m rest others more oc od a. (L c (n ∷ rest) a).rises c d n m rest others more oc od a;
  unread = λ c v n x rest l oc a. (L c (n ∷ rest) a).unread c v n x rest l oc a;
}

-- ── lent memory, and the store that keeps its own log ──

module _ (g : Geometry) where
  lent_laws : (t : List ℕ) → ReadingLaws (machine g) g.pages t
  unfolding simulation
  lent_laws t =
      where_accepted (machine g) g.pages t
      (λ i l e.
      let A = (accepted_is g (met_by t i) i.call l e).0 in
      laws_back (machine g) (model g) (simulation g) g.pages t tt
      (reading_laws g A.inside (state_of g t) (sound_fine g t i.log A.sound)))

  own_laws : (M : Memory) → ReadingLaws (own_store g) g.pages M
  unfolding own_simulation
  own_laws M =
      where_accepted (own_store g) g.pages M
      (λ a l e.
      let A = (accepted_is g (with_out M a.out) a.call l e).0 in
      laws_back (own_store g) (model g) (own_simulation g) g.pages M tt
      (reading_laws g A.inside (state_of g M.tables) (sound_fine g M.tables M.log A.sound)))

-- THE READING LAWS
pub reading : Reading
reading g = (lent_laws g, own_laws g)
