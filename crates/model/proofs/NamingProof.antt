-- THE NAMING LAWS OF THE CALLS AS THEY ARE MADE, on any tables. The statement is `Naming` in specs/NamingLaws.antt.
use mathlib.Core.Path.{◌≡◌, refl, sym, ap, ◌∙◌, subst}
use mathlib.Core.Bool.{Bool, true, false, not, true≢false}
use mathlib.Core.List.{List, [], ◌∷◌}
use mathlib.Core.Logic.{inl}
use Prim.Native.Nat.{ℕ, ◌≤◌, ◌<◌}
use native.Mathlib.Omega.{arith}
use lib.ListN.{length}
use borrow.Author.Tests.{not-false}
use Rattle.answer.specs.Reply.{Reply, accepted, refused}
use Rattle.answer.specs.Refusal.{Condition, decide}
use Rattle.answer.proofs.Cases.{cases, lt?}
use Rattle.geometry.specs.declared.Geometry.{Geometry}
use Rattle.geometry.specs.Limits.{Inside, fits}
use Rattle.geometry.proofs.Made.{fits_inside}
use Rattle.model.specs.Layout.{state_of}
use Rattle.model.specs.Calls.{conditions, result}
use Rattle.model.specs.Memory.{Memory, short?, sound?, reply}
use Rattle.model.specs.SoundStore.{SoundStore}
use Rattle.model.specs.History.{Machine, was_accepted}
use Rattle.model.specs.Simulation.{Simulation}
use Rattle.model.specs.Demand.{met_by, machine, with_out, own_store}
use Rattle.model.specs.NamingLaws.{Resolves, Unused, Did, GivesNumber, OfName, NeedsOpen, Deletes, EachNamed, Different, NamingLaws, Naming}
use Rattle.model.specs.Model.{model}
use Rattle.model.specs.Command.{Command}
use Rattle.model.specs.Command.{Seal, Attach, Detach}
use Rattle.model.proofs.SoundTest.{sound_iff}
use Rattle.model.proofs.Keeps.{sound_fine}
use Rattle.model.proofs.Demands.{simulation, own_simulation}
use Rattle.model.proofs.NamingFacts.{each_named, naming_laws}

-- ── a machine that answers as another does has its names ──

-- M on the tables U answers as O does on W
pub record Alike (M O : Machine) (U : M.Tables) (W : O.Tables) : Type 0 where
  pub looks : M.Asked → O.Asked
  pub call : (i : M.Asked) → O.call (looks i) ≡ M.call i
  pub answer : (i : M.Asked) → O.answer W (looks i) ≡ M.answer U i

module _ (M O : Machine) where
  module _ (U : M.Tables) (W : O.Tables) (A : Alike M O U W) where
    resolves_back : (l : List ℕ) (r : ℕ) → Resolves O W l r → Resolves M U l r
    resolves_back l r S = record {
      gives = λ v m c a. S.gives (A.looks v) m (A.call v ∙ c) (A.answer v ∙ a);
      there = λ v n c a. S.there (A.looks v) n (A.call v ∙ c) (A.answer v ∙ a);
    }

    unused_back : (l : List ℕ) → Unused O W l → Unused M U l
    unused_back l S = record {
      none = λ v m c a. S.none (A.looks v) m (A.call v ∙ c) (A.answer v ∙ a);
      seventeen = λ v n c a. S.seventeen (A.looks v) n (A.call v ∙ c) (A.answer v ∙ a);
    }

    asks_on : (l : List ℕ) (r : ℕ) → GivesNumber M U l r → GivesNumber O W l r
    asks_on l r (v, c, a) = (A.looks v, A.call v ∙ c, A.answer v ∙ a)

    did_on : (c : M.Asked) (d : Command) → Did M U c d → Did O W (A.looks c) d
    did_on c d (e, a) = (A.call c ∙ e, ap was_accepted (A.answer c) ∙ a)

    did_back : (c : M.Asked) (d : Command) → Did O W (A.looks c) d → Did M U c d
    did_back c d (e, a) = (sym (A.call c) ∙ e, ap was_accepted (sym (A.answer c)) ∙ a)

  -- THE LAWS CARRY OVER: they speak of some tables, and of those after one call. (No simulation is asked for: the ledger answers so too.)
  module _ (U : M.Tables) (W : O.Tables) (A : Alike M O U W) (next : (c : M.Asked) → Alike M O (M.after U c) (O.after W (A.looks c))) where
    resolves_after : (c : M.Asked) (l : List ℕ) (r : ℕ) → Resolves O (O.after W (A.looks c)) l r → Resolves M (M.after U c) l r
    resolves_after c = resolves_back (M.after U c) (O.after W (A.looks c)) (next c)

    unused_after : (c : M.Asked) (l : List ℕ) → Unused O (O.after W (A.looks c)) l → Unused M (M.after U c) l
    unused_after c = unused_back (M.after U c) (O.after W (A.looks c)) (next c)

    pub carried_naming : NamingLaws O W → NamingLaws M U
    carried_naming L =
        let asks : (l : List ℕ) (r : ℕ) → GivesNumber M U l r → GivesNumber O W l r = asks_on U W A in
        let on : (c : M.Asked) (d : Command) → Did M U c d → Did O W (A.looks c) d = did_on U W A in
        let back : (c : M.Asked) (d : Command) → Did O W (A.looks c) d → Did M U c d = did_back U W A in
        record {
          attached = λ c l r d. resolves_after c l r (L.attached (A.looks c) l r (on c (Attach l r) d));
          detached = λ c l d. unused_after c l (L.detached (A.looks c) l (on c (Detach l) d));
          sealed = λ c l r n rest e a B. resolves_after c l n (L.sealed (A.looks c) l r n rest (A.call c ∙ e) (A.answer c ∙ a) (asks l r B));
          stays = λ c l r B d s.
              resolves_after c l r (L.stays (A.looks c) l r (asks l r B) (λ w. d (back c (Detach l) w)) (λ w. s (back c (Seal r) w)));
          unused = λ c v l e a n.
              unused_after c l (L.unused (A.looks c) (A.looks v) l (A.call v ∙ e) (A.answer v ∙ a) (λ r w. n r (back c (Attach l r) w)));
          there = λ v l r x B e a. L.there (A.looks v) l r x (asks l r B) (A.call v ∙ e) (A.answer v ∙ a);
          bad = λ v l n o b a. L.bad (A.looks v) l n (subst (OfName l) (sym (A.call v)) o) b (A.answer v ∙ a);
          bad_never = λ v l m o b a. L.bad_never (A.looks v) l m (subst (OfName l) (sym (A.call v)) o) b (A.answer v ∙ a);
          good = λ v l o b a. L.good (A.looks v) l (subst (OfName l) (sym (A.call v)) o) b (A.answer v ∙ a);
          in_use = λ v l r q m B e a. L.in_use (A.looks v) l r q m (asks l r B) (A.call v ∙ e) (A.answer v ∙ a);
          second = λ v l k r m B C n o a.
              L.second (A.looks v) l k r m (asks l r B) (asks k r C) n (subst (NeedsOpen r) (sym (A.call v)) o) (A.answer v ∙ a);
          few = λ ls d u. L.few ls d (each_named (λ l w. (w.0, asks l w.0 w.1)) ls u);
          unknown = λ v w l m ew aw e a.
              L.unknown (A.looks v) (A.looks w) l m (A.call w ∙ ew) (A.answer w ∙ aw) (A.call v ∙ e) (A.answer v ∙ a);
          named = λ v l r n B d a. L.named (A.looks v) l r n (asks l r B) (subst (Deletes r) (sym (A.call v)) d) (A.answer v ∙ a);
          named_never = λ v l r m B d a. L.named_never (A.looks v) l r m (asks l r B) (subst (Deletes r) (sym (A.call v)) d) (A.answer v ∙ a);
        }

  -- so does a machine that does what another does
  module _ (Z : Simulation M O) (U : M.Tables) (h : Z.Fits U) where
    abbrev alike : Alike M O U (Z.shows U)
    alike = record { looks = Z.looks U; call = Z.call U; answer = λ i. Z.answer U i h }

    alike_after_lem : (c : M.Asked) → Alike M O (M.after U c) (O.after (Z.shows U) (Z.looks U c))
    alike_after_lem c = record {
      looks = Z.looks (M.after U c);
      call = Z.call (M.after U c);
      answer = λ i. ap (λ Y. O.answer Y (Z.looks (M.after U c) i)) (Z.after U c h) ∙ Z.answer (M.after U c) i (Z.fits U c h);
    }

    pub simulated_naming : NamingLaws O (Z.shows U) → NamingLaws M U
    simulated_naming L = carried_naming U (Z.shows U) alike alike_after_lem L

-- ── each law is about a call that is not refused with 2, 3 or 4: it is enough that they hold where there is one ──

-- the reply is no refusal below 5
abbrev Heard : Reply → Type 0
Heard A = (n : ℕ) → A ≡ refused n → n < 5 → ⊥

accepted_heard : (A : Reply) → was_accepted A ≡ true → Heard A
accepted_heard A w n e h = true≢false (sym w ∙ ap was_accepted e)

refused_heard : (m : ℕ) → (m < 5 → ⊥) → Heard (refused m)
refused_heard m k n e h = k (subst (λ i. i < 5) (sym (ap number e)) h)
  where
    number : Reply → ℕ
    number (accepted l) = 0
    number (refused i) = i

module _ (M : Machine) (U : M.Tables) (L : (c : M.Asked) → Heard (M.answer U c) → NamingLaws M U) where
  by_result : (v : M.Asked) (m : List ℕ) → M.answer U v ≡ accepted m → NamingLaws M U
  by_result v m a = L v (accepted_heard (M.answer U v) (ap was_accepted a))

  by_refusal : (v : M.Asked) (n : ℕ) → (n < 5 → ⊥) → M.answer U v ≡ refused n → NamingLaws M U
  by_refusal v n k a = L v (subst Heard (sym a) (refused_heard n k))

  by_asking : (l : List ℕ) (r : ℕ) → GivesNumber M U l r → NamingLaws M U
  by_asking l r (v, e, a) = by_result v (r ∷ []) a

  at_most : (ls : List (List ℕ)) → Different ls → EachNamed (λ l. (r : ℕ) × GivesNumber M U l r) ls → length ls ≤ 32
  at_most [] d u = omega arith
  at_most (l ∷ ls) d u = (by_asking l u.0.0 u.0.1).few (l ∷ ls) d u

  where_heard : NamingLaws M U
  where_heard = record {
    attached = λ c l r d. (L c (accepted_heard (M.answer U c) d.1)).attached c l r d;
    detached = λ c l d. (L c (accepted_heard (M.answer U c) d.1)).detached c l d;
    sealed = λ c l r n rest e a. (by_result c (n ∷ rest) a).sealed c l r n rest e a;
    stays = λ c l r B. (by_asking l r B).stays c l r B;
    unused = λ c v l e a. (by_refusal v 17 (λ h. omega arith) a).unused c v l e a;
    there = λ v l r x B. (by_asking l r B).there v l r x B;
    bad = λ v l n o b a. cases (lt? n 5) (λ h. inl h) (λ h. (by_refusal v n (λ k. omega arith) a).bad v l n o b a);
    bad_never = λ v l m o b a. (by_result v m a).bad_never v l m o b a;
    good = λ v l o b a. (by_refusal v 16 (λ h. omega arith) a).good v l o b a;
    in_use = λ v l r q m B. (by_asking l r B).in_use v l r q m B;
    second = λ v l k r m B. (by_asking l r B).second v l k r m B;
    few = at_most;
    unknown = λ v w l m e a. (by_refusal w 17 (λ h. omega arith) a).unknown v w l m e a;
    named = λ v l r n B. (by_asking l r B).named v l r n B;
    named_never = λ v l r m B. (by_asking l r B).named_never v l r m B;
  }

-- ── lent memory, and the store that keeps its own log ──

-- what is not refused with 2, 3 or 4 meets sound tables
three_false : (a b c : Bool) (cs : List Condition) (l : List ℕ) → Heard (decide ((2, a) ∷ (3, b) ∷ (4, c) ∷ cs) l) → (a ≡ false) × (b ≡ false) × (c ≡ false)
three_false true b c cs l h = absurd (h 2 refl (omega arith))
three_false false true c cs l h = absurd (h 3 refl (omega arith))
three_false false false true cs l h = absurd (h 4 refl (omega arith))
three_false false false false cs l h = (refl, refl, refl)

heard_sound : (g : Geometry) (M : Memory) (c : Command) → Heard (reply g M c) → Inside g × SoundStore g M.tables M.log
unfolding reply
heard_sound g M c h =
    let T = state_of g M.tables in
    let (e, s, f) = three_false (not (fits g)) (short? g M) (not (sound? g M.tables M.log)) (conditions g T c) (result g T c) h in
    let i : Inside g = fits_inside g (not-false (fits g) e) in
    (i, (sound_iff g i M.tables M.log).0 (not-false (sound? g M.tables M.log) f))

module _ (g : Geometry) where
  lent_naming : (t : List ℕ) → NamingLaws (machine g) t
  unfolding simulation
  lent_naming t =
      where_heard (machine g) t
      (λ i h.
      let (inside, sound) = heard_sound g (met_by t i) i.call h in
      simulated_naming (machine g) (model g) (simulation g) t tt (naming_laws g inside (state_of g t) (sound_fine g t i.log sound)))

  own_naming : (M : Memory) → NamingLaws (own_store g) M
  unfolding own_simulation
  own_naming M =
      where_heard (own_store g) M
      (λ a h.
      let (inside, sound) = heard_sound g (with_out M a.out) a.call h in
      simulated_naming (own_store g) (model g) (own_simulation g) M tt
      (naming_laws g inside (state_of g M.tables) (sound_fine g M.tables M.log sound)))

-- THE NAMING LAWS
pub naming : Naming
naming g = (lent_naming g, own_naming g)
