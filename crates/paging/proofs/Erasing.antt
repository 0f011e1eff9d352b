-- E: its verdict, and what its action leaves.
use mathlib.Core.Path.{◌≡◌, refl, sym, ap, ◌∙◌}
use mathlib.Core.List.{List, [], ◌∷◌, map}
use Prim.Native.Nat.{ℕ, zero, suc, ◌+◌, ◌-◌, ◌*◌, ◌≤◌, ◌<◌}
use native.Mathlib.Omega.{arith}
use lib.ListN.{length, get_or, set, length-map}
use lib.Seq.{sets}
use borrow.Author.Tests.{le-leb, lt-leb, lt-ltb, le-ltb, ltb-false}
use Rattle.answer.specs.Reply.{refused, reply_of}
use Rattle.answer.specs.Refusal.{NoneHolds}
use Rattle.std.specs.Prelude.{Option, None, Ok}
use Rattle.geometry.specs.declared.Geometry.{Geometry}
use Rattle.alloc_log.specs.Word.{write_at, bytes_of, released}
use Rattle.alloc_log.proofs.Writing.{write_none}
use Rattle.model.specs.Command.{Erase}
use Rattle.model.specs.View.{View, pred_num, base_num}
use Rattle.model.specs.State.{with_used}
use Rattle.model.specs.Effects.{Fate, freed, marked, kept, fate}
use Rattle.model.specs.Held.{freed_one, erased}
use Rattle.model.specs.Actions.{do_e, slot_of}
use Rattle.model.specs.Calls.{slot, written, conditions, result, acted}
use Rattle.model.specs.Layout.{open_cell, view_of, state_of, stored}
use Rattle.model.specs.Results.{paired}
use Rattle.model.proofs.ByNumber.{none_at}
use Rattle.model.proofs.Fine.{asks_E}
use Rattle.model.proofs.ResultFacts.{paired_length}
use Rattle.model.proofs.ResultSize.{erased_one}
use Rattle.tables.specs.Ready.{Ready, LogLong, OutLong}
use Rattle.tables.specs.Outcome.{replied, tables_left, log_left, out_left}
use Rattle.tables.proofs.Ranges
use Rattle.tables.proofs.Steps.{step_used}
use Rattle.paging.specs.Target.{Target, frees_of}
use Rattle.paging.specs.Kill.{freed_at, killed_of, emptied}
use Rattle.paging.specs.declared.kill.Freed.{Freed}
use Rattle.paging.proofs.Answers
use Rattle.paging.proofs.Looking
use Rattle.paging.proofs.Killing

-- ── the verdict on E of page x of record n; w is x as it was read ──

module _ (g : Geometry) (t : List ℕ) (n x w : ℕ) (ew : w ≡ x) where
  pub erase_5 : g.pages ≤ w → replied g t (Erase n x) ≡ refused 5
  unfolding replied
  erase_5 h = Looking.cond_here _ _ _ (le-leb g.pages x (omega arith))

  pub erase_8 : (l : ℕ) → w < g.pages → l ≡ slot_of (view_of g t) n → l ≡ 0 → replied g t (Erase n x) ≡ refused 8
  unfolding replied
  erase_8 l h e z = Looking.cond_next _ _ _ _ (lt-leb g.pages x (omega arith)) (Looking.cond_here _ _ _ (Looking.eight_yes g t n l e z))

  module _ (R : Ready g t) (l : ℕ) (h : w < g.pages) (e : l ≡ slot_of (view_of g t) n) (used : l ≡ 0 → ⊥) where
    pub erase_9 : get_or t (open_cell (l - 1)) 0 ≡ 0 → replied g t (Erase n x) ≡ refused 9
    unfolding replied
    erase_9 o =
        Looking.cond_next _ _ _ _ (lt-leb g.pages x (omega arith)) (Looking.cond_next _ _ _ _ (Looking.eight_no R n l e used)
        (Looking.cond_here _ _ _ (Looking.nine_yes R n l e used o)))

    -- u log words are used, f blocks are freed
    module _ (o : get_or t (open_cell (l - 1)) 0 ≡ 0 → ⊥) (u v f : ℕ) (eu : u ≡ get_or t 9 0) (ev : v ≡ x)
        (ef : f ≡ length (erased (view_of g t) (l - 1) ((view_of g t).page (l - 1) v))) where
      words_are : length (written g (state_of g t) (Erase n x)) ≡ f
      words_are =
          length-map (frees_of g t (slot (state_of g t) n) x) released ∙ sym (Looking.frees_are R n l e used v x f ev ef)

      unused_is : g.words - (state_of g t).used ≡ g.words - u
      unfolding state_of
      unused_is = ap (λ k. g.words - k) (sym eu)

      pub erase_14 : g.words ≤ u → 0 < f → replied g t (Erase n x) ≡ refused 14
      unfolding replied
      erase_14 s one =
          Looking.cond_next _ _ _ _ (lt-leb g.pages x (omega arith)) (Looking.cond_next _ _ _ _ (Looking.eight_no R n l e used)
          (Looking.cond_next _ _ _ _ (Looking.nine_no R n l e used o)
          (Looking.cond_here _ _ _ (lt-ltb (g.words - (state_of g t).used)
          (length (written g (state_of g t) (Erase n x))) (omega (arith, words_are, unused_is))))))

      pub erase_accepts : f ≤ g.words - u → NoneHolds (conditions g (state_of g t) (Erase n x)) × (slot (state_of g t) n ≡ l - 1)
      erase_accepts s = (
        (
          lt-leb g.pages x (omega arith),
          (
            Looking.eight_no R n l e used,
            (
              Looking.nine_no R n l e used o,
              (le-ltb (g.words - (state_of g t).used) (length (written g (state_of g t) (Erase n x))) (omega (arith, words_are, unused_is)), tt),
            ),
          ),
        ),
        Looking.slot_is R n l e used,
      )

-- ── what is freed with a page: one block or none ──

pub few_freed : (K : View) (s l f : ℕ) → f ≡ length (erased K s l) → f ≤ 1
few_freed K s l f e = omega (arith, erased_one K s l)

-- one unused word is enough for an E, two for a W
pub one_enough : (K : View) (s l u m : ℕ) → u < m → length (erased K s l) ≤ m - u
one_enough K s l u m h = omega (arith, erased_one K s l)

pub two_enough : (K : View) (s l m : ℕ) → 1 < m → 1 + length (erased K s l) ≤ m
two_enough K s l m h = omega (arith, erased_one K s l)

same_freed : {b v c w : ℕ} → freed_at b v ≡ freed_at c w → (b ≡ c) × (v ≡ w)
same_freed {b} {v} {c} {w} e =
    let i : ◌≡◌ {A = Freed} (record { block = b; birth = v }) (record { block = c; birth = w }) = cc in
    (ap (λ (x : Freed). x.block) i, ap (λ (x : Freed). x.birth) i)

-- a kill that answers with block b freed it: it was on the page
fate_told : (h : ℕ → ℕ) (c : ℕ) (f : Fate) (b v : ℕ) → killed_of h (freed_one c f) ≡ freed_at b v → (c ≡ b) × (freed_one c f ≡ b ∷ []) × (v ≡ h b)
unfolding freed_one killed_of
fate_told h c freed b v e = let d = same_freed e in (d.0, ap (λ k. k ∷ []) d.0, sym d.1 ∙ ap h d.0)
fate_told h c marked b v e = absurd (let z : ◌≡◌ {A = ℕ} 0 1 = cc in omega arith)
fate_told h c kept b v e = absurd (let z : ◌≡◌ {A = ℕ} 0 1 = cc in omega arith)

freed_told : (h : ℕ → ℕ) (K : View) (s l b v : ℕ) → killed_of h (erased K s l) ≡ freed_at b v →
    (l ≡ suc b) × (erased K s l ≡ b ∷ []) × (v ≡ h b)
unfolding erased killed_of
freed_told h K s zero b v e = absurd (let z : ◌≡◌ {A = ℕ} 0 1 = cc in omega arith)
freed_told h K s (suc c) b v e = let q = fate_told h c (fate (K.birth c) (pred_num K s) (base_num K s)) b v e in (ap suc q.0, q.1, q.2)

-- one that answers with none freed none
kept_told : (h : ℕ → ℕ) (l : List ℕ) → killed_of h l ≡ None → l ≡ []
unfolding killed_of
kept_told h [] e = refl
kept_told h (b ∷ l) e = absurd (let z : ◌≡◌ {A = ℕ} 0 1 = cc in omega arith)

-- ── the action; k is what the kill of the page's block answered ──

module _ {g : Geometry} {t : List ℕ} {s x : ℕ} (A : Target g t s x) (k : Option Freed) (ek : k ≡ killed_of (view_of g t).birth (frees_of g t s x)) where
  -- block b is freed, with birth v
  module _ (b v : ℕ) (i : k ≡ freed_at b v) where
    told : ((state_of g t).view.page s x ≡ suc b) × (frees_of g t s x ≡ b ∷ []) × (v ≡ (view_of g t).birth b)
    told = freed_told (view_of g t).birth (state_of g t).view s ((state_of g t).view.page s x) b v (sym ek ∙ i)

    pub frees_one : frees_of g t s x ≡ b ∷ []
    frees_one = told.1

    pub freed_small : b < 2048
    unfolding state_of
    freed_small = omega (arith, Ranges.page_in A.ready s A.live x b told.0, A.ready.roomy.inside.blocks_most)

    -- the result
    pub one_paired : paired (view_of g t).birth (frees_of g t s x) ≡ b ∷ v ∷ []
    unfolding paired
    one_paired = ap (paired (view_of g t).birth) frees_one ∙ ap (λ w. b ∷ w ∷ []) (sym told.2)

    pub one_count : 2 ≡ 2 * length (frees_of g t s x)
    one_count = sym (ap (λ l. 2 * length l) frees_one)

    pub one_out : (out : List ℕ) → set (set out 0 b) 1 v ≡ sets out 0 (paired (view_of g t).birth (frees_of g t s x))
    one_out out = sym (ap (sets out 0) one_paired)

    -- u: the tables with the page emptied
    module _ (u : List ℕ) (eu : u ≡ stored g (emptied g t s x) t) where
      pub one_room : (log : List ℕ) → length (frees_of g t s x) ≤ g.words - get_or t 9 0 → LogLong g log →
          (9 < length u) × (get_or u 9 0 < 8192) × (8 * get_or u 9 0 + 8 ≤ length log)
      one_room log h long =
          let d = ap length frees_one in
          let a = Killing.emptied_used A u eu in
          let m = A.ready.roomy.inside.words_most in
          (Killing.emptied_room A u eu, omega arith, omega arith)

      pub one_tables : set u 9 (get_or u 9 0 + 1) ≡ stored g (acted (state_of g t) (do_e s x) (length (map released (frees_of g t s x)))) t
      unfolding acted emptied state_of
      one_tables =
          let k : get_or u 9 0 + 1 ≡ (state_of g t).used + length (map released (frees_of g t s x)) =
          omega (arith, Killing.emptied_used A u eu, ap (λ v. length (map released v)) frees_one) in
          (step_used g t A.ready.roomy (Killing.emptied_holds A u eu) (get_or u 9 0 + 1)).is ∙ ap (λ k. stored g (with_used (emptied g t s x) k) t) k

      pub one_log : (log m : List ℕ) → m ≡ write_at log (8 * get_or u 9 0) (bytes_of ((b * 16384 + 2) ∷ [])) →
          m ≡ write_at log (8 * (state_of g t).used) (bytes_of (map released (frees_of g t s x)))
      unfolding state_of
      one_log log m d =
          d ∙ ap (λ k. write_at log (8 * k) (bytes_of (released b ∷ []))) (Killing.emptied_used A u eu) ∙
          ap (λ v. write_at log (8 * get_or t 9 0) (bytes_of (map released v))) (sym frees_one)

  -- nothing is freed
  module _ (i : k ≡ None) where
    pub frees_none : frees_of g t s x ≡ []
    frees_none = kept_told (view_of g t).birth (frees_of g t s x) (sym ek ∙ i)

    pub none_count : 0 ≡ 2 * length (frees_of g t s x)
    none_count = sym (ap (λ l. 2 * length l) frees_none)

    pub none_out : (out : List ℕ) → out ≡ sets out 0 (paired (view_of g t).birth (frees_of g t s x))
    unfolding paired
    none_out out = sym (ap (λ l. sets out 0 (paired (view_of g t).birth l)) frees_none)

    pub none_tables : (u : List ℕ) → u ≡ stored g (emptied g t s x) t →
        u ≡ stored g (acted (state_of g t) (do_e s x) (length (map released (frees_of g t s x)))) t
    unfolding acted emptied
    none_tables u eu =
        let k : (state_of g t).used ≡ (state_of g t).used + length (map released (frees_of g t s x)) =
        omega (arith, ap (λ v. length (map released v)) frees_none) in
        eu ∙ ap (λ k. stored g (with_used (emptied g t s x) k) t) k

    pub none_log : (log : List ℕ) → log ≡ write_at log (8 * (state_of g t).used) (bytes_of (map released (frees_of g t s x)))
    none_log log =
        sym (ap (λ v. write_at log (8 * (state_of g t).used) (bytes_of (map released v))) frees_none ∙ write_none log (8 * (state_of g t).used))

-- ── the call: a verdict and what it tells ──

module _ {g : Geometry} {t : List ℕ} (R : Ready g t) (n x s w : ℕ) (none : NoneHolds (conditions g (state_of g t) (Erase n x))) (es : slot (state_of g t) n ≡ s)
    (ew : w ≡ x) where
  pub erase_target : Target g t s w
  unfolding state_of view_of
  erase_target =
      let a = asks_E g R.roomy.inside (state_of g t) (Looking.ready_fine R) n x none in
      let live : 0 < (view_of g t).num s = rw es at a.0 in
      record { ready = R; slot = Ranges.slot_in R s live; live = live; is_open = rw es at a.1; page = rw (← ew) at a.2 }

  pub erase_fits : length (frees_of g t s w) ≤ g.words - get_or t 9 0
  unfolding state_of
  erase_fits =
      omega (
        arith,
        ltb-false (g.words - (state_of g t).used) (length (written g (state_of g t) (Erase n x))) (none_at (conditions g (state_of g t) (Erase n x)) none 14),
        length-map (frees_of g t (slot (state_of g t) n) x) released,
        ap (λ k. length (frees_of g t k x)) es,
        ap (λ k. length (frees_of g t s k)) ew,
      )

  frees_same : frees_of g t s w ≡ frees_of g t (slot (state_of g t) n) x
  frees_same = ap (λ k. frees_of g t k w) (sym es) ∙ ap (frees_of g t (slot (state_of g t) n)) ew

  pub erase_out : (out m : List ℕ) (k : ℕ) → OutLong g out → k ≡ 2 * length (frees_of g t s w) →
      m ≡ sets out 0 (paired (view_of g t).birth (frees_of g t s w)) →
      (reply_of (Ok k) m ≡ replied g t (Erase n x)) × (m ≡ out_left g t out (Erase n x))
  unfolding state_of
  erase_out out m k long e d =
      let B : ℕ → ℕ = (view_of g t).birth in
      let q : paired B (frees_of g t s w) ≡ result g (state_of g t) (Erase n x) = ap (paired B) frees_same in
      Answers.done_out g t (Erase n x) none k out m (e ∙ sym (paired_length B (frees_of g t s w)) ∙ ap length q)
      (omega (arith, erased_one (state_of g t).view s ((state_of g t).view.page s w))) (d ∙ ap (sets out 0) q)

  pub erase_tables : (u : List ℕ) → u ≡ stored g (acted (state_of g t) (do_e s w) (length (map released (frees_of g t s w)))) t →
      u ≡ tables_left g t (Erase n x)
  erase_tables u d =
      Answers.done_tables g t (Erase n x) none u
      (d ∙ ap (λ v. stored g (acted (state_of g t) (do_e s w) (length (map released v))) t) frees_same ∙
      ap (λ k. stored g (acted (state_of g t) (do_e k w) (length (written g (state_of g t) (Erase n x)))) t) (sym es) ∙
      ap (λ k. stored g (acted (state_of g t) (do_e (slot (state_of g t) n) k) (length (written g (state_of g t) (Erase n x)))) t) ew)

  pub erase_log : (log m : List ℕ) → m ≡ write_at log (8 * (state_of g t).used) (bytes_of (map released (frees_of g t s w))) → m ≡ log_left g t log (Erase n x)
  erase_log log m d =
      Answers.done_log g t (Erase n x) none log m (d ∙ ap (λ v. write_at log (8 * (state_of g t).used) (bytes_of (map released v))) frees_same)
