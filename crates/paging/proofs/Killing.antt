-- The kill of a page's block: each fate's stores leave the tables with the page emptied, and what it answers.
use mathlib.Core.Path.{◌≡◌, sym, ap, ◌∙◌, subst}
use mathlib.Core.List.{List, [], ◌∷◌, ◌++◌, append-nil}
use Prim.Native.Nat.{ℕ, suc, ◌+◌, ◌-◌, ◌≤◌, ◌<◌}
use native.Mathlib.Omega.{arith}
use lib.ListN.{length, get_or, set}
use borrow.Author.Tests.{lt-ltb, le-ltb}
use Rattle.std.specs.Prelude.{Option, None}
use Rattle.answer.proofs.Cases.{cases}
use Rattle.geometry.specs.declared.Geometry.{Geometry}
use Rattle.geometry.specs.Limits.{blocks}
use Rattle.model.specs.Table.{put}
use Rattle.model.specs.View.{View, pred_num, base_num}
use Rattle.model.specs.State.{State, with_view, with_waiting, free_all}
use Rattle.model.specs.Sound.{Sound}
use Rattle.model.specs.Effects.{Fate, freed, marked, kept, fate, killed, erase_at, erase}
use Rattle.model.specs.Held.{freed_one, erased}
use Rattle.model.specs.Actions.{do_e, Asks}
use Rattle.model.specs.Calls.{acted}
use Rattle.model.specs.Layout.{length_cell, page_cell, list_cell, birth_cell, view_of, state_of, stored}
use Rattle.model.proofs.TabFacts.{put_same}
use Rattle.model.proofs.DoneSound.{done_sound}
use Rattle.model.proofs.CheckFacts.{list_short}
use Rattle.model.proofs.Shape.{Shaped, ShapedQueue}
use Rattle.model.proofs.Sizes.{done_sized}
use Rattle.model.proofs.DoneShaped.{done_shaped}
use Rattle.model.proofs.LayoutFacts.{stored_length}
use Rattle.model.proofs.Waiting.{once_short, acted_waits}
use Rattle.tables.specs.Ready.{Roomy, Ready}
use Rattle.tables.specs.Births as births
use Rattle.tables.specs.Puts.{with_page, with_list, with_birth, with_freed}
use Rattle.tables.proofs.Fields
use Rattle.tables.proofs.Ranges
use Rattle.tables.proofs.Puts.{shaped_list}
use Rattle.tables.proofs.Freeing.{waiting_length}
use Rattle.tables.proofs.Steps.{Holds, holds_first, holds_length, holds_roomy, holds_says, step_page, step_freed}
use Rattle.tables.proofs.Lists.{count_said, length_joined, step_joined}
use Rattle.tables.proofs.Reading.{reads_used}
use Rattle.tables.proofs.Matches.{freed_is, kept_is}
use Rattle.paging.specs.Target.{Target, frees_of}
use Rattle.paging.specs.Kill.{freed_at, killed_of, dead_on, emptied}
use Rattle.paging.specs.declared.kill.Freed.{Freed}

-- stored tables are as long as before
pub stored_as_long : (g : Geometry) (U : State) (t w : List ℕ) → w ≡ stored g U t → length w ≡ length t
stored_as_long g U t w e = ap length e ∙ stored_length g U t

-- ── block b joins the deadlist of the record in slot s: n is its length as it was read ──

pub marked_dead : {g : Geometry} {t : List ℕ} → Ready g t → (s b n : ℕ) → s < g.records → get_or t (length_cell s) 0 < g.pages →
    n ≡ get_or t (length_cell s) 0 → set (set t (list_cell g.records s n) b) (length_cell s) (n + 1) ≡ stored g (dead_on g t s b) t
unfolding dead_on
marked_dead {g} {t} R s b n h l e = (step_joined g t R.roomy (holds_first R) s h n b (e ∙ sym (count_said g t s h)) (omega arith)).is

-- ── a block that is freed waits ──

-- where none is freed, none more waits
pub none_waits : (U : State) → U ≡ free_all [] U
none_waits U = ap (with_waiting U) (sym (append-nil U.waiting))

-- a block with a birth does not wait, so that there is room for it among those that do
pub held_room : {g : Geometry} {t : List ℕ} → Ready g t → (b : ℕ) → 0 < (view_of g t).birth b → length (state_of g t).waiting < blocks g
unfolding state_of
held_room {g} {t} R b h =
    once_short (b ∷ (state_of g t).waiting) (blocks g)
    (λ c i e. omega (arith, R.waiting.unborn c i, ap (view_of g t).birth e), R.waiting.once)
    (λ c i. cases i (λ e. omega (arith, Ranges.held_in_lem R b h)) (λ j. Ranges.waiting_in R c j))

-- ── page x of the record in slot s is emptied; l is its link as it was read ──

fate_freed : (v p q : ℕ) → p < v → fate v p q ≡ freed
unfolding fate
fate_freed v p q h = rw (lt-ltb p v h)

fate_marked : (v p q : ℕ) → v ≤ p → q < v → fate v p q ≡ marked
unfolding fate
fate_marked v p q h k = rw (le-ltb p v h, lt-ltb q v k)

fate_kept : (v p q : ℕ) → v ≤ p → v ≤ q → fate v p q ≡ kept
unfolding fate
fate_kept v p q h k = rw (le-ltb p v h, le-ltb q v k)

module _ {g : Geometry} {t : List ℕ} {s x : ℕ} (A : Target g t s x) where
  pub target_asks : Asks (state_of g t).view (do_e s x)
  unfolding state_of view_of
  target_asks = (A.live, A.is_open, A.page)

  sound_after : Sound (erase (state_of g t).view s x)
  sound_after = done_sound (state_of g t).view (do_e s x) A.ready.sound target_asks

  -- not more wait than there are blocks
  pub emptied_few : length ((state_of g t).waiting ++ frees_of g t s x) ≤ blocks g
  unfolding acted
  emptied_few =
      let w = acted_waits (state_of g t) (do_e s x) A.ready.sound target_asks A.ready.queue A.ready.waiting (λ c i. absurd i) 0 in
      let z : (erase (state_of g t).view s x).blocks ≡ blocks g = (done_sized (state_of g t).view (do_e s x)).blocks ∙ (holds_first A.ready).shaped.blocks in
      once_short ((state_of g t).waiting ++ frees_of g t s x) (blocks g) w.once (λ b i. omega (arith, w.below b i))

  -- the tables can hold the state that is left
  pub emptied_shaped : Shaped g (emptied g t s x)
  unfolding emptied
  emptied_shaped =
      let S = (holds_first A.ready).shaped in
      let z = done_sized (state_of g t).view (do_e s x) in
      record {
        view = done_shaped (state_of g t).view (do_e s x) A.ready.sound target_asks S.view;
        slots = z.slots ∙ S.slots;
        pages = z.pages ∙ S.pages;
        blocks = z.blocks ∙ S.blocks;
        mark = S.mark;
        notes = S.notes;
        queue = subst (λ n. ShapedQueue n (state_of g t).queue) (sym z.blocks) S.queue;
        few = omega (arith, emptied_few, z.blocks ∙ S.blocks);
      }

  -- the answer when these blocks are freed
  abbrev answer : List ℕ → Option Freed
  answer l = killed_of (view_of g t).birth l

  module _ (l : ℕ) (e : l ≡ get_or t (page_cell s x) 0) where
    link_is : (state_of g t).view.page s x ≡ l
    unfolding state_of
    link_is = Fields.page_is g t s x A.slot A.page ∙ sym e

    -- what is left where the page holds the link k
    abbrev linked : ℕ → State
    linked k = free_all (erased (state_of g t).view s k) (with_view (state_of g t) (erase_at (state_of g t).view s x k))

    pub link_le : l ≤ blocks g
    link_le = omega (arith, e, Ranges.page_cell_le A.ready s A.live x A.page)

    pub emptied_none : l ≡ 0 → t ≡ stored g (emptied g t s x) t
    unfolding emptied erase erase_at erased
    emptied_none z =
        (holds_first A.ready).is ∙ ap (λ U. stored g U t) (none_waits (state_of g t)) ∙
        ap (λ k. stored g (linked k) t) (sym (link_is ∙ z))

    pub none_answer : l ≡ 0 → None ≡ killed_of (view_of g t).birth (frees_of g t s x)
    unfolding erased killed_of
    none_answer z = sym (ap (λ k. answer (erased (state_of g t).view s k)) (link_is ∙ z))

    -- there is a block; v is its birth as it was read, p and q the numbers of the record's pred and base
    module _ (used : l ≡ 0 → ⊥) where
      block_in_lem : l - 1 < blocks g
      block_in_lem = omega (arith, link_le)

      abbrev its_fate : Fate
      its_fate = fate ((state_of g t).view.birth (l - 1)) (pred_num (state_of g t).view s) (base_num (state_of g t).view s)

      -- what is left before any block waits, and then
      abbrev bare : Fate → State
      bare f = with_view (state_of g t) (killed (state_of g t).view s x (l - 1) f)

      abbrev killed_by : Fate → State
      killed_by f = free_all (freed_one (l - 1) f) (bare f)

      killed_as : (f : Fate) → its_fate ≡ f → killed_by f ≡ emptied g t s x
      unfolding emptied erase erase_at erased
      killed_as f d =
          let k : suc (l - 1) ≡ (state_of g t).view.page s x = omega (arith, link_is) in
          ap killed_by (sym d) ∙ ap linked k

      answer_as : (f : Fate) → its_fate ≡ f → answer (freed_one (l - 1) f) ≡ answer (frees_of g t s x)
      unfolding erased
      answer_as f d =
          let k : suc (l - 1) ≡ (state_of g t).view.page s x = omega (arith, link_is) in
          ap (λ f. answer (freed_one (l - 1) f)) (sym d) ∙ ap (λ k. answer (erased (state_of g t).view s k)) k

      emptied_page : Holds g t (with_page (state_of g t) s x 0) (set t (page_cell s x) 0)
      emptied_page = step_page g t A.ready.roomy (holds_first A.ready) s x 0 A.slot A.page

      pub freed_room : Roomy g (set t (page_cell s x) 0)
      freed_room = holds_roomy g t A.ready.roomy emptied_page

      -- it has a birth, and so there is room for it among those that wait
      born : 0 < (view_of g t).birth (l - 1)
      unfolding state_of
      born = let k : (view_of g t).page s x ≡ suc (l - 1) = omega (arith, link_is) in ((Ranges.sound A.ready).paged s x (l - 1) A.live k).born

      few : length (state_of g t).waiting < blocks g
      few = held_room A.ready (l - 1) born

      pub freed_few : get_or (set t (page_cell s x) 0) 11 0 < blocks g
      unfolding with_page
      freed_few =
          omega (
            arith,
            few,
            waiting_length g (set t (page_cell s x) 0),
            ap (λ U. length U.waiting) (holds_says g t A.ready.roomy emptied_page),
          )

      freed_holds : Holds g t (with_freed (with_page (state_of g t) s x 0) (l - 1)) (births.freed g.records (blocks g) (set t (page_cell s x) 0) (l - 1))
      unfolding with_page state_of
      freed_holds = step_freed g t A.ready.roomy emptied_page (l - 1) block_in_lem born few

      pub freed_long : (u : List ℕ) → u ≡ births.freed g.records (blocks g) (set t (page_cell s x) 0) (l - 1) → length u ≡ length t
      freed_long u eu = ap length eu ∙ holds_length g t A.ready.roomy freed_holds

      module _ (v p : ℕ) (ev : v ≡ get_or t (birth_cell g.records (l - 1)) 0) (ep : p ≡ pred_num (view_of g t) s) where
        birth_is : (state_of g t).view.birth (l - 1) ≡ v
        unfolding state_of
        birth_is = Fields.birth_is g t (l - 1) block_in_lem ∙ sym ev

        -- it is freed
        module _ (young : p < v) where
          fate_is : its_fate ≡ freed
          unfolding state_of
          fate_is = fate_freed _ _ _ (omega (arith, birth_is))

          pub emptied_freed : (u : List ℕ) → u ≡ births.freed g.records (blocks g) (set t (page_cell s x) 0) (l - 1) → u ≡ stored g (emptied g t s x) t
          unfolding with_freed with_birth freed_one
          emptied_freed u eu =
              eu ∙ freed_holds.is ∙
              ap (λ U. stored g U t) (ap (free_all ((l - 1) ∷ [])) (freed_is (state_of g t) s x (l - 1)) ∙ killed_as freed fate_is)

          pub freed_answer : freed_at (l - 1) v ≡ killed_of (view_of g t).birth (frees_of g t s x)
          unfolding freed_one killed_of state_of
          freed_answer = ap (freed_at (l - 1)) (sym birth_is) ∙ answer_as freed fate_is

        module _ (old : v ≤ p) (q : ℕ) (eq : q ≡ base_num (view_of g t) s) where
          kept_fate : v ≤ q → its_fate ≡ kept
          unfolding state_of
          kept_fate h = fate_kept _ _ _ (omega (arith, birth_is)) (omega (arith, birth_is))

          pub emptied_kept : v ≤ q → set t (page_cell s x) 0 ≡ stored g (emptied g t s x) t
          unfolding freed_one
          emptied_kept h =
              emptied_page.is ∙ ap (λ U. stored g U t) (kept_is (state_of g t) s x (l - 1) ∙ none_waits (bare kept) ∙ killed_as kept (kept_fate h))

          pub kept_answer : v ≤ q → None ≡ killed_of (view_of g t).birth (frees_of g t s x)
          unfolding freed_one killed_of
          kept_answer h = answer_as kept (kept_fate h)

          -- it joins the record's deadlist
          module _ (dies : q < v) where
            marked_fate : its_fate ≡ marked
            unfolding state_of
            marked_fate = fate_marked _ _ _ (omega (arith, birth_is)) (omega (arith, birth_is))

            pub marked_answer : None ≡ killed_of (view_of g t).birth (frees_of g t s x)
            unfolding freed_one killed_of
            marked_answer = answer_as marked marked_fate

            abbrev list : List ℕ
            list = (state_of g t).view.list s

            -- the deadlist has room: that of the sound state that is left is one longer
            list_room : length list < g.pages
            unfolding killed emptied
            list_room =
                let K : View = (state_of g t).view in
                let e : put K.list s (list ++ ((l - 1) ∷ [])) s ≡ (erase K s x).list s = ap (λ U. U.view.list s) (killed_as marked marked_fate) in
                omega (
                  arith,
                  list_short (erase K s x) sound_after s,
                  (done_sized K (do_e s x)).pages,
                  (holds_first A.ready).shaped.pages,
                  ap length (put_same K.list s (list ++ ((l - 1) ∷ []))),
                  ap length e,
                  length_joined list (l - 1),
                )

            pub mark_room : get_or t (length_cell s) 0 < g.pages
            mark_room = omega (arith, list_room, count_said g t s A.slot)

            pub emptied_marked : (u : List ℕ) → u ≡ stored g (dead_on g t s (l - 1)) t → set u (page_cell s x) 0 ≡ stored g (emptied g t s x) t
            unfolding dead_on with_list with_page killed freed_one
            emptied_marked u eu =
                let T : State = state_of g t in
                let H : Holds g t (dead_on g t s (l - 1)) u = record {
                  is = eu;
                  shaped = shaped_list g T (holds_first A.ready).shaped s (list ++ ((l - 1) ∷ []))
                      A.slot (omega (arith, list_room, length_joined list (l - 1)));
                } in
                (step_page g t A.ready.roomy H s x 0 A.slot A.page).is ∙
                ap (λ U. stored g U t) (none_waits (bare marked) ∙ killed_as marked marked_fate)

-- ── what the tables hold when the page is empty ──

module _ {g : Geometry} {t : List ℕ} {s x : ℕ} (A : Target g t s x) (u : List ℕ) (e : u ≡ stored g (emptied g t s x) t) where
  pub emptied_holds : Holds g t (emptied g t s x) u
  emptied_holds = record { is = e; shaped = emptied_shaped A }

  pub emptied_used : get_or u 9 0 ≡ get_or t 9 0
  unfolding emptied state_of
  emptied_used = reads_used g t A.ready.roomy emptied_holds

  pub emptied_room : 9 < length u
  emptied_room = omega (arith, A.ready.roomy.room, stored_as_long g (emptied g t s x) t u e)
