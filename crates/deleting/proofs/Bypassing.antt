-- The record in slot s, which slot n follows, is taken out of its line: n follows the record before s, and has its deadlist.
use mathlib.Core.Path.{◌≡◌, refl, sym, ap, ap₂, ◌∙◌, fun_ext}
use mathlib.Core.Bool.{true, ◌&&◌}
use mathlib.Core.List.{List, [], ◌++◌}
use Prim.Native.Nat.{ℕ, suc, ◌+◌, ◌-◌, ◌≤◌, ◌<◌}
use native.Mathlib.Omega.{arith}
use lib.Dec.{eqb, ltb}
use lib.ListN.{length, get_or, set, take, length-append, length-set}
use lib.Seq.{sets, length-sets, ext_get_or, get_or-set_same, get_or-set_other}
use borrow.Author.Tests.{eqb-true, ltb-true}
use Rattle.answer.proofs.Cases.{cases, lt?}
use Rattle.geometry.specs.declared.Geometry.{Geometry}
use Rattle.geometry.specs.Limits.{blocks}
use Rattle.model.specs.Table.{put}
use Rattle.model.specs.View.{View, pred_num}
use Rattle.model.specs.State.{State}
use Rattle.model.specs.Actions.{do_d, Asks, live, follower, delete_at, delete}
use Rattle.model.specs.Effects.{leave, joined, unlinked, unlink}
use Rattle.model.specs.Layout.{prev_cell, length_cell, list_cell, birth_cell, view_of, state_of, stored}
use Rattle.model.proofs.TabFacts.{seek_found, put_same, put_other}
use Rattle.model.proofs.ListFacts.{of_keep}
use Rattle.model.specs.Sorted.{sorted_onto}
use Rattle.model.proofs.CheckFacts.{list_short}
use Rattle.model.proofs.DoneSound.{done_sound, and_l, and_r}
use Rattle.model.proofs.Shape.{Shaped}
use Rattle.tables.specs.Ready.{Roomy, Ready}
use Rattle.tables.specs.Puts.{with_prev, with_list}
use Rattle.tables.proofs.Fields
use Rattle.tables.proofs.Ranges
use Rattle.tables.proofs.Puts.{shaped_list, shaped_prev}
use Rattle.tables.proofs.Steps.{Holds, holds_as, holds_first, step_prev}
use Rattle.tables.proofs.Lists.{step_list, rest_said}
use Rattle.tables.proofs.Reading.{reads_prev}
use Rattle.deleting.specs.Stages.{younger, others, bypassed}
use Rattle.tables.proofs.Sets.{get_before, get_after, get_in, get_first, sets_append, sets_over, take_sets}
use Rattle.deleting.proofs.Sifting.{length_sorted}
use Rattle.deleting.proofs.Parting.{parts, freed_is}
use Rattle.deleting.proofs.Joining.{row_apart}

module _ {g : Geometry} {t₀ : List ℕ} (R : Ready g t₀) (s n : ℕ) (asks : Asks (view_of g t₀) (do_d s)) (follows : follower (view_of g t₀) s ≡ suc n) where
  abbrev K : View
  K = view_of g t₀

  abbrev T : State
  T = state_of g t₀

  -- ── the two records ──

  found : (live K n && eqb (K.prev n) (suc s)) ≡ true
  unfolding follower
  found = (seek_found (λ m. live K m && eqb (K.prev m) (suc s)) K.slots 0 n follows).0

  live_next : 0 < K.num n
  live_next = ltb-true 0 (K.num n) (and_l (live K n) (eqb (K.prev n) (suc s)) found)

  behind : K.prev n ≡ suc s
  behind = eqb-true (K.prev n) (suc s) (and_r (live K n) (eqb (K.prev n) (suc s)) found)

  pub next_slot : n < g.records
  next_slot = Ranges.slot_in R n live_next

  pub this_slot : s < g.records
  this_slot = Ranges.slot_in R s asks.0

  pub apart : s ≡ n → ⊥
  apart e = let z : ⊥ = omega (arith, ((Ranges.sound R).links.prevs n s live_next behind).older, ap K.num e) in z

  -- ── the deadlist that n gets ──

  left : delete K s ≡ unlink K s n
  unfolding delete delete_at
  left = ap (delete_at K s) follows

  unlink_list : (unlink K s n).list n ≡ joined K s n
  unfolding unlink leave
  unlink_list = put_other (put K.list n (joined K s n)) s [] n (λ e. apart (sym e)) ∙ put_same K.list n (joined K s n)

  unlink_pages : (unlink K s n).pages ≡ g.pages
  unfolding unlink leave view_of
  unlink_pages = refl

  pub joined_short : length (joined (view_of g t₀) s n) ≤ g.pages
  joined_short =
      omega (
        arith,
        list_short (delete K s) (done_sound K (do_d s) (Ranges.sound R) asks) n,
        ap (λ L. length (L.list n)) left,
        ap (λ L. L.pages) left,
        ap length unlink_list,
        unlink_pages,
      )

  pub bypassed_shaped : Shaped g (bypassed (state_of g t₀) s n)
  unfolding bypassed state_of
  bypassed_shaped =
      shaped_prev g _ (shaped_list g T (holds_first R).shaped n (joined K s n) next_slot joined_short) n (K.prev s) next_slot

  -- ── the row of n is parted at p, the number of the pred of s ──

  module _ (p : ℕ) (ep : p ≡ pred_num (view_of g t₀) s) (t₁ : List ℕ)
      (e₁ : t₁ ≡ sets t₀ (list_cell g.records n 0) (others (view_of g t₀) p ((view_of g t₀).list n))) where
    abbrev O : List ℕ
    O = others (view_of g t₀) p ((view_of g t₀).list n)

    abbrev Y : List ℕ
    Y = younger (view_of g t₀) p ((view_of g t₀).list n)

    abbrev a : ℕ
    a = list_cell g.records n 0

    joined_is : O ++ K.list s ≡ joined K s n
    unfolding joined
    joined_is = ap (λ q. others K q (K.list n) ++ K.list s) ep

    both : length O + length (K.list s) ≤ g.pages
    both = omega (arith, length-append O (K.list s), ap length joined_is, joined_short)

    few : g.pages ≤ 256
    few = R.roomy.inside.pages_most

    long : length t₁ ≡ length t₀
    long = ap length e₁ ∙ length-sets t₀ a O

    pub parted_roomy : Roomy g t₁
    parted_roomy = record { inside = R.roomy.inside; room = omega (arith, R.roomy.room, long) }

    -- births, and the deadlist of s, are as before
    parted_births : (view_of g t₁).birth ≡ (view_of g t₀).birth
    parted_births = fun_ext (λ b.
        cases (lt? b (blocks g))
        (λ h.
        Fields.birth_is g t₁ b h ∙ ap (λ (u : List ℕ). get_or u (birth_cell g.records b) 0) e₁ ∙
        get_after O t₀ a (birth_cell g.records b) (let z : a + length O ≤ birth_cell g.records b = omega (arith, both, few, next_slot) in z) ∙ sym (Fields.birth_is g t₀ b h))
        (λ h. Fields.birth_out g t₁ b h ∙ sym (Fields.birth_out g t₀ b h)))

    length_here : get_or t₁ (length_cell s) 0 ≡ get_or t₀ (length_cell s) 0
    length_here =
        ap (λ (u : List ℕ). get_or u (length_cell s) 0) e₁ ∙
        get_before O t₀ a (length_cell s) (let z : length_cell s < a = omega (arith, this_slot, R.roomy.inside.records_most) in z)

    parted_list : (view_of g t₁).list s ≡ (view_of g t₀).list s
    parted_list =
        let l₁ = Fields.list_length g t₁ s this_slot in
        let l₀ = Fields.list_length g t₀ s this_slot in
        ext_get_or 0 ((view_of g t₁).list s) ((view_of g t₀).list s) (l₁ ∙ length_here ∙ sym l₀) (λ i h.
        Fields.list_at g t₁ s i this_slot (omega (arith, l₁)) ∙ ap (λ (u : List ℕ). get_or u (list_cell g.records s i) 0) e₁ ∙
        row_apart g.records s n 0 i apart O t₀ (omega (arith, both, few)) (omega (arith, l₁, length_here, l₀, both, few)) ∙
        sym (Fields.list_at g t₀ s i this_slot (omega (arith, l₁, length_here))))

    -- count entries leave it, of len
    module _ (len count : ℕ) (el : len ≡ get_or t₀ (length_cell n) 0)
        (ec : count ≡ length (younger (view_of g t₀) p ((view_of g t₀).list n))) where
      pub count_le : count ≤ len
      count_le = omega (arith, parts K p (K.list n), Fields.list_length g t₀ n next_slot)

      kept_is : len - count ≡ length O
      kept_is = omega (arith, parts K p (K.list n), Fields.list_length g t₀ n next_slot)

      pub join_room : len - count + get_or t₁ (length_cell s) 0 ≤ 256
      join_room = omega (arith, kept_is, length_here, Fields.list_length g t₀ s this_slot, both, few)

      -- the buffer
      module _ (o₀ o₁ : List ℕ) (eo : o₁ ≡ sets o₀ 0 (younger (view_of g t₀) p ((view_of g t₀).list n)))
          (room : length (younger (view_of g t₀) p ((view_of g t₀).list n)) ≤ length o₀) where
        pub sort_room : count ≤ length o₁
        sort_room = omega (arith, ap length eo, length-sets o₀ 0 Y)

        pub sort_below : (k : ℕ) → k < count → get_or o₁ k 0 < blocks g
        sort_below k h =
            let m : k < length Y = omega arith in
            let e : get_or o₁ k 0 ≡ get_or Y k 0 = ap (λ (u : List ℕ). get_or u k 0) eo ∙ get_first Y o₀ k m (omega arith) in
            rw e (Ranges.entry_in R n (get_or Y k 0) (of_keep (λ b. ltb p (K.birth b)) (get_or Y k 0) (K.list n) (Ranges.in_get_d Y k m)).0)

        pub sort_out : (o₂ : List ℕ) → o₂ ≡ sets o₁ 0 (sorted_onto (view_of g t₁).birth [] (take count o₁)) → o₂ ≡ sets o₀ 0 (unlinked (view_of g t₀) s n)
        sort_out o₂ e =
            e ∙ ap₂ (λ (f : ℕ → ℕ) (l : List ℕ). sets o₁ 0 (sorted_onto f [] l)) parted_births (ap (take count) eo ∙ take_sets o₀ Y count ec room) ∙
            ap (λ (u : List ℕ). sets u 0 (sorted_onto K.birth [] Y)) eo ∙
            sets_over Y (sorted_onto K.birth [] Y) o₀ 0 (omega (arith, length_sorted K.birth [] Y)) ∙ ap (sets o₀ 0) (freed_is R s n p ep)

      -- the tables
      module _ (t₂ : List ℕ) (e₂ : t₂ ≡ set (sets t₁ (list_cell g.records n (len - count)) ((view_of g t₁).list s)) (length_cell n) (len - count + length ((view_of g t₁).list s))) where
        abbrev J : List ℕ
        J = joined (view_of g t₀) s n

        abbrev u : List ℕ
        u = sets t₀ (list_cell g.records n 0) (joined (view_of g t₀) s n)

        row_is : sets t₁ (list_cell g.records n (len - count)) ((view_of g t₁).list s) ≡ u
        row_is =
            ap₂ (λ (v m : List ℕ). sets v (list_cell g.records n (len - count)) m) e₁ parted_list ∙
            ap (λ j. sets (sets t₀ a O) j (K.list s)) (let z : list_cell g.records n (len - count) ≡ a + length O = omega (arith, kept_is) in z) ∙
            sets_append O t₀ (K.list s) a ∙ ap (sets t₀ a) joined_is

        many : len - count + length ((view_of g t₁).list s) ≡ length J
        many = omega (arith, kept_is, ap length parted_list, length-append O (K.list s), ap length joined_is)

        tables_are : t₂ ≡ set u (length_cell n) (length J)
        tables_are = e₂ ∙ ap₂ (λ (v : List ℕ) (k : ℕ). set v (length_cell n) k) row_is many

        wide_u : length u ≡ length t₀
        wide_u = length-sets t₀ a J

        room_n : a + 256 ≤ length t₀
        room_n = omega (arith, R.roomy.room, next_slot)

        low : length_cell n < 2048
        low = omega (arith, next_slot, R.roomy.inside.records_most)

        list_held : Holds g t₀ (with_list T n J) t₂
        list_held =
            step_list g t₀ R.roomy (holds_first R) n next_slot J t₂
            (ap length tables_are ∙ length-set u (length_cell n) (length J) ∙ wide_u)
            joined_short
            (ap (λ (v : List ℕ). get_or v (length_cell n) 0) tables_are ∙ get_or-set_same u (length_cell n) (length J) 0 (omega (arith, wide_u, room_n, low)))
            (λ i h.
            ap (λ (v : List ℕ). get_or v (list_cell g.records n i) 0) tables_are ∙
            get_or-set_other u (length_cell n) (list_cell g.records n i) (length J) 0 (λ e. let z : ⊥ = omega (arith, low) in z) ∙
            ap (λ j. get_or u j 0) (let z : list_cell g.records n i ≡ a + i = omega arith in z) ∙
            get_in J t₀ a i h (omega (arith, joined_short, few, room_n)))
            (λ i o.
            ap (λ (v : List ℕ). get_or v i 0) tables_are ∙ get_or-set_other u (length_cell n) i (length J) 0 o.0 ∙
            cases (lt? i a)
            (λ h. get_before J t₀ a i h)
            (λ h. cases (lt? i (a + length J))
            (λ m. absurd (o.1 (i - a) (omega arith) (let z : i ≡ list_cell g.records n (i - a) = omega arith in z)))
            (λ m. get_after J t₀ a i m)))
            (rest_said g t₀ (T.view.list n) n next_slot refl (length J))

        prev_read : get_or t₂ (prev_cell s) 0 ≡ K.prev s
        unfolding with_list state_of
        prev_read = reads_prev g t₀ R.roomy list_held s this_slot

        held : Holds g t₀ (with_prev (with_list T n J) n (K.prev s)) (set t₂ (prev_cell n) (get_or t₂ (prev_cell s) 0))
        held =
            holds_as g t₀ refl (ap (λ v. with_prev (with_list T n J) n v) prev_read)
            (step_prev g t₀ R.roomy list_held n (get_or t₂ (prev_cell s) 0) next_slot)

        pub bypass_tables : set t₂ (prev_cell n) (get_or t₂ (prev_cell s) 0) ≡ stored g (bypassed (state_of g t₀) s n) t₀
        unfolding bypassed state_of
        bypass_tables = held.is
