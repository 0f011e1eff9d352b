-- W: its verdict, and what its action leaves.
use mathlib.Core.Path.{◌≡◌, sym, ap, ◌∙◌}
use mathlib.Core.Bool.{false}
use mathlib.Core.List.{List, [], ◌∷◌, map}
use Prim.Native.Nat.{ℕ, suc, ◌+◌, ◌-◌, ◌*◌, ◌≤◌, ◌<◌}
use native.Mathlib.Omega.{arith}
use lib.Dec.{ltb, leb}
use lib.ListN.{length, get_or, set, length-map}
use lib.Seq.{sets}
use borrow.Author.Tests.{le-leb, lt-leb, lt-ltb, le-ltb, ltb-false}
use Rattle.std.specs.Prelude.{Option, Some, None, Ok}
use Rattle.answer.specs.Reply.{refused, reply_of}
use Rattle.answer.specs.Refusal.{NoneHolds}
use Rattle.geometry.specs.declared.Geometry.{Geometry}
use Rattle.choice.specs.declared.Place.{Place}
use Rattle.alloc_log.specs.Word.{write_at, bytes_of, allocated, released}
use Rattle.model.specs.Command.{Write}
use Rattle.model.specs.State.{with_used}
use Rattle.model.specs.Held.{erased}
use Rattle.model.specs.Actions.{do_w, slot_of}
use Rattle.model.specs.Calls.{slot, found, block_of, is_nothing, written, conditions, result, acted, given}
use Rattle.model.specs.Layout.{open_cell, view_of, state_of, stored}
use Rattle.model.specs.Results.{paired}
use Rattle.model.proofs.ByNumber.{none_at}
use Rattle.model.proofs.ChoiceFacts.{found_free}
use Rattle.model.proofs.Fine.{asks_W}
use Rattle.model.proofs.ResultFacts.{paired_length}
use Rattle.model.proofs.ResultSize.{erased_one}
use Rattle.tables.specs.Ready.{Ready, LogLong, OutLong}
use Rattle.tables.specs.Outcome.{replied, tables_left, log_left, out_left}
use Rattle.tables.proofs.Ranges
use Rattle.tables.proofs.Steps.{Holds, step_used}
use Rattle.tables.proofs.Reading.{reads_used}
use Rattle.paging.specs.Target.{Target, frees_of}
use Rattle.paging.specs.Kill.{freed_at, killed_of}
use Rattle.paging.specs.Place.{FreeAt, spot_of, filled}
use Rattle.paging.specs.Kind.{kind_number}
use Rattle.paging.specs.declared.kill.Freed.{Freed}
use Rattle.paging.specs.declared.kind.Kind.{Kind}
use Rattle.paging.specs.declared.place.Spot.{Spot}
use Rattle.paging.proofs.Answers
use Rattle.paging.proofs.Looking
use Rattle.paging.proofs.Killing
use Rattle.paging.proofs.Placing
use Rattle.paging.proofs.Searching
use Rattle.paging.proofs.Searching.{kind_low}
use Rattle.paging.proofs.Erasing

-- ── the verdict on W of kind k on page x of record n; w is x as it was read ──

module _ (g : Geometry) (t : List ℕ) (n x k w : ℕ) (ew : w ≡ x) where
  pub write_5 : g.pages ≤ w → replied g t (Write n x k) ≡ refused 5
  unfolding replied
  write_5 h = Looking.cond_here _ _ _ (le-leb g.pages x (omega arith))

  module _ (h : w < g.pages) where
    five : leb g.pages x ≡ false
    five = lt-leb g.pages x (omega arith)

    pub write_6 : 2 < k → replied g t (Write n x k) ≡ refused 6
    unfolding replied
    write_6 l = Looking.cond_next _ _ _ _ five (Looking.cond_here _ _ _ (lt-ltb 2 k l))

    -- d is the kind of number k
    module _ (d : Kind) (ek : kind_number d ≡ k) (l : ℕ) (e : l ≡ slot_of (view_of g t) n) where
      six : ltb 2 k ≡ false
      six = le-ltb 2 k (omega (arith, kind_low d, ek))

      pub write_8 : l ≡ 0 → replied g t (Write n x k) ≡ refused 8
      unfolding replied
      write_8 z = Looking.cond_next _ _ _ _ five (Looking.cond_next _ _ _ _ six (Looking.cond_here _ _ _ (Looking.eight_yes g t n l e z)))

      module _ (R : Ready g t) (used : l ≡ 0 → ⊥) where
        pub write_9 : get_or t (open_cell (l - 1)) 0 ≡ 0 → replied g t (Write n x k) ≡ refused 9
        unfolding replied
        write_9 o =
            Looking.cond_next _ _ _ _ five (Looking.cond_next _ _ _ _ six (Looking.cond_next _ _ _ _ (Looking.eight_no R n l e used)
            (Looking.cond_here _ _ _ (Looking.nine_yes R n l e used o))))

        -- r is what the search answered
        module _ (o : get_or t (open_cell (l - 1)) 0 ≡ 0 → ⊥) (r : Option Spot) (er : r ≡ spot_of n (found g (state_of g t) (kind_number d))) where
          spot_is : spot_of n (found g (state_of g t) k) ≡ r
          spot_is = sym (er ∙ ap (λ v. spot_of n (found g (state_of g t) v)) ek)

          pub write_13 : r ≡ None → replied g t (Write n x k) ≡ refused 13
          unfolding replied
          write_13 z =
              Looking.cond_next _ _ _ _ five (Looking.cond_next _ _ _ _ six (Looking.cond_next _ _ _ _ (Looking.eight_no R n l e used)
              (Looking.cond_next _ _ _ _ (Looking.nine_no R n l e used o) (Looking.cond_here _ _ _
              (ap is_nothing (Searching.found_nothing n (found g (state_of g t) k) (spot_is ∙ z)))))))

          -- the place that was found, with its block's birth; u log words are used, f blocks are freed
          module _ (p : Spot) (ea : r ≡ Some p) (u v f : ℕ) (eu : u ≡ get_or t 9 0) (ev : v ≡ x)
              (ef : f ≡ length (erased (view_of g t) (l - 1) ((view_of g t).page (l - 1) v))) where
            there : (found g (state_of g t) k ≡ Some p.place) × (p.birth ≡ n)
            there = Searching.found_at n (found g (state_of g t) k) p (spot_is ∙ ea)

            thirteen : is_nothing (found g (state_of g t) k) ≡ false
            thirteen = ap is_nothing there.0

            words_are : length (written g (state_of g t) (Write n x k)) ≡ suc f
            words_are =
                ap suc (length-map (frees_of g t (slot (state_of g t) n) x) released ∙ sym (Looking.frees_are R n l e used v x f ev ef))

            unused_is : g.words - (state_of g t).used ≡ g.words - u
            unfolding state_of
            unused_is = ap (λ k. g.words - k) (sym eu)

            pub write_14 : g.words - u < 1 + f → replied g t (Write n x k) ≡ refused 14
            unfolding replied
            write_14 s =
                Looking.cond_next _ _ _ _ five (Looking.cond_next _ _ _ _ six (Looking.cond_next _ _ _ _ (Looking.eight_no R n l e used)
                (Looking.cond_next _ _ _ _ (Looking.nine_no R n l e used o) (Looking.cond_next _ _ _ _ thirteen
                (Looking.cond_here _ _ _ (lt-ltb (g.words - (state_of g t).used) (length (written g (state_of g t) (Write n x k)))
                (omega (arith, words_are, unused_is))))))))

            pub write_accepts : 1 + f ≤ g.words - u →
                NoneHolds (conditions g (state_of g t) (Write n x k)) × (slot (state_of g t) n ≡ l - 1) ×
                (found g (state_of g t) k ≡ Some p.place) × (p.birth ≡ n)
            write_accepts s = (
              (
                five,
                (
                  six,
                  (
                    Looking.eight_no R n l e used,
                    (
                      Looking.nine_no R n l e used o,
                      (
                        thirteen,
                        (le-ltb (g.words - (state_of g t).used) (length (written g (state_of g t) (Write n x k))) (omega (arith, words_are, unused_is)), tt),
                      ),
                    ),
                  ),
                ),
              ),
              Looking.slot_is R n l e used,
              there.0,
              there.1,
            )

-- ── the action; u is the tables with the page filled ──

module _ {g : Geometry} {t : List ℕ} {s x : ℕ} {p : Place} (A : Target g t s x) (P : FreeAt g t p.arena p.offset) (u : List ℕ)
    (eu : u ≡ stored g (filled g t s x p.arena p.offset) t) where
  filled_holds : Holds g t (filled g t s x p.arena p.offset) u
  filled_holds = record { is = eu; shaped = Placing.filled_shaped A P }

  filled_used : get_or u 9 0 ≡ get_or t 9 0
  unfolding filled given state_of
  filled_used = reads_used g t A.ready.roomy filled_holds

  -- d words are counted
  filled_tables : (d : ℕ) → d ≡ suc (length (map released (frees_of g t s x))) →
      set u 9 (get_or u 9 0 + d) ≡
      stored g (given g (acted (state_of g t) (do_w s x (p.arena * g.per + p.offset)) (suc (length (map released (frees_of g t s x))))) (Some p)) t
  unfolding filled given acted state_of
  filled_tables d ed =
      let k : get_or u 9 0 + d ≡ (state_of g t).used + suc (length (map released (frees_of g t s x))) = omega (arith, filled_used) in
      (step_used g t A.ready.roomy filled_holds (get_or u 9 0 + d)).is ∙ ap (λ k. stored g (with_used (filled g t s x p.arena p.offset) k) t) k

  filled_room : 9 < length u
  filled_room = omega (arith, A.ready.roomy.room, Killing.stored_as_long g (filled g t s x p.arena p.offset) t u eu)

-- k is what the kill of the page's block answered, c the birth of the block given
module _ {g : Geometry} {t : List ℕ} {s x : ℕ} {p : Place} (A : Target g t s x) (P : FreeAt g t p.arena p.offset) (k : Option Freed)
    (ek : k ≡ killed_of (view_of g t).birth (frees_of g t s x)) where
  abbrev b : ℕ
  b = p.arena * g.per + p.offset

  -- block d is freed, with birth v: two words
  module _ (d v : ℕ) (i : k ≡ freed_at d v) where
    pub two_count : 4 ≡ 2 + 2 * length (frees_of g t s x)
    two_count = ap (λ n. 2 + n) (Erasing.one_count A k ek d v i)

    pub two_out : (c : ℕ) (out : List ℕ) → set (set (set (set out 0 (p.arena * g.per + p.offset)) 1 c) 2 d) 3 v ≡
        sets out 0 ((p.arena * g.per + p.offset) ∷ c ∷ paired (view_of g t).birth (frees_of g t s x))
    two_out c out = sym (ap (λ l. sets out 0 (b ∷ c ∷ l)) (Erasing.one_paired A k ek d v i))

    module _ (u : List ℕ) (eu : u ≡ stored g (filled g t s x p.arena p.offset) t) where
      pub two_room : (log : List ℕ) → suc (length (frees_of g t s x)) ≤ g.words - get_or t 9 0 → LogLong g log →
          (9 < length u) × (get_or u 9 0 < 8192) × (8 * get_or u 9 0 + 16 ≤ length log)
      two_room log h long =
          let n = ap length (Erasing.frees_one A k ek d v i) in
          let q = filled_used A P u eu in
          let m = A.ready.roomy.inside.words_most in
          (filled_room A P u eu, omega arith, omega arith)

      pub two_tables : set u 9 (get_or u 9 0 + 2) ≡
          stored g (given g (acted (state_of g t) (do_w s x (p.arena * g.per + p.offset)) (suc (length (map released (frees_of g t s x))))) (Some p)) t
      two_tables = filled_tables A P u eu 2 (sym (ap (λ l. suc (length (map released l))) (Erasing.frees_one A k ek d v i)))

      pub two_log : (log m : List ℕ) → m ≡ write_at log (8 * get_or u 9 0) (bytes_of (((p.arena * g.per + p.offset) * 16384 + 1) ∷ (d * 16384 + 2) ∷ [])) →
          m ≡ write_at log (8 * (state_of g t).used) (bytes_of (allocated (p.arena * g.per + p.offset) ∷ map released (frees_of g t s x)))
      unfolding state_of
      two_log log m em =
          em ∙ ap (λ k. write_at log (8 * k) (bytes_of (allocated b ∷ released d ∷ []))) (filled_used A P u eu) ∙
          ap (λ l. write_at log (8 * get_or t 9 0) (bytes_of (allocated b ∷ map released l))) (sym (Erasing.frees_one A k ek d v i))

  -- none is freed: one word
  module _ (i : k ≡ None) where
    pub one_count : 2 ≡ 2 + 2 * length (frees_of g t s x)
    one_count = ap (λ n. 2 + n) (Erasing.none_count A k ek i)

    pub one_out : (c : ℕ) (out : List ℕ) → set (set out 0 (p.arena * g.per + p.offset)) 1 c ≡
        sets out 0 ((p.arena * g.per + p.offset) ∷ c ∷ paired (view_of g t).birth (frees_of g t s x))
    unfolding paired
    one_out c out = sym (ap (λ l. sets out 0 (b ∷ c ∷ paired (view_of g t).birth l)) (Erasing.frees_none A k ek i))

    module _ (u : List ℕ) (eu : u ≡ stored g (filled g t s x p.arena p.offset) t) where
      pub one_room : (log : List ℕ) → suc (length (frees_of g t s x)) ≤ g.words - get_or t 9 0 → LogLong g log →
          (9 < length u) × (get_or u 9 0 < 8192) × (8 * get_or u 9 0 + 8 ≤ length log)
      one_room log h long =
          let q = filled_used A P u eu in
          let m = A.ready.roomy.inside.words_most in
          (filled_room A P u eu, omega arith, omega arith)

      pub one_tables : set u 9 (get_or u 9 0 + 1) ≡
          stored g (given g (acted (state_of g t) (do_w s x (p.arena * g.per + p.offset)) (suc (length (map released (frees_of g t s x))))) (Some p)) t
      one_tables = filled_tables A P u eu 1 (sym (ap (λ l. suc (length (map released l))) (Erasing.frees_none A k ek i)))

      pub one_log : (log m : List ℕ) → m ≡ write_at log (8 * get_or u 9 0) (bytes_of (((p.arena * g.per + p.offset) * 16384 + 1) ∷ [])) →
          m ≡ write_at log (8 * (state_of g t).used) (bytes_of (allocated (p.arena * g.per + p.offset) ∷ map released (frees_of g t s x)))
      unfolding state_of
      one_log log m em =
          em ∙ ap (λ k. write_at log (8 * k) (bytes_of (allocated b ∷ []))) (filled_used A P u eu) ∙
          ap (λ l. write_at log (8 * get_or t 9 0) (bytes_of (allocated b ∷ map released l))) (sym (Erasing.frees_none A k ek i))

-- ── the call: a verdict and what it tells ──

module _ {g : Geometry} {t : List ℕ} (R : Ready g t) (n x k s : ℕ) (p : Spot) (w : ℕ)
    (J : NoneHolds (conditions g (state_of g t) (Write n x k)) × (slot (state_of g t) n ≡ s) × (found g (state_of g t) k ≡ Some p.place) ×
    (p.birth ≡ n)) (ew : w ≡ x) where
  pub write_target : Target g t s w
  unfolding state_of view_of
  write_target =
      let q = asks_W g R.roomy.inside (state_of g t) (Looking.ready_fine R) n x k J.0 in
      let live : 0 < (view_of g t).num s = rw J.1 at q.0 in
      record { ready = R; slot = Ranges.slot_in R s live; live = live; is_open = rw J.1 at q.1; page = rw (← ew) at q.2 }

  pub write_spot : FreeAt g t p.place.arena p.place.offset
  unfolding state_of
  write_spot =
      let q = found_free g R.roomy.inside (state_of g t) R.range k p.place.arena p.place.offset J.2 in
      record { arena = q.0; offset = q.1; block = q.2; free = q.3 }

  frees_same : frees_of g t s w ≡ frees_of g t (slot (state_of g t) n) x
  frees_same = ap (λ k. frees_of g t k w) (sym J.1) ∙ ap (frees_of g t (slot (state_of g t) n)) ew

  pub write_fits : suc (length (frees_of g t s w)) ≤ g.words - get_or t 9 0
  unfolding state_of
  write_fits =
      let room = none_at (conditions g (state_of g t) (Write n x k)) J.0 14 in
      omega (
        arith,
        ltb-false (g.words - (state_of g t).used) (length (written g (state_of g t) (Write n x k))) room,
        length-map (frees_of g t (slot (state_of g t) n) x) released,
        ap length frees_same,
      )

  abbrev births : ℕ → ℕ
  births = (view_of g t).birth

  result_same : (p.place.arena * g.per + p.place.offset) ∷ p.birth ∷ paired births (frees_of g t s w) ≡ result g (state_of g t) (Write n x k)
  unfolding state_of
  result_same =
      ap (λ l. (p.place.arena * g.per + p.place.offset) ∷ p.birth ∷ paired births l) frees_same ∙
      ap (λ c. (p.place.arena * g.per + p.place.offset) ∷ c ∷ paired births (frees_of g t (slot (state_of g t) n) x)) J.3 ∙
      ap (λ f. block_of g.per f ∷ n ∷ paired births (frees_of g t (slot (state_of g t) n) x)) (sym J.2)

  pub write_out : (out m : List ℕ) (d : ℕ) → OutLong g out → d ≡ 2 + 2 * length (frees_of g t s w) →
      m ≡ sets out 0 ((p.place.arena * g.per + p.place.offset) ∷ p.birth ∷ paired (view_of g t).birth (frees_of g t s w)) →
      (reply_of (Ok d) m ≡ replied g t (Write n x k)) × (m ≡ out_left g t out (Write n x k))
  write_out out m d long e q =
      Answers.done_out g t (Write n x k) J.0 d out m (omega (arith, paired_length births (frees_of g t s w), ap length result_same))
      (omega (arith, erased_one (state_of g t).view s ((state_of g t).view.page s w))) (q ∙ ap (sets out 0) result_same)

  -- what is left, told by the slot, the page and what was found
  abbrev left : ℕ → ℕ → Option Place → List ℕ
  left s x f =
      stored g (given g (acted (state_of g t) (do_w s x (block_of g.per f)) (suc (length (map released (frees_of g t s x))))) f) t

  pub write_tables : (u : List ℕ) →
      u ≡ stored g (given g (acted (state_of g t) (do_w s w (p.place.arena * g.per + p.place.offset))
      (suc (length (map released (frees_of g t s w))))) (Some p.place)) t →
      u ≡ tables_left g t (Write n x k)
  write_tables u d =
      Answers.done_tables g t (Write n x k) J.0 u
      (d ∙ ap (λ k. left k w (Some p.place)) (sym J.1) ∙ ap (λ y. left (slot (state_of g t) n) y (Some p.place)) ew ∙
      ap (left (slot (state_of g t) n) x) (sym J.2))

  pub write_log : (log m : List ℕ) → m ≡ write_at log (8 * (state_of g t).used)
      (bytes_of (allocated (p.place.arena * g.per + p.place.offset) ∷ map released (frees_of g t s w))) →
      m ≡ log_left g t log (Write n x k)
  write_log log m d =
      Answers.done_log g t (Write n x k) J.0 log m
      (d ∙ ap (λ v. write_at log (8 * (state_of g t).used) (bytes_of (allocated (p.place.arena * g.per + p.place.offset) ∷ map released v))) frees_same ∙
      ap (λ f. write_at log (8 * (state_of g t).used) (bytes_of (allocated (block_of g.per f) ∷ map released (frees_of g t (slot (state_of g t) n) x))))
      (sym J.2))
