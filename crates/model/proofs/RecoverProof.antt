-- A STORE TAKEN UP AGAIN: the saved tables with the log as it is. The statement is `Recovers` in specs/Recover.antt.
use mathlib.Core.Path.{◌≡◌, refl, sym, ap, ap₂, ◌∙◌, subst}
use mathlib.Core.Logic.{inl}
use mathlib.Core.Bool.{Bool, not, ◌&&◌, ◌||◌}
use mathlib.Core.List.{List, [], ◌∷◌, ◌++◌}
use Prim.Native.Nat.{ℕ, ◌+◌, ◌*◌, ◌≤◌}
use native.Mathlib.Omega.{arith}
use lib.Dec.{ltb}
use lib.ListN.{length, take, drop, length-append, length-drop}
use lib.Seq.{sets, take-take, take_at, take_all, length-take-le}
use borrow.Author.Tests.{le-ltb}
use Rattle.answer.specs.Reply.{Reply, accepted, refused}
use Rattle.answer.specs.Refusal.{decide, leaves}
use Rattle.answer.proofs.Cases.{cases, either, lt?}
use Rattle.geometry.specs.declared.Geometry.{Geometry}
use Rattle.geometry.specs.Limits.{blocks, fits}
use Rattle.alloc_log.specs.Word.{write_at, bytes_of}
use Rattle.alloc_log.specs.Marks.{held_in}
use Rattle.alloc_log.specs.Read.{Reads}
use Rattle.alloc_log.specs.Tool.{readable, marks_of}
use Rattle.model.specs.Table.{all}
use Rattle.model.specs.Held.{held}
use Rattle.model.specs.Check.{same, good?}
use Rattle.model.specs.Layout.{need, state_of}
use Rattle.model.specs.Calls.{conditions, result, written}
use Rattle.model.specs.Memory.{Memory, lent, short?, numbers?, range?, queue?, waiting?, windows?, names?, free?, log_holds?, sound?, used_log, words_used}
use Rattle.model.specs.Memory.{written_at, reply, stored_by, after, make_after}
use Rattle.model.specs.SoundStore.{SoundStore}
use Rattle.model.specs.Book.{Some}
use Rattle.model.specs.History.{Entry, entry_of, history_from}
use Rattle.model.specs.UsedWords.{used_then, used_by}
use Rattle.model.specs.Demand.{Own, with_out, own_store, run}
use Rattle.model.specs.Crash.{compacts?, Compacts, heard, used_after}
use Rattle.model.specs.Recover.{taken_up, GoesOn, Recovers}
use Rattle.model.specs.Command.{Command}
use Rattle.model.proofs.Keeps.{making_is, fresh_is_sound}
use Rattle.model.proofs.Demands.{run_sound}
use Rattle.model.proofs.Along.{run_append, used_of, Whole, wrote_by, wrote, wrote_all, joined, compacted, grown, whole_run}
use Rattle.model.proofs.ByReplies.{words_told, fresh_used, used_told, held_told}
use Rattle.model.proofs.CrashProof.{untouched}

-- ── the log stays as long as it is, or becomes longer ──

write_long : (bytes others : List ℕ) (at : ℕ) → length bytes ≤ length (write_at bytes at others)
unfolding write_at
write_long bytes others at =
    let a = length-append (take at bytes) (others ++ drop (at + length others) bytes) in
    let b = length-append others (drop (at + length others) bytes) in
    let c = length-drop (at + length others) bytes in
    cases (lt? (length bytes) at)
    (λ h. omega (arith, a, b, ap length (take_all at bytes (omega arith))))
    (λ h. omega (arith, a, b, c, length-take-le at bytes h))

module _ (g : Geometry) where
  left_long : (r : Reply) (log others : List ℕ) (at n : ℕ) → n ≤ length log → n ≤ length (leaves r log (write_at log at others))
  left_long (accepted l) log others at n h = omega (arith, write_long log others at)
  left_long (refused k) log others at n h = h

  run_long : (l : List Own) (M : Memory) (n : ℕ) → n ≤ length M.log → n ≤ length (run g M l).log
  unfolding after
  run_long [] M n h = h
  run_long (a ∷ l) M n h =
      let T = state_of g M.tables in
      run_long l ((own_store g).after M a) n
      (left_long (reply g (with_out M a.out) a.call) M.log (bytes_of (written g T a.call)) (written_at T a.call) n h)

  -- ── two logs with the same used words ──

  -- whether tables are sound is read from the used words alone
  same_sound : (t x y : List ℕ) → used_log (state_of g t) x ≡ used_log (state_of g t) y → sound? g t x ≡ sound? g t y
  unfolding sound? log_holds?
  same_sound t x y e =
      let T = state_of g t in
      ap (λ (u : List ℕ). numbers? g t && (range? g T && (good? T.view && (queue? T && (waiting? T && (windows? T.view T.notes &&
      (names? T.view T.notes && (free? T t && (readable g u && all (blocks g) (λ b. same (held_in (marks_of g u) b) (held T b))))))))))) e

  module _ (t x y : List ℕ) (e : used_log (state_of g t) x ≡ used_log (state_of g t) y) (lx : 8 * g.words ≤ length x) (ly : 8 * g.words ≤ length y) where
    same_short : (out : List ℕ) → short? g (lent t x out) ≡ short? g (lent t y out)
    unfolding short?
    same_short out =
        ap (λ (b : Bool). ltb (length t) (need g) || (b || ltb (length out) (2 * blocks g + 64)))
        (le-ltb (length x) (8 * g.words) lx ∙ sym (le-ltb (length y) (8 * g.words) ly))

    same_reply : (out : List ℕ) (c : Command) → reply g (lent t x out) c ≡ reply g (lent t y out) c
    unfolding reply
    same_reply out c =
        ap₂ (λ (b d : Bool). decide ((2, not (fits g)) ∷ (3, b) ∷ (4, not d) ∷ conditions g (state_of g t) c) (result g (state_of g t) c))
        (same_short out) (same_sound t x y e)

    same_wrote : (out : List ℕ) (a : Own) → wrote g (lent t x out) a ≡ wrote g (lent t y out) a
    unfolding wrote
    same_wrote out a = ap (λ r. wrote_by r (written g (state_of g t) a.call)) (same_reply a.out a.call)

    same_compacts : (out : List ℕ) (a : Own) → compacts? (entry_of (own_store g) (lent t x out) a) ≡ compacts? (entry_of (own_store g) (lent t y out) a)
    same_compacts out a = ap (λ r. compacts? (record { call = a.call; answer = r })) (same_reply a.out a.call)

    -- what a call leaves of the used words
    same_used : (out : List ℕ) (a : Own) → used_of g ((own_store g).after (lent t x out) a) ≡ used_of g ((own_store g).after (lent t y out) a)
    same_used out a =
        cases (either (compacts? (entry_of (own_store g) (lent t y out) a)))
        (λ c. (compacted g (lent t x out) a (same_compacts out a ∙ c)).0 ∙ sym (compacted g (lent t y out) a c).0)
        (λ n.
        (joined g (lent t x out) a (same_compacts out a ∙ n)).log ∙ ap₂ (λ u ws. u ++ bytes_of ws) e (same_wrote out a) ∙ sym (joined g (lent t y out) a n).log)

  -- what a call with the reply r leaves
  unfoldable left : Own → Reply → List ℕ → List ℕ → Memory
  left a r t log = record {
    tables = leaves r t (stored_by g t a.call);
    log = leaves r log (write_at log (written_at (state_of g t) a.call) (bytes_of (written g (state_of g t) a.call)));
    out = leaves r a.out (sets a.out 0 (result g (state_of g t) a.call));
  }

  left_is : (a : Own) (t log out : List ℕ) → (own_store g).after (lent t log out) a ≡ left a (reply g (lent t log a.out) a.call) t log
  unfolding after left
  left_is a t log out = refl

  -- the used words of two logs, where n words were used before the calls `more`
  abbrev Same : ℕ → Memory → Memory → List Own → Type 0
  Same n N E more = take (8 * used_by n (heard g E more)) (run g N more).log ≡ take (8 * used_by n (heard g E more)) (run g E more).log

  -- any calls go on alike
  alike : (more : List Own) (t x y out : List ℕ) → used_log (state_of g t) x ≡ used_log (state_of g t) y → 8 * g.words ≤ length x → 8 * g.words ≤ length y →
      GoesOn g (state_of g t).used (lent t x out) (lent t y out) more
  unfolding state_of left
  alike [] t x y out e lx ly = record { replies = refl; tables = refl; out = refl; log = e }
  alike (a ∷ more) t x y out e lx ly =
      let r : Reply = reply g (lent t y a.out) a.call in
      let q : reply g (lent t x a.out) a.call ≡ r = same_reply t x y e lx ly a.out a.call in
      let nx : (own_store g).after (lent t x out) a ≡ left a r t x = left_is a t x out ∙ ap (λ k. left a k t x) q in
      let ny : (own_store g).after (lent t y out) a ≡ left a r t y = left_is a t y out in
      let u : used_of g (left a r t x) ≡ used_of g (left a r t y) =
      sym (ap (used_of g) nx) ∙ same_used t x y e lx ly out a ∙ ap (used_of g) ny in
      let T = state_of g t in
      let v = used_then T.used a.call r in
      let now_used : words_used (left a r t y) ≡ v = sym (ap words_used ny) ∙ words_told g (a ∷ []) (lent t y out) in
      let I = alike more (left a r t x).tables (left a r t x).log (left a r t y).log (left a r t x).out u
      (left_long r x (bytes_of (written g T a.call)) (written_at T a.call) (8 * g.words) lx)
      (left_long r y (bytes_of (written g T a.call)) (written_at T a.call) (8 * g.words) ly) in
      record {
        replies = ap₂ {C = List Entry} (λ k h. record { call = a.call; answer = k } ∷ h) q
            (ap (λ K. history_from (own_store g) K more) nx ∙ I.replies ∙ sym (ap (λ K. history_from (own_store g) K more) ny));
        tables = ap (λ K. (run g K more).tables) nx ∙ I.tables ∙ sym (ap (λ K. (run g K more).tables) ny);
        out = ap (λ K. (run g K more).out) nx ∙ I.out ∙ sym (ap (λ K. (run g K more).out) ny);
        log = subst (λ X. Same v X ((own_store g).after (lent t y out) a) more) (sym nx)
            (subst (λ Y. Same v (left a r t x) Y more) (sym ny) (subst (λ n. Same n (left a r t x) (left a r t y) more) now_used I.log));
      }

  -- the words of a store stay in its log while no C is accepted
  words_stay : (E : Memory) (late : List Own) → Whole g E → (Some Compacts (history_from (own_store g) E late) → ⊥) →
      take (8 * words_used E) (run g E late).log ≡ used_of g E
  unfolding state_of
  words_stay E late w n =
      let r = grown g late E n in
      sym (take-take (8 * words_used E) (8 * words_used (run g E late)) (run g E late).log (omega (arith, r.0))) ∙
      ap (take (8 * words_used E)) r.1 ∙ take_at (used_of g E) (bytes_of (wrote_all g E late)) (8 * words_used E) w

-- sound tables are sound with every log that has the same used words
other_log : (g : Geometry) (t x y : List ℕ) → used_log (state_of g t) x ≡ used_log (state_of g t) y → SoundStore g t y → SoundStore g t x
other_log g t x y e S = record {
  made = S.made;
  range = S.range;
  means = S.means;
  queue = S.queue;
  waiting = S.waiting;
  windows = S.windows;
  names = S.names;
  free = S.free;
  logged = subst (λ l. Reads g.arenas g.per l (held (state_of g t))) (sym e) S.logged;
}

-- RECOVERY
pub recovers : Recovers
unfolding state_of make_after
recovers g M made early late none log long front =
    let F = make_after g M in
    let (inside, L) = making_is g M made in
    let S = fresh_is_sound g M made F.log in
    let E = run g F early in
    let SE = run_sound g early F S in
    let bare : words_used F ≡ 0 = fresh_used g M made in
    let told : words_used E ≡ used_after g F early = used_told g M made early in
    let w : Whole g F = ap (λ u. length (take (8 * u) F.log)) bare ∙ ap (λ u. 8 * u) (sym bare) in
    let words : used_log (state_of g E.tables) log ≡ used_of g E =
    subst (λ n. take (8 * n) log ≡ take (8 * n) (run g F (early ++ late)).log) (sym told) front ∙
    ap (λ K. take (8 * words_used E) K.log) (run_append (own_store g) early late F) ∙ words_stay g E late (whole_run g early F w) none in
    record {
      sound = other_log g E.tables log E.log words SE;
      goes_on_lem = λ more. subst (λ n. GoesOn g n (taken_up E log) E more) told
          (alike g more E.tables log E.log E.out words long (run_long g early F (8 * g.words) L.log));
      kept = λ mid rest s quiet b h.
          untouched g inside mid E b SE quiet (inl ((held_told g M made early b).1 h));
    }
