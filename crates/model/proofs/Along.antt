-- A store that keeps its own log, call by call: what its log has after each, while no C is accepted; and what a Y or C leaves at its end.
use mathlib.Core.Path.{◌≡◌, refl, sym, ap, ap₂, ◌∙◌, subst}
use mathlib.Core.Logic.{◌⊎◌, inl, inr}
use mathlib.Core.Bool.{Bool, true, false, cond, ◌&&◌, false≢true}
use mathlib.Core.List.{List, [], ◌∷◌, ◌++◌, map, append_assoc, append-nil}
use Prim.Native.Nat.{ℕ, ◌+◌, ◌*◌, ◌%◌}
use native.Mathlib.Omega.{arith}
use lib.ListN.{length, get_or, length-append}
use Rattle.answer.specs.Reply.{Reply, accepted, refused}
use Rattle.answer.specs.Refusal.{leaves}
use Rattle.answer.proofs.Cases.{cases, either}
use Rattle.geometry.specs.declared.Geometry.{Geometry}
use Rattle.geometry.specs.Limits.{Inside}
use Rattle.alloc_log.specs.Word.{words, word_bytes, write_at, bytes_of, released, barrier}
use Rattle.alloc_log.specs.Settled.{NoBarrier}
use Rattle.alloc_log.specs.Runs.{Run}
use Rattle.alloc_log.specs.Compress.{run_words, runs_words}
use Rattle.alloc_log.specs.Compress as log
use Rattle.alloc_log.specs.Read.{Reads}
use Rattle.alloc_log.proofs.Writing.{length_bytes, bytes_append}
use Rattle.alloc_log.proofs.Appending.{words_append}
use Rattle.model.specs.Book.{Some}
use Rattle.model.specs.Held.{held, frees}
use Rattle.model.specs.State.{State}
use Rattle.model.specs.Layout.{state_of}
use Rattle.model.specs.Window.{queueing}
use Rattle.model.specs.Calls.{Account, looking, opening, freeing, closing, removing, reclaiming, placing, marking, renewing, account, renews, words_by}
use Rattle.model.specs.Calls.{left_by, first_queued, reclaimed, writing, compressed, written, acted, given, logged, effect}
use Rattle.model.specs.Memory.{Memory, used_log, words_used, written_at, reply, stored_by, after}
use Rattle.model.specs.History.{Machine, Entry, entry_of, state_from, history_from, was_accepted, syncs_by, syncs}
use Rattle.model.specs.HistoryFacts.{Synced}
use Rattle.model.specs.Demand.{Own, with_out, own_store, run}
use Rattle.model.specs.Crash.{is_c, compacts?, Compacts}
use Rattle.model.specs.Command.{Command}
use Rattle.model.specs.Command.{Barrier, Compress}
use Rattle.model.proofs.EachCall.{Is, is}
use Rattle.model.proofs.LogKeeps.{log_after}
use Rattle.model.proofs.Keeps.{Accepted, accepted_is, sound_fine, log_after_lem, accepted_state, accepted_log}

-- ── lists of calls ──

pub not_true : (t : Bool) → (t ≡ true → ⊥) → t ≡ false
not_true t k = cases (either t) (λ y. absurd (k y)) (λ y. y)

pub run_append : (M : Machine) (l m : List M.Asked) (T : M.Tables) → state_from M T (l ++ m) ≡ state_from M (state_from M T l) m
run_append M [] m T = refl
run_append M (a ∷ l) m T = run_append M l m (M.after T a)

pub history_append : (M : Machine) (l m : List M.Asked) (T : M.Tables) → history_from M T (l ++ m) ≡ history_from M T l ++ history_from M (state_from M T l) m
history_append M [] m T = refl
history_append M (a ∷ l) m T = ap {B = List Entry} (λ h. entry_of M T a ∷ h) (history_append M l m (M.after T a))

pub some_append : (P : Entry → Type 0) (l m : List Entry) → Some P (l ++ m) → Some P l ⊎ Some P m
some_append P [] m i = inr i
some_append P (e ∷ l) m i = cases i (λ p. inl (inl p)) (λ j. cases (some_append P l m j) (λ k. inl (inr k)) (λ k. inr k))

-- a C is a Y or C
renews_syncs : (A : Account) (t : Bool) → (t && renews A) ≡ true → (t && syncs_by A) ≡ true
renews_syncs (looking s cs res note) true e = e
renews_syncs (opening cs a) true e = e
renews_syncs (freeing cs a) true e = e
renews_syncs (closing r) true e = e
renews_syncs (removing r) true e = e
renews_syncs (reclaiming k) true e = e
renews_syncs (placing r x k) true e = e
renews_syncs marking true e = absurd (false≢true e)
renews_syncs renewing true e = e
renews_syncs A false e = absurd (false≢true e)

pub compacts_syncs : (c : Command) (t : Bool) → (t && is_c c) ≡ true → (t && syncs c) ≡ true
compacts_syncs c t e = renews_syncs (account c) t e

pub quiet_keeps : (l : List Entry) → (Some Synced l → ⊥) → Some Compacts l → ⊥
quiet_keeps [] n i = i
quiet_keeps (e ∷ l) n i = cases i (λ p. n (inl (compacts_syncs e.call (was_accepted e.answer) p))) (quiet_keeps l (λ j. n (inr j)))

-- ── the used part of the log ──

abbrev pub used_of : Geometry → Memory → List ℕ
used_of g M = used_log (state_of g M.tables) M.log

-- the words of the used part are whole
abbrev pub Whole : Geometry → Memory → Type 0
Whole g M = length (used_of g M) ≡ 8 * words_used M

-- the words that a call writes, if it is accepted
unfoldable pub wrote_by : Reply → List ℕ → List ℕ
wrote_by (accepted l) ws = ws
wrote_by (refused n) ws = []

unfoldable pub wrote : Geometry → Memory → Own → List ℕ
wrote g M a = wrote_by (reply g (with_out M a.out) a.call) (written g (state_of g M.tables) a.call)

unfoldable pub wrote_all : Geometry → Memory → List Own → List ℕ
wrote_all g M [] = []
wrote_all g M (a ∷ l) = wrote g M a ++ wrote_all g ((own_store g).after M a) l

-- ── one call ──

used_by_lem : (g : Geometry) (T : State) (A : Account) → renews A ≡ false → (left_by g T A).used ≡ T.used + length (words_by g T A)
unfolding acted queueing reclaimed given logged
used_by_lem g T (looking s cs res note) e = omega arith
used_by_lem g T (opening cs a) e = refl
used_by_lem g T (freeing cs a) e = refl
used_by_lem g T (closing r) e = omega arith
used_by_lem g T (removing r) e = omega arith
used_by_lem g T (reclaiming k) e = refl
used_by_lem g T (placing r x k) e = refl
used_by_lem g T marking e = refl
used_by_lem g T renewing e = absurd (false≢true (sym e))

effect_used : (g : Geometry) (T : State) (c : Command) → is_c c ≡ false → (effect g T c).used ≡ T.used + length (written g T c)
effect_used g T c e = used_by_lem g T (account c) e

log_joined : (g : Geometry) (i : Inside g) (T : State) (R : Rattle.model.proofs.Fine.Fine g T) (l : List ℕ)
    (r : Reads g.arenas g.per l (held T)) (c : Command) → is_c c ≡ false → log_after g i T R l r c ≡ l ++ bytes_of (written g T c)
log_joined g i T R l r c e = ap (λ t. cond t (bytes_of (written g T c)) (l ++ bytes_of (written g T c))) e

renews_C : (c : Command) (A : Account) → Is c A → renews A ≡ true → c ≡ Compress
renews_C c (looking s cs res note) i e = absurd (false≢true e)
renews_C c (opening cs a) i e = absurd (false≢true e)
renews_C c (freeing cs a) i e = absurd (false≢true e)
renews_C c (closing r) i e = absurd (false≢true e)
renews_C c (removing r) i e = absurd (false≢true e)
renews_C c (reclaiming k) i e = absurd (false≢true e)
renews_C c (placing r x k) i e = absurd (false≢true e)
renews_C c marking i e = absurd (false≢true e)
renews_C c renewing i e = i.0

pub is_C : (c : Command) → is_c c ≡ true → c ≡ Compress
is_C c e = renews_C c (account c) (is c) e

module _ (g : Geometry) where
  cleared : (T : State) → (effect g T Compress).used ≡ length (compressed g T)
  unfolding logged
  cleared T = refl

  used_is : (M : Memory) → (state_of g M.tables).used ≡ words_used M
  unfolding state_of
  used_is M = refl

  -- what an accepted call leaves of the log
  module _ (M : Memory) (c : Command) (l : List ℕ) (e : reply g M c ≡ accepted l) where
    abbrev T : State
    T = state_of g M.tables

    now_used : words_used (after g M c) ≡ (effect g T c).used
    now_used = sym (used_is (after g M c)) ∙ ap (λ U. U.used) (accepted_state g M c l e)

    A : Accepted g M c
    A = (accepted_is g M c l e).0

    now_log : used_of g (after g M c) ≡ log_after g A.inside T (sound_fine g M.tables M.log A.sound) (used_of g M) A.sound.logged c
    now_log =
        let F = sound_fine g M.tables M.log A.sound in
        ap₂ (λ (U : State) (k : List ℕ). used_log U k) (accepted_state g M c l e) (accepted_log g M c l e) ∙
        log_after_lem g T M.log (omega (arith, A.long.log, F.range.used)) F A.inside A.sound.logged c

  -- a refused one leaves it
  pub refused_tables : (M : Memory) (c : Command) (n : ℕ) → reply g M c ≡ refused n → (after g M c).tables ≡ M.tables
  unfolding after
  refused_tables M c n e = ap (λ r. leaves r M.tables (stored_by g M.tables c)) e

  refused_log : (M : Memory) (c : Command) (n : ℕ) → reply g M c ≡ refused n → (after g M c).log ≡ M.log
  unfolding after
  refused_log M c n e =
      let T : State = state_of g M.tables in
      ap (λ r. leaves r M.log (write_at M.log (written_at T c) (bytes_of (written g T c)))) e

  -- a call that is no accepted C: its words join the log
  pub record Joined (M : Memory) (a : Own) : Type 0 where
    pub used : words_used ((own_store g).after M a) ≡ words_used M + length (wrote g M a)
    pub log : used_of g ((own_store g).after M a) ≡ used_of g M ++ bytes_of (wrote g M a)

  pub joined : (M : Memory) (a : Own) → compacts? (entry_of (own_store g) M a) ≡ false → Joined M a
  unfolding wrote wrote_by
  joined M a n = go (reply g (with_out M a.out) a.call) refl
    where
      N : Memory
      N = with_out M a.out

      go : (r : Reply) → reply g (with_out M a.out) a.call ≡ r → Joined M a
      go (refused k) e = record {
        used = ap (λ t. get_or t 9 0) (refused_tables N a.call k e) ∙
            sym (ap (λ r. words_used M + length (wrote_by r (written g (state_of g M.tables) a.call))) e ∙
            (let z : words_used M + 0 ≡ words_used M = omega arith in z));
        log = ap₂ (λ t k. used_log (state_of g t) k) (refused_tables N a.call k e) (refused_log N a.call k e) ∙
            sym (ap (λ r. used_of g M ++ bytes_of (wrote_by r (written g (state_of g M.tables) a.call))) e ∙ append-nil (used_of g M));
      }
      go (accepted l) e =
          let c : is_c a.call ≡ false = sym (ap (λ r. was_accepted r && is_c a.call) e) ∙ n in
          let T : State = state_of g M.tables in
          let A' = (accepted_is g N a.call l e).0 in
          record {
            used = now_used N a.call l e ∙ effect_used g T a.call c ∙
                ap₂ (λ x y. x + y) (used_is M) (ap (λ r. length (wrote_by r (written g T a.call))) (sym e));
            log = now_log N a.call l e ∙
                log_joined g A'.inside T (sound_fine g M.tables M.log A'.sound) (used_of g M) A'.sound.logged a.call c ∙
                ap (λ r. used_of g M ++ bytes_of (wrote_by r (written g T a.call))) (sym e);
          }

  -- an accepted C: the log anew
  pub compacted : (M : Memory) (a : Own) → Compacts (entry_of (own_store g) M a) →
      (used_of g ((own_store g).after M a) ≡ bytes_of (compressed g (state_of g M.tables))) ×
      (words_used ((own_store g).after M a) ≡ length (compressed g (state_of g M.tables)))
  compacted M a y = go (reply g (with_out M a.out) a.call) refl
    where
      N : Memory
      N = with_out M a.out

      go : (r : Reply) → reply g (with_out M a.out) a.call ≡ r →
          (used_of g ((own_store g).after M a) ≡ bytes_of (compressed g (state_of g M.tables))) ×
          (words_used ((own_store g).after M a) ≡ length (compressed g (state_of g M.tables)))
      go (refused k) e = absurd (false≢true (sym (ap (λ r. was_accepted r && is_c a.call) e) ∙ y))
      go (accepted l) e =
          let c : a.call ≡ Compress = is_C a.call (sym (ap (λ r. was_accepted r && is_c a.call) e) ∙ y) in
          let T : State = state_of g M.tables in
          let A' = (accepted_is g N a.call l e).0 in (
            now_log N a.call l e ∙ ap (log_after g A'.inside T (sound_fine g M.tables M.log A'.sound) (used_of g M) A'.sound.logged) c,
            now_used N a.call l e ∙ ap (λ d. (effect g T d).used) c ∙ cleared T,
          )

  -- an accepted Y writes a barrier
  pub barriered : (M : Memory) (a : Own) → a.call ≡ Barrier → was_accepted (reply g (with_out M a.out) a.call) ≡ true → wrote g M a ≡ barrier ∷ []
  unfolding wrote wrote_by
  barriered M a c y = go (reply g (with_out M a.out) a.call) y
    where
      go : (r : Reply) → was_accepted r ≡ true → wrote_by r (written g (state_of g M.tables) a.call) ≡ barrier ∷ []
      go (accepted l) e = ap (written g (state_of g M.tables)) c
      go (refused k) e = absurd (false≢true e)

  -- ── calls with no accepted C ──

  pub grown : (l : List Own) (M : Memory) → (Some Compacts (history_from (own_store g) M l) → ⊥) →
      (words_used (run g M l) ≡ words_used M + length (wrote_all g M l)) × (used_of g (run g M l) ≡ used_of g M ++ bytes_of (wrote_all g M l))
  unfolding wrote_all
  grown [] M n = (omega arith, sym (append-nil (used_of g M)))
  grown (a ∷ l) M n =
      let N : Memory = (own_store g).after M a in
      let j = joined M a (not_true (compacts? (entry_of (own_store g) M a)) (λ y. n (inl y))) in
      let r = grown l N (λ i. n (inr i)) in (
        omega (arith, r.0, j.used, length-append (wrote g M a) (wrote_all g N l)),
        r.1 ∙ ap (λ k. k ++ bytes_of (wrote_all g N l)) j.log ∙ append_assoc (used_of g M) (bytes_of (wrote g M a)) (bytes_of (wrote_all g N l)) ∙
            ap (λ k. used_of g M ++ k) (sym (bytes_append (wrote g M a) (wrote_all g N l))),
      )

  pub wrote_append : (l m : List Own) (M : Memory) → wrote_all g M (l ++ m) ≡ wrote_all g M l ++ wrote_all g (run g M l) m
  unfolding wrote_all
  wrote_append [] m M = refl
  wrote_append (a ∷ l) m M =
      ap (λ k. wrote g M a ++ k) (wrote_append l m ((own_store g).after M a)) ∙
      sym (append_assoc (wrote g M a) (wrote_all g ((own_store g).after M a) l) (wrote_all g (run g ((own_store g).after M a) l) m))

-- ── words that are no barrier ──

-- none has the low byte 3
abbrev pub Plain : List ℕ → Type 0
Plain [] = Unit {0}
Plain (w ∷ ws) = (w % 256 ≡ 3 → ⊥) × Plain ws

plain_append : (l m : List ℕ) → Plain l → Plain m → Plain (l ++ m)
plain_append [] m p q = q
plain_append (w ∷ l) m p q = (p.0, plain_append l m p.1 q)

pub plain_bytes : (ws : List ℕ) → Plain ws → NoBarrier (words (bytes_of ws))
unfolding words word_bytes Rattle.alloc_log.specs.Word.spell
plain_bytes [] p = tt
plain_bytes (w ∷ ws) p = (λ e. p.0 (omega arith), plain_bytes ws p.1)

plain_released : (l : List ℕ) → Plain (map released l)
plain_released [] = tt
plain_released (b ∷ l) = (λ e. omega arith, plain_released l)

plain_by : (g : Geometry) (T : State) (A : Account) → syncs_by A ≡ false → Plain (words_by g T A)
plain_by g T (looking s cs res note) e = tt
plain_by g T (opening cs a) e = tt
plain_by g T (freeing cs a) e = plain_released (frees T.view (a T))
plain_by g T (closing r) e = tt
plain_by g T (removing r) e = tt
plain_by g T (reclaiming k) e = plain_released (first_queued T k)
plain_by g T (placing r x k) e = (λ z. omega arith, plain_released (frees T.view (writing g T r x k)))
plain_by g T marking e = absurd (false≢true (sym e))
plain_by g T renewing e = absurd (false≢true (sym e))

plain_written : (g : Geometry) (T : State) (c : Command) → syncs c ≡ false → Plain (written g T c)
plain_written g T c e = plain_by g T (account c) e

pub plain_wrote : (g : Geometry) (l : List Own) (M : Memory) → (Some Synced (history_from (own_store g) M l) → ⊥) → Plain (wrote_all g M l)
unfolding wrote_all wrote wrote_by
plain_wrote g [] M n = tt
plain_wrote g (a ∷ l) M n =
    plain_append (wrote_by (reply g (with_out M a.out) a.call) (written g (state_of g M.tables) a.call)) (wrote_all g ((own_store g).after M a) l)
    (go (reply g (with_out M a.out) a.call) (λ y. n (inl y))) (plain_wrote g l ((own_store g).after M a) (λ i. n (inr i)))
  where
    go : (r : Reply) → ((was_accepted r && syncs a.call) ≡ true → ⊥) → Plain (wrote_by r (written g (state_of g M.tables) a.call))
    go (accepted k) h = plain_written g (state_of g M.tables) a.call (not_true (syncs a.call) h)
    go (refused k) h = tt

-- ── the end of the log behind a Y or C ──

-- nothing, or a barrier is its last word
abbrev pub Ends : List ℕ → Type 0
Ends l = (l ≡ []) ⊎ ((early : List ℕ) × (words l ≡ early ++ (barrier ∷ [])))

ends_with : (x : List ℕ) → length x % 8 ≡ 0 → Ends (x ++ bytes_of (barrier ∷ []))
unfolding words word_bytes Rattle.alloc_log.specs.Word.spell
ends_with x h = inr (words x, words_append x (bytes_of (barrier ∷ [])) h)

-- the compressed log ends so
runs_end : (l : List Run) → (ws : List ℕ) × (runs_words l ≡ ws ++ (barrier ∷ []))
unfolding runs_words
runs_end [] = ([], refl)
runs_end (r ∷ l) =
    let w = runs_end l in
    let ws = run_words r.0 r.1 in
    (ws ++ w.0, ap (λ k. ws ++ k) w.1 ∙ sym (append_assoc ws w.0 (barrier ∷ [])))

-- an accepted Y or C is one of the two
ended_by : (c : Command) (A : Account) → Is c A → (t : Bool) → (t && syncs_by A) ≡ true → ((t && renews A) ≡ true → ⊥) → (c ≡ Barrier) × (t ≡ true)
ended_by c (looking s cs res note) i true e n = absurd (false≢true e)
ended_by c (opening cs a) i true e n = absurd (false≢true e)
ended_by c (freeing cs a) i true e n = absurd (false≢true e)
ended_by c (closing r) i true e n = absurd (false≢true e)
ended_by c (removing r) i true e n = absurd (false≢true e)
ended_by c (reclaiming k) i true e n = absurd (false≢true e)
ended_by c (placing r x k) i true e n = absurd (false≢true e)
ended_by c marking i true e n = (i.0, refl)
ended_by c renewing i true e n = absurd (n refl)
ended_by c A i false e n = absurd (false≢true e)

pub ended : (c : Command) (t : Bool) → (t && syncs c) ≡ true → ((t && is_c c) ≡ true → ⊥) → (c ≡ Barrier) × (t ≡ true)
ended c t e n = ended_by c (account c) (is c) t e n

module _ (g : Geometry) where
  pub whole_step : (M : Memory) (a : Own) → Whole g M → Whole g ((own_store g).after M a)
  whole_step M a w =
      cases (either (compacts? (entry_of (own_store g) M a)))
      (λ y. let c = compacted g M a y in ap length c.0 ∙ length_bytes (compressed g (state_of g M.tables)) ∙ ap (λ k. 8 * k) (sym c.1))
      (λ n.
      let j = joined g M a n in
      ap length j.log ∙ length-append (used_of g M) (bytes_of (wrote g M a)) ∙
      (let z : length (used_of g M) + length (bytes_of (wrote g M a)) ≡ 8 * words_used ((own_store g).after M a) =
      omega (arith, w, length_bytes (wrote g M a), j.used) in z))

  pub whole_run : (l : List Own) (M : Memory) → Whole g M → Whole g (run g M l)
  whole_run [] M w = w
  whole_run (a ∷ l) M w = whole_run l ((own_store g).after M a) (whole_step M a w)

  pub synced_ends : (M : Memory) (a : Own) → Whole g M → Synced (entry_of (own_store g) M a) → Ends (used_of g ((own_store g).after M a))
  unfolding compressed log.compressed
  synced_ends M a w y =
      cases (either (compacts? (entry_of (own_store g) M a)))
      (λ c.
      let r = runs_end (Rattle.alloc_log.specs.Runs.runs g.per (held (state_of g M.tables)) (g.arenas * g.per)) in
      subst Ends (sym ((compacted g M a c).0 ∙ ap bytes_of r.1 ∙ bytes_append r.0 (barrier ∷ [])))
      (ends_with (bytes_of r.0) (omega (arith, length_bytes r.0))))
      (λ n.
      let e = ended a.call (was_accepted (reply g (with_out M a.out) a.call)) y (λ t. false≢true (sym n ∙ t)) in
      subst Ends (sym ((joined g M a n).log ∙ ap (λ k. used_of g M ++ bytes_of k) (barriered g M a e.0 e.1))) (ends_with (used_of g M) (omega (arith, w))))
