-- Results that name blocks, and the log words beside them (3.13).
use mathlib.Core.Path.{◌≡◌, refl, sym, ap, ◌∙◌, subst}
use mathlib.Core.Bool.{cond}
use mathlib.Core.List.{List, [], ◌∷◌, map}
use Prim.Native.Nat.{ℕ, suc, ◌*◌, ◌<◌}
use native.Mathlib.Omega.{arith}
use Rattle.answer.specs.Refusal.{NoneHolds}
use Rattle.geometry.specs.declared.Geometry.{Geometry}
use Rattle.geometry.specs.Limits.{Inside}
use Rattle.alloc_log.specs.Word.{allocated, released, write_at, bytes_of}
use Rattle.model.specs.View.{View}
use Rattle.model.specs.Sound.{Sound}
use Rattle.model.specs.Lists.{In}
use Rattle.model.specs.Results.{paired, blocks_in, blocks_of}
use Rattle.model.specs.Actions.{Action, Asks}
use Rattle.model.specs.Held.{frees}
use Rattle.model.specs.State.{State}
use Rattle.model.specs.Window.{steps, queueing}
use Rattle.model.specs.Calls.{Account, looking, opening, freeing, closing, removing, reclaiming, placing, marking, renewing, account, refusals_by}
use Rattle.model.specs.Calls.{result_by, words_by, left_by, spelling_by, spelling, closes, first_queued, freed_with, slot, block, writing, written, result}
use Rattle.model.specs.Calls.{acted, given}
use Rattle.model.specs.Layout.{state_of}
use Rattle.model.specs.Memory.{Memory, words_used, written_at}
use Rattle.model.specs.Births.{InStore, WithBirths, Spelled, NamedAs, BirthsInResults, words_as, words_for, LogAsBefore}
use Rattle.model.specs.Crash.{is_c}
use Rattle.model.specs.Command.{Command}
use Rattle.model.specs.Command.{Compress}
use Rattle.model.specs.declared.Spelling.{Spelling}
use Rattle.model.specs.declared.Spelling.TheVariants.{Numbers, Blocks}
use Rattle.model.proofs.ByNumber.{none_at}
use Rattle.model.proofs.Facts.{born_le}
use Rattle.model.proofs.Meaning.{sound_means}
use Rattle.model.proofs.HeldFacts.{frees_is}
use Rattle.model.proofs.QueueFacts.{in_first}
use Rattle.model.proofs.ResultFacts.{blocks_in_paired}
use Rattle.model.proofs.BirthStays.{write_birth}
use Rattle.model.proofs.CallKinds.{none_left}
use Rattle.model.proofs.Closing.{closing_first, closing_last}
use Rattle.model.proofs.EachCall.{Is, is, HeldIf, Fits, fits}
use Rattle.model.proofs.Fine.{Fine, named_slot, asks_W}
use Rattle.model.proofs.Along.{not_true, is_C}
use Rattle.model.proofs.Keeps.{accepted_is, accepted_state, accepted_log, sound_fine}

-- ── births ──

in_store : (K : View) → Sound K → (b : ℕ) → 0 < K.birth b → InStore K b
in_store K S b h =
    let (s, x, o) = ((sound_means K S).held b).0 h in
    record { slot = s; page = x; on = o; above = h; given = born_le K S b }

with_births_lem : (K : View) (bs l : List ℕ) → Sound K → paired K.birth bs ≡ l → ((b : ℕ) → In b bs → 0 < K.birth b) → WithBirths K l
with_births_lem K bs l S e h = record { these = bs; numbers = sym e; in_store = λ b i. in_store K S b (h b i) }

freed_births : (K : View) (a : Action) (l : List ℕ) → Sound K → Asks K a → paired K.birth (frees K a) ≡ l → WithBirths K l
freed_births K a l S q e = with_births_lem K (frees K a) l S e (λ b i. ((frees_is K a S q b).0 i).0)

-- by the spelling
spelled : (T : State) (s : Spelling) (m l : List ℕ) → Sound T.view → HeldIf T s m → m ≡ l → Spelled T.view s l
spelled T Numbers m l S w e = tt
spelled T Blocks m l S w e = with_births_lem T.view w.these l S (w.numbers ∙ e) w.held

module _ (g : Geometry) (inside : Inside g) (T : State) (F : Fine g T) where
  -- by the kind
  named_as : (c : Command) (A : Account) (l : List ℕ) → Fits g T c A → NoneHolds (refusals_by g T A) → result_by g T A ≡ l →
      NamedAs T (left_by g T A) A l
  unfolding given acted queueing
  named_as c (looking s cs res note) l f n e = spelled T s (res g T) l F.sound (f n).1 e
  named_as c (opening cs a) l f n e = tt
  named_as c (freeing cs a) l f n e = freed_births T.view (a T) l F.sound (f (none_left (cs g T) _ n)).asks e
  named_as c (closing r) l f n e =
      let z : suc T.view.last ≡ (steps T.view (closes T r)).last = omega (arith, closing_last g inside T F r (closing_first g T r n)) in
      record { numbers = sym e ∙ ap {B = List ℕ} (λ v. v ∷ []) z; next = sym z }
  named_as c (removing r) l f n e = sym e
  named_as c (reclaiming k) l f n e =
      let was : (b : ℕ) → In b (first_queued T k) → In b T.queue.list = in_first k T.queue.list in
      record {
        these = first_queued T k;
        numbers = sym e;
        in_queue = was;
        above = λ b i. (F.queue.births b).0 (was b i);
        given = λ b i. F.queue.given b;
        unborn = λ b i. F.queue.unborn b (was b i);
      }
  named_as c (placing r x k) l f n e =
      let q = asks_W g inside T F r x k n in
      record {
        first = block g T k;
        rest = freed_with T (writing g T r x k);
        numbers = sym e;
        free = q.4;
        birth = write_birth T.view (slot T r) x (block g T k) ∙ (named_slot g inside T F r (none_at (refusals_by g T (placing r x k)) n 8)).1;
        freed = freed_births T.view (writing g T r x k) (freed_with T (writing g T r x k)) F.sound q refl;
      }
  named_as c marking l f n e = tt
  named_as c renewing l f n e = tt

pub births_in_results : BirthsInResults
unfolding state_of
births_in_results g M c l e =
    let (A, i) = accepted_is g M c l e in
    let T : State = state_of g M.tables in
    let F = sound_fine g M.tables M.log A.sound in
    subst (λ (U : State). NamedAs T U (account c) l) (sym (accepted_state g M c l e))
    (named_as g A.inside T F c (account c) l (fits g A.inside T F c) A.none i)

-- ── log words ──

-- a call's words, by the blocks of its result
words_by_lem : (g : Geometry) (T : State) (c : Command) (A : Account) → Is c A → (c ≡ Compress → ⊥) →
    words_by g T A ≡ words_as A (blocks_of (spelling_by A) (result_by g T A))
unfolding blocks_of blocks_in
words_by_lem g T c (looking s cs res note) i n = refl
words_by_lem g T c (opening cs a) i n = refl
words_by_lem g T c (freeing cs a) i n = ap (map released) (sym (blocks_in_paired T.view.birth (frees T.view (a T))))
words_by_lem g T c (closing r) i n = refl
words_by_lem g T c (removing r) i n = refl
words_by_lem g T c (reclaiming k) i n = ap (map released) (sym (blocks_in_paired T.queue.birth (first_queued T k)))
words_by_lem g T c (placing r x k) i n =
    ap (λ l. allocated (block g T k) ∷ map released l) (sym (blocks_in_paired T.view.birth (frees T.view (writing g T r x k))))
words_by_lem g T c marking i n = refl
words_by_lem g T c renewing i n = absurd (n i.0)

words_are : (g : Geometry) (T : State) (c : Command) → (c ≡ Compress → ⊥) → written g T c ≡ words_for c (blocks_of (spelling c) (result g T c))
words_are g T c n = words_by_lem g T c (account c) (is c) n

-- they stand behind those that were used
behind_used : (g : Geometry) (M : Memory) (c : Command) → (c ≡ Compress → ⊥) → written_at (state_of g M.tables) c ≡ 8 * words_used M
unfolding state_of
behind_used g M c n = ap (λ t. cond t 0 (8 * words_used M)) (not_true (is_c c) (λ y. n (is_C c y)))

pub log_as_before : LogAsBefore
log_as_before g M c l n e =
    let T : State = state_of g M.tables in
    accepted_log g M c l e ∙ ap (λ a. write_at M.log a (bytes_of (written g T c))) (behind_used g M c n) ∙
    ap (λ w. write_at M.log (8 * words_used M) (bytes_of w)) (words_are g T c n ∙ ap (λ m. words_for c (blocks_of (spelling c) m)) (accepted_is g M c l e).1)
