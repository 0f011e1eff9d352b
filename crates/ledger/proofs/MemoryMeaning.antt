-- The refusals, each exactly, and what a making leaves.
use mathlib.Core.Path.{◌≡◌, refl, sym, ap, ◌∙◌, subst}
use mathlib.Core.Bool.{Bool, true, false, not}
use mathlib.Core.List.{List, [], ◌∷◌}
use Prim.Native.Nat.{ℕ, ◌+◌, ◌-◌, ◌*◌, ◌/◌, ◌%◌, ◌^◌, ◌≤◌, ◌<◌, min}
use native.Mathlib.Omega.{arith}
use lib.ListN.{length, get_or}
use lib.Seq.{sets}
use borrow.Author.Tests.{eqb-true, eqb-false}
use Rattle.answer.specs.Reply.{Reply, accepted, refused}
use Rattle.answer.specs.Refusal.{Condition, leaves}
use Rattle.answer.proofs.Decided.{accepted_same}
use Rattle.geometry.specs.declared.Geometry.{Geometry}
use Rattle.geometry.specs.Limits.{Inside, blocks}
use Rattle.choice.specs.Words.{bit, word_of}
use Rattle.choice.proofs.Bit.{bit_high}
use Rattle.choice.proofs.Births.{word_lt, word_bit}
use Rattle.alloc_log.specs.Word.{write_at, bytes_of}
use Rattle.model.specs.Held.{waits, available}
use Rattle.model.specs.Lists.{elem}
use Rattle.model.specs.State.{State, fresh}
use Rattle.model.specs.Calls.{conditions, result, written}
use Rattle.model.specs.Layout.{need, free_word, state_of, made}
use Rattle.model.specs.Memory.{Memory, short?, sound?, written_at, reply, stored_by, after, make_reply, make_after}
use Rattle.model.specs.SoundStore.{MadeFor, SoundStore}
use Rattle.model.specs.RefusalMeans.{sentences, Say}
use Rattle.model.specs.Command.{Command}
use Rattle.model.proofs.Demands.{all_ordered}
use Rattle.model.proofs.Keeps.{making_is, made_tables, sound_fine}
use Rattle.model.proofs.MadeFacts.{made_length, made_for, made_zero, made_free, made_beyond}
use Rattle.model.proofs.SoundTest.{sound_iff}
use Rattle.model.proofs.RefusalMeaning.{conditions_say}
use Rattle.model.proofs.RefusedExactly.{say_first, say_none}
use Rattle.ledger.specs.MemoryMeans.{Enough, TooShort, MadeLeft, MakingMeans, CallMeans, MemoryMeans}
use Rattle.ledger.proofs.Exactly.{Means, less, negated, either_of, outside, apart, not_accepted, here, later}
use Rattle.ledger.proofs.LogMeaning.{beyond}

-- "3: tables or the store's own log space shorter than the geometry needs, or a result buffer under 2 × N + 64 numbers" (7.1)
pub is_short : (g : Geometry) (M : Memory) → Means (short? g M) (TooShort g M) (Enough g M)
unfolding short?
is_short g M =
    let m = either_of (less (length M.tables) (need g)) (either_of (less (length M.log) (8 * g.words)) (less (length M.out) (2 * blocks g + 64))) in
    record {
      says = m.says;
      denies = record {
        holds = λ e. let w = m.denies.holds e in record { tables = w.0; log = w.1.0; out = w.1.1 };
        passes = λ k. m.denies.passes (k.tables, (k.log, k.out));
      };
    }

-- ── a making ──

-- the free words of a fresh store: a bit for each block
module _ (g : Geometry) (i : Inside g) (t : List ℕ) (room : need g ≤ length t) (b : ℕ) (h : b < 2048) where
  abbrev many : ℕ
  many = min 32 (blocks g - 32 * (b / 32))

  abbrev word : ℕ
  word = word_of (available (fresh g)) (32 * (b / 32)) many

  word_is : get_or (made g t) (64 + b / 32) 0 ≡ word
  unfolding free_word fresh
  word_is = made_free g i t room (b / 32) (omega arith)

  its_bit : (v : Bool) → bit word (b % 32) ≡ v → bit (get_or (made g t) (64 + b / 32) 0) (b % 32) ≡ v
  its_bit v e = ap (λ (w : ℕ). bit w (b % 32)) word_is ∙ e

  one : b < blocks g → get_or (made g t) (64 + b / 32) 0 / 2 ^ (b % 32) % 2 ≡ 1
  unfolding bit available waits elem fresh
  one k = eqb-true _ 1 (its_bit true (word_bit (available (fresh g)) (32 * (b / 32)) many (b % 32) (omega arith)))

  none : blocks g ≤ b → get_or (made g t) (64 + b / 32) 0 / 2 ^ (b % 32) % 2 ≡ 0
  unfolding bit
  none k =
      let w : ℕ = get_or (made g t) (64 + b / 32) 0 / 2 ^ (b % 32) in
      let z : w % 2 ≡ 1 → ⊥ = eqb-false (w % 2) 1 (its_bit false (bit_high many word (b % 32) (word_lt (available (fresh g)) (32 * (b / 32)) many) (omega arith))) in
      let l : w % 2 < 2 = omega arith in
      omega arith

made_left : (g : Geometry) (M : Memory) → make_reply g M ≡ accepted [] → MadeLeft g M
made_left g M e =
    let (i, long) = making_is g M e in
    let t : List ℕ = M.tables in
    let z : (make_after g M).tables ≡ made g t = made_tables g M e in
    let at : (k : ℕ) → get_or (make_after g M).tables k 0 ≡ get_or (made g t) k 0 = λ k. ap (λ (l : List ℕ). get_or l k 0) z in
    record {
      six = subst (MadeFor g) (sym z) (made_for g t long.tables);
      bits = λ b h. ap (λ (w : ℕ). w / 2 ^ (b % 32) % 2) (at (64 + b / 32)) ∙ one g i t long.tables b (omega (arith, i.blocks_most)) h;
      others = λ b h k. ap (λ (w : ℕ). w / 2 ^ (b % 32) % 2) (at (64 + b / 32)) ∙ none g i t long.tables b k h;
      zeros = λ k h l o. at k ∙ made_zero g t long.tables k l o h;
      rest = beyond (need g) t (make_after g M).tables long.tables (ap length z ∙ made_length g t) (λ k h. at k ∙ made_beyond g t k h);
    }

making_means : (g : Geometry) (M : Memory) → MakingMeans g M
unfolding make_reply make_after
making_means g M =
    let cs : List Condition = (3, short? g M) ∷ [] in
    let d = later (outside g) 2 cs [] (accepted []) not_accepted (λ i. later (is_short g M) 3 [] [] (accepted []) not_accepted (λ k. (accepted_same, ap accepted))) in
    record {
      two = here (outside g) 2 cs [] (omega arith);
      three = later (outside g) 2 cs [] (refused 3) (apart (λ e. omega arith)) (λ i. here (is_short g M) 3 [] [] tt);
      done = (λ e. let w = d.0 e in (w.0, w.1.0), λ w. d.1 (w.0, (w.1, refl)));
      refusal = λ n e. ap (λ (r : Reply). record { tables = leaves r M.tables (made g M.tables); log = M.log; out = M.out }) e;
      leaves = made_left g M;
      log = refl;
      out = refl;
    }

-- ── a call ──

-- "4: tables that are not sound" (7.1)
pub is_unsound : (g : Geometry) → Inside g → (t log : List ℕ) → Means (not (sound? g t log)) (SoundStore g t log → ⊥) (SoundStore g t log)
is_unsound g i t log = let s = sound_iff g i t log in negated (record { holds = s.0; passes = s.1 })

call_means : (g : Geometry) (M : Memory) (c : Command) → CallMeans g M c
unfolding reply after
call_means g M c =
    let T : State = state_of g M.tables in
    let l : List ℕ = result g T c in
    let four : List Condition = conditions g T c in
    let three : List Condition = (4, not (sound? g M.tables M.log)) ∷ four in
    let two : List Condition = (3, short? g M) ∷ three in
    let after-2 = (all_ordered g M c).1 in
    let after-3 = after-2.1 in
    let after-4 = after-3.1 in
    let say : Inside g → SoundStore g M.tables M.log → Say four (sentences g T c) =
    λ i s. conditions_say g i T (sound_fine g M.tables M.log s) c in
    record {
      two = here (outside g) 2 two l after-2;
      three = later (outside g) 2 two l (refused 3) (apart (λ e. omega arith)) (λ i. here (is_short g M) 3 three l after-3);
      four = later (outside g) 2 two l (refused 4) (apart (λ e. omega arith))
          (λ i. later (is_short g M) 3 three l (refused 4) (apart (λ e. omega arith))
          (λ k. here (is_unsound g i M.tables M.log) 4 four l after-4));
      later = λ n h.
          later (outside g) 2 two l (refused n) (apart (λ e. omega arith))
          (λ i. later (is_short g M) 3 three l (refused n) (apart (λ e. omega arith))
          (λ k. later (is_unsound g i M.tables M.log) 4 four l (refused n) (apart (λ e. omega arith))
          (λ s. say_first four (sentences g T c) l n (say i s))));
      done = λ m.
          later (outside g) 2 two l (accepted m) not_accepted
          (λ i. later (is_short g M) 3 three l (accepted m) not_accepted
          (λ k. later (is_unsound g i M.tables M.log) 4 four l (accepted m) not_accepted (λ s. say_none four (sentences g T c) l m (say i s))));
      refusal = λ n e. ap (λ (r : Reply). record {
        tables = leaves r M.tables (stored_by g M.tables c);
        log = leaves r M.log (write_at M.log (written_at T c) (bytes_of (written g T c)));
        out = leaves r M.out (sets M.out 0 l);
      }) e;
    }

-- MEMORY: every refusal, and what a making leaves
pub memory_means : MemoryMeans
memory_means g M = (making_means g M, call_means g M)
