-- What a call leaves is as long as what it was lent: the words it writes fit the log.
use mathlib.Core.Path.{◌≡◌, refl}
use mathlib.Core.Bool.{cond}
use mathlib.Core.List.{List, [], ◌∷◌}
use Prim.Native.Nat.{ℕ, ◌+◌, ◌*◌, ◌-◌, ◌≤◌}
use native.Mathlib.Omega.{arith}
use lib.ListN.{length}
use lib.Seq.{sets, length-sets}
use borrow.Author.Tests.{ltb-false}
use Rattle.answer.specs.Reply.{Reply, accepted, refused}
use Rattle.answer.specs.Refusal.{NoneHolds, leaves}
use Rattle.geometry.specs.declared.Geometry.{Geometry}
use Rattle.alloc_log.specs.Word.{write_at, bytes_of}
use Rattle.alloc_log.proofs.Writing.{length_write, length_bytes}
use Rattle.model.specs.State.{State, InRange}
use Rattle.model.specs.Calls.{Account, looking, opening, freeing, closing, removing, reclaiming, placing, marking, renewing, account, refusals_by, renews}
use Rattle.model.specs.Calls.{short_by, words_by}
use Rattle.model.specs.Calls.{freed, compressed, conditions, result, written}
use Rattle.model.specs.Layout.{state_of, made}
use Rattle.model.specs.Memory.{Memory, written_at, reply, stored_by, after, make_reply, make_after}
use Rattle.model.specs.Command.{Command}
use Rattle.model.proofs.ByNumber.{none_at}
use Rattle.model.proofs.CallKinds.{none_right}
use Rattle.model.proofs.Midway.{by_length}
use Rattle.model.proofs.MadeFacts.{made_length}
use Rattle.model.proofs.Keeps.{accepted_is}

-- the words of an accepted call fit the log
module _ (g : Geometry) (T : State) (R : InRange g T) where
  behind : (ws : List ℕ) → length ws ≤ g.words - T.used → 8 * T.used + length (bytes_of ws) ≤ 8 * g.words
  behind ws h = omega (arith, R.used, length_bytes ws)

  nothing : 8 * T.used + length (bytes_of []) ≤ 8 * g.words
  nothing = behind [] (omega arith)

  fit_by : (A : Account) → NoneHolds (refusals_by g T A) → cond (renews A) 0 (8 * T.used) + length (bytes_of (words_by g T A)) ≤ 8 * g.words
  fit_by (looking s cs res note) n = nothing
  fit_by (opening cs a) n = nothing
  fit_by (freeing cs a) n =
      let past = none_at ((14, short_by g T (freeing cs a)) ∷ []) (none_right (cs g T) _ n) in
      behind (freed T (a T)) (ltb-false (g.words - T.used) (length (freed T (a T))) (past 14))
  fit_by (closing r) n = nothing
  fit_by (removing r) n = nothing
  fit_by (reclaiming k) n =
      let past = none_at (refusals_by g T (reclaiming k)) n in
      behind (words_by g T (reclaiming k)) (ltb-false (g.words - T.used) (length (words_by g T (reclaiming k))) (past 14))
  fit_by (placing r x k) n =
      let past = none_at (refusals_by g T (placing r x k)) n in
      behind (words_by g T (placing r x k)) (ltb-false (g.words - T.used) (length (words_by g T (placing r x k))) (past 14))
  fit_by marking n = behind (words_by g T marking) (ltb-false (g.words - T.used) 1 (none_at (refusals_by g T marking) n 14))
  fit_by renewing n = omega (arith, length_bytes (compressed g T), ltb-false g.words (length (compressed g T)) (none_at (refusals_by g T renewing) n 14))

  words_fit : (c : Command) → NoneHolds (conditions g T c) → written_at T c + length (bytes_of (written g T c)) ≤ 8 * g.words
  words_fit c n = fit_by (account c) n

module _ (g : Geometry) (M : Memory) (c : Command) where
  abbrev T : State
  T = state_of g M.tables

  pub tables_length : length (after g M c).tables ≡ length M.tables
  unfolding after
  tables_length = go (reply g M c)
    where
      go : (r : Reply) → length (leaves r M.tables (stored_by g M.tables c)) ≡ length M.tables
      go (accepted l) = by_length g M.tables c
      go (refused n) = refl

  pub out_length : length (after g M c).out ≡ length M.out
  unfolding after
  out_length = go (reply g M c)
    where
      go : (r : Reply) → length (leaves r M.out (sets M.out 0 (result g T c))) ≡ length M.out
      go (accepted l) = length-sets M.out 0 (result g T c)
      go (refused n) = refl

  pub log_length : length (after g M c).log ≡ length M.log
  unfolding after
  log_length = go (reply g M c) refl
    where
      go : (r : Reply) → reply g M c ≡ r → length (leaves r M.log (write_at M.log (written_at T c) (bytes_of (written g T c)))) ≡ length M.log
      go (accepted l) e =
          let A = (accepted_is g M c l e).0 in
          length_write M.log (written_at T c) (bytes_of (written g T c)) (omega (arith, words_fit g T A.sound.range c A.none, A.long.log))
      go (refused n) e = refl

pub make_length : (g : Geometry) (M : Memory) → length (make_after g M).tables ≡ length M.tables
unfolding make_after
make_length g M = go (make_reply g M)
  where
    go : (r : Reply) → length (leaves r M.tables (made g M.tables)) ≡ length M.tables
    go (accepted l) = made_length g M.tables
    go (refused n) = refl
