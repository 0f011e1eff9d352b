-- WHERE 3 BEGINS, to the byte: "tables or the store's own log space shorter than the geometry needs, or a result buffer under 2 × N + 64 numbers" (7.1).
-- For every geometry inside the limits and every memory that is long enough elsewhere: one number or byte less is refused with 3, the exact length is not.
use mathlib.Core.Path.{◌≡◌, refl}
use mathlib.Core.Bool.{Bool, true, false, ◌||◌}
use mathlib.Core.List.{List, [], ◌∷◌}
use Prim.Native.Nat.{ℕ, suc, ◌+◌, ◌*◌, ◌≤◌, ◌<◌}
use native.Mathlib.Omega.{arith}
use lib.Dec.{ltb}
use lib.ListN.{length}
use borrow.Author.Tests.{lt-ltb, le-ltb}
use Rattle.answer.specs.Reply.{accepted, refused}
use Rattle.geometry.specs.declared.Geometry.{Geometry}
use Rattle.geometry.specs.Limits.{Inside, blocks}
use Rattle.geometry.proofs.Made.{inside_fits}
use Rattle.alloc_log.specs.Settled.{settled}
use Rattle.alloc_log.specs.Tool.{readable, held_at_end, every_reply, read_reply, compact_words, compact_reply}
use Rattle.model.specs.Layout.{need}
use Rattle.model.specs.Memory.{Memory, short?, reply, make_reply, make_after}
use Rattle.model.specs.Demand.{Own, with_out, run}
use Rattle.model.specs.Command.{Command}
use Rattle.model.proofs.Keeps.{Long}
use Rattle.model.proofs.Replies.{not_short}
use Rattle.ledger.specs.Ledger.{fresh, says, steps}
use Rattle.ledger.proofs.OwnToldProof.{calls, Roomy, roomy_reply}

-- ── one less, of any of the three ──

or_right : (t : Bool) → t || true ≡ true
or_right true = refl
or_right false = refl

module _ (g : Geometry) (M : Memory) where
  short_tables : length M.tables < need g → short? g M ≡ true
  unfolding short?
  short_tables h = rw (lt-ltb (length M.tables) (need g) h)

  short_log : length M.log < 8 * g.words → short? g M ≡ true
  unfolding short?
  short_log h = rw (lt-ltb (length M.log) (8 * g.words) h) (or_right (ltb (length M.tables) (need g)))

  short_out : length M.out < 2 * blocks g + 64 → short? g M ≡ true
  unfolding short?
  short_out h =
      rw (lt-ltb (length M.out) (2 * blocks g + 64) h, or_right (ltb (length M.log) (8 * g.words))) (or_right (ltb (length M.tables) (need g)))

-- ── a making ──

module _ (g : Geometry) (i : Inside g) (M : Memory) where
  make_refused : short? g M ≡ true → make_reply g M ≡ refused 3
  unfolding make_reply
  make_refused s = rw (inside_fits g i, s)

  make_accepted : Long g M → make_reply g M ≡ accepted []
  unfolding make_reply
  make_accepted l = rw (inside_fits g i, not_short g M l)

  -- "under 2 × N + 64 numbers" (7.1)
  pub make_out_63 : length M.out ≡ 2 * blocks g + 63 → make_reply g M ≡ refused 3
  make_out_63 e = make_refused (short_out g M (omega arith))

  pub make_out_64 : need g ≤ length M.tables → 8 * g.words ≤ length M.log → length M.out ≡ 2 * blocks g + 64 → make_reply g M ≡ accepted []
  make_out_64 t l e = make_accepted (record { tables = t; log = l; out = omega arith })

  -- "tables … shorter than the geometry needs" (7.1)
  pub make_tables_less : suc (length M.tables) ≡ need g → make_reply g M ≡ refused 3
  make_tables_less e = make_refused (short_tables g M (omega arith))

  pub make_tables_need : length M.tables ≡ need g → 8 * g.words ≤ length M.log → 2 * blocks g + 64 ≤ length M.out → make_reply g M ≡ accepted []
  make_tables_need e l o = make_accepted (record { tables = omega arith; log = l; out = o })

  -- "or the store's own log space" (7.1): 8 bytes for each word
  pub make_log_less : suc (length M.log) ≡ 8 * g.words → make_reply g M ≡ refused 3
  make_log_less e = make_refused (short_log g M (omega arith))

  pub make_log_need : need g ≤ length M.tables → length M.log ≡ 8 * g.words → 2 * blocks g + 64 ≤ length M.out → make_reply g M ≡ accepted []
  make_log_need t e o = make_accepted (record { tables = t; log = omega arith; out = o })

-- ── a call: one less is refused whatever the tables say; on a store that was made, with the exact length, it is answered as the ledger says ──

module _ (g : Geometry) (i : Inside g) (M : Memory) (c : Command) where
  call_refused : short? g M ≡ true → reply g M c ≡ refused 3
  unfolding reply
  call_refused s = rw (inside_fits g i, s)

  pub call_out_63 : length M.out ≡ 2 * blocks g + 63 → reply g M c ≡ refused 3
  call_out_63 e = call_refused (short_out g M (omega arith))

  pub call_tables_less : suc (length M.tables) ≡ need g → reply g M c ≡ refused 3
  call_tables_less e = call_refused (short_tables g M (omega arith))

  pub call_log_less : suc (length M.log) ≡ 8 * g.words → reply g M c ≡ refused 3
  call_log_less e = call_refused (short_log g M (omega arith))

pub call_out_64 : (g : Geometry) (M : Memory) → make_reply g M ≡ accepted [] → (before : List Own) → Roomy g before → (a : Own) →
    length a.out ≡ 2 * blocks g + 64 →
    reply g (with_out (run g (make_after g M) before) a.out) a.call ≡ says g (steps g fresh (calls before)) a.call
call_out_64 g M m before r a e = roomy_reply g M m before r a (omega arith)

-- on tables and a log of just what the geometry needs
pub call_exact : (g : Geometry) → Inside g → (M : Memory) → length M.tables ≡ need g → length M.log ≡ 8 * g.words →
    length M.out ≡ 2 * blocks g + 64 → (before : List Own) → Roomy g before → (a : Own) → 2 * blocks g + 64 ≤ length a.out →
    reply g (with_out (run g (make_after g M) before) a.out) a.call ≡ says g (steps g fresh (calls before)) a.call
call_exact g i M t l o before r a h =
    roomy_reply g M (make_accepted g i M (record { tables = omega arith; log = omega arith; out = omega arith })) before r a h

-- ── the log functions ──

module _ (g : Geometry) (i : Inside g) (log out : List ℕ) where
  pub read_out_63 : length out ≡ 2 * blocks g + 63 → read_reply g log out ≡ refused 3
  unfolding read_reply every_reply
  read_out_63 e =
      let h : length out < 2 * blocks g + 64 = omega arith in
      rw (inside_fits g i, lt-ltb (length out) (2 * blocks g + 64) h)

  pub read_out_64 : readable g (settled log) ≡ true → length out ≡ 2 * blocks g + 64 → read_reply g log out ≡ accepted (held_at_end g (settled log))
  unfolding read_reply every_reply
  read_out_64 y e =
      let h : 2 * blocks g + 64 ≤ length out = omega arith in
      rw (inside_fits g i, le-ltb (length out) (2 * blocks g + 64) h, y)

  -- compressing writes into room for any log of the geometry
  pub compact_less : suc (length out) ≡ 8 * g.words → compact_reply g log out ≡ refused 3
  unfolding compact_reply
  compact_less e =
      let h : length out < 8 * g.words = omega arith in
      rw (inside_fits g i, lt-ltb (length out) (8 * g.words) h)

  pub compact_need : readable g log ≡ true → length out ≡ 8 * g.words → compact_reply g log out ≡ accepted (length (compact_words g log) ∷ [])
  unfolding compact_reply
  compact_need y e =
      let h : 8 * g.words ≤ length out = omega arith in
      rw (inside_fits g i, le-ltb (length out) (8 * g.words) h, y)
