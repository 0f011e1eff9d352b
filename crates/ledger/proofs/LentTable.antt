-- THE LISTING (section 11 of the rules) ON LENT MEMORY: on any memory on which the making of `store 1 4 2 4 8 10` is accepted, with any result buffer of at least 72 numbers
-- at each call, the replies are the listing's, and the used log has the listing's words, as bytes, before C and after it.
use mathlib.Core.Path.{◌≡◌, refl, sym, ap, ◌∙◌}
use mathlib.Core.List.{List, [], ◌∷◌, ◌++◌}
use Prim.Native.Nat.{◌+◌, ◌*◌, ◌≤◌}
use lib.ListN.{length}
use borrow.Author.Tests.{le-ltb}
use Rattle.answer.specs.Reply.{Reply, accepted, refused}
use Rattle.geometry.specs.declared.Geometry.{Geometry}
use Rattle.geometry.specs.Limits.{geometry_of, blocks, within, fits}
use Rattle.alloc_log.specs.Word.{word_bytes, bytes_of}
use Rattle.model.specs.Layout.{state_of}
use Rattle.model.specs.Memory.{Memory, used_log, short?, reply, after, make_reply, make_after}
use Rattle.model.specs.Demand.{Own, with_out, run}
use Rattle.model.specs.Command.{Command}
use Rattle.model.specs.Command.{Compress}
use Rattle.ledger.specs.Ledger.{Ledger, fresh, says, step, steps, replies}
use Rattle.ledger.proofs.Computed.{answers, words}
use Rattle.ledger.proofs.PaperTable.{small, both, outputs, to_c, table, log_before_C, log_after_C}
use Rattle.ledger.proofs.OwnToldProof.{calls, Roomy, roomy_reply, roomy_log}

-- the replies to calls, one after another, on the memory M that a making left
abbrev pub replies_on : Geometry → Memory → List Own → List Reply
replies_on g M [] = []
replies_on g M (a ∷ l) = reply g (with_out M a.out) a.call ∷ replies_on g (after g (with_out M a.out) a.call) l

-- ── they are the ledger's, with any geometry ──

module _ (g : Geometry) (M : Memory) (e : make_reply g M ≡ accepted []) where
  -- one call more
  run_one : (N : Memory) (l : List Own) (a : Own) → run g N (l ++ (a ∷ [])) ≡ after g (with_out (run g N l) a.out) a.call
  run_one N [] a = refl
  run_one N (b ∷ l) a = run_one (after g (with_out N b.out) b.call) l a

  steps_one : (L : Ledger) (l : List Own) (a : Own) → steps g L (calls (l ++ (a ∷ []))) ≡ step g (steps g L (calls l)) a.call
  unfolding steps
  steps_one L [] a = refl
  steps_one L (b ∷ l) a = steps_one (step g L b.call) l a

  roomy_one : (l : List Own) (a : Own) → Roomy g l → 2 * blocks g + 64 ≤ length a.out → Roomy g (l ++ (a ∷ []))
  roomy_one [] a r h = (h, tt)
  roomy_one (b ∷ l) a r h = (r.0, roomy_one l a r.1 h)

  told_from : (before l : List Own) → Roomy g before → Roomy g l →
      replies_on g (run g (make_after g M) before) l ≡ replies g (steps g fresh (calls before)) (calls l)
  unfolding replies
  told_from before [] r s = refl
  told_from before (a ∷ l) r s =
      let N : Memory = run g (make_after g M) before in
      let K : Ledger = steps g fresh (calls before) in
      ap (λ (t : Reply). t ∷ replies_on g (after g (with_out N a.out) a.call) l) (roomy_reply g M e before r a s.0) ∙
      ap (λ (t : List Reply). says g K a.call ∷ t)
      (ap (λ (t : Memory). replies_on g t l) (sym (run_one (make_after g M) before a)) ∙
      told_from (before ++ (a ∷ [])) l (roomy_one before a r s.0) s.1 ∙
      ap (λ (t : Ledger). replies g t (calls l)) (steps_one fresh before a))

  pub replies_told : (l : List Own) → Roomy g l → replies_on g (make_after g M) l ≡ replies g fresh (calls l)
  unfolding steps
  replies_told l r = told_from [] l tt r

-- ── the listing ──

module _ (M : Memory) (e : make_reply small M ≡ accepted []) (l : List Own) (r : Roomy small l) where
  -- the table's seventeen calls; its first line, the making, is e
  pub replies_are : calls l ≡ both → replies_on small (make_after small M) l ≡ outputs
  unfolding answers
  replies_are c = replies_told small M e l r ∙ ap (replies small fresh) c ∙ table

  -- "The log before C, hexadecimal: 1, 4001, 8001, 4002, 2", big-endian, and no byte more
  pub log_before : calls l ≡ to_c →
      used_log (state_of small (run small (make_after small M) l).tables) (run small (make_after small M) l).log ≡
      0 ∷ 0 ∷ 0 ∷ 0 ∷ 0 ∷ 0 ∷ 0 ∷ 1 ∷
      0 ∷ 0 ∷ 0 ∷ 0 ∷ 0 ∷ 0 ∷ 0x40 ∷ 1 ∷
      0 ∷ 0 ∷ 0 ∷ 0 ∷ 0 ∷ 0 ∷ 0x80 ∷ 1 ∷
      0 ∷ 0 ∷ 0 ∷ 0 ∷ 0 ∷ 0 ∷ 0x40 ∷ 2 ∷
      0 ∷ 0 ∷ 0 ∷ 0 ∷ 0 ∷ 0 ∷ 0 ∷ 2 ∷ []
  unfolding words word_bytes
  log_before c = roomy_log small M e l r ∙ ap (λ (cs : List Command). bytes_of (steps small fresh cs).log) c ∙ ap bytes_of log_before_C

  -- "after it 8001, 3"
  pub log_after_lem : calls l ≡ to_c ++ (Compress ∷ []) →
      used_log (state_of small (run small (make_after small M) l).tables) (run small (make_after small M) l).log ≡
      0 ∷ 0 ∷ 0 ∷ 0 ∷ 0 ∷ 0 ∷ 0x80 ∷ 1 ∷
      0 ∷ 0 ∷ 0 ∷ 0 ∷ 0 ∷ 0 ∷ 0 ∷ 3 ∷ []
  unfolding words word_bytes
  log_after_lem c = roomy_log small M e l r ∙ ap (λ (cs : List Command). bytes_of (steps small fresh cs).log) c ∙ ap bytes_of log_after_C

-- ── the making: "log words 9 for N = 4 (2) and 10 (accepted)" (2.1) ──

pub nine_refused : (M : Memory) → make_reply (geometry_of 1 4 2 4 8 9) M ≡ refused 2
unfolding make_reply fits within
nine_refused M = refl

-- 2,048 + 512 × 4 + 4 × 4 numbers, 80 bytes of log, 72 numbers
pub ten_accepted : (M : Memory) → 4112 ≤ length M.tables → 80 ≤ length M.log → 72 ≤ length M.out → make_reply small M ≡ accepted []
unfolding make_reply fits within short?
ten_accepted M t l o = rw (le-ltb (length M.tables) 4112 t, le-ltb (length M.log) 80 l, le-ltb (length M.out) 72 o)
