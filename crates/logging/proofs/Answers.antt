-- What each of the three calls answers and leaves, from what its code has done.
use mathlib.Core.Path.{◌≡◌, refl, sym, ap, ◌∙◌}
use mathlib.Core.List.{List, [], ◌∷◌, append-nil}
use Prim.Native.Nat.{ℕ, ◌+◌, ◌-◌, ◌*◌, ◌/◌, ◌≤◌, ◌<◌}
use native.Mathlib.Omega.{arith}
use lib.ListN.{length, get_or, set}
use lib.Seq.{sets}
use borrow.Author.Tests.{lt-ltb, le-ltb}
use Rattle.std.specs.Prelude.{Result, Ok, Err}
use Rattle.answer.specs.declared.Refusal.{Refusal}
use Rattle.answer.specs.declared.Refusal.TheVariants.{LogFull}
use Rattle.answer.specs.Reply.{Reply, reply_of, accepted, refused}
use Rattle.answer.specs.Refusal.{leaves}
use Rattle.geometry.specs.declared.Geometry.{Geometry}
use Rattle.geometry.specs.Limits.{blocks}
use Rattle.choice.specs.Words.{free_in}
use Rattle.alloc_log.specs.Word.{write_at, word_bytes, bytes_of}
use Rattle.alloc_log.specs.Runs.{runs}
use Rattle.alloc_log.specs.Compress as log
use Rattle.alloc_log.proofs.Tools.{take_sets}
use Rattle.model.specs.Command.{Command}
use Rattle.model.specs.Command.{Barrier, Compress, FreeList}
use Rattle.model.specs.State.{synced}
use Rattle.model.specs.Layout.{state_of, stored}
use Rattle.model.specs.Memory.{written_at, stored_by}
use Rattle.model.specs.Calls.{pairs, compressed, free_list, logged, result, written}
use Rattle.model.proofs.RoomAfterC.{compressed_short}
use Rattle.tables.specs.Ready.{Ready, OutLong}
use Rattle.tables.specs.Outcome.{replied, tables_left, log_left, out_left}
use Rattle.tables.proofs.Steps.{Holds, holds_first, holds_roomy, holds_free, holds_says, step_used}
use Rattle.logging.proofs.Births.{words, kept, free_is}
use Rattle.logging.proofs.Told.{runs_same, kept_compressed}
use Rattle.logging.proofs.Listing.{pairs_from}

-- ── any call, by its reply ──

module _ (g : Geometry) (t : List ℕ) (c : Command) where
  -- what an accepted call leaves
  module _ (a : replied g t c ≡ accepted (result g (state_of g t) c)) where
    pub reply_done : (out : List ℕ) → length (result g (state_of g t) c) ≤ length out
        → reply_of (Ok (length (result g (state_of g t) c))) (sets out 0 (result g (state_of g t) c)) ≡ replied g t c
    unfolding reply_of
    reply_done out h = ap accepted (take_sets (result g (state_of g t) c) out h) ∙ sym a

    pub tables_done : tables_left g t c ≡ stored_by g t c
    unfolding tables_left
    tables_done = ap (λ (k : Reply). leaves k t (stored_by g t c)) a

    pub log_done : (log : List ℕ) → log_left g t log c ≡ write_at log (written_at (state_of g t) c) (bytes_of (written g (state_of g t) c))
    unfolding log_left
    log_done log = ap (λ (k : Reply). leaves k log (write_at log (written_at (state_of g t) c) (bytes_of (written g (state_of g t) c)))) a

    pub out_done : (out : List ℕ) → out_left g t out c ≡ sets out 0 (result g (state_of g t) c)
    unfolding out_left
    out_done out = ap (λ (k : Reply). leaves k out (sets out 0 (result g (state_of g t) c))) a

  -- a refused one
  module _ (n : ℕ) (e : replied g t c ≡ refused n) where
    pub tables_refused : t ≡ tables_left g t c
    unfolding tables_left
    tables_refused = sym (ap (λ (k : Reply). leaves k t (stored_by g t c)) e)

    pub log_refused : (log : List ℕ) → log ≡ log_left g t log c
    unfolding log_left
    log_refused log = sym (ap (λ (k : Reply). leaves k log (write_at log (written_at (state_of g t) c) (bytes_of (written g (state_of g t) c)))) e)

-- ── L ──

-- the pairs of the runs that the free words tell
abbrev pub told : Geometry → List ℕ → List ℕ
told g t = pairs_from g.per (free_in (words t)) 0 (blocks g)

module _ {g : Geometry} {t : List ℕ} (R : Ready g t) where
  told_is : told g t ≡ free_list g (state_of g t)
  unfolding free_list runs
  told_is = ap pairs (runs_same g.per _ _ 0 0 (blocks g) (λ i l h. free_is R.roomy R.free i (omega arith)))

  pub listed : (out out' : List ℕ) (n : ℕ) → OutLong g out → n ≡ length (told g t) → out' ≡ sets out 0 (told g t) → n ≤ 2 * blocks g →
      (reply_of (Ok n) out' ≡ replied g t FreeList) × (out' ≡ out_left g t out FreeList)
  unfolding replied
  listed out out' n long e eo s =
      let is : n ≡ length (free_list g (state_of g t)) = e ∙ ap length told_is in
      let all : out' ≡ sets out 0 (free_list g (state_of g t)) = eo ∙ ap (sets out 0) told_is in
      (rw (is, all) (reply_done g t FreeList refl out (omega arith)), all ∙ sym (out_done g t FreeList refl out))

-- ── Y and C release what waits ──

-- the tables u, when the blocks that wait in t are released
pub synced_holds : {g : Geometry} {t u : List ℕ} → Ready g t → u ≡ stored g (synced (state_of g t)) t → Holds g t (synced (state_of g t)) u
synced_holds {g} {t} {u} R e =
    let S = (holds_first R).shaped in
    record {
      is = e;
      shaped = record {
        view = S.view;
        slots = S.slots;
        pages = S.pages;
        blocks = S.blocks;
        mark = S.mark;
        notes = S.notes;
        queue = S.queue;
        few = omega arith;
      };
    }

-- ── Y ──

module _ (g : Geometry) (t log : List ℕ) (used : ℕ) (eu : used ≡ get_or t 9 0) where
  used_is : (state_of g t).used ≡ used
  unfolding state_of
  used_is = sym eu

  -- what Y promises
  abbrev pub Left : Result ℕ Refusal → List ℕ → List ℕ → Type 0
  Left r t' log' = ((out : List ℕ) → reply_of r out ≡ replied g t Barrier) × ((t' ≡ tables_left g t Barrier) × (log' ≡ log_left g t log Barrier))

  pub barrier_refused : g.words - used < 1 → Left (Err LogFull) t log
  unfolding replied reply_of
  barrier_refused h =
      let e : replied g t Barrier ≡ refused 14 = rw (used_is, lt-ltb (g.words - used) 1 h) in
      (λ out. sym e, (tables_refused g t Barrier 14 e, log_refused g t Barrier 14 e log))

  pub barrier_done : (log' u : List ℕ) → Ready g t → 1 ≤ g.words - used → log' ≡ write_at log (8 * used) (word_bytes 3) →
      u ≡ stored g (synced (state_of g t)) t → Left (Ok 0) (set u 9 (used + 1)) log'
  unfolding replied reply_of logged
  barrier_done log' u R h el es =
      let a : replied g t Barrier ≡ accepted [] = rw (used_is, le-ltb (g.words - used) 1 h) in (
        λ out. sym a,
        (
          (step_used g t R.roomy (synced_holds R es) (used + 1)).is ∙ rw (sym used_is) (sym (tables_done g t Barrier a)),
          el ∙ rw (sym used_is) (ap (write_at log (8 * (state_of g t).used)) (sym (append-nil (word_bytes 3))) ∙ sym (log_done g t Barrier a log)),
        ),
      )

-- ── C, with n bytes written: u is t with all released ──

module _ (g : Geometry) (t u : List ℕ) (R : Ready g t) (es : u ≡ stored g (synced (state_of g t)) t) (n : ℕ)
    (en : n ≡ 8 * length (log.compressed g.arenas g.per (kept (words u)))) where
  abbrev anew : List ℕ
  anew = compressed g (state_of g t)

  accepts : replied g t Compress ≡ accepted (length anew ∷ [])
  unfolding replied
  accepts = rw (le-ltb g.words (length anew) (omega (arith, compressed_short g (state_of g t), R.roomy.inside.words_least)))

  held_told : log.compressed g.arenas g.per (kept (words u)) ≡ compressed g (state_of g t)
  held_told =
      let H = synced_holds R es in
      kept_compressed (holds_roomy g t R.roomy H) (holds_free g t R.roomy H) (state_of g t) (holds_says g t R.roomy H)

  pub words_are : n / 8 ≡ length anew
  words_are = let e : n ≡ 8 * length anew = en ∙ ap (λ (l : List ℕ). 8 * length l) held_told in omega arith

  pub words_few : n / 8 ≤ 8192
  words_few = omega (arith, words_are, compressed_short g (state_of g t), R.roomy.inside.blocks_most)

  pub compressed_done : (log₀ log' out : List ℕ) → OutLong g out → log' ≡ write_at log₀ 0 (bytes_of (log.compressed g.arenas g.per (kept (words u))))
      → (reply_of (Ok 1) (set out 0 (n / 8)) ≡ replied g t Compress) × ((set u 9 (n / 8) ≡ tables_left g t Compress)
      × ((log' ≡ log_left g t log₀ Compress) × (set out 0 (n / 8) ≡ out_left g t out Compress)))
  unfolding logged
  compressed_done log₀ log' out long el =
      rw words_are (
        reply_done g t Compress accepts out (omega arith),
        (
          (step_used g t R.roomy (synced_holds R es) (length anew)).is ∙ sym (tables_done g t Compress accepts),
          (
            el ∙ ap (λ (l : List ℕ). write_at log₀ 0 (bytes_of l)) held_told ∙ sym (log_done g t Compress accepts log₀),
            sym (out_done g t Compress accepts out),
          ),
        ),
      )
