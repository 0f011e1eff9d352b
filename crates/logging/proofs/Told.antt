-- What the free words tell of the runs of held blocks: the compressed log, and what its next run has in it.
use mathlib.Core.Path.{◌≡◌, refl, ap, ◌∙◌}
use mathlib.Core.Bool.{Bool, true, false, not}
use mathlib.Core.List.{List, ◌++◌}
use Prim.Native.Nat.{ℕ, zero, suc, ◌+◌, ◌-◌, ◌*◌, ◌≤◌, ◌<◌}
use native.Mathlib.Omega.{arith}
use Rattle.geometry.specs.declared.Geometry.{Geometry}
use Rattle.choice.specs.Words.{free_in, first_from}
use Rattle.alloc_log.specs.Runs.{ending, runs_from, runs}
use Rattle.alloc_log.specs.Compress.{run_words, runs_words}
use Rattle.alloc_log.specs.Compress as log
use Rattle.alloc_log.proofs.Walking.{arena_inside}
use Rattle.alloc_log.proofs.Compressing.{words_from, ending_words}
use Rattle.model.specs.State.{State, synced}
use Rattle.model.specs.Layout.{state_of}
use Rattle.model.specs.Calls.{compressed}
use Rattle.tables.specs.Ready.{Roomy, FreeWords}
use Rattle.logging.proofs.Births.{words, kept, kept_is}
use Rattle.logging.proofs.NextRun.{Next, next_run}

-- runs depend on the blocks that are looked at alone
pub runs_same : (per : ℕ) (t u : ℕ → Bool) (b r n : ℕ) → ((i : ℕ) → b ≤ i → i < b + n → t i ≡ u i) → runs_from per t b r n ≡ runs_from per u b r n
unfolding runs_from
runs_same per t u b r zero f = refl
runs_same per t u b r (suc n) f =
    let next : (k : ℕ) → runs_from per t (suc b) k n ≡ runs_from per u (suc b) k n =
    λ k. runs_same per t u (suc b) k n (λ i l h. f i (omega arith) (omega arith)) in
    rw (f b (omega arith) (omega arith), next 0, next 1, next (suc r))

compressed_same : (arenas per : ℕ) (t u : ℕ → Bool) → ((b : ℕ) → b < arenas * per → t b ≡ u b) → log.compressed arenas per t ≡ log.compressed arenas per u
unfolding log.compressed runs
compressed_same arenas per t u f = ap runs_words (runs_same per t u 0 0 (arenas * per) (λ i l h. f i (omega arith)))

-- the log that the free words tell, where no block waits, is the store's
pub kept_compressed : {g : Geometry} {t : List ℕ} → Roomy g t → FreeWords g t → (T : State) → state_of g t ≡ synced T →
    log.compressed g.arenas g.per (kept (words t)) ≡ compressed g T
unfolding compressed
kept_compressed {g} {t} roomy free T e = compressed_same g.arenas g.per _ _ (kept_is roomy free T e)

-- ── the next run of blocks that may not be given ──

not_not : (b : Bool) → b ≡ not (not b)
not_not true = refl
not_not false = refl

module _ (l : List ℕ) (arenas arena per first : ℕ) (is : first ≡ arena * per) (h : arena < arenas) (b lo hi : ℕ) where
  abbrev Run : Type 0
  Run = Next per (kept l) (arenas * per) arena first is (arena_inside arena arenas per first is h) b lo hi

  pub kept_run : first ≤ b → b ≤ first + per → lo ≡ first_from (kept l) (first + per) b (first + per - b) →
      hi ≡ first_from (free_in l) (first + per) lo (first + per - lo) → Run
  kept_run = next_run per (kept l) (free_in l) (λ i. not_not (free_in l i)) arenas arena first is h b lo hi

-- the words of the run from lo on and below hi stand in front of those that are left
pub left_run : (per : ℕ) (t : ℕ → Bool) (n b lo hi : ℕ) → lo ≤ hi → runs_from per t b 0 (n - b) ≡ ending hi (hi - lo) ++ runs_from per t hi 0 (n - hi) →
    words_from per t b 0 (n - b) ≡ run_words lo (hi - lo) ++ words_from per t hi 0 (n - hi)
unfolding words_from
left_run per t n b lo hi h e =
    let d : hi - (hi - lo) ≡ lo = omega arith in
    ap runs_words e ∙ ending_words hi (hi - lo) _ ∙ ap (λ x. run_words x (hi - lo) ++ runs_words (runs_from per t hi 0 (n - hi))) d
