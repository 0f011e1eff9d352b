-- "The compressed log has one entry for each longest run of held blocks inside an arena, rising, code 1 for a single block, else 4; then a barrier." (6.8)
use Rattle.std.specs.Prelude.{ℕ, zero, suc, ◌*◌, Bool, List, [], ◌∷◌, ◌++◌}
use Rattle.alloc_log.specs.Word.{allocated, allocated_run, length_of, barrier}
use Rattle.alloc_log.specs.Runs.{Run, runs}

-- the words of a run of n held blocks from b on
abbrev pub run_words : ℕ → ℕ → List ℕ
run_words b zero = []
run_words b (suc zero) = allocated b ∷ []
run_words b (suc (suc n)) = allocated_run b ∷ length_of (suc (suc n)) ∷ []

-- the words of runs, then a barrier
unfoldable pub runs_words : List Run → List ℕ
runs_words [] = barrier ∷ []
runs_words (r ∷ l) = run_words r.0 r.1 ++ runs_words l

-- the words of the compressed log, where `held` tells which of the arenas * per blocks are held
unfoldable pub compressed : ℕ → ℕ → (ℕ → Bool) → List ℕ
compressed arenas per held = runs_words (runs per held (arenas * per))
