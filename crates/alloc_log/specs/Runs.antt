-- Runs of blocks: "each run as long as possible without crossing an arena edge" (3.10), "rising". For the compressed log and for the free list.
use Rattle.std.specs.Prelude.{◌≡◌, ℕ, zero, suc, ◌+◌, ◌-◌, ◌%◌, ◌<◌, ◌≤◌, Bool, true, false, cond, ◌⊎◌, List, [], ◌∷◌, ◌++◌, ◌==◌}

-- a run: its first block and its length in blocks
abbrev pub Run : Type 0
Run = ℕ × ℕ

-- the run of r blocks that ends before b, if it has any
unfoldable pub ending : ℕ → ℕ → List Run
ending b zero = []
ending b (suc r) = (b - suc r, suc r) ∷ []

-- the longest runs of blocks that pass the test, inside arenas, in the n blocks from b on; r blocks of b's arena stand right before b and pass
unfoldable pub runs_from : ℕ → (ℕ → Bool) → ℕ → ℕ → ℕ → List Run
runs_from per t b r zero = ending b r
runs_from per t b r (suc n) =
    cond (t b)
    (cond (b % per == 0) (ending b r ++ runs_from per t (suc b) 1 n) (runs_from per t (suc b) (suc r) n))
    (ending b r ++ runs_from per t (suc b) 0 n)

-- of a store of n blocks
unfoldable pub runs : ℕ → (ℕ → Bool) → ℕ → List Run
runs per t n = runs_from per t 0 0 n

-- ── the same, told without the walk ──

-- a longest run among n blocks: inside an arena, each of its blocks passes, and it can be made longer at neither end
pub record Longest (per : ℕ) (t : ℕ → Bool) (n start size : ℕ) : Type 0 where
  pub some : 0 < size
  pub inside : start + size ≤ n
  pub edge : start % per + size ≤ per
  pub all : (b : ℕ) → start ≤ b → b < start + size → t b ≡ true
  pub before : (start % per ≡ 0) ⊎ ((b : ℕ) → suc b ≡ start → t b ≡ false)
  pub behind : (start % per + size ≡ per) ⊎ ((start + size ≡ n) ⊎ (t (start + size) ≡ false))

-- each run starts at `from` or behind it, and those behind it start behind its end
abbrev pub Rising : ℕ → List Run → Type 0
Rising from [] = Unit {0}
Rising from (r ∷ l) = (from ≤ r.0) × Rising (r.0 + r.1) l

abbrev pub All : (Run → Type 0) → List Run → Type 0
All P [] = Unit {0}
All P (r ∷ l) = P r × All P l

-- block b is in one of the runs
abbrev pub Covered : ℕ → List Run → Type 0
Covered b [] = ⊥
Covered b (r ∷ l) = ((r.0 ≤ b) × (b < r.0 + r.1)) ⊎ Covered b l

-- the longest runs, rising, and every block that passes in one of them
pub record LongestRuns (per : ℕ) (t : ℕ → Bool) (n : ℕ) (l : List Run) : Type 0 where
  pub each : All (λ r. Longest per t n r.0 r.1) l
  pub rising : Rising 0 l
  pub covers : (b : ℕ) → b < n → t b ≡ true → Covered b l
