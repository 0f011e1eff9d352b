-- "Now only what is recorded up to the last whole word equal to 3 counts, and is judged as ever; bytes behind it, or all of them where there is no such
-- word, are not judged and record nothing." (6.9) What is settled is what a disk has finished: it was written before the last barrier.
use Rattle.std.specs.Prelude.{◌≡◌, ℕ, suc, ◌*◌, ◌%◌, cond, ◌⊎◌, List, [], ◌∷◌, ◌++◌, length, take, ◌==◌, ◌≢◌, nat_lt}
use Rattle.alloc_log.specs.Word.{words, barrier}

-- how many words stand up to the last one that equals 3, that one counted; 0 where none does
unfoldable pub up_to_barrier : List ℕ → ℕ
up_to_barrier [] = 0
up_to_barrier (w ∷ ws) = cond (nat_lt 0 (up_to_barrier ws)) (suc (up_to_barrier ws)) (cond (w == barrier) 1 0)

-- the part of a log that counts when it is read
unfoldable pub settled : List ℕ → List ℕ
settled log = take (8 * up_to_barrier (words log)) log

-- ── the same, told without the walk ──

-- no word equals 3
abbrev pub NoBarrier : List ℕ → Type 0
NoBarrier [] = Unit {0}
NoBarrier (w ∷ ws) = (w ≢ barrier) × NoBarrier ws

-- `part` is what is settled of `log`: whole words at its start, none of them or the last one a barrier, and no whole word behind them is one
pub record SettledIs (log part : List ℕ) : Type 0 where
  pub rest : List ℕ
  pub split : log ≡ part ++ rest
  pub whole : length part % 8 ≡ 0
  pub ends : (part ≡ []) ⊎ ((early : List ℕ) × (words part ≡ early ++ (barrier ∷ [])))
  pub behind : NoBarrier (words rest)
