-- How many numbers the parts of a result are.
use mathlib.Core.Path.{◌≡◌}
use mathlib.Core.Logic.{◌⊎◌}
use mathlib.Core.Bool.{Bool, true, false, cond}
use mathlib.Core.List.{List, [], ◌∷◌, ◌++◌}
use Prim.Native.Nat.{ℕ, zero, suc, ◌+◌, ◌*◌, ◌%◌, ◌≤◌}
use native.Mathlib.Omega.{arith}
use lib.Dec.{eqb, ltb}
use lib.ListN.{length}
use Rattle.geometry.specs.declared.Geometry.{Geometry}
use Rattle.geometry.specs.Limits.{blocks}
use Rattle.alloc_log.specs.Runs.{Run, ending, runs_from}
use Rattle.model.specs.Lists.{on_page}
use Rattle.model.specs.View.{View, pred_num, base_num}
use Rattle.model.specs.Sound.{Sound}
use Rattle.model.specs.Actions.{Action, Asks}
use Rattle.model.specs.Effects.{Fate, freed, marked, kept, fate}
use Rattle.model.specs.Held.{held_count, freed_one, erased, frees, gives}
use Rattle.model.specs.Calls.{pairs}
use Rattle.model.proofs.Tally.{tally_le}
use Rattle.model.proofs.HeldFacts.{held_done}

-- ── at most one ──

freed_one_lem : (b : ℕ) (f : Fate) → length (freed_one b f) ≤ 1
unfolding freed_one
freed_one_lem b freed = omega arith
freed_one_lem b marked = omega arith
freed_one_lem b kept = omega arith

pub erased_one : (K : View) (r l : ℕ) → length (erased K r l) ≤ 1
unfolding erased
erased_one K r zero = omega arith
erased_one K r (suc b) = freed_one_lem b (fate (K.birth b) (pred_num K r) (base_num K r))

pub page_one : (l : ℕ) → length (on_page l) ≤ 1
unfolding on_page
page_one zero = omega arith
page_one (suc b) = omega arith

-- ── at most as many as there are blocks ──

pub held_le : (K : View) → held_count K ≤ K.blocks
unfolding held_count
held_le K = tally_le (λ b. ltb 0 (K.birth b)) K.blocks

-- ── two for each run ──

pairs_append : (l m : List Run) → length (pairs (l ++ m)) ≡ length (pairs l) + length (pairs m)
unfolding pairs
pairs_append [] m = omega arith
pairs_append (r ∷ l) m = omega (arith, pairs_append l m)

ending_le : (b r : ℕ) → length (pairs (ending b r)) ≤ 2 * r
unfolding ending pairs
ending_le b zero = omega arith
ending_le b (suc r) = omega arith

pub runs_le : (per : ℕ) (t : ℕ → Bool) (b r n : ℕ) → length (pairs (runs_from per t b r n)) ≤ 2 * (r + n)
unfolding runs_from
runs_le per t b r zero = omega (arith, ending_le b r)
runs_le per t b r (suc n) = go (t b) (eqb (b % per) 0) (runs_le per t (suc b) 0 n) (runs_le per t (suc b) 1 n) (runs_le per t (suc b) (suc r) n)
  where
    next : ℕ → List Run
    next k = runs_from per t (suc b) k n

    go : (p q : Bool) → length (pairs (next 0)) ≤ 2 * (0 + n) → length (pairs (next 1)) ≤ 2 * (1 + n) → length (pairs (next (suc r))) ≤ 2 * (suc r + n) →
        length (pairs (cond p (cond q (ending b r ++ next 1) (next (suc r))) (ending b r ++ next 0))) ≤ 2 * (r + suc n)
    go true true h k m = omega (arith, pairs_append (ending b r) (next 1), ending_le b r)
    go true false h k m = omega arith
    go false q h k m = omega (arith, pairs_append (ending b r) (next 0), ending_le b r)

-- ── every call ──

-- at most one number and two for each block, or no more than the four numbers of a W
abbrev pub Few : Geometry → List ℕ → Type 0
Few g l = (length l ≤ 2 * blocks g + 1) ⊎ (length l ≤ 4)

-- what an action that gives nothing frees was held
pub frees_few : (K : View) (a : Action) → Sound K → Asks K a → gives a ≡ 0 → length (frees K a) ≤ K.blocks
frees_few K a S q e = omega (arith, held_done K a S q, held_le K, e)
