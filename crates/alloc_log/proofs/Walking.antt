-- The runs that a walk over the blocks still has to tell, by what stands at the next block and at an arena's edge.
use Rattle.std.proofs.Common.{◌≡◌, ℕ, zero, suc, ◌+◌, ◌-◌, ◌*◌, ◌%◌, ◌<◌, ◌≤◌, Bool, true, false, cond, List, [], ◌++◌, sym, refl, ap, ◌∙◌, append-nil, mul-le-mul_right, mod-eq_of_lt, suc-mul, add-one, arith, eq-eqb, ne_eqb}
use native.Mathlib.Nat.{mul-mod_left, mul-add-mod_self_right}
use Rattle.answer.proofs.Cases.{cases, same?}
use Rattle.alloc_log.specs.Runs.{Run, ending, runs_from}

-- ── what stands at b ──

module _ (per : ℕ) (t : ℕ → Bool) (b r n : ℕ) where
  pub runs_fails : b < n → t b ≡ false → runs_from per t b r (n - b) ≡ ending b r ++ runs_from per t (b + 1) 0 (n - (b + 1))
  unfolding runs_from
  runs_fails h f =
      let e : n - b ≡ suc (n - (b + 1)) = omega arith in
      rw (e, f, add-one b)

  runs_edge : b < n → t b ≡ true → b % per ≡ 0 → runs_from per t b r (n - b) ≡ ending b r ++ runs_from per t (b + 1) 1 (n - (b + 1))
  unfolding runs_from
  runs_edge h f z =
      let e : n - b ≡ suc (n - (b + 1)) = omega arith in
      rw (e, f, eq-eqb (b % per) 0 z, add-one b)

  runs_keep : b < n → t b ≡ true → (b % per ≡ 0 → ⊥) → runs_from per t b r (n - b) ≡ runs_from per t (b + 1) (r + 1) (n - (b + 1))
  unfolding runs_from
  runs_keep h f z =
      let e : n - b ≡ suc (n - (b + 1)) = omega arith in
      rw (e, f, ne_eqb (b % per) 0 z, add-one b, add-one r)

-- a block that passes joins the run before it; at an arena's edge there is none
pub runs_passes : (per : ℕ) (t : ℕ → Bool) (b r n : ℕ) → b < n → t b ≡ true → (b % per ≡ 0 → r ≡ 0)
    → runs_from per t b r (n - b) ≡ runs_from per t (b + 1) (r + 1) (n - (b + 1))
unfolding ending
runs_passes per t b zero n h f z =
    cases (same? (b % per) 0) (λ e. runs_edge per t b 0 n h f e) (λ d. runs_keep per t b 0 n h f d)
runs_passes per t b (suc r) n h f z =
    runs_keep per t b (suc r) n h f (λ e. let i : suc r ≡ 0 = z e in absurd (let y : ⊥ = omega arith in y))

-- ── arenas ──

split : (v : Bool) (l m k : List Run) → cond v (l ++ m) (l ++ k) ≡ l ++ cond v m k
split true l m k = refl
split false l m k = refl

-- the run before an arena's edge ends there
pub runs_arena : (per : ℕ) (t : ℕ → Bool) (b r n : ℕ) → b % per ≡ 0 → runs_from per t b r n ≡ ending b r ++ runs_from per t b 0 n
unfolding runs_from ending
runs_arena per t b r zero z = sym (append-nil (ending b r))
runs_arena per t b r (suc n) z = rw (eq-eqb (b % per) 0 z) (split (t b) (ending b r) (runs_from per t (suc b) 1 n) (runs_from per t (suc b) 0 n))

pub runs_none : (per : ℕ) (t : ℕ → Bool) (b n : ℕ) → n ≤ b → runs_from per t b 0 (n - b) ≡ []
unfolding runs_from ending
runs_none per t b n h =
    let e : n - b ≡ 0 = omega arith in
    rw e

-- an arena lies inside the store
pub arena_inside : (a arenas per b : ℕ) → b ≡ a * per → a < arenas → b + per ≤ arenas * per
arena_inside a arenas per b e h =
    let i : suc a * per ≤ arenas * per = mul-le-mul_right per h in
    omega (arith, suc-mul a per)

-- the next one begins at its edge
pub arena_next : (a per b : ℕ) → b ≡ a * per → b + per ≡ (a + 1) * per
arena_next a per b e = rw (add-one a) (omega (arith, suc-mul a per))

pub arena_edge : (a per b : ℕ) → b ≡ a * per → b % per ≡ 0
arena_edge a per b e = ap (λ (x : ℕ). x % per) e ∙ mul-mod_left a per

-- inside an arena only its first block is at an edge, and there no run stands before it
pub arena_first : (a per s b r : ℕ) → s ≡ a * per → s + r ≤ b → b < s + per → b % per ≡ 0 → r ≡ 0
arena_first a per s b r e h k z =
    let d : b ≡ a * per + (b - s) = omega arith in
    let o : b % per ≡ b - s = ap (λ (x : ℕ). x % per) d ∙ mul-add-mod_self_right a per (b - s) ∙ mod-eq_of_lt (omega arith) in
    omega arith
