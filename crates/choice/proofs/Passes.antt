-- Arenas that are passed over at once, since none of their blocks is free.
use mathlib.Core.Path.{◌≡◌, refl, sym, ap, ◌∙◌}
use mathlib.Core.Bool.{Bool, false}
use Prim.Native.Nat.{ℕ, zero, suc, ◌+◌, ◌-◌, ◌*◌, ◌%◌, ◌≤◌, ◌<◌}
use native.Mathlib.Nat.{add-zero, add_assoc, mod-lt, mod-eq_of_lt, mod-add-mod, mul-le-mul_right, suc-mul}
use native.Mathlib.Numerals.{add-one}
use native.Mathlib.Omega.{arith}
use Rattle.answer.proofs.Cases.{cases, lt?}
use Rattle.std.specs.Prelude.{Option, Some, None, MatchOption, unwrap_or}
use Rattle.choice.specs.First.{Full}
use Rattle.choice.specs.Search.{chosen}
use Rattle.choice.specs.Words.{first_from}
use Rattle.choice.proofs.Firsts.{Leads, first_leads}
use Rattle.choice.proofs.Skips.{few}
use Rattle.choice.proofs.Ranges.{block_inside}
use Rattle.choice.proofs.Left.{left_arenas, arenas_all, arenas_end, arenas_pass}

-- the first block of the next arena
pub next_start : (a per : ℕ) → (a + 1) * per ≡ a * per + per
next_start a per = rw (add-one a) (suc-mul a per)

-- the first free block after arena a
pub free_after : (free : ℕ → Bool) (arenas per a : ℕ) {r : ℕ} → arenas ≤ 16 → per ≤ 1024 → a < arenas
    → r ≡ first_from free (arenas * per) (a * per + per) (arenas * per - (a * per + per)) → Leads free (a * per + per) (arenas * per) r
free_after free arenas per a h l u e = first_leads free (arenas * per) (a * per + per) e (few arenas per a h l u).0

-- where each arena after a and before n ends no later than block b, arena n begins no later
begins : (per a b n : ℕ) → a < n → a * per + per ≤ b → ((k : ℕ) → a + 1 ≤ k → k < n → k * per + per ≤ b) → n * per ≤ b
begins per a b n l h f =
    cases (lt? (a + 1) n)
    (λ u. let e : n - 1 + 1 ≡ n = omega arith in omega (arith, rw e at (next_start (n - 1) per), f (n - 1) (omega arith) (omega arith)))
    (λ u. let e : a + 1 ≡ n = omega arith in omega (arith, rw e at (next_start a per)))

-- so does the first after a that ends after block b
pub begins_first : (arenas per a b : ℕ) (r : Option ℕ) → a < arenas → a * per + per ≤ b
    → MatchOption r ((k : ℕ) → a + 1 ≤ k → k < arenas → k * per + per ≤ b)
    (λ i. (a + 1 ≤ i) × (i < arenas) × (b < i * per + per) × ((k : ℕ) → a + 1 ≤ k → k < i → k * per + per ≤ b))
    → unwrap_or r arenas * per ≤ b
begins_first arenas per a b None l h m = begins per a b arenas l h m
begins_first arenas per a b (Some i) l h m = begins per a b i (omega (arith, m.0)) h m.3

-- the arena that stands k after the one of a round
pub arena_on : (first tried arenas a k : ℕ) → a ≡ (first + tried) % arenas → (a + k) % arenas ≡ (first + (tried + k)) % arenas
arena_on first tried arenas a k e =
    ap (λ (x : ℕ). (x + k) % arenas) e ∙ mod-add-mod (first + tried) arenas k ∙ ap (λ (x : ℕ). x % arenas) (add_assoc first tried k)

-- where no block is free from the end of arena a up to arena n, the arenas between the two are full
pub between_full : (free : ℕ → Bool) (per a n : ℕ) → ((b : ℕ) → a * per + per ≤ b → b < n * per → free b ≡ false) → (i : ℕ) → a < i → i < n → Full free per i
between_full free per a n f i l u o h =
    let p : suc a * per ≤ i * per = mul-le-mul_right per l in
    f (i * per + o) (omega (arith, suc-mul a per)) (block_inside i n per o u h)

module _ (free : ℕ → Bool) (mark : ℕ → ℕ) (arenas per : ℕ) (some : 0 < arenas) (low : (a : ℕ) → a < arenas → mark a < per) (first : ℕ) where
  -- k full arenas, which may be more than are left
  pub arenas_on : (tried k : ℕ) → ((i : ℕ) → i < k → Full free per ((first + (tried + i)) % arenas))
      → left_arenas free mark arenas per first tried ≡ left_arenas free mark arenas per first (tried + k)
  arenas_on tried zero f = ap (left_arenas free mark arenas per first) (sym (add-zero tried))
  arenas_on tried (suc k) f =
      let a = (first + (tried + k)) % arenas in
      let s : tried + k + 1 ≡ tried + suc k = omega arith in
      arenas_on tried k (λ i h. f i (omega arith))
      ∙ cases (lt? (tried + k) arenas)
      (λ l. arenas_pass free mark arenas per first {tried = tried + k} {a = a} l refl (low a (mod-lt (first + (tried + k)) some)) (f k (omega arith))
      ∙ ap (left_arenas free mark arenas per first) s)
      (λ l. arenas_end free mark arenas per first {tried = tried + k} l ∙ sym (arenas_end free mark arenas per first {tried = tried + suc k} (omega arith)))

  -- the arenas after a and before n
  pub arenas_between : (tried : ℕ) {a : ℕ} → a ≡ (first + tried) % arenas → (n : ℕ) → a < n → n ≤ arenas
      → ((b : ℕ) → a * per + per ≤ b → b < n * per → free b ≡ false)
      → left_arenas free mark arenas per first (tried + 1) ≡ left_arenas free mark arenas per first (tried + (n - a))
  arenas_between tried {a} e n l u f =
      let k = n - a - 1 in
      let s : tried + 1 + k ≡ tried + (n - a) = omega arith in
      arenas_on (tried + 1) k (λ i h.
      let d : tried + (1 + i) ≡ tried + 1 + i = omega arith in
      let g : a + (1 + i) ≡ (first + (tried + 1 + i)) % arenas =
      sym (mod-eq_of_lt (omega arith)) ∙ arena_on first tried arenas a (1 + i) e ∙ ap (λ (x : ℕ). (first + x) % arenas) d in
      rw (← g) (between_full free per a n f (a + (1 + i)) (omega arith) (omega arith)))
      ∙ ap (left_arenas free mark arenas per first) s

  -- where no block is free
  pub chosen_nothing : ((b : ℕ) → b < arenas * per → free b ≡ false) → None ≡ chosen free mark arenas per first
  chosen_nothing f =
      sym (sym (arenas_all free mark arenas per first)
      ∙ arenas_on 0 arenas (λ i h o l. let a = (first + (0 + i)) % arenas in f (a * per + o) (block_inside a arenas per o (mod-lt (first + (0 + i)) some) l))
      ∙ arenas_end free mark arenas per first {tried = 0 + arenas} (omega arith))
