-- The pairs that a listing of runs still has to write, and where its loops stand.
use mathlib.Core.Path.{◌≡◌, refl, sym, ap, ◌∙◌, subst}
use mathlib.Core.Bool.{Bool}
use Prim.Native.Nat.{ℕ, zero, suc, ◌+◌, ◌-◌, ◌*◌, ◌≤◌, ◌<◌}
use native.Mathlib.Nat.{add-zero}
use native.Mathlib.Omega.{arith}
use mathlib.Core.List.{List, [], ◌∷◌, ◌++◌}
use lib.ListN.{length, set, length-append}
use lib.Seq.{sets, length-sets}
use Rattle.alloc_log.specs.Runs.{Run, ending, runs_from}
use Rattle.alloc_log.proofs.Walking.{runs_none}
use Rattle.model.specs.Calls.{pairs}

-- ── pairs, and their writing ──

pub pairs_append : (l m : List Run) → pairs (l ++ m) ≡ pairs l ++ pairs m
unfolding pairs
pairs_append [] m = refl
pairs_append (r ∷ l) m = ap (λ (x : List ℕ). r.0 ∷ r.1 ∷ x) (pairs_append l m)

-- a run that is there has a block, so its pair is no longer than two numbers a block
pub ending_length : (b r : ℕ) → length (pairs (ending b r)) ≤ 2 * r
unfolding pairs ending
ending_length b zero = omega arith
ending_length b (suc r) = omega arith

some : (b n : ℕ) → 0 < n → pairs (ending b n) ≡ (b - n) ∷ n ∷ []
unfolding pairs ending
some b zero h = absurd (let z : ⊥ = omega arith in z)
some b (suc n) h = refl

-- the pair of the run from lo on and below hi
module _ (lo hi : ℕ) where
  pub ending_none : lo ≡ hi → pairs (ending hi (hi - lo)) ≡ []
  unfolding pairs ending
  ending_none e = let z : hi - lo ≡ 0 = omega arith in rw z

  pub ending_some : lo ≤ hi → (lo ≡ hi → ⊥) → pairs (ending hi (hi - lo)) ≡ lo ∷ (hi - lo) ∷ []
  ending_some h n = some hi (hi - lo) (omega arith) ∙ ap (λ x. x ∷ (hi - lo) ∷ []) (omega arith)

-- stores right behind others
sets_sets : (l v w : List ℕ) (i j : ℕ) → j ≡ i + length v → sets (sets l i v) j w ≡ sets l i (v ++ w)
sets_sets l [] w i j e = ap (λ k. sets l k w) (e ∙ add-zero i)
sets_sets l (x ∷ v) w i j e = sets_sets (set l i x) v w (suc i) j (omega arith)

-- ── where the listing stands: the pairs that are left would complete it from `start` on ──

-- the pairs for the n blocks from b on, before which no run stands that has no pair yet
abbrev pub pairs_from : ℕ → (ℕ → Bool) → ℕ → ℕ → List ℕ
pairs_from per t b n = pairs (runs_from per t b 0 n)

module _ (out₀ : List ℕ) (start per : ℕ) (t : ℕ → Bool) (n : ℕ) (all : List ℕ) where
  pub record Stands (out : List ℕ) (at b : ℕ) : Type 0 where
    pub inside : b ≤ n
    pub room : at ≤ 2 * b
    pub same : length out ≡ length out₀
    pub count : at + length (pairs_from per t b (n - b)) ≡ start + length all
    pub numbers : sets out at (pairs_from per t b (n - b)) ≡ sets out₀ start all

  -- the pair of the next run, of r blocks that end before b', is written
  pub turn : (out out' : List ℕ) (at at' r b b' : ℕ) → Stands out at b → b + r ≤ b' → b' ≤ n →
      runs_from per t b 0 (n - b) ≡ ending b' r ++ runs_from per t b' 0 (n - b') →
      at' ≡ at + length (pairs (ending b' r)) → out' ≡ sets out at (pairs (ending b' r)) → Stands out' at' b'
  turn out out' at at' r b b' s l k e ea eo =
      let p : List ℕ = pairs (ending b' r) in
      let v : List ℕ = pairs_from per t b' (n - b') in
      let is : pairs_from per t b (n - b) ≡ p ++ v = ap pairs e ∙ pairs_append (ending b' r) (runs_from per t b' 0 (n - b')) in
      let cnt : at + length (p ++ v) ≡ start + length all = subst (λ (l : List ℕ). at + length l ≡ start + length all) is s.count in
      let la : length (p ++ v) ≡ length p + length v = length-append p v in
      record {
        inside = k;
        room = omega (arith, s.room, ending_length b' r);
        same = ap length eo ∙ length-sets out at p ∙ s.same;
        count = omega arith;
        numbers = ap (λ (l : List ℕ). sets l at' v) eo ∙ sets_sets out p v at at' ea ∙ ap (sets out at) (sym is) ∙ s.numbers;
      }

  -- behind the last block all is written, at most two numbers a block
  pub last_turn : (out : List ℕ) (at b : ℕ) → Stands out at b → n ≤ b → (at ≡ start + length all) × (out ≡ sets out₀ start all) × (at ≤ 2 * n)
  unfolding pairs
  last_turn out at b s l =
      let e : pairs_from per t b (n - b) ≡ [] = ap pairs (runs_none per t b n l) in
      let c : at + length (pairs_from per t b (n - b)) ≡ start + length all = s.count in
      let z : length (pairs_from per t b (n - b)) ≡ 0 = ap length e in
      (omega arith, ap (sets out at) (sym e) ∙ s.numbers, omega (arith, s.room, s.inside))

-- what completes a listing from a later start on completes it from the earlier one
pub through : (out₀ out₁ out₂ : List ℕ) (start per : ℕ) (t : ℕ → Bool) (n : ℕ) (all : List ℕ) (at₁ b₁ at₂ b : ℕ) →
    Stands out₀ start per t n all out₁ at₁ b₁ →
    Stands out₁ at₁ per t n (pairs_from per t b₁ (n - b₁)) out₂ at₂ b → Stands out₀ start per t n all out₂ at₂ b
through out₀ out₁ out₂ start per t n all at₁ b₁ at₂ b s u =
    record {
      inside = u.inside;
      room = u.room;
      same = u.same ∙ s.same;
      count = u.count ∙ s.count;
      numbers = u.numbers ∙ s.numbers;
    }
