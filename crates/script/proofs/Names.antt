-- Names of lines: how far a name goes, what a line of a letter and a name says, test by test, and where a name lies.
use Prim.Native.Nat.{ℕ, zero, suc, ◌+◌, ◌-◌, ◌<◌, ◌≤◌}
use mathlib.Core.Path.{◌≡◌, refl, sym, ap, ◌∙◌}
use mathlib.Core.List.{List, [], ◌∷◌}
use native.Mathlib.Omega.{arith}
use borrow.Author.Tests.{eq-eqb, ne_eqb, lt-ltb, le-ltb}
use lib.ListN.{length, get_or, take, drop, length-take}
use lib.Dec.{eqb}
use Rattle.std.specs.Prelude.{Some, None, ◌==◌}
use Rattle.std.specs.List.{position_or_len}
use Rattle.std.proofs.lemmas.List.Recursion.{is_position_or_len}
use Rattle.answer.proofs.Cases.{cases, either}
use Rattle.script.specs.declared.parse.Parsed.{Parsed}
use Rattle.script.specs.Letters.{names, naming_of}
use Rattle.script.specs.Parse.{numbers_from, counted, name_run, named_by, names_of, name_line}
use Rattle.script.proofs.Letters.{call_long}
use Rattle.script.proofs.Runs.{rest_is}

-- how far a name goes
run_to_space : (l : List ℕ) → position_or_len (λ b. b == 32) l ≡ name_run l
unfolding name_run
run_to_space l = sym (is_position_or_len name_run (λ b. b == 32) refl (λ x xs. let e : 1 + name_run xs ≡ suc (name_run xs) = omega arith in rw e) l)

pub name_is : (l : List ℕ) (at mark : ℕ) → mark ≡ 32 → position_or_len (λ b. b == mark) (take (length l - at) (drop at l)) ≡ name_run (drop at l)
name_is l at mark e = rw (e, rest_is l at) (run_to_space (drop at l))

-- ── a line of a letter and a name, test by test ──

pub name_short : (l : List ℕ) → length l < 3 → Parsed.No ≡ name_line l
unfolding name_line name_run
name_short [] h = refl
name_short (b ∷ []) h = refl
name_short (b ∷ s ∷ []) h = cases (either (eqb s 32)) (λ t. rw t) (λ f. rw f)
name_short (b ∷ s ∷ c ∷ l) h = absurd (let z : ⊥ = omega arith in z)

-- by how many numbers were read
named_counted : (b end r : ℕ) (o : List ℕ) → length o ≡ 6 → named_by b end r (get_or o 0 0) ≡ names_of b end (counted (Some r) o)
unfolding named_by naming_of
named_counted b end zero o long = refl
named_counted b end (suc zero) [] long = absurd (let z : ⊥ = omega arith in z)
named_counted b end (suc zero) (x ∷ o) long = refl
named_counted b end (suc (suc n)) o long =
    let r : ℕ = suc (suc n) in
    rw (lt-ltb 1 r (omega arith), call_long names 1 b (take r o) refl (omega (arith, length-take r o)))

pub name_unspaced : (l : List ℕ) → (get_or l 1 0 ≡ 32 → ⊥) → Parsed.No ≡ name_line l
unfolding name_line
name_unspaced [] s = refl
name_unspaced (b ∷ []) s = refl
name_unspaced (b ∷ c ∷ l) s = rw (ne_eqb c 32 s)

pub name_missing : (l : List ℕ) (end : ℕ) → end ≡ 2 + name_run (drop 2 l) → end ≡ 2 → Parsed.No ≡ name_line l
unfolding name_line
name_missing [] end e z = refl
name_missing (b ∷ []) end e z = refl
name_missing (b ∷ c ∷ l) end e z =
    let none = le-ltb 2 (2 + name_run l) (omega arith) in
    cases (either (eqb c 32)) (λ t. rw (t, none)) (λ f. rw f)

pub name_says : (l : List ℕ) (end r : ℕ) (o : List ℕ) → 3 ≤ length l → get_or l 1 0 ≡ 32 → end ≡ 2 + name_run (drop 2 l) → (end ≡ 2 → ⊥) → length o ≡ 6
    → counted (Some r) o ≡ numbers_from l end 3 [] → named_by (get_or l 0 0) end r (get_or o 0 0) ≡ name_line l
unfolding name_line
name_says [] end r o h s e n long is = absurd (let z : ⊥ = omega arith in z)
name_says (b ∷ []) end r o h s e n long is = absurd (let z : ⊥ = omega arith in z)
name_says (b ∷ c ∷ l) end r o h s e n long is =
    let more = lt-ltb 2 (2 + name_run l) (omega arith) in
    named_counted b end r o long ∙ ap (names_of b end) is
    ∙ ap (λ (k : ℕ). names_of b k (numbers_from (b ∷ c ∷ l) k 3 [])) e
    ∙ sym (rw (eq-eqb c 32 s, more))

-- more than one number
pub named_none : (b end n x : ℕ) → (Unit {0} × (n ≡ 0 → ⊥)) × (n ≡ 1 → ⊥) → Parsed.No ≡ named_by b end n x
unfolding named_by
named_none b end n x h = let more : 1 < n = omega (arith, h.0.1, h.1) in rw (lt-ltb 1 n more)

-- what follows the name is no numbers
pub name_none : (l : List ℕ) (end : ℕ) (o : List ℕ) → 3 ≤ length l → get_or l 1 0 ≡ 32 → end ≡ 2 + name_run (drop 2 l) → (end ≡ 2 → ⊥)
    → counted None o ≡ numbers_from l end 3 [] → Parsed.No ≡ name_line l
unfolding name_line
name_none [] end o h s e n is = absurd (let z : ⊥ = omega arith in z)
name_none (b ∷ []) end o h s e n is = absurd (let z : ⊥ = omega arith in z)
name_none (b ∷ c ∷ l) end o h s e n is =
    let more = lt-ltb 2 (2 + name_run l) (omega arith) in
    ap (names_of b end) is
    ∙ ap (λ (k : ℕ). names_of b k (numbers_from (b ∷ c ∷ l) k 3 [])) e
    ∙ sym (rw (eq-eqb c 32 s, more))
