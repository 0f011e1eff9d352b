-- Lines: the one at a position, and texts that are cut behind a line feed.
use mathlib.Core.Path.{◌≡◌, refl, sym, ap, ◌∙◌}
use mathlib.Core.Bool.{cond}
use mathlib.Core.List.{List, [], ◌∷◌, ◌++◌}
use Prim.Native.Nat.{ℕ, zero, suc, ◌+◌, ◌-◌, ◌≤◌, ◌<◌}
use native.Mathlib.Omega.{arith}
use borrow.Author.Tests.{eq-eqb, lt-ltb}
use lib.Dec.{eqb}
use lib.ListN.{length, get_or, drop}
use lib.Seq.{slice, get_or-drop}
use Rattle.answer.proofs.Cases.{cases, either}
use Rattle.script.specs.Lines.{run, line_at, joins, lines_of, walk}
use Rattle.script.proofs.LinesFacts.{walk_lines}

-- where the line at a position ends
abbrev pub end_at : List ℕ → ℕ → ℕ
end_at text at = at + run (drop at text)

-- THE LINE AT A POSITION IS THE FIRST of those from there on
pub line_met : (text : List ℕ) (at : ℕ) → at < length text →
    lines_of (drop at text) ≡ slice at (end_at text at) text ∷ lines_of (drop (end_at text at + 1) text)
unfolding walk line_at
line_met text at h =
    let n : ℕ = length text in
    let met : walk (suc n) text at ≡ slice at (end_at text at) text ∷ walk n text (end_at text at + 1) = rw (lt-ltb at n h) in
    sym (walk_lines (suc n) text at (omega arith)) ∙ met ∙
    ap (λ (ls : List (List ℕ)). slice at (end_at text at) text ∷ ls) (walk_lines n text (end_at text at + 1) (omega arith))

-- no line reaches past a line feed
run_feed : (l : List ℕ) (i : ℕ) → get_or l i 0 ≡ 10 → run l ≤ i
unfolding run
run_feed [] i h = omega arith
run_feed (b ∷ l) zero h = rw (eq-eqb b 10 h) (omega arith)
run_feed (b ∷ l) (suc i) h =
    let k = run_feed l i h in
    cases (either (eqb b 10)) (λ y. rw y (omega arith)) (λ n. rw n (omega arith))

-- the line at a position before a line feed ends at it or before
pub ends_by : (text : List ℕ) (at i : ℕ) → at ≤ i → get_or text i 0 ≡ 10 → end_at text at ≤ i
ends_by text at i h e =
    let k : at + (i - at) ≡ i = omega arith in
    omega (arith, run_feed (drop at text) (i - at) (get_or-drop at text (i - at) 0 ∙ ap (λ (j : ℕ). get_or text j 0) k ∙ e))

-- a byte, and the lines behind it
abbrev behind : ℕ → List (List ℕ) → List (List ℕ)
behind b ls = cond (eqb b 10) ([] ∷ ls) (joins b ls)

lines_cons : (b : ℕ) (l : List ℕ) → lines_of (b ∷ l) ≡ behind b (lines_of l)
unfolding lines_of
lines_cons b l = refl

line_feed : (b : List ℕ) → lines_of (10 ∷ b) ≡ lines_of (10 ∷ []) ++ lines_of b
unfolding lines_of
line_feed b = refl

-- a text that is not empty has a first line
first_line : (b : ℕ) (l : List ℕ) → (x : List ℕ) × ((y : List (List ℕ)) × (lines_of (b ∷ l) ≡ x ∷ y))
unfolding lines_of
first_line b l = cases (either (eqb b 10)) (λ e. ([], (lines_of l, rw e))) (λ n. rw n (go (lines_of l)))
  where
    go : (ls : List (List ℕ)) → (x : List ℕ) × ((y : List (List ℕ)) × (joins b ls ≡ x ∷ y))
    go [] = (b ∷ [], ([], refl))
    go (m ∷ ls) = (b ∷ m, (ls, refl))

behind_append : (b : ℕ) (l : List ℕ) (ls ms : List (List ℕ)) → behind b ((l ∷ ls) ++ ms) ≡ behind b (l ∷ ls) ++ ms
behind_append b l ls ms = cases (either (eqb b 10)) (λ y. rw y) (λ n. rw n)

-- A LINE FEED CUTS A TEXT: the lines up to behind it, then those behind it
pub lines_cut : (a b : List ℕ) (i : ℕ) → length a ≡ suc i → get_or a i 0 ≡ 10 → lines_of (a ++ b) ≡ lines_of a ++ lines_of b
lines_cut [] b i h e = absurd (let z : ⊥ = omega arith in z)
lines_cut (x ∷ []) b zero h e = rw e (line_feed b)
lines_cut (x ∷ []) b (suc i) h e = absurd (let z : ⊥ = omega arith in z)
lines_cut (x ∷ y ∷ a) b zero h e = absurd (let z : ⊥ = omega arith in z)
lines_cut (x ∷ y ∷ a) b (suc i) h e =
    let (l, (ls, f)) = first_line y a in
    lines_cons x (y ∷ a ++ b) ∙
    ap (behind x) (lines_cut (y ∷ a) b i (omega arith) e ∙ ap (λ (m : List (List ℕ)). m ++ lines_of b) f) ∙
    behind_append x l ls (lines_of b) ∙
    ap (λ (m : List (List ℕ)). m ++ lines_of b) (ap (behind x) (sym f) ∙ sym (lines_cons x (y ∷ a)))
