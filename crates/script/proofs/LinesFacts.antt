-- The reader meets exactly the lines of a text; no line has a line feed in it, and the lines make up the text.
use Prim.Native.Nat.{ℕ, zero, suc, ◌+◌, ◌<◌, ◌≤◌}
use mathlib.Core.Path.{◌≡◌, refl, sym, ap, ap₂, ◌∙◌}
use mathlib.Core.Logic.{◌⊎◌, inl, inr}
use mathlib.Core.List.{List, [], ◌∷◌, ◌++◌, append_assoc}
use native.Mathlib.Omega.{arith}
use borrow.Author.Tests.{lt-ltb, le-ltb, eqb-true, eqb-false, ne_eqb}
use lib.ListN.{length, take, drop, drop_of_length-le, length-drop}
use lib.Seq.{slice, take-add, drop_at, drop-drop, length-take-le, drop-cons}
use lib.Dec.{eqb}
use Rattle.answer.proofs.Cases.{cases, either, lt?}
use Rattle.std.specs.Prelude.{Some, None}
use Rattle.script.specs.Lines.{run, line_at, joins, lines_of, walk, ended, NoFeed, NoFeeds}

-- the first line of a text that is not empty, and the lines of what follows it
lines_first : (b : ℕ) (l : List ℕ) → lines_of (b ∷ l) ≡ take (run (b ∷ l)) (b ∷ l) ∷ lines_of (drop (run (b ∷ l) + 1) (b ∷ l))
unfolding run lines_of
lines_first b [] = cases (either (eqb b 10)) (λ t. rw t) (λ f. rw f)
lines_first b (c ∷ l) =
    cases (either (eqb b 10)) (λ t. rw t)
    (λ f.
    let e : suc (run (c ∷ l)) + 1 ≡ suc (run (c ∷ l) + 1) = omega arith in
    rw (f, e, lines_first c l))

pub slice_is : (text : List ℕ) (at n : ℕ) → at ≤ length text → slice at (at + n) text ≡ take n (drop at text)
slice_is text at n h = ap (drop at) (take-add at n text) ∙ drop_at (take at text) (take n (drop at text)) at (length-take-le at text h)

-- THE READER MEETS THE LINES: from any position, each next line behind the line feed of the one before
pub walk_lines : (n : ℕ) (text : List ℕ) (at : ℕ) → length text ≤ at + n → walk n text at ≡ lines_of (drop at text)
unfolding walk line_at lines_of
walk_lines zero text at h = rw (drop_of_length-le text {i = at} (omega arith))
walk_lines (suc n) text at h =
    cases (lt? at (length text))
    (λ k.
    let l : List ℕ = drop at text in
    let r : ℕ = run l in
    let f : lines_of l ≡ take r l ∷ lines_of (drop (r + 1) l) =
    rw (drop-cons text at 0 k) (lines_first _ _) in
    let e : at + (r + 1) ≡ at + r + 1 = omega arith in
    rw (lt-ltb at (length text) k)
    (ap₂ (λ (x : List ℕ) (y : List (List ℕ)). x ∷ y) (slice_is text at r (omega arith))
    (walk_lines n text (at + r + 1) (omega arith) ∙ ap lines_of (ap (λ (i : ℕ). drop i text) (sym e) ∙ sym (drop-drop (r + 1) at text)))
    ∙ sym f))
    (λ k. rw (le-ltb at (length text) k, drop_of_length-le text {i = at} k))

pub walk_all : (text : List ℕ) → walk (length text) text 0 ≡ lines_of text
walk_all text = walk_lines (length text) text 0 (omega arith)

joins_none : (b : ℕ) (ls : List (List ℕ)) → (b ≡ 10 → ⊥) → NoFeeds ls → NoFeeds (joins b ls)
joins_none b [] h k = ((h, tt), tt)
joins_none b (l ∷ ls) h k = ((h, k.0), k.1)

-- NO LINE HAS A LINE FEED IN IT
pub no_feeds : (text : List ℕ) → NoFeeds (lines_of text)
unfolding lines_of
no_feeds [] = tt
no_feeds (b ∷ l) =
    cases (either (eqb b 10))
    (λ t. rw t (tt, no_feeds l))
    (λ f. rw f (joins_none b (lines_of l) (eqb-false b 10 f) (no_feeds l)))

ended_joins : (b : ℕ) (l : List ℕ) (ls : List (List ℕ)) → ended (joins b (l ∷ ls)) ≡ b ∷ ended (l ∷ ls)
unfolding ended
ended_joins b l ls = refl

-- THE LINES MAKE UP THE TEXT, with a line feed behind each, or behind each but the last
pub lines_text : (text : List ℕ) → (text ≡ ended (lines_of text)) ⊎ (text ++ (10 ∷ []) ≡ ended (lines_of text))
unfolding lines_of ended
lines_text [] = inl refl
lines_text (b ∷ []) =
    cases (either (eqb b 10)) (λ t. inl (rw (t, eqb-true b 10 t))) (λ f. inr (rw f))
lines_text (b ∷ c ∷ l) =
    cases (either (eqb b 10))
    (λ t. rw (t, eqb-true b 10 t) (cases (lines_text (c ∷ l)) (λ e. inl (ap (λ (x : List ℕ). 10 ∷ x) e)) (λ e. inr (ap (λ (x : List ℕ). 10 ∷ x) e))))
    (λ f.
    let j : ended (joins b (lines_of (c ∷ l))) ≡ b ∷ ended (lines_of (c ∷ l)) =
    rw (lines_first c l) (ended_joins b (take (run (c ∷ l)) (c ∷ l)) (lines_of (drop (run (c ∷ l) + 1) (c ∷ l)))) in
    rw f (cases (lines_text (c ∷ l)) (λ e. inl (ap (λ (x : List ℕ). b ∷ x) e ∙ sym j)) (λ e. inr (ap (λ (x : List ℕ). b ∷ x) e ∙ sym j))))

line_first : (l text : List ℕ) → NoFeed l → lines_of (l ++ (10 ∷ text)) ≡ l ∷ lines_of text
unfolding lines_of
line_first [] text h = refl
line_first (b ∷ l) text h = rw (ne_eqb b 10 h.0, line_first l text h.1)

line_alone : (b : ℕ) (l : List ℕ) → NoFeed (b ∷ l) → lines_of (b ∷ l) ≡ (b ∷ l) ∷ []
unfolding lines_of
line_alone b [] h = rw (ne_eqb b 10 h.0)
line_alone b (c ∷ l) h = rw (ne_eqb b 10 h.0, line_alone c l h.1)

-- lines with a line feed behind each are the lines of their text: nothing behind the last line feed is no line
pub lines_ended : (ls : List (List ℕ)) → NoFeeds ls → lines_of (ended ls) ≡ ls
unfolding lines_of ended
lines_ended [] h = refl
lines_ended (l ∷ ls) h = line_first l (ended ls) h.0 ∙ ap (λ (x : List (List ℕ)). l ∷ x) (lines_ended ls h.1)

-- a last line with no line feed behind it is a line too
pub lines_last : (ls : List (List ℕ)) (b : ℕ) (l : List ℕ) → NoFeeds ls → NoFeed (b ∷ l) → lines_of (ended ls ++ (b ∷ l)) ≡ ls ++ ((b ∷ l) ∷ [])
unfolding ended
lines_last [] b l h k = line_alone b l k
lines_last (x ∷ ls) b l h k =
    ap lines_of (append_assoc x (10 ∷ ended ls) (b ∷ l))
    ∙ line_first x (ended ls ++ (b ∷ l)) h.0
    ∙ ap (λ (y : List (List ℕ)). x ∷ y) (lines_last ls b l h.1 k)

pub run_short : (l : List ℕ) → run l ≤ length l
unfolding run
run_short [] = omega arith
run_short (b ∷ l) =
    let h = run_short l in
    cases (either (eqb b 10)) (λ t. rw t (omega arith)) (λ f. rw f (omega arith))

-- a line that is found begins where it was looked for, and lies inside the text
pub part_inside : (text : List ℕ) (at a e : ℕ) → line_at text at ≡ Some (a, e) → (a ≡ at) × (at < length text) × (a ≤ e) × (e ≤ length text)
unfolding line_at
part_inside text at a e p =
    cases (lt? at (length text))
    (λ h.
    let q : Some (at, at + run (drop at text)) ≡ Some (a, e) = rw (lt-ltb at (length text) h) at p in
    let s : ◌≡◌ {A = ℕ × ℕ} (at, at + run (drop at text)) (a, e) = cc in
    let x : at ≡ a = ap (λ (l : ℕ × ℕ). l.0) s in
    let y : at + run (drop at text) ≡ e = ap (λ (l : ℕ × ℕ). l.1) s in
    let r = run_short (drop at text) in
    let l = length-drop at text in
    (sym x, h, omega arith, omega arith))
    (λ h.
    let q : None ≡ Some (a, e) = rw (le-ltb at (length text) h) at p in
    absurd (let z : ◌≡◌ {A = ℕ} 0 1 = cc in let w : ⊥ = omega arith in w))
