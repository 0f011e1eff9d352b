-- The last line feed of a text, looked for from its end.
use mathlib.Core.Path.{◌≡◌, refl, ◌∙◌}
use mathlib.Core.Bool.{Bool, true, false}
use mathlib.Core.Logic.{◌⊎◌, inl, inr}
use mathlib.Core.List.{List}
use Prim.Native.Nat.{ℕ, zero, suc, pred, ◌+◌, ◌-◌, ◌≤◌, ◌<◌}
use native.Mathlib.Omega.{arith}
use lib.Dec.{eqb}
use lib.ListN.{length, get_or, drop, drop_of_length-le}
use lib.Seq.{drop-cons}
use borrow.Author.Tests.{le-leb, lt-leb, eq-eqb, ne_eqb, eqb-true, eqb-false}
use Rattle.answer.proofs.Cases.{cases, either, same?, lt?}
use Rattle.script.specs.Lines.{NoFeed}
use Rattle.runner.specs.Turn.{feed_end, part_end}
use Rattle.runner.specs.Printed.{AnsweredAtOnce}

le? : (i j : ℕ) → (i ≤ j) ⊎ (j < i)
le? i j = cases (lt? j i) inr inl

less_one : (i : ℕ) → suc i - 1 ≡ i
less_one i = omega arith

-- it stands there
pub feed_here : (text : List ℕ) (from n : ℕ) → from < n → get_or text (n - 1) 0 ≡ 10 → feed_end text from n ≡ n
unfolding feed_end
feed_here text from zero h e = absurd (let z : ⊥ = omega arith in z)
feed_here text from (suc i) h e = rw (le-leb from i (omega arith), eq-eqb (get_or text i 0) 10 (rw (less_one i) at e))

-- it stands before
pub feed_before : (text : List ℕ) (from n : ℕ) → from < n → (get_or text (n - 1) 0 ≡ 10 → ⊥) → feed_end text from (n - 1) ≡ feed_end text from n
unfolding feed_end
feed_before text from zero h e = absurd (let z : ⊥ = omega arith in z)
feed_before text from (suc i) h e = rw (less_one i) (rw (le-leb from i (omega arith), ne_eqb (get_or text i 0) 10 (rw (less_one i) at e)))

-- there is none
pub no_feed : (text : List ℕ) (from n : ℕ) → n ≤ from → feed_end text from n ≡ 0
unfolding feed_end
no_feed text from zero h = refl
no_feed text from (suc i) h = rw (lt-leb from i (omega arith))

-- what the loop keeps: the last line feed stands before `end`, or nowhere
pub record Looking (text : List ℕ) (from end : ℕ) : Type 0 where
  pub inside : end ≤ length text
  pub left : feed_end text from end ≡ feed_end text from (length text)

pub looks : (text : List ℕ) (from : ℕ) → Looking text from (length text)
looks text from = record { inside = omega arith; left = refl }

pub looks_on : (text : List ℕ) (from n : ℕ) → Looking text from n → from < n → (get_or text (n - 1) 0 ≡ 10 → ⊥) → Looking text from (n - 1)
looks_on text from n l h e = record { inside = omega (arith, l.inside); left = feed_before text from n h e ∙ l.left }

-- ── how far a text is answered ──

feed_inside : (text : List ℕ) (from n : ℕ) → feed_end text from n ≤ n
unfolding feed_end
feed_inside text from zero = omega arith
feed_inside text from (suc i) =
    let h = feed_inside text from i in
    cases (le? from i)
    (λ k. cases (either (eqb (get_or text i 0) 10))
    (λ e. rw (le-leb from i k, e) (omega arith))
    (λ e. rw (le-leb from i k, e) (omega arith)))
    (λ k. rw (lt-leb from i k) (omega arith))

module _ (text : List ℕ) (from : ℕ) where
  pub to_the_end : (whole : Bool) → whole ≡ true → (length text ≡ part_end text from whole) × (length text ≤ length text)
  unfolding part_end
  to_the_end whole e = rw e (refl, omega arith)

  pub to_the_feed : (whole : Bool) (r : ℕ) → whole ≡ false → r ≡ feed_end text from (length text) → (r ≡ part_end text from whole) × (r ≤ length text)
  unfolding part_end
  to_the_feed whole r e f = let h = feed_inside text from (length text) in rw e (f, omega arith)

  pub part_inside : (whole : Bool) → part_end text from whole ≤ length text
  unfolding part_end
  part_inside true = omega arith
  part_inside false = feed_inside text from (length text)

-- ── every whole line is answered at once ──

-- e is the position after a line feed that stands at `from` or later, among the first n bytes
record After (text : List ℕ) (from n e : ℕ) : Type 0 where
  new : from < e
  inside : e ≤ n
  feed : get_or text (pred e) 0 ≡ 10

one_longer : (text : List ℕ) (from n e : ℕ) → After text from n e → After text from (suc n) e
one_longer text from n e a = record { new = a.new; inside = omega (arith, a.inside); feed = a.feed }

-- a line feed, or none
found : (text : List ℕ) (from n : ℕ) → After text from n (feed_end text from n) ⊎ (feed_end text from n ≡ 0)
unfolding feed_end
found text from zero = inr refl
found text from (suc i) =
    cases (le? from i)
    (λ k. cases (either (eqb (get_or text i 0) 10))
    (λ e. rw (le-leb from i k, e) (inl (record { new = omega arith; inside = omega arith; feed = eqb-true (get_or text i 0) 10 e })))
    (λ e. rw (le-leb from i k, e) (cases (found text from i) (λ a. inl (one_longer text from i (feed_end text from i) a)) (λ a. inr a))))
    (λ k. rw (lt-leb from i k) (inr refl))

-- the bytes from a position on, none of them a line feed
feedless : (n : ℕ) (text : List ℕ) (at : ℕ) → length text ≤ at + n → ((i : ℕ) → at ≤ i → i < length text → get_or text i 0 ≡ 10 → ⊥) → NoFeed (drop at text)
feedless zero text at h f = rw (drop_of_length-le text {i = at} (omega arith)) tt
feedless (suc n) text at h f =
    cases (le? (length text) at)
    (λ k. rw (drop_of_length-le text {i = at} k) tt)
    (λ k. rw (drop-cons text at 0 k) (f at (omega arith) k, feedless n text (suc at) (omega arith) (λ i a b. f i (omega arith) b)))

-- after the last line feed there is none
after_last : (text : List ℕ) (from n : ℕ) (i : ℕ) → feed_end text from n ≤ i → from ≤ i → i < n → get_or text i 0 ≡ 10 → ⊥
unfolding feed_end
after_last text from zero i a b h e = omega arith
after_last text from (suc j) i a b h e =
    let k : from ≤ j = omega arith in
    cases (either (eqb (get_or text j 0) 10))
    (λ y. let z : suc j ≤ i = rw (le-leb from j k, y) at a in absurd (let w : ⊥ = omega arith in w))
    (λ y.
    let z : feed_end text from j ≤ i = rw (le-leb from j k, y) at a in
    cases (same? i j)
    (λ s. eqb-false (get_or text j 0) 10 y (rw s at e))
    (λ s. after_last text from j i z b (omega (arith, s)) e))

pub answered_at_once : AnsweredAtOnce
answered_at_once text from =
    let n : ℕ = length text in
    cases (found text from n)
    (λ a. inl (record {
      new = a.new;
      inside = a.inside;
      feed = a.feed;
      last = feedless n text (feed_end text from n) (omega arith) (λ i x y. after_last text from n i x (omega (arith, a.new)) y);
    }))
    (λ a. inr (record { none = a; came = feedless n text from (omega arith) (λ i x y. after_last text from n i (omega (arith, a)) x y) }))
