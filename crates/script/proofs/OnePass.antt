-- A line that is read in one pass: a letter and small numbers up to a line feed or the text's end are the whole line, and say their call.
use Prim.Native.Nat.{ℕ, suc, ◌+◌, ◌-◌, ◌*◌, ◌<◌, ◌≤◌}
use mathlib.Core.Path.{◌≡◌, refl, sym, ap, ap₂, ◌∙◌}
use mathlib.Core.Option.{Option, none, some}
use mathlib.Core.List.{List, [], ◌∷◌, ◌++◌, append_assoc}
use native.Mathlib.Nat.{add-zero}
use native.Mathlib.Numerals.{add-one}
use native.Mathlib.Omega.{arith}
use borrow.Author.Tests.{ne_eqb, lt-ltb, le-ltb}
use lib.ListN.{length, get_or, take, drop, length-append, length-drop}
use lib.Seq.{slice, drop-cons, take_at, slice_empty}
use Rattle.answer.proofs.Cases.{cases, lt?}
use Rattle.model.specs.declared.Call.{Call}
use Rattle.std.specs.Prelude.{Some, None}
use Rattle.script.specs.declared.parse.Parsed.{Parsed}
use Rattle.script.specs.declared.parse.Parsed.TheVariants.{Asks}
use Rattle.script.specs.declared.said.Said.{Said}
use Rattle.script.specs.Decimal.{decimal, led, spaced}
use Rattle.script.specs.Lines.{run, line_at, NoFeed}
use Rattle.script.specs.Letters.{call_of}
use Rattle.script.specs.Parse.{Number, number_from, opens, says_of, call_line, parsed}
use Rattle.script.specs.Grammar.{AllSmall}
use Rattle.script.specs.Said.{Near, said_at, Agrees, Tells, Next, near_of}
use Rattle.script.proofs.Letters.{letter_not_feed, numbers_few}
use Rattle.script.proofs.Runs.{run_here, run_end}
use Rattle.script.proofs.Decimals.{length_decimal}
use Rattle.script.proofs.Digits.{AllDigits, digit_range, decimal_means, number_spelt}
use Rattle.script.proofs.Saying.{rest_is, said}
use Rattle.script.proofs.LinesFacts.{slice_is, run_short}

-- ── no line feed in numbers ──

-- bytes without a line feed stand before the first one
run_append : (l r : List ℕ) → NoFeed l → run (l ++ r) ≡ length l + run r
unfolding run
run_append [] r h = omega arith
run_append (b ∷ l) r h = rw (ne_eqb b 10 h.0) (omega (arith, run_append l r h.1))

pub no_feed_append : (l r : List ℕ) → NoFeed l → NoFeed r → NoFeed (l ++ r)
no_feed_append [] r h k = k
no_feed_append (b ∷ l) r h k = (h.0, no_feed_append l r h.1 k)

no_feed_digits : (l : List ℕ) → AllDigits l → NoFeed l
no_feed_digits [] h = tt
no_feed_digits (b ∷ l) h = let g = digit_range b h.0 in (omega (arith, g.0), no_feed_digits l h.1)

pub no_feed_led : (s n : ℕ) → (s ≡ 10 → ⊥) → NoFeed (led s n)
unfolding led
no_feed_led s n h = (h, no_feed_digits (decimal n) (decimal_means n).0)

no_feed_spaced : (ns : List ℕ) → NoFeed (spaced ns)
unfolding spaced led
no_feed_spaced [] = tt
no_feed_spaced (n ∷ ns) = no_feed_append (led 32 n) (spaced ns) (no_feed_led 32 n (omega arith)) (no_feed_spaced ns)

-- small numbers take at most eight bytes each
length_spaced : (ns : List ℕ) → AllSmall ns → length (spaced ns) ≤ 8 * length ns
unfolding spaced
length_spaced [] h = omega arith
length_spaced (n ∷ ns) h = omega (arith, length_decimal 6 n h.0, length-append (decimal n) (spaced ns), length_spaced ns h.1)

-- ── numbers of a text ──

-- that small numbers stand in a text from a position to another
pub record Stand (text : List ℕ) (at : ℕ) (ns : List ℕ) (end : ℕ) : Type 0 where
  pub bytes : drop at text ≡ spaced ns ++ drop end text
  pub ends : end ≡ at + length (spaced ns)
  pub small : AllSmall ns

module _ (text : List ℕ) where
  pub stand_none : (at : ℕ) → Stand text at [] at
  unfolding spaced
  stand_none at = record { bytes = refl; ends = omega arith; small = tt }

  pub stand_more : (at v i : ℕ) (ns : List ℕ) (end : ℕ) → number_from (drop at text) at ≡ Some (v, i) → Stand text i ns end
      → Stand text at (v ∷ ns) end
  unfolding spaced
  stand_more at v i ns end e s =
      let n = number_spelt (drop at text) at v i e in
      let d : drop i text ≡ n.0 = ap (λ (k : ℕ). drop k text) n.2 ∙ rest_is text at (32 ∷ decimal v) n.0 n.1 in
      record {
        bytes = n.1 ∙ ap (λ (x : List ℕ). 32 ∷ (decimal v ++ x)) (sym d ∙ s.bytes) ∙
            ap (λ (x : List ℕ). 32 ∷ x) (sym (append_assoc (decimal v) (spaced ns) (drop end text)));
        ends = omega (arith, s.ends, n.2, length-append (decimal v) (spaced ns));
        small = (n.3, s.small);
      }

-- ── a call found ──

module _ (text : List ℕ) (at b : ℕ) (ms : List ℕ) (end : ℕ) (h : at < length text) (e : b ≡ get_or text at 0) (s : Stand text (at + 1) ms end) where
  line_bytes : drop at text ≡ (b ∷ spaced ms) ++ drop end text
  line_bytes = drop-cons text at 0 h ∙ ap₂ (λ (x : ℕ) (y : List ℕ). x ∷ y) (sym e) (ap (λ (k : ℕ). drop k text) (sym (add-one at)) ∙ s.bytes)

  module _ (c : Call) (is : call_of b ms ≡ some c) (z : run (drop end text) ≡ 0) where
    line_run : run (drop at text) ≡ suc (length (spaced ms))
    line_run = rw line_bytes (omega (arith, run_append (b ∷ spaced ms) (drop end text) (letter_not_feed b ms c is, no_feed_spaced ms)))

    line_slice : slice at (at + run (drop at text)) text ≡ b ∷ spaced ms
    line_slice =
        slice_is text at (run (drop at text)) (omega arith)
        ∙ ap₂ (λ (n : ℕ) (l : List ℕ). take n l) line_run line_bytes
        ∙ take_at (b ∷ spaced ms) (drop end text) (suc (length (spaced ms))) refl

    -- a letter and as many numbers as it takes, up to a line feed, say their call
    call_said : ◌≡◌ {A = Said} (record { says = Asks c; end = end }) (said_at text at)
    unfolding said_at
    call_said =
        let p : end ≡ at + run (drop at text) = omega (arith, line_run, s.ends) in
        let j : suc (length (spaced ms)) ≤ 80 = omega (arith, numbers_few b ms c is, length_spaced ms s.small) in
        let q = said c (record { letter = b; numbers = ms; is = is }) j s.small in
        ap₂ (λ (x : Parsed) (y : ℕ). record { says = x; end = y }) (sym (ap parsed line_slice ∙ q)) p

  said_by : (x : Option Call) → call_of b ms ≡ x → run (drop end text) ≡ 0 → Tells (near_of (says_of x) end) (said_at text at)
  said_by none is z = tt
  said_by (some c) is z = call_said c is z

  -- what a letter and numbers say up to a line feed, their line says
  pub call_found : (p : Parsed) (n : Near) → p ≡ says_of (call_of b ms) → n ≡ near_of p end
      → end < length text → get_or text end 0 ≡ 10 → Tells n (said_at text at)
  call_found p n q r i f = rw (r, q) (said_by (call_of b ms) refl (run_here text end i f))

-- ── what is found in one pass ──

-- what was read in a short way, taken apart
pub next_read : (text : List ℕ) (from : ℕ) (r : Number) (v e : ℕ) → r ≡ Some (v, e) → Agrees r (number_from (drop from text) from) (from + 5)
    → Next text from v e
next_read text from r v e p a = let read = rw p at a in (sym read.0, read.1)

pub agrees_move : (r n m : Number) (k most : ℕ) → n ≡ m → k ≤ most → Agrees r n k → Agrees r m most
agrees_move (Some read) n m k most p h a = (a.0 ∙ p, omega (arith, a.1))
agrees_move None n m k most p h a = tt

pub tells_is : (n : Near) (said : Said) (c : Call) (e : ℕ) → n ≡ Some (c, e) → Tells n said →
    ◌≡◌ {A = Said} (record { says = Asks c; end = e }) said
tells_is n said c e p t = rw p at t

-- ── by the line's end ──

-- no byte is left: there is no line
pub said_none : (text : List ℕ) (at : ℕ) → None ≡ line_at text at → ◌≡◌ {A = Said} (record { says = Parsed.No; end = at }) (said_at text at)
unfolding line_at said_at parsed opens call_line
said_none text at e =
    cases (lt? at (length text))
    (λ h.
    let q : None ≡ Some (at, at + run (drop at text)) = rw (lt-ltb at (length text) h) at e in
    absurd (let z : ◌≡◌ {A = ℕ} 0 1 = cc in let w : ⊥ = omega arith in w))
    (λ h. rw (run_end text at h, add-zero at, slice_empty at text))

-- the line that is found is the one that is read
pub said_part : (text : List ℕ) (at a e : ℕ) (p : Parsed) → Some (a, e) ≡ line_at text at → p ≡ parsed (take (e - a) (drop a text))
    → ◌≡◌ {A = Said} (record { says = p; end = e }) (said_at text at)
unfolding line_at said_at
said_part text at a e p f q =
    cases (lt? at (length text))
    (λ h.
    let g : Some (a, e) ≡ Some (at, at + run (drop at text)) = rw (lt-ltb at (length text) h) at f in
    let s : ◌≡◌ {A = ℕ × ℕ} (a, e) (at, at + run (drop at text)) = cc in
    let x : a ≡ at = ap (λ (l : ℕ × ℕ). l.0) s in
    let y : e ≡ at + run (drop at text) = ap (λ (l : ℕ × ℕ). l.1) s in
    let n : e - a ≡ run (drop at text) = omega arith in
    let w : take (e - a) (drop a text) ≡ slice at (at + run (drop at text)) text = rw (n, x) (sym (slice_is text at (run (drop at text)) (omega arith))) in
    ap₂ (λ (u : Parsed) (v : ℕ). record { says = u; end = v }) (q ∙ ap parsed w) y)
    (λ h.
    let g : Some (a, e) ≡ None = rw (le-ltb at (length text) h) at f in
    absurd (let z : ◌≡◌ {A = ℕ} 0 1 = cc in let w : ⊥ = omega arith in w))

-- what is said ends inside the text, or where it was looked for
pub said_inside : (text : List ℕ) (at : ℕ) (r : Said) → r ≡ said_at text at → (r ≡ said_at text at) × ((at ≤ r.end) × (r.end ≤ at + (length text - at)))
unfolding said_at
said_inside text at r e =
    let n = run_short (drop at text) in
    let l = length-drop at text in
    let q : r.end ≡ at + run (drop at text) = ap (λ (x : Said). x.end) e in
    (e, (omega arith, omega arith))

-- the line that is read is the one that the reader meets: so read one behind another, they are the lines of the text
pub said_line : (text : List ℕ) (at : ℕ) → at < length text → line_at text at ≡ Some (at, (said_at text at).end)
unfolding line_at said_at
said_line text at h = rw (lt-ltb at (length text) h)
