-- A line in its text: where its name lies, and that what it asks for can be taken out of the text.
use Prim.Native.Nat.{ℕ, ◌+◌, ◌-◌, ◌<◌, ◌≤◌}
use mathlib.Core.Path.{◌≡◌, refl, sym, ap, ap₂, ◌∙◌}
use mathlib.Core.List.{List, [], ◌∷◌}
use mathlib.Core.Option.{Option, none, some}
use native.Mathlib.Nat.{add-zero, zero-add}
use native.Mathlib.Omega.{arith}
use borrow.Author.Tests.{ltb-true}
use lib.ListN.{length, take, drop, length-drop}
use lib.Seq.{slice, slice_empty, length-take-le, take-take, take-add, drop_at, drop-drop}
use lib.Dec.{eqb, ltb}
use Rattle.answer.proofs.Cases.{cases, either, lt?}
use Rattle.model.specs.declared.Call.{Call}
use Rattle.model.specs.declared.Naming.{Naming}
use Rattle.model.specs.Command.{command_on}
use Rattle.script.specs.declared.parse.Parsed.{Parsed}
use Rattle.script.specs.declared.parse.Parsed.TheVariants.{Store, Asks, Named}
use Rattle.script.specs.declared.said.Said.{Said}
use Rattle.script.specs.Letters.{call_of, naming_of}
use Rattle.script.specs.Lines.{run}
use Rattle.script.specs.Parse.{numbers_from, opens, store, store_of, says_of, asks_of, call_line, opens_name, name_run, named_of, names_of, name_line, parsed}
use Rattle.script.specs.Said.{said_at, NameIn}
use Rattle.script.specs.Spoken.{asks, spoken_at, spoken}
use Rattle.script.proofs.Runs.{run_end}
use Rattle.script.proofs.LinesFacts.{slice_is, run_short}
use Rattle.script.proofs.OnePass.{said_inside}
use Rattle.script.proofs.Saying.{run_few}

-- ── the name of a line lies in it ──

-- what a line says lies in the line
abbrev Within : List ℕ → Parsed → Type 0
Within line p = NameIn line 0 p (length line)

store_within : (line : List ℕ) (x : Option (List ℕ)) → Within line (store_of x)
store_within line none = tt
store_within line (some ns) = cases (either (eqb (length ns) 6)) (λ t. rw t tt) (λ f. rw f tt)

says_within : (line : List ℕ) (x : Option Call) → Within line (says_of x)
says_within line none = tt
says_within line (some c) = tt

asks_within : (line : List ℕ) (b : ℕ) (x : Option (List ℕ)) → Within line (asks_of b x)
asks_within line b none = tt
asks_within line b (some ns) = says_within line (call_of b ns)

call_within : (line : List ℕ) → Within line (call_line line)
unfolding call_line
call_within [] = tt
call_within (b ∷ l) = asks_within (b ∷ l) b (numbers_from (b ∷ l) 1 3 [])

module _ (line : List ℕ) (end : ℕ) (h : 2 < end) (k : end ≤ length line) where
  named_within : (x : Option Naming) → Within line (named_of x end)
  named_within none = tt
  named_within (some n) = record { begun = h; in_line_lem = omega arith; in_text = omega arith }

  names_within : (b : ℕ) (x : Option (List ℕ)) → Within line (names_of b end x)
  names_within b none = tt
  names_within b (some ns) = named_within (naming_of b ns)

name_within : (line : List ℕ) → Within line (name_line line)
unfolding name_line
name_within [] = tt
name_within (b ∷ []) = tt
name_within (b ∷ s ∷ l) =
    let end : ℕ = 2 + name_run l in
    let line : List ℕ = b ∷ s ∷ l in
    cases (either (eqb s 32))
    (λ t.
    cases (either (ltb 2 end))
    (λ k. rw (t, k) (names_within line end (ltb-true 2 end k) (omega (arith, run_few l)) b (numbers_from line end 3 [])))
    (λ k. rw (t, k) tt))
    (λ f. rw f tt)

-- a name that a line says lies in the line
pub parsed_within : (line : List ℕ) → NameIn line 0 (parsed line) (length line)
unfolding parsed
parsed_within line =
    cases (either (ltb 80 (length line))) (λ t. rw t tt)
    (λ f.
    cases (either (opens store line)) (λ o. rw (f, o) (store_within line (numbers_from line 5 6 [])))
    (λ o. cases (either (opens_name line)) (λ k. rw (f, o, k) (name_within line)) (λ k. rw (f, o, k) (call_within line))))

-- ── and in the text ──

within_text : (line text : List ℕ) (at end : ℕ) → at + length line ≤ end → end ≤ length text → (p : Parsed) → Within line p → NameIn text at p end
within_text line text at end h k (Store x) w = tt
within_text line text at end h k (Asks c) w = tt
within_text line text at end h k (Named n e) w = record { begun = w.begun; in_line_lem = omega (arith, w.in_line_lem); in_text = k }
within_text line text at end h k Parsed.No w = tt

parsed_empty : parsed [] ≡ Parsed.No
unfolding parsed opens call_line
parsed_empty = refl

module _ (text : List ℕ) (at : ℕ) where
  abbrev line_at : List ℕ
  line_at = slice at (at + run (drop at text)) text

  -- no byte is left
  none_left : length text ≤ at → parsed line_at ≡ Parsed.No
  none_left h =
      let e : at + run (drop at text) ≡ at = ap (λ (k : ℕ). at + k) (run_end text at h) ∙ add-zero at in
      ap parsed (ap (λ (k : ℕ). slice at k text) e ∙ slice_empty at text) ∙ parsed_empty

  length_line : at ≤ length text → length line_at ≡ run (drop at text)
  length_line h =
      ap length (slice_is text at (run (drop at text)) h) ∙ length-take-le (run (drop at text)) (drop at text) (run_short (drop at text))

  -- WHERE A NAME LIES that the line at a position has
  pub name_placed : NameIn text at (said_at text at).says (said_at text at).end
  unfolding said_at
  name_placed =
      cases (lt? at (length text))
      (λ h.
      let n = run_short (drop at text) in
      let l = length-drop at text in
      let k : at ≤ length text = omega arith in
      within_text line_at text at (at + run (drop at text)) (omega (arith, length_line k)) (omega arith) (parsed line_at) (parsed_within line_at))
      (λ h. rw (none_left h) tt)

  -- a slice of the line is one of the text
  name_slice : (e : ℕ) → at ≤ length text → e ≤ length line_at → slice (at + 2) (at + e) text ≡ slice (0 + 2) (0 + e) line_at
  name_slice e h k =
      let n : ℕ = run (drop at text) in
      let few : e ≤ n = omega (arith, length_line h) in
      let left : slice (at + 2) (at + e) text ≡ drop 2 (take e (drop at text)) =
      sym (drop-drop 2 at (take (at + e) text))
      ∙ ap (λ (x : List ℕ). drop 2 (drop at x)) (take-add at e text)
      ∙ ap (drop 2) (drop_at (take at text) (take e (drop at text)) at (length-take-le at text h)) in
      let right : slice (0 + 2) (0 + e) line_at ≡ drop 2 (take e (drop at text)) =
      ap₂ (λ (i : ℕ) (x : List ℕ). drop 2 (take i x)) (zero-add e) (slice_is text at n h) ∙ ap (drop 2) (take-take e n (drop at text) few) in
      left ∙ sym right

  spoken_as : (p : Parsed) → at ≤ length text → Within line_at p → spoken_at text at p ≡ spoken_at line_at 0 p
  spoken_as (Store x) h w = refl
  spoken_as (Asks c) h w = refl
  spoken_as (Named n e) h w = ap (λ (l : List ℕ). asks (command_on n l)) (name_slice e h (omega (arith, w.in_line_lem)))
  spoken_as Parsed.No h w = refl

  -- WHAT THE LINE AT A POSITION ASKS FOR is what the line alone asks for, so a name may be taken out of the text
  pub spoken_placed : spoken_at text at (said_at text at).says ≡ spoken line_at
  unfolding said_at spoken
  spoken_placed =
      cases (lt? at (length text))
      (λ h. spoken_as (parsed line_at) (omega arith) (parsed_within line_at))
      (λ h. rw (none_left h))

  -- the promises of `said_at_lem`, of what it answers
  pub said_promised : (r : Said) → r ≡ said_at text at
      → (r ≡ said_at text at) × (((at ≤ r.end) × (r.end ≤ at + (length text - at))) × NameIn text at r.says r.end)
  said_promised r e =
      let w = said_inside text at r e in
      (e, (w.1, rw e name_placed))
