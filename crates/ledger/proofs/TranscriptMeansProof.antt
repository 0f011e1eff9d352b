-- WHAT HOLDS OF ANY TRANSCRIPT.
use mathlib.Core.Path.{◌≡◌, refl, sym, ap, subst, ◌∙◌}
use mathlib.Core.Bool.{Bool, false, true≢false, cond}
use mathlib.Core.Logic.{◌⊎◌}
use mathlib.Core.List.{List, [], ◌∷◌, ◌++◌}
use Prim.Native.Nat.{ℕ, zero, suc, ◌-◌, ◌≤◌, ◌<◌}
use native.Mathlib.Omega.{arith}
use borrow.Author.Tests.{lt-ltb}
use lib.Dec.{ltb}
use lib.ListN.{length}
use Rattle.answer.specs.Reply.{accepted, refused}
use Rattle.answer.specs.Refusal.{Condition, place, Ordered, decide}
use Rattle.answer.proofs.Cases.{cases, either}
use Rattle.answer.proofs.Decided.{accepted_not, refused_same}
use Rattle.geometry.specs.declared.Geometry.{Geometry}
use Rattle.geometry.specs.Limits.{Inside, fits}
use Rattle.geometry.proofs.Made.{fits_inside, inside_fits}
use Rattle.model.specs.Command.{Command}
use Rattle.script.specs.declared.parse.Six.{Six}
use Rattle.script.specs.Parse.{opens, call_line, parsed}
use Rattle.script.specs.Spoken.{Spoken, makes, asks, nothing, spoken}
use Rattle.model.specs.Results.{numbers_of}
use Rattle.ledger.specs.Ledger.{Ledger, account, refusals_of, says}
use Rattle.ledger.specs.Transcript.{Runner, without_store, with_store, asked, line_says, line_gives, line_text, line_leaves, printed, left}
use Rattle.ledger.specs.TranscriptMeans.{LineRefused, TranscriptMeans}
use Rattle.ledger.proofs.EachTold.{told}
use Rattle.ledger.proofs.Parts.{parts, parts_left}
use Rattle.ledger.proofs.LineSpelled.{line_gives_lem, line_spelled, line_reads}

-- ── what the ledger says is from 5 on ──

abbrev From : ℕ → List Condition → Type 0
From m [] = Unit {0}
From m (c ∷ cs) = (m ≤ c.0) × From m cs

decide_from : (m : ℕ) (cs : List Condition) (l : List ℕ) (n : ℕ) → From m cs → decide cs l ≡ refused n → m ≤ n
decide_from m [] l n f e = absurd (accepted_not e)
decide_from m (c ∷ cs) l n f e =
    cases (either c.1)
    (λ y. let d : c.0 ≡ n = refused_same (rw y at e) in omega (arith, f.0))
    (λ k. decide_from m cs l n f.1 (rw k at e))

place_from_lem : (n : ℕ) → 4 < place n → 5 ≤ n
place_from_lem zero h = omega arith
place_from_lem (suc zero) h = omega arith
place_from_lem (suc (suc zero)) h = omega arith
place_from_lem (suc (suc (suc zero))) h = omega arith
place_from_lem (suc (suc (suc (suc zero)))) h = omega arith
place_from_lem (suc (suc (suc (suc (suc n))))) h = omega arith

ordered_from : (m : ℕ) (cs : List Condition) → 4 ≤ m → Ordered m cs → From 5 cs
ordered_from m [] h o = tt
ordered_from m (c ∷ cs) h o = (place_from_lem c.0 (omega (arith, o.0)), ordered_from (place c.0) cs (omega (arith, o.0)) o.1)

-- NO CALL IS REFUSED BELOW 5 by the ledger
pub says_from : (g : Geometry) (L : Ledger) (c : Command) (n : ℕ) → says g L c ≡ refused n → 5 ≤ n
unfolding says
says_from g L c n e =
    let a = account g L c in
    let t : Bool = ltb (g.words - length a.leaving.log) (length a.words) in
    decide_from 5 (a.refusals ++ ((14, t) ∷ [])) (numbers_of a.result) n (ordered_from 4 (refusals_of g L c) (omega arith) ((told c).ordered g L)) e

-- ── how a line may be refused ──

store_refused : (x : Six) (n : ℕ) → cond (fits (asked x)) (accepted []) (refused 2) ≡ refused n → (n ≡ 2) × (Inside (asked x) → ⊥)
store_refused x n e =
    cases (either (fits (asked x)))
    (λ y. absurd (accepted_not (rw y at e)))
    (λ k. (sym (refused_same (rw k at e)), λ i. true≢false (sym (inside_fits (asked x) i) ∙ k)))

store_says : (x : Six) → (Inside (asked x) → ⊥) → fits (asked x) ≡ false
store_says x h = cases (either (fits (asked x))) (λ y. absurd (h (fits_inside (asked x) y))) (λ k. k)

-- which of the three a line says, and whether there is a store
abbrev kind : Spoken → ℕ
kind nothing = 0
kind (makes x) = 1
kind (asks c) = 2

abbrev has : Runner → ℕ
has without_store = 0
has (with_store g L) = 1

same_six : {x y : Six} → makes x ≡ makes y → x ≡ y
same_six e = cc

line_refused : (R : Runner) (p : Spoken) → LineRefused R p
unfolding line_says
line_refused R nothing = record {
  one = (λ e. refl, λ e. refl);
  two = (λ e. absurd (omega (arith, refused_same e)), λ w. absurd (omega (arith, ap kind w.1.0)));
  three = λ e. omega (arith, refused_same e);
  four = (λ e. absurd (omega (arith, refused_same e)), λ w. absurd (omega (arith, ap kind w.1.1)));
}
line_refused R (makes x) = record {
  one = (λ e. absurd (omega (arith, (store_refused x 1 e).0)), λ e. absurd (omega (arith, ap kind e)));
  two = (
    λ e. (x, (refl, (store_refused x 2 e).1)),
    λ w. rw (store_says x (λ i. w.1.1 (subst (λ (y : Six). Inside (asked y)) (same_six w.1.0) i))),
  );
  three = λ e. omega (arith, (store_refused x 3 e).0);
  four = (λ e. absurd (omega (arith, (store_refused x 4 e).0)), λ w. absurd (omega (arith, ap kind w.1.1)));
}
line_refused without_store (asks c) = record {
  one = (λ e. absurd (omega (arith, refused_same e)), λ e. absurd (omega (arith, ap kind e)));
  two = (λ e. absurd (omega (arith, refused_same e)), λ w. absurd (omega (arith, ap kind w.1.0)));
  three = λ e. omega (arith, refused_same e);
  four = (λ e. (refl, (c, refl)), λ w. refl);
}
line_refused (with_store g L) (asks c) = record {
  one = (λ e. absurd (omega (arith, says_from g L c 1 e)), λ e. absurd (omega (arith, ap kind e)));
  two = (λ e. absurd (omega (arith, says_from g L c 2 e)), λ w. absurd (omega (arith, ap kind w.1.0)));
  three = λ e. omega (arith, says_from g L c 3 e);
  four = (λ e. absurd (omega (arith, says_from g L c 4 e)), λ w. absurd (omega (arith, ap has w.0)));
}

no_call : (R : Runner) (l : List ℕ) → (l ≡ []) ⊎ (80 < length l) → line_says R (spoken l) ≡ refused 1
unfolding line_says spoken parsed opens call_line
no_call R l h = cases h (λ e. rw e) (λ k. rw (lt-ltb 80 (length l) k))

-- ── a line between others ──

each : (R : Runner) (before : List (List ℕ)) (l : List ℕ) (behind : List (List ℕ)) →
    printed R (before ++ (l ∷ behind)) ≡
    printed R before ++ (line_text (left R before) (spoken l) ++ printed (left R (before ++ (l ∷ []))) behind)
unfolding printed left
each R before l behind =
    parts R before (l ∷ behind) ∙
    ap (λ (Q : Runner). printed R before ++ (line_text (left R before) (spoken l) ++ printed Q behind)) (sym (parts_left R before (l ∷ [])))

-- ── there is a store from the first accepted store line on ──

line_has : (R : Runner) (p : Spoken) → has R ≡ 1 → has (line_leaves R p) ≡ 1
unfolding line_leaves
line_has R nothing h = h
line_has R (makes x) h = cases (either (fits (asked x))) (λ y. rw y) (λ n. rw n h)
line_has without_store (asks c) h = h
line_has (with_store g L) (asks c) h = refl

lines_have : (ls : List (List ℕ)) (R : Runner) → has R ≡ 1 → has (left R ls) ≡ 1
unfolding left
lines_have [] R h = h
lines_have (l ∷ ls) R h = lines_have ls (line_leaves R (spoken l)) (line_has R (spoken l) h)

store_left : (R : Runner) (x : Six) → Inside (asked x) → has (line_leaves R (makes x)) ≡ 1
unfolding line_leaves
store_left R x i = rw (inside_fits (asked x) i)

store_has : (R : Runner) (before : List (List ℕ)) (l : List ℕ) (between : List (List ℕ)) (x : Six) → spoken l ≡ makes x → Inside (asked x) →
    has (left R (before ++ (l ∷ between))) ≡ 1
unfolding left
store_has R before l between x e i =
    ap has (parts_left R before (l ∷ between)) ∙
    lines_have between (line_leaves (left R before) (spoken l)) (rw e (store_left (left R before) x i))

afresh : (R : Runner) (l : List ℕ) (behind : List (List ℕ)) (x : Six) → spoken l ≡ makes x → Inside (asked x) →
    printed R (l ∷ behind) ≡ printed without_store (l ∷ behind)
unfolding printed line_says line_gives line_leaves
afresh R l behind x e i = rw (e, inside_fits (asked x) i)

leaves : (R : Runner) (l : List ℕ) (x : Six) → spoken l ≡ makes x → (Inside (asked x) → ⊥) → left R (l ∷ []) ≡ R
unfolding left line_leaves
leaves R l x e h = rw (e, store_says x h)

-- WHAT HOLDS OF ANY TRANSCRIPT
pub transcript_means : TranscriptMeans
transcript_means = record {
  each = each;
  gives = line_gives_lem;
  spelled = line_spelled;
  reads = line_reads;
  refusals = line_refused;
  no_call = no_call;
  made = λ R before l between x e i p f.
      omega (arith, store_has R before l between x e i, ap has ((line_refused (left R (before ++ (l ∷ between))) p).four.0 f).0);
  afresh = afresh;
  leaves = leaves;
}
