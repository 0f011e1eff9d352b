-- Parts: lines served one after another are printed as the transcript, from any position on.
use mathlib.Core.Path.{◌≡◌, refl, sym, ap, ◌∙◌}
use mathlib.Core.Bool.{true}
use mathlib.Core.List.{List, [], ◌∷◌, ◌++◌, append_assoc, append-nil}
use Prim.Native.Nat.{ℕ, zero, suc, ◌+◌, ◌≤◌, ◌<◌}
use native.Mathlib.Omega.{arith}
use borrow.Author.Tests.{ltb-true, lt-ltb, le-ltb}
use lib.Dec.{ltb, leb}
use lib.ListN.{length, get_or, drop}
use lib.Seq.{slice}
use Rattle.answer.proofs.Cases.{cases, either, lt?}
use Rattle.geometry.proofs.Made.{and_true}
use Rattle.script.specs.Lines.{lines_of}
use Rattle.script.specs.declared.parse.Parsed.{Parsed}
use Rattle.script.specs.ReplyText.{spelling_of, reply_text}
use Rattle.script.specs.Said.{said_at}
use Rattle.script.specs.Spoken.{Spoken, spoken_at, spoken}
use Rattle.script.proofs.Placed.{spoken_placed}
use Rattle.ledger.specs.Transcript.{Runner, line_says, line_text, printed, left}
use Rattle.ledger.proofs.LineSpelled.{line_spelled, spelled_alike}
use Rattle.ledger.proofs.Parts.{parts, parts_left}
use Rattle.serving.specs.Part.{Part, begun, longest, served_line, goes_on, served_most, served}
use Rattle.serving.specs.Transcribed.{and_then, parts_most, Ample, GetsOn}
use Rattle.serving.proofs.Onward.{gets_further}
use Rattle.serving.proofs.TranscriptLine.{Stands, line_says_lem, line_stands, line_ample}
use Rattle.serving.proofs.TranscriptLines.{end_at, line_met, ends_by}

-- from p to q some lines of the text were served, those at p's position, and R was the transcript's state at p
pub record Follows (text : List ℕ) (R : Runner) (p q : Part) : Type 0 where
  pub lines : List (List ℕ)
  pub met : lines_of (drop p.at text) ≡ lines ++ lines_of (drop q.at text)
  pub prints : q.replies ≡ p.replies ++ printed R lines
  pub stands : Stands (left R lines) q.session q.memory
  pub ample : Ample q.memory
  -- a text that ends in a line feed is not read past it
  pub by : (i : ℕ) → length text ≡ suc i → get_or text i 0 ≡ 10 → p.at ≤ length text → q.at ≤ length text

pub follows_none : (text : List ℕ) (R : Runner) (p : Part) → Stands R p.session p.memory → Ample p.memory → Follows text R p p
unfolding printed left
follows_none text R p h a = record {
  lines = [];
  met = refl;
  prints = sym (append-nil p.replies);
  stands = h;
  ample = a;
  by = λ i n e k. k;
}

pub follows_both : {text : List ℕ} {R : Runner} {p q r : Part} (F : Follows text R p q) → Follows text (left R F.lines) q r → Follows text R p r
follows_both {text} {R} {p} {q} {r} F G = record {
  lines = F.lines ++ G.lines;
  met = F.met ∙ ap (λ (ls : List (List ℕ)). F.lines ++ ls) G.met ∙ sym (append_assoc F.lines G.lines (lines_of (drop r.at text)));
  prints =
      G.prints ∙ ap (λ (t : List ℕ). t ++ printed (left R F.lines) G.lines) F.prints ∙
      append_assoc p.replies (printed R F.lines) (printed (left R F.lines) G.lines) ∙
      ap (λ (t : List ℕ). p.replies ++ t) (sym (parts R F.lines G.lines));
  stands = rw (parts_left R F.lines G.lines) G.stands;
  ample = G.ample;
  by = λ i n e k. G.by i n e (F.by i n e k);
}

-- ── a line ──

pub line_follows : (text : List ℕ) (R : Runner) (p : Part) → p.at < length text → Stands R p.session p.memory → Ample p.memory →
    Follows text R p (served_line text p)
unfolding served_line said_at printed left
line_follows text R p h st a =
    let l : List ℕ = slice p.at (end_at text p.at) text in
    let d : Parsed = (said_at text p.at).says in
    let c : Spoken = spoken_at text p.at d in
    let alone : c ≡ spoken l = spoken_placed text p.at in
    record {
      lines = l ∷ [];
      met = line_met text p.at h;
      prints =
          ap (λ r. p.replies ++ reply_text (spelling_of d) r) (line_says_lem R c p.session p.memory a st) ∙
          ap (λ k. p.replies ++ reply_text k (line_says R c)) (sym (spelled_alike text p.at d)) ∙
          ap (λ (t : List ℕ). p.replies ++ t)
          (sym (line_spelled R c) ∙ ap (λ (x : Spoken). line_text R x) alone ∙ sym (append-nil (line_text R (spoken l))));
      stands = rw (sym alone) (line_stands R c p.session p.memory a st);
      ample = line_ample c p.session p.memory a;
      by = λ i n e k. omega (arith, ends_by text p.at i (omega arith) e);
    }

-- ── a part ──

goes_on_lem : (text : List ℕ) (room : ℕ) (p : Part) → goes_on text room p ≡ true → p.at < length text
unfolding goes_on
goes_on_lem text room p e = ltb-true p.at (length text) (and_true (ltb p.at (length text)) (leb (length p.replies + longest) room) e).0

pub most_follows : (n : ℕ) (text : List ℕ) (room : ℕ) (R : Runner) (p : Part) → Stands R p.session p.memory → Ample p.memory →
    Follows text R p (served_most n text room p)
unfolding served_most
most_follows zero text room R p st a = follows_none text R p st a
most_follows (suc n) text room R p st a =
    cases (either (goes_on text room p))
    (λ y.
    let F = line_follows text R p (goes_on_lem text room p y) st a in
    rw y (follows_both F (most_follows n text room (left R F.lines) (served_line text p) F.stands F.ample)))
    (λ e. rw e (follows_none text R p st a))

pub served_follows : (text : List ℕ) (room : ℕ) (R : Runner) (p : Part) → Stands R p.session p.memory → Ample p.memory →
    Follows text R p (served text room p)
unfolding served
served_follows text room R p st a = most_follows (length text) text room R p st a

-- A PART GETS ON by at least one line
pub gets_on : GetsOn
gets_on text room at s M h k = gets_further text room (begun at s M) (served text room (begun at s M)).at refl k (omega (arith, h))

-- ── parts ──

joined_follows : (text : List ℕ) (R : Runner) (p q : Part) → Follows text R (begun p.at p.session p.memory) q → Follows text R p (and_then p q)
joined_follows text R p q F = record {
  lines = F.lines;
  met = F.met;
  prints = ap (λ (t : List ℕ). p.replies ++ t) F.prints;
  stands = F.stands;
  ample = F.ample;
  by = F.by;
}

-- the next part, behind p
abbrev next : List ℕ → ℕ → Part → Part
next text room p = and_then p (served text room (begun p.at p.session p.memory))

pub parts_follow : (n : ℕ) (text : List ℕ) (room : ℕ) (R : Runner) (p : Part) → Stands R p.session p.memory → Ample p.memory →
    Follows text R p (parts_most n text room p)
unfolding parts_most
parts_follow zero text room R p st a = follows_none text R p st a
parts_follow (suc n) text room R p st a =
    cases (either (ltb p.at (length text)))
    (λ y.
    let b : Part = begun p.at p.session p.memory in
    let F = joined_follows text R p (served text room b) (served_follows text room R b st a) in
    rw y (follows_both F (parts_follow n text room (left R F.lines) (next text room p) F.stands F.ample)))
    (λ e. rw e (follows_none text R p st a))

-- parts enough read the text
pub parts_read : (n : ℕ) (text : List ℕ) (room : ℕ) (p : Part) → longest ≤ room → length text ≤ p.at + n → length text ≤ (parts_most n text room p).at
unfolding parts_most
parts_read zero text room p h k = omega arith
parts_read (suc n) text room p h k =
    cases (lt? p.at (length text))
    (λ y.
    rw (lt-ltb p.at (length text) y)
    (parts_read n text room (next text room p) h (omega (arith, gets_on text room p.at p.session p.memory h y))))
    (λ e. rw (le-ltb p.at (length text) e) e)
