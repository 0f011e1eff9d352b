-- The turns print the transcript, and what is handed to be written are the parts' replies.
use mathlib.Core.Path.{◌≡◌, refl, sym, ap, ◌∙◌}
use mathlib.Core.Bool.{Bool, true, false, cond}
use mathlib.Core.Logic.{◌⊎◌, inl, inr}
use mathlib.Core.List.{List, [], ◌∷◌}
use Prim.Native.Nat.{ℕ, pred, ◌+◌, ◌-◌, ◌≤◌, ◌<◌}
use native.Mathlib.Omega.{arith}
use lib.Dec.{eqb}
use lib.ListN.{length, get_or, take, length-take}
use lib.Seq.{length-take-le, take-take, get_or-take}
use borrow.Author.Tests.{eqb-true}
use Rattle.answer.proofs.Cases.{cases, either}
use Rattle.alloc_log.specs.Word.{write_at}
use Rattle.serving.specs.Part.{Part, begun}
use Rattle.serving.specs.Transcribed.{parts_most, looked, Ends}
use Rattle.serving.proofs.Serving.{taken}
use Rattle.serving.proofs.TranscriptProof.{runner_prints}
use Rattle.ledger.specs.Transcript.{most_read}
use Rattle.runner.specs.Turn.{whole_after, feed_end, part_end}
use Rattle.runner.specs.Printed.{turned, turns, Reads, TurnsPrint, HandsReplies}
use Rattle.runner.proofs.Feeds.{part_inside, answered_at_once}

from_none : (n : ℕ) → n ≡ 0 + n
from_none n = omega arith

pub hands_replies : HandsReplies
hands_replies q buffer r left after v =
    ap (λ (l : List ℕ). take r.used l) v.replies
    ∙ ap (λ (n : ℕ). take n (write_at buffer 0 q.replies)) (v.used ∙ from_none (length q.replies))
    ∙ taken buffer q.replies 0 (omega arith)

-- ── the turns are looks at the text ──

module _ (text : List ℕ) (room n more : ℕ) (here : n + more ≤ length text) where
  there : length (take (n + more) text) ≡ n + more
  there = length-take-le (n + more) text here

  whole_is : whole_after (length (take (n + more) text) - n) (length (take (n + more) text)) ≡ whole_after more (n + more)
  whole_is =
      let e : n + more - n ≡ more = omega arith in
      rw (there, e)

  -- up to where the text is answered in this turn
  abbrev upto : ℕ
  upto = part_end (take (n + more) text) n (whole_after more (n + more))

  upto_inside : upto ≤ n + more
  upto_inside = omega (arith, part_inside (take (n + more) text) n (whole_after more (n + more)), there)

  pub turned_is : (p : Part) → turned text room n more p ≡ parts_most upto (take upto text) room p
  unfolding turned
  turned_is p =
      let i = upto_inside in
      let t : take upto (take (n + more) text) ≡ take upto text = take-take upto (n + more) text i in
      let l : length (take upto text) ≡ upto = length-take-le upto text (omega arith) in
      rw (whole_is, t, l) refl

  -- a turn that leaves the script not whole ends after a line feed that is new, or answers nothing
  not_whole : whole_after more (n + more) ≡ false → ((n < upto) × (get_or text (pred upto) 0 ≡ 10)) ⊎ (upto ≡ 0)
  unfolding part_end
  not_whole w =
      let now : List ℕ = take (n + more) text in
      let e : ℕ = feed_end now n (length now) in
      cases (answered_at_once now n)
      (λ a. inl (rw w (a.new, sym (get_or-take (n + more) text (pred e) 0 (omega (arith, a.new, a.inside, there))) ∙ a.feed)))
      (λ a. inr (rw w a.none))

  is_whole : whole_after more (n + more) ≡ true → upto ≡ n + more
  unfolding part_end
  is_whole w = rw w there

-- ── reads ──

-- the text that is read
abbrev script_of : List ℕ → List ℕ
script_of input = take most_read input

script_long : (input : List ℕ) (k : ℕ) → k ≤ length input → k ≤ most_read → k ≤ length (script_of input)
script_long input k h m = rw (length-take most_read input) (omega arith)

script_all : (input : List ℕ) (k : ℕ) → k ≤ length input → k ≤ most_read → (k ≡ length input) ⊎ (k ≡ most_read) → k ≡ length (script_of input)
script_all input k h m c =
    cases c (λ e. rw (length-take most_read input) (omega arith)) (λ e. rw (length-take most_read input) (omega arith))

whole_when : (input : List ℕ) (n more : ℕ) → whole_after more (n + more) ≡ true → n + more ≤ length input → n + more ≤ most_read →
    (more ≡ 0 → n ≡ length input) → n + more ≡ length (script_of input)
unfolding whole_after
whole_when input n more w h k z =
    cases (either (eqb more 0))
    (λ e. script_all input (n + more) h k (inl (omega (arith, eqb-true more 0 e, z (eqb-true more 0 e)))))
    (λ e. script_all input (n + more) h k (inr (eqb-true (n + more) most_read (rw e at w))))

-- the turns of some reads, as looks at the text
record Looks (text : List ℕ) (room n from : ℕ) (reads : List ℕ) : Type 0 where
  ends : List ℕ
  right : Ends text from ends
  same : (p : Part) → turns text room n reads p ≡ looked text room ends p

module _ (input : List ℕ) (room : ℕ) where
  abbrev text : List ℕ
  text = script_of input

  -- a turn that leaves the script not whole is followed by the others
  goes_on_lem : (n more : ℕ) (reads : List ℕ) → whole_after more (n + more) ≡ false → (q : Part) →
      cond (whole_after more (n + more)) q (turns (script_of input) room (n + more) reads q) ≡ turns (script_of input) room (n + more) reads q
  goes_on_lem n more reads w q = ap (λ (b : Bool). cond b q (turns (script_of input) room (n + more) reads q)) w

  -- a turn that leaves it whole is the last
  ends : (n more : ℕ) (reads : List ℕ) → whole_after more (n + more) ≡ true → (q : Part) →
      cond (whole_after more (n + more)) q (turns (script_of input) room (n + more) reads q) ≡ q
  ends n more reads w q = ap (λ (b : Bool). cond b q (turns (script_of input) room (n + more) reads q)) w

  -- a turn that answers nothing
  no_look : (n more from : ℕ) (reads : List ℕ) (here : n + more ≤ length (script_of input)) → whole_after more (n + more) ≡ false →
      upto (script_of input) room n more here ≡ 0 → Looks (script_of input) room (n + more) from reads → Looks (script_of input) room n from (more ∷ reads)
  unfolding turns parts_most
  no_look n more from reads here w z l = record {
    ends = l.ends;
    right = l.right;
    same = λ p.
        let t : turned text room n more p ≡ p =
        turned_is text room n more here p ∙ ap (λ (e : ℕ). parts_most e (take e text) room p) z in
        goes_on_lem n more reads w (turned text room n more p) ∙ ap (turns text room (n + more) reads) t ∙ l.same p;
  }

  the_looks : (reads : List ℕ) (n from : ℕ) → from ≤ n → Reads input n reads → Looks (script_of input) room n from reads
  unfolding turns looked
  the_looks [] n from h r = absurd r
  the_looks (more ∷ reads) n from h (m, (l, (z, on))) =
      let here : n + more ≤ length text = script_long input (n + more) l m in
      let u : ℕ = upto text room n more here in
      cases (either (whole_after more (n + more)))
      (λ w.
      let e : u ≡ n + more = is_whole text room n more here w in
      let a : n + more ≡ length text = whole_when input n more w l m z in
      record {
        ends = u ∷ [];
        right = (omega arith, (omega arith, (inr (inr (e ∙ a)), e ∙ a)));
        same = λ p. ends n more reads w (turned text room n more p) ∙ turned_is text room n more here p;
      })
      (λ w. cases (not_whole text room n more here w)
      (λ f.
      let next : Looks text room (n + more) u reads = the_looks reads (n + more) u (upto_inside text room n more here) (on w) in
      record {
        ends = u ∷ next.ends;
        right = (omega (arith, f.0), (omega (arith, upto_inside text room n more here), (inr (inl f.1), next.right)));
        same = λ p.
            goes_on_lem n more reads w (turned text room n more p)
            ∙ ap (turns text room (n + more) reads) (turned_is text room n more here p) ∙ next.same (parts_most u (take u text) room p);
      })
      (λ f. no_look n more from reads here w f (the_looks reads (n + more) from (omega arith) (on w))))

-- THE TURNS PRINT THE TRANSCRIPT
pub turns_print : TurnsPrint
turns_print input room reads s M h r n a =
    let l = the_looks input room reads 0 0 (omega arith) r in
    ap (λ (p : Part). p.replies) (l.same (begun 0 s M)) ∙ runner_prints input room l.ends s M h l.right n a
