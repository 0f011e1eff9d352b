-- THE PARTS ARE THE TRANSCRIPT, whatever the buffer's length and however the text arrives.
use mathlib.Core.Path.{◌≡◌, refl, sym, ap, ◌∙◌}
use mathlib.Core.Logic.{◌⊎◌, inl, inr}
use mathlib.Core.List.{List, [], ◌∷◌, ◌++◌, append-nil}
use Prim.Native.Nat.{ℕ, suc, pred, ◌≤◌}
use native.Mathlib.Omega.{arith}
use lib.ListN.{length, get_or, take, drop, drop_of_length-le, take-append-drop}
use lib.Seq.{take-length, take-take, length-take-le, get_or-take}
use Rattle.answer.proofs.Cases.{cases, same?, pos}
use Rattle.script.specs.Lines.{lines_of}
use Rattle.ledger.specs.Transcript.{Runner, most_read, without_store, printed, left, lines_read, transcript}
use Rattle.ledger.proofs.Parts.{parts, parts_left}
use Rattle.serving.specs.Part.{Part, begun, longest}
use Rattle.serving.specs.Transcribed.{parts_most, looked, Ends, Ample, Transcribed, RunnerPrints}
use Rattle.serving.proofs.TranscriptLine.{Stands}
use Rattle.serving.proofs.TranscriptLines.{lines_cut}
use Rattle.serving.proofs.TranscriptParts.{Follows, parts_follow, parts_read}

-- parts enough serve every line from a position on
pub all_served : {text : List ℕ} {R : Runner} {p q : Part} (F : Follows text R p q) → length text ≤ q.at → lines_of (drop p.at text) ≡ F.lines
unfolding lines_of
all_served {text} {R} {p} {q} F h =
    F.met ∙ ap (λ (l : List ℕ). F.lines ++ lines_of l) (drop_of_length-le text {i = q.at} h) ∙ append-nil F.lines

-- a position at the start, or behind a line feed
abbrev Cut : List ℕ → ℕ → Type 0
Cut text at = (at ≡ 0) ⊎ ((i : ℕ) × ((at ≡ suc i) × (get_or text i 0 ≡ 10)))

-- of a text the first `from` bytes were served
record Upto (text : List ℕ) (from : ℕ) (p : Part) : Type 0 where
  prints : p.replies ≡ printed without_store (lines_of (take from text))
  stands : Stands (left without_store (lines_of (take from text))) p.session p.memory
  ample : Ample p.memory
  place : ((p.at ≡ from) × Cut text from) ⊎ ((from ≡ length text) × (length text ≤ p.at))

-- ── the text is looked at once more ──

module _ (text : List ℕ) (from e : ℕ) (p : Part) (U : Upto text from p) (on : from ≤ e) (here : e ≤ length text) where
  there : length (take e text) ≡ e
  there = length-take-le e text here

  -- the lines of what is there now: those served, and those from p's position on
  met : lines_of (take e text) ≡ lines_of (take from text) ++ lines_of (drop p.at (take e text))
  unfolding lines_of
  met =
      cases U.place
      (λ k. cases k.1
      (λ z. let y : p.at ≡ 0 = k.0 ∙ z in rw (z, y))
      (λ w. let (i, (s, f)) = w in rw k.0 (cut i s f)))
      (λ k.
      let same : e ≡ from = omega (arith, k.0) in
      rw (drop_of_length-le (take e text) {i = p.at} (omega (arith, there, k.1)), same) (sym (append-nil (lines_of (take from text)))))
    where
      cut : (i : ℕ) → from ≡ suc i → get_or text i 0 ≡ 10 → lines_of (take e text) ≡ lines_of (take from text) ++ lines_of (drop from (take e text))
      cut i s f =
          let t : List ℕ = take from text in
          ap lines_of (sym (take-append-drop from (take e text)) ∙ ap (λ (l : List ℕ). l ++ drop from (take e text)) (take-take from e text on)) ∙
          lines_cut t (drop from (take e text)) i (length-take-le from text (omega arith) ∙ s) (get_or-take from text i 0 (omega arith) ∙ f)

  module _ (room : ℕ) (long : longest ≤ room) where
    abbrev q : Part
    q = parts_most e (take e text) room p

    follows : Follows (take e text) (left without_store (lines_of (take from text))) p (parts_most e (take e text) room p)
    follows = parts_follow e (take e text) room (left without_store (lines_of (take from text))) p U.stands U.ample

    read : length (take e text) ≤ (parts_most e (take e text) room p).at
    read = parts_read e (take e text) room p long (omega (arith, there))

    lines : lines_of (take e text) ≡ lines_of (take from text) ++ follows.lines
    lines = met ∙ ap (λ (ls : List (List ℕ)). lines_of (take from text) ++ ls) (all_served follows read)

    -- nothing is there yet
    nothing : e ≡ 0 → q.at ≡ p.at
    unfolding parts_most
    nothing z = rw z

    placed : ((e ≡ 0) ⊎ ((get_or text (pred e) 0 ≡ 10) ⊎ (e ≡ length text))) → ((q.at ≡ e) × Cut text e) ⊎ ((e ≡ length text) × (length text ≤ q.at))
    placed h =
        cases U.place
        (λ k. cases (same? e 0)
        (λ z. inl (omega (arith, nothing z, k.0), inl z))
        (λ z. cases h
        (λ w. absurd (z w))
        (λ w. cases w
        (λ f. let (i, s) = pos e (omega arith) in feed i s k.0 (ap (λ (j : ℕ). get_or text j 0) (pred_is i s) ∙ f))
        whole)))
        (λ k. whole (omega (arith, k.0)))
      where
        whole : e ≡ length text → ((q.at ≡ e) × Cut text e) ⊎ ((e ≡ length text) × (length text ≤ q.at))
        whole w = inr (w, omega (arith, read, there))

        pred_is : (i : ℕ) → e ≡ suc i → i ≡ pred e
        pred_is i s = omega arith

        feed : (i : ℕ) → e ≡ suc i → p.at ≡ from → get_or text i 0 ≡ 10 → ((q.at ≡ e) × Cut text e) ⊎ ((e ≡ length text) × (length text ≤ q.at))
        feed i s a f =
            let b = follows.by i (there ∙ s) (get_or-take e text i 0 (omega arith) ∙ f) (omega (arith, there)) in
            inl (omega (arith, b, read, there), inr (i, (s, f)))

    more : ((e ≡ 0) ⊎ ((get_or text (pred e) 0 ≡ 10) ⊎ (e ≡ length text))) → Upto text e q
    more h = record {
      prints = follows.prints ∙ ap (λ (t : List ℕ). t ++ printed (left without_store (lines_of (take from text))) follows.lines) U.prints ∙
          sym (parts without_store (lines_of (take from text)) follows.lines) ∙ ap (printed without_store) (sym lines);
      stands = rw (lines, parts_left without_store (lines_of (take from text)) follows.lines) follows.stands;
      ample = follows.ample;
      place = placed h;
    }

looked_upto : (text : List ℕ) (room : ℕ) → longest ≤ room → (ends : List ℕ) (from : ℕ) (p : Part) → Upto text from p → Ends text from ends →
    Upto text (length text) (looked text room ends p)
unfolding looked
looked_upto text room h [] from p U e = rw e at U
looked_upto text room h (e ∷ es) from p U w =
    looked_upto text room h es e (parts_most e (take e text) room p) (more text from e p U w.0 w.1.0 room h w.1.1.0) w.1.1.1

-- THE PARTS ARE THE TRANSCRIPT
pub transcribed : Transcribed
unfolding lines_of printed left
transcribed text room ends s M h e n a =
    let U : Upto text 0 (begun 0 s M) = record { prints = refl; stands = n; ample = a; place = inl (refl, inl refl) } in
    (looked_upto text room h ends 0 (begun 0 s M) U e).prints ∙ ap (λ (t : List ℕ). printed without_store (lines_of t)) (take-length text)

-- THE RUNNER PRINTS THE TRANSCRIPT
pub runner_prints : RunnerPrints
unfolding transcript lines_read
runner_prints input room ends s M h e n a = transcribed (take most_read input) room ends s M h e n a
