-- A USE FOR EACH STATEMENT about the runner's turns, by the statement's name. Each use needs the statement's full strength.
use mathlib.Core.Path.{◌≡◌, refl, sym, ap, ◌∙◌}
use mathlib.Core.Bool.{Bool, true, false, cond, true≢false}
use mathlib.Core.List.{List, [], ◌∷◌}
use Prim.Native.Nat.{ℕ, zero, suc, pred, ◌+◌, ◌-◌, ◌≤◌, ◌<◌}
use native.Mathlib.Omega.{arith}
use lib.ListN.{length, get_or, take, drop, length-drop}
use lib.Seq.{get_or-drop}
use borrow.Author.Tests.{lt-ltb, le-ltb}
use Rattle.answer.proofs.Cases.{cases, lt?}
use Rattle.model.specs.Memory.{Memory}
use Rattle.model.specs.SoundStore.{SoundStore}
use Rattle.script.specs.Lines.{NoFeed}
use Rattle.ledger.specs.Transcript.{most_read}
use Rattle.ledger.proofs.Computed.{bytes, prints}
use Rattle.session.specs.declared.Session.{Session}
use Rattle.serving.specs.declared.Served.{Served}
use Rattle.serving.specs.Part.{Part, begun, longest, Serves}
use Rattle.serving.specs.Transcribed.{and_then, parts_most, Ample}
use Rattle.serving.proofs.Onward.{gets_further}
use Rattle.runner.specs.declared.Answered.{Answered}
use Rattle.runner.specs.Turn.{whole_after, feed_end, next_part, buffer_most, failed, parts_served, Answers}
use Rattle.runner.specs.Printed.{turns, Reads}
use Rattle.runner.proofs.Feeds.{answered_at_once}
use Rattle.runner.proofs.PrintedProof.{turns_print, hands_replies}

-- ── WHAT IS PRINTED ──

-- `turns_print`: the second line has no line feed. Reads bring 10 bytes, which is no whole line, then 10 more, then none
abbrev script : List ℕ
script = bytes "store 1 4 2 4 8 10\nB"

in_two : Reads script 0 (10 ∷ 10 ∷ 0 ∷ [])
unfolding whole_after bytes
in_two = (
  omega arith,
  (
    omega arith,
    (
      λ z. absurd (omega (arith, z)),
      λ w. (
        omega arith,
        (omega arith, (λ z. absurd (omega (arith, z)), λ w. (omega arith, (omega arith, (λ z. refl, λ w. absurd (true≢false w)))))),
      ),
    ),
  ),
)

pub prints_two : (room : ℕ) (s : Session) (M : Memory) → longest ≤ room → s.made ≡ 0 → Ample M →
    (turns (take most_read script) room 0 (10 ∷ 10 ∷ 0 ∷ []) (begun 0 s M)).replies ≡ bytes "+\n+ 1\n"
unfolding prints
prints_two room s M h z a = turns_print script room (10 ∷ 10 ∷ 0 ∷ []) s M h in_two z a

-- however any input comes, into buffers of any length, and whatever stood in the memory, the same is printed
pub however_it_comes : (input : List ℕ) (room other : ℕ) (reads more : List ℕ) (s r : Session) (M N : Memory) →
    longest ≤ room → longest ≤ other →
    Reads input 0 reads → Reads input 0 more → s.made ≡ 0 → r.made ≡ 0 → Ample M → Ample N →
    (turns (take most_read input) room 0 reads (begun 0 s M)).replies ≡ (turns (take most_read input) other 0 more (begun 0 r N)).replies
however_it_comes input room other reads more s r M N h k x y e f a b =
    turns_print input room reads s M h x e a ∙ sym (turns_print input other more r N k y f b)

-- `hands_replies`: of what stood in the buffer before, nothing is handed to be written
pub hands_them : (q : Part) (buffer : List ℕ) (r : Served) (left : Memory) (after : List ℕ) →
    q.replies ≡ bytes "+ 1\n" → Serves q buffer r left after →
    take r.used after ≡ bytes "+ 1\n"
hands_them q buffer r left after e v = hands_replies q buffer r left after v ∙ e

-- ── WHICH BYTES ARE ANSWERED ──

feed_at : (l : List ℕ) → NoFeed l → (i : ℕ) → i < length l → get_or l i 0 ≡ 10 → ⊥
feed_at [] n i h e = omega arith
feed_at (b ∷ l) n zero h e = n.0 e
feed_at (b ∷ l) n (suc i) h e = feed_at l n.1 i (omega arith) e

feed_from : (text : List ℕ) (at i : ℕ) → NoFeed (drop at text) → at ≤ i → i < length text → get_or text i 0 ≡ 10 → ⊥
feed_from text at i n h k e =
    let same : at + (i - at) ≡ i = omega (arith, h) in
    feed_at (drop at text) n (i - at) (omega (arith, length-drop at text, k, h)) (get_or-drop at text (i - at) 0 ∙ ap (λ (j : ℕ). get_or text j 0) same ∙ e)

module _ (text : List ℕ) (from : ℕ) where
  -- `answered_at_once`: where the last byte that came is a line feed, all is answered
  pub all_at_once : from < length text → get_or text (pred (length text)) 0 ≡ 10 → feed_end text from (length text) ≡ length text
  all_at_once h e =
      cases (answered_at_once text from)
      (λ a. cases (lt? (feed_end text from (length text)) (length text))
      (λ k. absurd (feed_from text (feed_end text from (length text)) (pred (length text)) a.last (omega (arith, k)) (omega (arith, h)) e))
      (λ k. omega (arith, k, a.inside)))
      (λ a. absurd (feed_from text from (pred (length text)) a.came (omega (arith, h)) (omega (arith, h)) e))

  -- and where no line feed came, nothing is
  pub nothing_yet : NoFeed (drop from text) → feed_end text from (length text) ≡ 0
  nothing_yet n =
      cases (answered_at_once text from)
      (λ a. absurd (feed_from text from (pred (feed_end text from (length text))) n (omega (arith, a.new)) (omega (arith, a.new, a.inside)) a.feed))
      (λ a. a.none)

-- ── WHAT AN ANSWER LEAVES ──

no_part : (n room : ℕ) (p : Part) → parts_most n [] room p ≡ p
unfolding parts_most
no_part zero room p = refl
no_part (suc n) room p = rw (le-ltb p.at 0 (omega arith))

no_bytes : (n room : ℕ) (p : Part) (buffer : List ℕ) → buffer_most n [] room p buffer ≡ buffer
unfolding buffer_most
no_bytes zero room p buffer = refl
no_bytes (suc n) room p buffer = rw (le-ltb p.at 0 (omega arith))

-- parts of a text get to its end
to_end : (text : List ℕ) (room n : ℕ) (p : Part) → longest ≤ room → length text ≤ p.at + n → length text ≤ (parts_most n text room p).at
unfolding parts_most
to_end text room zero p h k = omega arith
to_end text room (suc n) p h k =
    cases (lt? p.at (length text))
    (λ y.
    let next = next_part text room p in
    let on : p.at < next.at = gets_further text room (begun p.at p.session p.memory) next.at refl y (omega (arith, h)) in
    rw (lt-ltb p.at (length text) y) (to_end text room n (and_then p next) h (omega (arith, on, k))))
    (λ y. rw (le-ltb p.at (length text) y) y)

module _ (buffer : List ℕ) (p : Part) (r : Answered) (left : Memory) (after : List ℕ) where
  -- `at`, `session`, `memory`, `replies`: the answer to no text changes nothing
  pub nothing_answered : Answers [] buffer p r left after → (r.at ≡ p.at) × (r.session ≡ p.session) × (left ≡ p.memory) × (after ≡ buffer)
  nothing_answered a =
      let many : ℕ = parts_served r a.written in
      let same : parts_most many [] (length buffer) p ≡ p = no_part many (length buffer) p in (
        a.at ∙ ap (λ (q : Part). q.at) (no_part a.written (length buffer) p),
        a.session ∙ ap (λ (q : Part). q.session) same,
        a.memory ∙ ap (λ (q : Part). q.memory) same,
        a.replies ∙ no_bytes many (length buffer) p buffer,
      )

  module _ (text : List ℕ) (a : Answers text buffer p r left after) where
    -- `all`: where no write failed the text is read to its end
    pub answered_all : longest ≤ length buffer → failed r ≡ false → length text ≤ r.at
    answered_all h f =
        omega (arith, a.at, ap (λ (n : ℕ). (parts_most n text (length buffer) p).at) (a.all f), to_end text (length buffer) (length text) p h (omega arith))

    -- `few`: where one failed, the memory is one part ahead of the position, and these are no more parts than bytes
    pub one_ahead : failed r ≡ true → (n : ℕ) × (n ≤ length text) × (r.at ≡ (parts_most n text (length buffer) p).at) ×
        (left ≡ (parts_most (suc n) text (length buffer) p).memory)
    one_ahead f = (
      a.written,
      a.few,
      a.at,
      a.memory ∙ ap (λ (b : Bool). (parts_most (cond b (suc a.written) a.written) text (length buffer) p).memory) f,
    )

    -- `kept`: what is left is sound, if a store was made
    pub left_sound : 0 < r.session.made → SoundStore r.session.g left.tables left.log
    left_sound h = a.kept.sound h
