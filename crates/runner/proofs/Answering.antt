-- What the loop over parts keeps: the parts served so far are the first of the text's.
use mathlib.Core.Path.{◌≡◌, refl, sym, ap, ◌∙◌}
use mathlib.Core.Bool.{Bool, true, false, cond, true≢false}
use mathlib.Core.List.{List}
use Prim.Native.Nat.{ℕ, zero, suc, ◌≤◌, ◌<◌}
use native.Mathlib.Omega.{arith}
use lib.ListN.{length}
use borrow.Author.Tests.{lt-ltb, le-ltb}
use Rattle.answer.proofs.Cases.{cases, lt?}
use Rattle.alloc_log.specs.Word.{write_at}
use Rattle.model.specs.Memory.{Memory, lent}
use Rattle.session.specs.declared.Session.{Session}
use Rattle.session.specs.Step.{Kept}
use Rattle.serving.specs.declared.Served.{Served}
use Rattle.serving.specs.Part.{Part, begun, longest, served, Serves}
use Rattle.serving.specs.Transcribed.{and_then, parts_most}
use Rattle.serving.proofs.Onward.{gets_further}
use Rattle.runner.specs.declared.Answered.{Answered}
use Rattle.runner.specs.Turn.{next_part, buffer_most, failed, parts_served, Answers}

-- ── parts of a text ──

module _ (text : List ℕ) (room : ℕ) where
  -- p and the part after it
  abbrev next : Part → Part
  next p = and_then p (next_part text room p)

  -- one part more, after k
  one_more_lem : (k : ℕ) (p : Part) → (parts_most k text room p).at < length text → parts_most (suc k) text room p ≡ next (parts_most k text room p)
  unfolding parts_most
  one_more_lem zero p h = rw (lt-ltb p.at (length text) h)
  one_more_lem (suc k) p h =
      cases (lt? p.at (length text))
      (λ y. let e = lt-ltb p.at (length text) y in rw e (one_more_lem k (next p) (rw e at h)))
      (λ y. let e = le-ltb p.at (length text) y in let z : p.at < length text = rw e at h in absurd (let w : ⊥ = omega arith in w))

  buffer_more : (k : ℕ) (p : Part) (buffer : List ℕ) → (parts_most k text room p).at < length text
      → buffer_most (suc k) text room p buffer ≡ write_at (buffer_most k text room p buffer) 0 (next_part text room (parts_most k text room p)).replies
  unfolding parts_most buffer_most
  buffer_more zero p buffer h = rw (lt-ltb p.at (length text) h)
  buffer_more (suc k) p buffer h =
      cases (lt? p.at (length text))
      (λ y. let e = lt-ltb p.at (length text) y in rw e (buffer_more k (next p) (write_at buffer 0 (next_part text room p).replies) (rw e at h)))
      (λ y. let e = le-ltb p.at (length text) y in let z : p.at < length text = rw e at h in absurd (let w : ⊥ = omega arith in w))

  -- no part follows once the text is read
  no_more : (k j : ℕ) (p : Part) → k ≤ j → length text ≤ (parts_most k text room p).at → parts_most k text room p ≡ parts_most j text room p
  unfolding parts_most
  no_more zero zero p l h = refl
  no_more zero (suc j) p l h = rw (le-ltb p.at (length text) h)
  no_more (suc k) zero p l h = absurd (let z : ⊥ = omega arith in z)
  no_more (suc k) (suc j) p l h =
      cases (lt? p.at (length text))
      (λ y. let e = lt-ltb p.at (length text) y in rw e (no_more k j (next p) (omega arith) (rw e at h)))
      (λ y. rw (le-ltb p.at (length text) y))

  buffer_stays : (k j : ℕ) (p : Part) (buffer : List ℕ) → k ≤ j → length text ≤ (parts_most k text room p).at
      → buffer_most k text room p buffer ≡ buffer_most j text room p buffer
  unfolding parts_most buffer_most
  buffer_stays zero zero p buffer l h = refl
  buffer_stays zero (suc j) p buffer l h = rw (le-ltb p.at (length text) h)
  buffer_stays (suc k) zero p buffer l h = absurd (let z : ⊥ = omega arith in z)
  buffer_stays (suc k) (suc j) p buffer l h =
      cases (lt? p.at (length text))
      (λ y.
      let e = lt-ltb p.at (length text) y in
      rw e (buffer_stays k j (next p) (write_at buffer 0 (next_part text room p).replies) (omega arith) (rw e at h)))
      (λ y. rw (le-ltb p.at (length text) y))

begun_as : {a b : ℕ} {s r : Session} {M N : Memory} → a ≡ b → s ≡ r → M ≡ N → begun a s M ≡ begun b r N
begun_as x y z = cc

-- ── the loop ──

module _ (text : List ℕ) (p : Part) (t₀ bytes₀ numbers₀ buffer : List ℕ) where
  -- k parts were served, and each got on by a byte or more
  pub record Standing (k : ℕ) (s : Session) (t bytes numbers replies : List ℕ) (at : ℕ) : Type 0 where
    pub tables : length t ≡ length t₀
    pub log : length bytes ≡ length bytes₀
    pub out : length numbers ≡ length numbers₀
    pub same : length replies ≡ length buffer
    pub by : k ≤ at
    pub place : at ≡ (parts_most k text (length buffer) p).at
    pub session : s ≡ (parts_most k text (length buffer) p).session
    pub memory : lent t bytes numbers ≡ (parts_most k text (length buffer) p).memory
    pub replied : replies ≡ buffer_most k text (length buffer) p buffer
    pub kept : Kept s t bytes numbers

  pub record Answering (s : Session) (t bytes numbers replies : List ℕ) (at : ℕ) : Type 0 where
    pub parts : ℕ
    pub few : parts ≤ length text
    pub stands : Standing parts s t bytes numbers replies at

  module _ (k : ℕ) (s : Session) (t bytes numbers replies : List ℕ) (at : ℕ) (i : Standing k s t bytes numbers replies at) where
    abbrev q : Part
    q = parts_most k text (length buffer) p

    -- so many parts were written, and one more was served if its replies could not be
    gives : (r : Answered) (written : ℕ) (f : Bool) → failed r ≡ f → written ≤ length text → (f ≡ false → written ≡ length text)
        → r.at ≡ (parts_most written text (length buffer) p).at → r.session ≡ s
        → q ≡ parts_most (cond f (suc written) written) text (length buffer) p
        → buffer_most k text (length buffer) p buffer ≡ buffer_most (cond f (suc written) written) text (length buffer) p buffer
        → Answers text buffer p r (lent t bytes numbers) replies
    gives r written f e few all at-is session-is part_is buffer-is =
        let n : cond f (suc written) written ≡ parts_served r written = ap (λ (b : Bool). cond b (suc written) written) (sym e) in
        let w : q ≡ parts_most (parts_served r written) text (length buffer) p =
        part_is ∙ ap (λ (j : ℕ). parts_most j text (length buffer) p) n in
        record {
          written = written;
          few = few;
          all = λ z. all (sym e ∙ z);
          at = at-is;
          session = session-is ∙ i.session ∙ ap (λ (x : Part). x.session) w;
          memory = i.memory ∙ ap (λ (x : Part). x.memory) w;
          replies = i.replied ∙ buffer-is ∙ ap (λ (j : ℕ). buffer_most j text (length buffer) p buffer) n;
          kept = rw session-is i.kept;
        }

    -- the part that is served now
    abbrev part : Part
    part = served text (length replies) (begun at s (lent t bytes numbers))

    part_is : part ≡ next_part text (length buffer) q
    part_is =
        ap (λ (n : ℕ). served text n (begun at s (lent t bytes numbers))) i.same
        ∙ ap (served text (length buffer)) (begun_as i.place i.session i.memory)

    -- one part more
    one_part : (r : Served) (t' bytes' numbers' replies' : List ℕ) → Serves part replies r (lent t' bytes' numbers') replies'
        → at < length text → longest ≤ length buffer → length t' ≡ length t → length bytes' ≡ length bytes → length numbers' ≡ length numbers
        → length replies' ≡ length replies → Standing (suc k) r.session t' bytes' numbers' replies' r.at
    one_part r t' bytes' numbers' replies' v h long et el eo er =
        let here : q.at < length text = omega (arith, i.place) in
        let more : parts_most (suc k) text (length buffer) p ≡ and_then q (next_part text (length buffer) q) = one_more_lem text (length buffer) k p here in
        let on : at < r.at = gets_further text (length replies) (begun at s (lent t bytes numbers)) r.at v.at h (omega (arith, i.same)) in
        record {
          tables = et ∙ i.tables;
          log = el ∙ i.log;
          out = eo ∙ i.out;
          same = er ∙ i.same;
          by = omega (arith, i.by);
          place = v.at ∙ ap (λ (x : Part). x.at) part_is ∙ sym (ap (λ (x : Part). x.at) more);
          session = v.session ∙ ap (λ (x : Part). x.session) part_is ∙ sym (ap (λ (x : Part). x.session) more);
          memory = v.memory ∙ ap (λ (x : Part). x.memory) part_is ∙ sym (ap (λ (x : Part). x.memory) more);
          replied =
              v.replies ∙ ap (λ (x : Part). write_at replies 0 x.replies) part_is
              ∙ ap (λ (b : List ℕ). write_at b 0 (next_part text (length buffer) q).replies) i.replied
              ∙ sym (buffer_more text (length buffer) k p buffer here);
          kept = v.kept;
        }

    -- the text is read: no part follows
    ends : (r : Answered) (f : Bool) → failed r ≡ f → k ≤ length text → length text ≤ at → r.at ≡ at → r.session ≡ s
        → Answers text buffer p r (lent t bytes numbers) replies
    ends r true e l h a b =
        let z : length text ≤ q.at = omega (arith, i.place) in
        gives r k true e l (λ y. absurd (true≢false y)) (a ∙ i.place) b
        (no_more text (length buffer) k (suc k) p (omega arith) z) (buffer_stays text (length buffer) k (suc k) p buffer (omega arith) z)
    ends r false e l h a b =
        let z : length text ≤ q.at = omega (arith, i.place) in
        let w = no_more text (length buffer) k (length text) p l z in
        gives r (length text) false e (omega arith) (λ y. refl) (a ∙ i.place ∙ ap (λ (x : Part). x.at) w) b
        w (buffer_stays text (length buffer) k (length text) p buffer l z)

  module _ (s : Session) (t bytes numbers replies : List ℕ) (at : ℕ) (i : Answering s t bytes numbers replies at) where
    pub at_end : (r : Answered) → r.at ≡ at → r.session ≡ s → length text ≤ at → Answers text buffer p r (lent t bytes numbers) replies
    at_end r a b h = ends i.parts s t bytes numbers replies at i.stands r (failed r) refl i.few h a b

    -- a part was served
    module _ (w : Served) (t' bytes' numbers' replies' : List ℕ)
        (v : Serves (served text (length replies) (begun at s (lent t bytes numbers))) replies w (lent t' bytes' numbers') replies')
        (h : at < length text) (long : longest ≤ length buffer) (et : length t' ≡ length t) (el : length bytes' ≡ length bytes)
        (eo : length numbers' ≡ length numbers) (er : length replies' ≡ length replies) where
      stood : Standing (suc i.parts) w.session t' bytes' numbers' replies' w.at
      stood = one_part i.parts s t bytes numbers replies at i.stands w t' bytes' numbers' replies' v h long et el eo er

      pub goes_on_lem : Answering w.session t' bytes' numbers' replies' w.at
      goes_on_lem = record { parts = suc i.parts; few = omega (arith, i.stands.by); stands = stood }

      -- its replies could not be written
      pub at_failure : (r : Answered) → r.at ≡ at → r.session ≡ w.session → failed r ≡ true → Answers text buffer p r (lent t' bytes' numbers') replies'
      at_failure r a b f =
          gives (suc i.parts) w.session t' bytes' numbers' replies' w.at stood r i.parts true f i.few (λ y. absurd (true≢false y))
          (a ∙ i.stands.place) b refl refl

  -- before the first part
  pub begins : (at : ℕ) (s : Session) → p ≡ begun at s (lent t₀ bytes₀ numbers₀) → Kept s t₀ bytes₀ numbers₀ → Answering s t₀ bytes₀ numbers₀ buffer at
  unfolding parts_most buffer_most
  begins at s e k =
      let stands : Standing 0 s t₀ bytes₀ numbers₀ buffer at = record {
        tables = refl;
        log = refl;
        out = refl;
        same = refl;
        by = omega arith;
        place = sym (ap (λ (x : Part). x.at) e);
        session = sym (ap (λ (x : Part). x.session) e);
        memory = sym (ap (λ (x : Part). x.memory) e);
        replied = refl;
        kept = k;
      } in
      record { parts = 0; few = omega arith; stands = stands }
