-- What the loop over a part's lines keeps: what is left of the part is the whole of it, and the replies so far stand in the buffer.
use mathlib.Core.Path.{◌≡◌, refl, sym, ap, ◌∙◌}
use mathlib.Core.Bool.{Bool, true, false, cond, ◌&&◌}
use mathlib.Core.List.{List, ◌++◌, append_assoc}
use Prim.Native.Nat.{ℕ, zero, suc, ◌+◌, ◌-◌, ◌≤◌, ◌<◌}
use native.Mathlib.Omega.{arith}
use lib.Dec.{ltb}
use lib.ListN.{length, take, drop, length-append}
use lib.Seq.{length-take-le, take_at}
use borrow.Author.Tests.{lt-ltb, le-ltb, le-leb, lt-leb}
use Rattle.std.specs.Prelude.{Result, Ok, Err}
use Rattle.answer.specs.declared.Refusal.{Refusal}
use Rattle.answer.specs.Reply.{reply_of}
use Rattle.geometry.specs.Limits.{most_tables, most_log, most_out}
use Rattle.alloc_log.specs.Word.{write_at}
use Rattle.alloc_log.proofs.Writing.{write_none, write_write}
use Rattle.model.specs.Memory.{Memory, lent}
use Rattle.model.specs.declared.Spelling.{Spelling}
use Rattle.script.specs.ReplyText.{spelling_of, by_number, numbered_reply, reply_text, Room}
use Rattle.script.specs.Said.{said_at, NameIn}
use Rattle.script.specs.Spoken.{Spoken, spoken_at}
use Rattle.script.specs.declared.parse.Parsed.{Parsed}
use Rattle.script.specs.declared.parse.Parsed.TheVariants.{Store, Asks, Named}
use Rattle.script.specs.declared.said.Said.{Said}
use Rattle.session.specs.declared.Session.{Session}
use Rattle.session.specs.declared.Stepped.{Stepped}
use Rattle.session.specs.Step.{step_reply, step_memory, step_session, Kept, Few}
use Rattle.serving.specs.Part.{Part, begun, longest, served_line, goes_on, served_most, served, Serves}

-- ── lines of a part ──

-- a line is followed by a later one
pub gets_on : (text : List ℕ) (p : Part) → p.at < (served_line text p).at
unfolding served_line said_at
gets_on text p = omega arith

and_no : (b c : Bool) → c ≡ false → (b && c) ≡ false
and_no true c e = e
and_no false c e = refl

pub stops : (n : ℕ) (text : List ℕ) (room : ℕ) (p : Part) → goes_on text room p ≡ false → served_most n text room p ≡ p
unfolding served_most
stops zero text room p e = refl
stops (suc n) text room p e = rw e

-- the text is read
pub read : (text : List ℕ) (room : ℕ) (p : Part) → length text ≤ p.at → goes_on text room p ≡ false
unfolding goes_on
read text room p h = rw (le-ltb p.at (length text) h)

-- no longest reply fits
pub full : (text : List ℕ) (room : ℕ) (p : Part) → room < length p.replies + longest → goes_on text room p ≡ false
unfolding goes_on
full text room p h = and_no (ltb p.at (length text)) _ (lt-leb (length p.replies + longest) room h)

pub goes : (text : List ℕ) (room : ℕ) (p : Part) → p.at < length text → length p.replies + longest ≤ room → goes_on text room p ≡ true
unfolding goes_on
goes text room p h k = rw (lt-ltb p.at (length text) h, le-leb (length p.replies + longest) room k)

-- more lines than there are bytes left change nothing
pub enough : (k j : ℕ) (text : List ℕ) (room : ℕ) (p : Part) → length text ≤ p.at + k → k ≤ j → served_most j text room p ≡ served_most k text room p
unfolding served_most
enough zero j text room p h l = stops j text room p (read text room p (omega arith))
enough (suc k) zero text room p h l = absurd (let z : ⊥ = omega arith in z)
enough (suc k) (suc j) text room p h l =
    ap (λ (q : Part). cond (goes_on text room p) q p) (enough k j text room (served_line text p) (omega (arith, gets_on text p)) (omega arith))

-- one line more
pub one_more_lem : (k n : ℕ) (text : List ℕ) (room : ℕ) (p : Part) → goes_on text room p ≡ true → p.at < length text
    → k ≡ length text - (served_line text p).at → n ≡ length text - p.at → served_most k text room (served_line text p) ≡ served_most n text room p
unfolding served_most
one_more_lem k zero text room p e h a b = absurd (let z : ⊥ = omega arith in z)
one_more_lem k (suc n) text room p e h a b =
    let g = gets_on text p in
    sym (enough k n text room (served_line text p) (omega arith) (omega arith)) ∙ rw e

-- before there is a store, any memory that is long enough will do
pub no_store_kept : (s : Session) (t bytes numbers : List ℕ) → s.made ≡ 0 → most_tables ≤ length t → most_log ≤ length bytes → most_out ≤ length numbers
    → Kept s t bytes numbers
no_store_kept s t bytes numbers e a b d =
    record {
      tables = a;
      log = b;
      out = d;
      inside = λ m. absurd (let z : ⊥ = omega arith in z);
      sound = λ m. absurd (let z : ⊥ = omega arith in z);
    }

-- a name that ends in its line ends in the text
pub name_inside : (text : List ℕ) (at end : ℕ) (p : Parsed) → NameIn text at p end → NameIn text at p (length text)
name_inside text at end (Store x) w = tt
name_inside text at end (Asks c) w = tt
name_inside text at end (Named n e) w = record { begun = w.begun; in_line_lem = omega (arith, w.in_line_lem, w.in_text); in_text = omega arith }
name_inside text at end Parsed.No w = tt

-- ── the buffer ──

-- an answer of at most 4,097 numbers fits where a longest reply does
pub room : (r : Result ℕ Refusal) → Few r → (buffer out : List ℕ) (used : ℕ) → used + longest ≤ length buffer →
    most_out ≤ length out → Room buffer used (by_number r) out
unfolding by_number
room (Ok n) f buffer out used e h = record { fits = omega arith; gives = omega arith }
room (Err n) f buffer out used e h = record { fits = omega arith; gives = omega arith }

-- by the number of its refusal, an answer stands for the same reply
pub same_reply : (r : Result ℕ Refusal) (out : List ℕ) → numbered_reply (by_number r) out ≡ reply_of r out
unfolding by_number numbered_reply reply_of
same_reply (Ok n) out = refl
same_reply (Err r) out = refl

module _ (d s : List ℕ) (used : ℕ) (inside : used ≤ length d) where
  -- what was written lies inside a buffer that stayed as long
  pub written_inside : (d' : List ℕ) → d' ≡ write_at d used s → length d' ≡ length d → used + length s ≤ length d
  unfolding write_at
  written_inside d' e l =
      let a = length-append (take used d) (s ++ drop (used + length s) d) in
      let b = length-append s (drop (used + length s) d) in
      let c = length-take-le used d inside in
      omega (arith, ap length e)

  -- the bytes up to the end of what was written
  pub taken : take (used + length s) (write_at d used s) ≡ take used d ++ s
  unfolding write_at
  taken =
      let c = length-take-le used d inside in
      ap (take (used + length s)) (sym (append_assoc (take used d) s (drop (used + length s) d)))
      ∙ take_at (take used d ++ s) (drop (used + length s) d) (used + length s) (simp (length-append) (omega arith))

-- ── the loop ──

part_as : {i : ℕ} {l l' : List ℕ} {s s' : Session} {M M' : Memory} → l ≡ l' → s ≡ s' → M ≡ M'
    → ◌≡◌ {A = Part} (record { at = i; replies = l; session = s; memory = M }) (record { at = i; replies = l'; session = s'; memory = M' })
part_as p q r = cc

lent_as : {t bytes numbers : List ℕ} (M : Memory) → t ≡ M.tables → bytes ≡ M.log → numbers ≡ M.out → lent t bytes numbers ≡ M
lent_as {t} {bytes} {numbers} M p q r =
    ap (λ (l : List ℕ). lent l bytes numbers) p ∙ ap (λ (l : List ℕ). lent M.tables l numbers) q ∙ ap (lent M.tables M.log) r

-- a part as the loop has it: the replies so far stand at the buffer's start
abbrev pub standing : ℕ → Session → Memory → List ℕ → ℕ → Part
standing i s M replies used = record { at = i; replies = take used replies; session = s; memory = M }

module _ (text : List ℕ) (whole : Part) (t₀ bytes₀ numbers₀ replies₀ : List ℕ) where
  pub record Running (s : Session) (t bytes numbers replies : List ℕ) (used i : ℕ) : Type 0 where
    pub tables : length t ≡ length t₀
    pub log : length bytes ≡ length bytes₀
    pub out : length numbers ≡ length numbers₀
    pub same : length replies ≡ length replies₀
    pub inside : used ≤ length replies₀
    pub kept : Kept s t bytes numbers
    pub replied : replies ≡ write_at replies₀ 0 (take used replies)
    pub left : served_most (length text - i) text (length replies₀) (standing i s (lent t bytes numbers) replies used) ≡ whole

  module _ (s : Session) (t bytes numbers replies : List ℕ) (used i : ℕ) (r : Running s t bytes numbers replies used i) where
    abbrev p : Part
    p = standing i s (lent t bytes numbers) replies used

    used_is : length p.replies ≡ used
    used_is = length-take-le used replies (omega (arith, r.inside, r.same))

    -- where it stops, what stands there is the whole
    ended : goes_on text (length replies₀) p ≡ false → Serves whole replies₀ (record { session = s; at = i; used = used }) (lent t bytes numbers) replies
    ended e =
        let w : p ≡ whole = sym (stops (length text - i) text (length replies₀) p e) ∙ r.left in
        record {
          at = ap (λ (q : Part). q.at) w;
          used = sym used_is ∙ ap (λ (q : Part). length q.replies) w;
          session = ap (λ (q : Part). q.session) w;
          memory = ap (λ (q : Part). q.memory) w;
          replies = r.replied ∙ ap (λ (q : Part). write_at replies₀ 0 q.replies) w;
          kept = r.kept;
          range = r.inside;
        }

    pub at_end : length text ≤ i → Serves whole replies₀ (record { session = s; at = i; used = used }) (lent t bytes numbers) replies
    at_end h = ended (read text (length replies₀) p h)

    pub when_full : length replies₀ < used + longest → Serves whole replies₀ (record { session = s; at = i; used = used }) (lent t bytes numbers) replies
    when_full h = ended (full text (length replies₀) p (omega (arith, used_is)))

    -- one line more
    module _ (d : Said) (is : d ≡ said_at text i) (a : Stepped) (t' bytes' numbers' replies' : List ℕ) (used' : ℕ)
        (reply : reply_of a.answer numbers' ≡ step_reply s (lent t bytes numbers) (spoken_at text i d.says))
        (session : a.session ≡ step_session s (lent t bytes numbers) (spoken_at text i d.says))
        (tables : t' ≡ (step_memory s (lent t bytes numbers) (spoken_at text i d.says)).tables)
        (log : bytes' ≡ (step_memory s (lent t bytes numbers) (spoken_at text i d.says)).log)
        (out : numbers' ≡ (step_memory s (lent t bytes numbers) (spoken_at text i d.says)).out)
        (k : Spelling) (spelled : k ≡ spelling_of d.says)
        (put : used' ≡ used + length (reply_text k (reply_of a.answer numbers')))
        (wrote : replies' ≡ write_at replies used (reply_text k (reply_of a.answer numbers'))) where
      abbrev x : List ℕ
      x = reply_text k (reply_of a.answer numbers')

      abbrev M : Memory
      M = lent t bytes numbers

      -- what the line asks for
      abbrev heard : Said → Spoken
      heard e = spoken_at text i e.says

      abbrev M' : Memory
      M' = step_memory s M (heard d)

      taken_now : take used' replies' ≡ take used replies ++ x
      taken_now =
          ap (λ (l : List ℕ). take used' l) wrote ∙ ap (λ (n : ℕ). take n (write_at replies used x)) put
          ∙ taken replies x used (omega (arith, r.inside, r.same))

      text_is : x ≡ reply_text (spelling_of (said_at text i).says) (step_reply s M (heard (said_at text i)))
      text_is =
          ap (reply_text k) reply ∙ ap (λ (q : Spelling). reply_text q (step_reply s M (heard d))) spelled
          ∙ ap (λ (e : Said). reply_text (spelling_of e.says) (step_reply s M (heard e))) is

      next_is : standing (d.end + 1) a.session (lent t' bytes' numbers') replies' used' ≡ served_line text p
      unfolding served_line
      next_is =
          ap (λ (e : Said). standing (e.end + 1) a.session (lent t' bytes' numbers') replies' used') is
          ∙ part_as
          (taken_now ∙ ap (λ (l : List ℕ). take used replies ++ l) text_is)
          (session ∙ ap (λ (e : Said). step_session s M (heard e)) is)
          (lent_as M' tables log out ∙ ap (λ (e : Said). step_memory s M (heard e)) is)

      pub turned : i < length text → used + longest ≤ length replies₀ → length t' ≡ length t → length bytes' ≡ length bytes → length numbers' ≡ length numbers
          → length replies' ≡ length replies → Kept a.session t' bytes' numbers' → Running a.session t' bytes' numbers' replies' used' (d.end + 1)
      turned h k et el eo er kept =
          let n = next_is in
          let in-now : used ≤ length replies = omega (arith, r.inside, r.same) in
          record {
            tables = et ∙ r.tables;
            log = el ∙ r.log;
            out = eo ∙ r.out;
            same = er ∙ r.same;
            inside = omega (arith, r.same, written_inside replies x used in-now replies' wrote er);
            kept = kept;
            replied =
                wrote ∙ ap (λ (l : List ℕ). write_at l used x) r.replied
                ∙ write_write replies₀ 0 used (take used replies) x (omega (arith, used_is)) r.inside
                ∙ ap (write_at replies₀ 0) (sym taken_now);
            left =
                ap (served_most (length text - (d.end + 1)) text (length replies₀)) n
                ∙ one_more_lem (length text - (d.end + 1)) (length text - i) text (length replies₀) p
                (goes text (length replies₀) p h (omega (arith, used_is))) h (ap (λ (q : Part). length text - q.at) n) refl
                ∙ r.left;
          }

  -- before the first line
  pub begins : (at : ℕ) (s : Session) → Kept s t₀ bytes₀ numbers₀ → served text (length replies₀) (begun at s (lent t₀ bytes₀ numbers₀)) ≡ whole
      → Running s t₀ bytes₀ numbers₀ replies₀ 0 at
  unfolding served
  begins at s k e =
      record {
        tables = refl;
        log = refl;
        out = refl;
        same = refl;
        inside = omega arith;
        kept = k;
        replied = sym (write_none replies₀ 0);
        left =
            sym (enough (length text - at) (length text) text (length replies₀) (begun at s (lent t₀ bytes₀ numbers₀)) (omega arith) (omega arith)) ∙ e;
      }
