-- A HOST GETS THE TRANSCRIPT: from a run of zeros no part is refused, and what the parts put into the buffer, one behind another, is the transcript.
use mathlib.Core.Path.{◌≡◌, refl, sym, ap, ap₂, ◌∙◌}
use mathlib.Core.Bool.{Bool, true, false, not, ◌&&◌}
use mathlib.Core.List.{List, [], ◌∷◌, ◌++◌}
use Prim.Native.Nat.{ℕ, zero, suc, ◌+◌, ◌≤◌, ◌<◌}
use native.Mathlib.Omega.{arith}
use borrow.Author.Tests.{ltb-false, lt-ltb, le-ltb, eq-eqb, ne_eqb}
use lib.Dec.{eqb, ltb}
use lib.ListN.{length, take, drop, length-append, length-drop, drop_of_length-le}
use lib.Seq.{sets, sets-eq, length-sets, take-append_seam}
use Rattle.answer.specs.Reply.{Reply, accepted}
use Rattle.answer.specs.Refusal.{NoneHolds, leaves}
use Rattle.answer.proofs.Cases.{cases, lt?}
use Rattle.answer.proofs.Decided.{decide_accepts}
use Rattle.geometry.specs.Limits.{fits, most_tables, most_log, most_out}
use Rattle.geometry.proofs.Made.{inside_fits}
use Rattle.alloc_log.specs.Word.{write_at}
use Rattle.model.specs.Memory.{Memory, sound?}
use Rattle.model.proofs.SoundTest.{sound_iff}
use Rattle.model.proofs.ByNumber.{or_false}
use Rattle.script.specs.Lines.{lines_of}
use Rattle.session.specs.declared.Session.{Session}
use Rattle.ledger.specs.Transcript.{Runner, without_store, with_store, printed, left}
use Rattle.ledger.proofs.Parts.{parts}
use Rattle.serving.specs.Part.{Part, begun, longest}
use Rattle.serving.specs.Host.{Lent, session_of, run_of, lent_short, host_conditions, host_part, host_reply, host_left}
use Rattle.serving.specs.Transcribed.{Ample, hosted, HostGets}
use Rattle.serving.proofs.TranscriptLine.{Stands}
use Rattle.serving.proofs.TranscriptParts.{Follows, served_follows, gets_on}

-- ── what is lent ──

-- nothing lent is too short
record Lends (H : Lent) : Type 0 where
  run : 7 ≤ length H.run
  ample : Ample H.memory
  replies : longest ≤ length H.replies

long_lends : (H : Lent) → lent_short H ≡ false → Lends H
unfolding lent_short
long_lends H e =
    let a = or_false (ltb (length H.run) 7) _ e in
    let b = or_false (ltb (length H.memory.tables) most_tables) _ a.1 in
    let c = or_false (ltb (length H.memory.log) most_log) _ b.1 in
    let d = or_false (ltb (length H.memory.out) most_out) _ c.1 in
    record {
      run = ltb-false (length H.run) 7 a.0;
      ample = record {
        tables = ltb-false (length H.memory.tables) most_tables b.0;
        log = ltb-false (length H.memory.log) most_log c.0;
        out = ltb-false (length H.memory.out) most_out d.0;
      };
      replies = ltb-false (length H.replies) longest d.1;
    }

lends_long : (H : Lent) → Lends H → lent_short H ≡ false
unfolding lent_short
lends_long H l =
    rw (
      le-ltb (length H.run) 7 l.run,
      le-ltb (length H.memory.tables) most_tables l.ample.tables,
      le-ltb (length H.memory.log) most_log l.ample.log,
      le-ltb (length H.memory.out) most_out l.ample.out,
      le-ltb (length H.replies) longest l.replies,
    )

-- the seven numbers are the session
session_run : (run : List ℕ) (s : Session) → 7 ≤ length run → session_of (sets run 0 (run_of s)) ≡ s
session_run run s h = ap session_of (sets-eq (run_of s) run 0 (omega arith))

-- what a part puts at the buffer's start is there, and the buffer is no shorter
take_written : (l r : List ℕ) → take (length r) (write_at l 0 r) ≡ r
unfolding write_at
take_written l r = take-append_seam r (drop (0 + length r) l)

length_written : (l r : List ℕ) → length l ≤ length (write_at l 0 r)
unfolding write_at
length_written l r = omega (arith, length-append r (drop (0 + length r) l), length-drop (0 + length r) l)

-- ── no part is refused ──

none_holds : (R : Runner) (s : Session) (M : Memory) (short : Bool) → short ≡ false → Stands R s M →
    NoneHolds ((2, not (eqb s.made 0) && not (fits s.g)) ∷ (3, short) ∷ (4, not (eqb s.made 0) && not (sound? s.g M.tables M.log)) ∷ [])
none_holds without_store s M short e h = rw (eq-eqb s.made 0 h) (refl, (e, (refl, tt)))
none_holds (with_store g L) s M short e h =
    let m = ne_eqb s.made 0 (λ z. omega (arith, h.made)) in
    let f : fits s.g ≡ true = ap fits h.same ∙ inside_fits g h.inside in
    let k : sound? s.g M.tables M.log ≡ true =
    ap (λ d. sound? d M.tables M.log) h.same ∙ (sound_iff g h.inside M.tables M.log).1 h.owned.sound in
    rw (m, f, k) (refl, (e, (refl, tt)))

module _ (text : List ℕ) (at : ℕ) (R : Runner) (H : Lent) (short : lent_short H ≡ false) (st : Stands R (session_of H.run) H.memory) where
  abbrev part : Part
  part = host_part text at H

  accepts : host_reply text at H ≡ accepted ((host_part text at H).at ∷ length (host_part text at H).replies ∷ [])
  unfolding host_reply host_conditions
  accepts = decide_accepts (host_conditions H) (part.at ∷ length part.replies ∷ []) (none_holds R (session_of H.run) H.memory (lent_short H) short st)

  abbrev next : Lent
  next = record { run = sets H.run 0 (run_of part.session); memory = part.memory; replies = write_at H.replies 0 part.replies }

  leaves_next : host_left text at H ≡ next
  unfolding host_left
  leaves_next = ap (λ (r : Reply). leaves r H next) accepts

  follows : Follows text R (begun at (session_of H.run) H.memory) (host_part text at H)
  unfolding host_part
  follows = served_follows text (length H.replies) R (begun at (session_of H.run) H.memory) st (long_lends H short).ample

  on : at < length text → at < (host_part text at H).at
  unfolding host_part
  on h = gets_on text (length H.replies) at (session_of H.run) H.memory (long_lends H short).replies h

  next_short : lent_short next ≡ false
  next_short =
      let l = long_lends H short in
      lends_long next (record {
        run = omega (arith, l.run, length-sets H.run 0 (run_of part.session));
        ample = follows.ample;
        replies = omega (arith, l.replies, length_written H.replies part.replies);
      })

  next_stands : Stands (left R follows.lines) (session_of next.run) next.memory
  next_stands = rw (session_run H.run part.session (long_lends H short).run) follows.stands

-- ── any parts ──

parts_hosted : (n : ℕ) (text : List ℕ) (at : ℕ) (R : Runner) (H : Lent) → lent_short H ≡ false → Stands R (session_of H.run) H.memory →
    length text ≤ at + n → hosted n text at H ≡ printed R (lines_of (drop at text))
unfolding hosted lines_of printed
parts_hosted zero text at R H short st k = rw (drop_of_length-le text {i = at} (omega arith))
parts_hosted (suc n) text at R H short st k =
    cases (lt? at (length text))
    (λ y.
    let p : Part = host_part text at H in
    let F = follows text at R H short st in
    let G : Lent = next text at R H short st in
    rw (lt-ltb at (length text) y, accepts text at R H short st, leaves_next text at R H short st)
    (ap₂ (λ (a b : List ℕ). a ++ b) (take_written H.replies p.replies ∙ F.prints)
    (parts_hosted n text p.at (left R F.lines) G (next_short text at R H short st) (next_stands text at R H short st)
    (omega (arith, on text at R H short st y)))
    ∙ sym (parts R F.lines (lines_of (drop p.at text))) ∙ ap (printed R) (sym F.met)))
    (λ e. rw (le-ltb at (length text) e, drop_of_length-le text {i = at} e))

-- A HOST GETS THE TRANSCRIPT
pub host_gets : HostGets
host_gets text H short e = parts_hosted (length text) text 0 without_store H short e (omega arith)
