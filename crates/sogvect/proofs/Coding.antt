-- The code and the count of an answer are those of the reply that it stands for: one law for any reply whose result is shorter than the buffer.
use mathlib.Core.Path.{◌≡◌, refl, sym, ap, ◌∙◌}
use mathlib.Core.List.{List}
use mathlib.Core.Option.{Option, none, some}
use Prim.Native.Nat.{ℕ, ◌+◌, ◌*◌, ◌<◌}
use native.Mathlib.Omega.{arith}
use lib.ListN.{length, take}
use lib.Seq.{sets, length-sets}
use borrow.Author.Tests.{ltb-false}
use Rattle.std.specs.Prelude.{Bool, Result, Ok, Err}
use Rattle.answer.specs.Number.{number_of as refusal_number}
use Rattle.answer.specs.declared.Refusal.{Refusal}
use Rattle.answer.specs.Reply.{Reply, accepted, refused, reply_of}
use Rattle.answer.specs.Refusal.{leaves}
use Rattle.answer.proofs.Decided.{decide_accepted}
use Rattle.geometry.specs.declared.Geometry.{Geometry}
use Rattle.geometry.specs.Limits.{blocks}
use Rattle.alloc_log.specs.Marks.{held_in, held_blocks}
use Rattle.alloc_log.specs.Settled.{settled}
use Rattle.alloc_log.specs.Tool.{marks_of, held_at_end, every_conditions, every_reply, read_reply, read_out, Compared, verdict_of, compact_reply_of}
use Rattle.alloc_log.proofs.Tools.{pass_length}
use Rattle.model.specs.Memory.{Memory, reply, lent}
use Rattle.model.specs.declared.Call.{Call}
use Rattle.model.specs.Command.{Command, command}
use Rattle.model.proofs.ResultSize.{accepted_short}
use Rattle.store.specs.Called.{Called}
use Rattle.store.proofs.Results.{number_of}
use Rattle.store.proofs.Lengths.{out_length}
use Rattle.serving.specs.Host.{Lent, hosted_reply, Hosts}
use Rattle.serving.specs.declared.host.Extent.{Extent}
use Rattle.sogvect.specs.Coded.{code_of, count_after, asked_reply, asked_after, Answered, Replied, answer_code, answer_given}
use Rattle.sogvect.specs.Coded.{verdict_code, alike_after, words_after, number_after, Scripted}

-- ── an answer ──

-- the code r of an answer, and what it gives, n
abbrev pub Coded : {A : Type 0} → Result A Refusal → A → ℕ → A → Type 0
Coded a old r n = (r ≡ answer_code a) × (n ≡ answer_given a old)

-- ── any reply ──

pub code_is : (a : Result ℕ Refusal) (out : List ℕ) (R : Reply) → reply_of a out ≡ R → answer_code a ≡ code_of R
unfolding reply_of code_of
code_is (Ok n) out R e = ap code_of e
code_is (Err k) out R e = ap code_of e

count_is : (a : Result ℕ Refusal) (out : List ℕ) (R : Reply) (old : ℕ) → reply_of a out ≡ R → ((l : List ℕ) → R ≡ accepted l →
    length l < length out) →
    answer_given a old ≡ count_after R old
unfolding reply_of count_after
count_is (Ok n) out R old e short =
    number_of n out (take n out) refl (short (take n out) (sym e)) ∙ ap (λ (r : Reply). count_after r old) e
count_is (Err k) out R old e short = ap (λ (r : Reply). count_after r old) e

-- the code r and the count n of a reply
abbrev pub Told : Reply → ℕ → ℕ → ℕ → Type 0
Told R old r n = (r ≡ code_of R) × (n ≡ count_after R old)

told : (a : Result ℕ Refusal) (out : List ℕ) (R : Reply) (old r n : ℕ) → reply_of a out ≡ R → ((l : List ℕ) → R ≡ accepted l →
    length l < length out) →
    Coded a old r n → Told R old r n
told a out R old r n e short p = (p.0 ∙ code_is a out R e, p.1 ∙ count_is a out R old e short)

-- ── a call ──

-- what is no call
pub no_call : (g : Geometry) (M : Memory) (k : Option Call) (old : ℕ) → k ≡ none → Answered g M k old 1 old M
unfolding asked_reply asked_after code_of count_after
no_call g M k old e = rw e (refl, (refl, (refl, (refl, refl))))

module _ (g : Geometry) (M : Memory) (a : Result ℕ Refusal) (t log out : List ℕ) where
  -- what the store's function promises is what the exported one promises
  pub replied : (c : Command) (old r n : ℕ) → Called g M c a (lent t log out) → Coded a old r n →
      Replied g M c r (lent t log out) × (n ≡ count_after (reply g M c) old)
  replied c old r n p q =
      let h : length out ≡ length M.out = ap length p.1.1.1 ∙ out_length g M c in
      let s = told a out (reply g M c) old r n p.0 (λ l e. omega (arith, accepted_short g M c l e)) q in
      ((s.0, p.1), s.1)

  -- and of what is asked by a letter
  pub called : (c : Call) (k : Option Call) (old r n : ℕ) → k ≡ some c → Called g M (command c) a (lent t log out) → Coded a old r n →
      Answered g M k old r n (lent t log out)
  unfolding asked_reply asked_after
  called c k old r n e p q =
      let s = replied (command c) old r n p q in
      rw e (s.0.0, (s.1, s.0.1))

-- ── a reading ──

module _ (g : Geometry) (log out : List ℕ) where
  held_short : (l : List ℕ) → read_reply g log out ≡ accepted l → length l < length out
  unfolding read_reply every_reply held_at_end held_blocks
  held_short l e =
      let d = decide_accepted (every_conditions g (settled log) out) (held_at_end g (settled log)) l e in
      omega (arith, ap length d.1, pass_length (held_in (marks_of g (settled log))) 0 (blocks g), ltb-false (length out) (2 * blocks g + 64) d.0.1.0)

  left_length : length (read_out g log out) ≡ length out
  unfolding read_out
  left_length = go (read_reply g log out)
    where
      go : (r : Reply) → length (leaves r out (sets out 0 (held_at_end g (settled log)))) ≡ length out
      go (accepted l) = length-sets out 0 (held_at_end g (settled log))
      go (refused n) = refl

  pub was_read : (a : Result ℕ Refusal) (out' : List ℕ) (old r n : ℕ) → (reply_of a out' ≡ read_reply g log out) × (out' ≡ read_out g log out) →
      Coded a old r n → (r ≡ code_of (read_reply g log out)) × ((n ≡ count_after (read_reply g log out) old) × (out' ≡ read_out g log out))
  was_read a out' old r n p q =
      let h : length out' ≡ length out = ap length p.1 ∙ left_length in
      let s = told a out' (read_reply g log out) old r n p.0 (λ l e. omega (arith, held_short l e)) q in
      (s.0, (s.1, p.1))

-- ── a comparison ──

-- ── a log compressed ──

compact_code : (a : Result ℕ Refusal) → answer_code a ≡ code_of (compact_reply_of a)
unfolding compact_reply_of code_of
compact_code (Ok n) = refl
compact_code (Err k) = refl

compact_given : (a : Result ℕ Refusal) (old : ℕ) → answer_given a old ≡ words_after (compact_reply_of a) old
unfolding compact_reply_of words_after
compact_given (Ok n) old = refl
compact_given (Err k) old = refl

pub was_compacted : (a : Result ℕ Refusal) (R : Reply) (old r n : ℕ) (out left : List ℕ) →
    (compact_reply_of a ≡ R) × (out ≡ left) → Coded a old r n →
    (r ≡ code_of R) × ((n ≡ words_after R old) × (out ≡ left))
was_compacted a R old r n out left e p =
    (p.0 ∙ compact_code a ∙ ap code_of e.0, (p.1 ∙ compact_given a old ∙ ap (λ w. words_after w old) e.0, e.1))

-- ── a part of a script ──

-- the code r of a part, the position behind it and the number of its bytes
abbrev pub Parted : Reply → ℕ → ℕ → ℕ → ℕ → ℕ → Type 0
Parted R at count r end n = (r ≡ code_of R) × ((end ≡ number_after 0 R at) × (n ≡ number_after 1 R count))

pub part_parted : (h : Result Extent Refusal) (p : Extent) (at count : ℕ) → h ≡ Ok p → Parted (hosted_reply h) at count 0 p.at p.used
unfolding hosted_reply code_of number_after
part_parted h p at count e = (
  sym (ap (λ d. code_of (hosted_reply d)) e),
  (sym (ap (λ d. number_after 0 (hosted_reply d) at) e), sym (ap (λ d. number_after 1 (hosted_reply d) count) e)),
)

pub refused_parted : (h : Result Extent Refusal) (k : Refusal) (at count : ℕ) → h ≡ Err k → Parted (hosted_reply h) at count (refusal_number k) at count
unfolding hosted_reply code_of number_after
refused_parted h k at count e = (
  sym (ap (λ d. code_of (hosted_reply d)) e),
  (sym (ap (λ d. number_after 0 (hosted_reply d) at) e), sym (ap (λ d. number_after 1 (hosted_reply d) count) e)),
)

pub scripted : (text : List ℕ) (at count : ℕ) (H : Lent) (h : Result Extent Refusal) (left : Lent) (r end n : ℕ) → Hosts text at H h left
    → Parted (hosted_reply h) at count r end n → Scripted text at count H r end n left
scripted text at count H h left r end n v p =
    record {
      code = p.0 ∙ ap code_of v.reply;
      place = p.1.0 ∙ ap (λ w. number_after 0 w at) v.reply;
      bytes = p.1.1 ∙ ap (λ w. number_after 1 w count) v.reply;
      leaves = v.leaves;
    }
