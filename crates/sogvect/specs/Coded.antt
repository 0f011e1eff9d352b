-- Replies as a caller in C gets them: a code, 0 where the call was done and else the number of the refusal, and a count of result numbers that a
-- refusal leaves as it was. A comparison has a code too, and a number that says whether the logs are alike.
use Rattle.std.specs.Prelude.{◌≡◌, cond, List, ℕ, length, get_or, Result, Ok, Err}
use Rattle.std.proofs.Math.Option.{Option, none, some}
use Rattle.answer.specs.Number.{number_of}
use Rattle.answer.specs.declared.Refusal.{Refusal}
use Rattle.answer.specs.Reply.{Reply, accepted, refused}
use Rattle.geometry.specs.declared.Geometry.{Geometry}
use Rattle.alloc_log.specs.Tool.{Compared, judged, turned_away}
use Rattle.model.specs.Memory.{Memory, reply, after}
use Rattle.serving.specs.Host.{Lent, host_reply, host_left}
use Rattle.model.specs.declared.Call.{Call}
use Rattle.model.specs.Command.{Command, command}

-- ── a call ──

unfoldable pub code_of : Reply → ℕ
code_of (accepted l) = 0
code_of (refused n) = n

unfoldable pub count_after : Reply → ℕ → ℕ
count_after (accepted l) old = length l
count_after (refused n) old = old

-- the reply to what is asked, and what it leaves; what is no call is refused by 1 before anything else is looked at
unfoldable pub asked_reply : Geometry → Memory → Option Call → Reply
asked_reply g M (some c) = reply g M (command c)
asked_reply g M none = refused 1

unfoldable pub asked_after : Geometry → Memory → Option Call → Memory
asked_after g M (some c) = after g M (command c)
asked_after g M none = M

-- the promise of a call, told once: what is asked, on lent memory `before` with the six numbers g, was answered by the code r; the count, which was
-- `old`, is n; and the memory is `left`
abbrev pub Answered : Geometry → Memory → Option Call → ℕ → ℕ → ℕ → Memory → Type 0
Answered g before a old r n left =
    (r ≡ code_of (asked_reply g before a))
    × ((n ≡ count_after (asked_reply g before a) old)
    × ((left.tables ≡ (asked_after g before a).tables)
    × ((left.log ≡ (asked_after g before a).log) × (left.out ≡ (asked_after g before a).out))))

-- the promise of a call of a name: c, on lent memory `before`, was answered by the code r and left the memory `left`
abbrev pub Replied : Geometry → Memory → Command → ℕ → Memory → Type 0
Replied g before c r left =
    (r ≡ code_of (reply g before c))
    × ((left.tables ≡ (after g before c).tables) × ((left.log ≡ (after g before c).log) × (left.out ≡ (after g before c).out)))

-- the same of an answer, with no buffer; what it gives, or what was there before
abbrev pub answer_code : {A : Type 0} → Result A Refusal → ℕ
answer_code (Ok a) = 0
answer_code (Err r) = number_of r

abbrev pub answer_given : {A : Type 0} → Result A Refusal → A → A
answer_given (Ok a) old = a
answer_given (Err r) old = old

-- ── a comparison ──

unfoldable pub verdict_code : Compared → ℕ
verdict_code (judged t) = 0
verdict_code (turned_away n) = n

-- 1 for logs that are alike, 0 for others
unfoldable pub alike_after : Compared → ℕ → ℕ
alike_after (judged t) old = cond t 1 0
alike_after (turned_away n) old = old

-- ── a log compressed ──

-- the number of its words, which is the one number of the reply
unfoldable pub words_after : Reply → ℕ → ℕ
words_after (accepted l) old = get_or l 0 0
words_after (refused n) old = old

-- ── a part of a script ──

-- one of the reply's numbers: the position behind the part, or how many bytes of replies it has
unfoldable pub number_after : ℕ → Reply → ℕ → ℕ
number_after i (accepted l) old = get_or l i 0
number_after i (refused n) old = old

-- the promise of a part of a text for a host that lends H: the code r, the position and the count, which were `at` and `count`, and what is left
pub record Scripted (text : List ℕ) (at count : ℕ) (H : Lent) (r end n : ℕ) (left : Lent) : Type 0 where
  pub code : r ≡ code_of (host_reply text at H)
  pub place : end ≡ number_after 0 (host_reply text at H) at
  pub bytes : n ≡ number_after 1 (host_reply text at H) count
  pub leaves : left ≡ host_left text at H
