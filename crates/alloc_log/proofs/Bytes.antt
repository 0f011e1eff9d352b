-- A LOG AS LITERAL BYTES, with every code and with addresses above 255 blocks: what reading gives, what one changed byte does (each bad case of document
-- 01), and the compressed log as literal bytes. 2 arenas of 301 blocks: block 300 is the last of the first arena, 601 the last of all.
use Rattle.std.proofs.Common.{◌≡◌, ℕ, ◌≤◌, true, false, List, [], ◌∷◌, ◌++◌, length, take, drop, set, sym, refl, ap, ◌∙◌, arith, le-ltb}
use lib.Seq.{sets}
use Rattle.answer.specs.Reply.{accepted, refused}
use Rattle.answer.proofs.Cases.{cases, either}
use Rattle.geometry.specs.declared.Geometry.{Geometry}
use Rattle.geometry.specs.Limits.{geometry_of, Inside, within, fits}
use Rattle.geometry.proofs.Made.{fits_inside}
use Rattle.alloc_log.specs.Word.{words, spell, word_bytes, write_at}
use Rattle.alloc_log.specs.Marks.{mark_run, held_in, held_blocks}
use Rattle.alloc_log.specs.Read.{read_log, free, by_progress, first_word, second_word, by_code, ended}
use Rattle.alloc_log.specs.Runs.{ending, runs_from, runs}
use Rattle.alloc_log.specs.Compress.{runs_words, compressed}
use Rattle.alloc_log.specs.Settled.{up_to_barrier, settled}
use Rattle.alloc_log.specs.Tool.{
  readable,
  marks_of,
  held_at_end,
  every_reply,
  read_reply,
  read_out,
  compact_words,
  compact_reply,
  compact_out,
  alike?,
  judged,
  turned_away,
  compare_verdict,
}
use Rattle.alloc_log.proofs.AlikeFacts.{alike_iff}
use Rattle.alloc_log.proofs.SettledFacts.{settled_judged}

abbrev wide : Geometry
wide = geometry_of 2 301 8 4 8 1206

abbrev log : List ℕ
log =
    -- allocate a run: block 291 (0x123), 10 blocks: to the end of the first arena
    0 ∷ 0 ∷ 0 ∷ 0 ∷ 0 ∷ 0x48 ∷ 0xc0 ∷ 4
    ∷ 0 ∷ 0 ∷ 0 ∷ 0 ∷ 0 ∷ 0x02 ∷ 0x80 ∷ 0
    -- allocate block 301 (0x12d)
    ∷ 0 ∷ 0 ∷ 0 ∷ 0 ∷ 0 ∷ 0x4b ∷ 0x40 ∷ 1
    -- free a run: block 292, 4 blocks
    ∷ 0 ∷ 0 ∷ 0 ∷ 0 ∷ 0 ∷ 0x49 ∷ 0x00 ∷ 5
    ∷ 0 ∷ 0 ∷ 0 ∷ 0 ∷ 0 ∷ 0x01 ∷ 0x00 ∷ 0
    -- a barrier
    ∷ 0 ∷ 0 ∷ 0 ∷ 0 ∷ 0 ∷ 0 ∷ 0 ∷ 3
    -- free block 297
    ∷ 0 ∷ 0 ∷ 0 ∷ 0 ∷ 0 ∷ 0x4a ∷ 0x40 ∷ 2
    -- allocate block 293
    ∷ 0 ∷ 0 ∷ 0 ∷ 0 ∷ 0 ∷ 0x49 ∷ 0x40 ∷ 1
    -- allocate block 601 (0x259)
    ∷ 0 ∷ 0 ∷ 0 ∷ 0 ∷ 0 ∷ 0x96 ∷ 0x40 ∷ 1
    -- a barrier
    ∷ 0 ∷ 0 ∷ 0 ∷ 0 ∷ 0 ∷ 0 ∷ 0 ∷ 3
    ∷ []

-- ── its reading: it ends with a barrier, so all of it is settled ──

all_settled : settled log ≡ log
unfolding settled up_to_barrier words spell
all_settled = refl

is_log : readable wide log ≡ true
unfolding words spell mark_run read_log free by_progress first_word second_word by_code ended readable
is_log = refl

held : held_at_end wide log ≡ 291 ∷ 293 ∷ 296 ∷ 298 ∷ 299 ∷ 300 ∷ 301 ∷ 601 ∷ []
unfolding words spell mark_run read_log free by_progress first_word second_word by_code ended held_at_end marks_of held_blocks held_in
held = refl

-- bytes of which a log is settled read to what it holds, with any result buffer of 2 × 602 + 64 numbers or more; it keeps what it had behind them
reads_to : (l part blocks : List ℕ) → settled l ≡ part → readable wide part ≡ true → held_at_end wide part ≡ blocks → (out : List ℕ) → 1268 ≤ length out
    → (read_reply wide l out ≡ accepted blocks) × (read_out wide l out ≡ sets out 0 blocks)
unfolding every_reply read_out fits within
reads_to l part blocks e r k out h =
    let a : read_reply wide l out ≡ accepted blocks = settled_judged wide l out ∙ rw (e, le-ltb (length out) 1268 h, r, k) in
    (a, rw (a, e, k))

module _ (out : List ℕ) (h : 1268 ≤ length out) where
  pub log_read : read_reply wide log out ≡ accepted (291 ∷ 293 ∷ 296 ∷ 298 ∷ 299 ∷ 300 ∷ 301 ∷ 601 ∷ [])
  log_read = (reads_to log log _ all_settled is_log held out h).0

  pub log_out : read_out wide log out ≡ sets out 0 (291 ∷ 293 ∷ 296 ∷ 298 ∷ 299 ∷ 300 ∷ 301 ∷ 601 ∷ [])
  log_out = (reads_to log log _ all_settled is_log held out h).1

-- ── bytes that are no log: refused with 7, and the buffer stays ──

abbrev NoLog : List ℕ → Type 0
NoLog l = (out : List ℕ) → 1268 ≤ length out → (read_reply wide l out ≡ refused 7) × (read_out wide l out ≡ out)

refused_7 : (l : List ℕ) → readable wide (settled l) ≡ false → (out : List ℕ) → 1268 ≤ length out → read_reply wide l out ≡ refused 7
unfolding every_reply fits within
refused_7 l n out h = settled_judged wide l out ∙ rw (le-ltb (length out) 1268 h, n)

no_log : (l : List ℕ) → readable wide (settled l) ≡ false → NoLog l
unfolding read_out
no_log l n out h = (refused_7 l n out h, rw (refused_7 l n out h))

-- the log with byte i replaced; where words behind it would be bad too, only those up to it are taken, and a barrier: the log's own beginning and a
-- barrier are a log
abbrev but : ℕ → ℕ → List ℕ
but i v = set log i v

abbrev closed : List ℕ → List ℕ
closed l = l ++ (0 ∷ 0 ∷ 0 ∷ 0 ∷ 0 ∷ 0 ∷ 0 ∷ 3 ∷ [])

begins : (readable wide (closed (take 16 log)) ≡ true) × (readable wide (closed (take 40 log)) ≡ true)
unfolding words spell mark_run read_log free by_progress first_word second_word by_code ended readable
begins = (refl, refl)

pub record BadBytes : Type 0 where
  -- "another low byte" (6.5)
  pub code_0 : NoLog (but 71 0)
  pub code_6 : NoLog (but 71 6)
  -- "a barrier whose rest is not zero" (6.5)
  pub barrier_rest : NoLog (but 46 1)
  -- "an address not a multiple of 16,384" (6.5)
  pub address : NoLog (but 70 0x41)
  -- "or past the end" (6.5): block 602; an address of 2^56 and more
  pub past_end : NoLog (but 70 0x80)
  pub high_byte : NoLog (but 64 1)
  -- "a length missing" (6.5): the barrier stands behind a code 4, or 5, in the place of the length
  pub missing_4 : NoLog (but 71 4)
  pub missing_5 : NoLog (but 71 5)
  -- a length "zero or no multiple of 16,384" (6.5)
  pub length_zero : NoLog (closed (take 40 (but 37 0)))
  pub length_uneven : NoLog (but 39 1)
  -- "a run across an arena edge" (6.5): 11 blocks from 291 on
  pub across_edge : NoLog (closed (take 16 (but 14 0xc0)))
  -- "an allocation of an allocated block" (6.5): of 297, and of the run from 292 on
  pub allocated_again : NoLog (but 55 1)
  pub run_again : NoLog (but 31 4)
  -- "a free of a free one" (6.5): of 293, and of the run from 291 on
  pub freed_again : NoLog (but 63 2)
  pub run_freed : NoLog (but 7 5)

pub bad_bytes : BadBytes
unfolding settled up_to_barrier words spell mark_run read_log free by_progress first_word second_word by_code ended readable
bad_bytes = record {
  code_0 = no_log (but 71 0) refl;
  code_6 = no_log (but 71 6) refl;
  barrier_rest = no_log (but 46 1) refl;
  address = no_log (but 70 0x41) refl;
  past_end = no_log (but 70 0x80) refl;
  high_byte = no_log (but 64 1) refl;
  missing_4 = no_log (but 71 4) refl;
  missing_5 = no_log (but 71 5) refl;
  length_zero = no_log (closed (take 40 (but 37 0))) refl;
  length_uneven = no_log (but 39 1) refl;
  across_edge = no_log (closed (take 16 (but 14 0xc0))) refl;
  allocated_again = no_log (but 55 1) refl;
  run_again = no_log (but 31 4) refl;
  freed_again = no_log (but 63 2) refl;
  run_freed = no_log (but 7 5) refl;
}

-- ── bad bytes behind the last barrier: not judged when the log is read, refused where every word counts ──

-- what the bytes hold that are settled; compared with any bytes, and written anew, they are no log
pub record OnlySettled (l blocks : List ℕ) : Type 0 where
  pub read : (out : List ℕ) → 1268 ≤ length out → (read_reply wide l out ≡ accepted blocks) × (read_out wide l out ≡ sets out 0 blocks)
  pub compared : (k : List ℕ) → compare_verdict wide l k ≡ turned_away 7
  pub compacted : (out : List ℕ) → 9648 ≤ length out → (compact_reply wide l out ≡ refused 7) × (compact_out wide l out ≡ out)

only_settled : (l part blocks : List ℕ) → settled l ≡ part → readable wide part ≡ true → held_at_end wide part ≡ blocks → readable wide l ≡ false
    → OnlySettled l blocks
unfolding compare_verdict compact_out compact_reply fits within
only_settled l part blocks e r k n =
    record {
      read = reads_to l part blocks e r k;
      compared = λ j. rw n;
      compacted = λ out h. (rw (le-ltb (length out) 9648 h, n), rw (le-ltb (length out) 9648 h, n));
    }

-- up to the first barrier
abbrev earlier : List ℕ
earlier = 291 ∷ 296 ∷ 297 ∷ 298 ∷ 299 ∷ 300 ∷ 301 ∷ []

is_log_earlier : readable wide (take 48 log) ≡ true
unfolding words spell mark_run read_log free by_progress first_word second_word by_code ended readable
is_log_earlier = refl

held_earlier : held_at_end wide (take 48 log) ≡ earlier
unfolding words spell mark_run read_log free by_progress first_word second_word by_code ended held_at_end marks_of held_blocks held_in
held_earlier = refl

pub record BadBehind : Type 0 where
  -- "a length not a multiple of 8" (6.5): the last barrier is no whole word; a byte stands behind it
  pub byte_less : OnlySettled (take 79 log) earlier
  pub byte_more : OnlySettled (log ++ (0 ∷ [])) (291 ∷ 293 ∷ 296 ∷ 298 ∷ 299 ∷ 300 ∷ 301 ∷ 601 ∷ [])
  -- "a length missing" (6.5): the bytes end behind a code 4, or 5
  pub ends_4 : OnlySettled (take 72 (but 71 4)) earlier
  pub ends_5 : OnlySettled (take 72 (but 71 5)) earlier
  -- "another low byte" (6.5), and a last barrier whose rest is not zero
  pub code_behind : OnlySettled (take 72 (but 71 6)) earlier
  pub barrier_less : OnlySettled (but 78 1) earlier

pub bad_behind : BadBehind
unfolding settled up_to_barrier words spell mark_run read_log free by_progress first_word second_word by_code ended readable
bad_behind = record {
  byte_less = only_settled (take 79 log) (take 48 log) earlier refl is_log_earlier held_earlier refl;
  byte_more = only_settled (log ++ (0 ∷ [])) log _ refl is_log held refl;
  ends_4 = only_settled (take 72 (but 71 4)) (take 48 log) earlier refl is_log_earlier held_earlier refl;
  ends_5 = only_settled (take 72 (but 71 5)) (take 48 log) earlier refl is_log_earlier held_earlier refl;
  code_behind = only_settled (take 72 (but 71 6)) (take 48 log) earlier refl is_log_earlier held_earlier refl;
  barrier_less = only_settled (but 78 1) (take 48 log) earlier refl is_log_earlier held_earlier refl;
}

-- ── the compressed log: 291, 293 and 296 alone, 298 to 300 as a run that ends at the arena's edge, 301 and 601 alone, a barrier ──

abbrev compact : List ℕ
compact =
    0 ∷ 0 ∷ 0 ∷ 0 ∷ 0 ∷ 0x48 ∷ 0xc0 ∷ 1
    ∷ 0 ∷ 0 ∷ 0 ∷ 0 ∷ 0 ∷ 0x49 ∷ 0x40 ∷ 1
    ∷ 0 ∷ 0 ∷ 0 ∷ 0 ∷ 0 ∷ 0x4a ∷ 0x00 ∷ 1
    ∷ 0 ∷ 0 ∷ 0 ∷ 0 ∷ 0 ∷ 0x4a ∷ 0x80 ∷ 4
    ∷ 0 ∷ 0 ∷ 0 ∷ 0 ∷ 0 ∷ 0x00 ∷ 0xc0 ∷ 0
    ∷ 0 ∷ 0 ∷ 0 ∷ 0 ∷ 0 ∷ 0x4b ∷ 0x40 ∷ 1
    ∷ 0 ∷ 0 ∷ 0 ∷ 0 ∷ 0 ∷ 0x96 ∷ 0x40 ∷ 1
    ∷ 0 ∷ 0 ∷ 0 ∷ 0 ∷ 0 ∷ 0 ∷ 0 ∷ 3
    ∷ []

compact_words_lem : compact_words wide log ≡ 0x48c001 ∷ 0x494001 ∷ 0x4a0001 ∷ 0x4a8004 ∷ 0xc000 ∷ 0x4b4001 ∷ 0x964001 ∷ 0x3 ∷ []
unfolding words spell mark_run read_log free by_progress first_word second_word by_code ended marks_of held_in compact_words compressed runs_words runs runs_from ending
compact_words_lem = refl

-- with any buffer of 1,206 words of 8 bytes or more; what it had behind the eight words stays
module _ (out : List ℕ) (h : 9648 ≤ length out) where
  pub log_compacts : compact_reply wide log out ≡ accepted (8 ∷ [])
  unfolding compact_reply fits within
  log_compacts = rw (le-ltb (length out) 9648 h, is_log, compact_words_lem)

  pub compact_out_lem : compact_out wide log out ≡ compact ++ drop 64 out
  unfolding compact_out write_at word_bytes
  compact_out_lem = rw (log_compacts, compact_words_lem)

-- ── comparing: the two are alike; with block 601 not allocated the log is another; with a code 6 it is none ──

inside : Inside wide
unfolding fits within
inside = fits_inside wide refl

module _ (l : List ℕ) (r : readable wide l ≡ true) where
  alike : held_at_end wide log ≡ held_at_end wide l → compare_verdict wide log l ≡ judged true
  unfolding compare_verdict fits within
  alike e = rw (is_log, r, (alike_iff wide log l inside is_log r).1 e)

  different : (held_at_end wide log ≡ held_at_end wide l → ⊥) → compare_verdict wide log l ≡ judged false
  unfolding compare_verdict fits within
  different n =
      rw (is_log, r)
      (cases (either (alike? wide log l))
      (λ y. absurd (n ((alike_iff wide log l inside is_log r).0 y)))
      (λ e. rw e))

is_log_too : (readable wide compact ≡ true) × (readable wide (take 64 log) ≡ true)
unfolding words spell mark_run read_log free by_progress first_word second_word by_code ended readable
is_log_too = (refl, refl)

held_too : (held_at_end wide compact ≡ 291 ∷ 293 ∷ 296 ∷ 298 ∷ 299 ∷ 300 ∷ 301 ∷ 601 ∷ []) ×
    (held_at_end wide (take 64 log) ≡ 291 ∷ 293 ∷ 296 ∷ 298 ∷ 299 ∷ 300 ∷ 301 ∷ [])
unfolding words spell mark_run read_log free by_progress first_word second_word by_code ended held_at_end marks_of held_blocks held_in
held_too = (refl, refl)

pub compact_alike : compare_verdict wide log compact ≡ judged true
compact_alike = alike compact is_log_too.0 (held ∙ sym held_too.0)

pub less_different : compare_verdict wide log (take 64 log) ≡ judged false
less_different =
    different (take 64 log) is_log_too.1 (λ e. let z : ◌≡◌ {A = ℕ} 8 7 = ap (λ (l : List ℕ). length l) (sym held ∙ e ∙ held_too.1) in omega arith)

pub no_log_refused : (compare_verdict wide log (but 71 6) ≡ turned_away 7) × (compare_verdict wide (but 71 6) log ≡ turned_away 7)
unfolding compare_verdict fits within words spell mark_run read_log free by_progress first_word second_word by_code ended readable
no_log_refused = (refl, refl)
