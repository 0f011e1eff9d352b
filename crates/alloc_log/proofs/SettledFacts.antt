-- READING COUNTS WHAT IS RECORDED UP TO THE LAST BARRIER, and judges nothing behind it (6.9). Comparing and compressing count every word. What a
-- compression writes ends with a barrier, so reading gives all of it.
use Rattle.std.proofs.Common.{◌≡◌, ℕ, zero, suc, ◌+◌, ◌*◌, ◌%◌, ◌<◌, ◌≤◌, Bool, true, false, ◌⊎◌, ◌↔◌, List, [], ◌∷◌, ◌++◌, length, take, drop, sym, refl, ap, ◌∙◌, subst, inl, inr, append_assoc, append-nil, arith, length-append, take-append-drop, length-take-le, take_at, drop_at, ltb-false, le-ltb}
use borrow.Author.Tests.{not-true, not-false}
use Rattle.answer.specs.Reply.{accepted, refused}
use Rattle.answer.proofs.Cases.{cases}
use Rattle.answer.proofs.Decided.{decide_refused}
use Rattle.geometry.specs.declared.Geometry.{Geometry}
use Rattle.geometry.specs.Limits.{geometry_of, blocks, fits, within, Inside}
use Rattle.geometry.proofs.Made.{inside_fits}
use Rattle.alloc_log.specs.Word.{words, spell, word_bytes, bytes_of, barrier}
use Rattle.alloc_log.specs.Marks.{mark_run, held_in, passing, held_blocks}
use Rattle.alloc_log.specs.Read.{read_log, free, by_progress, first_word, second_word, by_code, ended}
use Rattle.alloc_log.specs.Settled.{up_to_barrier, settled, NoBarrier, SettledIs}
use Rattle.alloc_log.specs.Runs.{Run, runs, runs_from, ending}
use Rattle.alloc_log.specs.Compress.{run_words, runs_words, compressed}
use Rattle.alloc_log.specs.Tool.{
  readable,
  marks_of,
  held_at_end,
  every_reply,
  read_reply,
  alike?,
  judged,
  turned_away,
  compare_verdict,
  compact_words,
  compact_conditions,
  compact_reply,
}
use Rattle.alloc_log.proofs.Loops.{held_no}
use Rattle.alloc_log.proofs.MarksFacts.{zeros}
use Rattle.alloc_log.proofs.Writing.{length_word, length_bytes}
use Rattle.alloc_log.proofs.RoundTrip.{words_bytes, compressed_fits}
use Rattle.alloc_log.proofs.AlikeFacts.{compressed_alike}
use Rattle.alloc_log.proofs.Appending.{words_append}
use Rattle.alloc_log.proofs.Settling.{UpTo, up_is, up_none, words_count, settled_count, words_split, front_words, none_cut}

-- ── what is settled ──

-- what `settled` gives is what is settled
pub settled_is : (log : List ℕ) → SettledIs log (settled log)
unfolding settled words
settled_is log =
    let ws : List ℕ = words log in
    let k : ℕ = up_to_barrier ws in
    let u : UpTo ws k = up_is ws in
    let h : 8 * k ≤ length log = omega (arith, words_count log, u.most) in
    let w : 8 * k % 8 ≡ 0 = omega arith in
    let f : List ℕ = words (take (8 * k) log) in
    let e : ws ≡ f ++ words (drop (8 * k) log) = words_split log (8 * k) h w in
    let n : length f ≡ k = omega (arith, front_words log (8 * k) h w) in
    record {
      rest = drop (8 * k) log;
      split = sym (take-append-drop (8 * k) log);
      whole = rw (length-take-le (8 * k) log h) w;
      ends = cases u.ends
          (λ z. inl (ap (λ (i : ℕ). take (8 * i) log) z))
          (λ t. inr (t.0, sym (ap (take k) e ∙ take_at f (words (drop (8 * k) log)) k n) ∙ t.1));
      behind = subst NoBarrier (ap (drop k) e ∙ drop_at f (words (drop (8 * k) log)) k n) u.behind;
    }

-- and nothing else is
pub settled_only : (log part : List ℕ) → SettledIs log part → part ≡ settled log
unfolding settled
settled_only log part s =
    sym (ap (λ (l : List ℕ). take (8 * up_to_barrier (words log)) l) s.split ∙ take_at part s.rest _ (sym (settled_count log part s)))

-- a log that is settled stays so whatever stands behind it, if none of it is a barrier
pub settled_with : (log part tail : List ℕ) → SettledIs log part → NoBarrier (words tail) → settled (part ++ tail) ≡ part
settled_with log part tail s n =
    sym (settled_only (part ++ tail) part record { rest = tail; split = refl; whole = s.whole; ends = s.ends; behind = n })

-- what is settled is settled as a whole
pub settled_again : (log : List ℕ) → settled (settled log) ≡ settled log
unfolding words
settled_again log = ap settled (sym (append-nil (settled log))) ∙ settled_with log (settled log) [] (settled_is log) tt

-- ── reading ──

-- READING JUDGES WHAT IS SETTLED, AS EVER
pub settled_judged : (g : Geometry) (log out : List ℕ) → read_reply g log out ≡ every_reply g (settled log) out
unfolding read_reply
settled_judged g log out = refl

-- where there is no barrier nothing is settled
pub none_settled : (log : List ℕ) → NoBarrier (words log) → settled log ≡ []
unfolding settled
none_settled log n = rw (up_none (words log) n)

-- no words hold no block
passing_none : (t : ℕ → Bool) (b n : ℕ) → ((i : ℕ) → t i ≡ false) → passing t b n ≡ []
passing_none t b zero f = refl
passing_none t b (suc n) f = rw (f b) (passing_none t (suc b) n f)

nothing_held : (g : Geometry) → held_at_end g [] ≡ []
unfolding held_at_end held_blocks marks_of read_log words ended free
nothing_held g = passing_none _ 0 (blocks g) (λ i. held_no free i (zeros 2048 i))

nothing_readable : (g : Geometry) → readable g [] ≡ true
unfolding readable read_log words ended
nothing_readable g = refl

-- a log that is readable as a whole is accepted, with the blocks that it holds
pub every_accepted : (g : Geometry) (log out : List ℕ) → Inside g → 2 * blocks g + 64 ≤ length out → readable g log ≡ true
    → every_reply g log out ≡ accepted (held_at_end g log)
unfolding every_reply
every_accepted g log out i h r = rw (inside_fits g i, le-ltb (length out) (2 * blocks g + 64) h, r)

-- WITH NO BARRIER A LOG RECORDS NOTHING, whatever its bytes are
pub none_recorded : (g : Geometry) (log out : List ℕ) → Inside g → 2 * blocks g + 64 ≤ length out → NoBarrier (words log) → read_reply g log out ≡ accepted []
none_recorded g log out i h n =
    settled_judged g log out
    ∙ ap (λ (l : List ℕ). every_reply g l out) (none_settled log n)
    ∙ every_accepted g [] out i h (nothing_readable g)
    ∙ ap accepted (nothing_held g)

-- THE BYTES BEHIND THE LAST BARRIER ARE NOT JUDGED: any others in their place read to the same, as long as no word of them is a barrier
pub tail_unjudged : (g : Geometry) (part tail other out : List ℕ) → SettledIs (part ++ tail) part → NoBarrier (words other)
    → read_reply g (part ++ tail) out ≡ read_reply g (part ++ other) out
tail_unjudged g part tail other out s n =
    settled_judged g (part ++ tail) out
    ∙ ap (λ (l : List ℕ). every_reply g l out) (sym (settled_only (part ++ tail) part s) ∙ sym (settled_with (part ++ tail) part other s n))
    ∙ sym (settled_judged g (part ++ other) out)

-- ── what stands behind a log of whole words ──

-- a log that is empty, or ends with a barrier, is what is settled of it and of bytes behind it of which no word is a barrier
pub settled_append : (log tail : List ℕ) → length log % 8 ≡ 0 → NoBarrier (words tail)
    → (log ≡ []) ⊎ ((early : List ℕ) × (words log ≡ early ++ (barrier ∷ []))) → settled (log ++ tail) ≡ log
settled_append log tail w n e = sym (settled_only (log ++ tail) log record { rest = tail; split = refl; whole = w; ends = e; behind = n })

-- wherever these bytes are cut short
pub settled_cut : (log tail : List ℕ) (k : ℕ) → length log % 8 ≡ 0 → NoBarrier (words tail)
    → (log ≡ []) ⊎ ((early : List ℕ) × (words log ≡ early ++ (barrier ∷ []))) → settled (log ++ take k tail) ≡ log
settled_cut log tail k w n e = settled_append log (take k tail) w (none_cut tail k n) e

-- a barrier settles the log before it
pub settled_barrier : (log tail : List ℕ) → length log % 8 ≡ 0 → NoBarrier (words tail)
    → settled (log ++ (word_bytes barrier ++ tail)) ≡ log ++ word_bytes barrier
unfolding word_bytes words spell
settled_barrier log tail w n =
    ap settled (sym (append_assoc log (word_bytes barrier) tail))
    ∙ settled_append (log ++ word_bytes barrier) tail (omega (arith, length-append log (word_bytes barrier), length_word barrier)) n
    (inr (words log, words_append log (word_bytes barrier) w))

-- an empty log, or one that ends with a barrier, is settled as a whole
pub settled_whole : (log : List ℕ) → length log % 8 ≡ 0 → (log ≡ []) ⊎ ((early : List ℕ) × (words log ≡ early ++ (barrier ∷ []))) → settled log ≡ log
unfolding words
settled_whole log w e = ap settled (sym (append-nil log)) ∙ settled_append log [] w tt e

-- ── compressing ──

-- the words of a compressed log end with a barrier
runs_end : (l : List Run) → (early : List ℕ) × (runs_words l ≡ early ++ (barrier ∷ []))
unfolding runs_words
runs_end [] = ([], refl)
runs_end (r ∷ l) =
    let t = runs_end l in
    let f : List ℕ = run_words r.0 r.1 in
    (f ++ t.0, ap (λ (k : List ℕ). f ++ k) t.1 ∙ sym (append_assoc f t.0 (barrier ∷ [])))

-- so all of it is settled
compressed_settled : (arenas per : ℕ) → 0 < per → arenas * per ≤ 2048 → (held : ℕ → Bool)
    → settled (bytes_of (compressed arenas per held)) ≡ bytes_of (compressed arenas per held)
unfolding compressed
compressed_settled arenas per p q held =
    let ws : List ℕ = compressed arenas per held in
    let t = runs_end (runs per held (arenas * per)) in
    settled_whole (bytes_of ws) (omega (arith, length_bytes ws)) (inr (t.0, words_bytes ws (compressed_fits arenas per p q held) ∙ t.1))

-- A COMPRESSED LOG READS TO WHAT EVERY WORD OF THE OLD ONE GAVE, be it read up to its last barrier or whole
pub compressed_gives : (g : Geometry) (log out : List ℕ) → Inside g → 2 * blocks g + 64 ≤ length out → readable g log ≡ true
    → (read_reply g (bytes_of (compact_words g log)) out ≡ accepted (held_at_end g log))
    × (every_reply g (bytes_of (compact_words g log)) out ≡ accepted (held_at_end g log))
unfolding compact_words
compressed_gives g log out i h r =
    let new : List ℕ = bytes_of (compact_words g log) in
    let a = compressed_alike g log i r in
    let e : every_reply g new out ≡ accepted (held_at_end g log) = every_accepted g new out i h a.1 ∙ ap accepted (sym a.2) in (
      settled_judged g new out
          ∙ ap (λ (l : List ℕ). every_reply g l out) (compressed_settled g.arenas g.per i.per_least i.blocks_most (held_in (marks_of g log)))
          ∙ e,
      e,
    )

-- COMPRESSING IS REFUSED WITH 7 EXACTLY IF THE WHOLE LOG IS UNREADABLE, in a store that can be, with room for any log
pub compact_refuses : (g : Geometry) (log out : List ℕ) → (compact_reply g log out ≡ refused 7)
    ↔ ((fits g ≡ true) × (8 * g.words ≤ length out) × (readable g log ≡ false))
unfolding compact_reply
compact_refuses g log out = (
  λ e.
      let d = decide_refused (compact_conditions g log out) (length (compact_words g log) ∷ []) 0 7 (omega arith, (omega arith, (omega arith, tt))) e in
      let n = d.1 in (
        not-false (fits g) (n.0 (omega arith)),
        ltb-false (length out) (8 * g.words) (n.1.0 (omega arith)),
        cases d.0 (λ y. absurd (let z : ⊥ = omega (arith, y.0) in z))
            (λ y. cases y (λ z. absurd (let x : ⊥ = omega (arith, z.0) in x)) (λ z. cases z (λ x. not-true (readable g log) x.1) (λ x. absurd x))),
      ),
  λ w. rw (w.0, le-ltb (length out) (8 * g.words) w.1, w.2),
)

-- ── worked examples, in a store of one arena of 2 blocks: where reading up to the last barrier, or every word, makes a difference ──

abbrev small : Geometry
small = geometry_of 1 2 1 1 1 6

-- words as bytes: block 0 is allocated; a run from block 0 on is allocated; a barrier; no word of a log
abbrev first : List ℕ
first = 0 ∷ 0 ∷ 0 ∷ 0 ∷ 0 ∷ 0 ∷ 0 ∷ 1 ∷ []

abbrev run : List ℕ
run = 0 ∷ 0 ∷ 0 ∷ 0 ∷ 0 ∷ 0 ∷ 0 ∷ 4 ∷ []

abbrev stop : List ℕ
stop = 0 ∷ 0 ∷ 0 ∷ 0 ∷ 0 ∷ 0 ∷ 0 ∷ 3 ∷ []

abbrev bad : List ℕ
bad = 7 ∷ 7 ∷ 7 ∷ 7 ∷ 7 ∷ 7 ∷ 7 ∷ 7 ∷ []

-- with any result buffer of 2 × 2 + 64 numbers or more, and any buffer of 6 words or more
pub record EveryWord : Type 0 where
  -- comparing counts every word: a block that no barrier settles is held, and a bad word behind the barrier is bad
  pub compare_unsettled : compare_verdict small first [] ≡ judged false
  pub compare_behind : compare_verdict small (stop ++ bad) stop ≡ turned_away 7
  -- so does compressing: what no barrier settles is in the compressed log, and settled there
  pub compact_unsettled : compact_words small first ≡ 1 ∷ 3 ∷ []
  pub compact_two : (out : List ℕ) → 48 ≤ length out → compact_reply small first out ≡ accepted (2 ∷ [])
  pub compact_reads : (out : List ℕ) → 68 ≤ length out → read_reply small (bytes_of (compact_words small first)) out ≡ accepted (0 ∷ [])
  pub compact_behind : (out : List ℕ) → 48 ≤ length out → compact_reply small (stop ++ bad) out ≡ refused 7
  -- reading counts what is settled
  pub read_unsettled : (out : List ℕ) → 68 ≤ length out → read_reply small first out ≡ accepted []
  pub read_behind : (out : List ℕ) → 68 ≤ length out → read_reply small (first ++ (stop ++ (bad ++ (9 ∷ 9 ∷ [])))) out ≡ accepted (0 ∷ [])
  -- up to the last barrier, not to the first
  pub read_last : (out : List ℕ) → 68 ≤ length out → read_reply small (stop ++ (first ++ stop)) out ≡ accepted (0 ∷ [])
  -- a word equal to 3 settles what stands before it in the place of a length too, and is then judged as one
  pub read_length : (out : List ℕ) → 68 ≤ length out → read_reply small (run ++ stop) out ≡ refused 7

comparing : (compare_verdict small first [] ≡ judged false) × (compare_verdict small (stop ++ bad) stop ≡ turned_away 7)
unfolding words spell mark_run read_log free by_progress first_word by_code ended readable marks_of alike? compare_verdict fits within
comparing = (refl, refl)

compressing : compact_words small first ≡ 1 ∷ 3 ∷ []
unfolding words spell mark_run read_log free by_progress first_word by_code ended marks_of held_in compact_words compressed runs_words runs runs_from ending
compressing = refl

-- what a log whose words are readable compresses to, and what bytes read to of which such a log is settled
compacts_to : (l ws : List ℕ) → readable small l ≡ true → compact_words small l ≡ ws → (out : List ℕ) → 48 ≤ length out
    → compact_reply small l out ≡ accepted (length ws ∷ [])
unfolding compact_reply fits within
compacts_to l ws r e out h = rw (le-ltb (length out) 48 h, r, e)

compacts_not : (l : List ℕ) → readable small l ≡ false → (out : List ℕ) → 48 ≤ length out → compact_reply small l out ≡ refused 7
unfolding compact_reply fits within
compacts_not l r out h = rw (le-ltb (length out) 48 h, r)

reads_to : (l held : List ℕ) → readable small (settled l) ≡ true → held_at_end small (settled l) ≡ held → (out : List ℕ) → 68 ≤ length out
    → read_reply small l out ≡ accepted held
unfolding every_reply fits within
reads_to l held r e out h = settled_judged small l out ∙ rw (le-ltb (length out) 68 h, r, e)

reads_not : (l : List ℕ) → readable small (settled l) ≡ false → (out : List ℕ) → 68 ≤ length out → read_reply small l out ≡ refused 7
unfolding every_reply fits within
reads_not l r out h = settled_judged small l out ∙ rw (le-ltb (length out) 68 h, r)

-- the bytes of the compressed log
new_bytes : bytes_of (compact_words small first) ≡ first ++ stop
unfolding word_bytes
new_bytes = ap bytes_of compressing

pub every_word : EveryWord
unfolding settled up_to_barrier words spell mark_run read_log free by_progress first_word second_word by_code ended readable held_at_end marks_of held_blocks held_in
every_word = record {
  compare_unsettled = comparing.0;
  compare_behind = comparing.1;
  compact_unsettled = compressing;
  compact_two = compacts_to first (1 ∷ 3 ∷ []) refl compressing;
  compact_reads = λ out h. ap (λ (l : List ℕ). read_reply small l out) new_bytes ∙ reads_to (first ++ stop) (0 ∷ []) refl refl out h;
  compact_behind = compacts_not (stop ++ bad) refl;
  read_unsettled = reads_to first [] refl refl;
  read_behind = reads_to (first ++ (stop ++ (bad ++ (9 ∷ 9 ∷ [])))) (0 ∷ []) refl refl;
  read_last = reads_to (stop ++ (first ++ stop)) (0 ∷ []) refl refl;
  read_length = reads_not (run ++ stop) refl;
}
