-- Words behind a readable log: what the log then reads to. First in marks, then in terms of which blocks are held.
use Rattle.std.proofs.Common.{
  ◌≡◌,
  Option,
  Some,
  None,
  ℕ,
  ◌+◌,
  ◌*◌,
  ◌%◌,
  ◌^◌,
  ◌<◌,
  ◌≤◌,
  Bool,
  true,
  false,
  not,
  eqb,
  List,
  [],
  ◌∷◌,
  ◌++◌,
  length,
  get_or,
  set,
  sym,
  refl,
  ap,
  ◌∙◌,
  arith,
  length-append,
  get_or-set_other,
  get_or-set_same,
  eqb-true,
}
use mathlib.Core.Bool.{false≢true}
use mathlib.Core.List.{foldl-append}
use Rattle.answer.proofs.Cases.{cases, same?}
use Rattle.alloc_log.specs.Word.{spell, bytes_of, words, allocated, released, barrier}
use Rattle.alloc_log.specs.Marks.{mark_of, mark_run, held_in, marks_for}
use Rattle.alloc_log.specs.Read.{State, changed, by_progress, read_word, read_words, free, Result, ended, end_of, read_log, Reads}
use Rattle.alloc_log.specs.Compress.{compressed}
use Rattle.alloc_log.specs.declared.read.Progress.{Progress}
use Rattle.alloc_log.specs.declared.read.Progress.TheVariants.{Ready, Run}
use Rattle.alloc_log.proofs.Reading.{cond_all, result_is}
use Rattle.alloc_log.proofs.Writing.{length_bytes}
use Rattle.alloc_log.proofs.MarksFacts.{zeros, marked, not_marked, marks_held, held_by_mark, table_mark}
use Rattle.alloc_log.proofs.Steps.{one_word, one_word_lem, barrier_word}
use Rattle.alloc_log.proofs.RoundTrip.{AllFit, words_bytes, read_table, compressed_read}

-- whole words in front stay words
pub words_append : (l k : List ℕ) → length l % 8 ≡ 0 → words (l ++ k) ≡ words l ++ words k
unfolding words
words_append [] k h = refl
words_append (a ∷ []) k h = absurd (omega arith)
words_append (a ∷ b ∷ []) k h = absurd (omega arith)
words_append (a ∷ b ∷ c ∷ []) k h = absurd (omega arith)
words_append (a ∷ b ∷ c ∷ d ∷ []) k h = absurd (omega arith)
words_append (a ∷ b ∷ c ∷ d ∷ e ∷ []) k h = absurd (omega arith)
words_append (a ∷ b ∷ c ∷ d ∷ e ∷ f ∷ []) k h = absurd (omega arith)
words_append (a ∷ b ∷ c ∷ d ∷ e ∷ f ∷ g ∷ []) k h = absurd (omega arith)
words_append (a ∷ b ∷ c ∷ d ∷ e ∷ f ∷ g ∷ i ∷ rest) k h = ap (λ (ws : List ℕ). spell a b c d e f g i ∷ ws) (words_append rest k (omega arith))

-- ── a readable log: its length, and its last state ──

ready_of : (p : Option Progress) (l m : List ℕ) → ended p l ≡ (true, m) → ◌≡◌ {A = State} (p, l) (Some Ready, m)
unfolding ended
ready_of (Some Ready) l m e = ap (λ (r : Result). (Some Ready, r.1)) e
ready_of (Some (Run held b)) l m e = let z : false ≡ true = ap (λ (r : Result). r.0) e in absurd (false≢true z)
ready_of None l m e = let z : false ≡ true = ap (λ (r : Result). r.0) e in absurd (false≢true z)

pub is_ready : (arenas per : ℕ) (l m : List ℕ) → read_log arenas per l ≡ (true, m)
    → (length l % 8 ≡ 0) × (read_words arenas per (Some Ready, free) (words l) ≡ (Some Ready, m))
unfolding read_log
is_ready arenas per l m =
    let s : State = read_words arenas per (Some Ready, free) (words l) in
    cond_all (λ (r : Result). r ≡ (true, m) → (length l % 8 ≡ 0) × (s ≡ (Some Ready, m))) (eqb (length l % 8) 0) (end_of s) (false, free)
    (λ t e. (eqb-true _ _ t, ready_of s.0 s.1 m e))
    (λ t e. absurd (false≢true (ap (λ (r : Result). r.0) e)))

-- ── words behind a readable log ──

module _ (arenas per : ℕ) (l m : List ℕ) (e : read_log arenas per l ≡ (true, m)) where
  pub length_behind : (ws : List ℕ) → length (l ++ bytes_of ws) % 8 ≡ 0
  length_behind ws =
      let a = length-append l (bytes_of ws) in
      let b = length_bytes ws in
      let c = (is_ready arenas per l m e).0 in
      omega arith

  pub state_behind : (ws : List ℕ) → AllFit ws → read_words arenas per (Some Ready, free) (words (l ++ bytes_of ws)) ≡ read_words arenas per (Some Ready, m) ws
  state_behind ws f =
      let r = is_ready arenas per l m e in
      ap (read_words arenas per (Some Ready, free)) (words_append l (bytes_of ws) r.0 ∙ ap (λ (vs : List ℕ). words l ++ vs) (words_bytes ws f))
      ∙ foldl-append (read_word arenas per) (Some Ready, free) (words l) ws
      ∙ ap (λ (t : State). read_words arenas per t ws) r.1

  pub words_behind : (ws : List ℕ) → AllFit ws → read_log arenas per (l ++ bytes_of ws) ≡ end_of (read_words arenas per (Some Ready, m) ws)
  words_behind ws f =
      let s : State = read_words arenas per (Some Ready, m) ws in
      result_is arenas per (l ++ bytes_of ws) s.0 s.1 (length_behind ws) (sym (state_behind ws f))

pub word_behind : (arenas per : ℕ) (l m : List ℕ) (w : ℕ) → w < 2 ^ 64 → read_log arenas per l ≡ (true, m)
    → read_log arenas per (l ++ bytes_of (w ∷ [])) ≡ end_of (read_word arenas per (Some Ready, m) w)
unfolding AllFit
word_behind arenas per l m w h e = words_behind arenas per l m e (w ∷ []) (h, tt)

module _ (arenas per : ℕ) (q : arenas * per ≤ 2048) (l m : List ℕ) (e : read_log arenas per l ≡ (true, m)) where
  -- one block changes its state, where it is in the other one
  one_behind : (held : Bool) (b : ℕ) → b < arenas * per → read_log arenas per (l ++ bytes_of (one_word held b ∷ [])) ≡ end_of (changed (mark_run m b 1 held))
  unfolding by_progress
  one_behind held b h = word_behind arenas per l m (one_word held b) (fits held) e ∙ ap end_of (one_word_lem (arenas * per) m b held h)
    where
      fits : (t : Bool) → one_word t b < 2 ^ 64
      fits true = omega arith
      fits false = omega arith

  one_done : (held : Bool) (b : ℕ) → b < arenas * per → get_or m b 0 ≡ mark_of (not held)
      → read_log arenas per (l ++ bytes_of (one_word held b ∷ [])) ≡ (true, set m b (mark_of held))
  unfolding ended
  one_done held b h z =
      one_behind held b h ∙ ap (λ c. end_of (changed c)) (marked m b 1 held (λ i k. let d : b + i ≡ b = omega arith in rw d z))

  one_refused : (held : Bool) (b : ℕ) → b < arenas * per → get_or m b 0 ≡ mark_of held
      → read_log arenas per (l ++ bytes_of (one_word held b ∷ [])) ≡ (false, free)
  unfolding ended
  one_refused held b h z =
      one_behind held b h ∙ ap (λ c. end_of (changed c)) (not_marked m b 1 0 held (omega arith) (let d : b + 0 ≡ b = omega arith in rw d z))

  pub read_allocated : (b : ℕ) → b < arenas * per → get_or m b 0 ≡ 0 → read_log arenas per (l ++ bytes_of (allocated b ∷ [])) ≡ (true, set m b 1)
  read_allocated = one_done true

  pub read_released : (b : ℕ) → b < arenas * per → get_or m b 0 ≡ 1 → read_log arenas per (l ++ bytes_of (released b ∷ [])) ≡ (true, set m b 0)
  read_released = one_done false

  pub allocated_twice : (b : ℕ) → b < arenas * per → get_or m b 0 ≡ 1 → read_log arenas per (l ++ bytes_of (allocated b ∷ [])) ≡ (false, free)
  allocated_twice = one_refused true

  pub released_twice : (b : ℕ) → b < arenas * per → get_or m b 0 ≡ 0 → read_log arenas per (l ++ bytes_of (released b ∷ [])) ≡ (false, free)
  released_twice = one_refused false

  -- "A barrier changes nothing." (6.4)
  pub read_barrier : read_log arenas per (l ++ bytes_of (barrier ∷ [])) ≡ (true, m)
  unfolding by_progress ended
  read_barrier = word_behind arenas per l m barrier (omega arith) e ∙ ap end_of (barrier_word (arenas * per) m)

-- ── the same, in terms of which blocks are held ──

module _ (arenas per : ℕ) (p : 0 < per) (q : arenas * per ≤ 2048) where
  -- what a log that reads to some held blocks gives, and how to show that it does
  result_of : (l : List ℕ) (h : ℕ → Bool) → Reads arenas per l h → read_log arenas per l ≡ (true, (read_log arenas per l).1)
  result_of l h r = ap (λ (t : Bool). (t, (read_log arenas per l).1)) r.readable

  pub reads_marks : (l m : List ℕ) (h : ℕ → Bool) → read_log arenas per l ≡ (true, m) → ((b : ℕ) → b < arenas * per → get_or m b 0 ≡ mark_of (h b))
      → Reads arenas per l h
  reads_marks l m h e f =
      record {
        readable = ap (λ (r : Result). r.0) e;
        marks = λ b k. ap (λ (r : Result). held_in r.1 b) e ∙ held_by_mark m b (h b) (f b k);
      }

  -- the marks of such a log
  pub mark_is : (l : List ℕ) (h : ℕ → Bool) → Reads arenas per l h → (b : ℕ) → b < arenas * per → get_or (read_log arenas per l).1 b 0 ≡ mark_of (h b)
  mark_is l h r b k = table_mark (arenas * per) (read_log arenas per l).1 (read_table arenas per p l) b ∙ ap mark_of (r.marks b k)

  pub reads_nothing : Reads arenas per [] (λ b. false)
  unfolding read_log words ended free
  reads_nothing = reads_marks [] free (λ b. false) refl (λ b k. zeros 2048 b)

  -- one block is given or freed
  reads_one : (t : Bool) (l : List ℕ) (h k : ℕ → Bool) (b : ℕ) → Reads arenas per l h → b < arenas * per → h b ≡ not t → k b ≡ t
      → ((c : ℕ) → (c ≡ b → ⊥) → k c ≡ h c) → Reads arenas per (l ++ bytes_of (one_word t b ∷ [])) k
  reads_one t l h k b r i e f g =
      let m : List ℕ = (read_log arenas per l).1 in
      reads_marks (l ++ bytes_of (one_word t b ∷ [])) (set m b (mark_of t)) k
      (one_done arenas per q l m (result_of l h r) t b i (mark_is l h r b i ∙ ap mark_of e))
      (λ c j. cases (same? c b)
      (λ d. rw d (get_or-set_same m b (mark_of t) 0 (omega (arith, (read_table arenas per p l).size)) ∙ ap mark_of (sym f)))
      (λ d. get_or-set_other m b c (mark_of t) 0 d ∙ mark_is l h r c j ∙ ap mark_of (sym (g c d))))

  pub reads_allocated : (l : List ℕ) (h k : ℕ → Bool) (b : ℕ) → Reads arenas per l h → b < arenas * per → h b ≡ false → k b ≡ true
      → ((c : ℕ) → (c ≡ b → ⊥) → k c ≡ h c) → Reads arenas per (l ++ bytes_of (allocated b ∷ [])) k
  reads_allocated = reads_one true

  pub reads_released : (l : List ℕ) (h k : ℕ → Bool) (b : ℕ) → Reads arenas per l h → b < arenas * per → h b ≡ true → k b ≡ false
      → ((c : ℕ) → (c ≡ b → ⊥) → k c ≡ h c) → Reads arenas per (l ++ bytes_of (released b ∷ [])) k
  reads_released = reads_one false

  pub reads_barrier : (l : List ℕ) (h : ℕ → Bool) → Reads arenas per l h → Reads arenas per (l ++ bytes_of (barrier ∷ [])) h
  reads_barrier l h r =
      let m : List ℕ = (read_log arenas per l).1 in
      reads_marks (l ++ bytes_of (barrier ∷ [])) m h (read_barrier arenas per q l m (result_of l h r)) (mark_is l h r)

  pub reads_compressed : (h : ℕ → Bool) → Reads arenas per (bytes_of (compressed arenas per h)) h
  reads_compressed h =
      reads_marks (bytes_of (compressed arenas per h)) (marks_for h (arenas * per)) h (compressed_read arenas per p q h)
      (λ b k. marks_held h (arenas * per) b q k)

  -- a log has one meaning
  pub reads_same : (l : List ℕ) (h k : ℕ → Bool) → Reads arenas per l h → Reads arenas per l k → (b : ℕ) → b < arenas * per → h b ≡ k b
  reads_same l h k r s b i = sym (r.marks b i) ∙ s.marks b i

  pub reads_ext : (l : List ℕ) (h k : ℕ → Bool) → ((b : ℕ) → b < arenas * per → h b ≡ k b) → Reads arenas per l h → Reads arenas per l k
  reads_ext l h k f r = record { readable = r.readable; marks = λ b i. r.marks b i ∙ f b i }
