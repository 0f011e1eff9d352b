-- A compressed log reads to the blocks that it was made from, and has at most one word more than there are blocks.
use Rattle.std.proofs.Common.{
  ◌≡◌,
  Option,
  Some,
  None,
  ℕ,
  zero,
  suc,
  ◌+◌,
  ◌-◌,
  ◌*◌,
  ◌/◌,
  ◌%◌,
  ◌^◌,
  ◌<◌,
  ◌≤◌,
  Bool,
  true,
  false,
  eqb,
  leb,
  List,
  [],
  ◌∷◌,
  ◌++◌,
  length,
  sym,
  refl,
  ap,
  ◌∙◌,
  subst,
  ap₂,
  add-zero,
  mul-zero,
  div-add-mod',
  arith,
  length-append,
  leb-false,
  leb-true,
}
use Rattle.std.specs.Bool.{then_some}
use mathlib.Core.List.{foldl-append}
use native.Mathlib.Nat.{div-div-eq-div-mul}
use Rattle.answer.proofs.Cases.{cases, lt?}
use Rattle.alloc_log.specs.Word.{spell, word_bytes, bytes_of, words, length_of}
use Rattle.alloc_log.specs.Marks.{mark_run, held_in, marks_for, Table}
use Rattle.alloc_log.specs.Read.{State, RunInside, changed, by_code, first_word, second_word, by_progress, read_word, read_words, free, Result, ended, read_log}
use Rattle.alloc_log.specs.Runs.{runs, runs_from, ending, Longest}
use Rattle.alloc_log.specs.Compress.{run_words, runs_words, compressed}
use Rattle.alloc_log.specs.declared.read.Progress.{Progress}
use Rattle.alloc_log.specs.declared.read.Progress.TheVariants.{Ready, Run as Waits}
use Rattle.alloc_log.proofs.Reading.{cond_all, result_is}
use Rattle.alloc_log.proofs.Writing.{length_bytes, entry_length}
use Rattle.alloc_log.proofs.Arith.{run_inside}
use Rattle.alloc_log.proofs.RunsFacts.{runs_walk}
use Rattle.alloc_log.proofs.MarksFacts.{marked, marks_rest, marks_skip, marks_run, table_is, all_free, table_run}
use Rattle.alloc_log.proofs.Steps.{one_word_lem, run_word_lem, barrier_word, size_word}

-- ── bytes and words ──

-- a byte more
digit : (w n : ℕ) → w / (n * 256) * 256 + w / n % 256 ≡ w / n
digit w n = ap (λ (x : ℕ). x * 256 + w / n % 256) (sym (div-div-eq-div-mul w n 256)) ∙ div-add-mod' (w / n) 256

spelled : (w : ℕ) → w < 2 ^ 64
    → spell (w / 0x100_0000_0000_0000 % 256) (w / 0x1_0000_0000_0000 % 256) (w / 0x100_0000_0000 % 256) (w / 0x1_0000_0000 % 256) (w / 0x100_0000 % 256)
    (w / 0x1_0000 % 256) (w / 0x100 % 256) (w % 256) ≡ w
unfolding spell
spelled w h =
    let t : w / 0x100_0000_0000_0000 % 256 ≡ w / 0x100_0000_0000_0000 = omega arith in
    simp (
      t,
      digit w 0x1_0000_0000_0000,
      digit w 0x100_0000_0000,
      digit w 0x1_0000_0000,
      digit w 0x100_0000,
      digit w 0x1_0000,
      digit w 0x100,
      div-add-mod' w 256,
    )

-- each word fits into eight bytes
unfoldable pub AllFit : List ℕ → Type 0
AllFit [] = Unit {0}
AllFit (w ∷ ws) = (w < 2 ^ 64) × AllFit ws

fit_append : (ws vs : List ℕ) → AllFit ws → AllFit vs → AllFit (ws ++ vs)
unfolding AllFit
fit_append [] vs h k = k
fit_append (w ∷ ws) vs h k = (h.0, fit_append ws vs h.1 k)

pub words_bytes : (ws : List ℕ) → AllFit ws → words (bytes_of ws) ≡ ws
unfolding words word_bytes AllFit
words_bytes [] h = refl
words_bytes (w ∷ ws) h = ap₂ (λ (x : ℕ) (xs : List ℕ). x ∷ xs) (spelled w h.0) (words_bytes ws h.1)

-- ── the compressed log ──

module _ (arenas per : ℕ) (p : 0 < per) (q : arenas * per ≤ 2048) (held : ℕ → Bool) where
  -- the state with the blocks below k read
  abbrev At : ℕ → State
  At k = (Some Ready, marks_for held k)

  run_marked : (s k : ℕ) → ((b : ℕ) → s ≤ b → b < s + k → held b ≡ true) → mark_run (marks_for held s) s k true ≡ (true, marks_for held (s + k))
  run_marked s k f = marked (marks_for held s) s k true (λ i h. marks_rest held s (s + i) (omega arith)) ∙ ap (λ (l : List ℕ). (true, l)) (marks_run held s k f)

  read_run : (s k : ℕ) → Longest per held (arenas * per) s k → read_words arenas per (At s) (run_words s k) ≡ At (s + k)
  unfolding by_progress
  read_run s zero w = ap At (sym (add-zero s))
  read_run s (suc zero) w =
      one_word_lem (arenas * per) (marks_for held s) s true (omega (arith, w.inside)) ∙ ap changed (run_marked s 1 w.all)
  read_run s (suc (suc k)) w =
      ap (λ (t : State). read_word arenas per t (length_of (suc (suc k)))) (run_word_lem (arenas * per) (marks_for held s) s true (omega (arith, w.inside)))
      ∙ size_word per (marks_for held s) true s (suc (suc k)) (omega arith) w.edge
      ∙ ap changed (run_marked s (suc (suc k)) w.all)

  read_compressed : read_words arenas per (At 0) (compressed arenas per held) ≡ At (arenas * per)
  unfolding compressed runs_words by_progress
  read_compressed =
      runs_walk per p held (arenas * per) (λ b l. read_words arenas per (At b) (runs_words l) ≡ At (arenas * per))
      (barrier_word (arenas * per) (marks_for held (arenas * per)))
      (λ b l h e r. ap (λ (m : List ℕ). read_words arenas per (Some Ready, m) (runs_words l)) (marks_skip held b e) ∙ r)
      (λ s k l w r.
      foldl-append (read_word arenas per) (At s) (run_words s k) (runs_words l)
      ∙ ap (λ (t : State). read_words arenas per t (runs_words l)) (read_run s k w)
      ∙ r)

  fit_run : (s k : ℕ) → s + k ≤ 2048 → AllFit (run_words s k)
  unfolding AllFit
  fit_run s zero h = tt
  fit_run s (suc zero) h = (omega arith, tt)
  fit_run s (suc (suc k)) h = (omega arith, (omega arith, tt))

  pub compressed_fits : AllFit (compressed arenas per held)
  unfolding compressed runs_words AllFit
  compressed_fits =
      runs_walk per p held (arenas * per) (λ b l. AllFit (runs_words l)) (omega arith, tt) (λ b l h e r. r)
      (λ s k l w r. fit_append (run_words s k) (runs_words l) (fit_run s k (omega (arith, w.inside))) r)

  -- THE ROUND TRIP: a compressed log reads to exactly the held blocks
  pub compressed_read : read_log arenas per (bytes_of (compressed arenas per held)) ≡ (true, marks_for held (arenas * per))
  unfolding ended free marks_for
  compressed_read =
      let ws : List ℕ = compressed arenas per held in
      let l : length (bytes_of ws) ≡ 8 * length ws = length_bytes ws in
      result_is arenas per (bytes_of ws) (Some Ready) (marks_for held (arenas * per)) (omega arith)
      (sym (ap (read_words arenas per (Some Ready, free)) (words_bytes ws compressed_fits) ∙ read_compressed))

length_runs : (arenas per : ℕ) → 0 < per → (held : ℕ → Bool) → length (compressed arenas per held) + 0 ≤ arenas * per + 1
unfolding compressed runs_words
length_runs arenas per p held =
    runs_walk per p held (arenas * per) (λ b l. length (runs_words l) + b ≤ arenas * per + 1) (omega arith) (λ b l h e r. omega arith)
    (λ s k l w r. omega (arith, length-append (run_words s k) (runs_words l), entry_length s k))

-- "It needs at most N + 1 words" (6.8)
pub compressed_length : (arenas per : ℕ) (held : ℕ → Bool) → length (compressed arenas per held) ≤ arenas * per + 1
unfolding compressed runs_words runs runs_from ending
compressed_length arenas per held =
    cases (lt? 0 per)
    (λ p. omega (arith, length_runs arenas per p held))
    (λ p. let e : per ≡ 0 = omega arith in rw (e, mul-zero arenas) (omega arith))

-- ── reading gives tables of marks ──

module _ (arenas per : ℕ) (p : 0 < per) where
  -- the marks are a table, and a run that waits for its length starts at one of the blocks
  abbrev pub Good : State → Type 0
  Good s = RunInside (arenas * per) s.0 × Table (arenas * per) s.1

  in_range : (t : Bool) → RunInside (arenas * per) (then_some t Ready)
  in_range true = tt
  in_range false = tt

  good_run : (m : List ℕ) (b k : ℕ) (held : Bool) → Table (arenas * per) m → b + k ≤ arenas * per → Good (changed (mark_run m b k held))
  good_run m b k held t h = (in_range (mark_run m b k held).0, table_run (arenas * per) m b k held t h)

  good_code : (m : List ℕ) (low b : ℕ) → Table (arenas * per) m → b < arenas * per → Good (by_code m low b)
  unfolding by_code
  good_code m low b t h =
      cond_all Good (eqb low 1) _ _ (λ _. good_run m b 1 true t (omega arith))
      (λ _. cond_all Good (eqb low 2) _ _ (λ _. good_run m b 1 false t (omega arith))
      (λ _. cond_all Good (eqb low 4) _ _ (λ _. (h, t)) (λ _. cond_all Good (eqb low 5) _ _ (λ _. (h, t)) (λ _. (tt, t)))))

  good_first : (m : List ℕ) (w : ℕ) → Table (arenas * per) m → Good (first_word (arenas * per) m w)
  unfolding first_word
  good_first m w t =
      cond_all Good (eqb (w % 256) 3) _ _ (λ _. cond_all Good (eqb (w - w % 256) 0) _ _ (λ _. (tt, t)) (λ _. (tt, t)))
      (λ _. cond_all Good (eqb ((w - w % 256) % 16384) 0) _ _
      (λ _. cond_all Good (leb (arenas * per) ((w - w % 256) / 16384)) _ _ (λ _. (tt, t)) (λ e. good_code m _ _ t (leb-false _ _ e)))
      (λ _. (tt, t)))

  good_second : (m : List ℕ) (held : Bool) (b w : ℕ) → Table (arenas * per) m → b < arenas * per → Good (second_word per m held b w)
  unfolding second_word
  good_second m held b w t h =
      cond_all Good (eqb w 0) _ _ (λ _. (tt, t))
      (λ _. cond_all Good (eqb (w % 16384) 0) _ _
      (λ _. cond_all Good (leb (b % per + w / 16384) per) _ _
      (λ e. good_run m b (w / 16384) held t (run_inside b (w / 16384) arenas per p h (leb-true _ _ e)))
      (λ _. (tt, t)))
      (λ _. (tt, t)))

  pub good_word : (s : Option Progress) (m : List ℕ) (w : ℕ) → Good (s, m) → Good (read_word arenas per (s, m) w)
  unfolding by_progress
  good_word (Some Ready) m w g = good_first m w g.1
  good_word (Some (Waits held b)) m w g = good_second m held b w g.1 g.0
  good_word None m w g = g

  pub good_words : (s : State) (ws : List ℕ) → Good s → Good (read_words arenas per s ws)
  good_words s [] g = g
  good_words s (w ∷ ws) g = good_words (read_word arenas per s w) ws (good_word s.0 s.1 w g)

  pub free_table : Table (arenas * per) free
  unfolding free
  free_table = all_free (arenas * per)

  ended_table : (s : Option Progress) (m : List ℕ) → Table (arenas * per) m → Table (arenas * per) (ended s m).1
  unfolding ended
  ended_table (Some Ready) m t = t
  ended_table (Some (Waits held b)) m t = free_table
  ended_table None m t = free_table

  -- reading any bytes gives a table
  pub read_table : (l : List ℕ) → Table (arenas * per) (read_log arenas per l).1
  unfolding read_log
  read_table l =
      cond_all (λ (r : Result). Table (arenas * per) r.1) (eqb (length l % 8) 0) _ _
      (λ _. let s : State = read_words arenas per (Some Ready, free) (words l) in
      ended_table s.0 s.1 (good_words (Some Ready, free) (words l) (tt, free_table)).1)
      (λ _. free_table)

  pub readable_marks : (l m : List ℕ) → read_log arenas per l ≡ (true, m) → Table (arenas * per) m
  readable_marks l m e = subst (λ (r : Result). Table (arenas * per) r.1) e (read_table l)

  -- a compressed log reads to the same held blocks as the log that it was made from
  pub compressed_same : arenas * per ≤ 2048 → (l m : List ℕ) → read_log arenas per l ≡ (true, m)
      → read_log arenas per (bytes_of (compressed arenas per (held_in m))) ≡ (true, m)
  compressed_same q l m e =
      compressed_read arenas per p q (held_in m)
      ∙ ap (λ (k : List ℕ). (true, k)) (sym (table_is (arenas * per) m (held_in m) q (readable_marks l m e) (λ b h. refl)))
