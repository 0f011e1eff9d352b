-- Each bad case (6.5) by its name: bytes of that kind, behind a readable log and before any other bytes, are no log.
use Rattle.std.proofs.Common.{
  ◌≡◌,
  Some,
  None,
  ℕ,
  ◌+◌,
  ◌-◌,
  ◌*◌,
  ◌/◌,
  ◌%◌,
  ◌^◌,
  ◌<◌,
  ◌≤◌,
  Bool,
  true,
  false,
  eqb,
  leb,
  List,
  [],
  ◌∷◌,
  ◌++◌,
  length,
  get_or,
  refl,
  ap,
  ◌∙◌,
  arith,
  ne_eqb,
  eqb-true,
  leb-false,
}
use mathlib.Core.List.{foldl-append}
use borrow.Author.Tests.{eqb-false, lt-leb}
use Rattle.answer.proofs.Cases.{cases, lt?}
use Rattle.alloc_log.specs.Word.{bytes_of, words, allocated, released, allocated_run, released_run, length_of}
use Rattle.alloc_log.specs.Marks.{mark_of}
use Rattle.alloc_log.specs.Read.{State, changed, by_code, first_word, second_word, by_progress, read_word, read_words, free, Result, ended, end_of, read_log}
use Rattle.alloc_log.specs.declared.read.Progress.TheVariants.{Ready}
use Rattle.alloc_log.proofs.Reading.{cond_all}
use Rattle.alloc_log.proofs.MarksFacts.{not_marked}
use Rattle.alloc_log.proofs.Steps.{one_word, run_word, one_word_lem, run_word_lem, size_word}
use Rattle.alloc_log.proofs.RoundTrip.{AllFit}
use Rattle.alloc_log.proofs.Appending.{words_append, length_behind, state_behind, word_behind}

-- "a length not a multiple of 8" (6.5)
pub bad_length : (arenas per : ℕ) (l : List ℕ) → 0 < length l % 8 → read_log arenas per l ≡ (false, free)
unfolding read_log
bad_length arenas per l h = rw (ne_eqb (length l % 8) 0 (λ e. omega arith))

-- ── first words ──

module _ (n : ℕ) (m : List ℕ) (w : ℕ) where
  abbrev IsBad : State → Type 0
  IsBad s = s ≡ (None, m)

  code_bad : (1 ≤ w % 256 → w % 256 ≤ 5 → ⊥) → first_word n m w ≡ (None, m)
  unfolding first_word by_code
  code_bad f =
      let other : (c : ℕ) → 1 ≤ c → c ≤ 5 → eqb (w % 256) c ≡ false = λ c h k. ne_eqb (w % 256) c (λ e. f (omega arith) (omega arith)) in
      rw (other 3 (omega arith) (omega arith))
      (cond_all IsBad (eqb ((w - w % 256) % 16384) 0) _ _
      (λ _. cond_all IsBad (leb n ((w - w % 256) / 16384)) _ _
      (λ _. refl)
      (λ _. rw (
        other 1 (omega arith) (omega arith),
        other 2 (omega arith) (omega arith),
        other 4 (omega arith) (omega arith),
        other 5 (omega arith) (omega arith),
      )))
      (λ _. refl))

  barrier_bad : w % 256 ≡ 3 → 0 < w - w % 256 → first_word n m w ≡ (None, m)
  unfolding first_word
  barrier_bad h k =
      cond_all IsBad (eqb (w % 256) 3) _ _
      (λ _. cond_all IsBad (eqb (w - w % 256) 0) _ _
      (λ y. let z = eqb-true (w - w % 256) 0 y in absurd (let v : ⊥ = omega arith in v))
      (λ _. refl))
      (λ y. absurd (eqb-false (w % 256) 3 y h))

  address_bad : 0 < (w - w % 256) % 16384 → first_word n m w ≡ (None, m)
  unfolding first_word
  address_bad h =
      cond_all IsBad (eqb (w % 256) 3) _ _
      (λ _. cond_all IsBad (eqb (w - w % 256) 0) _ _
      (λ y. let z = eqb-true (w - w % 256) 0 y in absurd (let v : ⊥ = omega arith in v))
      (λ _. refl))
      (λ _. cond_all IsBad (eqb ((w - w % 256) % 16384) 0) _ _
      (λ y. let z = eqb-true ((w - w % 256) % 16384) 0 y in absurd (let v : ⊥ = omega arith in v))
      (λ _. refl))

  end_bad : (w % 256 ≡ 3 → ⊥) → n * 16384 ≤ w - w % 256 → first_word n m w ≡ (None, m)
  unfolding first_word
  end_bad f h =
      rw (ne_eqb (w % 256) 3 f)
      (cond_all IsBad (eqb ((w - w % 256) % 16384) 0) _ _
      (λ _. cond_all IsBad (leb n ((w - w % 256) / 16384)) _ _
      (λ _. refl)
      (λ y. let z = leb-false n ((w - w % 256) / 16384) y in absurd (let v : ⊥ = omega arith in v)))
      (λ _. refl))

  -- a run that has no second word
  waits_bad : 4 ≤ w % 256 → w % 256 ≤ 5 → end_of (first_word n m w) ≡ (false, free)
  unfolding first_word by_code ended
  waits_bad h k =
      let P : State → Type 0 = λ s. end_of s ≡ (false, free) in
      let other : (c : ℕ) → c < 4 → eqb (w % 256) c ≡ false = λ c l. ne_eqb (w % 256) c (λ e. omega arith) in
      rw (other 3 (omega arith))
      (cond_all P (eqb ((w - w % 256) % 16384) 0) _ _
      (λ _. cond_all P (leb n ((w - w % 256) / 16384)) _ _
      (λ _. refl)
      (λ _. rw (other 1 (omega arith), other 2 (omega arith))
      (cond_all P (eqb (w % 256) 4) _ _ (λ _. refl) (λ _. cond_all P (eqb (w % 256) 5) _ _ (λ _. refl) (λ _. refl)))))
      (λ _. refl))

-- ── second words ──

module _ (per : ℕ) (m : List ℕ) (held : Bool) (b : ℕ) where
  zero_bad : second_word per m held b 0 ≡ (None, m)
  unfolding second_word
  zero_bad = refl

  uneven_bad : (v : ℕ) → 0 < v % 16384 → second_word per m held b v ≡ (None, m)
  unfolding second_word
  uneven_bad v h =
      cond_all (λ (s : State). s ≡ (None, m)) (eqb v 0) _ _
      (λ _. refl)
      (λ _. rw (ne_eqb (v % 16384) 0 (λ e. omega arith)))

  edge_bad : (n : ℕ) → per < b % per + n → second_word per m held b (length_of n) ≡ (None, m)
  unfolding second_word
  edge_bad n h =
      let e : n * 16384 / 16384 ≡ n = omega arith in
      cond_all (λ (s : State). s ≡ (None, m)) (eqb (length_of n) 0) _ _
      (λ _. refl)
      (λ _. cond_all (λ (s : State). s ≡ (None, m)) (eqb (length_of n % 16384) 0) _ _
      (λ _. rw (e, lt-leb (b % per + n) per h))
      (λ _. refl))

  again_bad : (n i : ℕ) → i < n → get_or m (b + i) 0 ≡ mark_of held → second_word per m held b (length_of n) ≡ (None, m)
  again_bad n i h e =
      cases (lt? per (b % per + n))
      (λ k. edge_bad n k)
      (λ k. size_word per m held b n (omega arith) k ∙ ap changed (not_marked m b n i held h e))

-- ── behind a readable log, before any other bytes ──

pub bad_stays : (arenas per : ℕ) (m ws : List ℕ) → read_words arenas per (None, m) ws ≡ (None, m)
unfolding by_progress
bad_stays arenas per m [] = refl
bad_stays arenas per m (w ∷ ws) = bad_stays arenas per m ws

module _ (arenas per : ℕ) (q : arenas * per ≤ 2048) (l m : List ℕ) (e : read_log arenas per l ≡ (true, m)) (rest : List ℕ) where
  bad_words : (ws : List ℕ) → AllFit ws → read_words arenas per (Some Ready, m) ws ≡ (None, m) → read_log arenas per (l ++ bytes_of ws ++ rest) ≡ (false, free)
  unfolding read_log ended
  bad_words ws f b =
      cond_all (λ (r : Result). r ≡ (false, free)) (eqb (length (l ++ bytes_of ws ++ rest) % 8) 0) _ _
      (λ _. ap end_of (
      ap (read_words arenas per (Some Ready, free)) (words_append (l ++ bytes_of ws) rest (length_behind arenas per l m e ws))
      ∙ foldl-append (read_word arenas per) (Some Ready, free) (words (l ++ bytes_of ws)) (words rest)
      ∙ ap (λ (s : State). read_words arenas per s (words rest)) (state_behind arenas per l m e ws f ∙ b)
      ∙ bad_stays arenas per m (words rest)))
      (λ _. refl)

  bad_first : (w : ℕ) → w < 2 ^ 64 → first_word (arenas * per) m w ≡ (None, m) → read_log arenas per (l ++ bytes_of (w ∷ []) ++ rest) ≡ (false, free)
  unfolding AllFit by_progress
  bad_first w h b = bad_words (w ∷ []) (h, tt) b

  bad_second : (held : Bool) (b v : ℕ) → b < arenas * per → v < 2 ^ 64 → second_word per m held b v ≡ (None, m)
      → read_log arenas per (l ++ bytes_of (run_word held b ∷ v ∷ []) ++ rest) ≡ (false, free)
  unfolding AllFit by_progress
  bad_second held b v h k d =
      bad_words (run_word held b ∷ v ∷ []) (fits held, (k, tt)) (ap (λ (s : State). read_word arenas per s v) (run_word_lem (arenas * per) m b held h) ∙ d)
    where
      fits : (t : Bool) → run_word t b < 2 ^ 64
      fits true = omega arith
      fits false = omega arith

  bad_one : (held : Bool) (b : ℕ) → b < arenas * per → get_or m b 0 ≡ mark_of held
      → read_log arenas per (l ++ bytes_of (one_word held b ∷ []) ++ rest) ≡ (false, free)
  bad_one held b h z =
      let d : b + 0 ≡ b = omega arith in
      bad_first (one_word held b) (fits held) (one_word_lem (arenas * per) m b held h ∙ ap changed (not_marked m b 1 0 held (omega arith) (rw d z)))
    where
      fits : (t : Bool) → one_word t b < 2 ^ 64
      fits true = omega arith
      fits false = omega arith

  -- "another low byte" (6.5)
  pub bad_code : (w : ℕ) → w < 2 ^ 64 → (1 ≤ w % 256 → w % 256 ≤ 5 → ⊥) → read_log arenas per (l ++ bytes_of (w ∷ []) ++ rest) ≡ (false, free)
  bad_code w h f = bad_first w h (code_bad (arenas * per) m w f)

  -- "a barrier whose rest is not zero" (6.5)
  pub bad_barrier : (w : ℕ) → w < 2 ^ 64 → w % 256 ≡ 3 → 0 < w - w % 256 → read_log arenas per (l ++ bytes_of (w ∷ []) ++ rest) ≡ (false, free)
  bad_barrier w h k j = bad_first w h (barrier_bad (arenas * per) m w k j)

  -- "an address not a multiple of 16,384" (6.5)
  pub bad_address : (w : ℕ) → w < 2 ^ 64 → 0 < (w - w % 256) % 16384 → read_log arenas per (l ++ bytes_of (w ∷ []) ++ rest) ≡ (false, free)
  bad_address w h k = bad_first w h (address_bad (arenas * per) m w k)

  -- "or past the end" (6.5)
  pub past_end : (w : ℕ) → w < 2 ^ 64 → (w % 256 ≡ 3 → ⊥) → arenas * per * 16384 ≤ w - w % 256
      → read_log arenas per (l ++ bytes_of (w ∷ []) ++ rest) ≡ (false, free)
  past_end w h f k = bad_first w h (end_bad (arenas * per) m w f k)

  -- "a length … zero" (6.5)
  pub length_zero : (held : Bool) (b : ℕ) → b < arenas * per → read_log arenas per (l ++ bytes_of (run_word held b ∷ 0 ∷ []) ++ rest) ≡ (false, free)
  length_zero held b h = bad_second held b 0 h (omega arith) (zero_bad per m held b)

  -- "or no multiple of 16,384" (6.5)
  pub length_uneven : (held : Bool) (b v : ℕ) → b < arenas * per → v < 2 ^ 64 → 0 < v % 16384
      → read_log arenas per (l ++ bytes_of (run_word held b ∷ v ∷ []) ++ rest) ≡ (false, free)
  length_uneven held b v h k j = bad_second held b v h k (uneven_bad per m held b v j)

  -- "a run across an arena edge" (6.5)
  pub across_edge : (held : Bool) (b n : ℕ) → b < arenas * per → length_of n < 2 ^ 64 → per < b % per + n
      → read_log arenas per (l ++ bytes_of (run_word held b ∷ length_of n ∷ []) ++ rest) ≡ (false, free)
  across_edge held b n h k j = bad_second held b (length_of n) h k (edge_bad per m held b n j)

  -- "an allocation of an allocated block" (6.5)
  pub allocated_again : (b : ℕ) → b < arenas * per → get_or m b 0 ≡ 1 → read_log arenas per (l ++ bytes_of (allocated b ∷ []) ++ rest) ≡ (false, free)
  allocated_again = bad_one true

  -- "a free of a free one" (6.5)
  pub freed_again : (b : ℕ) → b < arenas * per → get_or m b 0 ≡ 0 → read_log arenas per (l ++ bytes_of (released b ∷ []) ++ rest) ≡ (false, free)
  freed_again = bad_one false

  -- the same of one block of a run
  pub run_allocated_again : (b n i : ℕ) → b < arenas * per → length_of n < 2 ^ 64 → i < n → get_or m (b + i) 0 ≡ 1
      → read_log arenas per (l ++ bytes_of (allocated_run b ∷ length_of n ∷ []) ++ rest) ≡ (false, free)
  run_allocated_again b n i h k j z = bad_second true b (length_of n) h k (again_bad per m true b n i j z)

  pub run_freed_again : (b n i : ℕ) → b < arenas * per → length_of n < 2 ^ 64 → i < n → get_or m (b + i) 0 ≡ 0
      → read_log arenas per (l ++ bytes_of (released_run b ∷ length_of n ∷ []) ++ rest) ≡ (false, free)
  run_freed_again b n i h k j z = bad_second false b (length_of n) h k (again_bad per m false b n i j z)

-- "a length missing" (6.5): the log ends behind a word of code 4 or 5
pub length_missing : (arenas per : ℕ) (l m : List ℕ) → read_log arenas per l ≡ (true, m) → (w : ℕ) → w < 2 ^ 64 → 4 ≤ w % 256 → w % 256 ≤ 5
    → read_log arenas per (l ++ bytes_of (w ∷ [])) ≡ (false, free)
unfolding by_progress
length_missing arenas per l m e w h k j = word_behind arenas per l m w h e ∙ waits_bad (arenas * per) m w k j
