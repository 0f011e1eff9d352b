-- Reading agrees with what a log is: whole words, that are a list of entries, each allowed where it stands.
use Rattle.std.proofs.Common.{
  ◌≡◌,
  Option,
  Some,
  None,
  ℕ,
  ◌+◌,
  ◌-◌,
  ◌*◌,
  ◌/◌,
  ◌%◌,
  ◌<◌,
  ◌≤◌,
  Bool,
  true,
  false,
  not,
  eqb,
  leb,
  ◌⊎◌,
  ◌↔◌,
  List,
  [],
  ◌∷◌,
  length,
  get_or,
  replicate,
  sym,
  refl,
  ap,
  ◌∙◌,
  inl,
  inr,
  mod-lt,
  arith,
  eqb-true,
  leb-false,
  leb-true,
}
use mathlib.Core.List.{foldl-append}
use lib.Seq.{sets}
use borrow.Author.Tests.{eqb-false}
use Rattle.answer.proofs.Cases.{cases, either}
use Rattle.alloc_log.specs.Word.{words, allocated, released, barrier, allocated_run, released_run, length_of}
use Rattle.alloc_log.specs.Marks.{all_from, mark_of, mark_run}
use Rattle.alloc_log.specs.Read.{State, RunInside, changed, by_code, first_word, second_word, by_progress, read_word, read_words, free, ended, read_log}
use Rattle.alloc_log.specs.Entries.{
  Entry,
  allocate,
  release,
  barrier!,
  allocate_run,
  release_run,
  words_of,
  all_words,
  Stretch,
  Allowed,
  behind,
  AllAllowed,
  behind_all,
}
use Rattle.alloc_log.specs.declared.read.Progress.{Progress}
use Rattle.alloc_log.specs.declared.read.Progress.TheVariants.{Ready, Run}
use Rattle.alloc_log.proofs.Reading.{cond_all, result_is}
use Rattle.alloc_log.proofs.MarksFacts.{marked, all_say}
use Rattle.alloc_log.proofs.Steps.{one_word, run_word, one_word_lem, run_word_lem, barrier_word, size_word}
use Rattle.alloc_log.proofs.Appending.{is_ready}
use Rattle.alloc_log.proofs.BadCases.{bad_stays}

-- ── entries that are allowed are read ──

module _ (arenas per : ℕ) where
  abbrev N : ℕ
  N = arenas * per

  read_one : (m : List ℕ) (held : Bool) (b : ℕ) → Stretch arenas per (mark_of (not held)) b 1 m
      → read_words arenas per (Some Ready, m) (one_word held b ∷ []) ≡ (Some Ready, sets m b (replicate 1 (mark_of held)))
  unfolding by_progress
  read_one m held b s = one_word_lem N m b held s.start ∙ ap changed (marked m b 1 held s.marks)

  read_run : (m : List ℕ) (held : Bool) (b n : ℕ) → Stretch arenas per (mark_of (not held)) b n m
      → read_words arenas per (Some Ready, m) (run_word held b ∷ length_of n ∷ []) ≡ (Some Ready, sets m b (replicate n (mark_of held)))
  unfolding by_progress
  read_run m held b n s =
      ap (λ (t : State). read_word arenas per t (length_of n)) (run_word_lem N m b held s.start)
      ∙ size_word per m held b n s.some s.edge
      ∙ ap changed (marked m b n held s.marks)

  read_entry : (m : List ℕ) (e : Entry) → Allowed arenas per m e → read_words arenas per (Some Ready, m) (words_of e) ≡ (Some Ready, behind m e)
  unfolding by_progress
  read_entry m (allocate b) s = read_one m true b s
  read_entry m (release b) s = read_one m false b s
  read_entry m barrier! s = barrier_word N m
  read_entry m (allocate_run b n) s = read_run m true b n s
  read_entry m (release_run b n) s = read_run m false b n s

  read_entries : (m : List ℕ) (es : List Entry) → AllAllowed arenas per m es
      → read_words arenas per (Some Ready, m) (all_words es) ≡ (Some Ready, behind_all m es)
  read_entries m [] a = refl
  read_entries m (e ∷ es) a =
      foldl-append (read_word arenas per) (Some Ready, m) (words_of e) (all_words es)
      ∙ ap (λ (t : State). read_words arenas per t (all_words es)) (read_entry m e a.0)
      ∙ read_entries (behind m e) es a.1

-- ── what is read are allowed entries ──

-- what a first word says, and the state behind it
data First (n : ℕ) (m : List ℕ) (w : ℕ) (s : State) : Type 0 where
  no_entry : s ≡ (None, m) → First n m w s
  a_barrier : w ≡ barrier → s ≡ (Some Ready, m) → First n m w s
  one_block : (held : Bool) (b : ℕ) → b < n → w ≡ one_word held b → s ≡ changed (mark_run m b 1 held) → First n m w s
  a_run : (held : Bool) (b : ℕ) → b < n → w ≡ run_word held b → s ≡ (Some (Run held b), m) → First n m w s

first_is : (n : ℕ) (m : List ℕ) (w : ℕ) → First n m w (first_word n m w)
unfolding first_word by_code
first_is n m w =
    let P : State → Type 0 = First n m w in
    let b : ℕ = (w - w % 256) / 16384 in
    cond_all P (eqb (w % 256) 3) _ _
    (λ c. cond_all P (eqb (w - w % 256) 0) _ _
    (λ z. let u = eqb-true (w % 256) 3 c in let v = eqb-true (w - w % 256) 0 z in a_barrier (omega arith) refl)
    (λ _. no_entry refl))
    (λ _. cond_all P (eqb ((w - w % 256) % 16384) 0) _ _
    (λ z. cond_all P (leb n ((w - w % 256) / 16384)) _ _
    (λ _. no_entry refl)
    (λ k.
    let v = eqb-true ((w - w % 256) % 16384) 0 z in
    let h : b < n = leb-false n ((w - w % 256) / 16384) k in
    cond_all P (eqb (w % 256) 1) _ _ (λ c. let u = eqb-true (w % 256) 1 c in one_block true b h (omega arith) refl)
    (λ _. cond_all P (eqb (w % 256) 2) _ _ (λ c. let u = eqb-true (w % 256) 2 c in one_block false b h (omega arith) refl)
    (λ _. cond_all P (eqb (w % 256) 4) _ _ (λ c. let u = eqb-true (w % 256) 4 c in a_run true b h (omega arith) refl)
    (λ _. cond_all P (eqb (w % 256) 5) _ _ (λ c. let u = eqb-true (w % 256) 5 c in a_run false b h (omega arith) refl)
    (λ _. no_entry refl))))))
    (λ _. no_entry refl))

-- what a second word says
data Second (per : ℕ) (m : List ℕ) (held : Bool) (b w : ℕ) (s : State) : Type 0 where
  no_length : s ≡ (None, m) → Second per m held b w s
  a_length : (n : ℕ) → 0 < n → w ≡ length_of n → b % per + n ≤ per → s ≡ changed (mark_run m b n held) → Second per m held b w s

second_is : (per : ℕ) (m : List ℕ) (held : Bool) (b w : ℕ) → Second per m held b w (second_word per m held b w)
unfolding second_word
second_is per m held b w =
    let P : State → Type 0 = Second per m held b w in
    cond_all P (eqb w 0) _ _
    (λ _. no_length refl)
    (λ y. cond_all P (eqb (w % 16384) 0) _ _
    (λ z. cond_all P (leb (b % per + w / 16384) per) _ _
    (λ k.
    let u : w ≡ 0 → ⊥ = eqb-false w 0 y in
    let v = eqb-true (w % 16384) 0 z in
    a_length (w / 16384) (omega arith) (omega arith) (leb-true (b % per + w / 16384) per k) refl)
    (λ _. no_length refl))
    (λ _. no_length refl))

-- a change is made where each mark is the other one, or none is made
run_is : (m : List ℕ) (b n : ℕ) (held : Bool)
    → (((i : ℕ) → i < n → get_or m (b + i) 0 ≡ mark_of (not held)) × (changed (mark_run m b n held) ≡ (Some Ready, sets m b (replicate n (mark_of held)))))
    ⊎ (changed (mark_run m b n held) ≡ (None, m))
unfolding mark_run
run_is m b n held =
    cases (either (all_from (mark_of (not held)) m b n))
    (λ y. inl (all_say (mark_of (not held)) m b n y, rw y))
    (λ y. inr (rw y))

module _ (arenas per : ℕ) (p : 0 < per) where
  -- the words are entries that are allowed from the marks m on, and lead to the marks k
  abbrev Told : List ℕ → List ℕ → List ℕ → Type 0
  Told ws m k = (es : List Entry) × (ws ≡ all_words es) × AllAllowed arenas per m es × (k ≡ behind_all m es)

  -- the same of words that begin with the length of a run
  abbrev Rest : List ℕ → Bool → ℕ → List ℕ → List ℕ → Type 0
  Rest ws held b m k =
      (n : ℕ) × (vs : List ℕ) × (ws ≡ length_of n ∷ vs) × Stretch arenas per (mark_of (not held)) b n m × Told vs (sets m b (replicate n (mark_of held))) k

  abbrev Means : Option Progress → List ℕ → List ℕ → List ℕ → Type 0
  Means (Some Ready) ws m k = Told ws m k
  Means (Some (Run held b)) ws m k = Rest ws held b m k
  Means None ws m k = ⊥

  bad_ends : (m k ws : List ℕ) → read_words arenas per (None, m) ws ≡ (Some Ready, k) → ⊥
  bad_ends m k ws e =
      let d : ◌≡◌ {A = Option Progress} None (Some Ready) = ap (λ (s : State). s.0) (sym (bad_stays arenas per m ws) ∙ e) in
      let z : ◌≡◌ {A = ℕ} 0 1 = cc in
      omega arith

  waits_ends : (held : Bool) (b : ℕ) (m k : List ℕ) → ◌≡◌ {A = State} (Some (Run held b), m) (Some Ready, k) → ⊥
  waits_ends held b m k e =
      let d : Some (Run held b) ≡ Some Ready = ap (λ (s : State). s.0) e in
      let z : ◌≡◌ {A = ℕ} 0 1 = cc in
      omega arith

  -- one entry more
  then_barrier : (ws m k : List ℕ) → Told ws m k → Told (barrier ∷ ws) m k
  then_barrier ws m k r = (barrier! ∷ r.0, ap (λ (l : List ℕ). barrier ∷ l) r.1, (tt, r.2), r.3)

  then_one : (held : Bool) (b : ℕ) (ws m k : List ℕ) → b < arenas * per → ((i : ℕ) → i < 1 → get_or m (b + i) 0 ≡ mark_of (not held))
      → Told ws (sets m b (replicate 1 (mark_of held))) k → Told (one_word held b ∷ ws) m k
  then_one true b ws m k h f r = (
    allocate b ∷ r.0,
    ap (λ (l : List ℕ). allocated b ∷ l) r.1,
    (record { some = omega arith; start = h; edge = omega (arith, mod-lt b p); marks = f }, r.2),
    r.3,
  )
  then_one false b ws m k h f r = (
    release b ∷ r.0,
    ap (λ (l : List ℕ). released b ∷ l) r.1,
    (record { some = omega arith; start = h; edge = omega (arith, mod-lt b p); marks = f }, r.2),
    r.3,
  )

  then_run : (held : Bool) (b : ℕ) (ws m k : List ℕ) → Rest ws held b m k → Told (run_word held b ∷ ws) m k
  then_run true b ws m k r =
      let t = r.4 in
      (allocate_run b r.0 ∷ t.0, ap (λ (l : List ℕ). allocated_run b ∷ l) (r.2 ∙ ap (λ (l : List ℕ). length_of r.0 ∷ l) t.1), (r.3, t.2), t.3)
  then_run false b ws m k r =
      let t = r.4 in
      (release_run b r.0 ∷ t.0, ap (λ (l : List ℕ). released_run b ∷ l) (r.2 ∙ ap (λ (l : List ℕ). length_of r.0 ∷ l) t.1), (r.3, t.2), t.3)

  -- what is asked of the words behind one that was read
  abbrev Next : List ℕ → Type 0
  Next ws = (s : Option Progress) (m k : List ℕ) → RunInside (arenas * per) s → read_words arenas per (s, m) ws ≡ (Some Ready, k) → Means s ws m k

  by_first : (w : ℕ) (ws m k : List ℕ) (s : State) → First (arenas * per) m w s → Next ws → read_words arenas per s ws ≡ (Some Ready, k) → Told (w ∷ ws) m k
  by_first w ws m k s (no_entry x) f e = absurd (bad_ends m k ws (ap (λ (t : State). read_words arenas per t ws) (sym x) ∙ e))
  by_first w ws m k s (a_barrier i x) f e = rw i (then_barrier ws m k (f (Some Ready) m k tt (ap (λ (t : State). read_words arenas per t ws) (sym x) ∙ e)))
  by_first w ws m k s (one_block held b h i x) f e =
      cases (run_is m b 1 held)
      (λ y. rw i (then_one held b ws m k h y.0 (f (Some Ready) _ k tt (ap (λ (t : State). read_words arenas per t ws) (sym (x ∙ y.1)) ∙ e))))
      (λ y. absurd (bad_ends m k ws (ap (λ (t : State). read_words arenas per t ws) (sym (x ∙ y)) ∙ e)))
  by_first w ws m k s (a_run held b h i x) f e =
      rw i (then_run held b ws m k (f (Some (Run held b)) m k h (ap (λ (t : State). read_words arenas per t ws) (sym x) ∙ e)))

  by_second : (held : Bool) (b w : ℕ) (ws m k : List ℕ) (s : State) → b < arenas * per → Second per m held b w s → Next ws
      → read_words arenas per s ws ≡ (Some Ready, k)
      → Rest (w ∷ ws) held b m k
  by_second held b w ws m k s h (no_length x) f e = absurd (bad_ends m k ws (ap (λ (t : State). read_words arenas per t ws) (sym x) ∙ e))
  by_second held b w ws m k s h (a_length n c i g x) f e =
      cases (run_is m b n held)
      (λ y. (
        n,
        ws,
        ap (λ (v : ℕ). v ∷ ws) i,
        record { some = c; start = h; edge = g; marks = y.0 },
        f (Some Ready) _ k tt (ap (λ (t : State). read_words arenas per t ws) (sym (x ∙ y.1)) ∙ e),
      ))
      (λ y. absurd (bad_ends m k ws (ap (λ (t : State). read_words arenas per t ws) (sym (x ∙ y)) ∙ e)))

  -- what the words behind a state say, where they lead to Ready
  means : (ws : List ℕ) → Next ws
  unfolding by_progress
  means [] (Some Ready) m k r e = ([], refl, tt, ap (λ (s : State). s.1) (sym e))
  means [] (Some (Run held b)) m k r e = absurd (waits_ends held b m k e)
  means [] None m k r e = bad_ends m k [] e
  means (w ∷ ws) (Some Ready) m k r e = by_first w ws m k (first_word (arenas * per) m w) (first_is (arenas * per) m w) (means ws) e
  means (w ∷ ws) (Some (Run held b)) m k r e = by_second held b w ws m k (second_word per m held b w) r (second_is per m held b w) (means ws) e
  means (w ∷ ws) None m k r e = bad_ends m k ws e

-- READING AGREES: bytes are a log that leads to the marks m exactly if they are the words of entries, each allowed where it stands, that lead to m
pub reads_iff : (arenas per : ℕ) → 0 < per → arenas * per ≤ 2048 → (l m : List ℕ) → (read_log arenas per l ≡ (true, m))
    ↔ ((length l % 8 ≡ 0) × ((es : List Entry) × (words l ≡ all_words es) × AllAllowed arenas per free es × (m ≡ behind_all free es)))
unfolding ended
reads_iff arenas per p _ l m = (
  λ e. let r = is_ready arenas per l m e in (r.0, means arenas per p (words l) (Some Ready) free m tt r.1),
  λ w.
      let t = w.1 in
      result_is arenas per l (Some Ready) m w.0
      (ap (λ (k : List ℕ). (Some Ready, k)) t.3 ∙ sym (ap (read_words arenas per (Some Ready, free)) t.1 ∙ read_entries arenas per free t.0 t.2)),
)
