-- The words that a compressing still has to write, by what stands at the next block, and where its loop stands.
use Rattle.std.proofs.Common.{◌≡◌, ℕ, zero, suc, ◌+◌, ◌-◌, ◌*◌, ◌%◌, ◌<◌, ◌≤◌, Bool, true, false, List, [], ◌∷◌, ◌++◌, length, sym, refl, ap, ◌∙◌, subst, append-nil, arith, length-append}
use Rattle.alloc_log.specs.Word.{write_at, word_bytes, bytes_of, barrier}
use Rattle.alloc_log.specs.Runs.{Run, ending, runs_from}
use Rattle.alloc_log.specs.Compress.{run_words, runs_words}
use Rattle.alloc_log.proofs.Walking.{runs_fails, runs_passes, runs_arena, runs_none}
use Rattle.alloc_log.proofs.Writing.{length_write, write_write, length_bytes, bytes_append, entry_length}

-- ── the recursion of the words of runs ──

-- the words for the n blocks from b on, where r held blocks of the same arena stand right before b and have no word yet
unfoldable pub words_from : ℕ → (ℕ → Bool) → ℕ → ℕ → ℕ → List ℕ
words_from per t b r n = runs_words (runs_from per t b r n)

-- the words of a run that ends before b stand in front
pub ending_words : (b r : ℕ) (l : List Run) → runs_words (ending b r ++ l) ≡ run_words (b - r) r ++ runs_words l
unfolding ending runs_words
ending_words b zero l = refl
ending_words b (suc r) l = refl

-- the words that are left, by what stands at b
module _ (per : ℕ) (t : ℕ → Bool) (b r n : ℕ) where
  pub left_free : b < n → t b ≡ false → words_from per t b r (n - b) ≡ run_words (b - r) r ++ words_from per t (b + 1) 0 (n - (b + 1))
  unfolding words_from
  left_free h f = ap runs_words (runs_fails per t b r n h f) ∙ ending_words b r _

  pub left_held : b < n → t b ≡ true → (b % per ≡ 0 → r ≡ 0) → words_from per t b r (n - b) ≡ words_from per t (b + 1) (r + 1) (n - (b + 1))
  unfolding words_from
  left_held h f z = ap runs_words (runs_passes per t b r n h f z)

  -- at an arena's edge
  pub left_edge : b % per ≡ 0 → words_from per t b r (n - b) ≡ run_words (b - r) r ++ words_from per t b 0 (n - b)
  unfolding words_from
  left_edge z = ap runs_words (runs_arena per t b r (n - b) z) ∙ ending_words b r _

-- behind the last block
pub left_none : (per : ℕ) (t : ℕ → Bool) (b n : ℕ) → n ≤ b → words_from per t b 0 (n - b) ≡ barrier ∷ []
unfolding words_from runs_words
left_none per t b n h = ap runs_words (runs_none per t b n h)

-- ── where the compressing stands: the words that are left would complete the log from `start` on ──

module _ (log₀ : List ℕ) (start per : ℕ) (held : ℕ → Bool) (n : ℕ) (all : List ℕ) where
  pub record Stands (log : List ℕ) (used r b : ℕ) : Type 0 where
    pub inside : b ≤ n
    pub behind : r ≤ b
    pub room : used + 8 * r ≤ 8 * b
    pub same : length log ≡ length log₀
    pub count : used + 8 * length (words_from per held b r (n - b)) ≡ start + 8 * length all
    pub bytes : write_at log used (bytes_of (words_from per held b r (n - b))) ≡ write_at log₀ start (bytes_of all)

  -- writing the words of a run of k blocks, r before b and the others behind, after which none of them is left
  pub turn_emit : (log log' : List ℕ) (used used' from k r r' b b' : ℕ) → Stands log used r b → 8 * n ≤ length log₀ → b + k ≤ b' + r → b ≤ b' → b' ≤ n → r' ≡ 0
      → words_from per held b r (n - b) ≡ run_words from k ++ words_from per held b' r' (n - b')
      → used' ≡ used + 8 * length (run_words from k) → log' ≡ write_at log used (bytes_of (run_words from k))
      → Stands log' used' r' b'
  turn_emit log log' used used' from k r r' b b' s h few l i z e eu el =
      let v : List ℕ = words_from per held b' r' (n - b') in
      let ent : List ℕ = run_words from k in
      let le : length ent ≤ k = entry_length from k in
      let lb : length (bytes_of ent) ≡ 8 * length ent = length_bytes ent in
      let same : length log ≡ length log₀ = s.same in
      let fits : used + length (bytes_of ent) ≤ length log = omega (arith, s.room) in
      let next : used' ≡ used + length (bytes_of ent) = omega arith in
      let cnt : used + 8 * length (ent ++ v) ≡ start + 8 * length all = subst (λ (l : List ℕ). used + 8 * length l ≡ start + 8 * length all) e s.count in
      let la : length (ent ++ v) ≡ length ent + length v = length-append ent v in
      record {
        inside = i;
        behind = omega arith;
        room = omega (arith, s.room);
        same = ap length el ∙ length_write log used (bytes_of ent) fits ∙ same;
        count = omega arith;
        bytes = ap (λ (l : List ℕ). write_at l used' (bytes_of v)) el
            ∙ write_write log used used' (bytes_of ent) (bytes_of v) next (omega arith)
            ∙ ap (write_at log used) (sym (bytes_append ent v) ∙ ap bytes_of (sym e))
            ∙ s.bytes;
      }

  pub turn_keep : (log : List ℕ) (used r b : ℕ) → Stands log used r b → b < n
      → words_from per held b r (n - b) ≡ words_from per held (b + 1) (r + 1) (n - (b + 1)) → Stands log used (r + 1) (b + 1)
  turn_keep log used r b s l e =
      record {
        inside = omega arith;
        behind = omega (arith, s.behind);
        room = omega (arith, s.room);
        same = s.same;
        count = subst (λ (x : List ℕ). used + 8 * length x ≡ start + 8 * length all) e s.count;
        bytes = ap (λ (x : List ℕ). write_at log used (bytes_of x)) (sym e) ∙ s.bytes;
      }

  -- the barrier
  pub last_turn : (log log' : List ℕ) (used b : ℕ) → Stands log used 0 b → n ≤ b → log' ≡ write_at log used (word_bytes 3)
      → (used + 8 ≡ start + 8 * length all) × (log' ≡ write_at log₀ start (bytes_of all))
  last_turn log log' used b s l ew =
      let e : words_from per held b 0 (n - b) ≡ barrier ∷ [] = left_none per held b n l in
      let c : used + 8 * length (barrier ∷ []) ≡ start + 8 * length all = subst (λ (x : List ℕ). used + 8 * length x ≡ start + 8 * length all) e s.count in (
        c,
        ew ∙ ap (write_at log used) (sym (append-nil (word_bytes 3)) ∙ ap bytes_of (sym e)) ∙ s.bytes,
      )

-- what completes the log from a later start on completes it from the earlier one
pub through : (log₀ log₁ log₂ : List ℕ) (start per : ℕ) (held : ℕ → Bool) (n : ℕ) (all : List ℕ) (used₁ b₁ used₂ r b : ℕ)
    → Stands log₀ start per held n all log₁ used₁ 0 b₁
    → Stands log₁ used₁ per held n (words_from per held b₁ 0 (n - b₁)) log₂ used₂ r b → Stands log₀ start per held n all log₂ used₂ r b
through log₀ log₁ log₂ start per held n all used₁ b₁ used₂ r b s u =
    record {
      inside = u.inside;
      behind = u.behind;
      room = u.room;
      same = u.same ∙ s.same;
      count = u.count ∙ s.count;
      bytes = u.bytes ∙ s.bytes;
    }
