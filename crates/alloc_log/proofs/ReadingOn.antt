-- Reading on from a byte position: a word more, words that allocate or free one block, and what is behind a bad word.
use Rattle.std.proofs.Common.{
  ◌≡◌,
  Option,
  Some,
  None,
  ℕ,
  zero,
  suc,
  ◌+◌,
  ◌-◌,
  ◌*◌,
  ◌/◌,
  ◌%◌,
  ◌^◌,
  ◌<◌,
  ◌≤◌,
  Bool,
  true,
  false,
  not,
  List,
  [],
  ◌∷◌,
  length,
  get_or,
  drop,
  set,
  sym,
  refl,
  ap,
  ◌∙◌,
  subst,
  arith,
}
use lib.Bits.{bit_xor, xor_zero_l, xor_self}
use Rattle.answer.proofs.Cases.{cases, same?}
use Rattle.alloc_log.specs.Word.{word_at, words}
use Rattle.alloc_log.specs.Marks.{mark_of, Table}
use Rattle.alloc_log.specs.Read.{State, RunInside, changed, first_word, by_progress, read_word, read_words, ReadOn}
use Rattle.alloc_log.specs.declared.read.Progress.{Progress}
use Rattle.alloc_log.specs.declared.read.Progress.TheVariants.{Ready}
use Rattle.alloc_log.proofs.Reading.{words_step}
use Rattle.alloc_log.proofs.MarksFacts.{marked}
use Rattle.alloc_log.proofs.Steps.{one_word, one_word_lem, barrier_word}
use Rattle.alloc_log.proofs.RoundTrip.{Good, good_word}

-- ── a word of any kind ──

-- the word at a position is read
read_next : (arenas per : ℕ) (s : State) (log : List ℕ) (at : ℕ) → at + 8 ≤ length log
    → read_words arenas per s (words (drop at log)) ≡ read_words arenas per (read_word arenas per s (word_at log at)) (words (drop (at + 8) log))
read_next arenas per s log at h = ap (read_words arenas per s) (words_step log at h)

-- and leaves a table of marks, and what is left to read
pub word_read : (arenas per : ℕ) → 0 < per → (log : List ℕ) (at : ℕ) → at + 8 ≤ length log → (p q : Option Progress) (m k : List ℕ)
    → RunInside (arenas * per) p → Table (arenas * per) m → ◌≡◌ {A = State} (q, k) (read_word arenas per (p, m) (word_at log at))
    → RunInside (arenas * per) q × Table (arenas * per) k
    × (read_words arenas per (q, k) (words (drop (at + 8) log)) ≡ read_words arenas per (p, m) (words (drop at log)))
word_read arenas per o log at h p q m k r t e =
    let g = subst (Good arenas per o) (sym e) (good_word arenas per o p m (word_at log at) (r, t)) in
    (g.0, g.1, ap (λ (s : State). read_words arenas per s (words (drop (at + 8) log))) e ∙ sym (read_next arenas per (p, m) log at h))

-- a bad word is behind
pub read_bad : (arenas per : ℕ) (m ws : List ℕ) → read_words arenas per (None, m) ws ≡ (None, m)
unfolding by_progress
read_bad arenas per m [] = refl
read_bad arenas per m (w ∷ ws) = read_bad arenas per m ws

-- and so is the rest where the word at a position is bad
pub word_bad : (arenas per : ℕ) → 0 < per → (log : List ℕ) (at : ℕ) → at + 8 ≤ length log → (p q : Option Progress) (m k : List ℕ)
    → RunInside (arenas * per) p → Table (arenas * per) m → ◌≡◌ {A = State} (q, k) (read_word arenas per (p, m) (word_at log at)) → q ≡ None
    → ◌≡◌ {A = State} (None, k) (read_words arenas per (p, m) (words (drop at log)))
word_bad arenas per o log at h p q m k r t e n =
    sym (read_bad arenas per k (words (drop (at + 8) log))) ∙ rw n at (word_read arenas per o log at h p q m k r t e).2

-- ── a word that allocates or frees one block ──

-- the word of a single block whose code is the block's mark and 1 turns that mark
one_turned : (n : ℕ) (m : List ℕ) (w b : ℕ) (held : Bool) → w ≡ one_word held b → b < n → get_or m b 0 ≡ mark_of (not held)
    → first_word n m w ≡ (Some Ready, set m b (mark_of held))
one_turned n m w b held e h z =
    rw e (one_word_lem n m b held h ∙ ap changed (marked m b 1 held (λ i k. let d : b + i ≡ b = omega arith in rw d z)))

pub turned_mark : (v : ℕ) → v ≤ 1 → bit_xor v 1 ≡ 1 - v
turned_mark zero h = xor_zero_l 1
turned_mark (suc zero) h = xor_self 1
turned_mark (suc (suc v)) h = absurd (let z : ⊥ = omega arith in z)

-- e is the word less 1
pub single_word : (n : ℕ) (m : List ℕ) (w e : ℕ) → (e + 1) % 2 ^ 64 ≡ w → n ≤ 2048 → e / 16384 < n → e % 16384 ≡ get_or m (e / 16384) 0
    → get_or m (e / 16384) 0 ≤ 1 → first_word n m w ≡ (Some Ready, set m (e / 16384) (1 - e % 16384))
single_word n m w e f l h d k =
    let b = e / 16384 in
    cases (same? (get_or m b 0) 0)
    (λ z. let x : 1 - e % 16384 ≡ 1 = omega arith in rw x (one_turned n m w b true (omega arith) h z))
    (λ z. let x : 1 - e % 16384 ≡ 0 = omega arith in rw x (one_turned n m w b false (omega arith) h (omega arith)))

-- ── the log was read up to a byte position ──

module _ (arenas per : ℕ) (log : List ℕ) where
  pub on_none : {m : List ℕ} (at : ℕ) → at ≤ length log → Table (arenas * per) m → ReadOn arenas per log m at m at
  on_none at h t = record { least = omega arith; most = h; whole = refl; table = t; same = refl }

  -- the word that stands there is read
  module _ {m k : List ℕ} {from at w : ℕ} (r : ReadOn arenas per log m from k at) (h : at + 8 ≤ length log) (f : w ≡ word_at log at) where
    pub on_word : {l : List ℕ} → Table (arenas * per) l → first_word (arenas * per) k w ≡ (Some Ready, l) → ReadOn arenas per log m from l (at + 8)
    unfolding by_progress
    on_word t e =
        record {
          least = omega (arith, r.least);
          most = h;
          whole = omega (arith, r.whole);
          table = t;
          same =
              sym (read_next arenas per (Some Ready, k) log at h ∙ ap (λ (s : State). read_words arenas per s (words (drop (at + 8) log))) (rw f at e))
              ∙ r.same;
        }

    pub on_barrier : w ≡ 3 → ReadOn arenas per log m from k (at + 8)
    on_barrier e = on_word r.table (rw e (barrier_word (arenas * per) k))
