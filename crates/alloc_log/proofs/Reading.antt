-- Laws of the reading of a log.
use Rattle.std.proofs.Common.{
  ◌≡◌,
  Option,
  Some,
  ℕ,
  ◌+◌,
  ◌-◌,
  ◌/◌,
  ◌%◌,
  ◌<◌,
  ◌≤◌,
  Bool,
  true,
  false,
  cond,
  List,
  [],
  ◌∷◌,
  length,
  get_or,
  drop,
  sym,
  refl,
  ap,
  ◌∙◌,
  ap₂,
  add-zero,
  arith,
  length-drop,
  drop_of_length-le,
  get_or-drop,
  drop-drop,
  eq-eqb,
  ne_eqb,
  w64,
}
use Rattle.std.specs.Int.{from_be_bytes}
use Rattle.std.specs.List.{between}
use Rattle.std.proofs.lemmas.List.Edits.{get_or-between}
use borrow.Author.Tests.{lt-leb}
use Rattle.alloc_log.specs.Word.{spell, word_at, words}
use Rattle.alloc_log.specs.Read.{State, by_code, first_word, read_words, free, ended, end_of, read_log}
use Rattle.alloc_log.specs.declared.read.Progress.{Progress}
use Rattle.alloc_log.specs.declared.read.Progress.TheVariants.{Ready}

pub cond_all {ℓ} : {X : Type ℓ} (P : X → Type 0) (b : Bool) (x y : X) → (b ≡ true → P x) → (b ≡ false → P y) → P (cond b x y)
cond_all P true x y f g = f refl
cond_all P false x y f g = g refl

-- ── the first word of an entry ──

pub first_code : (blocks : ℕ) (m : List ℕ) (w : ℕ) → (w % 256 ≡ 3 → ⊥) → (w - w % 256) % 16384 ≡ 0 → (w - w % 256) / 16384 < blocks
    → first_word blocks m w ≡ by_code m (w % 256) ((w - w % 256) / 16384)
unfolding first_word
first_code blocks m w h k l = simp (ne_eqb _ _ h, eq-eqb _ _ k, lt-leb _ _ l)

-- ── the words of a log ──

-- the eight bytes of a part spell the word that stands there
pub spelled : (l : List ℕ) (at : ℕ) → at + 8 ≤ length l → from_be_bytes w64 (between at (at + 8) l) ≡ word_at l at
unfolding word_at spell
spelled l at h =
    let g : (i : ℕ) → i < 8 → get_or (between at (at + 8) l) i 0 ≡ get_or l (at + i) 0 = λ i k. get_or-between l at (at + 8) i 0 (omega arith) in
    let z = ap (λ (i : ℕ). get_or l i 0) (add-zero at) in
    omega (
      arith,
      g 0 (omega arith),
      g 1 (omega arith),
      g 2 (omega arith),
      g 3 (omega arith),
      g 4 (omega arith),
      g 5 (omega arith),
      g 6 (omega arith),
      g 7 (omega arith),
      z,
    )

words_first : (l : List ℕ) → 8 ≤ length l → words l ≡ word_at l 0 ∷ words (drop 8 l)
unfolding words word_at
words_first [] h = absurd (omega arith)
words_first (a ∷ []) h = absurd (omega arith)
words_first (a ∷ b ∷ []) h = absurd (omega arith)
words_first (a ∷ b ∷ c ∷ []) h = absurd (omega arith)
words_first (a ∷ b ∷ c ∷ d ∷ []) h = absurd (omega arith)
words_first (a ∷ b ∷ c ∷ d ∷ e ∷ []) h = absurd (omega arith)
words_first (a ∷ b ∷ c ∷ d ∷ e ∷ f ∷ []) h = absurd (omega arith)
words_first (a ∷ b ∷ c ∷ d ∷ e ∷ f ∷ g ∷ []) h = absurd (omega arith)
words_first (a ∷ b ∷ c ∷ d ∷ e ∷ f ∷ g ∷ i ∷ rest) h = refl

word_drop : (l : List ℕ) (at : ℕ) → word_at (drop at l) 0 ≡ word_at l at
unfolding word_at
word_drop l at = simp (get_or-drop, add-zero)

pub words_step : (l : List ℕ) (at : ℕ) → at + 8 ≤ length l → words (drop at l) ≡ word_at l at ∷ words (drop (at + 8) l)
words_step l at h =
    words_first (drop at l) (simp length-drop (omega arith))
    ∙ ap₂ (λ (w : ℕ) (r : List ℕ). w ∷ words r) (word_drop l at) (drop-drop 8 at l)

pub words_end : (l : List ℕ) (at : ℕ) → length l ≤ at → words (drop at l) ≡ []
unfolding words
words_end l at h = ap words (drop_of_length-le l {i = at} h)

-- ── the result ──

pub result_is : (arenas per : ℕ) (log : List ℕ) (p : Option Progress) (m : List ℕ) → length log % 8 ≡ 0
    → ◌≡◌ {A = State} (p, m) (read_words arenas per (Some Ready, free) (words log)) → read_log arenas per log ≡ ended p m
unfolding read_log
result_is arenas per log p m h e = simp (eq-eqb _ _ h) (sym (ap end_of e))
