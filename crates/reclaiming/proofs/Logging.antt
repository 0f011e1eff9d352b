-- The words of the freed blocks in the log, one after another.
use mathlib.Core.Path.{◌≡◌, refl, sym, ap, ◌∙◌}
use mathlib.Core.List.{List, [], ◌∷◌, ◌++◌, map}
use Prim.Native.Nat.{ℕ, suc, ◌+◌, ◌*◌, ◌≤◌, ◌<◌}
use native.Mathlib.Omega.{arith}
use lib.ListN.{length, get_or}
use Rattle.alloc_log.specs.Word.{write_at, word_bytes, bytes_of, released}
use Rattle.alloc_log.proofs.Writing.{write_none, write_write, length_write, length_word, length_bytes, bytes_append}
use Rattle.model.specs.Results.{blocks_in}
use Rattle.reclaiming.proofs.Listing.{firsts, firsts_length, firsts_next}

-- the bytes of the words of the first i blocks of a buffer
abbrev pub freed : ℕ → List ℕ → List ℕ
freed i out = bytes_of (map released (firsts i out))

pub map_length : (l : List ℕ) → length (map released l) ≡ length l
map_length [] = refl
map_length (b ∷ l) = ap suc (map_length l)

map_last : (l : List ℕ) (b : ℕ) → map released (l ++ b ∷ []) ≡ map released l ++ released b ∷ []
map_last [] b = refl
map_last (c ∷ l) b = ap (λ (m : List ℕ). released c ∷ m) (map_last l b)

freed_length : (i : ℕ) (out : List ℕ) → 2 * i ≤ length out → length (freed i out) ≡ 8 * i
freed_length i out h = length_bytes (map released (firsts i out)) ∙ ap (λ n. 8 * n) (map_length (firsts i out) ∙ firsts_length out i h)

one_word_lem : (w : ℕ) → bytes_of (w ∷ []) ≡ word_bytes w
unfolding word_bytes
one_word_lem w = refl

pub freed_start : (log out : List ℕ) (at : ℕ) → log ≡ write_at log at (freed 0 out)
unfolding blocks_in
freed_start log out at = sym (write_none log at)

pub turn_length : (log log₁ : List ℕ) (at w : ℕ) → at + 8 ≤ length log → log₁ ≡ write_at log at (word_bytes w) → length log₁ ≡ length log
turn_length log log₁ at w h e = ap length e ∙ length_write log at (word_bytes w) (omega (arith, length_word w))

module _ (log₀ log log₁ out : List ℕ) (used i : ℕ) (more : 2 * i + 1 < length out) (room : 8 * (used + i) ≤ length log₀)
    (so_far : log ≡ write_at log₀ (8 * used) (freed i out)) where
  abbrev next : ℕ
  next = get_or out (2 * i) 0

  freed_next : freed (i + 1) out ≡ freed i out ++ word_bytes (released next)
  freed_next =
      ap (λ (l : List ℕ). bytes_of (map released l)) (firsts_next out i more) ∙ ap bytes_of (map_last (firsts i out) next) ∙
      bytes_append (map released (firsts i out)) (released next ∷ []) ∙ ap (λ (l : List ℕ). freed i out ++ l) (one_word_lem (released next))

  pub freed_turn : (b : ℕ) → b ≡ get_or out (2 * i) 0 → log₁ ≡ write_at log (8 * (used + i)) (word_bytes (b * 16384 + 2)) →
      log₁ ≡ write_at log₀ (8 * used) (freed (i + 1) out)
  freed_turn b e d =
      d ∙ ap (λ c. write_at log (8 * (used + i)) (word_bytes (released c))) e ∙
      ap (λ (l : List ℕ). write_at l (8 * (used + i)) (word_bytes (released next))) so_far ∙
      write_write log₀ (8 * used) (8 * (used + i)) (freed i out) (word_bytes (released next))
      (omega (arith, freed_length i out (omega arith))) room ∙
      ap (write_at log₀ (8 * used)) (sym freed_next)

pub freed_end : (log₀ log out : List ℕ) (used at i n : ℕ) → used ≡ at → i ≤ n → n ≤ i → log ≡ write_at log₀ (8 * used) (freed i out) →
    log ≡ write_at log₀ (8 * at) (freed n out)
freed_end log₀ log out used at i n e h k d =
    let j : i ≡ n = omega arith in
    d ∙ ap (λ u. write_at log₀ (8 * u) (freed i out)) e ∙ ap (λ m. write_at log₀ (8 * at) (freed m out)) j
