-- Log words as bytes, written one after another.
use mathlib.Core.Path.{◌≡◌, sym, ap, ◌∙◌}
use mathlib.Core.List.{List, [], ◌∷◌, ◌++◌, append-nil}
use Prim.Native.Nat.{ℕ, ◌+◌, ◌*◌, ◌≤◌, ◌<◌}
use native.Mathlib.Omega.{arith}
use native.Mathlib.Numerals.{add-one}
use lib.ListN.{length, get_or, take}
use lib.Seq.{length-take-le, take-suc, take_all}
use Rattle.alloc_log.specs.Word.{write_at, word_bytes, bytes_of}
use Rattle.alloc_log.proofs.Writing.{write_none, write_write, length_bytes, bytes_append}

-- u words are used, and ws are written after them
module _ (l : List ℕ) (u : ℕ) (ws : List ℕ) where
  pub words_none : l ≡ write_at l (8 * u) (bytes_of (take 0 ws))
  words_none = sym (write_none l (8 * u))

  -- after the first i the next one, w
  pub words_next : (i w : ℕ) (m k : List ℕ) → i < length ws → 8 * (u + i) ≤ length l → m ≡ write_at l (8 * u) (bytes_of (take i ws)) →
      w ≡ get_or ws i 0 → k ≡ write_at m (8 * (u + i)) (word_bytes w) → k ≡ write_at l (8 * u) (bytes_of (take (i + 1) ws))
  words_next i w m k h room so_far e d =
      let n : length (take i ws) ≡ i = length-take-le i ws (omega arith) in
      let s : take (i + 1) ws ≡ take i ws ++ (w ∷ []) = ap (λ j. take j ws) (add-one i) ∙ take-suc ws i 0 h ∙ ap (λ x. take i ws ++ (x ∷ [])) (sym e) in
      d ∙ ap (λ (x : List ℕ). write_at x (8 * (u + i)) (word_bytes w)) so_far ∙
      write_write l (8 * u) (8 * (u + i)) (bytes_of (take i ws)) (word_bytes w) (omega (arith, length_bytes (take i ws))) room ∙
      ap (λ b. write_at l (8 * u) (bytes_of (take i ws) ++ b)) (sym (append-nil (word_bytes w))) ∙
      ap (write_at l (8 * u)) (sym (ap bytes_of s ∙ bytes_append (take i ws) (w ∷ [])))

  -- all of them; v is the number in the tables
  pub words_all : (i v : ℕ) (m : List ℕ) → u ≡ v → length ws ≤ i → m ≡ write_at l (8 * u) (bytes_of (take i ws)) → m ≡ write_at l (8 * v) (bytes_of ws)
  words_all i v m e h d = d ∙ ap (λ x. write_at l (8 * u) (bytes_of x)) (take_all i ws h) ∙ ap (λ x. write_at l (8 * x) (bytes_of ws)) e
