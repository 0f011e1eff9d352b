-- Laws of writes into a list of bytes, and of the words of a run.
use Rattle.std.proofs.Common.{◌≡◌, ℕ, zero, suc, ◌+◌, ◌*◌, ◌≤◌, List, [], ◌∷◌, ◌++◌, length, take, drop, sym, refl, ap, ◌∙◌, ap₂, append_assoc, add-zero, add_assoc, arith, length-append, length-drop, take-append-drop, length-take-le, drop-drop, take_at, drop_at}
use Rattle.alloc_log.specs.Word.{write_at, word_bytes, bytes_of, allocated_run, length_of}
use Rattle.alloc_log.specs.Compress.{run_words}

pub write_none : (d : List ℕ) (at : ℕ) → write_at d at [] ≡ d
unfolding write_at
write_none d at = simp (add-zero, take-append-drop)

pub length_write : (d : List ℕ) (at : ℕ) (s : List ℕ) → at + length s ≤ length d → length (write_at d at s) ≡ length d
unfolding write_at
length_write d at s h =
    let k : at ≤ length d = omega arith in
    simp (length-append, length-take-le at d k, length-drop) (omega arith)

-- a write right behind another
pub write_write : (d : List ℕ) (at n : ℕ) (s t : List ℕ) → n ≡ at + length s → n ≤ length d → write_at (write_at d at s) n t ≡ write_at d at (s ++ t)
unfolding write_at
write_write d at n s t e h =
    let k : at ≤ length d = omega arith in
    let p : List ℕ = take at d ++ s in
    let r : List ℕ = drop (at + length s) d in
    let l : length p ≡ n = simp (length-append, length-take-le at d k) (sym e) in
    let a : take at d ++ (s ++ r) ≡ p ++ r = sym (append_assoc (take at d) s r) in
    ap (λ (x : List ℕ). take n x ++ (t ++ drop (n + length t) x)) a
    ∙ ap₂ (λ (x y : List ℕ). x ++ (t ++ y)) (take_at p r n l)
    (sym (drop-drop (length t) n (p ++ r)) ∙ ap (drop (length t)) (drop_at p r n l) ∙ drop-drop (length t) (at + length s) d)
    ∙ simp (append_assoc, length-append, add_assoc)

pub length_word : (w : ℕ) → length (word_bytes w) ≡ 8
unfolding word_bytes
length_word w = refl

pub length_bytes : (ws : List ℕ) → length (bytes_of ws) ≡ 8 * length ws
length_bytes [] = refl
length_bytes (w ∷ ws) =
    let e = length_bytes ws in
    simp (length-append, length_word) (omega arith)

pub bytes_append : (ws vs : List ℕ) → bytes_of (ws ++ vs) ≡ bytes_of ws ++ bytes_of vs
bytes_append [] vs = refl
bytes_append (w ∷ ws) vs = ap (λ (l : List ℕ). word_bytes w ++ l) (bytes_append ws vs) ∙ sym (append_assoc (word_bytes w) (bytes_of ws) (bytes_of vs))

-- ── the words of a run ──

pub entry_many : (b n : ℕ) → (n ≡ 0 → ⊥) → (n ≡ 1 → ⊥) → run_words b n ≡ allocated_run b ∷ length_of n ∷ []
entry_many b zero h k = absurd (h refl)
entry_many b (suc zero) h k = absurd (k refl)
entry_many b (suc (suc n)) h k = refl

pub entry_length : (b n : ℕ) → length (run_words b n) ≤ n
entry_length b zero = omega arith
entry_length b (suc zero) = omega arith
entry_length b (suc (suc n)) = omega arith
