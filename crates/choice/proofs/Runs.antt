-- The search for the first block of a stretch that p holds of. The number `word k` tells by its bits of which blocks of word k it does.
use mathlib.Core.Path.{◌≡◌, sym, ◌∙◌}
use Prim.Native.Nat.{ℕ, ◌+◌, ◌-◌, ◌*◌, ◌/◌, ◌%◌, ◌^◌, ◌≤◌, ◌<◌, min}
use native.Mathlib.Nat.{add-zero, zero-div, div-one}
use native.Mathlib.Omega.{arith}
use mathlib.Core.Bool.{Bool, false}
use mathlib.Core.List.{List}
use lib.ListN.{get_or}
use lib.Count.{count_trailing_zeros, trailing_le}
use mir.Val.{Fits}
use mir.Syntax.{w64}
use Rattle.answer.proofs.Cases.{cases, lt?}
use Rattle.choice.specs.Words.{first_from, is_seen, seen_as}
use Rattle.choice.proofs.Gap.{Told, gap_none, gap_below, gap_at, told_seen, seen_fits, seen_none, seen_some}
use Rattle.choice.proofs.Firsts.{first_past, first_hit, first_end}

-- a count of zeros fits
pub zeros_fit : (q : ℕ) → Fits w64 (count_trailing_zeros 32 q)
zeros_fit q = omega (arith, trailing_le 32 q)

module _ (p : ℕ → Bool) (word : ℕ → ℕ) (tells : (b q : ℕ) → q ≡ word (b / 32) / 2 ^ (b % 32) → Told p b q) (hi : ℕ) where
  -- what is left of the word of block b has a block, which hi may cut off
  pub run_hit : (b : ℕ) {q r : ℕ} → q ≡ word (b / 32) / 2 ^ (b % 32) → q < 2 ^ (32 - b % 32) → 0 < q → r ≡ min (b + count_trailing_zeros 32 q) hi
      → r ≡ first_from p hi b (hi - b)
  run_hit b {q} {r} e fits some g =
      let past = first_past p hi b (count_trailing_zeros 32 q) (gap_below p b q (tells b q e) fits some) in
      cases (lt? (b + count_trailing_zeros 32 q) hi)
      (λ h. let m : r ≡ b + count_trailing_zeros 32 q = omega arith in m ∙ sym (past ∙ first_hit p hi h (gap_at p b q (tells b q e) fits some)))
      (λ h. let m : r ≡ hi = omega arith in m ∙ sym (past ∙ first_end p hi h))

  -- and so has word k
  pub word_hit : (k : ℕ) {r : ℕ} → word k < 2 ^ 32 → 0 < word k → r ≡ min (32 * k + count_trailing_zeros 32 (word k)) hi →
      r ≡ first_from p hi (32 * k) (hi - 32 * k)
  word_hit k fits some g =
      let d : 32 * k / 32 ≡ k = omega arith in
      let m : 32 * k % 32 ≡ 0 = omega arith in
      run_hit (32 * k) (rw (d, m) (sym (div-one (word k)))) (rw m fits) some g

  -- a word of 0 has none
  nothing : (b : ℕ) → word (b / 32) ≡ 0 → p b ≡ false
  nothing b e = rw (add-zero b) at (gap_none p b 0 (tells b 0 (rw e (sym (zero-div (2 ^ (b % 32)))))) (omega arith) 0 (omega arith))

  -- nothing is left of the word of block b, and the words behind it, up to word k, are 0
  pub run_past : (b k : ℕ) {q : ℕ} → q ≡ word (b / 32) / 2 ^ (b % 32) → q ≡ 0 → b / 32 < k → ((i : ℕ) → b / 32 + 1 ≤ i → i < k → word i ≡ 0)
      → first_from p hi (32 * k) (hi - 32 * k) ≡ first_from p hi b (hi - b)
  run_past b k {q} e z l f =
      let s : b + (32 * k - b) ≡ 32 * k = omega arith in
      sym (rw s at (first_past p hi b (32 * k - b) (λ j h.
      cases (lt? j (32 - b % 32)) (λ u. gap_none p b q (tells b q e) z j u) (λ u. nothing (b + j) (f ((b + j) / 32) (omega arith) (omega arith))))))

-- the same of the words of a search, as it sees them
module _ (given : Bool) (words : List ℕ) (fits : (k : ℕ) → get_or words k 0 < 2 ^ 32) (hi lo : ℕ) where
  tells_seen : (b q : ℕ) → q ≡ seen_as given (get_or words (b / 32) 0) / 2 ^ (b % 32) → Told (is_seen given words) b q
  tells_seen b q e = told_seen words b given (fits (b / 32)) e

  pub seen_hit : {x q r : ℕ} → x ≡ seen_as given (get_or words (lo / 32) 0) → q ≡ x / 2 ^ (lo % 32) → q < 2 ^ (32 - lo % 32) → 0 < q
      → r ≡ min (lo + count_trailing_zeros 32 q) hi → r ≡ first_from (is_seen given words) hi lo (hi - lo)
  seen_hit {x} {q} e f l some m =
      run_hit (is_seen given words) (λ k. seen_as given (get_or words k 0)) tells_seen hi lo (rw e at f) l some m

  module _ (k : ℕ) {x q skip : ℕ} (e : x ≡ seen_as given (get_or words (lo / 32) 0)) (f : q ≡ x / 2 ^ (lo % 32)) (z : q ≡ 0) (l : lo / 32 < k)
      (s : skip ≡ seen_as given 0) (passed : (i : ℕ) → lo / 32 + 1 ≤ i → i < k → get_or words i 0 ≡ skip) where
    past_words : first_from (is_seen given words) hi (32 * k) (hi - 32 * k) ≡ first_from (is_seen given words) hi lo (hi - lo)
    past_words =
        run_past (is_seen given words) (λ i. seen_as given (get_or words i 0)) tells_seen hi lo k (rw e at f) z l
        (λ i h u. seen_none given (passed i h u ∙ s))

    pub seen_end : hi ≤ 32 * k → hi ≡ first_from (is_seen given words) hi lo (hi - lo)
    seen_end h = sym (first_end (is_seen given words) hi h) ∙ past_words

    pub seen_word : {y r : ℕ} → (get_or words k 0 ≡ skip → ⊥) → y ≡ seen_as given (get_or words k 0)
        → r ≡ min (32 * k + count_trailing_zeros 32 y) hi → r ≡ first_from (is_seen given words) hi lo (hi - lo)
    seen_word {y} d g m =
        word_hit (is_seen given words) (λ i. seen_as given (get_or words i 0)) tells_seen hi k (seen_fits given (fits k))
        (seen_some given (fits k) (λ e. d (e ∙ sym s))) (rw g at m)
        ∙ past_words
