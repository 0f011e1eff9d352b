-- What an accepted call of `tool` gives fits the buffer that it was lent.
use Rattle.std.proofs.Common.{◌≡◌, ℕ, ◌+◌, ◌*◌, ◌<◌, ◌≤◌, List, [], ◌∷◌, length, take, sym, ap, ◌∙◌, arith, take_all, ltb-false}
use borrow.Author.Tests.{not-false}
use Rattle.std.specs.Prelude.{Result, Ok}
use Rattle.answer.specs.declared.Refusal.{Refusal}
use Rattle.answer.specs.Reply.{reply_of}
use Rattle.answer.proofs.Cases.{cases, lt?}
use Rattle.answer.proofs.Decided.{decide_accepted}
use Rattle.geometry.specs.declared.Geometry.{Geometry}
use Rattle.geometry.specs.Limits.{blocks, fits}
use Rattle.geometry.proofs.Made.{fits_inside}
use Rattle.alloc_log.specs.Marks.{held_in, held_blocks}
use Rattle.alloc_log.specs.Settled.{settled}
use Rattle.alloc_log.specs.Tool.{
  marks_of,
  held_at_end,
  every_conditions,
  every_reply,
  read_reply,
  compact_reply_of,
  compact_words,
  compact_conditions,
  compact_reply,
}
use Rattle.alloc_log.proofs.RoundTrip.{compressed_length}
use Rattle.alloc_log.proofs.AlikeFacts.{one_same}
use Rattle.alloc_log.proofs.Tools.{pass_length}

module _ (g : Geometry) (log out : List ℕ) where
  few_held : length (held_at_end g (settled log)) ≤ blocks g
  unfolding held_at_end held_blocks
  few_held = pass_length (held_in (marks_of g (settled log))) 0 (blocks g)

  -- the numbers that a reading gives are in the buffer
  pub read_room : {r : Result ℕ Refusal} (n : ℕ) (left : List ℕ) → r ≡ Ok n →
      reply_of r left ≡ read_reply g log out → length left ≡ length out → n ≤ length left
  unfolding reply_of read_reply every_reply
  read_room n left a e k =
      let d = decide_accepted (every_conditions g (settled log) out) (held_at_end g (settled log)) (take n left)
      (sym e ∙ ap (λ (r : Result ℕ Refusal). reply_of r left) a) in
      let h = ltb-false (length out) (2 * blocks g + 64) d.0.1.0 in
      let f = few_held in
      cases (lt? (length left) n)
      (λ (y : length left < n).
      let z : length (held_at_end g (settled log)) ≡ length left = ap length (d.1 ∙ take_all n left (omega arith)) in
      absurd (let b : ⊥ = omega arith in b))
      (λ y. y)

  -- the words that a compaction reports are in the buffer
  pub compact_room : {r : Result ℕ Refusal} (n : ℕ) → r ≡ Ok n → compact_reply_of r ≡ compact_reply g log out → 8 * n ≤ length out
  unfolding compact_reply_of compact_reply compact_words
  compact_room n a e =
      let d = decide_accepted (compact_conditions g log out) (length (compact_words g log) ∷ []) (n ∷ []) (sym e ∙ ap compact_reply_of a) in
      let i = fits_inside g (not-false (fits g) d.0.0) in
      let h = ltb-false (length out) (8 * g.words) d.0.1.0 in
      let m = compressed_length g.arenas g.per (held_in (marks_of g log)) in
      let k = one_same _ _ d.1 in
      omega (arith, i.words_least, h, m, k)
