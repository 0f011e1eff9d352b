-- A write at the start of the part of a list from a on is a write at a of the whole.
use Rattle.std.proofs.Common.{◌≡◌, ℕ, ◌+◌, ◌-◌, ◌≤◌, List, [], ◌++◌, length, take, drop, ◌∙◌, ap₂, append-nil, zero-add, arith, length-drop, drop_of_length-le, take_all, drop-drop}
use borrow.Rule.Slice.PartMut.{mid_of, post_of, put_mid}
use Rattle.alloc_log.specs.Word.{write_at}

module _ (xs : List ℕ) (a : ℕ) (h : a ≤ length xs) where
  tail_is : mid_of a (length xs - a) xs ≡ drop a xs
  tail_is = take_all (length xs - a) (drop a xs) (simp length-drop (omega arith))

  after_is : post_of a (length xs - a) xs ≡ []
  after_is = drop_of_length-le (drop a xs) {i = length xs - a} (simp length-drop (omega arith))

  pub tail_write : (s : List ℕ) → put_mid a (length xs - a) xs (write_at (mid_of a (length xs - a) xs) 0 s) ≡ write_at xs a s
  unfolding write_at
  tail_write s =
      ap₂ (λ (m p : List ℕ). take a xs ++ ((s ++ drop (0 + length s) m) ++ p)) tail_is after_is
      ∙ simp (append-nil, drop-drop, zero-add)
