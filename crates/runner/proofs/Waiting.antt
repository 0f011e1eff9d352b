-- A read into the rest of a text: the bytes read before stay.
use mathlib.Core.Path.{◌≡◌, ◌∙◌}
use mathlib.Core.List.{List}
use Prim.Native.Nat.{ℕ, ◌-◌, ◌≤◌}
use lib.ListN.{length, take}
use lib.Seq.{take_at, length-take-le}
use borrow.Rule.Slice.PartMut.{put_mid}

pub front_stays : (from : ℕ) (l x : List ℕ) → from ≤ length l → take from (put_mid from (length l - from) l x) ≡ take from l
front_stays from l x h = take_at (take from l) _ from (length-take-le from l h)

-- what reads that failed leave of a text
pub record Waiting (text₀ : List ℕ) (from : ℕ) (text : List ℕ) : Type 0 where
  pub same : length text ≡ length text₀
  pub front : take from text ≡ take from text₀

pub waits_on : (text₀ : List ℕ) (from : ℕ) (text text' : List ℕ) → Waiting text₀ from text → length text' ≡ length text → take from text' ≡ take from text →
    Waiting text₀ from text'
waits_on text₀ from text text' w l e = record { same = l ∙ w.same; front = e ∙ w.front }
