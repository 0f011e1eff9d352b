-- A deadlist is copied after another.
use mathlib.Core.Path.{◌≡◌, refl, sym, ap, ap₂, ◌∙◌}
use mathlib.Core.List.{List, ◌∷◌}
use Prim.Native.Nat.{ℕ, zero, suc, ◌+◌, ◌-◌, ◌≤◌, ◌<◌}
use native.Mathlib.Omega.{arith}
use lib.ListN.{length, get_or, set, take, drop, length-drop}
use lib.Seq.{sets, sets-eq, paste, drop-cons, length-take-le}
use Rattle.answer.proofs.Cases.{cases, lt?}
use Rattle.geometry.specs.declared.Geometry.{Geometry}
use Rattle.model.specs.Layout.{length_cell, list_cell, numbers, view_of}
use Rattle.tables.proofs.Fields
use Rattle.tables.proofs.Sets.{get_before, get_after}

-- a row is not touched by what is written into another, up to its end
pub row_apart : (R s n k i : ℕ) → (s ≡ n → ⊥) → (m t : List ℕ) → k + length m ≤ 256 → i < 256 →
    get_or (sets t (list_cell R n k) m) (list_cell R s i) 0 ≡ get_or t (list_cell R s i) 0
row_apart R s n k i ne m t h l =
    cases (lt? s n)
    (λ a. get_before m t (list_cell R n k) (list_cell R s i) (omega arith))
    (λ a. get_after m t (list_cell R n k) (list_cell R s i) (let d : n < s = omega arith in omega arith))

-- the numbers from an address on are a part of the list
part_is : (t : List ℕ) (at n : ℕ) → at + n ≤ length t → take n (drop at t) ≡ numbers t at n
unfolding numbers
part_is t at zero h = refl
part_is t at (suc n) h =
    let k : at < length t = omega arith in
    rw (drop-cons t at 0 k) (ap (λ (l : List ℕ). get_or t at 0 ∷ l) (part_is t (suc at) n (omega arith)))

-- a part that is copied is stored number by number
paste_is : (t s : List ℕ) (at n : ℕ) → n ≤ length s → at + n ≤ length t → paste t at s n ≡ sets t at (take n s)
paste_is t s at n h k =
    let e : length (take n s) ≡ n = length-take-le n s h in
    rw e at (sym (sets-eq (take n s) t at (omega arith)))

-- the deadlist of s is copied after the first `kept` numbers of that of n, and the length is told
module _ (g : Geometry) (t : List ℕ) (s n kept : ℕ) (hs : s < g.records) (more : ℕ) (em : more ≡ get_or t (length_cell s) 0)
    (from : ℕ) (ef : from ≡ list_cell g.records s 0) (whole : from + more ≤ length t) (room : list_cell g.records n kept + more ≤ length t) where
  row_is : take more (drop from t) ≡ (view_of g t).list s
  row_is = part_is t from more whole ∙ ap₂ (numbers t) ef em ∙ sym (Fields.list_is g t s hs)

  pub row_joins : {u : List ℕ} → u ≡ paste t (list_cell g.records n kept) (drop from t) (from + more - from) →
      set u (length_cell n) (kept + more) ≡
      set (sets t (list_cell g.records n kept) ((view_of g t).list s)) (length_cell n) (kept + length ((view_of g t).list s))
  row_joins {u} e =
      let l : length (drop from t) ≡ length t - from = length-drop from t in
      let d : from + more - from ≡ more = omega arith in
      let p = e ∙ ap (paste t (list_cell g.records n kept) (drop from t)) d ∙ paste_is t (drop from t) (list_cell g.records n kept) more (omega arith) room in
      ap (λ (v : List ℕ). set v (length_cell n) (kept + more)) (p ∙ ap (sets t (list_cell g.records n kept)) row_is) ∙
      ap (λ v. set (sets t (list_cell g.records n kept) ((view_of g t).list s)) (length_cell n) (kept + v)) (em ∙ sym (Fields.list_length g t s hs))
