-- Runs of stores: lists that are written into memory number by number (`sets`).
use mathlib.Core.Path.{◌≡◌, refl, sym, ap, ◌∙◌}
use mathlib.Core.Logic.{◌⊎◌}
use mathlib.Core.List.{List, [], ◌∷◌, ◌++◌}
use Prim.Native.Nat.{ℕ, zero, suc, ◌+◌, ◌≤◌, ◌<◌}
use native.Mathlib.Omega.{arith}
use lib.ListN.{length, get_or, set, take, drop, length-set, take-append-drop}
use lib.Seq.{sets, sets-eq, set_comm, set-set, get_or-set_same, get_or-set_other, length-take-le, take_at}
use Rattle.answer.proofs.Cases.{cases}

-- a store in front of them
pub sets_comm : (m o : List ℕ) (j k v : ℕ) → k < j → set (sets o j m) k v ≡ sets (set o k v) j m
sets_comm [] o j k v h = refl
sets_comm (c ∷ m) o j k v h =
    sets_comm m (set o j c) (suc j) k v (omega arith) ∙ ap (λ (u : List ℕ). sets u (suc j) m) (set_comm o j k c v (λ e. let z : ⊥ = omega arith in z))

-- what stands in front of them, after them, and there
pub get_before : (m o : List ℕ) (j k : ℕ) → k < j → get_or (sets o j m) k 0 ≡ get_or o k 0
get_before [] o j k h = refl
get_before (c ∷ m) o j k h =
    get_before m (set o j c) (suc j) k (omega arith) ∙ get_or-set_other o j k c 0 (λ e. let z : ⊥ = omega arith in z)

pub get_after : (m o : List ℕ) (j k : ℕ) → j + length m ≤ k → get_or (sets o j m) k 0 ≡ get_or o k 0
get_after [] o j k h = refl
get_after (c ∷ m) o j k h =
    get_after m (set o j c) (suc j) k (omega arith) ∙ get_or-set_other o j k c 0 (λ e. let z : ⊥ = omega arith in z)

pub get_in : (m o : List ℕ) (j i : ℕ) → i < length m → j + i < length o → get_or (sets o j m) (j + i) 0 ≡ get_or m i 0
get_in [] o j i h l = absurd (let z : ⊥ = omega arith in z)
get_in (c ∷ m) o j zero h l =
    ap (λ k. get_or (sets (set o j c) (suc j) m) k 0) (let z : j + 0 ≡ j = omega arith in z) ∙ get_before m (set o j c) (suc j) j (omega arith) ∙
    get_or-set_same o j c 0 (omega arith)
get_in (c ∷ m) o j (suc i) h l =
    ap (λ k. get_or (sets (set o j c) (suc j) m) k 0) (let z : j + suc i ≡ suc j + i = omega arith in z) ∙
    get_in m (set o j c) (suc j) i (omega arith) (omega (arith, length-set o j c))

pub get_first : (m o : List ℕ) (k : ℕ) → k < length m → k < length o → get_or (sets o 0 m) k 0 ≡ get_or m k 0
get_first m o k h l = ap (λ j. get_or (sets o 0 m) j 0) (let z : k ≡ 0 + k = omega arith in z) ∙ get_in m o 0 k h (omega arith)

-- the same, told by whether the place is off the run or on it
pub sets_off : (l t : List ℕ) (a k : ℕ) → (k < a) ⊎ (a + length l ≤ k) → get_or (sets t a l) k 0 ≡ get_or t k 0
sets_off l t a k o = cases o (λ h. get_before l t a k h) (λ h. get_after l t a k h)

pub sets_on : (l t : List ℕ) (a i : ℕ) → a + length l ≤ length t → i < length l → get_or (sets t a l) (a + i) 0 ≡ get_or l i 0
sets_on l t a i h k = get_in l t a i k (omega arith)

pub sets_length : (l t : List ℕ) (a : ℕ) → length (sets t a l) ≡ length t
sets_length [] t a = refl
sets_length (v ∷ l) t a = sets_length l (set t a v) (suc a) ∙ length-set t a v

-- one list after another, and one more number
pub sets_append : (l o m : List ℕ) (j : ℕ) → sets (sets o j l) (j + length l) m ≡ sets o j (l ++ m)
sets_append [] o m j = ap (λ k. sets o k m) (let z : j + 0 ≡ j = omega arith in z)
sets_append (c ∷ l) o m j =
    ap (λ k. sets (sets (set o j c) (suc j) l) k m) (let z : j + suc (length l) ≡ suc j + length l = omega arith in z) ∙ sets_append l (set o j c) m (suc j)

pub sets_last : (o : List ℕ) (i : ℕ) (l : List ℕ) (b k : ℕ) → k ≡ i + length l → set (sets o i l) k b ≡ sets o i (l ++ b ∷ [])
sets_last o i l b k e = ap (λ j. set (sets o i l) j b) e ∙ sets_append l o (b ∷ []) i

-- a list over one that is no longer
pub sets_over : (l m o : List ℕ) (j : ℕ) → length l ≤ length m → sets (sets o j l) j m ≡ sets o j m
sets_over [] m o j h = refl
sets_over (c ∷ l) [] o j h = absurd (let z : ⊥ = omega arith in z)
sets_over (c ∷ l) (d ∷ m) o j h =
    ap (λ (u : List ℕ). sets u (suc j) m) (sets_comm l (set o j c) (suc j) j d (omega arith)) ∙
    sets_over l m (set (set o j c) j d) (suc j) (omega arith) ∙ ap (λ (u : List ℕ). sets u (suc j) m) (set-set o j c d)

-- what is there already
pub sets_there : (o : List ℕ) (k : ℕ) → k ≤ length o → sets o 0 (take k o) ≡ o
sets_there o k h =
    let n : length (take k o) ≡ k = length-take-le k o h in
    sets-eq (take k o) o 0 (omega arith) ∙ ap (λ m. take k o ++ drop m o) (let z : 0 + length (take k o) ≡ k = omega arith in z) ∙ take-append-drop k o

-- the numbers of a list that was written
pub take_sets : (o l : List ℕ) (n : ℕ) → n ≡ length l → length l ≤ length o → take n (sets o 0 l) ≡ l
take_sets o l n e h = ap (take n) (sets-eq l o 0 (omega arith)) ∙ take_at l (drop (0 + length l) o) n (sym e)
