-- One turn of a loop over a list.
use Rattle.std.proofs.Common.{
  ◌≡◌,
  Option,
  Some,
  None,
  ℕ,
  zero,
  suc,
  ◌+◌,
  ◌-◌,
  ◌<◌,
  ◌≤◌,
  Bool,
  cond,
  true,
  false,
  ◌&&◌,
  eqb,
  List,
  [],
  ◌∷◌,
  ◌++◌,
  length,
  get_or,
  take,
  drop,
  replicate,
  sym,
  refl,
  ap,
  ◌∙◌,
  ap₂,
  append_assoc,
  add-one,
  arith,
  drop-cons,
  drop-drop,
  eq-eqb,
  ne_eqb,
}
use mathlib.Core.Bool.{and_assoc, and-true}
use lib.ListN.{length-replicate}
use borrow.Rule.Slice.PartMut.{put_mid}
use Rattle.std.specs.Bool.{then_some}
use Rattle.std.specs.Int.{from_bool}
use Rattle.std.specs.Cmp.Lexicographic.{pointwise}
use Rattle.std.specs.List.{fold}
use lib.Bits.{bit_or, bit_xor, or_zero_l, and_le_l, and_le_r, or_add_and, xor_add_and, xor_self}
use lib.Seq.{sets, sets-eq}
use Rattle.answer.proofs.Cases.{cases, same?}
use Rattle.alloc_log.specs.Marks.{all_from, mark_of, Change, held_in, passing}
use Rattle.alloc_log.specs.Read.{State, changed}
use Rattle.alloc_log.specs.Tool.{agree_from}
use Rattle.alloc_log.specs.declared.read.Progress.{Progress}
use Rattle.alloc_log.specs.declared.read.Progress.TheVariants.{Ready}

no_difference : (m x : ℕ) → bit_xor m x ≡ 0 → m ≡ x
no_difference m x e = omega (arith, xor_add_and m x, and_le_l m x, and_le_r m x)

none_before : (v d : ℕ) → bit_or v d ≡ 0 → v ≡ 0
none_before v d e = omega (arith, or_add_and v d, and_le_r v d)

-- the differences from x so far, joined with one more, are none where they were none and the mark is x
pub joined : (v m x : ℕ) → eqb (bit_or v (bit_xor m x)) 0 ≡ (eqb v 0 && eqb m x)
joined v m x =
    cases (same? v 0)
    (λ e. rw (e, or_zero_l (bit_xor m x)) (cases (same? m x)
    (λ f. rw (f, xor_self x, eq-eqb x x refl))
    (λ f. ne_eqb (bit_xor m x) 0 (λ g. f (no_difference m x g)) ∙ sym (ne_eqb m x f))))
    (λ e. ne_eqb (bit_or v (bit_xor m x)) 0 (λ g. e (none_before v (bit_xor m x) g)) ∙ sym (ap (λ (t : Bool). t && eqb m x) (ne_eqb v 0 e)))

-- the differences of n marks from x, joined with v, are none where v is none and all of them are x
pub differences : (x v i n : ℕ) (m : List ℕ) → i + n ≤ length m
    → eqb (fold (λ (w k : ℕ). bit_or w (bit_xor k x)) v (take n (drop i m))) 0 ≡ (eqb v 0 && all_from x m i n)
differences x v i zero m h = sym (and-true (eqb v 0))
differences x v i (suc n) m h =
    let k : i < length m = omega arith in
    let d = differences x (bit_or v (bit_xor (get_or m i 0) x)) (suc i) n m (omega arith) in
    rw (drop-cons m i 0 k)
    (d ∙ ap (λ (t : Bool). t && all_from x m (suc i) n) (joined v (get_or m i 0) x) ∙ and_assoc (eqb v 0) (eqb (get_or m i 0) x) (all_from x m (suc i) n))

-- a part of one value is stores of it, one after the other
pub filled : (m : List ℕ) (i n x : ℕ) → i + n ≤ length m → put_mid i n m (replicate n x) ≡ sets m i (replicate n x)
filled m i n x h =
    let k : i + length (replicate n x) ≤ length m = simp length-replicate h in
    let e : n ≡ length (replicate n x) = sym (length-replicate n x) in
    ap (λ (l : List ℕ). take i m ++ (replicate n x ++ l)) (drop-drop n i m ∙ ap (λ (j : ℕ). drop (i + j) m) e)
    ∙ sym (sets-eq (replicate n x) m i k ∙ append_assoc (take i m) (replicate n x) (drop (i + length (replicate n x)) m))

pub mark_is : {v : ℕ} (held : Bool) → v ≡ from_bool held → v ≡ mark_of held
mark_is true e = e
mark_is false e = e

-- the test before a change
pub tested : (m : List ℕ) (b n : ℕ) {r : Bool} {v x : ℕ} → r ≡ all_from v m b (b + n - b) → v ≡ x → r ≡ all_from x m b n
tested m b n e f =
    let k : b + n - b ≡ n = omega arith in
    e ∙ ap₂ (λ (v n : ℕ). all_from v m b n) f k

-- the first n marks of two tables agree exactly where they are one list
pub agree_parts : (m k : List ℕ) (i n : ℕ) → i + n ≤ length m → i + n ≤ length k
    → pointwise eqb (take n (drop i m)) (take n (drop i k)) ≡ agree_from m k i n
agree_parts m k i zero h j = refl
agree_parts m k i (suc n) h j =
    let a : i < length m = omega arith in
    let b : i < length k = omega arith in
    rw (drop-cons m i 0 a, drop-cons k i 0 b) (ap (λ (t : Bool). eqb (get_or m i 0) (get_or k i 0) && t)
    (agree_parts m k (suc i) n (omega arith) (omega arith)))

-- the progress after a change that was asked for
pub changed_is : (p : Option Progress) (r : Bool) (m : List ℕ) (s : Change) → p ≡ then_some r Ready → ◌≡◌ {A = Change} (r, m) s
    → ◌≡◌ {A = State} (p, m) (changed s)
changed_is p r m s e f = rw e (ap changed f)

pub some_or : (t : Bool) (m : List ℕ) → ◌≡◌ {A = State} (then_some t Ready, m) (cond t (Some Ready, m) (None, m))
some_or true m = refl
some_or false m = refl

-- ── the blocks that pass a test ──

pub held_no : (m : List ℕ) (b : ℕ) → get_or m b 0 ≡ 0 → held_in m b ≡ false
unfolding held_in
held_no m b e = simp (eq-eqb _ _ e)

pub held_yes : (m : List ℕ) (b : ℕ) → (get_or m b 0 ≡ 0 → ⊥) → held_in m b ≡ true
unfolding held_in
held_yes m b e = simp (ne_eqb _ _ e)

module _ (t : ℕ → Bool) (b n : ℕ) where
  pub pass_no : b < n → t b ≡ false → passing t b (n - b) ≡ passing t (b + 1) (n - (b + 1))
  pass_no h f = let e : n - b ≡ suc (n - (b + 1)) = omega arith in rw (e, f, add-one)

  pub pass_yes : b < n → t b ≡ true → passing t b (n - b) ≡ b ∷ passing t (b + 1) (n - (b + 1))
  pass_yes h f = let e : n - b ≡ suc (n - (b + 1)) = omega arith in rw (e, f, add-one)

  pub pass_end : n ≤ b → passing t b (n - b) ≡ []
  pass_end h = let e : n - b ≡ 0 = omega arith in rw e
