-- The letters of the library are those of scripts: a letter has one call, of one number of numbers.
use mathlib.Core.Path.{◌≡◌, refl, sym, ap, ◌∙◌, subst}
use mathlib.Core.Bool.{Bool, true, ◌&&◌}
use mathlib.Core.List.{List, [], ◌∷◌}
use mathlib.Core.Option.{Option, none, some}
use Prim.Native.Nat.{ℕ, ◌<◌}
use lib.Dec.{eqb, ltb}
use lib.ListN.{length, take}
use native.Mathlib.Omega.{arith}
use borrow.Author.Tests.{ne_eqb, ltb-true}
use types.Run.{miss}
use borrow.Enum.Refused.{Among, opened}
use denote.Enum.Declared.{tag_of}
use Rattle.answer.proofs.Cases.{cases, either, same?}
use Rattle.geometry.proofs.Made.{and_true}
use Rattle.model.specs.declared.Call.{Call}
use Rattle.script.specs.declared.parse.Parsed.{Parsed}
use Rattle.script.specs.declared.parse.Parsed.TheVariants.{Asks}
use Rattle.script.specs.contracts.parse.Parsed.{the_type}
use Rattle.script.specs.Letters.{Form, table, made, call_in, call_of}
use Rattle.script.specs.Parse.{says_of}
use Rattle.script.proofs.Letters.{takes, made_other, numbers_few}
use Rattle.sogvect.specs.Letters.{or_else, asked_by, AsScripts}

none_not : {c : Call} → none ≡ some c → ⊥
none_not p = let z : ◌≡◌ {A = ℕ} 0 1 = cc in omega arith

-- ── one number of numbers ──

some_length : (f : Form) (ns : List ℕ) (c : Call) → made f ns ≡ some c → length ns ≡ takes f
some_length f ns c e = cases (same? (length ns) (takes f)) (λ h. h) (λ h. absurd (none_not (sym (made_other f ns h) ∙ e)))

one_length : (rs : List (ℕ × Form)) (b : ℕ) (ns ms : List ℕ) (c d : Call) → call_in rs b ns ≡ some c → call_in rs b ms ≡ some d → length ns ≡ length ms
unfolding call_in
one_length [] b ns ms c d p q = absurd (none_not p)
one_length (r ∷ rs) b ns ms c d p q =
    cases (either (eqb b r.0))
    (λ t. some_length r.1 ns c (rw t at p) ∙ sym (some_length r.1 ms d (rw t at q)))
    (λ f. one_length rs b ns ms c d (rw f at p) (rw f at q))

module _ (b : ℕ) (ns : List ℕ) (c : Call) (is : call_of b ns ≡ some c) where
  -- no call of other numbers
  none_of : (ms : List ℕ) → (length ns ≡ length ms → ⊥) → call_of b ms ≡ none
  unfolding call_of
  none_of ms apart = go (call_of b ms) refl
    where
      go : (k : Option Call) → call_of b ms ≡ k → call_of b ms ≡ none
      go none q = q
      go (some d) q = absurd (apart (one_length table b ns ms c d is q))

module _ (b x y z : ℕ) (c : Call) where
  abbrev zero_of : Option Call
  zero_of = call_of b []

  abbrev one_of : Option Call
  one_of = call_of b (x ∷ [])

  abbrev two_of : Option Call
  two_of = call_of b (x ∷ y ∷ [])

  abbrev three_of : Option Call
  three_of = call_of b (x ∷ y ∷ z ∷ [])

  says : (ns : List ℕ) → call_of b ns ≡ some c → take (length ns) (x ∷ y ∷ z ∷ []) ≡ ns → asked_by b x y z ≡ some c
  unfolding asked_by
  says [] e t = rw e
  says (p ∷ []) e t =
      let k : one_of ≡ some c = rw t e in
      rw (none_of b (p ∷ []) c e [] (λ h. omega (arith, h)), k)
  says (p ∷ q ∷ []) e t =
      let k : two_of ≡ some c = rw t e in
      let none = none_of b (p ∷ q ∷ []) c e in
      rw (none [] (λ h. omega (arith, h)), none (x ∷ []) (λ h. omega (arith, h)), k)
  says (p ∷ q ∷ r ∷ []) e t =
      let k : three_of ≡ some c = rw t e in
      let none = none_of b (p ∷ q ∷ r ∷ []) c e in
      rw (none [] (λ h. omega (arith, h)), none (x ∷ []) (λ h. omega (arith, h)), none (x ∷ y ∷ []) (λ h. omega (arith, h)), k)
  says (p ∷ q ∷ r ∷ s ∷ ns) e t = absurd (omega (arith, numbers_few b (p ∷ q ∷ r ∷ s ∷ ns) c e))

  abbrev Said : Type 0
  Said = (n : ℕ) × (call_of b (take n (x ∷ y ∷ z ∷ [])) ≡ some c)

  said : asked_by b x y z ≡ some c → Said
  unfolding asked_by
  said = by_0 zero_of refl
    where
      by_2 : (k : Option Call) → two_of ≡ k → or_else k three_of ≡ some c → Said
      by_2 (some d) q e = (2, q ∙ e)
      by_2 none q e = (3, e)

      by_1 : (k : Option Call) → one_of ≡ k → or_else k (or_else two_of three_of) ≡ some c → Said
      by_1 (some d) q e = (1, q ∙ e)
      by_1 none q e = by_2 two_of refl e

      by_0 : (k : Option Call) → zero_of ≡ k → or_else k (or_else one_of (or_else two_of three_of)) ≡ some c → Said
      by_0 (some d) q e = (0, q ∙ e)
      by_0 none q e = by_1 one_of refl e

  pub as_scripts : AsScripts b x y z c
  as_scripts = record { says = says; said = said }

-- ── a letter that is no byte ──

abbrev bytes? : List (ℕ × Form) → Bool
bytes? [] = true
bytes? (r ∷ rs) = ltb r.0 256 && bytes? rs

wide_none : (rs : List (ℕ × Form)) (b : ℕ) (ns : List ℕ) → bytes? rs ≡ true → 255 < b → call_in rs b ns ≡ none
unfolding call_in
wide_none [] b ns t h = refl
wide_none (r ∷ rs) b ns t h =
    let s = and_true (ltb r.0 256) (bytes? rs) t in
    let apart : b ≡ r.0 → ⊥ = λ e. omega (arith, e, ltb-true r.0 256 s.0) in
    rw (ne_eqb b r.0 apart) (wide_none rs b ns s.1 h)

pub asks_none : (b x y z : ℕ) → 255 < b → Parsed.No ≡ says_of (asked_by b x y z)
unfolding asked_by call_of
asks_none b x y z h =
    rw (wide_none table b [] refl h, wide_none table b (x ∷ []) refl h, wide_none table b (x ∷ y ∷ []) refl h, wide_none table b (x ∷ y ∷ z ∷ []) refl h)

-- ── what was asked first ──

-- said no call of a letter and numbers, by the place in the order of `Parsed`
abbrev others : List ℕ
others = 0 ∷ 2 ∷ 3 ∷ []

abbrev pub Other : Parsed → Type 0
Other p = Among others (tag_of the_type p)

-- what was asked, by what was said
pub is_call : (p : Parsed) (k : Option Call) (c : Call) → p ≡ says_of k → p ≡ Asks c → k ≡ some c
is_call p none c e found = absurd (let z : ◌≡◌ {A = ℕ} 0 1 = cc in let n : ⊥ = omega arith in n)
is_call p (some d) c e found = let same : d ≡ c = cc in ap some same

pub is_none : (p : Parsed) (k : Option Call) → p ≡ says_of k → Other p → k ≡ none
is_none p none e h = refl
is_none p (some c) e h = absurd (miss others 1 tt (opened (subst Other e h)))

-- a call was found, and what comes after it is passed over; or none was
found_here : (p : Parsed) (c : Call) (k d : Option Call) → p ≡ says_of k → p ≡ Asks c → p ≡ says_of (or_else k d)
found_here p c k d e found = let s = is_call p k c e found in rw s (found)

passed : (p : Parsed) (k d : Option Call) → p ≡ says_of k → Other p → or_else k d ≡ d
passed p k d e h = rw (is_none p k e h)

-- the returns of `asked_by`, of the byte m that the letter b is
module _ (b m x y z : ℕ) (is : m ≡ b) where
  pub bare_asked : (p : Parsed) (c : Call) → p ≡ says_of (call_of m []) → p ≡ Asks c → p ≡ says_of (asked_by b x y z)
  unfolding asked_by
  bare_asked p c e found = rw (← is) (found_here p c (call_of m []) _ e found)

  module _ (p : Parsed) (e : p ≡ says_of (call_of m [])) (other : Other p) where
    pub one_asked : (q : Parsed) (c : Call) → q ≡ says_of (call_of m (x ∷ [])) → q ≡ Asks c → q ≡ says_of (asked_by b x y z)
    unfolding asked_by
    one_asked q c f found = rw (← is, passed p (call_of m []) _ e other) (found_here q c (call_of m (x ∷ [])) _ f found)

    module _ (q : Parsed) (f : q ≡ says_of (call_of m (x ∷ []))) (apart : Other q) where
      pub two_asked : (r : Parsed) (c : Call) → r ≡ says_of (call_of m (x ∷ y ∷ [])) → r ≡ Asks c → r ≡ says_of (asked_by b x y z)
      unfolding asked_by
      two_asked r c h found =
          rw (← is, passed p (call_of m []) _ e other, passed q (call_of m (x ∷ [])) _ f apart) (found_here r c (call_of m (x ∷ y ∷ [])) _ h found)

      pub three_asked : (r s : Parsed) → r ≡ says_of (call_of m (x ∷ y ∷ [])) → Other r → s ≡ says_of (call_of m (x ∷ y ∷ z ∷ [])) → s ≡ says_of (asked_by b x y z)
      unfolding asked_by
      three_asked r s h last k =
          rw (← is, passed p (call_of m []) _ e other, passed q (call_of m (x ∷ [])) _ f apart, passed r (call_of m (x ∷ y ∷ [])) _ h last) k
