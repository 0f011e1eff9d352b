-- EACH CALL HAS A SPELLING, AND ONE ONLY: a letter and numbers that are the call by the table, and between them the name where it has one.
use Prim.Native.Nat.{ℕ}
use mathlib.Core.Path.{◌≡◌, refl, sym, ap, ap₂, subst, ◌∙◌}
use mathlib.Core.Logic.{◌↔◌, inl, inr}
use mathlib.Core.List.{List, [], ◌∷◌, ◌++◌, map}
use lib.ListN.{take}
use mathlib.Core.Option.{none, some}
use native.Mathlib.Omega.{arith}
use lib.Dec.{eqb}
use borrow.Author.Tests.{eqb-true}
use Rattle.answer.proofs.Cases.{cases, either}
use Rattle.model.specs.declared.Call.{Call}
use Rattle.model.specs.declared.Call.TheVariants.{Begin, Write, Erase, Seal, Fork, Delete, Read, Barrier, Compress, FreeList, Estimate, Retain, Reclaim}
use Rattle.model.specs.declared.Naming.{Naming}
use Rattle.model.specs.declared.Naming.TheVariants.{Attach, Detach, Resolve}
use Rattle.model.specs.Command.{Command}
use Rattle.script.specs.Letters.{FormOf, bare, one, two, three, table, names, made, call_in, call_of, naming_of}
use Rattle.script.specs.Decimal.{spaced}
use Rattle.script.specs.Spoken.{asks}
use Rattle.script.specs.Grammar.{AllSmall, IsName, Signs, NameSigns, ByNumbers, ByName, Spelled}
use Rattle.script.proofs.Letters.{takes}
use Rattle.script.proofs.Commands.{Kind, plain, on, kind, asked, asked_kind, kind_command, kind_naming}

-- ── the row of each call ──

abbrev by : {c : Call} (b : ℕ) (ns : List ℕ) → call_of b ns ≡ some c → Signs c
by b ns e = record { letter = b; numbers = ns; is = e }

-- each call is in the table
abbrev pub sign : (c : Call) → Signs c
unfolding made call_in call_of
sign Begin = by 66 [] refl
sign (Write r x k) = by 87 (r ∷ x ∷ k ∷ []) refl
sign (Erase r x) = by 69 (r ∷ x ∷ []) refl
sign (Seal r) = by 83 (r ∷ []) refl
sign (Fork r) = by 70 (r ∷ []) refl
sign (Delete r) = by 68 (r ∷ []) refl
sign (Read r x) = by 82 (r ∷ x ∷ []) refl
sign Barrier = by 89 [] refl
sign Compress = by 67 [] refl
sign FreeList = by 76 [] refl
sign (Estimate r) = by 81 (r ∷ []) refl
sign (Retain r n) = by 75 (r ∷ n ∷ []) refl
sign (Reclaim k) = by 84 (k ∷ []) refl

abbrev by_name : {n : Naming} (b : ℕ) (ns : List ℕ) → naming_of b ns ≡ some n → NameSigns n
by_name b ns e = record { letter = b; numbers = ns; is = e }

-- each call on a name is in its table
abbrev pub name_sign : (n : Naming) → NameSigns n
unfolding made call_in naming_of
name_sign (Attach r) = by_name 78 (r ∷ []) refl
name_sign Detach = by_name 85 [] refl
name_sign Resolve = by_name 77 [] refl

-- a call's letter and numbers
abbrev Parts : Type 0
Parts = ℕ × List ℕ

abbrev parts : Call → Parts
parts c = ((sign c).letter, (sign c).numbers)

abbrev name_parts : Naming → Parts
name_parts n = ((name_sign n).letter, (name_sign n).numbers)

-- ── rows ──

-- the call of a row's form, of as many of three numbers as it takes
abbrev makes : {A : Type 0} → FormOf A → ℕ → ℕ → ℕ → A
makes (bare c) x y z = c
makes (one f) x y z = f x
makes (two f) x y z = f x y
makes (three f) x y z = f x y z

abbrev signed_by : {A : Type 0} → (A → Parts) → ℕ × FormOf A → ℕ → ℕ → ℕ → Parts
signed_by signs r x y z = signs (makes r.1 x y z)

abbrev row_by : {A : Type 0} → ℕ × FormOf A → ℕ → ℕ → ℕ → Parts
row_by r x y z = (r.0, take (takes r.1) (x ∷ y ∷ z ∷ []))

-- what each row makes has the row's letter, and the numbers it was made of
abbrev Fit : {A : Type 0} → (A → Parts) → List (ℕ × FormOf A) → Type 0
Fit signs rs = map (signed_by signs) rs ≡ map row_by rs

rows_fit : Fit parts table
unfolding sign
rows_fit = refl

names_fit : Fit name_parts names
unfolding name_sign
names_fit = refl

-- ── and no other ──

some_same : {A : Type 0} {c d : A} → some c ≡ some d → c ≡ d
some_same p = cc

none_not : {A : Type 0} {c : A} → none ≡ some c → ⊥
none_not p = let z : ◌≡◌ {A = ℕ} 0 1 = cc in omega arith

heads_same : {A : Type 0} {a b : A} {l m : List A} → a ∷ l ≡ b ∷ m → a ≡ b
heads_same p = cc

tails_same : {A : Type 0} {a b : A} {l m : List A} → a ∷ l ≡ b ∷ m → l ≡ m
tails_same p = cc

module _ {A : Type 0} (signs : A → Parts) (b : ℕ) (c : A) where
  fits_made : (f : FormOf A) (ns : List ℕ) → ((x y z : ℕ) → signed_by signs (b, f) x y z ≡ row_by (b, f) x y z) → made f ns ≡ some c → signs c ≡ (b, ns)
  unfolding made
  fits_made (bare d) [] h e = rw (← some_same e) (h 0 0 0)
  fits_made (bare d) (x ∷ ns) h e = absurd (none_not e)
  fits_made (one f) [] h e = absurd (none_not e)
  fits_made (one f) (x ∷ []) h e = rw (← some_same e) (h x 0 0)
  fits_made (one f) (x ∷ y ∷ ns) h e = absurd (none_not e)
  fits_made (two f) [] h e = absurd (none_not e)
  fits_made (two f) (x ∷ []) h e = absurd (none_not e)
  fits_made (two f) (x ∷ y ∷ []) h e = rw (← some_same e) (h x y 0)
  fits_made (two f) (x ∷ y ∷ z ∷ ns) h e = absurd (none_not e)
  fits_made (three f) [] h e = absurd (none_not e)
  fits_made (three f) (x ∷ []) h e = absurd (none_not e)
  fits_made (three f) (x ∷ y ∷ []) h e = absurd (none_not e)
  fits_made (three f) (x ∷ y ∷ z ∷ []) h e = rw (← some_same e) (h x y z)
  fits_made (three f) (x ∷ y ∷ z ∷ n ∷ ns) h e = absurd (none_not e)

  fits_in : (rs : List (ℕ × FormOf A)) (ns : List ℕ) → Fit signs rs → call_in rs b ns ≡ some c → signs c ≡ (b, ns)
  unfolding call_in
  fits_in [] ns h e = absurd (none_not e)
  fits_in ((a, f) ∷ rs) ns h e =
      cases (either (eqb b a))
      (λ t.
      let q = eqb-true b a t in
      let k : (x y z : ℕ) → signed_by signs (b, f) x y z ≡ row_by (b, f) x y z = λ x y z. rw q (ap (λ (g : ℕ → ℕ → ℕ → Parts). g x y z) (heads_same h)) in
      fits_made f ns k (rw t at e))
      (λ n. fits_in rs ns (tails_same h) (rw n at e))

signed : (c : Call) (s : Signs c) → parts c ≡ (s.letter, s.numbers)
unfolding call_of
signed c s = fits_in parts s.letter c table s.numbers rows_fit s.is

name_signed : (n : Naming) (s : NameSigns n) → name_parts n ≡ (s.letter, s.numbers)
unfolding naming_of
name_signed n s = fits_in name_parts s.letter n names s.numbers names_fit s.is

-- a call is spelled by one letter and one list of numbers
pub one_spelling : (c : Call) (s t : Signs c) → (s.letter ≡ t.letter) × (s.numbers ≡ t.numbers)
one_spelling c s t =
    let e = sym (signed c s) ∙ signed c t in
    (ap (λ (p : Parts). p.0) e, ap (λ (p : Parts). p.1) e)

pub one_name_spelling : (n : Naming) (s t : NameSigns n) → (s.letter ≡ t.letter) × (s.numbers ≡ t.numbers)
one_name_spelling n s t =
    let e = sym (name_signed n s) ∙ name_signed n t in
    (ap (λ (p : Parts). p.0) e, ap (λ (p : Parts). p.1) e)

-- ── the same as a function ──

abbrev spelled_as : Kind → List ℕ
spelled_as (plain k) = (sign k).letter ∷ spaced (sign k).numbers
spelled_as (on n l) = (name_sign n).letter ∷ 32 ∷ (l ++ spaced (name_sign n).numbers)

-- the line that asks for a call
abbrev pub spelled : Command → List ℕ
spelled c = spelled_as (kind c)

abbrev FitsAs : Kind → Type 0
FitsAs (plain k) = AllSmall (sign k).numbers
FitsAs (on n l) = IsName l × AllSmall (name_sign n).numbers

-- a call that a script can ask for: its numbers are small, and a name has a byte and no space
abbrev pub Fits : Command → Type 0
Fits c = FitsAs (kind c)

by_numbers_one : (line : List ℕ) (c : Command) → ByNumbers line c → (line ≡ spelled c) × Fits c
by_numbers_one line c w =
    let k = w.call in
    let o = one_spelling k w.signs (sign k) in
    let e : kind c ≡ plain k = ap kind (sym w.is) ∙ kind_command k in
    rw e (w.spells ∙ ap₂ (λ (b : ℕ) (ns : List ℕ). b ∷ spaced ns) o.0 o.1, subst AllSmall o.1 w.small)

by_name_one : (line : List ℕ) (c : Command) → ByName line c → (line ≡ spelled c) × Fits c
by_name_one line c w =
    let n = w.naming in
    let l = w.name in
    let o = one_name_spelling n w.signs (name_sign n) in
    let e : kind c ≡ on n l = ap kind (sym w.is) ∙ kind_naming n l in
    rw e (w.spells ∙ ap₂ (λ (b : ℕ) (ns : List ℕ). b ∷ 32 ∷ (l ++ spaced ns)) o.0 o.1, (w.is_name_lem, subst AllSmall o.1 w.small))

asked_so : (line : List ℕ) (c : Command) (k : Kind) → kind c ≡ k → (line ≡ spelled_as k) × FitsAs k → Spelled line (asks c)
asked_so line c (plain k) e w =
    inl (record { call = k; is = sym (ap asked e) ∙ asked_kind c; signs = sign k; spells = w.0; small = w.1 })
asked_so line c (on n l) e w =
    inr (record { naming = n; name = l; is = sym (ap asked e) ∙ asked_kind c; signs = name_sign n; spells = w.0; is_name_lem = w.1.0; small = w.1.1 })

-- a line asks for a call exactly when it is the call's own, and the call is one that a script can ask for
pub spelled_iff : (line : List ℕ) (c : Command) → Spelled line (asks c) ↔ ((line ≡ spelled c) × Fits c)
spelled_iff line c = (λ w. cases w (by_numbers_one line c) (by_name_one line c), asked_so line c (kind c) refl)

-- so one line asks for a call, and no other
pub one_line : (c : Command) (line other : List ℕ) → Spelled line (asks c) → Spelled other (asks c) → line ≡ other
one_line c line other w v = ((spelled_iff line c).0 w).0 ∙ sym ((spelled_iff other c).0 v).0
