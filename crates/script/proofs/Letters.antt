-- The tables of letters: what holds of all their rows; and what the numbers read after `store` or a letter make of a line.
use mathlib.Core.Path.{◌≡◌, refl, sym, ap, ◌∙◌}
use Prim.Native.Nat.{ℕ, zero, suc, ◌<◌, ◌≤◌}
use mathlib.Core.Bool.{Bool, true, false, cond, not, ◌&&◌, true≢false}
use mathlib.Core.List.{List, [], ◌∷◌}
use mathlib.Core.Option.{none, some}
use native.Mathlib.Omega.{arith}
use lib.ListN.{length, get_or, take, length-take}
use lib.Dec.{eqb, leb}
use borrow.Author.Tests.{eqb-true, eqb-false, ne_eqb, lt-ltb, le-ltb, leb-true}
use Rattle.answer.proofs.Cases.{cases, either, lt?}
use Rattle.model.specs.declared.Call.{Call}
use Rattle.model.specs.declared.Naming.{Naming}
use Rattle.script.specs.declared.parse.Parsed.{Parsed}
use Rattle.script.specs.Letters.{FormOf, bare, one, two, three, table, names, made, call_in, listed, call_of, naming_of}
use Rattle.std.specs.Prelude.{Some, None}
use Rattle.script.specs.Parse.{numbers_from, counted, says_of, says_by, asks_of, call_line, named_of}

-- ── how many numbers a form takes ──

abbrev pub takes : {A : Type 0} → FormOf A → ℕ
takes (bare c) = 0
takes (one f) = 1
takes (two f) = 2
takes (three f) = 3

-- none of more or fewer
pub made_other : {A : Type 0} (f : FormOf A) (ns : List ℕ) → (length ns ≡ takes f → ⊥) → made f ns ≡ none
unfolding made
made_other (bare c) [] h = absurd (h refl)
made_other (bare c) (x ∷ ns) h = refl
made_other (one f) [] h = refl
made_other (one f) (x ∷ ns) h = made_other (bare (f x)) ns (λ e. h (ap suc e))
made_other (two f) [] h = refl
made_other (two f) (x ∷ ns) h = made_other (one (f x)) ns (λ e. h (ap suc e))
made_other (three f) [] h = refl
made_other (three f) (x ∷ ns) h = made_other (two (f x)) ns (λ e. h (ap suc e))

-- whether no row takes more
abbrev pub most? : {A : Type 0} → List (ℕ × FormOf A) → ℕ → Bool
most? [] n = true
most? (r ∷ rs) n = leb (takes r.1) n && most? rs n

-- no call has more numbers than the rows take
pub call_long : {A : Type 0} (rs : List (ℕ × FormOf A)) (n b : ℕ) (ns : List ℕ) → most? rs n ≡ true → n < length ns → call_in rs b ns ≡ none
unfolding call_in
call_long [] n b ns m h = refl
call_long (r ∷ rs) n b ns m h =
    cases (either (leb (takes r.1) n))
    (λ k.
    let few = leb-true (takes r.1) n k in
    cases (either (eqb b r.0))
    (λ t. rw t (made_other r.1 ns (λ e. let z : ⊥ = omega arith in z)))
    (λ f. rw f (call_long rs n b ns (rw k at m) h)))
    (λ k. absurd (true≢false (sym (rw k at m))))

-- ── a letter that is no call of so many numbers ──

-- the letters of the rows that take n numbers, last first, after others
abbrev pub letters_of : {A : Type 0} → List (ℕ × FormOf A) → ℕ → List ℕ → List ℕ
letters_of [] n bs = bs
letters_of (r ∷ rs) n bs = letters_of rs n (cond (eqb (takes r.1) n) (r.0 ∷ bs) bs)

-- a byte is none of these
abbrev pub Apart : List ℕ → ℕ → Type 0
Apart [] b = Unit {0}
Apart (k ∷ ks) b = Apart ks b × (b ≡ k → ⊥)

-- those that were there before
apart_before : {A : Type 0} (rs : List (ℕ × FormOf A)) (n b : ℕ) (bs : List ℕ) → Apart (letters_of rs n bs) b → Apart bs b
apart_before [] n b bs h = h
apart_before (r ∷ rs) n b bs h =
    cases (either (eqb (takes r.1) n))
    (λ t. let k : Apart (letters_of rs n (r.0 ∷ bs)) b = rw t at h in (apart_before rs n b (r.0 ∷ bs) k).0)
    (λ f. let k : Apart (letters_of rs n bs) b = rw f at h in apart_before rs n b bs k)

apart_none : {A : Type 0} (rs : List (ℕ × FormOf A)) (n b : ℕ) (bs ns : List ℕ) → length ns ≡ n → Apart (letters_of rs n bs) b → call_in rs b ns ≡ none
unfolding call_in
apart_none [] n b bs ns e h = refl
apart_none (r ∷ rs) n b bs ns e h =
    cases (either (eqb (takes r.1) n))
    (λ t.
    let k : Apart (letters_of rs n (r.0 ∷ bs)) b = rw t at h in
    rw (ne_eqb b r.0 (apart_before rs n b (r.0 ∷ bs) k).1) (apart_none rs n b (r.0 ∷ bs) ns e k))
    (λ f.
    let k : Apart (letters_of rs n bs) b = rw f at h in
    let m : made r.1 ns ≡ none = made_other r.1 ns (λ q. eqb-false (takes r.1) n f (sym q ∙ e)) in
    let rest : call_in rs b ns ≡ none = apart_none rs n b bs ns e k in
    cases (either (eqb b r.0)) (λ y. rw y m) (λ x. rw x rest))

-- a byte that no row of so many numbers has is no call of them
pub no_call : (b : ℕ) (ns : List ℕ) → Apart (letters_of table (length ns) []) b → Parsed.No ≡ says_of (call_of b ns)
unfolding call_of
no_call b ns h = rw (apart_none table (length ns) b [] ns refl h)

pub no_naming : (b end : ℕ) (ns : List ℕ) → Apart (letters_of names (length ns) []) b → Parsed.No ≡ named_of (naming_of b ns) end
unfolding naming_of
no_naming b end ns h = rw (apart_none names (length ns) b [] ns refl h)

-- ── what is no letter ──

-- the letters of the rows, last first, after others
abbrev pub all_letters : {A : Type 0} → List (ℕ × FormOf A) → List ℕ → List ℕ
all_letters [] bs = bs
all_letters (r ∷ rs) bs = all_letters rs (r.0 ∷ bs)

apart_those : {A : Type 0} (rs : List (ℕ × FormOf A)) (b : ℕ) (bs : List ℕ) → Apart (all_letters rs bs) b → Apart bs b
apart_those [] b bs h = h
apart_those (r ∷ rs) b bs h = (apart_those rs b (r.0 ∷ bs) h).0

-- a byte that no row has is not listed
pub not_listed : {A : Type 0} (rs : List (ℕ × FormOf A)) (b : ℕ) (bs : List ℕ) → Apart (all_letters rs bs) b → false ≡ listed rs b
unfolding listed
not_listed [] b bs h = refl
not_listed (r ∷ rs) b bs h = rw (ne_eqb b r.0 (apart_those rs b (r.0 ∷ bs) h).1) (not_listed rs b (r.0 ∷ bs) h)

none_not : {A : Type 0} {c : A} → none ≡ some c → ⊥
none_not p = let z : ◌≡◌ {A = ℕ} 0 1 = cc in omega arith

-- and is no call
unlisted_none : {A : Type 0} (rs : List (ℕ × FormOf A)) (b : ℕ) (ns : List ℕ) → listed rs b ≡ false → call_in rs b ns ≡ none
unfolding call_in listed
unlisted_none [] b ns h = refl
unlisted_none (r ∷ rs) b ns h =
    cases (either (eqb b r.0))
    (λ t. absurd (true≢false (rw t at h)))
    (λ f. rw f (unlisted_none rs b ns (rw f at h)))

-- whether no row of a table has the letter of a row of another
abbrev apart? : {A B : Type 0} → List (ℕ × FormOf A) → List (ℕ × FormOf B) → Bool
apart? rs [] = true
apart? rs (q ∷ qs) = not (listed rs q.0) && apart? rs qs

apart_listed : {A B : Type 0} (rs : List (ℕ × FormOf A)) (qs : List (ℕ × FormOf B)) (b : ℕ) → apart? rs qs ≡ true → listed qs b ≡ true → listed rs b ≡ false
unfolding listed
apart_listed rs [] b h k = absurd (true≢false (sym k))
apart_listed rs (q ∷ qs) b h k =
    cases (either (listed rs q.0))
    (λ t. absurd (true≢false (sym (rw t at h))))
    (λ f.
    cases (either (eqb b q.0))
    (λ e. rw (eqb-true b q.0 e) f)
    (λ e. apart_listed rs qs b (rw f at h) (rw e at k)))

module _ (b : ℕ) (ns : List ℕ) (c : Call) (is : call_of b ns ≡ some c) where
  -- a call's letter is not the first of `store`, no line feed, and not that of a call with a name
  pub letter_not_s : b ≡ 115 → ⊥
  unfolding listed call_of
  letter_not_s e = none_not (sym (rw e (unlisted_none table 115 ns refl)) ∙ is)

  pub letter_not_feed : b ≡ 10 → ⊥
  unfolding listed call_of
  letter_not_feed e = none_not (sym (rw e (unlisted_none table 10 ns refl)) ∙ is)

  pub letter_not_name : listed names b ≡ false
  unfolding listed call_of
  letter_not_name =
      cases (either (listed names b)) (λ t. absurd (none_not (sym (unlisted_none table b ns (apart_listed table names b refl t)) ∙ is))) (λ f. f)

  pub numbers_few : length ns ≤ 3
  unfolding call_of
  numbers_few = cases (lt? 3 (length ns)) (λ h. absurd (none_not (sym (call_long table 3 b ns refl h) ∙ is))) (λ h. h)

module _ (b : ℕ) (ns : List ℕ) (n : Naming) (is : naming_of b ns ≡ some n) where
  -- the letter of a call with a name is not the first of `store`, and has its row
  pub naming_not_s : b ≡ 115 → ⊥
  unfolding listed naming_of
  naming_not_s e = none_not (sym (rw e (unlisted_none names 115 ns refl)) ∙ is)

  pub naming_listed : listed names b ≡ true
  unfolding naming_of
  naming_listed = cases (either (listed names b)) (λ t. t) (λ f. absurd (none_not (sym (unlisted_none names b ns f) ∙ is)))

  pub naming_few : length ns ≤ 3
  unfolding naming_of
  naming_few = cases (lt? 3 (length ns)) (λ h. absurd (none_not (sym (call_long names 3 b ns refl h) ∙ is))) (λ h. h)

-- ── lines by the numbers that were read into a buffer ──

-- what a line of a letter and numbers says
pub call_empty : (l : List ℕ) → length l ≡ 0 → Parsed.No ≡ call_line l
unfolding call_line
call_empty [] h = refl
call_empty (b ∷ l) h = absurd (let z : ⊥ = omega arith in z)

take_three : (o : List ℕ) (r : ℕ) → r ≤ 3 → length o ≡ 6 → take r (get_or o 0 0 ∷ get_or o 1 0 ∷ get_or o 2 0 ∷ []) ≡ take r o
take_three [] r h k = absurd (let z : ⊥ = omega arith in z)
take_three (x ∷ []) r h k = absurd (let z : ⊥ = omega arith in z)
take_three (x ∷ y ∷ []) r h k = absurd (let z : ⊥ = omega arith in z)
take_three (x ∷ y ∷ z ∷ o) zero h k = refl
take_three (x ∷ y ∷ z ∷ o) (suc zero) h k = refl
take_three (x ∷ y ∷ z ∷ o) (suc (suc zero)) h k = refl
take_three (x ∷ y ∷ z ∷ o) (suc (suc (suc zero))) h k = refl
take_three (x ∷ y ∷ z ∷ o) (suc (suc (suc (suc r)))) h k = absurd (let z : ⊥ = omega arith in z)

-- by how many numbers were read
says_counted : (b r : ℕ) (o : List ℕ) → length o ≡ 6 → says_by b r (get_or o 0 0) (get_or o 1 0) (get_or o 2 0) ≡ asks_of b (counted (Some r) o)
unfolding says_by call_of
says_counted b r o long =
    cases (lt? 3 r)
    (λ h. rw (lt-ltb 3 r h, call_long table 3 b (take r o) refl (omega (arith, length-take r o))))
    (λ h. rw (le-ltb 3 r h, take_three o r h long))

pub call_says : (l : List ℕ) (r : ℕ) (o : List ℕ) → (length l ≡ 0 → ⊥) → length o ≡ 6 → counted (Some r) o ≡ numbers_from l 1 3 []
    → says_by (get_or l 0 0) r (get_or o 0 0) (get_or o 1 0) (get_or o 2 0) ≡ call_line l
unfolding call_line
call_says [] r o h k e = absurd (h refl)
call_says (b ∷ l) r o h k e = says_counted b r o k ∙ ap (asks_of b) e

-- more than three numbers
pub says_none : (b n x y z : ℕ) → ((((Unit {0} × (n ≡ 0 → ⊥)) × (n ≡ 1 → ⊥)) × (n ≡ 2 → ⊥)) × (n ≡ 3 → ⊥)) → Parsed.No ≡ says_by b n x y z
unfolding says_by
says_none b n x y z h = let more : 3 < n = omega (arith, h.0.0.0.1, h.0.0.1, h.0.1, h.1) in rw (lt-ltb 3 n more)

-- what follows the letter is no numbers
pub call_none : (l o : List ℕ) → (length l ≡ 0 → ⊥) → counted None o ≡ numbers_from l 1 3 [] → Parsed.No ≡ call_line l
unfolding call_line
call_none [] o h e = absurd (h refl)
call_none (b ∷ l) o h e = ap (asks_of b) e
