-- A LINE ASKS FOR SOMETHING EXACTLY WHEN IT IS SPELLED AS THE GRAMMAR SAYS, and it asks for one thing.
use Prim.Native.Nat.{ℕ, zero, suc, ◌+◌, ◌<◌, ◌≤◌}
use mathlib.Core.Path.{◌≡◌, refl, sym, ap, subst, ◌∙◌}
use mathlib.Core.Bool.{true, false, true≢false}
use mathlib.Core.Logic.{◌↔◌, ◌⊎◌, inl, inr}
use mathlib.Core.Option.{Option, none, some}
use mathlib.Core.List.{List, [], ◌∷◌, ◌++◌, append_assoc, append-nil}
use native.Mathlib.Omega.{arith}
use borrow.Author.Tests.{eq-eqb, ne_eqb, eqb-true, eqb-false, ltb-true, ltb-false, lt-ltb, le-ltb}
use lib.ListN.{length, take, drop, length-append, length-drop, take-append-drop}
use lib.Seq.{slice, take_at, length-take-le, drop-drop, drop-append_seam, drop-length}
use lib.Dec.{eqb, ltb}
use Rattle.answer.proofs.Cases.{cases, either}
use Rattle.model.specs.declared.Call.{Call}
use Rattle.model.specs.declared.Naming.{Naming}
use Rattle.model.specs.Command.{Command, command, command_on}
use Rattle.std.specs.Prelude.{Some, None}
use Rattle.script.specs.declared.parse.Six.{Six}
use Rattle.script.specs.declared.parse.Parsed.{Parsed}
use Rattle.script.specs.declared.parse.Parsed.TheVariants.{Store, Asks, Named}
use Rattle.script.specs.Decimal.{decimal, spaced}
use Rattle.script.specs.Letters.{call_of, naming_of}
use Rattle.script.specs.Parse.{Number, on_number, number_from, numbers_from, opens, store, six_of, store_of, says_of, asks_of, call_line, parsed}
use Rattle.script.specs.Parse.{opens_name, name_run, named_of, names_of, name_line}
use Rattle.script.specs.Spoken.{Spoken, makes, asks, nothing, spoken_at, spoken}
use Rattle.script.specs.Grammar.{six_numbers, AllSmall, NoSpace, IsName, Signs, NameSigns, ByNumbers, ByName, Spelled}
use Rattle.script.proofs.Letters.{letter_not_s, letter_not_name, numbers_few, naming_not_s, naming_listed, naming_few}
use Rattle.script.proofs.Reading.{numbers_end, numbers_more}
use Rattle.script.proofs.Digits.{Ends, number_spelt, number_read}

-- ── the numbers of a line ──

-- what stands behind the digits that were read
pub rest_is : (line : List ℕ) (at : ℕ) (d rest : List ℕ) → drop at line ≡ d ++ rest → drop (at + length d) line ≡ rest
rest_is line at d rest e = sym (drop-drop (length d) at line) ∙ ap (drop (length d)) e ∙ drop-append_seam d rest

some_same : {a b : List ℕ} → some a ≡ some b → a ≡ b
some_same p = cc

none_not : {a : List ℕ} → none ≡ some a → ⊥
none_not p = let z : ◌≡◌ {A = ℕ} 0 1 = cc in omega arith

-- that the line from a position on is small numbers, and ns are those after others
Told : List ℕ → ℕ → List ℕ → List ℕ → Type 0
Told line at bs ns = (ms : List ℕ) × (ns ≡ bs ++ ms) × (drop at line ≡ spaced ms) × AllSmall ms

told_end : (line : List ℕ) (at : ℕ) (bs ns : List ℕ) → eqb at (length line) ≡ true → some bs ≡ some ns → Told line at bs ns
unfolding Told spaced
told_end line at bs ns t p =
    let e : at ≡ length line = eqb-true at (length line) t in
    ([], sym (some_same p) ∙ sym (append-nil bs), ap (λ (k : ℕ). drop k line) e ∙ drop-length line, tt)

told_more : (line : List ℕ) (at n : ℕ) (bs ns : List ℕ) (x : Number) → number_from (drop at line) at ≡ x
    → on_number x (λ v e. numbers_from line e n (bs ++ (v ∷ []))) ≡ some ns
    → ((e v : ℕ) → numbers_from line e n (bs ++ (v ∷ [])) ≡ some ns → Told line e (bs ++ (v ∷ [])) ns) → Told line at bs ns
unfolding Told spaced
told_more line at n bs ns (Some read) r p ih =
    let v = read.0 in
    let e = read.1 in
    let s = number_spelt (drop at line) at v e r in
    let t = ih e v p in
    let d : drop e line ≡ s.0 = ap (λ (k : ℕ). drop k line) s.2 ∙ rest_is line at (32 ∷ decimal v) s.0 s.1 in
    let ms = t.0 in
    (v ∷ ms, t.1 ∙ append_assoc bs (v ∷ []) ms, s.1 ∙ ap (λ (x : List ℕ). 32 ∷ (decimal v ++ x)) (sym d ∙ t.2), (s.3, t.3))
told_more line at n bs ns None r p ih = absurd (none_not p)

told : (line : List ℕ) (at n : ℕ) (bs ns : List ℕ) → numbers_from line at n bs ≡ some ns → Told line at bs ns
unfolding numbers_from
told line at zero bs ns p =
    cases (either (eqb at (length line)))
    (λ t. told_end line at bs ns t (rw t at p))
    (λ f. absurd (none_not (rw f at p)))
told line at (suc n) bs ns p =
    cases (either (eqb at (length line)))
    (λ t. told_end line at bs ns t (rw t at p))
    (λ f. told_more line at n bs ns (number_from (drop at line) at) refl (rw f at p) (λ e v q. told line e n (bs ++ (v ∷ [])) ns q))

spaced_ends : (ms : List ℕ) → Ends (spaced ms)
unfolding spaced
spaced_ends [] = tt
spaced_ends (m ∷ ms) = refl

-- small numbers that fill the line are read
pub numbers_read : (line : List ℕ) (at n : ℕ) (bs ms : List ℕ) → length ms ≤ n → at ≤ length line → drop at line ≡ spaced ms → AllSmall ms
    → numbers_from line at n bs ≡ some (bs ++ ms)
unfolding spaced
numbers_read line at n bs [] m h e s =
    let k : at ≡ length line = omega (arith, length-drop at line, ap length e) in
    numbers_end line at n bs k ∙ ap some (sym (append-nil bs))
numbers_read line at zero bs (x ∷ ms) m h e s = absurd (let z : ⊥ = omega arith in z)
numbers_read line at (suc n) bs (x ∷ ms) m h e s =
    let d = rest_is line at (32 ∷ decimal x) (spaced ms) e in
    let end : ℕ = at + suc (length (decimal x)) in
    let long = length-append (decimal x) (spaced ms) in
    let k : end ≤ length line = omega (arith, length-drop at line, ap length e) in
    let read : number_from (drop at line) at ≡ Some (x, end) = rw (e, number_read x (spaced ms) at s.0 (spaced_ends ms)) in
    numbers_more line at (suc n) n bs refl (λ q. let z : ⊥ = omega arith in z) x end read
    ∙ numbers_read line end n (bs ++ (x ∷ [])) ms (omega arith) k d s.1
    ∙ ap some (append_assoc bs (x ∷ []) ms)

-- ── the word `store` ──

opens_yes : (ws l : List ℕ) → opens ws l ≡ true → l ≡ ws ++ drop (length ws) l
unfolding opens
opens_yes [] l h = refl
opens_yes (w ∷ ws) [] h = absurd (true≢false (sym h))
opens_yes (w ∷ ws) (b ∷ l) h =
    cases (either (eqb b w))
    (λ t. rw (eqb-true b w t) (ap (λ (x : List ℕ). w ∷ x) (opens_yes ws l (rw t at h))))
    (λ f. absurd (true≢false (sym (rw f at h))))

opens_word : (ws l : List ℕ) → opens ws (ws ++ l) ≡ true
unfolding opens
opens_word [] l = refl
opens_word (w ∷ ws) l = rw (eq-eqb w w refl) (opens_word ws l)

-- ── six numbers ──

six_is : (ms : List ℕ) → length ms ≡ 6 → six_numbers (six_of ms) ≡ ms
six_is [] h = absurd (let z : ⊥ = omega arith in z)
six_is (a ∷ []) h = absurd (let z : ⊥ = omega arith in z)
six_is (a ∷ b ∷ []) h = absurd (let z : ⊥ = omega arith in z)
six_is (a ∷ b ∷ c ∷ []) h = absurd (let z : ⊥ = omega arith in z)
six_is (a ∷ b ∷ c ∷ d ∷ []) h = absurd (let z : ⊥ = omega arith in z)
six_is (a ∷ b ∷ c ∷ d ∷ e ∷ []) h = absurd (let z : ⊥ = omega arith in z)
six_is (a ∷ b ∷ c ∷ d ∷ e ∷ f ∷ []) h = refl
six_is (a ∷ b ∷ c ∷ d ∷ e ∷ f ∷ g ∷ ms) h = absurd (let z : ⊥ = omega arith in z)

-- ── names ──

-- up to the first space stands no space
run_no_space : (l : List ℕ) → NoSpace (take (name_run l) l)
unfolding name_run
run_no_space [] = tt
run_no_space (b ∷ l) = cases (either (eqb b 32)) (λ t. rw t tt) (λ f. rw f (eqb-false b 32 f, run_no_space l))

pub run_few : (l : List ℕ) → name_run l ≤ length l
unfolding name_run
run_few [] = omega arith
run_few (b ∷ l) = let h = run_few l in cases (either (eqb b 32)) (λ t. rw t (omega arith)) (λ f. rw f (omega arith))

-- bytes without a space stand before the space of the numbers, or the end
run_name : (l ns : List ℕ) → NoSpace l → name_run (l ++ spaced ns) ≡ length l
unfolding name_run spaced
run_name [] [] h = refl
run_name [] (n ∷ ns) h = refl
run_name (b ∷ l) ns h = rw (ne_eqb b 32 h.0) (ap suc (run_name l ns h.1))

-- what stands after a letter and a space
after_two : (b s n : ℕ) (l : List ℕ) → drop (2 + n) (b ∷ s ∷ l) ≡ drop n l
after_two b s n l = let e : 2 + n ≡ suc (suc n) = omega arith in rw e

two_on : (b s n : ℕ) (l : List ℕ) → slice (0 + 2) (0 + (2 + n)) (b ∷ s ∷ l) ≡ take n l
two_on b s n l = let e : 0 + (2 + n) ≡ suc (suc n) = omega arith in rw e

-- ── what a line says is its spelling ──

abbrev Says : List ℕ → Parsed → Type 0
Says line (Store s) = Spelled line (makes s)
Says line (Asks c) = ByNumbers line (command c)
Says line (Named n e) = ByName line (command_on n (slice (0 + 2) (0 + e) line))
Says line Parsed.No = Unit {0}

store_says : (line : List ℕ) → opens store line ≡ true → (x : Option (List ℕ)) → numbers_from line 5 6 [] ≡ x → Says line (store_of x)
unfolding Told
store_says line o none e = tt
store_says line o (some ns) e =
    cases (either (eqb (length ns) 6))
    (λ t.
    let w = told line 5 6 [] ns e in
    let six : six_numbers (six_of ns) ≡ w.0 = six_is ns (eqb-true (length ns) 6 t) ∙ w.1 in
    rw t (opens_yes store line o ∙ ap (λ (x : List ℕ). store ++ x) (w.2 ∙ ap spaced (sym six)), subst AllSmall (sym six) w.3))
    (λ f. rw f tt)

call_says : (line : List ℕ) (x : Option Call) (s : (c : Call) → x ≡ some c → ByNumbers line (command c)) → Says line (says_of x)
call_says line none s = tt
call_says line (some c) s = s c refl

asks_says : (b : ℕ) (l : List ℕ) (x : Option (List ℕ)) → numbers_from (b ∷ l) 1 3 [] ≡ x → Says (b ∷ l) (asks_of b x)
unfolding Told
asks_says b l none e = tt
asks_says b l (some ns) e =
    let w = told (b ∷ l) 1 3 [] ns e in
    call_says (b ∷ l) (call_of b ns)
    (λ c is.
    record {
      call = c;
      is = refl;
      signs = record { letter = b; numbers = ns; is = is };
      spells = ap (λ (x : List ℕ). b ∷ x) (w.2 ∙ ap spaced (sym w.1));
      small = subst AllSmall (sym w.1) w.3;
    })

line_says_lem : (line : List ℕ) → Says line (call_line line)
unfolding call_line
line_says_lem [] = tt
line_says_lem (b ∷ l) = asks_says b l (numbers_from (b ∷ l) 1 3 []) refl

naming_says : (line : List ℕ) (end : ℕ) (x : Option Naming) (s : (n : Naming) → x ≡ some n → ByName line (command_on n (slice (0 + 2) (0 + end) line)))
    → Says line (named_of x end)
naming_says line end none s = tt
naming_says line end (some n) s = s n refl

-- a letter, a space, a name and numbers
module _ (b : ℕ) (l : List ℕ) (h : 2 < 2 + name_run l) where
  abbrev line_of : List ℕ
  line_of = b ∷ 32 ∷ l

  abbrev name_of : List ℕ
  name_of = take (name_run l) l

  names_says : (x : Option (List ℕ)) → numbers_from line_of (2 + name_run l) 3 [] ≡ x → Says line_of (names_of b (2 + name_run l) x)
  unfolding Told
  names_says none e = tt
  names_says (some ns) e =
      let w = told line_of (2 + name_run l) 3 [] ns e in
      let rest : drop (name_run l) l ≡ spaced ns = sym (after_two b 32 (name_run l) l) ∙ w.2 ∙ ap spaced (sym w.1) in
      naming_says line_of (2 + name_run l) (naming_of b ns)
      (λ n is.
      record {
        naming = n;
        name = name_of;
        is = ap (command_on n) (sym (two_on b 32 (name_run l) l));
        signs = record { letter = b; numbers = ns; is = is };
        spells = ap (λ (x : List ℕ). b ∷ 32 ∷ x) (sym (take-append-drop (name_run l) l) ∙ ap (λ (x : List ℕ). name_of ++ x) rest);
        is_name_lem = record { bytes = omega (arith, length-take-le (name_run l) l (run_few l)); no_space = run_no_space l };
        small = subst AllSmall (sym w.1) w.3;
      })

name_says : (line : List ℕ) → Says line (name_line line)
unfolding name_line
name_says [] = tt
name_says (b ∷ []) = tt
name_says (b ∷ s ∷ l) =
    cases (either (eqb s 32))
    (λ t.
    cases (either (ltb 2 (2 + name_run l)))
    (λ k. rw (eqb-true s 32 t, k) (names_says b l (ltb-true 2 (2 + name_run l) k) (numbers_from (b ∷ 32 ∷ l) (2 + name_run l) 3 []) refl))
    (λ k. rw (t, k) tt))
    (λ f. rw f tt)

-- a line that says something is not long, and is spelled so
whole : (line : List ℕ) → length line ≤ 80 → (p : Parsed) → Says line p → (p ≡ Parsed.No → ⊥) → Spelled line (spoken_at line 0 p) × (length line ≤ 80)
whole line h (Store s) w n = (w, h)
whole line h (Asks c) w n = (inl w, h)
whole line h (Named k e) w n = (inr w, h)
whole line h Parsed.No w n = absurd (n refl)

parsed_whole : (line : List ℕ) → (parsed line ≡ Parsed.No → ⊥) → Spelled line (spoken_at line 0 (parsed line)) × (length line ≤ 80)
unfolding parsed
parsed_whole line n =
    cases (either (ltb 80 (length line)))
    (λ t. absurd (n (rw t)))
    (λ f.
    let h = ltb-false 80 (length line) f in
    cases (either (opens store line))
    (λ o. rw (f, o) (whole line h (store_of (numbers_from line 5 6 [])) (store_says line o (numbers_from line 5 6 []) refl) (rw (f, o) at n)))
    (λ o.
    cases (either (opens_name line))
    (λ k. rw (f, o, k) (whole line h (name_line line) (name_says line) (rw (f, o, k) at n)))
    (λ k. rw (f, o, k) (whole line h (call_line line) (line_says_lem line) (rw (f, o, k) at n)))))

-- ── what is spelled is said ──

-- a letter that is not the first of `store` opens no `store` line
letter_apart : (b : ℕ) (l : List ℕ) → (b ≡ 115 → ⊥) → opens store (b ∷ l) ≡ false
unfolding opens
letter_apart b l h = rw (ne_eqb b 115 h)

signs_apart : (c : Call) (s : Signs c) (l : List ℕ) → opens store (s.letter ∷ l) ≡ false
signs_apart c s l = letter_apart s.letter l (letter_not_s s.letter s.numbers c s.is)

naming_apart : (n : Naming) (s : NameSigns n) (l : List ℕ) → opens store (s.letter ∷ l) ≡ false
naming_apart n s l = letter_apart s.letter l (naming_not_s s.letter s.numbers n s.is)

-- a call's letter and numbers are said
pub said : (c : Call) (s : Signs c) → suc (length (spaced s.numbers)) ≤ 80 → AllSmall s.numbers → parsed (s.letter ∷ spaced s.numbers) ≡ Asks c
unfolding parsed call_line
said c s h k =
    let line : List ℕ = s.letter ∷ spaced s.numbers in
    let few = numbers_few s.letter s.numbers c s.is in
    rw (
      le-ltb 80 (length line) h,
      signs_apart c s (spaced s.numbers),
      letter_not_name s.letter s.numbers c s.is,
      numbers_read line 1 3 [] s.numbers few (omega arith) refl k,
      s.is,
    )

-- a letter, a name and numbers are said
named_said : (n : Naming) (s : NameSigns n) (l : List ℕ) → suc (suc (length (l ++ spaced s.numbers))) ≤ 80 → IsName l → AllSmall s.numbers
    → parsed (s.letter ∷ 32 ∷ (l ++ spaced s.numbers)) ≡ Named n (2 + length l)
unfolding parsed name_line
named_said n s l h i k =
    let line : List ℕ = s.letter ∷ 32 ∷ (l ++ spaced s.numbers) in
    let few = naming_few s.letter s.numbers n s.is in
    let long = length-append l (spaced s.numbers) in
    let rest : drop (2 + length l) line ≡ spaced s.numbers =
    after_two s.letter 32 (length l) (l ++ spaced s.numbers) ∙ drop-append_seam l (spaced s.numbers) in
    rw (
      le-ltb 80 (length line) h,
      naming_apart n s (32 ∷ (l ++ spaced s.numbers)),
      naming_listed s.letter s.numbers n s.is,
      run_name l s.numbers i.no_space,
      lt-ltb 2 (2 + length l) (omega (arith, i.bytes)),
      numbers_read line (2 + length l) 3 [] s.numbers few (omega arith) rest k,
      s.is,
    )

by_numbers_said : (line : List ℕ) (c : Command) → length line ≤ 80 → ByNumbers line c → spoken line ≡ asks c
unfolding spoken
by_numbers_said line c h w =
    let k : suc (length (spaced w.signs.numbers)) ≤ 80 = rw w.spells at h in
    ap (spoken_at line 0) (ap parsed w.spells ∙ said w.call w.signs k w.small) ∙ ap asks w.is

by_name_said : (line : List ℕ) (c : Command) → length line ≤ 80 → ByName line c → spoken line ≡ asks c
unfolding spoken
by_name_said line c h w =
    let ns = w.signs.numbers in
    let k : suc (suc (length (w.name ++ spaced ns))) ≤ 80 = rw w.spells at h in
    let n : ℕ = length w.name in
    let is : slice (0 + 2) (0 + (2 + n)) line ≡ w.name =
    ap (slice (0 + 2) (0 + (2 + n))) w.spells ∙ two_on w.signs.letter 32 n (w.name ++ spaced ns) ∙ take_at w.name (spaced ns) n refl in
    ap (spoken_at line 0) (ap parsed w.spells ∙ named_said w.naming w.signs w.name k w.is_name_lem w.small)
    ∙ ap (λ (l : List ℕ). asks (command_on w.naming l)) is
    ∙ ap asks w.is

spelled_said : (line : List ℕ) (s : Spoken) → length line ≤ 80 → Spelled line s → spoken line ≡ s
unfolding spoken parsed
spelled_said line (makes s) h w =
    let text : List ℕ = store ++ spaced (six_numbers s) in
    let long = length-append store (spaced (six_numbers s)) in
    let k : length text ≤ 80 = rw w.0 at h in
    let read = numbers_read text 5 6 [] (six_numbers s) (omega arith) (omega arith) refl w.1 in
    rw (w.0, le-ltb 80 (length text) k, opens_word store (spaced (six_numbers s)), read)
spelled_said line (asks c) h (inl w) = by_numbers_said line c h w
spelled_said line (asks c) h (inr w) = by_name_said line c h w
spelled_said line nothing h w = absurd w

-- A LINE ASKS FOR s EXACTLY WHEN IT IS SPELLED SO, has at most 80 bytes, and its numbers 1 to 7 digits
pub parsed_iff : (line : List ℕ) → (s : Spoken) → (s ≡ nothing → ⊥) → (spoken line ≡ s) ↔ (Spelled line s × (length line ≤ 80))
unfolding spoken
parsed_iff line s n =
    (λ e. let w = parsed_whole line (λ q. n (sym e ∙ ap (spoken_at line 0) q)) in rw e at w, λ w. spelled_said line s w.1 w.0)

-- one spelling asks for one thing
pub asks_one : (line : List ℕ) (s t : Spoken) → length line ≤ 80 → Spelled line s → Spelled line t → s ≡ t
asks_one line s t h w v = sym (spelled_said line s h w) ∙ spelled_said line t h v

-- the two kinds of lines are never spelled alike, however long
pub spelled_apart : (line : List ℕ) (s : Six) (c : Command) → Spelled line (makes s) → Spelled line (asks c) → ⊥
spelled_apart line s c w v =
    true≢false (sym (opens_word store (spaced (six_numbers s))) ∙ ap (opens store) (sym w.0) ∙ apart v)
  where
    apart : ByNumbers line c ⊎ ByName line c → opens store line ≡ false
    apart (inl u) = ap (opens store) u.spells ∙ signs_apart u.call u.signs (spaced u.signs.numbers)
    apart (inr u) = ap (opens store) u.spells ∙ naming_apart u.naming u.signs (32 ∷ (u.name ++ spaced u.signs.numbers))
