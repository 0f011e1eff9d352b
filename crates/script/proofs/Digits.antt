-- A number is read exactly from its decimal digits: what is read was spelled so, and what is spelled so is read back.
use Prim.Native.Nat.{ℕ, zero, suc, ◌+◌, ◌-◌, ◌*◌, ◌/◌, ◌%◌, ◌^◌, ◌<◌, ◌≤◌}
use mathlib.Core.Path.{◌≡◌, refl, sym, ap, ◌∙◌}
use mathlib.Core.Bool.{true, false, true≢false}
use mathlib.Core.List.{List, [], ◌∷◌, ◌++◌, append_assoc, append-nil}
use native.Mathlib.Nat.{pow-succ', pow-le-pow_right, add-zero, zero-add}
use native.Mathlib.Omega.{arith}
use borrow.Author.Tests.{eq-eqb, ne_eqb, leb-true, eqb-true}
use lib.ListN.{length, length-append}
use lib.Dec.{eqb, leb}
use Rattle.answer.proofs.Cases.{cases, either, lt?, same?}
use Rattle.std.specs.Prelude.{Some, None}
use Rattle.script.specs.Decimal.{decimal}
use Rattle.script.specs.Parse.{is_digit, digits_from, first_digit, number_from}
use Rattle.script.proofs.Decimals.{decimal_one, decimal_more, length_decimal}
use Rattle.script.proofs.Reading.{read, digits_over, digit_yes}

pub read_same : {v w a e : ℕ} → read v a ≡ read w e → (v ≡ w) × (a ≡ e)
read_same p = (ap (λ (r : ℕ × ℕ). r.0) p, ap (λ (r : ℕ × ℕ). r.1) p)

some_read : {r s : ℕ × ℕ} → Some r ≡ Some s → r ≡ s
some_read p = cc

pub read_not : {r : ℕ × ℕ} → None ≡ Some r → ⊥
read_not p = let z : ◌≡◌ {A = ℕ} 0 1 = cc in omega arith

pub digit_range : (b : ℕ) → is_digit b ≡ true → (48 ≤ b) × (b ≤ 57)
digit_range b h =
    cases (either (leb 48 b))
    (λ t. (leb-true 48 b t, leb-true b 57 (rw t at h)))
    (λ f. absurd (true≢false (sym (rw f at h))))

-- a digit behind a number's digits
decimal_digit : (v b : ℕ) → 0 < v → 48 ≤ b → b ≤ 57 → decimal (v * 10 + (b - 48)) ≡ decimal v ++ (b ∷ [])
decimal_digit v b h lo hi =
    let n : ℕ = v * 10 + (b - 48) in
    let q : n / 10 ≡ v = omega arith in
    let r : 48 + n % 10 ≡ b = omega arith in
    decimal_more n (omega arith) ∙ ap (λ (x : ℕ). decimal x ++ ((48 + n % 10) ∷ [])) q ∙ ap (λ (x : ℕ). decimal v ++ (x ∷ [])) r

-- ── what is read was spelled ──

-- that l, behind the digits of v, is the digits of w and a rest
Spelt : ℕ → List ℕ → ℕ → ℕ → ℕ → Type 0
Spelt v l at w e = (rest : List ℕ) × (decimal v ++ l ≡ decimal w ++ rest) × (e + length (decimal v) ≡ at + length (decimal w)) × (w < 10_000_000)

spelt_here : (v : ℕ) (l : List ℕ) (at w e : ℕ) → v < 10_000_000 → read v at ≡ read w e → Spelt v l at w e
unfolding Spelt
spelt_here v l at w e h p =
    let s = read_same p in
    let q : v ≡ w = s.0 in
    (l, ap (λ (x : ℕ). decimal x ++ l) q, rw q (omega arith), omega arith)

power_small : (k v : ℕ) → k ≤ 7 → v < 10 ^ k → v < 10_000_000
power_small k v h b =
    let p : 10 ^ k ≤ 10 ^ 7 = pow-le-pow_right {n = 10} (omega arith) {i = k} {j = 7} h in
    omega arith

digits_spelt : (l : List ℕ) (v k room at w e : ℕ) → 0 < v → v < 10 ^ k → k + room ≡ 7 → digits_from l v room at ≡ read w e → Spelt v l at w e
unfolding digits_from Spelt
digits_spelt [] v k room at w e h b r p = spelt_here v [] at w e (power_small k v (omega arith) b) p
digits_spelt (d ∷ l) v k zero at w e h b r p = spelt_here v (d ∷ l) at w e (power_small k v (omega arith) b) p
digits_spelt (d ∷ l) v k (suc room) at w e h b r p =
    cases (either (is_digit d))
    (λ t.
    let g = digit_range d t in
    let n : ℕ = v * 10 + (d - 48) in
    let c : decimal n ≡ decimal v ++ (d ∷ []) = decimal_digit v d h g.0 g.1 in
    let b' : n < 10 ^ suc k = rw (pow-succ' 10 k) (omega (arith, g.0, g.1)) in
    let s = digits_spelt l n (suc k) room (at + 1) w e (omega arith) b' (omega arith) (rw t at p) in
    let m = length-append (decimal v) (d ∷ []) in
    (s.0, sym (append_assoc (decimal v) (d ∷ []) l) ∙ ap (λ (x : List ℕ). x ++ l) (sym c) ∙ s.1, omega (arith, s.2, ap length c), s.3))
    (λ f. spelt_here v (d ∷ l) at w e (power_small k v (omega arith) b) (rw f at p))

-- WHAT IS READ WAS SPELLED: a space and the digits of the number, which is small
pub number_spelt : (l : List ℕ) (at w e : ℕ) → number_from l at ≡ Some (read w e)
    → (rest : List ℕ) × (l ≡ 32 ∷ (decimal w ++ rest)) × (e ≡ at + suc (length (decimal w))) × (w < 10_000_000)
unfolding number_from first_digit Spelt
number_spelt [] at w e p = absurd (read_not p)
number_spelt (b ∷ []) at w e p = cases (either (eqb b 32)) (λ t. absurd (read_not (rw t at p))) (λ f. absurd (read_not (rw f at p)))
number_spelt (b ∷ d ∷ l) at w e p =
    cases (either (eqb b 32))
    (λ t.
    let p₁ = rw t at p in
    cases (same? d 48)
    (λ z.
    let s = read_same (some_read (rw (eq-eqb d 48 z) at p₁)) in
    let c : decimal w ≡ 48 ∷ [] = rw (← s.0) (decimal_one 0 (omega arith)) in
    (l, rw (c, eqb-true b 32 t, z), rw c (omega (arith, s.1)), omega (arith, s.0)))
    (λ z.
    let p₂ = rw (ne_eqb d 48 z) at p₁ in
    cases (either (is_digit d))
    (λ y.
    let g = digit_range d y in
    let q : 48 + (d - 48) ≡ d = omega (arith, g.0) in
    let c : decimal (d - 48) ≡ d ∷ [] = decimal_one (d - 48) (omega (arith, g.1)) ∙ ap (λ (x : ℕ). x ∷ []) q in
    let s = digits_spelt l (d - 48) 1 6 (at + 1 + 1) w e (omega (arith, g.0, z)) (omega (arith, g.1)) refl (some_read (rw y at p₂)) in
    (s.0, rw (eqb-true b 32 t) (ap (λ (x : List ℕ). 32 ∷ (x ++ l)) (sym c) ∙ ap (λ (x : List ℕ). 32 ∷ x) s.1), omega (arith, s.2, ap length c), s.3))
    (λ y. absurd (read_not (rw y at p₂)))))
    (λ f. absurd (read_not (rw f at p)))

-- ── what is spelled is read ──

abbrev pub AllDigits : List ℕ → Type 0
AllDigits [] = Unit {0}
AllDigits (b ∷ l) = (is_digit b ≡ true) × AllDigits l

-- the number that digits make behind those of v
abbrev pub value_of : ℕ → List ℕ → ℕ
value_of v [] = v
value_of v (b ∷ l) = value_of (v * 10 + (b - 48)) l

-- no digit follows
abbrev pub Ends : List ℕ → Type 0
Ends [] = Unit {0}
Ends (b ∷ l) = is_digit b ≡ false

value_behind : (v : ℕ) (l : List ℕ) (b : ℕ) → value_of v (l ++ (b ∷ [])) ≡ value_of v l * 10 + (b - 48)
value_behind v [] b = refl
value_behind v (a ∷ l) b = value_behind (v * 10 + (a - 48)) l b

digits_behind : (l : List ℕ) (b : ℕ) → AllDigits l → is_digit b ≡ true → AllDigits (l ++ (b ∷ []))
digits_behind [] b h k = (k, tt)
digits_behind (a ∷ l) b h k = (h.0, digits_behind l b h.1 k)

-- the digits of a number but 0: the first is not 0, and together they make the number
unfoldable pub Makes : ℕ → Type 0
Makes n = (d : ℕ) × (l : List ℕ) × (decimal n ≡ d ∷ l) × (49 ≤ d) × (d ≤ 57) × AllDigits l × (value_of (d - 48) l ≡ n)

pub makes : (k n : ℕ) → n ≤ k → 0 < n → Makes n
unfolding Makes
makes zero n h g = absurd (let z : ⊥ = omega arith in z)
makes (suc k) n h g =
    cases (lt? n 10)
    (λ e. (48 + n, [], decimal_one n e, omega arith, omega arith, tt, omega arith))
    (λ e.
    let m = makes k (n / 10) (omega arith) (omega arith) in
    let b : ℕ = 48 + n % 10 in (
      m.0,
      m.1 ++ (b ∷ []),
      decimal_more n e ∙ ap (λ (x : List ℕ). x ++ (b ∷ [])) m.2,
      m.3,
      m.4,
      digits_behind m.1 b m.5 (digit_yes b (omega arith) (omega arith)),
      value_behind (m.0 - 48) m.1 b ∙ omega (arith, m.6),
    ))

digits_read : (l rest : List ℕ) (v room at : ℕ) → AllDigits l → Ends rest → length l ≤ room
    → digits_from (l ++ rest) v room at ≡ read (value_of v l) (at + length l)
unfolding digits_from
digits_read [] [] v room at a e h = ap (read v) (sym (add-zero at))
digits_read [] (b ∷ rest) v room at a e h = digits_over b rest v room at e ∙ ap (read v) (sym (add-zero at))
digits_read (b ∷ l) rest v zero at a e h = absurd (let z : ⊥ = omega arith in z)
digits_read (b ∷ l) rest v (suc room) at a e h =
    let k : at + 1 + length l ≡ at + suc (length l) = omega arith in
    rw a.0 (digits_read l rest (v * 10 + (b - 48)) room (at + 1) a.1 e (omega arith) ∙ ap (read (value_of (v * 10 + (b - 48)) l)) k)

-- WHAT IS SPELLED IS READ
pub number_read : (w : ℕ) (rest : List ℕ) (at : ℕ) → w < 10_000_000 → Ends rest
    → number_from (32 ∷ (decimal w ++ rest)) at ≡ Some (read w (at + suc (length (decimal w))))
unfolding number_from first_digit Makes
number_read zero rest at h e =
    let k : at + 1 + 1 ≡ at + 2 = omega arith in
    rw (decimal_one 0 (omega arith)) (ap (λ (x : ℕ). Some (read 0 x)) k)
number_read (suc n) rest at h e =
    let w : ℕ = suc n in
    let m = makes w w (omega arith) (omega arith) in
    let d = m.0 in
    let l = m.1 in
    let len = length_decimal 6 w (omega arith) in
    let k : at + 1 + 1 + length l ≡ at + suc (length (d ∷ l)) = omega arith in
    let ne : d ≡ 48 → ⊥ = omega (arith, m.3) in
    rw (m.2, ne_eqb d 48 ne, digit_yes d (omega (arith, m.3)) m.4)
    (ap Some (digits_read l rest (d - 48) 6 (at + 1 + 1) m.5 e (omega (arith, ap length m.2))
    ∙ ap (λ (x : ℕ). read x (at + 1 + 1 + length l)) m.6 ∙ ap (read w) k))

-- ── decimal digits are what they should be ──

-- they are digits, and make the number
pub decimal_means : (n : ℕ) → AllDigits (decimal n) × (value_of 0 (decimal n) ≡ n)
unfolding Makes
decimal_means zero = rw (decimal_one 0 (omega arith)) ((refl, tt), refl)
decimal_means (suc n) =
    let m = makes (suc n) (suc n) (omega arith) (omega arith) in
    rw m.2 ((digit_yes m.0 (omega (arith, m.3)) m.4, m.5), ap (λ (v : ℕ). value_of v m.1) (zero-add (m.0 - 48)) ∙ m.6)

decimal_behind : (l : List ℕ) (v : ℕ) → 0 < v → AllDigits l → decimal (value_of v l) ≡ decimal v ++ l
decimal_behind [] v h a = sym (append-nil (decimal v))
decimal_behind (b ∷ l) v h a =
    let g = digit_range b a.0 in
    decimal_behind l (v * 10 + (b - 48)) (omega arith) a.1
    ∙ ap (λ (x : List ℕ). x ++ l) (decimal_digit v b h g.0 g.1)
    ∙ append_assoc (decimal v) (b ∷ []) l

-- digits that do not begin with 0 are the digits of the number that they make
pub decimal_only : (d : ℕ) (l : List ℕ) → 49 ≤ d → d ≤ 57 → AllDigits l → decimal (value_of (d - 48) l) ≡ d ∷ l
decimal_only d l h k a =
    let e : 48 + (d - 48) ≡ d = omega arith in
    decimal_behind l (d - 48) (omega arith) a ∙ ap (λ (x : List ℕ). x ++ l) (decimal_one (d - 48) (omega arith) ∙ ap (λ (x : ℕ). x ∷ []) e)
