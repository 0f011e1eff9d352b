-- Words that are joined by the blocks of a list, bit by bit.
use Rattle.std.proofs.Common.{
  ◌≡◌,
  ℕ,
  suc,
  ◌+◌,
  ◌-◌,
  ◌*◌,
  ◌/◌,
  ◌%◌,
  ◌^◌,
  ◌<◌,
  ◌≤◌,
  Bool,
  true,
  false,
  not,
  ◌&&◌,
  ◌||◌,
  eqb,
  ltb,
  List,
  [],
  ◌∷◌,
  length,
  get_or,
  set,
  sym,
  refl,
  ap,
  ◌∙◌,
  inl,
  inr,
  lt_of_le_of_lt,
  arith,
  length-set,
  get_or-set_other,
  get_or-set_same,
  pow_pos,
  le-ltb,
  lt-ltb,
  eq-eqb,
  ne_eqb,
}
use mathlib.Core.Bool.{and-false, or-false, false≢true, or_assoc}
use lib.Bits.{bit_and, bit_or, and_le_r, or_lt}
use lib.Pow.{pow-lt}
use lib.Seq.{set_out}
use Rattle.answer.proofs.Cases.{cases, either, same?, lt?}
use Rattle.choice.specs.Words.{bit, free_in}
use Rattle.choice.proofs.Bit.{bit_or_lem, bit_and_lem, bit_one, bit_ext, no_bit}
use Rattle.model.specs.Lists.{In, Once, elem}
use Rattle.model.specs.Layout.{numbers}
use Rattle.model.proofs.Reflect.{Says, says_map, says_true, says_lt, ◌&◌}
use Rattle.soundness.specs.Waiting.{with_bit, joined, joins?}

-- ── one bit of a word, as the code reads it ──

-- a number beside one bit is 0 just where it has not this bit
bit_off : (w k : ℕ) → bit_and w (2 ^ k) ≡ 0 → bit w k ≡ false
bit_off w k e =
    cases (either (bit w k))
    (λ y. absurd (false≢true (sym (no_bit k) ∙ ap (λ x. bit x k) (sym e) ∙ bit_and_lem k w (2 ^ k) ∙ rw (y, bit_one k k) (eq-eqb k k refl))))
    (λ n. n)

bit_on : (w k : ℕ) → (bit_and w (2 ^ k) ≡ 0 → ⊥) → bit w k ≡ true
bit_on w k d =
    cases (either (bit w k))
    (λ y. y)
    (λ n. absurd (d (bit_ext (suc k) (bit_and w (2 ^ k)) 0 (lt_of_le_of_lt (and_le_r w (2 ^ k)) (pow-lt {i = k} (omega arith))) (pow_pos (suc k))
    (λ i l. bit_and_lem i w (2 ^ k) ∙ ap (λ (x : Bool). bit w i && x) (bit_one k i) ∙ none i n ∙ sym (no_bit i)))))
  where
    none : (i : ℕ) → bit w k ≡ false → (bit w i && eqb i k) ≡ false
    none i n = cases (same? i k) (λ e. rw (e, n)) (λ m. rw (ne_eqb i k m) (and-false (bit w i)))

-- ── one block more ──

-- two blocks are one where their words and their bits are
same_bit : (b c : ℕ) → c / 32 ≡ b / 32 → eqb (c % 32) (b % 32) ≡ eqb c b
same_bit b c h =
    cases (same? c b)
    (λ e. eq-eqb (c % 32) (b % 32) (omega arith) ∙ sym (eq-eqb c b e))
    (λ d. ne_eqb (c % 32) (b % 32) (λ e. d (omega arith)) ∙ sym (ne_eqb c b d))

module _ (words : List ℕ) (b : ℕ) where
  with_long : length (with_bit words b) ≡ length words
  unfolding with_bit
  with_long = length-set words (b / 32) (bit_or (get_or words (b / 32) 0) (2 ^ (b % 32)))

  with_bit_lem : b < 32 * length words → (c : ℕ) → free_in (with_bit words b) c ≡ (free_in words c || eqb c b)
  unfolding free_in with_bit
  with_bit_lem h c =
      let v : ℕ = bit_or (get_or words (b / 32) 0) (2 ^ (b % 32)) in
      cases (same? (c / 32) (b / 32))
      (λ e. rw e (ap (λ x. bit x (c % 32)) (get_or-set_same words (b / 32) v 0 (omega arith)) ∙ bit_or_lem (c % 32) (get_or words (b / 32) 0) (2 ^ (b % 32)) ∙
      ap (λ (x : Bool). bit (get_or words (b / 32) 0) (c % 32) || x) (bit_one (b % 32) (c % 32) ∙ same_bit b c e)))
      (λ d. ap (λ x. bit x (c % 32)) (get_or-set_other words (b / 32) (c / 32) v 0 d) ∙
      sym (ap (λ (x : Bool). bit (get_or words (c / 32) 0) (c % 32) || x) (ne_eqb c b (λ e. d (ap (λ x. x / 32) e))) ∙
      or-false (bit (get_or words (c / 32) 0) (c % 32))))

  with_fits : ((k : ℕ) → get_or words k 0 < 2 ^ 32) → (k : ℕ) → get_or (with_bit words b) k 0 < 2 ^ 32
  unfolding with_bit
  with_fits f k =
      let v : ℕ = bit_or (get_or words (b / 32) 0) (2 ^ (b % 32)) in
      let small : v < 2 ^ 32 = or_lt 32 (get_or words (b / 32) 0) (2 ^ (b % 32)) (f (b / 32)) (pow-lt {i = b % 32} {j = 32} (omega arith)) in
      cases (lt? (b / 32) (length words))
      (λ h. cases (same? k (b / 32))
      (λ e. rw (e, get_or-set_same words (b / 32) v 0 h) small)
      (λ d. rw (get_or-set_other words (b / 32) k v 0 d) (f k)))
      (λ h. rw (set_out words (b / 32) v h) (f k))

-- ── all blocks of a list ──

-- they are blocks that the words have a bit for
abbrev Inside : List ℕ → List ℕ → Type 0
Inside words l = (b : ℕ) → In b l → b < 32 * length words

inside_next : (words l : List ℕ) (b : ℕ) → Inside words (b ∷ l) → Inside (with_bit words b) l
inside_next words l b h c i = omega (arith, h c (inr i), with_long words b)

pub joined_long : (l words : List ℕ) → length (joined words l) ≡ length words
unfolding joined
joined_long [] words = refl
joined_long (b ∷ l) words = joined_long l (with_bit words b) ∙ with_long words b

pub joined_bit : (l words : List ℕ) → ((b : ℕ) → In b l → b < 32 * length words) → (c : ℕ) → free_in (joined words l) c ≡ (free_in words c || elem c l)
unfolding joined elem
joined_bit [] words h c = sym (or-false (free_in words c))
joined_bit (b ∷ l) words h c =
    joined_bit l (with_bit words b) (inside_next words l b h) c ∙ ap (λ (x : Bool). x || elem c l) (with_bit_lem words b (h b (inl refl)) c) ∙
    or_assoc (free_in words c) (eqb c b) (elem c l)

pub joined_fits : (l words : List ℕ) → ((k : ℕ) → get_or words k 0 < 2 ^ 32) → (k : ℕ) → get_or (joined words l) k 0 < 2 ^ 32
unfolding joined
joined_fits [] words f = f
joined_fits (b ∷ l) words f = joined_fits l (with_bit words b) (with_fits words b f)

-- ── the test ──

-- blocks below n, none twice, and none that the words have
pub record Joins (n : ℕ) (words l : List ℕ) : Type 0 where
  pub below : (b : ℕ) → In b l → b < n
  pub apart : (b : ℕ) → In b l → free_in words b ≡ false
  pub once : Once l

-- two tests of one statement
pub one_test : {t u : Bool} {P Q : Type 0} → Says t P → Says u Q → (P → Q) → (Q → P) → t ≡ u
one_test {t} {u} a b f h =
    cases (either t)
    (λ y. y ∙ sym (b.passes (f (a.holds y))))
    (λ n. cases (either u) (λ y. absurd (false≢true (sym n ∙ a.passes (h (b.holds y))))) (λ m. n ∙ sym m))

pub or_none : (s t : Bool) → (s || t) ≡ false → (s ≡ false) × (t ≡ false)
or_none true t e = absurd (false≢true (sym e))
or_none false t e = (refl, e)

says_off : (t : Bool) → Says (not t) (t ≡ false)
says_off true = record { holds = λ e. absurd (false≢true e); passes = λ e. absurd (false≢true (sym e)) }
says_off false = record { holds = λ e. refl; passes = λ e. refl }

pub says_joins : (n : ℕ) (l words : List ℕ) → n ≤ 32 * length words → Says (joins? n words l) (Joins n words l)
unfolding joins?
says_joins n [] words h = says_true (record { below = λ b i. absurd i; apart = λ b i. absurd i; once = tt })
says_joins n (b ∷ l) words h =
    says_map
    (λ p.
    let off : (c : ℕ) → In c l → (free_in words c ≡ false) × (eqb c b ≡ false) =
    λ c i. or_none (free_in words c) (eqb c b) (sym (with_bit_lem words b (omega (arith, p.0)) c) ∙ p.1.1.apart c i) in
    record {
      below = λ c i. cases i (λ e. omega (arith, p.0)) (p.1.1.below c);
      apart = λ c i. cases i (λ e. rw e p.1.0) (λ j. (off c j).0);
      once = (λ c i e. false≢true (sym (off c i).1 ∙ eq-eqb c b (sym e)), p.1.1.once);
    })
    (λ q. (
      q.below b (inl refl),
      (
        q.apart b (inl refl),
        record {
          below = λ c i. q.below c (inr i);
          apart = λ c i. with_bit_lem words b (omega (arith, q.below b (inl refl))) c ∙ rw (q.apart c (inr i), ne_eqb c b (λ e. q.once.0 c i (sym e)));
          once = q.once.1;
        },
      ),
    ))
    (says_lt b n & (says_off (free_in words b) & says_joins n l (with_bit words b) (omega (arith, with_long words b))))

-- ── the loop over n blocks of the tables t from address a on ──

-- those before the i-th are set: what is left comes to the same from here as all of it from the start
pub record Setting (N a n : ℕ) (t words₀ words : List ℕ) (i : ℕ) : Type 0 where
  pub to : i ≤ n
  pub size : length words ≡ 64
  pub same : joins? N words (numbers t (a + i) (n - i)) ≡ joins? N words₀ (numbers t a n)
  pub sets : joined words (numbers t (a + i) (n - i)) ≡ joined words₀ (numbers t a n)

module _ (N a n : ℕ) (t words₀ : List ℕ) where
  -- what `set_listed` answers, and leaves
  abbrev Answer : Bool → List ℕ → Type 0
  Answer r words = (r ≡ joins? N words₀ (numbers t a n)) × (r ≡ true → words ≡ joined words₀ (numbers t a n))

  module _ {words : List ℕ} {i : ℕ} (W : Setting N a n t words₀ words i) where
    pub setting_ends : n ≤ i → Answer true words
    unfolding numbers joins? joined
    setting_ends h =
        let d : n - i ≡ 0 = omega (arith, W.to) in
        (rw d at W.same, λ e. rw d at W.sets)

    module _ (h : i < n) {b : ℕ} (eb : b ≡ get_or t (a + i) 0) where
      entry : numbers t (a + i) (n - i) ≡ b ∷ numbers t (a + (i + 1)) (n - (i + 1))
      unfolding numbers
      entry =
          let d : n - i ≡ suc (n - (i + 1)) = omega arith in
          let k : suc (a + i) ≡ a + (i + 1) = omega arith in
          rw (d, eb, ← k)

      fails : joins? N words (b ∷ numbers t (a + (i + 1)) (n - (i + 1))) ≡ false → Answer false words
      fails e = (sym e ∙ ap (joins? N words) (sym entry) ∙ W.same, λ z. absurd (false≢true z))

      -- an entry that is no block
      pub setting_beyond : N ≤ b → Answer false words
      unfolding joins?
      setting_beyond k = fails (rw (le-ltb b N k))

      module _ {x : ℕ} (ex : x ≡ 2 ^ (b % 32)) where
        -- one whose bit is set before
        pub setting_fails : (bit_and (get_or words (b / 32) 0) x ≡ 0 → ⊥) → Answer false words
        unfolding joins? free_in
        setting_fails d = fails (rw (bit_on (get_or words (b / 32) 0) (b % 32) (rw ex at d)) (and-false (ltb b N)))

        pub setting_goes : b < N → bit_and (get_or words (b / 32) 0) x ≡ 0 →
            Setting N a n t words₀ (set words (b / 32) (bit_or (get_or words (b / 32) 0) x)) (i + 1)
        unfolding joins? joined with_bit free_in
        setting_goes l e = rw ex (record {
          to = omega arith;
          size = with_long words b ∙ W.size;
          same = sym (rw (lt-ltb b N l, bit_off (get_or words (b / 32) 0) (b % 32) (rw ex at e)) at (ap (joins? N words) entry)) ∙ W.same;
          sets = sym (ap (joined words) entry) ∙ W.sets;
        })
