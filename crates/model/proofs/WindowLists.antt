-- Lists: some taken out of them, the first few of them, all but the last.
use mathlib.Core.Path.{◌≡◌, refl, sym, ap, ◌∙◌}
use mathlib.Core.Logic.{◌⊎◌, inl, inr}
use mathlib.Core.Bool.{Bool, true, false, not, ◌&&◌}
use mathlib.Core.List.{List, [], ◌∷◌, ◌++◌}
use Prim.Native.Nat.{ℕ, zero, suc, ◌+◌, ◌≤◌}
use native.Mathlib.Omega.{arith}
use lib.ListN.{length, take, length-append}
use borrow.Author.Tests.{eq-eqb, ne_eqb, lt-ltb}
use Rattle.model.specs.Lists.{In, Pairwise, Once, elem, keep_if, but_last, trim, trim_walk}
use Rattle.answer.proofs.Cases.{cases, either, same?}
use Rattle.model.proofs.ListFacts.{keep_no, in_keep, of_keep, pw_keep, keep_ext, keep_keep, keep_all, in_left, in_right, of_append, pw_append}
use Rattle.model.proofs.ListFacts.{no_longer, in?}
use Rattle.model.proofs.Waiting.{in_elem, not_in_elem}
use Rattle.model.proofs.WindowDelete.{rest}

-- ── some taken out ──

module _ (vs : List ℕ) where
  abbrev stays : ℕ → Bool
  stays s = not (elem s vs)

  stays_yes : (s : ℕ) → (In s vs → ⊥) → stays s ≡ true
  stays_yes s n = rw (not_in_elem s vs n)

  stays_no : (s : ℕ) → stays s ≡ true → In s vs → ⊥
  stays_no s e i = mathlib.Core.Bool.false≢true (let z : false ≡ true = rw (in_elem s vs i) at e in z)

  pub in_rest : (s : ℕ) (l : List ℕ) → In s l → (In s vs → ⊥) → In s (rest vs l)
  in_rest s l i n = in_keep stays s l i (stays_yes s n)

  pub of_rest : (s : ℕ) (l : List ℕ) → In s (rest vs l) → In s l × (In s vs → ⊥)
  of_rest s l i = let w = of_keep stays s l i in (w.0, stays_no s w.1)

  pub rest_length : (l : List ℕ) → Once vs → Once l → ((s : ℕ) → In s vs → In s l) → length (rest vs l) + length vs ≡ length l
  rest_length l ov ol h =
      let a = no_longer (rest vs l ++ vs) l
      (pw_append (λ b c. b ≡ c → ⊥) (rest vs l) vs (pw_keep stays (λ b c. b ≡ c → ⊥) l ol) ov (λ b c i j e. (of_rest b l i).1 (rw e j)))
      (λ b i. cases (of_append b (rest vs l) vs i) (λ j. (of_rest b l j).0) (λ j. h b j)) in
      let c = no_longer l (rest vs l ++ vs) ol
      (λ b i. cases (in? b vs) (λ j. in_right b (rest vs l) vs j) (λ n. in_left b (rest vs l) vs (in_rest b l i n))) in
      omega (arith, length-append (rest vs l) vs)

pub rest_none : (l : List ℕ) → rest [] l ≡ l
unfolding elem
rest_none l = keep_all (λ s. not (elem s [])) l (λ c i. refl)

-- v, then ws
pub rest_rest : (v : ℕ) (ws l : List ℕ) → rest ws (rest (v ∷ []) l) ≡ rest (v ∷ ws) l
unfolding elem
rest_rest v ws l =
    keep_keep (λ s. not (elem s ws)) (λ s. not (elem s (v ∷ []))) l ∙
    keep_ext (λ s. not (elem s (v ∷ [])) && not (elem s ws)) (λ s. not (elem s (v ∷ ws))) l
    (λ s i. cases (same? s v) (λ e. rw (eq-eqb s v e)) (λ n. rw (ne_eqb s v n)))

-- where v is the first that passes, the others pass when it is taken out
pub keep_rest : (t : ℕ → Bool) (v : ℕ) (l c : List ℕ) → Once l → keep_if t l ≡ v ∷ c → keep_if t (rest (v ∷ []) l) ≡ c
unfolding elem
keep_rest t v l c o e =
    let u : ℕ → Bool = λ s. not (elem s (v ∷ [])) in
    let p : Once (v ∷ c) = rw e at (pw_keep t (λ b d. b ≡ d → ⊥) l o) in
    keep_keep t u l ∙
    keep_ext (λ s. u s && t s) (λ s. t s && u s) l (λ s i. swap (u s) (t s)) ∙
    sym (keep_keep u t l) ∙ ap (keep_if u) e ∙ keep_no u v c (rw (eq-eqb v v refl)) ∙
    keep_all u c (λ s i. rw (ne_eqb s v (λ d. p.0 s i (sym d))))
  where
    swap : (x y : Bool) → (x && y) ≡ (y && x)
    swap true true = refl
    swap true false = refl
    swap false true = refl
    swap false false = refl

-- ── the first k ──

pub of_take : (k : ℕ) (l : List ℕ) (s : ℕ) → In s (take k l) → In s l
of_take zero l s i = absurd i
of_take (suc k) [] s i = i
of_take (suc k) (t ∷ l) s i = cases i (λ e. inl e) (λ j. inr (of_take k l s j))

pub pw_take : (R : ℕ → ℕ → Type 0) (k : ℕ) (l : List ℕ) → Pairwise R l → Pairwise R (take k l)
pw_take R zero l p = tt
pw_take R (suc k) [] p = tt
pw_take R (suc k) (t ∷ l) p = (λ s i. p.0 s (of_take k l s i), pw_take R k l p.1)

-- each of the first k stands before each of the others
pub take_before : (R : ℕ → ℕ → Type 0) (k : ℕ) (l : List ℕ) (s t : ℕ) →
    Pairwise R l → In s (take k l) → In t l → (In t (take k l) → ⊥) → R s t
take_before R zero l s t p i j n = absurd i
take_before R (suc k) [] s t p i j n = absurd j
take_before R (suc k) (u ∷ l) s t p i j n =
    cases j
    (λ e. absurd (n (inl e)))
    (λ m. cases i
    (λ e. rw e (p.0 t m))
    (λ h. take_before R k l s t p.1 h m (λ w. n (inr w))))

-- all of them, or k
pub take_all_or : (k : ℕ) (l : List ℕ) → (take k l ≡ l) ⊎ (length (take k l) ≡ k)
take_all_or zero l = inr refl
take_all_or (suc k) [] = inl refl
take_all_or (suc k) (t ∷ l) = cases (take_all_or k l) (λ e. inl (ap {B = List ℕ} (λ m. t ∷ m) e)) (λ e. inr (ap suc e))

pub take_most : (k : ℕ) (l : List ℕ) → length (take k l) ≤ k
take_most zero l = omega arith
take_most (suc k) [] = omega arith
take_most (suc k) (t ∷ l) = omega (arith, take_most k l)

-- ── one walk ──

module _ (may : ℕ → Bool) where
  walk_done : (l : List ℕ) → trim_walk may 0 l ≡ []
  unfolding trim_walk
  walk_done [] = refl
  walk_done (s ∷ []) = refl
  walk_done (s ∷ t ∷ l) = walk_done (t ∷ l)

  pub trim_walked : (k : ℕ) (l : List ℕ) → trim may k l ≡ trim_walk may k l
  unfolding trim trim_walk keep_if but_last
  trim_walked zero l = sym (walk_done l)
  trim_walked (suc k) [] = refl
  trim_walked (suc k) (s ∷ []) = refl
  trim_walked (suc k) (s ∷ t ∷ l) =
      cases (either (may s))
      (λ y. rw (y, lt-ltb 0 (suc k) (omega arith)) (ap {B = List ℕ} (λ m. s ∷ m) (trim_walked k (t ∷ l))))
      (λ n. rw (n, lt-ltb 0 (suc k) (omega arith)) (trim_walked (suc k) (t ∷ l)))

-- ── all but the last ──

pub but_last_snoc : (l : List ℕ) (r : ℕ) → but_last (l ++ (r ∷ [])) ≡ l
unfolding but_last
but_last_snoc [] r = refl
but_last_snoc (s ∷ []) r = refl
but_last_snoc (s ∷ t ∷ l) r = ap {B = List ℕ} (λ m. s ∷ m) (but_last_snoc (t ∷ l) r)
