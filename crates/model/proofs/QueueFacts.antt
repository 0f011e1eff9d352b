-- The queue: first in, first out, how many turns empty it, and what its lists and births are.
use mathlib.Core.Path.{◌≡◌, refl, sym, ap, ap₂, ◌∙◌, subst, fun_ext}
use mathlib.Core.Logic.{◌⊎◌, inl, inr}
use mathlib.Core.Bool.{Bool, cond, ◌||◌}
use mathlib.Core.List.{List, [], ◌∷◌, ◌++◌, append_assoc, append-nil}
use Prim.Native.Nat.{ℕ, ◌+◌, ◌-◌, ◌*◌, ◌/◌, ◌≤◌, ◌<◌, min}
use native.Mathlib.Omega.{arith}
use lib.ListN.{length, take, drop, length-append, length-take, length-drop, take-append-drop}
use borrow.Author.Tests.{eq-eqb, ne_eqb}
use Rattle.answer.proofs.Cases.{cases, same?, lt?}
use Rattle.model.specs.Table.{put}
use Rattle.model.specs.Lists.{In, Once, elem, cleared}
use Rattle.model.specs.Queue.{Queue, overlaid, Move, joining, turning, resting, moved, moved_from, turn_frees, turns_free, joined_by, turn_count}
use Rattle.model.specs.Queue.{QueueFlow, TurnsFreeAll, rounded_up}
use Rattle.model.proofs.TabFacts.{put_at, put_other}
use Rattle.model.proofs.ListFacts.{in_left, in_right, of_append, in?, pw_left, pw_right, pw_across}

-- ── the flow ──

pub queue_flow : (Q : Queue) (l : List Move) → QueueFlow Q l
unfolding moved turn_frees
queue_flow Q [] = sym (append-nil Q.list)
queue_flow Q (joining f m ∷ l) = queue_flow (moved Q (joining f m)) l ∙ append_assoc Q.list m (joined_by l)
queue_flow Q (turning k ∷ l) =
    append_assoc (take k Q.list) (turns_free (moved Q (turning k)) l) (moved_from (moved Q (turning k)) l).list ∙
    ap (λ (m : List ℕ). take k Q.list ++ m) (queue_flow (moved Q (turning k)) l) ∙
    sym (append_assoc (take k Q.list) (drop k Q.list) (joined_by l)) ∙
    ap (λ (m : List ℕ). m ++ joined_by l) (take-append-drop k Q.list)
queue_flow Q (resting ∷ l) = queue_flow Q l

-- ── how many turns ──

-- the turns free so many as are queued, or at least k each
enough : (Q : Queue) (k : ℕ) (l : List Move) → (length Q.list ≤ length (turns_free Q l)) ⊎ (k * turn_count k l ≤ length (turns_free Q l))
unfolding moved turn_frees turn_count
enough Q k [] = inr (omega (arith, native.Mathlib.Nat.mul-zero k))
enough Q k (joining f m ∷ l) =
    cases (enough (moved Q (joining f m)) k l)
    (λ h. inl (omega (arith, h, length-append Q.list m)))
    (λ h. inr h)
enough Q k (turning j ∷ l) =
    let rest = turns_free (moved Q (turning j)) l in
    let split = ap length (take-append-drop j Q.list) in
    let parts = length-append (take j Q.list) (drop j Q.list) in
    let sum = length-append (take j Q.list) rest in
    cases (enough (moved Q (turning j)) k l)
    (λ h. inl (omega (arith, h, split, parts, sum)))
    (λ h. cases (same? j k)
    (λ e. rw (eq-eqb j k e) (cases (lt? (length Q.list) j)
    (λ w. inl (omega (arith, h, split, parts, sum, length-drop j Q.list)))
    (λ w. inr (omega (arith, h, e, split, parts, sum, length-drop j Q.list, native.Mathlib.Nat.mul-suc k (turn_count k l))))))
    (λ e. rw (ne_eqb j k e) (inr (omega (arith, h, sum)))))
enough Q k (resting ∷ l) = enough Q k l

-- rounded up
rounded_enough : (q k m : ℕ) → 0 < k → rounded_up q k ≤ m → q ≤ k * m
unfolding rounded_up
rounded_enough q k m h e =
    let d = (q + k - 1) / k in
    let a : q + k - 1 < k * (d + 1) = native.Mathlib.Nat.lt-mul-div-succ (q + k - 1) h in
    let b : k * d ≤ k * m = native.Mathlib.Nat.mul-le-mul_left k e in
    omega (arith, a, b, native.Mathlib.Nat.mul-add k d 1)

-- a list that is no longer, and agrees from the start, is a beginning
beginning : (l m x y : List ℕ) → l ++ x ≡ m ++ y → length m ≤ length l → (rest : List ℕ) × (l ≡ m ++ rest)
beginning l [] x y e h = (l, refl)
beginning [] (c ∷ m) x y e h = absurd (let z : ⊥ = omega arith in z)
beginning (b ∷ l) (c ∷ m) x y e h =
    let d : b ≡ c = cc in
    let t : l ++ x ≡ m ++ y = cc in
    let (rest, f) = beginning l m x y t (omega arith) in
    (rest, ap₂ {C = List ℕ} (λ u v. u ∷ v) d f)

pub turns_free_all : (Q : Queue) (k : ℕ) (l : List Move) → 0 < k → rounded_up (length Q.list) k ≤ turn_count k l → TurnsFreeAll Q l
turns_free_all Q k l h e =
    let q = rounded_enough (length Q.list) k (turn_count k l) h e in
    beginning (turns_free Q l) Q.list (moved_from Q l).list (joined_by l) (queue_flow Q l)
    (cases (enough Q k l) (λ w. w) (λ w. omega (arith, w, q)))

-- each of them is freed
pub turns_free_lem : (Q : Queue) (k : ℕ) (l : List Move) → 0 < k → rounded_up (length Q.list) k ≤ turn_count k l →
    (b : ℕ) → In b Q.list → In b (turns_free Q l)
turns_free_lem Q k l h e b i = let (rest, f) = turns_free_all Q k l h e in subst (In b) (sym f) (in_left b Q.list rest i)

-- ── the first k of a list, and the rest ──

module _ (k : ℕ) (l : List ℕ) where
  pub in_first : (b : ℕ) → In b (take k l) → In b l
  in_first b i = subst (In b) (take-append-drop k l) (in_left b (take k l) (drop k l) i)

  pub in_later : (b : ℕ) → In b (drop k l) → In b l
  in_later b i = subst (In b) (take-append-drop k l) (in_right b (take k l) (drop k l) i)

  pub in_part : (b : ℕ) → In b l → In b (take k l) ⊎ In b (drop k l)
  in_part b i = of_append b (take k l) (drop k l) (subst (In b) (sym (take-append-drop k l)) i)

  parts_once : Once l → Once (take k l ++ drop k l)
  parts_once o = subst Once (sym (take-append-drop k l)) o

  pub first_once : Once l → Once (take k l)
  first_once o = pw_left (λ b c. b ≡ c → ⊥) (take k l) (drop k l) (parts_once o)

  pub later_once : Once l → Once (drop k l)
  later_once o = pw_right (λ b c. b ≡ c → ⊥) (take k l) (drop k l) (parts_once o)

  pub not_both : Once l → (b : ℕ) → In b (take k l) → In b (drop k l) → ⊥
  not_both o b i j = pw_across (λ b c. b ≡ c → ⊥) (take k l) (drop k l) (parts_once o) b b i j refl

  -- how many
  pub first_length : length (take k l) ≡ min k (length l)
  first_length = length-take k l

  pub parts_length : length (take k l) + length (drop k l) ≡ length l
  parts_length = sym (length-append (take k l) (drop k l)) ∙ ap length (take-append-drop k l)

-- ── births laid over others ──

module _ (g f : ℕ → ℕ) where
  pub overlaid_none : (b : ℕ) → overlaid g f [] b ≡ g b
  unfolding overlaid elem
  overlaid_none b = refl

  pub overlaid_next : (c : ℕ) (l : List ℕ) (b : ℕ) → overlaid g f (c ∷ l) b ≡ put (overlaid g f l) c (f c) b
  unfolding overlaid elem
  overlaid_next c l b =
      cases (same? b c)
      (λ e. ap (λ (t : Bool). cond (t || elem b l) (f b) (g b)) (eq-eqb b c e) ∙ ap f e ∙ sym (put_at (overlaid g f l) c (f c) b e))
      (λ n. ap (λ (t : Bool). cond (t || elem b l) (f b) (g b)) (ne_eqb b c n) ∙ sym (put_other (overlaid g f l) c (f c) b n))

  pub overlaid_in : (l : List ℕ) (b : ℕ) → In b l → overlaid g f l b ≡ f b
  overlaid_in [] b i = absurd i
  overlaid_in (c ∷ l) b i =
      overlaid_next c l b ∙
      cases (same? b c)
      (λ e. put_at (overlaid g f l) c (f c) b e ∙ ap f (sym e))
      (λ n. put_other (overlaid g f l) c (f c) b n ∙ overlaid_in l b (cases i (λ e. absurd (n e)) (λ j. j)))

  pub overlaid_out : (l : List ℕ) (b : ℕ) → (In b l → ⊥) → overlaid g f l b ≡ g b
  overlaid_out [] b n = overlaid_none b
  overlaid_out (c ∷ l) b n =
      overlaid_next c l b ∙ put_other (overlaid g f l) c (f c) b (λ e. n (inl e)) ∙ overlaid_out l b (λ i. n (inr i))

  -- as tables
  pub overlaid_nil : overlaid g f [] ≡ g
  overlaid_nil = fun_ext overlaid_none

  pub overlaid_cons : (c : ℕ) (l : List ℕ) → overlaid g f (c ∷ l) ≡ put (overlaid g f l) c (f c)
  overlaid_cons c l = fun_ext (overlaid_next c l)

-- some, then others, whose births h may be told by another table
pub overlaid_append : (g f h : ℕ → ℕ) (l m : List ℕ) → ((b : ℕ) → In b m → h b ≡ f b) → overlaid g f (l ++ m) ≡ overlaid (overlaid g f l) h m
overlaid_append g f h l m e = fun_ext (λ b. cases (in? b m)
    (λ i. overlaid_in g f (l ++ m) b (in_right b l m i) ∙ sym (e b i) ∙ sym (overlaid_in (overlaid g f l) h m b i))
    (λ n. cases (in? b l)
    (λ i. overlaid_in g f (l ++ m) b (in_left b l m i) ∙ sym (overlaid_in g f l b i) ∙ sym (overlaid_out (overlaid g f l) h m b n))
    (λ o. overlaid_out g f (l ++ m) b (λ i. cases (of_append b l m i) o n) ∙ sym (overlaid_out g f l b o) ∙ sym (overlaid_out (overlaid g f l) h m b n))))

-- ── births that become 0 ──

pub cleared_append : (f : ℕ → ℕ) (l m : List ℕ) → cleared f (l ++ m) ≡ cleared (cleared f l) m
unfolding cleared
cleared_append f [] m = refl
cleared_append f (b ∷ l) m = cleared_append (put f b 0) l m
