-- The blocks that wait: what the calls do to them keeps them blocks of the store, none twice, none with a birth and none in the queue.
use mathlib.Core.Path.{◌≡◌, refl, sym, ap, ◌∙◌}
use mathlib.Core.Logic.{inl, inr}
use mathlib.Core.Bool.{true, false, not, ◌||◌, or_assoc, false≢true}
use mathlib.Core.List.{List, [], ◌∷◌, ◌++◌}
use Prim.Native.Nat.{ℕ, zero, suc, ◌≤◌, ◌<◌}
use native.Mathlib.Omega.{arith}
use lib.Dec.{eqb, ltb}
use lib.ListN.{length}
use borrow.Author.Tests.{eq-eqb, ne_eqb, eqb-true, lt-ltb, ltb-true}
use Rattle.answer.proofs.Cases.{cases, either, same?, lt?}
use Rattle.model.specs.View.{View, pred_num, base_num}
use Rattle.model.specs.Lists.{In, Once, elem, below?}
use Rattle.model.specs.Sound.{Sound}
use Rattle.model.specs.Actions.{Action, do_b, do_w, do_e, do_s, do_f, do_d, Asks, done, follower}
use Rattle.model.specs.Effects.{Fate, freed, marked, kept, fate}
use Rattle.model.specs.Held.{waits, available, frees, freed_one, erased}
use Rattle.model.specs.State.{State, QueueFits, WaitingFits}
use Rattle.model.specs.Calls.{acted}
use Rattle.model.proofs.ListFacts.{of_append, pw_append}
use Rattle.model.proofs.Tally.{length_is, tally_le}
use Rattle.model.proofs.Sizes.{done_sized}
use Rattle.model.proofs.Facts.{held_inside}
use Rattle.model.proofs.HeldFacts.{deleted_once, frees_is}
use Rattle.model.proofs.BirthStays.{Gives, done_birth}

-- ── in a list, as a test ──

pub in_elem : (b : ℕ) (l : List ℕ) → In b l → elem b l ≡ true
unfolding elem
in_elem b [] i = absurd i
in_elem b (c ∷ l) i =
    cases (same? b c)
    (λ e. rw (eq-eqb b c e))
    (λ n. rw (ne_eqb b c n) (in_elem b l (cases i (λ e. absurd (n e)) (λ j. j))))

pub elem_in : (b : ℕ) (l : List ℕ) → elem b l ≡ true → In b l
unfolding elem
elem_in b [] e = absurd (false≢true e)
elem_in b (c ∷ l) e =
    cases (same? b c)
    (λ d. inl d)
    (λ n. inr (elem_in b l (let k : elem b l ≡ true = rw (ne_eqb b c n) at e in k)))

pub not_in_elem : (b : ℕ) (l : List ℕ) → (In b l → ⊥) → elem b l ≡ false
not_in_elem b l n = cases (either (elem b l)) (λ e. absurd (n (elem_in b l e))) (λ e. e)

pub elem_not_in : (b : ℕ) (l : List ℕ) → elem b l ≡ false → In b l → ⊥
elem_not_in b l e i = false≢true (sym e ∙ in_elem b l i)

pub elem_append : (b : ℕ) (l m : List ℕ) → elem b (l ++ m) ≡ (elem b l || elem b m)
unfolding elem
elem_append b [] m = refl
elem_append b (c ∷ l) m = ap (λ t. eqb b c || t) (elem_append b l m) ∙ sym (or_assoc (eqb b c) (elem b l) (elem b m))

-- each below n, as a test
pub below_in : (n : ℕ) (l : List ℕ) → below? n l ≡ true → (b : ℕ) → In b l → b < n
unfolding below?
below_in n [] e b i = absurd i
below_in n (c ∷ l) e b i =
    cases (either (ltb c n))
    (λ y. cases i (λ d. omega (arith, ltb-true c n y)) (below_in n l (let k : below? n l ≡ true = rw y at e in k) b))
    (λ y. absurd (false≢true (rw y at e)))

pub in_below : (n : ℕ) (l : List ℕ) → ((b : ℕ) → In b l → b < n) → below? n l ≡ true
unfolding below?
in_below n [] h = refl
in_below n (c ∷ l) h = rw (lt-ltb c n (h c (inl refl))) (in_below n l (λ b i. h b (inr i)))

-- a list with none twice of numbers below n has at most n
pub once_short : (l : List ℕ) (n : ℕ) → Once l → ((b : ℕ) → In b l → b < n) → length l ≤ n
once_short l n p h =
    omega (arith, length_is l (λ b. elem b l) n p (λ b i. (h b i, in_elem b l i)) (λ b k e. elem_in b l e), tally_le (λ b. elem b l) n)

-- ── a block that waits ──

pub in_waits : (T : State) (b : ℕ) → In b T.waiting → waits T b ≡ true
unfolding waits
in_waits T b i = in_elem b T.waiting i

pub waits_in : (T : State) (b : ℕ) → waits T b ≡ true → In b T.waiting
unfolding waits
waits_in T b e = elem_in b T.waiting e

pub not_waits : (T : State) (b : ℕ) → (In b T.waiting → ⊥) → waits T b ≡ false
unfolding waits
not_waits T b n = not_in_elem b T.waiting n

-- ── a block that may be given ──

pub available_is : (T : State) (b : ℕ) → available T b ≡ true → (T.view.birth b ≡ 0) × (In b T.waiting → ⊥) × (T.queue.birth b ≡ 0)
unfolding available waits
available_is T b e =
    cases (either (eqb (T.view.birth b) 0))
    (λ y. cases (either (eqb (T.queue.birth b) 0))
    (λ z.
    let k : not (elem b T.waiting) ≡ true = rw (y, z) at e in (
      eqb-true (T.view.birth b) 0 y,
      λ i. false≢true (let w : false ≡ true = rw (in_elem b T.waiting i) at k in w),
      eqb-true (T.queue.birth b) 0 z,
    ))
    (λ z. absurd (false≢true (rw (y, z) at e))))
    (λ y. absurd (false≢true (rw y at e)))

pub is_available : (T : State) (b : ℕ) → T.view.birth b ≡ 0 → T.queue.birth b ≡ 0 → (In b T.waiting → ⊥) → available T b ≡ true
unfolding available waits
is_available T b e q n = rw (eq-eqb (T.view.birth b) 0 e, eq-eqb (T.queue.birth b) 0 q, not_in_elem b T.waiting n)

pub held_unavailable : (T : State) (b : ℕ) → 0 < T.view.birth b → available T b ≡ false
unfolding available
held_unavailable T b h = rw (ne_eqb (T.view.birth b) 0 (λ e. omega arith))

pub waits_unavailable : (T : State) (b : ℕ) → In b T.waiting → available T b ≡ false
unfolding available waits
waits_unavailable T b i = cases (either (available T b)) (λ e. absurd ((available_is T b e).1 i)) (λ e. e)

-- ── a queued block ──

pub queued_unavailable : (T : State) (b : ℕ) → 0 < T.queue.birth b → available T b ≡ false
queued_unavailable T b h =
    cases (either (available T b)) (λ e. absurd (let z : ⊥ = omega (arith, (available_is T b e).2) in z)) (λ e. e)

-- a block that is on a page is not queued
pub born_unqueued : (T : State) → QueueFits T → (b : ℕ) → 0 < T.view.birth b → T.queue.birth b ≡ 0
born_unqueued T Q b h =
    cases (lt? 0 (T.queue.birth b)) (λ k. absurd (let z : ⊥ = omega (arith, Q.unborn b ((Q.births b).1 k)) in z)) (λ k. omega arith)

-- and one that has no birth in the queue is not in it
pub unqueued_out : (T : State) → QueueFits T → (b : ℕ) → T.queue.birth b ≡ 0 → In b T.queue.list → ⊥
unqueued_out T Q b e i = let z : ⊥ = omega (arith, (Q.births b).0 i) in z

-- ── what an action frees ──

one_once : (b : ℕ) (f : Fate) → Once (freed_one b f)
unfolding freed_one
one_once b freed = (λ c i. absurd i, tt)
one_once b marked = tt
one_once b kept = tt

erased_once : (K : View) (r l : ℕ) → Once (erased K r l)
unfolding erased
erased_once K r zero = tt
erased_once K r (suc b) = one_once b (fate (K.birth b) (pred_num K r) (base_num K r))

pub frees_once : (K : View) (a : Action) → Sound K → Asks K a → Once (frees K a)
frees_once K do_b S q = tt
frees_once K (do_w s x b) S q = erased_once K s (K.page s x)
frees_once K (do_e s x) S q = erased_once K s (K.page s x)
frees_once K (do_s s) S q = tt
frees_once K (do_f s) S q = tt
frees_once K (do_d s) S q = deleted_once K s (follower K s) S q.0

-- ── an action keeps them so: what it gives did not wait ──

module _ (T : State) (a : Action) (S : Sound T.view) (q : Asks T.view a) (Q : QueueFits T) (w : WaitingFits T)
    (n : (c : ℕ) → Gives a c → In c T.waiting → ⊥) where
  still_unborn : (b : ℕ) → In b T.waiting → (done T.view a).birth b ≡ 0
  still_unborn b i =
      cases (same? ((done T.view a).birth b) 0)
      (λ e. e)
      (λ m. cases (done_birth T.view a b (omega arith))
      (λ y. absurd (n b y i))
      (λ e. e ∙ w.unborn b i))

  pub acted_waits : (k : ℕ) → WaitingFits (acted T a k)
  unfolding acted
  acted_waits k = record {
    below = λ b i. cases (of_append b T.waiting (frees T.view a) i)
        (λ j. omega (arith, w.below b j, (done_sized T.view a).blocks))
        (λ j. omega (arith, held_inside T.view S b ((frees_is T.view a S q b).0 j).0, (done_sized T.view a).blocks));
    unborn = λ b i. cases (of_append b T.waiting (frees T.view a) i) (still_unborn b) (λ j. ((frees_is T.view a S q b).0 j).1);
    unqueued = λ b i. cases (of_append b T.waiting (frees T.view a) i)
        (w.unqueued b)
        (λ j. born_unqueued T Q b ((frees_is T.view a S q b).0 j).0);
    once = pw_append (λ b c. b ≡ c → ⊥) T.waiting (frees T.view a) w.once (frees_once T.view a S q)
        (λ b c i j e. omega (arith, w.unborn b i, ((frees_is T.view a S q c).0 j).0, ap T.view.birth e));
  }
