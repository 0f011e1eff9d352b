-- The kinds of calls: what is true of an action that begins a record, and of one that may free blocks; lists of conditions.
use mathlib.Core.Path.{◌≡◌, refl, sym, ap, subst}
use mathlib.Core.Logic.{inl, inr}
use mathlib.Core.List.{List, [], ◌∷◌, ◌++◌, map}
use Prim.Native.Nat.{ℕ, suc, pred, ◌+◌, ◌<◌, ◌≤◌}
use native.Mathlib.Omega.{arith}
use Rattle.answer.specs.Refusal.{Condition, decide, place, Holds, NoneBefore, Ordered, NoneHolds}
use Rattle.answer.proofs.Cases.{cases, same?}
use Rattle.geometry.specs.declared.Geometry.{Geometry}
use Rattle.model.specs.View.{View}
use Rattle.model.specs.Sound.{Sound}
use Rattle.model.specs.Effects.{grow, close, erase, begin, seal, fork}
use Rattle.model.specs.Actions.{Action, do_b, do_w, do_e, do_s, do_f, do_d, done, follower, vacant, delete}
use Rattle.model.specs.Held.{frees, gives}
use Rattle.model.specs.State.{State, Notes, bare_notes}
use Rattle.model.specs.Calls.{Account, looking, opening, freeing, closing, removing, reclaiming, placing, marking, renewing, refusals_by}
use Rattle.model.specs.History.{free}
use Rattle.model.proofs.BookFacts.{erase_paged, delete_gone}
use Rattle.model.proofs.BirthStays.{Gives}
use Rattle.model.proofs.Moves.{gifts}
use Rattle.model.proofs.Windows.{noted}

-- ── conditions, one list after another ──

-- the refusals that an account names itself; its kind may add some after them
abbrev pub own_refusals : Geometry → State → Account → List Condition
own_refusals g T (looking s cs res note) = cs g T
own_refusals g T (opening cs a) = cs T
own_refusals g T (freeing cs a) = cs g T
own_refusals g T (closing r) = refusals_by g T (closing r)
own_refusals g T (removing r) = refusals_by g T (removing r)
own_refusals g T (reclaiming k) = refusals_by g T (reclaiming k)
own_refusals g T (placing r x k) = refusals_by g T (placing r x k)
own_refusals g T marking = refusals_by g T marking
own_refusals g T renewing = refusals_by g T renewing

pub none_left : (l m : List Condition) → NoneHolds (l ++ m) → NoneHolds l
none_left [] m n = tt
none_left (c ∷ l) m n = (n.0, none_left l m n.1)

pub none_right : (l m : List Condition) → NoneHolds (l ++ m) → NoneHolds m
none_right [] m n = n
none_right (c ∷ l) m n = none_right l m n.1

-- where none of the first list is true, the second decides
pub decide_right : (l m : List Condition) (given : List ℕ) → NoneHolds l → decide (l ++ m) given ≡ decide m given
decide_right [] m given n = refl
decide_right (c ∷ l) m given n = rw n.0 (decide_right l m given n.1)

-- the conditions stand in the order of the refusals, each after the place m and before the place t
abbrev pub Between : ℕ → ℕ → List Condition → Type 0
Between m t [] = m < t
Between m t (c ∷ cs) = (m < place c.0) × Between (place c.0) t cs

pub between_less : (t m : ℕ) (l : List Condition) → Between m t l → m < t
between_less t m [] b = b
between_less t m (c ∷ l) b = omega (arith, b.0, between_less t (place c.0) l b.1)

pub between_ordered : (t m : ℕ) (l : List Condition) → Between m t l → Ordered m l
between_ordered t m [] b = tt
between_ordered t m (c ∷ l) b = (b.0, between_ordered t (place c.0) l b.1)

lower : (m k : ℕ) (l : List Condition) → k < m → Ordered m l → Ordered k l
lower m k [] h o = tt
lower m k (c ∷ l) h o = (omega (arith, o.0, h), o.1)

-- some after them, whose places are from the place t on
pub between_append : (t s m : ℕ) (l n : List Condition) → t ≡ suc s → Between m t l → Ordered s n → Ordered m (l ++ n)
between_append t s m [] n e b o =
    cases (same? m s) (λ d. subst (λ k. Ordered k n) (sym d) o) (λ d. lower s m n (omega (arith, d)) o)
between_append t s m (c ∷ l) n e b o = (b.0, between_append t s (place c.0) l n e b.1 o)

-- none of them is a refusal from the place t on
pub between_not : (t m n : ℕ) (l : List Condition) → t ≤ place n → Between m t l → Holds n l → ⊥
between_not t m n [] e b h = h
between_not t m n (c ∷ l) e b h =
    cases h (λ w. omega (arith, between_less t (place c.0) l b.1, ap place w.0)) (between_not t (place c.0) n l e b.1)

-- a condition of number n that holds in one list after another, where none of the first is of that number
pub holds_right : (n : ℕ) (l m : List Condition) → (Holds n l → ⊥) → Holds n (l ++ m) → Holds n m
holds_right n [] m k h = h
holds_right n (c ∷ l) m k h = cases h (λ w. absurd (k (inl w))) (holds_right n l m (λ i. k (inr i)))

-- where none that comes earlier than n holds, and all of a list come earlier, none of that list holds
pub before_none : (t m n : ℕ) (l r : List Condition) → t ≡ place n → Between m t l → NoneBefore n (l ++ r) → NoneHolds l
before_none t m n [] r e b h = tt
before_none t m n (c ∷ l) r e b h = (h.0 (omega (arith, between_less t (place c.0) l b.1)), before_none t (place c.0) n l r e b.1 h.1)

-- ── an action that begins a line ──

abbrev pub Opens : Action → Type 0
Opens do_b = Unit {0}
Opens (do_w s x b) = ⊥
Opens (do_e s x) = ⊥
Opens (do_s s) = ⊥
Opens (do_f s) = Unit {0}
Opens (do_d s) = ⊥

pub record Opening (K : View) (a : Action) : Type 0 where
  pub none : (b : ℕ) → Gives a b → ⊥
  pub empty : frees K a ≡ []
  pub events : gifts a ++ map free (frees K a) ≡ []
  pub notes : (N : Notes) → noted K N a ≡ bare_notes N (pred (vacant K))
  pub last : (done K a).last ≤ K.last + 1
  pub birth : (b : ℕ) → (done K a).birth b ≡ K.birth b

pub opens : (K : View) (a : Action) → Opens a → Opening K a
unfolding begin seal fork grow close
opens K do_b o = record { none = λ b i. i; empty = refl; events = refl; notes = λ N. refl; last = omega arith; birth = λ b. refl }
opens K (do_w s x b) o = absurd o
opens K (do_e s x) o = absurd o
opens K (do_s s) o = absurd o
opens K (do_f s) o = record { none = λ b i. i; empty = refl; events = refl; notes = λ N. refl; last = omega arith; birth = λ b. refl }
opens K (do_d s) o = absurd o

-- ── an action that may take blocks off their last page, and gives none ──

abbrev pub Frees : Action → Type 0
Frees do_b = ⊥
Frees (do_w s x b) = ⊥
Frees (do_e s x) = Unit {0}
Frees (do_s s) = ⊥
Frees (do_f s) = ⊥
Frees (do_d s) = Unit {0}

pub record Freeing (K : View) (a : Action) : Type 0 where
  pub none : (b : ℕ) → Gives a b → ⊥
  pub events : gifts a ++ map free (frees K a) ≡ map free (frees K a)
  pub notes : (N : Notes) → noted K N a ≡ N
  pub no_gift : gives a ≡ 0
  pub last : (done K a).last ≡ K.last

pub frees_only : (K : View) (a : Action) → Sound K → Frees a → Freeing K a
unfolding erase delete
frees_only K do_b S o = absurd o
frees_only K (do_w s x b) S o = absurd o
frees_only K (do_e s x) S o = record { none = λ b i. i; events = refl; notes = λ N. refl; no_gift = refl; last = (erase_paged K s x (K.page s x) refl).last }
frees_only K (do_s s) S o = absurd o
frees_only K (do_f s) S o = absurd o
frees_only K (do_d s) S o = record { none = λ b i. i; events = refl; notes = λ N. refl; no_gift = refl; last = (delete_gone K s (follower K s) S refl).last }
