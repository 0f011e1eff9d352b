-- The events of what a call does to a state: no block is freed that is not held, and the held blocks afterwards are what the events leave. Held are the blocks
-- on pages and those in the queue; a W or E frees no queued block, D and S free none, and T frees queued blocks only.
use mathlib.Core.Path.{◌≡◌, refl, sym, ap, ap₂, ◌∙◌, subst, fun_ext}
use mathlib.Core.Logic.{inl, inr}
use mathlib.Core.Bool.{Bool, true, false, not, ◌&&◌, ◌||◌}
use mathlib.Core.List.{List, [], ◌∷◌, ◌++◌, map}
use Prim.Native.Nat.{ℕ}
use native.Mathlib.Omega.{arith}
use lib.Dec.{ltb}
use borrow.Author.Tests.{lt-ltb, le-ltb}
use Rattle.answer.proofs.Cases.{cases, same?, lt?}
use Rattle.model.specs.View.{View}
use Rattle.model.specs.Lists.{In}
use Rattle.model.specs.Sound.{Sound}
use Rattle.model.specs.Actions.{Action, do_b, do_w, do_e, do_s, do_f, do_d, Asks, done}
use Rattle.model.specs.Held.{on_pages, queued, held, frees}
use Rattle.model.specs.State.{State, QueueFits}
use Rattle.model.specs.Calls.{acted, first_queued, reclaimed}
use Rattle.model.specs.Window.{AsksAlong, queueing}
use Rattle.model.specs.History.{Event, give, free}
use Rattle.model.proofs.ListFacts.{in?}
use Rattle.model.proofs.HeldFacts.{frees_is}
use Rattle.model.proofs.EventFacts.{set_to, set_at, set_off, Fair, held_by, frees_fair, freed_off, freed_on}
use Rattle.model.proofs.Moves.{gifts, moved}
use Rattle.model.proofs.Waiting.{born_unqueued, in_elem, not_in_elem}
use Rattle.model.proofs.WindowMoves.{Giveless}
use Rattle.model.proofs.QueueFacts.{in_first, first_once}
use Rattle.model.proofs.Queueing.{on_pages_lem, off_pages, not_in_queue, held_queued, held_queueing, held_reclaimed}

-- h says which blocks are held in T
abbrev pub TellsHeld : (ℕ → Bool) → State → Type 0
TellsHeld h T = (c : ℕ) → h c ≡ held T c

-- the events l lead from the held blocks h to those of U
pub record MovedTo (U : State) (h : ℕ → Bool) (l : List Event) : Type 0 where
  pub fair : Fair h l
  pub tells : TellsHeld (held_by h l) U

-- ── blocks that the events do not free stay held beside them ──

abbrev Apart : (ℕ → Bool) → List Event → Type 0
Apart q [] = Unit {0}
Apart q (give b ∷ l) = Apart q l
Apart q (free b ∷ l) = (q b ≡ false) × Apart q l

abbrev both : (ℕ → Bool) → (ℕ → Bool) → ℕ → Bool
both k q c = k c || q c

give_both : (k q : ℕ → Bool) (b : ℕ) → both (set_to k b true) q ≡ set_to (both k q) b true
give_both k q b = fun_ext (λ c.
    cases (same? c b)
    (λ e. ap (λ t. t || q c) (set_at k b c true e) ∙ sym (set_at (both k q) b c true e))
    (λ n. ap (λ t. t || q c) (set_off k b c true n) ∙ sym (set_off (both k q) b c true n)))

free_both : (k q : ℕ → Bool) (b : ℕ) → q b ≡ false → both (set_to k b false) q ≡ set_to (both k q) b false
free_both k q b z = fun_ext (λ c.
    cases (same? c b)
    (λ e. ap₂ (λ s t. s || t) (set_at k b c false e) (ap q e ∙ z) ∙ sym (set_at (both k q) b c false e))
    (λ n. ap (λ t. t || q c) (set_off k b c false n) ∙ sym (set_off (both k q) b c false n)))

or_first : (p q : Bool) → p ≡ true → (p || q) ≡ true
or_first p q e = rw e

fair_both : (k q : ℕ → Bool) (l : List Event) → Apart q l → Fair k l → Fair (both k q) l
fair_both k q [] a f = tt
fair_both k q (give b ∷ l) a f = subst (λ h. Fair h l) (give_both k q b) (fair_both (set_to k b true) q l a f)
fair_both k q (free b ∷ l) a f =
    (or_first (k b) (q b) f.0, subst (λ h. Fair h l) (free_both k q b a.0) (fair_both (set_to k b false) q l a.1 f.1))

held_both : (k q : ℕ → Bool) (l : List Event) → Apart q l → (c : ℕ) → held_by (both k q) l c ≡ (held_by k l c || q c)
held_both k q [] a c = refl
held_both k q (give b ∷ l) a c = ap (λ h. held_by h l c) (sym (give_both k q b)) ∙ held_both (set_to k b true) q l a c
held_both k q (free b ∷ l) a c = ap (λ h. held_by h l c) (sym (free_both k q b a.0)) ∙ held_both (set_to k b false) q l a.1 c

frees_apart : (q : ℕ → Bool) (l : List ℕ) → ((b : ℕ) → In b l → q b ≡ false) → Apart q (map free l)
frees_apart q [] h = tt
frees_apart q (b ∷ l) h = (h b (inl refl), frees_apart q l (λ c i. h c (inr i)))

gifts_apart : (q : ℕ → Bool) (a : Action) (l : List Event) → Apart q l → Apart q (gifts a ++ l)
gifts_apart q do_b l p = p
gifts_apart q (do_w s x b) l p = p
gifts_apart q (do_e s x) l p = p
gifts_apart q (do_s s) l p = p
gifts_apart q (do_f s) l p = p
gifts_apart q (do_d s) l p = p

-- ── W, E, B and F ──

born : (K : View) (c : ℕ) → ltb 0 (K.birth c) ≡ on_pages K c
born K c =
    cases (lt? 0 (K.birth c))
    (λ h. lt-ltb 0 (K.birth c) h ∙ sym (on_pages_lem K c h))
    (λ h. le-ltb 0 (K.birth c) h ∙ sym (off_pages K c (omega arith)))

pub acted_moves : (T : State) (a : Action) (n : ℕ) (h : ℕ → Bool) → Sound T.view → Asks T.view a → QueueFits T → TellsHeld h T →
    MovedTo (acted T a n) h (gifts a ++ map free (frees T.view a))
unfolding acted held queued
acted_moves T a n h S q Q t =
    let K = T.view in
    let k : ℕ → Bool = λ c. ltb 0 (K.birth c) in
    let l : List Event = gifts a ++ map free (frees K a) in
    let m = moved K a k S q (λ c. refl) in
    let p : Apart (queued T) l = gifts_apart (queued T) a (map free (frees K a))
    (frees_apart (queued T) (frees K a) (λ b i. not_in_queue T b (born_unqueued T Q b ((frees_is K a S q b).0 i).0))) in
    let e : both k (queued T) ≡ h = fun_ext (λ c. ap (λ u. u || queued T c) (born K c) ∙ sym (t c)) in
    record {
      fair = subst (λ f. Fair f l) e (fair_both k (queued T) l p m.fair);
      tells = λ c. ap (λ f. held_by f l c) (sym e) ∙ held_both k (queued T) l p c ∙ ap (λ u. u || queued T c) (m.tells c ∙ born (done K a) c);
    }

-- ── D and S: the held blocks stay, and there is no event ──

pub queueing_moves : (T : State) (l : List Action) (h : ℕ → Bool) → Sound T.view → AsksAlong T.view l → Giveless l → QueueFits T → TellsHeld h T →
    MovedTo (queueing T l) h []
queueing_moves T l h S q g Q t = record { fair = tt; tells = λ c. t c ∙ sym (held_queueing T l S q g c) }

-- ── T ──

and_no : (p : Bool) → (p && true) ≡ p
and_no true = refl
and_no false = refl

and_off : (p : Bool) → (p && false) ≡ false
and_off true = refl
and_off false = refl

pub reclaimed_moves : (T : State) (k n : ℕ) (h : ℕ → Bool) → QueueFits T → TellsHeld h T → MovedTo (reclaimed T k n) h (map free (first_queued T k))
reclaimed_moves T k n h Q t =
    let l = first_queued T k in
    record {
      fair = frees_fair h l (first_once k T.queue.list Q.once)
          (λ b i. t b ∙ held_queued T b ((Q.births b).0 (in_first k T.queue.list b i)));
      tells = λ c. cases (in? c l)
          (λ i. freed_on h l c i ∙ sym (held_reclaimed T k n Q c ∙ ap (λ u. held T c && not u) (in_elem c l i) ∙ and_off (held T c)))
          (λ i. freed_off h l c i ∙ t c ∙ sym (held_reclaimed T k n Q c ∙ ap (λ u. held T c && not u) (not_in_elem c l i) ∙ and_no (held T c)));
    }
