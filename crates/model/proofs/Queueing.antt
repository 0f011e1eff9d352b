-- The queue of a state: what D and S put in it, what T takes out of it, that it fits, and which blocks are held.
use mathlib.Core.Path.{◌≡◌, refl, sym, ap, ap₂, ◌∙◌}
use mathlib.Core.Bool.{Bool, true, false, not, ◌&&◌, ◌||◌, or-true, and-true, and-false}
use mathlib.Core.List.{List, [], ◌∷◌, ◌++◌, append_assoc, append-nil}
use Prim.Native.Nat.{ℕ, ◌+◌, ◌≤◌, ◌<◌}
use native.Mathlib.Omega.{arith}
use lib.Dec.{ltb}
use lib.ListN.{length, drop, length-append}
use borrow.Author.Tests.{eq-eqb, ne_eqb, lt-ltb, le-ltb}
use Rattle.answer.proofs.Cases.{cases, lt?}
use Rattle.model.specs.View.{View}
use Rattle.model.specs.Lists.{In, elem, cleared}
use Rattle.model.specs.Sound.{Sound}
use Rattle.model.specs.Effects.{grow, close, place, erase, write, begin, seal, fork}
use Rattle.model.specs.Actions.{Action, do_b, do_w, do_e, do_s, do_f, do_d, Asks, done, follower, delete}
use Rattle.model.specs.Held.{bit, tally, on_pages, queued, held, held_count, frees, gives}
use Rattle.model.specs.Queue.{Queue, overlaid, enqueued}
use Rattle.model.specs.State.{State, with_view, with_queue, QueueFits, WaitingFits}
use Rattle.model.specs.Calls.{acted, first_queued, reclaimed}
use Rattle.model.specs.Window.{steps, frees_along, AsksAlong, queueing}
use Rattle.model.proofs.ListFacts.{of_append, in_left, in_right, in?, pw_append, cleared_out, cleared_zero, cleared_in}
use Rattle.model.proofs.QueueFacts.{in_first, in_later, in_part, first_once, later_once, not_both, parts_length}
use Rattle.model.proofs.QueueFacts.{overlaid_nil, overlaid_in, overlaid_out, overlaid_append}
use Rattle.model.proofs.Facts.{held_inside, born_le}
use Rattle.model.proofs.Sizes.{done_sized}
use Rattle.model.proofs.DoneSound.{done_sound}
use Rattle.model.proofs.Tally.{tally_add, length_is}
use Rattle.model.proofs.HeldFacts.{held_done}
use Rattle.model.proofs.BookFacts.{erase_paged, delete_gone}
use Rattle.model.proofs.BirthStays.{Gives, done_birth}
use Rattle.model.proofs.Waiting.{in_elem, elem_in, not_in_elem}
use Rattle.model.proofs.WindowMoves.{steps_sized, Giveless, steps_unborn, frees_along_is, frees_along_once}

-- ── the last number never falls ──

pub done_last : (K : View) (a : Action) → Sound K → K.last ≤ (done K a).last
unfolding begin seal fork grow close write erase place delete
done_last K do_b S = omega arith
done_last K (do_w s x b) S = omega (arith, (erase_paged K s x (K.page s x) refl).last)
done_last K (do_e s x) S = omega (arith, (erase_paged K s x (K.page s x) refl).last)
done_last K (do_s s) S = omega arith
done_last K (do_f s) S = omega arith
done_last K (do_d s) S = omega (arith, (delete_gone K s (follower K s) S refl).last)

pub steps_last : (K : View) (l : List Action) → Sound K → AsksAlong K l → K.last ≤ (steps K l).last
unfolding steps
steps_last K [] S q = omega arith
steps_last K (a ∷ l) S (q, qs) = omega (arith, done_last K a S, steps_last (done K a) l (done_sound K a S q) qs)

-- ── D and S: what the actions take off the pages joins the queue ──

module _ (T : State) (l : List Action) (S : Sound T.view) (q : AsksAlong T.view l) (g : Giveless l) where
  -- the queued blocks, and those that join
  joined_births : QueueFits T → (b : ℕ) → In b (T.queue.list ++ frees_along T.view l) →
      0 < overlaid T.queue.birth T.view.birth (frees_along T.view l) b
  joined_births F b i =
      let fs = frees_along T.view l in
      cases (in? b fs)
      (λ j. omega (arith, overlaid_in T.queue.birth T.view.birth fs b j, ((frees_along_is T.view l S q g b).0 j).0))
      (λ n. cases (of_append b T.queue.list fs i)
      (λ j. omega (arith, overlaid_out T.queue.birth T.view.birth fs b n, (F.births b).0 j))
      (λ j. absurd (n j)))

  births_joined : QueueFits T → (b : ℕ) → 0 < overlaid T.queue.birth T.view.birth (frees_along T.view l) b →
      In b (T.queue.list ++ frees_along T.view l)
  births_joined F b h =
      let fs = frees_along T.view l in
      cases (in? b fs)
      (λ j. in_right b T.queue.list fs j)
      (λ n. in_left b T.queue.list fs ((F.births b).1 (omega (arith, overlaid_out T.queue.birth T.view.birth fs b n))))

  joined_given : QueueFits T → (b : ℕ) → overlaid T.queue.birth T.view.birth (frees_along T.view l) b ≤ T.view.last
  joined_given F b =
      let fs = frees_along T.view l in
      cases (in? b fs)
      (λ j. omega (arith, overlaid_in T.queue.birth T.view.birth fs b j, born_le T.view S b))
      (λ n. omega (arith, overlaid_out T.queue.birth T.view.birth fs b n, F.given b))

  pub queueing_fits : QueueFits T → QueueFits (queueing T l)
  unfolding queueing
  queueing_fits F =
      let f = frees_along_is T.view l S q g in
      let fs = frees_along T.view l in
      let z = steps_sized T.view l in
      record {
        below = λ b i. cases (of_append b T.queue.list fs i)
            (λ j. omega (arith, F.below b j, z.blocks))
            (λ j. omega (arith, held_inside T.view S b ((f b).0 j).0, z.blocks));
        once = pw_append (λ b c. b ≡ c → ⊥) T.queue.list fs F.once (frees_along_once T.view l S q g)
            (λ b c i j e. let w : ⊥ = omega (arith, F.unborn b i, ((f c).0 j).0, ap T.view.birth e) in w);
        births = λ b. (joined_births F b, births_joined F b);
        given = λ b. omega (arith, joined_given F b, steps_last T.view l S q);
        unborn = λ b i. cases (of_append b T.queue.list fs i) (λ j. steps_unborn T.view l g b (F.unborn b j)) (λ j. ((f b).0 j).1);
      }

  -- a block that is on no page does not join
  not_joining : (b : ℕ) → T.view.birth b ≡ 0 → In b (frees_along T.view l) → ⊥
  not_joining b e i = let z : ⊥ = omega (arith, ((frees_along_is T.view l S q g b).0 i).0) in z

  pub queueing_waits : WaitingFits T → WaitingFits (queueing T l)
  unfolding queueing
  queueing_waits w = record {
    below = λ b i. omega (arith, w.below b i, (steps_sized T.view l).blocks);
    unborn = λ b i. steps_unborn T.view l g b (w.unborn b i);
    unqueued = λ b i.
        overlaid_out T.queue.birth T.view.birth (frees_along T.view l) b (not_joining b (w.unborn b i)) ∙ w.unqueued b i;
    once = w.once;
  }

-- ONE AFTER ANOTHER IS ALL OF THEM: none, one, and one before the others
pub queueing_none : (T : State) → queueing T [] ≡ T
unfolding queueing steps frees_along
queueing_none T =
    ap₂ (λ (m : List ℕ) (f : ℕ → ℕ). with_queue T (record { list = m; birth = f }))
    (append-nil T.queue.list) (overlaid_nil T.queue.birth T.view.birth)

pub queueing_one : (T : State) (a : Action) →
    queueing T (a ∷ []) ≡ with_queue (with_view T (done T.view a)) (enqueued T.queue T.view.birth (frees T.view a))
unfolding queueing steps frees_along
queueing_one T a =
    ap (λ (m : List ℕ). with_queue (with_view T (done T.view a)) (enqueued T.queue T.view.birth m)) (append-nil (frees T.view a))

-- an action that frees nothing leaves the queue as it is
pub queueing_quiet : (T : State) (a : Action) → frees T.view a ≡ [] → queueing T (a ∷ []) ≡ with_view T (done T.view a)
queueing_quiet T a e =
    let K = done T.view a in
    queueing_one T a ∙
    ap (λ (m : List ℕ). with_queue (with_view T K) (enqueued T.queue T.view.birth m)) e ∙
    ap₂ (λ (m : List ℕ) (f : ℕ → ℕ). with_queue (with_view T K) (record { list = m; birth = f }))
    (append-nil T.queue.list) (overlaid_nil T.queue.birth T.view.birth)

module _ (T : State) (a : Action) (l : List Action) (S : Sound T.view) (q : AsksAlong T.view (a ∷ l)) (g : Giveless (a ∷ l)) where
  -- what is freed later had its birth before
  same_birth : (b : ℕ) → In b (frees_along (done T.view a) l) → (done T.view a).birth b ≡ T.view.birth b
  same_birth b i =
      cases (done_birth T.view a b ((frees_along_is (done T.view a) l (done_sound T.view a S q.0) q.1 g.1 b).0 i).0)
      (λ y. absurd (g.0 b y))
      (λ e. e)

  -- the queue after the first of them
  one : Queue
  one = enqueued T.queue T.view.birth (frees T.view a)

  joins_after : queueing T (a ∷ l) ≡ queueing (with_queue (with_view T (done T.view a)) one) l
  unfolding queueing steps frees_along one
  joins_after =
      ap₂ (λ (m : List ℕ) (f : ℕ → ℕ). with_queue (with_view T (steps (done T.view a) l)) (record { list = m; birth = f }))
      (sym (append_assoc T.queue.list (frees T.view a) (frees_along (done T.view a) l)))
      (overlaid_append T.queue.birth T.view.birth (done T.view a).birth (frees T.view a) (frees_along (done T.view a) l) same_birth)

  pub queueing_step : queueing T (a ∷ l) ≡ queueing (queueing T (a ∷ [])) l
  unfolding one
  queueing_step = joins_after ∙ ap (λ U. queueing U l) (sym (queueing_one T a))

-- ── T: the first blocks of the queue leave it, and wait ──

module _ (T : State) (k : ℕ) (F : QueueFits T) where
  left_births : (b : ℕ) → In b (drop k T.queue.list) → 0 < cleared T.queue.birth (first_queued T k) b
  left_births b i =
      omega (
        arith,
        (F.births b).0 (in_later k T.queue.list b i),
        cleared_out T.queue.birth (first_queued T k) b (λ j. not_both k T.queue.list F.once b j i),
      )

  births_left : (b : ℕ) → 0 < cleared T.queue.birth (first_queued T k) b → In b (drop k T.queue.list)
  births_left b h =
      cases (in? b (first_queued T k))
      (λ i. absurd (let z : ⊥ = omega (arith, cleared_in T.queue.birth (first_queued T k) b i) in z))
      (λ n. cases (in_part k T.queue.list b ((F.births b).1 (omega (arith, cleared_out T.queue.birth (first_queued T k) b n))))
      (λ i. absurd (n i))
      (λ i. i))

  left_given : (b : ℕ) → cleared T.queue.birth (first_queued T k) b ≤ T.view.last
  left_given b =
      cases (in? b (first_queued T k))
      (λ i. omega (arith, cleared_in T.queue.birth (first_queued T k) b i))
      (λ n. omega (arith, cleared_out T.queue.birth (first_queued T k) b n, F.given b))

pub reclaimed_fits : (T : State) (k n : ℕ) → QueueFits T → QueueFits (reclaimed T k n)
unfolding reclaimed
reclaimed_fits T k n F = record {
  below = λ b i. F.below b (in_later k T.queue.list b i);
  once = later_once k T.queue.list F.once;
  births = λ b. (left_births T k F b, births_left T k F b);
  given = left_given T k F;
  unborn = λ b i. F.unborn b (in_later k T.queue.list b i);
}

pub reclaimed_waits : (T : State) (k n : ℕ) → QueueFits T → WaitingFits T → WaitingFits (reclaimed T k n)
unfolding reclaimed
reclaimed_waits T k n F w =
    let fs = first_queued T k in
    let was : (b : ℕ) → In b fs → In b T.queue.list = in_first k T.queue.list in
    record {
      below = λ b i. cases (of_append b T.waiting fs i) (w.below b) (λ j. F.below b (was b j));
      unborn = λ b i. cases (of_append b T.waiting fs i) (w.unborn b) (λ j. F.unborn b (was b j));
      unqueued = λ b i. cases (of_append b T.waiting fs i)
          (λ j. cleared_zero T.queue.birth fs b (w.unqueued b j))
          (λ j. cleared_in T.queue.birth fs b j);
      once = pw_append (λ b c. b ≡ c → ⊥) T.waiting fs w.once (first_once k T.queue.list F.once)
          (λ b c i j e. let z : ⊥ = omega (arith, w.unqueued b i, (F.births c).0 (was c j), ap T.queue.birth e) in z);
    }

-- how many are left
pub reclaimed_length : (T : State) (k n : ℕ) → length (first_queued T k) + length (reclaimed T k n).queue.list ≡ length T.queue.list
unfolding reclaimed
reclaimed_length T k n = parts_length k T.queue.list

-- ── W, E, B and F: what they give was not queued ──

pub acted_queue : (T : State) (a : Action) (n : ℕ) → Sound T.view → Asks T.view a → QueueFits T →
    ((c : ℕ) → Gives a c → In c T.queue.list → ⊥) → QueueFits (acted T a n)
unfolding acted
acted_queue T a n S q F d = record {
  below = λ b i. omega (arith, F.below b i, (done_sized T.view a).blocks);
  once = F.once;
  births = F.births;
  given = λ b. omega (arith, F.given b, done_last T.view a S);
  unborn = λ b i. cases (lt? 0 ((done T.view a).birth b))
      (λ h. cases (done_birth T.view a b h) (λ y. absurd (d b y i)) (λ e. e ∙ F.unborn b i))
      (λ h. omega arith);
}

-- ── the held blocks ──

pub on_pages_lem : (K : View) (b : ℕ) → 0 < K.birth b → on_pages K b ≡ true
unfolding on_pages
on_pages_lem K b h = rw (ne_eqb (K.birth b) 0 (λ e. let z : ⊥ = omega arith in z))

pub off_pages : (K : View) (b : ℕ) → K.birth b ≡ 0 → on_pages K b ≡ false
unfolding on_pages
off_pages K b e = rw (eq-eqb (K.birth b) 0 e)

pub in_queue : (T : State) (b : ℕ) → 0 < T.queue.birth b → queued T b ≡ true
unfolding queued
in_queue T b h = rw (ne_eqb (T.queue.birth b) 0 (λ e. let z : ⊥ = omega arith in z))

pub not_in_queue : (T : State) (b : ℕ) → T.queue.birth b ≡ 0 → queued T b ≡ false
unfolding queued
not_in_queue T b e = rw (eq-eqb (T.queue.birth b) 0 e)

-- a block is held on a page or in the queue
pub held_on : (T : State) (b : ℕ) → 0 < T.view.birth b → held T b ≡ true
unfolding held
held_on T b h = ap (λ t. t || queued T b) (on_pages_lem T.view b h)

pub held_queued : (T : State) (b : ℕ) → 0 < T.queue.birth b → held T b ≡ true
unfolding held
held_queued T b h = ap (λ t. on_pages T.view b || t) (in_queue T b h) ∙ or-true (on_pages T.view b)

-- a block on no page is held if it is queued
pub held_off : (T : State) (b : ℕ) → T.view.birth b ≡ 0 → held T b ≡ queued T b
unfolding held
held_off T b e = ap (λ t. t || queued T b) (off_pages T.view b e)

pub not_held : (T : State) (b : ℕ) → T.view.birth b ≡ 0 → T.queue.birth b ≡ 0 → held T b ≡ false
not_held T b e f = held_off T b e ∙ not_in_queue T b f

pub held_same : (T U : State) (b : ℕ) → U.view.birth b ≡ T.view.birth b → U.queue.birth b ≡ T.queue.birth b → held U b ≡ held T b
unfolding held on_pages queued
held_same T U b e f = rw (e, f)

-- what D and S queue stays held
pub held_queueing : (T : State) (l : List Action) → Sound T.view → AsksAlong T.view l → Giveless l → (b : ℕ) → held (queueing T l) b ≡ held T b
unfolding queueing
held_queueing T l S q g b =
    let K = T.view in
    let fs = frees_along K l in
    let f = frees_along_is K l S q g b in
    cases (lt? 0 (K.birth b))
    (λ h. cases (lt? 0 ((steps K l).birth b))
    (λ w. held_on (queueing T l) b w)
    (λ w. held_queued (queueing T l) b (omega (arith, overlaid_in T.queue.birth K.birth fs b (f.1 (h, omega arith))))) ∙
    sym (held_on T b h))
    (λ h. held_same T (queueing T l) b (omega (arith, steps_unborn K l g b (omega arith)))
    (overlaid_out T.queue.birth K.birth fs b (not_joining T l S q g b (omega arith))))

-- what T takes is held no more, and all the rest is as it was
pub held_reclaimed : (T : State) (k n : ℕ) → QueueFits T → (b : ℕ) → held (reclaimed T k n) b ≡ (held T b && not (elem b (first_queued T k)))
unfolding reclaimed
held_reclaimed T k n F b =
    let fs = first_queued T k in
    cases (in? b fs)
    (λ i. not_held (reclaimed T k n) b (F.unborn b (in_first k T.queue.list b i)) (cleared_in T.queue.birth fs b i) ∙
    sym (ap (λ t. held T b && not t) (in_elem b fs i) ∙ and-false (held T b)))
    (λ i. held_same T (reclaimed T k n) b refl (cleared_out T.queue.birth fs b i) ∙
    sym (ap (λ t. held T b && not t) (not_in_elem b fs i) ∙ and-true (held T b)))

-- ── how many ──

gives_none : (a : Action) → ((c : ℕ) → Gives a c → ⊥) → gives a ≡ 0
gives_none do_b n = refl
gives_none (do_w s x b) n = absurd (n b refl)
gives_none (do_e s x) n = refl
gives_none (do_s s) n = refl
gives_none (do_f s) n = refl
gives_none (do_d s) n = refl

-- what the actions take off the pages was on them
pub held_along : (K : View) (l : List Action) → Sound K → AsksAlong K l → Giveless l → held_count (steps K l) + length (frees_along K l) ≡ held_count K
unfolding steps frees_along
held_along K [] S q g = omega arith
held_along K (a ∷ l) S (q, qs) (n, ns) =
    omega (
      arith,
      held_along (done K a) l (done_sound K a S q) qs ns,
      held_done K a S q,
      gives_none a n,
      length-append (frees K a) (frees_along (done K a) l),
    )

pub queueing_count : (T : State) (l : List Action) → Sound T.view → AsksAlong T.view l → Giveless l →
    length (queueing T l).queue.list + held_count (steps T.view l) ≡ length T.queue.list + held_count T.view
unfolding queueing
queueing_count T l S q g = omega (arith, held_along T.view l S q g, length-append T.queue.list (frees_along T.view l))

-- the queue as a test
pub queued_is : (T : State) → QueueFits T → (b : ℕ) → queued T b ≡ elem b T.queue.list
queued_is T F b =
    cases (in? b T.queue.list)
    (λ i. in_queue T b ((F.births b).0 i) ∙ sym (in_elem b T.queue.list i))
    (λ n. not_in_queue T b (cases (lt? 0 (T.queue.birth b)) (λ h. absurd (n ((F.births b).1 h))) (λ h. omega arith)) ∙
    sym (not_in_elem b T.queue.list n))

-- the held blocks are those on pages and those in the queue
pub held_count_lem : (T : State) → QueueFits T → tally (held T) T.view.blocks ≡ held_count T.view + length T.queue.list
unfolding held_count
held_count_lem T F =
    let on : ℕ → Bool = λ b. ltb 0 (T.view.birth b) in
    let many = length_is T.queue.list (queued T) T.view.blocks F.once
    (λ b i. (F.below b i, in_queue T b ((F.births b).0 i)))
    (λ b h e. elem_in b T.queue.list (sym (queued_is T F b) ∙ e)) in
    sym (ap (λ n. tally on T.view.blocks + n) many ∙
    tally_add on (queued T) (held T) T.view.blocks
    (λ b h. cases (lt? 0 (T.view.birth b))
    (λ w. ap₂ (λ s t. bit s + bit t) (lt-ltb 0 (T.view.birth b) w) (unqueued b w) ∙ sym (ap bit (held_on T b w)))
    (λ w. omega (arith, ap bit (le-ltb 0 (T.view.birth b) w), ap bit (held_off T b (omega arith))))))
  where
    -- what is on a page is not queued
    unqueued : (b : ℕ) → 0 < T.view.birth b → queued T b ≡ false
    unqueued b w =
        not_in_queue T b (cases (lt? 0 (T.queue.birth b))
        (λ h. absurd (let z : ⊥ = omega (arith, F.unborn b ((F.births b).1 h)) in z))
        (λ h. omega arith))
