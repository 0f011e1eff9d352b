-- USES OF THE WINDOW'S STATEMENTS (specs/WindowMeans.antt), on any memory: each follows from one of them, and would not follow from a weaker one.
use mathlib.Core.Path.{◌≡◌, refl, sym, ap, ◌∙◌, subst}
use mathlib.Core.Logic.{◌⊎◌, inl, inr}
use mathlib.Core.List.{List, [], ◌∷◌, ◌++◌, append_assoc, append-nil}
use Prim.Native.Nat.{ℕ, suc, pred, ◌+◌, ◌≤◌, ◌<◌}
use native.Mathlib.Omega.{arith}
use lib.ListN.{length, get_or, take, drop, length-append, take-append-drop}
use lib.Seq.{take_at, length-take-le}
use Rattle.answer.specs.Reply.{Reply, accepted, refused}
use Rattle.answer.proofs.Cases.{cases, same?, lt?}
use Rattle.geometry.specs.declared.Geometry.{Geometry}
use Rattle.model.specs.View.{View}
use Rattle.model.specs.Lists.{In}
use Rattle.model.specs.Results.{blocks_in}
use Rattle.model.specs.Actions.{forked, slot_of}
use Rattle.model.specs.SoundMeans.{Live}
use Rattle.model.specs.State.{State}
use Rattle.model.specs.Calls.{slot, window_of, queued_closing, conditions}
use Rattle.model.specs.Window.{frees_along, older, sealed_of, victims, sealing}
use Rattle.model.specs.Memory.{Memory, words_used, reply, after}
use Rattle.model.specs.QueueMeans.{was, now}
use Rattle.model.specs.WindowMeans.{sealed_view, Took, BareLine}
use Rattle.model.specs.Command.{Begin, Seal, Fork, Retain, Reclaim}
use Rattle.model.proofs.ListFacts.{of_append}
use Rattle.model.proofs.ByNumber.{none_at}
use Rattle.model.proofs.Asked.{named_slot}
use Rattle.model.proofs.Keeps.{accepted_is, sound_fine}
use Rattle.model.proofs.WindowTheorems.{window_stops, window_takes, window_queues, retain_only, begin_bare, fork_bare, seal_passes}
use Rattle.model.proofs.QueueTheorems.{seal_delete_not_14, turn_is}

-- ── lists ──

in_some : (t : ℕ) (l : List ℕ) → In t l → 0 < length l
in_some t [] i = absurd i
in_some t (s ∷ l) i = omega arith

-- the first k of a list with more after it
first_from : (k : ℕ) (l m : List ℕ) → k ≤ length l → take k (l ++ m) ≡ take k l
first_from k l m h =
    ap (λ (a : List ℕ). take k (a ++ m)) (sym (take-append-drop k l)) ∙ ap (take k) (append_assoc (take k l) (drop k l) m) ∙
    take_at (take k l) (drop k l ++ m) k (length-take-le k l h)

-- ── an accepted S ──

module _ (g : Geometry) (M : Memory) (r : ℕ) (l : List ℕ) (done : reply g M (Seal r) ≡ accepted l) where
  -- the slot of r, the view right after the seal, and the view after the call
  abbrev s : ℕ
  s = slot (was g M) r

  abbrev K : View
  K = sealed_view g M r

  abbrev L : View
  L = (now g M (Seal r)).view

  stays : (t : ℕ) → Live K t → (Took K L t → ⊥) → Live L t
  stays t h n = cases (same? (L.num t) 0) (λ z. absurd (n (h, z))) (λ m. omega arith)

  -- `windowed`: where the line has no window, nothing is taken
  pub none_taken : window_of (was g M) r ≡ 0 → (t : ℕ) → Took K L t → ⊥
  none_taken z t w = let y : ⊥ = omega (arith, (window_takes g M r l done).windowed t w) in y

  -- the counts of names before the call
  abbrev names : ℕ → ℕ
  names = (was g M).notes.names

  -- `unforked`, `nameless`, `not_newest`, `sealed`: what has a fork or a name on it stays, the record just sealed stays, and so does every record of
  -- another line
  pub forked_stays : (t : ℕ) → Live K t → 0 < forked K t → Live L t
  forked_stays t h f = stays t h (λ w. let z : ⊥ = omega (arith, (window_takes g M r l done).unforked t w) in z)

  pub named_stays : (t : ℕ) → Live K t → 0 < names t → Live L t
  named_stays t h m = stays t h (λ w. let z : ⊥ = omega (arith, (window_takes g M r l done).nameless t w) in z)

  pub newest_stays : Live K s → Live L s
  newest_stays h = stays s h (λ w. let z : ⊥ = omega (arith, (window_takes g M r l done).not_newest s w) in z)

  pub other_stays : (t : ℕ) → Live K t → (In t (sealed_of K s) → ⊥) → Live L t
  other_stays t h n = stays t h (λ w. n ((window_takes g M r l done).sealed t w))

  -- `oldest`: where one is taken, each older one without fork and name is taken too
  pub older_taken : (t u : ℕ) → Took K L t → In u (sealed_of K s) → (u ≡ s → ⊥) → forked K u ≡ 0 → names u ≡ 0 → K.num u < K.num t → L.num u ≡ 0
  older_taken t u w i n f m h =
      cases (same? (L.num u) 0)
      (λ z. z)
      (λ d. absurd (let z : ⊥ = omega (arith, (window_takes g M r l done).oldest t u w i n f m (omega arith)) in z))

  -- so one that is left though it is older than one that was taken has a fork or a name on it
  pub left_for_reason : (t u : ℕ) → Took K L t → In u (sealed_of K s) → (u ≡ s → ⊥) → K.num u < K.num t → Live L u →
      (0 < forked K u) ⊎ (0 < names u)
  left_for_reason t u w i n h k =
      cases (lt? 0 (forked K u)) (λ f. inl f)
      (λ f. cases (lt? 0 (names u)) (λ m. inr m)
      (λ m. absurd (let z : ⊥ = omega (arith, older_taken t u w i n (omega arith) (omega arith) h) in z)))

  -- `needed`: with a window of 2, where one is taken two are left
  pub two_left : window_of (was g M) r ≡ 2 → (t : ℕ) → Took K L t → 2 ≤ length (sealed_of L s)
  two_left e t w = omega (arith, (window_takes g M r l done).needed t w)

  -- `num`, `page`: a record that stays has its number and its pages
  pub as_before : (t x : ℕ) → Live L t → (L.num t ≡ K.num t) × (L.page t x ≡ K.page t x)
  as_before t x h = ((window_takes g M r l done).num t h, (window_takes g M r l done).page t x)

  -- `window_stops`: with a window of 1, each sealed record of the line that is left beside the newest has a fork or a name on it
  pub others_held : window_of (was g M) r ≡ 1 → (t : ℕ) → In t (sealed_of L s) → (t ≡ s → ⊥) → (0 < forked L t) ⊎ (0 < names t)
  unfolding sealed_of
  others_held e t i n =
      cases (window_stops g M r l done (omega arith))
      (λ few.
      cases (of_append t (older L s) (s ∷ []) i)
      (λ j. absurd (let z : ⊥ = omega (arith, few, length-append (older L s) (s ∷ []), in_some t (older L s) j) in z))
      (λ j. absurd (cases j n (λ z. z))))
      (λ all. all t i n)

  -- and where no record has a name, a fork
  pub others_forked : window_of (was g M) r ≡ 1 → ((t : ℕ) → names t ≡ 0) → (t : ℕ) → In t (sealed_of L s) → (t ≡ s → ⊥) → 0 < forked L t
  others_forked e z t i n = cases (others_held e t i n) (λ f. f) (λ m. absurd (let y : ⊥ = omega (arith, z t) in y))

  -- `result`: it gives one number, whatever it queued
  pub one_number : length l ≡ 1
  one_number = ap length (window_queues g M r l done).result

  -- `list`: what was queued before stands first
  pub queued_first : take (length (was g M).queue.list) (now g M (Seal r)).queue.list ≡ (was g M).queue.list
  queued_first =
      let q = (was g M).queue.list in
      ap (take (length q)) (window_queues g M r l done).queues.list ∙ take_at q (queued_closing (was g M) r) (length q) refl

  -- and where the line has no window, nothing joins: list and births are as they were
  pub none_queued : window_of (was g M) r ≡ 0 → ((now g M (Seal r)).queue.list ≡ (was g M).queue.list) ×
      ((b : ℕ) → (now g M (Seal r)).queue.birth b ≡ (was g M).queue.birth b)
  unfolding sealing victims frees_along
  none_queued z =
      let T = was g M in
      let Q = (window_queues g M r l done).queues in
      let none : queued_closing T r ≡ [] = ap (λ n. frees_along T.view (sealing T.view T.notes.names n (slot T r))) z in (
        Q.list ∙ ap (λ (m : List ℕ). T.queue.list ++ m) none ∙ append-nil T.queue.list,
        λ b. Q.others b (λ i. subst (In b) none i),
      )

  -- `births`, `others`: a block that joins has the birth that it had on its pages, and one that was queued before keeps its own
  pub births_kept : (b v : ℕ) → (In b (queued_closing (was g M) r) → ⊥) → (was g M).queue.birth b ≡ v → (now g M (Seal r)).queue.birth b ≡ v
  births_kept b v n e = (window_queues g M r l done).queues.others b n ∙ e

  pub births_join : (b v : ℕ) → In b (queued_closing (was g M) r) → (was g M).view.birth b ≡ v → (now g M (Seal r)).queue.birth b ≡ v
  births_join b v i e = (window_queues g M r l done).queues.births b i ∙ e

  -- `log`, `used`, `waiting`: neither the log nor the list of blocks that wait is touched
  pub nothing_freed : ((after g M (Seal r)).log ≡ M.log) × (words_used (after g M (Seal r)) ≡ words_used M) × ((now g M (Seal r)).waiting ≡ (was g M).waiting)
  nothing_freed = let Q = (window_queues g M r l done).queues in (Q.log, Q.used, Q.waiting)

-- ── a full log ──

module _ (g : Geometry) (M : Memory) (r : ℕ) (full : words_used M ≡ g.words)
    (no_other : (n : ℕ) → (n ≡ 14 → ⊥) → reply g M (Seal r) ≡ refused n → ⊥) where
  -- an S that no refusal but 14 could meet is accepted
  pub full_accepted : reply g M (Seal r) ≡ accepted (suc (was g M).view.last ∷ [])
  full_accepted = go (reply g M (Seal r)) refl
    where
      go : (a : Reply) → reply g M (Seal r) ≡ a → reply g M (Seal r) ≡ accepted (suc (was g M).view.last ∷ [])
      go (accepted l) e = e ∙ ap accepted (window_queues g M r l e).result
      go (refused n) e =
          absurd (cases (same? n 14)
          (λ i. seal_delete_not_14 g M (Seal r) (inr (r, refl)) (e ∙ ap refused i))
          (λ m. no_other n m e))

  -- it queues the blocks of its window's deletes, and the log is as full as before
  pub full_queues : ((now g M (Seal r)).queue.list ≡ (was g M).queue.list ++ queued_closing (was g M) r) × (words_used (after g M (Seal r)) ≡ g.words)
  full_queues =
      let Q = (window_queues g M r (suc (was g M).view.last ∷ []) full_accepted).queues in
      (Q.list, Q.used ∙ full)

-- ── S, then T ──

module _ (g : Geometry) (M : Memory) (r k : ℕ) (l m : List ℕ) (done : reply g M (Seal r) ≡ accepted l)
    (turn : reply g (after g M (Seal r)) (Reclaim k) ≡ accepted m) where
  -- `list`, `parts`: a turn of no more blocks than were queued before the S gives the first of those, and none of the S
  pub earlier_first : k ≤ length (was g M).queue.list → blocks_in m ≡ take k (was g M).queue.list
  earlier_first h =
      let N = after g M (Seal r) in
      let t = turn_is g N k m turn in
      let q = (window_queues g M r l done).queues.list in
      let long : k ≤ length (was g N).queue.list =
      omega (arith, h, ap length q, length-append (was g M).queue.list (queued_closing (was g M) r)) in
      let many : length (blocks_in m) ≡ k = omega (arith, t.many, long) in
      sym (take_at (blocks_in m) (now g N (Reclaim k)).queue.list k many) ∙ ap (take k) (t.parts ∙ q) ∙
      first_from k (was g M).queue.list (queued_closing (was g M) r) h

  -- `many`: a turn of more than are queued then gives all of them
  pub all_given : length (was g M).queue.list + length (queued_closing (was g M) r) ≤ k →
      length (blocks_in m) ≡ length (was g M).queue.list + length (queued_closing (was g M) r)
  all_given h =
      let q = (window_queues g M r l done).queues.list in
      omega (
        arith,
        (turn_is g (after g M (Seal r)) k m turn).many,
        ap length q,
        length-append (was g M).queue.list (queued_closing (was g M) r),
      )

-- ── K, then S ──

module _ (g : Geometry) (M : Memory) (r n : ℕ) (l m : List ℕ) (noted : reply g M (Retain r n) ≡ accepted l)
    (done : reply g (after g M (Retain r n)) (Seal r) ≡ accepted m) where
  -- `here`, `view`, `window`: the record that S opens has the window that K set
  pub set_and_passed : (now g (after g M (Retain r n)) (Seal r)).notes.window (seal_passes g (after g M (Retain r n)) r m done).slot ≡ n
  set_and_passed =
      let R = retain_only g M r n l noted in
      (seal_passes g (after g M (Retain r n)) r m done).window ∙
      ap (λ (K : View). (now g M (Retain r n)).notes.window (pred (slot_of K r))) R.only.view ∙ R.only.here

-- ── B or F, then S of the new record ──

-- the line of the new record has no window
bare : (g : Geometry) (N : Memory) (T : State) (n : ℕ) (m : List ℕ) → reply g N (Seal n) ≡ accepted m → BareLine T (was g N) (n ∷ []) →
    window_of (was g N) n ≡ 0
bare g N T n m done B =
    let (A, i) = accepted_is g N (Seal n) m done in
    let F = sound_fine g N.tables N.log A.sound in
    let (live, e) = named_slot g A.inside (was g N) F n (none_at (conditions g (was g N) (Seal n)) A.none 8) in
    let named : n ≡ (was g N).view.num B.slot = ap (λ (k : List ℕ). get_or k 0 0) B.result in
    let same : slot (was g N) n ≡ B.slot = F.sound.links.apart (slot (was g N) n) B.slot live (e ∙ named) in
    ap (was g N).notes.window same ∙ B.window

module _ (g : Geometry) (M : Memory) (n : ℕ) (m : List ℕ) where
  pub begun_bare : reply g M Begin ≡ accepted (n ∷ []) → (done : reply g (after g M Begin) (Seal n) ≡ accepted m) → (t : ℕ) →
      Took (sealed_view g (after g M Begin) n) (now g (after g M Begin) (Seal n)).view t → ⊥
  begun_bare b done =
      none_taken g (after g M Begin) n m done (bare g (after g M Begin) (was g M) n m done (begin_bare g M (n ∷ []) b))

  pub forked_bare : (r : ℕ) → reply g M (Fork r) ≡ accepted (n ∷ []) → (done : reply g (after g M (Fork r)) (Seal n) ≡ accepted m) → (t : ℕ) →
      Took (sealed_view g (after g M (Fork r)) n) (now g (after g M (Fork r)) (Seal n)).view t → ⊥
  forked_bare r b done =
      none_taken g (after g M (Fork r)) n m done (bare g (after g M (Fork r)) (was g M) n m done (fork_bare g M r (n ∷ []) b))
