-- The call T: its refusals, what it asks of its stages once it is accepted, and that what they leave is what the model says.
use mathlib.Core.Path.{◌≡◌, refl, sym, ap, ap₂, ◌∙◌}
use mathlib.Core.Bool.{true, ◌||◌}
use mathlib.Core.List.{List, ◌++◌, map}
use Prim.Native.Nat.{ℕ, ◌+◌, ◌-◌, ◌*◌, ◌≤◌, ◌<◌}
use native.Mathlib.Omega.{arith}
use lib.Dec.{eqb, ltb}
use lib.ListN.{length, get_or, set, take, drop, length-append}
use lib.Seq.{sets, length-sets}
use borrow.Author.Tests.{eq-eqb, ne_eqb, lt-ltb, le-ltb}
use Rattle.answer.specs.Reply.{accepted, refused, reply_of}
use Rattle.std.specs.Prelude.{Result, Ok, Err}
use Rattle.answer.specs.declared.Refusal.{Refusal}
use Rattle.answer.specs.declared.Refusal.TheVariants.{LogFull, BadTurn}
use Rattle.answer.specs.Number.{number_of}
use Rattle.answer.proofs.Cases.{cases, same?, lt?}
use Rattle.geometry.specs.declared.Geometry.{Geometry}
use Rattle.geometry.specs.Limits.{blocks}
use Rattle.alloc_log.specs.Word.{write_at, bytes_of, released}
use Rattle.model.specs.Lists.{In, Once, cleared}
use Rattle.model.specs.Queue.{dequeued}
use Rattle.model.specs.State.{State, with_used, with_queue, free_all}
use Rattle.model.specs.Results.{paired}
use Rattle.model.specs.Calls.{reclaimed_words, reclaimed}
use Rattle.model.specs.Layout.{state_of, stored}
use Rattle.model.specs.Command.{Reclaim}
use Rattle.model.proofs.ListFacts.{pw_append, of_append}
use Rattle.model.proofs.QueueFacts.{in_first, first_once}
use Rattle.model.proofs.Waiting.{once_short}
use Rattle.tables.specs.Ready.{Roomy, Ready, OutLong}
use Rattle.tables.specs.Outcome.{replied, tables_left, log_left, out_left}
use Rattle.tables.specs.Puts.{with_ended, with_queue_list}
use Rattle.tables.proofs.Fields
use Rattle.tables.proofs.Ranges
use Rattle.tables.proofs.Freeing.{waiting_length}
use Rattle.tables.proofs.Steps.{Holds, holds_as, holds_first, holds_roomy, holds_says, step_used}
use Rattle.tables.proofs.QueueStores.{ended_list, ended_shortened}
use Rattle.reclaiming.specs.Stages.{turn, ended_all, shortened}
use Rattle.reclaiming.proofs.Turns.{turn_le, turn_in, turn_length, turn_take, turn_drop}
use Rattle.reclaiming.proofs.Listing.{firsts, take_paired, firsts_paired, get_paired}
use Rattle.reclaiming.proofs.Logging.{freed, map_length}
use Rattle.reclaiming.proofs.Ending.{step_end, step_short}

-- what the call promises, of the three lent slices
abbrev pub Left : Geometry → List ℕ → ℕ → Result ℕ Refusal → List ℕ → List ℕ → List ℕ → List ℕ → List ℕ → Type 0
Left g t k a t₁ log log₁ out out₁ =
    (reply_of a out₁ ≡ replied g t (Reclaim k))
    × ((t₁ ≡ tables_left g t (Reclaim k)) × ((log₁ ≡ log_left g t log (Reclaim k)) × (out₁ ≡ out_left g t out (Reclaim k))))

-- ── refusals ──

-- the words of the first k blocks, which are n
words_are : (g : Geometry) (t : List ℕ) (k n : ℕ) → n ≡ turn t k → length (reclaimed_words (state_of g t) k) ≡ n
words_are g t k n e =
    let q : List ℕ = (state_of g t).queue.list in
    map_length (take k q) ∙ turn_length t q k (Fields.queue_length_lem g t) ∙ sym e

module _ (g : Geometry) (t : List ℕ) (k : ℕ) where
  refused_left : (r : Refusal) → replied g t (Reclaim k) ≡ refused (number_of r) → (log out : List ℕ) → Left g t k (Err r) t log log out out
  unfolding reply_of tables_left log_left out_left
  refused_left n e log out = (sym e, (rw e refl, (rw e refl, rw e refl)))

  bad : (eqb k 0 || ltb 64 k) ≡ true → replied g t (Reclaim k) ≡ refused 19
  unfolding replied
  bad y = rw y

  none : k ≡ 0 → (log out : List ℕ) → Left g t k (Err BadTurn) t log log out out
  none z = refused_left BadTurn (bad (rw (eq-eqb k 0 z)))

  large : (k ≡ 0 → ⊥) → 64 < k → (log out : List ℕ) → Left g t k (Err BadTurn) t log log out out
  large some h = refused_left BadTurn (bad (rw (ne_eqb k 0 some, lt-ltb 64 k h)))

  pub outside : (1 ≤ k → k ≤ 64 → ⊥) → (log out : List ℕ) → Left g t k (Err BadTurn) t log log out out
  outside n =
      cases (same? k 0) none
      (λ some. cases (lt? 64 k) (large some) (λ few. absurd (n (omega arith) few)))

  -- n blocks would be freed: the turn of w, which is k; u words are used
  pub short : 1 ≤ k → k ≤ 64 → (n w u : ℕ) → n ≡ turn t w → w ≡ k → u ≡ get_or t 9 0 → g.words - u < n →
      (log out : List ℕ) → Left g t k (Err LogFull) t log log out out
  unfolding replied state_of
  short some few n w u count i e h =
      refused_left LogFull (rw (
        ne_eqb k 0 (λ z. let f : ⊥ = omega arith in f),
        le-ltb 64 k few,
        lt-ltb (g.words - get_or t 9 0) (length (reclaimed_words (state_of g t) k)) (omega (arith, words_are g t k n (count ∙ ap (turn t) i))),
      ))

-- ── an accepted T ──

-- of n blocks
pub record Accepts (g : Geometry) (t : List ℕ) (k n : ℕ) : Type 0 where
  pub ready : Ready g t
  pub some : k ≡ 0 → ⊥
  pub few : k ≤ 64
  pub count : n ≡ turn t k
  pub enough : get_or t 9 0 + n ≤ g.words

-- the used words are no more than there are
pub used_le : {g : Geometry} {t : List ℕ} → Ready g t → get_or t 9 0 ≤ g.words
used_le {g} {t} R = omega (arith, R.range.used, Fields.used_is g t)

-- n is the turn of w, which is k; u words are used
pub accepts : {g : Geometry} {t : List ℕ} (k n w u : ℕ) → Ready g t → 1 ≤ k → k ≤ 64 → n ≡ turn t w → w ≡ k → u ≡ get_or t 9 0 → n ≤ g.words - u →
    Accepts g t k n
accepts {g} {t} k n w u R some few count i e enough = record {
  ready = R;
  some = λ z. let f : ⊥ = omega arith in f;
  few = few;
  count = count ∙ ap (turn t) i;
  enough = omega (arith, used_le R);
}

-- the first n blocks are the first k: so much is left
reclaimed_is : (T : State) (n k m : ℕ) → take n T.queue.list ≡ take k T.queue.list → drop n T.queue.list ≡ drop k T.queue.list →
    free_all (take n T.queue.list) (with_queue (with_used T (T.used + m)) (dequeued T.queue n)) ≡ reclaimed T k m
unfolding reclaimed
reclaimed_is T n k m e d =
    ap₂ (λ (a r : List ℕ). free_all a (with_queue (with_used T (T.used + m)) (record { list = r; birth = cleared T.queue.birth a }))) e d

module _ {g : Geometry} {t : List ℕ} {k n : ℕ} (A : Accepts g t k n) where
  abbrev R : Ready g t
  R = A.ready

  abbrev T : State
  T = state_of g t

  abbrev q : List ℕ
  q = (state_of g t).queue.list

  abbrev f : ℕ → ℕ
  f = (state_of g t).queue.birth

  -- the blocks that are freed
  abbrev F : List ℕ
  F = take n (state_of g t).queue.list

  first_is : F ≡ take k q
  first_is = ap (λ m. take m q) A.count ∙ turn_take t q k (Fields.queue_length_lem g t)

  rest_is : drop n q ≡ drop k q
  rest_is = ap (λ m. drop m q) A.count ∙ turn_drop t q k (Fields.queue_length_lem g t)

  first_count : n ≡ length F
  first_count = A.count ∙ sym (turn_length t q k (Fields.queue_length_lem g t)) ∙ ap length (sym first_is)

  -- ── what is asked of the stages ──

  pub accept_in : n ≤ get_or t 10 0
  accept_in = omega (arith, A.count, turn_in t k)

  pub accept_few : n ≤ 64
  accept_few = omega (arith, A.count, turn_le t k, A.few)

  pub accept_out : (out : List ℕ) → OutLong g out → 2 * n ≤ length out
  accept_out out long = omega (arith, long, accept_in, Ranges.queue_cell_le R)

  first_in : (b : ℕ) → In b F → In b q
  first_in b i = in_first n q b i

  first_below : (b : ℕ) → In b F → b < blocks g
  first_below b i = Ranges.queue_in_lem R b (first_in b i)

  -- none of them waits, so that there is room for them among those that wait
  once : Once (T.waiting ++ F)
  once =
      pw_append (λ b c. b ≡ c → ⊥) T.waiting F R.waiting.once (first_once n q R.queue.once)
      (λ b c i j e. let z : ⊥ = omega (arith, R.waiting.unqueued b i, (R.queue.births c).0 (first_in c j), ap f e) in z)

  fit : length T.waiting + n ≤ blocks g
  fit =
      omega (
        arith,
        once_short (T.waiting ++ F) (blocks g) once
            (λ b i. cases (of_append b T.waiting F i) (λ j. Ranges.waiting_in R b j) (λ j. first_below b j)),
        length-append T.waiting F,
        first_count,
      )

  reply_is : replied g t (Reclaim k) ≡ accepted (paired (state_of g t).queue.birth (take n (state_of g t).queue.list))
  unfolding replied
  reply_is =
      rw (
        ne_eqb k 0 A.some,
        le-ltb 64 k A.few,
        le-ltb (g.words - T.used) (length (reclaimed_words T k)) (omega (arith, words_are g t k n A.count, A.enough, Fields.used_is g t)),
      ) (ap (λ (l : List ℕ). accepted (paired f l)) (sym first_is))

  -- the blocks are listed
  module _ (out : List ℕ) (long : OutLong g out) (out₁ : List ℕ)
      (eo : out₁ ≡ sets out 0 (paired (state_of g t).queue.birth (take n (state_of g t).queue.list))) where
    pub accept_room : 2 * n ≤ length out₁
    accept_room = omega (arith, ap length eo, length-sets out 0 (paired f F), accept_out out long)

    pub accept_blocks : (i : ℕ) → i < n → get_or out₁ (2 * i) 0 < blocks g
    accept_blocks i h =
        let e : get_or out₁ (2 * i) 0 ≡ get_or F i 0 =
        ap (λ (u : List ℕ). get_or u (2 * i) 0) eo ∙ get_paired f out F n first_count (accept_out out long) i h in
        omega (arith, e, first_below (get_or F i 0) (Ranges.in_get_d F i (omega (arith, first_count))))

    listed : firsts n out₁ ≡ F
    listed = ap (firsts n) eo ∙ firsts_paired f out F n first_count (accept_out out long)

    pub accept_reply : reply_of (Ok (2 * n)) out₁ ≡ replied g t (Reclaim k)
    unfolding reply_of
    accept_reply =
        ap (λ (u : List ℕ). accepted (take (2 * n) u)) eo ∙ ap accepted (take_paired f out F n first_count (accept_out out long)) ∙ sym reply_is

    pub accept_left : out₁ ≡ out_left g t out (Reclaim k)
    unfolding out_left
    accept_left = eo ∙ rw reply_is (ap (λ (l : List ℕ). sets out 0 (paired f l)) first_is)

    -- they are logged
    pub accept_log : (log log₁ : List ℕ) → log₁ ≡ write_at log (8 * get_or t 9 0) (freed n out₁) → log₁ ≡ log_left g t log (Reclaim k)
    unfolding log_left
    accept_log log log₁ el =
        el ∙ ap₂ (λ (u : ℕ) (l : List ℕ). write_at log (8 * u) (bytes_of (map released l))) (sym (Fields.used_is g t)) (listed ∙ first_is) ∙ rw reply_is refl

    module _ (t₁ : List ℕ) (e₁ : t₁ ≡ set t 9 (get_or t 9 0 + n)) where
      abbrev U : State
      U = with_used (state_of g t) ((state_of g t).used + n)

      logged : Holds g t U t₁
      logged =
          holds_as g t (e₁ ∙ ap (λ u. set t 9 (u + n)) (sym (Fields.used_is g t))) refl (step_used g t R.roomy (holds_first R) (T.used + n))

      pub accept_roomy : Roomy g t₁
      accept_roomy = holds_roomy g t R.roomy logged

      pub accept_waits : get_or t₁ 11 0 + n ≤ blocks g
      accept_waits = omega (arith, fit, waiting_length g t₁, ap (λ W. length W.waiting) (holds_says g t R.roomy logged))

      -- they are freed
      module _ (t₂ : List ℕ) (e₂ : t₂ ≡ ended_all g.records (blocks g) t₁ (firsts n out₁)) where
        ended : Holds g t (with_ended U F) t₂
        ended =
            holds_as g t (e₂ ∙ ap (ended_all g.records (blocks g) t₁) listed) refl
            (step_end g t R.roomy F logged (first_once n q R.queue.once) first_below (λ b i. (R.queue.births b).0 (first_in b i))
            (omega (arith, fit, first_count)))

        same : (with_ended U F).queue.list ≡ q
        same = ended_list U F

        queue_stays : get_or t₂ 10 0 ≡ get_or t 10 0
        queue_stays =
            sym (Fields.queue_length_lem g t₂) ∙ ap (λ W. length W.queue.list) (holds_says g t R.roomy ended) ∙ ap length same ∙
            Fields.queue_length_lem g t

        pub accept_roomy_2 : Roomy g t₂
        accept_roomy_2 = holds_roomy g t R.roomy ended

        pub accept_queue : n ≤ get_or t₂ 10 0
        accept_queue = omega (arith, accept_in, queue_stays)

        pub accept_queue_le : get_or t₂ 10 0 ≤ blocks g
        accept_queue_le = omega (arith, Ranges.queue_cell_le R, queue_stays)

        -- they leave the queue
        state_is : with_queue_list (with_ended U F) (drop n (with_ended U F).queue.list) ≡ reclaimed T k (length (reclaimed_words T k))
        state_is =
            ap (λ (l : List ℕ). with_queue_list (with_ended U F) (drop n l)) same ∙ ended_shortened U n ∙ reclaimed_is T n k n first_is rest_is ∙
            ap (reclaimed T k) (sym (words_are g t k n A.count))

        pub accept_tables : (t₃ : List ℕ) → t₃ ≡ shortened g.records (blocks g) t₂ n → t₃ ≡ tables_left g t (Reclaim k)
        unfolding tables_left
        accept_tables t₃ e₃ =
            e₃ ∙ (step_short g t R.roomy n ended accept_queue same).is ∙ ap (λ W. stored g W t) state_is ∙ rw reply_is refl
