-- Stores into the queue: a block joins it, leaves its births and waits, and the list is another one. What tables that hold a state hold then.
use mathlib.Core.Path.{◌≡◌, refl, sym, ap, ap₂, ◌∙◌, subst}
use mathlib.Core.Logic.{◌⊎◌, inl, inr}
use mathlib.Core.Bool.{Bool, not, ◌&&◌}
use mathlib.Core.List.{List, [], ◌∷◌, ◌++◌, append_assoc, append-nil}
use Prim.Native.Nat.{ℕ, zero, suc, ◌+◌, ◌-◌, ◌*◌, ◌≤◌, ◌<◌, min}
use native.Mathlib.Omega.{arith}
use lib.Dec.{eqb}
use lib.ListN.{length, get_or, set, take, drop, length-set, length-append, length-drop}
use lib.Seq.{sets, get_or-set_same, get_or-set_other}
use borrow.Author.Tests.{eq-eqb, ne_eqb}
use Rattle.answer.proofs.Cases.{cases, same?, lt?}
use Rattle.geometry.specs.declared.Geometry.{Geometry}
use Rattle.geometry.specs.Limits.{blocks}
use Rattle.choice.specs.Words.{word_of}
use Rattle.model.specs.Table.{put}
use Rattle.model.specs.Lists.{In, elem, cleared}
use Rattle.model.specs.Queue.{overlaid, enqueued, dequeued}
use Rattle.model.specs.Held.{waits, available}
use Rattle.model.specs.State.{State, with_queue, with_waiting, free_all}
use Rattle.model.specs.SoundStore.{MadeFor}
use Rattle.model.specs.Layout.{birth_cell, queue_cell, queue_birth_cell, wait_cell, need, free_word, numbers, queue_of, state_of, header_number, column_number}
use Rattle.model.specs.Layout.{page_number, list_number, row_number, stored}
use Rattle.model.proofs.TabFacts.{put_same, put_other}
use Rattle.model.proofs.ListFacts.{in_right, cleared_zero}
use Rattle.model.proofs.QueueFacts.{overlaid_append, overlaid_cons, overlaid_nil, cleared_append}
use Rattle.model.proofs.Waiting.{waits_unavailable, queued_unavailable}
use Rattle.model.proofs.Shape.{Shaped}
use Rattle.model.proofs.ShapeFacts.{enqueued_shaped}
use Rattle.model.proofs.LayoutFacts.{stored_header, stored_birth, stored_queue, stored_queue_birth}
use Rattle.model.proofs.StoredFacts.{row_number_lem, row_other}
use Rattle.model.proofs.Restored.{queue_said}
use Rattle.model.proofs.BirthPut.{word_ext}
use Rattle.tables.specs.Ready.{Roomy, FreeWords}
use Rattle.tables.specs.Births.{queued, waited}
use Rattle.tables.specs.Puts.{with_queued, with_ended, with_queue_list, with_births}
use Rattle.tables.proofs.Fields
use Rattle.tables.proofs.Bits.{waited_length}
use Rattle.tables.proofs.Freeing.{waiting_length, joined_last, row_joined, elem_other}
use Rattle.tables.proofs.Stores.{header_same, several, waits_stored}
use Rattle.tables.proofs.Chain.{QueueTail, tail_longer, queue_same}
use Rattle.tables.proofs.Steps.{Holds, holds_as, holds_roomy, holds_made, holds_free, holds_says, step, step_tail}
use Rattle.tables.proofs.Sets.{sets_off, sets_on, sets_length}

-- ── free words ──

-- states that may give the same blocks have the same free words
word_same : (T U : State) (k : ℕ) → U.view.blocks ≡ T.view.blocks → ((c : ℕ) → available U c ≡ available T c) → free_word U k ≡ free_word T k
unfolding free_word
word_same T U k e h =
    ap (λ n. word_of (available U) (32 * k) (min 32 (n - 32 * k))) e ∙
    word_ext (available U) (available T) (min 32 (T.view.blocks - 32 * k)) (32 * k) (λ j l m. h j)

-- one block that joins, with its birth
overlaid_one : (q f : ℕ → ℕ) (b : ℕ) → overlaid q f (b ∷ []) ≡ put q b (f b)
overlaid_one q f b = overlaid_cons q f b [] ∙ ap (λ (h : ℕ → ℕ). put h b (f b)) (overlaid_nil q f)

module _ (T : State) (b : ℕ) where
  -- b is queued: it has a birth, or it had none in the queue either
  queued_available : (T.view.birth b ≡ 0 → T.queue.birth b ≡ 0) → (c : ℕ) → available (with_queued T b) c ≡ available T c
  unfolding with_queued available waits
  queued_available h c =
      let f : ℕ → ℕ = T.view.birth in
      let q : ℕ → ℕ = T.queue.birth in
      let w : Bool = not (elem c T.waiting) in
      ap (λ (r : ℕ → ℕ). eqb (put f b 0 c) 0 && (eqb (r c) 0 && w)) (overlaid_one q f b) ∙
      cases (same? c b)
      (λ e. rw (e, put_same f b 0, put_same q b (f b))
      (cases (same? (f b) 0)
      (λ z. rw (eq-eqb (f b) 0 z, eq-eqb (q b) 0 (h z)))
      (λ n. rw (ne_eqb (f b) 0 n))))
      (λ n. rw (put_other f b 0 c n, put_other q b (f b) c n))

  pub word_queued : (k : ℕ) → (T.view.birth b ≡ 0 → T.queue.birth b ≡ 0) → free_word (with_queued T b) k ≡ free_word T k
  unfolding with_queued
  word_queued k h = word_same T (with_queued T b) k refl (queued_available h)

  -- b, which was queued, has no birth in the queue any more, and waits
  ended_available : 0 < T.queue.birth b → (c : ℕ) → available (with_ended T (b ∷ [])) c ≡ available T c
  unfolding with_ended available waits cleared
  ended_available h c =
      cases (same? c b)
      (λ e. rw e (waits_unavailable (with_ended T (b ∷ [])) b (in_right b T.waiting (b ∷ []) (inl refl)) ∙ sym (queued_unavailable T b h)))
      (λ n. rw (put_other T.queue.birth b 0 c n, elem_other T.waiting b c n))

  pub word_ended : (k : ℕ) → 0 < T.queue.birth b → free_word (with_ended T (b ∷ [])) k ≡ free_word T k
  unfolding with_ended
  word_ended k h = word_same T (with_ended T (b ∷ [])) k refl (ended_available h)

-- ── what is stored, number by number ──

pub queue_header : (g : Geometry) (T : State) (t : List ℕ) → header_number g T t 10 ≡ length T.queue.list
unfolding header_number
queue_header g T t = refl

-- i is neither the queue's length nor one of its first n places
abbrev pub OffQueue : Geometry → ℕ → ℕ → Type 0
OffQueue g n i = (i ≡ 10 → ⊥) × ((i < queue_cell g.records (blocks g) 0) ⊎ (queue_cell g.records (blocks g) n ≤ i))

module _ (g : Geometry) (t : List ℕ) (roomy : Roomy g t) (made : MadeFor g t) (free : FreeWords g t) where
  abbrev T : State
  T = state_of g t

  abbrev R : ℕ
  R = g.records

  abbrev N : ℕ
  N = blocks g

  -- neither of the four numbers
  abbrev OffQueued : ℕ → ℕ → Type 0
  OffQueued b i = (i ≡ queue_birth_cell R N b → ⊥) × (i ≡ birth_cell R b → ⊥) × (i ≡ queue_cell R N (get_or t 10 0) → ⊥) × (i ≡ 10 → ⊥)

  birth_said : (b : ℕ) → b < blocks g → T.view.birth b ≡ get_or t (birth_cell R b) 0
  unfolding state_of
  birth_said b h = Fields.birth_is g t b h

  -- THE BLOCK b IS QUEUED
  pub store_queued : (b : ℕ) → b < blocks g → ((state_of g t).view.birth b ≡ 0 → (state_of g t).queue.birth b ≡ 0) →
      length (state_of g t).queue.list < blocks g → queued g.records (blocks g) t b ≡ stored g (with_queued (state_of g t) b) t
  unfolding queued with_queued column_number page_number list_number
  store_queued b h born few =
      let U : State = with_queued T b in
      let room : need g ≤ length t = roomy.room in
      let l : List ℕ = T.queue.list ++ (b ∷ []) in
      let n : ℕ = get_or t 10 0 in
      let len : length T.queue.list ≡ n = Fields.queue_length_lem g t in
      let a : ℕ = queue_cell R N 0 in
      let i₁ : ℕ = queue_birth_cell R N b in
      let i₂ : ℕ = birth_cell R b in
      let i₃ : ℕ = queue_cell R N n in
      let v : ℕ = get_or t i₂ 0 in
      let x : List ℕ = set t i₁ v in
      let y : List ℕ = set x i₂ 0 in
      let z : List ℕ = set y i₃ b in
      let lx : length x ≡ length t = length-set t i₁ v in
      let ly : length y ≡ length t = length-set x i₂ 0 ∙ lx in
      let lz : length z ≡ length t = length-set y i₃ b ∙ ly in
      let births : U.queue.birth ≡ put T.queue.birth b (T.view.birth b) = overlaid_one T.queue.birth T.view.birth b in
      several g t roomy made free (set z 10 (n + 1)) U (OffQueued b) (record {
        header = λ i l p. header_same g U T t i (λ e. refl) (λ e. refl) (λ e. refl) (λ e. refl) (λ e. absurd (p.3 e)) (λ e. refl) (λ e. refl)
            (λ l m. word_queued T b (i - 64) born);
        column = λ f r hf hr p. refl;
        page = λ r j hr hj p. refl;
        list = λ r i hr hi p. refl;
        birth = λ c hc p. put_other T.view.birth b 0 c (λ e. p.1 (omega arith));
        note = λ i l m p. refl;
        queue = λ i l m p. row_joined T.queue.list t a b i (λ e. p.2 (omega arith));
        queue_birth = λ c hc p. ap (λ (f : ℕ → ℕ). f c) births ∙ put_other T.queue.birth b (T.view.birth b) c (λ e. p.0 (omega arith));
        wait = λ i l m p. refl;
      })
      (length-set z 10 (n + 1) ∙ lz)
      (λ i p. get_or-set_other z 10 i (n + 1) 0 p.3 ∙ get_or-set_other y i₃ i b 0 p.2 ∙ get_or-set_other x i₂ i 0 0 p.1 ∙ get_or-set_other t i₁ i v 0 p.0)
      (λ i.
      cases (same? i 10)
      (λ e. inl (rw e (get_or-set_same z 10 (n + 1) 0 (omega arith) ∙ sym (stored_header g U t room 10 (omega arith) ∙ queue_header g U t ∙
      length-append T.queue.list (b ∷ []) ∙ ap (λ k. k + 1) len))))
      (λ d. cases (same? i i₃)
      (λ e. inl (rw e (get_or-set_other z 10 i₃ (n + 1) 0 (λ w. let u : ⊥ = omega arith in u) ∙ get_or-set_same y i₃ b 0 (omega arith) ∙
      sym (stored_queue g U t room i₃ (omega arith) (omega arith) ∙ ap (row_number l t a) (let w : i₃ ≡ a + length T.queue.list = omega arith in w) ∙
      row_number_lem l t a (length T.queue.list) (omega (arith, length-append T.queue.list (b ∷ []))) ∙ joined_last T.queue.list b))))
      (λ f. cases (same? i i₂)
      (λ e. inl (rw e (get_or-set_other z 10 i₂ (n + 1) 0 (λ w. let u : ⊥ = omega arith in u) ∙
      get_or-set_other y i₃ i₂ b 0 (λ w. let u : ⊥ = omega arith in u) ∙ get_or-set_same x i₂ 0 0 (omega arith) ∙
      sym (stored_birth g U t room b h ∙ put_same T.view.birth b 0))))
      (λ j. cases (same? i i₁)
      (λ e. inl (rw e (get_or-set_other z 10 i₁ (n + 1) 0 (λ w. let u : ⊥ = omega arith in u) ∙
      get_or-set_other y i₃ i₁ b 0 (λ w. let u : ⊥ = omega arith in u) ∙ get_or-set_other x i₂ i₁ 0 0 (λ w. let u : ⊥ = omega arith in u) ∙
      get_or-set_same t i₁ v 0 (omega arith) ∙
      sym (stored_queue_birth g U t room b h ∙ ap (λ (f : ℕ → ℕ). f b) births ∙ put_same T.queue.birth b (T.view.birth b) ∙ birth_said b h))))
      (λ k. inr (k, j, f, d))))))

  -- THE QUEUED BLOCK b HAS NO BIRTH IN THE QUEUE, AND WAITS
  pub store_ended : (b : ℕ) → b < blocks g → 0 < (state_of g t).queue.birth b → length (state_of g t).waiting < blocks g →
      waited g.records (blocks g) (set t (queue_birth_cell g.records (blocks g) b) 0) b ≡ stored g (with_ended (state_of g t) (b ∷ [])) t
  unfolding with_ended cleared
  store_ended b h born few =
      let U : State = with_ended T (b ∷ []) in
      let a : ℕ = queue_birth_cell R N b in
      waits_stored g t roomy made free (set t a 0) U (λ i. i ≡ a → ⊥) b few refl (length-set t a 0)
      (get_or-set_other t a 11 0 0 (λ e. let z : ⊥ = omega arith in z)) (record {
        header = λ i l p. header_same g U T t i (λ e. refl) (λ e. refl) (λ e. refl) (λ e. refl) (λ e. refl) (λ e. absurd (p.1.1 e)) (λ e. refl)
            (λ l m. word_ended T b (i - 64) born);
        column = λ f r hf hr p. refl;
        page = λ r j hr hj p. refl;
        list = λ r i hr hi p. refl;
        birth = λ c hc p. refl;
        note = λ i l m p. refl;
        queue = λ i l m p. refl;
        queue_birth = λ c hc p. put_other T.queue.birth b 0 c (λ e. p.0 (omega arith));
        wait = λ i l m p. row_joined T.waiting t (wait_cell R N 0) b i (λ e. p.1.0 (omega (arith, waiting_length g t)));
      })
      (λ i p. get_or-set_other t a i 0 0 p)
      (λ i o. cases (same? i a)
      (λ e. inl (rw e (get_or-set_same t a 0 0 (omega (arith, roomy.room)) ∙
      sym (stored_queue_birth g U t roomy.room b h ∙ put_same T.queue.birth b 0))))
      (λ n. inr n))

  -- THE LIST OF THE QUEUE: in u it is l, and u else is t
  pub store_queue : (l u : List ℕ) → length u ≡ length t → length l ≤ blocks g → get_or u 10 0 ≡ length l →
      ((i : ℕ) → i < length l → get_or u (queue_cell g.records (blocks g) i) 0 ≡ get_or l i 0) →
      ((i : ℕ) → OffQueue g (length l) i → get_or u i 0 ≡ get_or t i 0) → u ≡ stored g (with_queue_list (state_of g t) l) t
  unfolding with_queue_list free_word available waits
  store_queue l u long most count entries same =
      let U : State = with_queue_list T l in
      let room : need g ≤ length t = roomy.room in
      let a : ℕ = queue_cell R N 0 in
      several g t roomy made free u U (OffQueue g (length l)) (record {
        header = λ i l p. header_same g U T t i (λ e. refl) (λ e. refl) (λ e. refl) (λ e. refl) (λ e. absurd (p.0 e)) (λ e. refl) (λ e. refl)
            (λ l m. refl);
        column = λ f r hf hr p. refl;
        page = λ r j hr hj p. refl;
        list = λ r i hr hi p. refl;
        birth = λ c hc p. refl;
        note = λ i l m p. refl;
        queue = λ i k m p. row_other l t a i (cases p.1 (λ z. inl z) (λ z. inr (omega arith))) ∙ sym (queue_said g t i);
        queue_birth = λ c hc p. refl;
        wait = λ i l m p. refl;
      })
      long same
      (λ i. cases (same? i 10)
      (λ e. inl (rw e (count ∙ sym (stored_header g U t room 10 (omega arith) ∙ queue_header g U t))))
      (λ d. cases (lt? i a) (λ h. inr (d, inl h)) (λ h. cases (lt? i (queue_cell R N (length l)))
      (λ k.
      let j : ℕ = i - a in
      let e : i ≡ a + j = omega arith in
      inl (ap (λ m. get_or u m 0) (let z : i ≡ queue_cell R N j = omega arith in z) ∙ entries j (omega arith) ∙
      sym (stored_queue g U t room i (omega arith) (omega arith) ∙ ap (row_number l t a) e ∙ row_number_lem l t a j (omega arith))))
      (λ k. inr (d, inr k)))))

  -- its numbers stored in one run, then its length
  pub store_queue_list : (l : List ℕ) → length l ≤ blocks g →
      set (sets t (queue_cell g.records (blocks g) 0) l) 10 (length l) ≡ stored g (with_queue_list (state_of g t) l) t
  store_queue_list l most =
      let a : ℕ = queue_cell R N 0 in
      let x : List ℕ = sets t a l in
      let lx : length x ≡ length t = sets_length l t a in
      store_queue l (set x 10 (length l)) (length-set x 10 (length l) ∙ lx) most (get_or-set_same x 10 (length l) 0 (omega (arith, roomy.room)))
      (λ i h. get_or-set_other x 10 (queue_cell R N i) (length l) 0 (λ e. let z : ⊥ = omega arith in z) ∙
      ap (λ k. get_or x k 0) (let z : queue_cell R N i ≡ a + i = omega arith in z) ∙ sets_on l t a i (omega (arith, roomy.room)) h)
      (λ i p. get_or-set_other x 10 i (length l) 0 p.0 ∙ sets_off l t a i (cases p.1 (λ h. inl h) (λ h. inr (omega arith))))

-- ── the shape stays ──

module _ (g : Geometry) (T : State) (S : Shaped g T) where
  pub shaped_queued : (b : ℕ) → b < blocks g → length T.queue.list < blocks g → Shaped g (with_queued T b)
  unfolding with_queued
  shaped_queued b h few =
      let o = S.view in
      record {
        view = record {
          num = o.num;
          is_open = o.is_open;
          prev = o.prev;
          base = o.base;
          page = o.page;
          list = o.list;
          short = o.short;
          birth = λ c k. put_other T.view.birth b 0 c (λ e. let z : ⊥ = omega (arith, S.blocks) in z) ∙ o.birth c k;
        };
        slots = S.slots;
        pages = S.pages;
        blocks = S.blocks;
        mark = S.mark;
        notes = S.notes;
        few = S.few;
        queue = enqueued_shaped T.view.blocks T.queue T.view.birth (b ∷ []) S.queue o.birth (omega (arith, S.blocks));
      }

  pub shaped_ended : (l : List ℕ) → length T.waiting + length l ≤ blocks g → Shaped g (with_ended T l)
  unfolding with_ended
  shaped_ended l few =
      record {
        view = S.view;
        slots = S.slots;
        pages = S.pages;
        blocks = S.blocks;
        mark = S.mark;
        notes = S.notes;
        few = omega (arith, length-append T.waiting l, S.blocks);
        queue = record { birth = λ b k. cleared_zero T.queue.birth l b (S.queue.birth b k); few = S.queue.few };
      }

  pub shaped_queue_list : (l : List ℕ) → length l ≤ blocks g → Shaped g (with_queue_list T l)
  unfolding with_queue_list
  shaped_queue_list l most =
      record {
        view = S.view;
        slots = S.slots;
        pages = S.pages;
        blocks = S.blocks;
        mark = S.mark;
        notes = S.notes;
        few = S.few;
        queue = record { birth = S.queue.birth; few = omega (arith, S.blocks) };
      }

-- ── as steps ──

-- the n numbers from the k-th on
numbers_drop : (t : List ℕ) (a k n : ℕ) → drop k (numbers t a n) ≡ numbers t (a + k) (n - k)
unfolding numbers
numbers_drop t a zero n = ap₂ (numbers t) (let z : a ≡ a + 0 = omega arith in z) (let z : n ≡ n - 0 = omega arith in z)
numbers_drop t a (suc k) zero = ap (numbers t (a + suc k)) (let z : 0 ≡ 0 - suc k = omega arith in z)
numbers_drop t a (suc k) (suc n) =
    numbers_drop t (suc a) k n ∙ ap₂ (numbers t) (let z : suc a + k ≡ a + suc k = omega arith in z) (let z : n - k ≡ suc n - suc k = omega arith in z)

-- the queue of tables without its first n blocks
pub queue_drop : (g : Geometry) (t : List ℕ) (n : ℕ) →
    drop n (state_of g t).queue.list ≡ numbers t (queue_cell g.records (blocks g) n) (get_or t 10 0 - n)
unfolding state_of queue_of
queue_drop g t n =
    numbers_drop t (queue_cell g.records (blocks g) 0) n (get_or t 10 0) ∙ ap (λ a. numbers t a (get_or t 10 0 - n)) (omega arith)

module _ (g : Geometry) (t₀ : List ℕ) (roomy : Roomy g t₀) {T : State} {t : List ℕ} (H : Holds g t₀ T t) where
  -- what `queue_block` leaves
  pub step_queued : (b : ℕ) → b < blocks g → 0 < T.view.birth b → length T.queue.list < blocks g →
      Holds g t₀ (with_queued T b) (queued g.records (blocks g) t b)
  unfolding with_queued
  step_queued b h born few =
      let e = holds_says g t₀ roomy H in
      step g t₀ roomy H (λ U. with_queued U b) _
      (store_queued g t (holds_roomy g t₀ roomy H) (holds_made g t₀ roomy H) (holds_free g t₀ roomy H) b h
      (λ z. absurd (let w : ⊥ = omega (arith, born, ap (λ U. U.view.birth b) e) in w)) (omega (arith, few, ap (λ U. length U.queue.list) e)))
      (shaped_queued g T H.shaped b h few) refl (omega arith) (omega (arith, length-append T.queue.list (b ∷ []))) refl

  -- one block of a T
  pub step_ended : (b : ℕ) → b < blocks g → 0 < T.queue.birth b → length T.waiting < blocks g →
      Holds g t₀ (with_ended T (b ∷ [])) (waited g.records (blocks g) (set t (queue_birth_cell g.records (blocks g) b) 0) b)
  unfolding with_ended
  step_ended b h born few =
      let e = holds_says g t₀ roomy H in
      step g t₀ roomy H (λ U. with_ended U (b ∷ [])) _
      (store_ended g t (holds_roomy g t₀ roomy H) (holds_made g t₀ roomy H) (holds_free g t₀ roomy H) b h
      (omega (arith, born, ap (λ U. U.queue.birth b) e)) (omega (arith, few, ap (λ U. length U.waiting) e)))
      (shaped_ended g T H.shaped (b ∷ []) (omega arith)) refl (omega (arith, length-append T.waiting (b ∷ []))) (omega arith) refl

  -- another list of the queue: what is left of the one before stood in t₀
  pub step_queue_list : (l : List ℕ) → length l ≤ blocks g → QueueTail g t₀ T (with_queue_list T l) →
      Holds g t₀ (with_queue_list T l) (set (sets t (queue_cell g.records (blocks g) 0) l) 10 (length l))
  unfolding with_queue_list
  step_queue_list l most tail =
      step_tail g t₀ roomy H (λ U. with_queue_list U l) _
      (store_queue_list g t (holds_roomy g t₀ roomy H) (holds_made g t₀ roomy H) (holds_free g t₀ roomy H) l most)
      (shaped_queue_list g T H.shaped l most) (λ s h. tail_longer g t₀ T (with_queue_list T l) s (omega arith)) (omega arith) tail refl

  -- THE FIRST n BLOCKS LEAVE A QUEUE THAT IS AS t₀ SAID IT: the others move down
  pub step_shortened : (n : ℕ) → n ≤ get_or t 10 0 → T.queue.list ≡ (state_of g t₀).queue.list →
      Holds g t₀ (with_queue_list T (drop n T.queue.list))
      (set (sets t (queue_cell g.records (blocks g) 0) (numbers t (queue_cell g.records (blocks g) n) (get_or t 10 0 - n))) 10 (get_or t 10 0 - n))
  step_shortened n h same =
      let l : List ℕ = T.queue.list in
      let e : (state_of g t).queue.list ≡ l = ap (λ U. U.queue.list) (holds_says g t₀ roomy H) in
      let d : drop n l ≡ numbers t (queue_cell g.records (blocks g) n) (get_or t 10 0 - n) = ap (drop n) (sym e) ∙ queue_drop g t n in
      let c : length (drop n l) ≡ get_or t 10 0 - n = omega (arith, length-drop n l, ap length e, Fields.queue_length_lem g t) in
      holds_as g t₀
      (sym (ap₂ (λ (m : List ℕ) (k : ℕ). set (sets t (queue_cell g.records (blocks g) 0) m) 10 k) d c)) refl
      (step_queue_list (drop n l) (omega (arith, length-drop n l, H.shaped.queue.few, H.shaped.blocks))
      (queue_same g t₀ T (with_queue_list T (drop n l)) same))

-- ── block after block ──

-- the blocks of l are queued
abbrev pub with_all_queued : State → List ℕ → State
with_all_queued T l = with_queue (with_births T (cleared T.view.birth l)) (enqueued T.queue T.view.birth l)

pub queued_none : (T : State) → with_all_queued T [] ≡ T
unfolding with_births cleared
queued_none T =
    ap₂ (λ (l : List ℕ) (f : ℕ → ℕ). with_queue T (record { list = l; birth = f })) (append-nil T.queue.list)
    (overlaid_nil T.queue.birth T.view.birth)

-- b, then the others, of which b is none
pub queued_next : (T : State) (b : ℕ) (l : List ℕ) → (In b l → ⊥) → with_all_queued (with_queued T b) l ≡ with_all_queued T (b ∷ l)
unfolding with_queued with_births cleared
queued_next T b l out =
    let f : ℕ → ℕ = T.view.birth in
    let q : ℕ → ℕ = T.queue.birth in
    ap₂ (λ (m : List ℕ) (h : ℕ → ℕ). with_queue (with_births T (cleared f (b ∷ l))) (record { list = m; birth = h }))
    (append_assoc T.queue.list (b ∷ []) l)
    (sym (overlaid_append q f (put f b 0) (b ∷ []) l (λ c i. put_other f b 0 c (λ e. out (subst (λ k. In k l) e i)))))

-- the blocks of l leave the queue's births and wait
pub ended_none : (T : State) → with_ended T [] ≡ T
unfolding with_ended cleared
ended_none T = ap (with_waiting T) (append-nil T.waiting)

pub ended_next : (T : State) (l m : List ℕ) → with_ended (with_ended T l) m ≡ with_ended T (l ++ m)
unfolding with_ended
ended_next T l m =
    ap₂ (λ (w : List ℕ) (f : ℕ → ℕ). with_waiting (with_queue T (record { list = T.queue.list; birth = f })) w)
    (append_assoc T.waiting l m) (sym (cleared_append T.queue.birth l m))

-- the fields of that state
module _ (T : State) (l : List ℕ) where
  pub ended_list : (with_ended T l).queue.list ≡ T.queue.list
  unfolding with_ended
  ended_list = refl

  pub ended_birth : (with_ended T l).queue.birth ≡ cleared T.queue.birth l
  unfolding with_ended
  ended_birth = refl

  pub ended_waiting : (with_ended T l).waiting ≡ T.waiting ++ l
  unfolding with_ended
  ended_waiting = refl

-- the list then shortened: the first n blocks are freed
pub ended_shortened : (T : State) (n : ℕ) → with_queue_list (with_ended T (take n T.queue.list)) (drop n T.queue.list) ≡
    free_all (take n T.queue.list) (with_queue T (dequeued T.queue n))
unfolding with_ended with_queue_list
ended_shortened T n = refl

-- ── how long the tables are, and how many are queued or wait ──

module _ (R N : ℕ) (t : List ℕ) (b : ℕ) where
  pub queued_length : length (queued R N t b) ≡ length t
  unfolding queued
  queued_length =
      let n : ℕ = get_or t 10 0 in
      let x : List ℕ = set t (queue_birth_cell R N b) (get_or t (birth_cell R b) 0) in
      let y : List ℕ = set x (birth_cell R b) 0 in
      length-set (set y (queue_cell R N n) b) 10 (n + 1) ∙ length-set y (queue_cell R N n) b ∙ length-set x (birth_cell R b) 0 ∙
      length-set t (queue_birth_cell R N b) (get_or t (birth_cell R b) 0)

  pub queued_count : 10 < length t → get_or (queued R N t b) 10 0 ≡ get_or t 10 0 + 1
  unfolding queued
  queued_count h =
      let n : ℕ = get_or t 10 0 in
      let x : List ℕ = set t (queue_birth_cell R N b) (get_or t (birth_cell R b) 0) in
      let y : List ℕ = set x (birth_cell R b) 0 in
      get_or-set_same (set y (queue_cell R N n) b) 10 (n + 1) 0 (omega (
        arith,
        length-set y (queue_cell R N n) b,
        length-set x (birth_cell R b) 0,
        length-set t (queue_birth_cell R N b) (get_or t (birth_cell R b) 0),
      ))

  pub ended_length : length (waited R N (set t (queue_birth_cell R N b) 0) b) ≡ length t
  ended_length = waited_length R N (set t (queue_birth_cell R N b) 0) b ∙ length-set t (queue_birth_cell R N b) 0

  pub ended_count : 11 < length t → get_or (waited R N (set t (queue_birth_cell R N b) 0) b) 11 0 ≡ get_or t 11 0 + 1
  unfolding waited
  ended_count h =
      let x : List ℕ = set t (queue_birth_cell R N b) 0 in
      let e : get_or x 11 0 ≡ get_or t 11 0 = get_or-set_other t (queue_birth_cell R N b) 11 0 0 (λ d. let z : ⊥ = omega arith in z) in
      let n : ℕ = get_or x 11 0 in
      get_or-set_same (set x (wait_cell R N n) b) 11 (n + 1) 0 (omega (arith, length-set x (wait_cell R N n) b, length-set t (queue_birth_cell R N b) 0)) ∙
      ap (λ k. k + 1) e
