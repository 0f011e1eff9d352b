-- What an accepted Y or C does to the tables: what waited gets its bits, and but for two counts nothing else is changed.
use mathlib.Core.Path.{◌≡◌, sym, ap, ◌∙◌}
use mathlib.Core.Logic.{◌⊎◌, inl, inr, ◌↔◌}
use mathlib.Core.Bool.{true, false, ◌&&◌}
use mathlib.Core.List.{List, []}
use Prim.Native.Nat.{ℕ, ◌+◌, ◌-◌, ◌*◌, ◌/◌, ◌%◌, ◌^◌, ◌≤◌, ◌<◌, min}
use native.Mathlib.Omega.{arith}
use lib.Dec.{leb, ltb}
use lib.ListN.{length, get_or}
use borrow.Author.Tests.{eq-eqb, ne_eqb, eqb-true, eqb-false, lt-leb, le-leb, le-ltb}
use Rattle.answer.proofs.Cases.{cases}
use Rattle.geometry.specs.declared.Geometry.{Geometry}
use Rattle.geometry.specs.Limits.{Inside, blocks}
use Rattle.choice.specs.Words.{bit, word_of}
use Rattle.choice.proofs.Bit.{bit_high}
use Rattle.choice.proofs.Births.{word_lt, word_bit}
use Rattle.model.specs.Held.{available}
use Rattle.model.specs.Lists.{In}
use Rattle.model.specs.State.{State, with_used, synced, WaitingFits}
use Rattle.model.specs.Layout.{wait_cell, need, free_word, state_of, stored, header_number}
use Rattle.model.specs.Memory.{Memory}
use Rattle.model.specs.SoundStore.{SoundStore}
use Rattle.model.proofs.ListFacts.{in?}
use Rattle.model.proofs.Waiting.{available_is, is_available}
use Rattle.model.proofs.Keeps.{sound_fine}
use Rattle.model.proofs.LayoutFacts.{by_address, stored_header, stored_column, stored_spare, stored_page, stored_list, stored_birth, stored_queue}
use Rattle.model.proofs.LayoutFacts.{stored_queue_birth, stored_wait, stored_beyond}
use Rattle.model.proofs.StoredFacts.{row_other, stored_free}
use Rattle.model.proofs.Restored.{stored_state}
use Rattle.ledger.specs.Touched.{Released}

-- ── bits ──

-- a bit of a free word says whether its block may be given
bit_says : (T : State) (b w : ℕ) → b < T.view.blocks → w ≡ free_word T (b / 32) → (w / 2 ^ (b % 32) % 2 ≡ 1) ↔ (available T b ≡ true)
unfolding free_word bit
bit_says T b w h e =
    let n : ℕ = min 32 (T.view.blocks - 32 * (b / 32)) in
    let its : 32 * (b / 32) + b % 32 ≡ b = omega arith in
    let d : bit w (b % 32) ≡ available T b =
    ap (λ (v : ℕ). bit v (b % 32)) e ∙ word_bit (available T) (32 * (b / 32)) n (b % 32) (omega arith) ∙ ap (available T) its in
    (λ y. sym d ∙ eq-eqb (w / 2 ^ (b % 32) % 2) 1 y, λ y. eqb-true (w / 2 ^ (b % 32) % 2) 1 (d ∙ y))

-- a bit behind the last block is 0
no_bit : (T : State) (b w : ℕ) → T.view.blocks ≤ b → w ≡ free_word T (b / 32) → w / 2 ^ (b % 32) % 2 ≡ 0
unfolding free_word bit
no_bit T b w h e =
    let n : ℕ = min 32 (T.view.blocks - 32 * (b / 32)) in
    let its : ℕ = w / 2 ^ (b % 32) in
    let d : bit w (b % 32) ≡ false =
    ap (λ (v : ℕ). bit v (b % 32)) e ∙
    bit_high n (word_of (available T) (32 * (b / 32)) n) (b % 32) (word_lt (available T) (32 * (b / 32)) n) (omega arith) in
    let z : its % 2 ≡ 1 → ⊥ = eqb-false (its % 2) 1 d in
    let l : its % 2 < 2 = omega arith in
    omega arith

-- where none waits any more, what may be given is what might be and what waited
freed_again : (T : State) (n b : ℕ) → WaitingFits T → (available (synced (with_used T n)) b ≡ true) ↔ ((available T b ≡ true) ⊎ In b T.waiting)
freed_again T n b w =
    let U : State = synced (with_used T n) in (
      λ e. cases (in? b T.waiting) (λ i. inr i) (λ d. inl (is_available T b (available_is U b e).0 (available_is U b e).2 d)),
      λ o. cases o
          (λ e. is_available U b (available_is T b e).0 (available_is T b e).2 (λ i. i))
          (λ i. is_available U b (w.unborn b i) (w.unqueued b i) (λ j. j)),
    )

-- ── the tables, stored ──

-- a number of the header that is none of the two counts and no free word
header_same : (g : Geometry) (T : State) (t : List ℕ) (n i : ℕ) → (i ≡ 9 → ⊥) → (i ≡ 11 → ⊥) → (i < 64) ⊎ (128 ≤ i) →
    header_number g (synced (with_used T n)) t i ≡ header_number g T t i
unfolding header_number
header_same g T t n i nine eleven o =
    let off : (leb 64 i && ltb (i - 64) 64) ≡ false = cases o
    (λ h. rw (lt-leb 64 i h))
    (λ h. rw (le-leb 64 i (omega arith), le-ltb (i - 64) 64 (omega arith))) in
    rw (ne_eqb i 9 nine, ne_eqb i 11 eleven, off)

module _ (g : Geometry) (inside : Inside g) (M : Memory) (s : SoundStore g M.tables M.log) (room : need g ≤ length M.tables) (n : ℕ) where
  abbrev t : List ℕ
  t = M.tables

  abbrev T : State
  T = state_of g t

  abbrev U : State
  U = synced (with_used T n)

  -- what sound tables say stands in them
  said : (i : ℕ) → get_or (stored g T t) i 0 ≡ get_or t i 0
  said i = ap (λ (l : List ℕ). get_or l i 0) (stored_state g t s.made s.free room)

  -- the blocks that waited stay as they stand: they are read no more
  waited : (i : ℕ) → wait_cell g.records (blocks g) 0 ≤ i → i < need g → get_or (stored g U t) i 0 ≡ get_or t i 0
  waited i l h = stored_wait g U t room i l h ∙ row_other [] t (wait_cell g.records (blocks g) 0) i (inr (omega arith))

  others : (i : ℕ) → (i ≡ 9 → ⊥) → (i ≡ 11 → ⊥) → (i < 64) ⊎ (128 ≤ i) → get_or (stored g U t) i 0 ≡ get_or t i 0
  others =
      by_address g (λ i. (i ≡ 9 → ⊥) → (i ≡ 11 → ⊥) → (i < 64) ⊎ (128 ≤ i) → get_or (stored g U t) i 0 ≡ get_or t i 0) (record {
        header = λ i h nine eleven o.
            stored_header g U t room i h ∙ header_same g T t n i nine eleven o ∙ sym (stored_header g T t room i h) ∙ said i;
        column = λ f k hf hk a b c. stored_column g U t room f k hf hk ∙ sym (stored_column g T t room f k hf hk) ∙ said _;
        spare = λ i l h a b c. stored_spare g U t room i l h ∙ sym (stored_spare g T t room i l h) ∙ said i;
        page = λ k x hk hx a b c. stored_page g U t room k x hk hx ∙ sym (stored_page g T t room k x hk hx) ∙ said _;
        list = λ k i hk hi a b c. stored_list g U t room k i hk hi ∙ sym (stored_list g T t room k i hk hi) ∙ said _;
        birth = λ b hb x y z. stored_birth g U t room b hb ∙ sym (stored_birth g T t room b hb) ∙ said _;
        queue = λ i l h a b c. stored_queue g U t room i l h ∙ sym (stored_queue g T t room i l h) ∙ said i;
        queue_birth = λ b hb x y z. stored_queue_birth g U t room b hb ∙ sym (stored_queue_birth g T t room b hb) ∙ said _;
        wait = λ i l h a b c. waited i l h;
        beyond = λ i h a b c. stored_beyond g U t i h;
      })

  none_left : get_or (stored g U t) 11 0 ≡ 0
  unfolding header_number
  none_left = stored_header g U t room 11 (omega arith)

  its_bits : (b : ℕ) → b < blocks g →
      (get_or (stored g U t) (64 + b / 32) 0 / 2 ^ (b % 32) % 2 ≡ 1) ↔ ((get_or t (64 + b / 32) 0 / 2 ^ (b % 32) % 2 ≡ 1) ⊎ In b T.waiting)
  its_bits b h =
      let F = sound_fine g t M.log s in
      let low : b / 32 < 64 = omega (arith, inside.blocks_most) in
      let l : b < T.view.blocks = omega (arith, F.blocks) in
      let old = bit_says T b (get_or t (64 + b / 32) 0) l (s.free (b / 32) low) in
      let new = bit_says U b (get_or (stored g U t) (64 + b / 32) 0) l (stored_free g inside U t room (b / 32) low) in
      let both = freed_again T n b s.waiting in (
        λ e. cases (both.0 (new.0 e)) (λ y. inl (old.1 y)) (λ i. inr i),
        λ o. new.1 (both.1 (cases o (λ e. inl (old.0 e)) (λ i. inr i))),
      )

  none_behind : (b : ℕ) → blocks g ≤ b → b < 2048 → get_or (stored g U t) (64 + b / 32) 0 / 2 ^ (b % 32) % 2 ≡ 0
  none_behind b h k =
      no_bit U b (get_or (stored g U t) (64 + b / 32) 0) (omega (arith, (sound_fine g t M.log s).blocks)) (stored_free g inside U t room (b / 32) (omega arith))

  -- WHAT WAITED IS RELEASED
  pub released : (log out : List ℕ) → Released g M (record { tables = stored g (synced (with_used (state_of g M.tables) n)) M.tables; log = log; out = out })
  released log out = record { none = none_left; bits = its_bits; others = none_behind; rest = others }
