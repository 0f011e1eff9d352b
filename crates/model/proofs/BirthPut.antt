-- A birth and its free word are one store: the tables with another birth are the tables with two numbers replaced.
use mathlib.Core.Path.{◌≡◌, refl, sym, ap, ap₂, ◌∙◌}
use mathlib.Core.Bool.{Bool, not, cond, ◌&&◌}
use mathlib.Core.List.{List}
use Prim.Native.Nat.{ℕ, zero, suc, ◌+◌, ◌-◌, ◌*◌, ◌/◌, ◌^◌, ◌≤◌, ◌<◌, min}
use native.Mathlib.Omega.{arith}
use lib.Dec.{eqb, ltb, leb}
use lib.ListN.{length, get_or, set, length-set}
use lib.Seq.{get_or-set_same, get_or-set_other}
use borrow.Author.Tests.{leb-true}
use Rattle.geometry.specs.declared.Geometry.{Geometry}
use Rattle.geometry.specs.Limits.{Inside, blocks}
use Rattle.choice.specs.Words.{word_of}
use Rattle.model.specs.Table.{put}
use Rattle.model.specs.View.{View, with_birth}
use Rattle.model.specs.Lists.{elem}
use Rattle.model.specs.Held.{waits, available}
use Rattle.model.specs.State.{State, with_view}
use Rattle.model.specs.Layout.{free_cell, birth_cell, page_cell, list_cell, queue_birth_cell, need, free_word, header_number, column_number, page_number}
use Rattle.model.specs.Layout.{list_number, stored}
use Rattle.answer.proofs.Cases.{cases, either, same?}
use Rattle.model.proofs.TabFacts.{put_at, put_other}
use Rattle.model.proofs.DoneSound.{and_l}
use Rattle.model.proofs.StoredFacts.{free_number}
use Rattle.model.proofs.LayoutFacts.{stored_length, stored_header, stored_column, stored_spare, stored_page, stored_list, stored_birth, stored_queue}
use Rattle.model.proofs.LayoutFacts.{stored_queue_birth, stored_wait, stored_beyond, tables_ext}

-- a word says of its numbers what they are
pub word_ext : (p q : ℕ → Bool) (n i : ℕ) → ((j : ℕ) → i ≤ j → j < i + n → p j ≡ q j) → word_of p i n ≡ word_of q i n
unfolding word_of
word_ext p q zero i h = refl
word_ext p q (suc n) i h =
    ap₂ (λ v w. v + w) (word_ext p q n i (λ j l m. h j l (omega arith))) (ap (λ t. cond t (2 ^ n) 0) (h (i + n) (omega arith) (omega arith)))

-- another birth of b changes the word of b alone
pub word_off : (T : State) (b v k : ℕ) → (k ≡ b / 32 → ⊥) → free_word (with_view T (with_birth T.view (put T.view.birth b v))) k ≡ free_word T k
unfolding free_word available waits
word_off T b v k n =
    let f : ℕ → ℕ = T.view.birth in
    let rest : ℕ → Bool = λ c. eqb (T.queue.birth c) 0 && not (elem c T.waiting) in
    word_ext (λ c. eqb (put f b v c) 0 && rest c) (λ c. eqb (f c) 0 && rest c) (min 32 (T.view.blocks - 32 * k)) (32 * k)
    (λ j l m. ap (λ w. eqb w 0 && rest j) (put_other f b v j (λ e. n (let z : k ≡ b / 32 = omega arith in z))))

module _ (g : Geometry) (T : State) (t : List ℕ) (room : need g ≤ length t) (b v : ℕ) (hb : b < blocks g) (inside : Inside g) where
  abbrev K : View
  K = with_birth T.view (put T.view.birth b v)

  abbrev U : State
  U = with_view T K

  -- any other number of the header stays
  header_kept : (i : ℕ) → (i ≡ free_cell (b / 32) → ⊥) → header_number g U t i ≡ header_number g T t i
  unfolding header_number
  header_kept i n =
      cases (either (leb 64 i && ltb (i - 64) 64))
      (λ y. rw (word_off T b v (i - 64) (λ e. n (let z : i ≡ 64 + b / 32 = omega (arith, leb-true 64 i (and_l (leb 64 i) _ y)) in z))))
      (λ m. rw m)

  -- THE BIRTH OF b IS v: two numbers
  pub birth_put : stored g (with_view T (with_birth T.view (put T.view.birth b v))) t ≡
      set (set (stored g T t) (birth_cell g.records b) v) (free_cell (b / 32)) (free_word (with_view T (with_birth T.view (put T.view.birth b v))) (b / 32))
  unfolding column_number page_number list_number
  birth_put =
      let w : ℕ = free_word U (b / 32) in
      let a : ℕ = birth_cell g.records b in
      let s : List ℕ = stored g T t in
      let low : b / 32 < 64 = omega (arith, inside.blocks_most) in
      let long : length s ≡ length t = stored_length g T t in
      let long' : length (set s a v) ≡ length t = length-set s a v ∙ long in
      let off : (i : ℕ) → (i ≡ free_cell (b / 32) → ⊥) → (i ≡ a → ⊥) → get_or (set (set s a v) (free_cell (b / 32)) w) i 0 ≡ get_or s i 0 =
      λ i n m. get_or-set_other (set s a v) (free_cell (b / 32)) i w 0 n ∙ get_or-set_other s a i v 0 m in
      tables_ext g (stored g U t) (set (set s a v) (free_cell (b / 32)) w)
      (stored_length g U t ∙ sym (length-set (set s a v) (free_cell (b / 32)) w ∙ long')) (record {
        header = λ i h. cases (same? i (free_cell (b / 32)))
            (λ e. stored_header g U t room i h ∙ ap (header_number g U t) e ∙ free_number g U t (b / 32) inside.arenas_most low ∙
            sym (ap (λ k. get_or (set (set s a v) (free_cell (b / 32)) w) k 0) e ∙ get_or-set_same (set s a v) (free_cell (b / 32)) w 0 (omega arith)))
            (λ n. stored_header g U t room i h ∙ header_kept i n ∙ sym (off i n (λ e. let z : ⊥ = omega arith in z) ∙ stored_header g T t room i h));
        column = λ f i hf hi. stored_column g U t room f i hf hi ∙
            sym (off (192 + 64 * f + i) (λ e. let z : ⊥ = omega arith in z) (λ e. let z : ⊥ = omega arith in z) ∙ stored_column g T t room f i hf hi);
        spare = λ i l h. stored_spare g U t room i l h ∙
            sym (off i (λ e. let z : ⊥ = omega arith in z) (λ e. let z : ⊥ = omega arith in z) ∙ stored_spare g T t room i l h);
        page = λ r x hr hx. stored_page g U t room r x hr hx ∙
            sym (off (page_cell r x) (λ e. let z : ⊥ = omega arith in z) (λ e. let z : ⊥ = omega arith in z) ∙ stored_page g T t room r x hr hx);
        list = λ r i hr hi. stored_list g U t room r i hr hi ∙
            sym (off (list_cell g.records r i) (λ e. let z : ⊥ = omega arith in z) (λ e. let z : ⊥ = omega arith in z) ∙ stored_list g T t room r i hr hi);
        birth = λ c hc. stored_birth g U t room c hc ∙ cases (same? c b)
            (λ e. put_at T.view.birth b v c e ∙
            sym (get_or-set_other (set s a v) (free_cell (b / 32)) (birth_cell g.records c) w 0 (λ d. let z : ⊥ = omega arith in z) ∙
            ap (λ k. get_or (set s a v) (birth_cell g.records k) 0) e ∙ get_or-set_same s a v 0 (omega arith)))
            (λ n. put_other T.view.birth b v c n ∙
            sym (off (birth_cell g.records c) (λ e. let z : ⊥ = omega arith in z) (λ e. n (let z : c ≡ b = omega arith in z)) ∙ stored_birth g T t room c hc));
        queue = λ i l h. stored_queue g U t room i l h ∙
            sym (off i (λ e. let z : ⊥ = omega arith in z) (λ e. let z : ⊥ = omega arith in z) ∙ stored_queue g T t room i l h);
        queue_birth = λ c hc. stored_queue_birth g U t room c hc ∙
            sym (off (queue_birth_cell g.records (blocks g) c) (λ e. let z : ⊥ = omega arith in z) (λ e. let z : ⊥ = omega arith in z) ∙
            stored_queue_birth g T t room c hc);
        wait = λ i l h. stored_wait g U t room i l h ∙
            sym (off i (λ e. let z : ⊥ = omega arith in z) (λ e. let z : ⊥ = omega arith in z) ∙ stored_wait g T t room i l h);
        beyond = λ i h. stored_beyond g U t i h ∙
            sym (off i (λ e. let z : ⊥ = omega arith in z) (λ e. let z : ⊥ = omega arith in z) ∙ stored_beyond g T t i h);
      })
