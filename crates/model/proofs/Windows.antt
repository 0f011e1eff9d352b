-- The windows of the lines: the book's and the store's agree after every accepted call, and none that counts is above 62.
use mathlib.Core.Path.{◌≡◌, refl, sym, ap, ap₂, ◌∙◌, subst}
use mathlib.Core.Logic.{inl, inr}
use mathlib.Core.Bool.{Bool, true, false, cond, ◌||◌, true≢false}
use mathlib.Core.List.{List, [], ◌∷◌, ◌++◌, map}
use Prim.Native.Nat.{ℕ, suc, pred, ◌+◌, ◌≤◌, ◌<◌}
use native.Mathlib.Omega.{arith}
use lib.Dec.{eqb}
use borrow.Author.Tests.{eq-eqb, ne_eqb, lt-ltb}
use Rattle.model.specs.View.{View}
use Rattle.model.specs.Sound.{Sound}
use Rattle.model.specs.Effects.{begin, seal, fork, erase, write}
use Rattle.model.specs.Actions.{Action, do_b, do_w, do_e, do_s, do_f, do_d, Asks, done, follower, vacant, delete}
use Rattle.model.specs.State.{Notes, with_window, bare_notes, passed_notes, WindowsFit}
use Rattle.model.specs.Book.{Rec, Line, Book, in_recs, in_line, set_page, seal_rec, drop_rec, keep_line, drop_in, open_line, page_set, rec_sealed, rec_out}
use Rattle.model.specs.Book.{window_with, set_window, retained, taken_out, recs_out, trimmed}
use Rattle.model.specs.Window.{steps, sealing, victims, trimming}
use Rattle.answer.proofs.Cases.{cases, either, same?}
use Rattle.model.proofs.TabFacts.{put_at, put_other}
use Rattle.model.proofs.DoneSound.{spare, done_sound}
use Rattle.model.proofs.Agree.{Every, Row, Agree}
use Rattle.model.proofs.BookFacts.{LineOf, HasIn, Has, in_recs_lem, of_recs, in_lines_lem, entered, agree_done, agree_sealed}
use Rattle.model.proofs.BookFacts.{Repaged, Grown, Gone, erase_paged, write_paged, grow_grown, seal_grown, seal_shut, delete_gone}
use Rattle.model.proofs.WindowDelete.{cut}
use Rattle.model.proofs.WindowAlong.{MayGo, head_live, head_free, others_not, tail_may}
use Rattle.model.proofs.WindowFacts.{victims_may}
use Rattle.model.proofs.WindowSeal.{seal_sealed, seal_num}
use Rattle.model.proofs.WindowBook.{OpenNext, NamedAlike, older_named, just_live, book_takes, map_ext}

-- ── the window that the book has, after each of its steps ──

not_in_recs : (m : ℕ) (l : List Rec) → (HasIn m l → ⊥) → in_recs m l ≡ false
not_in_recs m l n = cases (either (in_recs m l)) (λ y. absurd (n (of_recs m l y))) (λ y. y)

-- a line more
window_left : (m : ℕ) (ls : List Line) (l : Line) → Has m ls → window_with m (ls ++ (l ∷ [])) ≡ window_with m ls
unfolding window_with
window_left m [] l h = absurd h
window_left m (c ∷ ls) l h =
    cases (either (in_recs m c.recs))
    (λ y. rw y)
    (λ n. rw n (window_left m ls l (cases h (λ i. absurd (true≢false (sym (in_recs_lem m c.recs i) ∙ n))) (λ j. j))))

window_last : (m : ℕ) (ls : List Line) (l : Line) → (Has m ls → ⊥) → in_recs m l.recs ≡ true → window_with m (ls ++ (l ∷ [])) ≡ l.window
unfolding window_with
window_last m [] l n e = rw e
window_last m (c ∷ ls) l n e = rw (not_in_recs m c.recs (λ i. n (inl i))) (window_last m ls l (λ j. n (inr j)) e)

-- the records of each line changed
window_mapped : (m k : ℕ) (f : List Rec → List Rec) (ls : List Line) → Every (λ l. in_recs m (f l.recs) ≡ in_recs k l.recs) ls →
    window_with m (map (in_line f) ls) ≡ window_with k ls
unfolding window_with in_line
window_mapped m k f [] e = refl
window_mapped m k f (l ∷ ls) e = ap₂ (λ (t : Bool) (w : ℕ). cond t l.window w) e.0 (window_mapped m k f ls e.1)

every_line : (P : Line → Type 0) (ls : List Line) → ((l : Line) → P l) → Every P ls
every_line P [] h = tt
every_line P (l ∷ ls) h = (h l, every_line P ls h)

recs_paged : (m r x v : ℕ) (qs : List Rec) → in_recs m (map (set_page r x v) qs) ≡ in_recs m qs
unfolding in_recs set_page
recs_paged m r x v [] = refl
recs_paged m r x v (q ∷ qs) =
    ap₂ (λ (n : ℕ) (t : Bool). eqb n m || t) (cases (either (eqb q.number r)) (λ y. rw y) (λ n. rw n)) (recs_paged m r x v qs)

recs_sealed : (m r n : ℕ) (qs : List Rec) → (m ≡ n → ⊥) → in_recs m (seal_rec r n qs) ≡ in_recs m qs
unfolding in_recs seal_rec
recs_sealed m r n [] d = refl
recs_sealed m r n (q ∷ qs) d =
    cases (either (eqb q.number r))
    (λ y. rw (y, ne_eqb n m (λ e. d (sym e))) (ap (λ (t : Bool). eqb q.number m || t) (recs_sealed m r n qs d)))
    (λ y. rw y (ap (λ (t : Bool). eqb q.number m || t) (recs_sealed m r n qs d)))

recs_new : (r n : ℕ) (qs : List Rec) → (HasIn n qs → ⊥) → in_recs n (seal_rec r n qs) ≡ in_recs r qs
unfolding in_recs seal_rec
recs_new r n [] d = refl
recs_new r n (q ∷ qs) d =
    cases (either (eqb q.number r))
    (λ y. rw (y, ne_eqb q.number n (λ e. d (inl e)), eq-eqb n n refl))
    (λ y. rw (y, ne_eqb q.number n (λ e. d (inl e))) (recs_new r n qs (λ i. d (inr i))))

recs_dropped : (m r : ℕ) (qs : List Rec) → (m ≡ r → ⊥) → in_recs m (drop_rec r qs) ≡ in_recs m qs
unfolding in_recs drop_rec
recs_dropped m r [] d = refl
recs_dropped m r (q ∷ qs) d =
    cases (same? q.number r)
    (λ e. rw (eq-eqb q.number r e, ne_eqb q.number m (λ i. d (sym i ∙ e))) (recs_dropped m r qs d))
    (λ n. rw (ne_eqb q.number r n) (ap (λ (t : Bool). eqb q.number m || t) (recs_dropped m r qs d)))

kept_window : (m b w : ℕ) (qs : List Rec) (ls : List Line) → window_with m (keep_line b w qs ls) ≡ cond (in_recs m qs) w (window_with m ls)
unfolding window_with keep_line in_recs
kept_window m b w [] ls = refl
kept_window m b w (q ∷ qs) ls = refl

-- a record out
window_out : (m r : ℕ) (ls : List Line) → (m ≡ r → ⊥) → window_with m (drop_in r ls) ≡ window_with m ls
unfolding window_with drop_in
window_out m r [] d = refl
window_out m r (l ∷ ls) d =
    kept_window m l.base l.window (drop_rec r l.recs) (drop_in r ls) ∙
    ap₂ (λ (t : Bool) (w : ℕ). cond t l.window w) (recs_dropped m r l.recs d) (window_out m r ls d)

-- a window set
window_set : (r n : ℕ) (ls : List Line) → Has r ls → window_with r (map (set_window r n) ls) ≡ n
unfolding window_with set_window
window_set r n [] h = absurd h
window_set r n (l ∷ ls) h =
    cases (either (in_recs r l.recs))
    (λ y. rw (y, y))
    (λ z. rw (z, z) (window_set r n ls (cases h (λ i. absurd (true≢false (sym (in_recs_lem r l.recs i) ∙ z))) (λ j. j))))

window_unset : (m r n : ℕ) (ls : List Line) → Every (λ l. HasIn m l.recs → HasIn r l.recs → ⊥) ls →
    window_with m (map (set_window r n) ls) ≡ window_with m ls
unfolding window_with set_window
window_unset m r n [] e = refl
window_unset m r n (l ∷ ls) e =
    cases (either (in_recs r l.recs))
    (λ y. rw (y, not_in_recs m l.recs (λ i. e.0 i (of_recs r l.recs y))) (window_unset m r n ls e.1))
    (λ z. rw z (ap (λ (w : ℕ). cond (in_recs m l.recs) l.window w) (window_unset m r n ls e.1)))

-- ── the store and the book ──

-- the window of each open record is that of its line in the book
abbrev pub WindowsAgree : View → Notes → Book → Type 0
WindowsAgree K N B = (s : ℕ) → 0 < K.num s → 0 < K.is_open s → window_with (K.num s) B.lines ≡ N.window s

-- what an action leaves of the notes: a new line has no window and its record no name, and S passes on the window of its line and the name
abbrev pub noted : View → Notes → Action → Notes
noted K N do_b = bare_notes N (pred (vacant K))
noted K N (do_w s x b) = N
noted K N (do_e s x) = N
noted K N (do_s s) = passed_notes N s (pred (vacant K))
noted K N (do_f s) = bare_notes N (pred (vacant K))
noted K N (do_d s) = N

-- a record of the book is one of the store
of_row : (K : View) (m b a : ℕ) (qs : List Rec) → Row K b a qs → HasIn m qs → (s : ℕ) × (0 < K.num s) × (K.num s ≡ m)
of_row K m b a [] p i = absurd i
of_row K m b a (q ∷ qs) (s, k, p) i = cases i (λ e. (s, k.live, sym k.number ∙ e)) (λ j. of_row K m b (suc s) qs p j)

of_lines : (K : View) (m : ℕ) (ls : List Line) → Every (LineOf K) ls → Has m ls → (s : ℕ) × (0 < K.num s) × (K.num s ≡ m)
of_lines K m [] e i = absurd i
of_lines K m (l ∷ ls) e i = cases i (λ j. of_row K m l.base 0 l.recs e.0 j) (λ j. of_lines K m ls e.1 j)

module _ (K : View) (S : Sound K) where
  -- a record that another follows is sealed
  followed : (m b s : ℕ) (qs : List Rec) → Row K b (suc s) qs → HasIn m qs → K.is_open s ≡ 0
  followed m b s [] p i = absurd i
  followed m b s (q ∷ qs) (t, k, p) i = (S.links.prevs t s k.live k.prev).sealed

  -- so a line has at most one open record
  one_open : (s r b a : ℕ) (qs : List Rec) → 0 < K.num s → 0 < K.num r → 0 < K.is_open s → 0 < K.is_open r → Row K b a qs →
      HasIn (K.num s) qs → HasIn (K.num r) qs → s ≡ r
  one_open s r b a [] hs hr os or p i j = absurd i
  one_open s r b a (q ∷ qs) hs hr os or (t, k, p) i j =
      cases i
      (λ e.
      let d : t ≡ s = S.links.apart t s k.live (sym k.number ∙ e) in
      cases j
      (λ f. sym d ∙ S.links.apart t r k.live (sym k.number ∙ f))
      (λ f. absurd (let z : ⊥ = omega (arith, followed (K.num r) b t qs p f, ap K.is_open d) in z)))
      (λ e. cases j
      (λ f.
      let d : t ≡ r = S.links.apart t r k.live (sym k.number ∙ f) in
      absurd (let z : ⊥ = omega (arith, followed (K.num s) b t qs p e, ap K.is_open d) in z))
      (λ f. one_open s r b (suc t) qs hs hr os or p e f))

  -- no record has the next number
  not_next : (B : Book) → Agree K B → Has (B.last + 1) B.lines → ⊥
  not_next B A i =
      let (s, h, e) = of_lines K (B.last + 1) B.lines A.booked i in
      omega (arith, (S.links.records s h).given, A.last)

  old_number : (B : Book) → Agree K B → (s : ℕ) → 0 < K.num s → K.num s ≡ B.last + 1 → ⊥
  old_number B A s h e = let z : ⊥ = omega (arith, (S.links.records s h).given, A.last) in z

  -- K
  apart_lines : (s r : ℕ) (ls : List Line) → (s ≡ r → ⊥) → 0 < K.num s →
      0 < K.num r → 0 < K.is_open s → 0 < K.is_open r → Every (LineOf K) ls →
      Every (λ l. HasIn (K.num s) l.recs → HasIn (K.num r) l.recs → ⊥) ls
  apart_lines s r [] n hs hr os or e = tt
  apart_lines s r (l ∷ ls) n hs hr os or e =
      (λ i j. n (one_open s r l.base 0 l.recs hs hr os or e.0 i j), apart_lines s r ls n hs hr os or e.1)

  pub retained_windows : (B : Book) (N : Notes) (r n : ℕ) → 0 < K.num r → 0 < K.is_open r → Agree K B → WindowsAgree K N B →
      WindowsAgree K (with_window N r n) (retained B (K.num r) n)
  unfolding retained
  retained_windows B N r n hr or A W s hs os =
      cases (same? s r)
      (λ e. ap (λ m. window_with m (map (set_window (K.num r) n) B.lines)) (ap K.num e) ∙ window_set (K.num r) n B.lines (A.stored r hr) ∙
      sym (put_at N.window r n s e))
      (λ d. window_unset (K.num s) (K.num r) n B.lines (apart_lines s r B.lines d hs hr os or A.booked) ∙ W s hs os ∙
      sym (put_other N.window r n s d))

-- a window set changes nothing else
pub retained_agrees : (K : View) (B : Book) (r n : ℕ) → Agree K B → Agree K (retained B r n)
unfolding retained set_window
retained_agrees K B r n A = record { last = A.last; booked = booked B.lines A.booked; stored = λ s h. stored (K.num s) B.lines (A.stored s h) }
  where
    booked : (ls : List Line) → Every (LineOf K) ls → Every (LineOf K) (map (set_window r n) ls)
    booked [] e = tt
    booked (l ∷ ls) e = (cases (either (in_recs r l.recs)) (λ y. rw y e.0) (λ z. rw z e.0), booked ls e.1)

    stored : (m : ℕ) (ls : List Line) → Has m ls → Has m (map (set_window r n) ls)
    stored m [] h = h
    stored m (l ∷ ls) h =
        cases h (λ i. inl (cases (either (in_recs r l.recs)) (λ y. rw y i) (λ z. rw z i))) (λ j. inr (stored m ls j))

-- ── an action ──

-- one page of one record changed
windows_paged : (K L : View) (N : Notes) (B : Book) (r x v : ℕ) → Repaged K L r x v → WindowsAgree K N B → WindowsAgree L N (page_set B (K.num r) x v)
unfolding page_set
windows_paged K L N B r x v R W s h o =
    ap (λ m. window_with m (map (in_line (map (set_page (K.num r) x v))) B.lines)) (R.num s) ∙
    window_mapped (K.num s) (K.num s) (map (set_page (K.num r) x v)) B.lines
    (every_line _ B.lines (λ l. recs_paged (K.num s) (K.num r) x v l.recs)) ∙
    W s (omega (arith, R.num s)) (omega (arith, R.is_open s))

-- a new line
windows_line : (K L : View) (f b : ℕ) (N : Notes) (B : Book) (g : ℕ → ℕ) → Sound K → Grown K L f f → Agree K B → WindowsAgree K N B →
    WindowsAgree L (bare_notes N f) (open_line B b g)
unfolding open_line in_recs
windows_line K L f b N B g S G A W s h o =
    cases (same? s f)
    (λ e.
    let d : L.num s ≡ B.last + 1 = omega (arith, ap L.num e, G.num_f, A.last) in
    ap (λ m. window_with m (B.lines ++ (new ∷ []))) d ∙
    window_last (B.last + 1) B.lines new (not_next K S B A) (rw (eq-eqb (B.last + 1) (B.last + 1) refl)) ∙
    sym (put_at N.window f 0 s e))
    (λ n.
    let hs : 0 < K.num s = omega (arith, G.num s n) in
    ap (λ m. window_with m (B.lines ++ (new ∷ []))) (G.num s n) ∙ window_left (K.num s) B.lines new (A.stored s hs) ∙
    W s hs (omega (arith, G.is_open s n n)) ∙ sym (put_other N.window f 0 s n))
  where
    new : Line
    new = record { base = b; window = 0; recs = record { number = B.last + 1; is_open = 1; page = g } ∷ [] }

-- r sealed, and an open record after it
pub windows_sealed : (K : View) (r f : ℕ) (N : Notes) (B : Book) → Sound K → 0 < K.num r →
    0 < K.is_open r → K.num f ≡ 0 → Agree K B → WindowsAgree K N B →
    WindowsAgree (seal K r f) (passed_notes N r f) (rec_sealed B (K.num r))
unfolding rec_sealed
windows_sealed K r f N B S hr or e A W s h o =
    let G = seal_grown K r f e in
    let after : List Line = map (in_line (seal_rec (K.num r) (B.last + 1))) B.lines in
    cases (same? s f)
    (λ i.
    let d : (seal K r f).num s ≡ B.last + 1 = omega (arith, ap (seal K r f).num i, G.num_f, A.last) in
    ap (λ m. window_with m after) d ∙
    window_mapped (B.last + 1) (K.num r) (seal_rec (K.num r) (B.last + 1)) B.lines (new B.lines (not_next K S B A)) ∙ W r hr or ∙
    sym (put_at N.window f (N.window r) s i))
    (λ n.
    let hs : 0 < K.num s = omega (arith, G.num s n) in
    let m : s ≡ r → ⊥ = λ i. let z : ⊥ = omega (arith, ap (seal K r f).is_open i, seal_shut K r f (λ j. n (i ∙ j))) in z in
    ap (λ k. window_with k after) (G.num s n) ∙
    window_mapped (K.num s) (K.num s) (seal_rec (K.num r) (B.last + 1)) B.lines
    (every_line _ B.lines (λ l. recs_sealed (K.num s) (K.num r) (B.last + 1) l.recs (old_number K S B A s hs))) ∙
    W s hs (omega (arith, G.is_open s n m)) ∙ sym (put_other N.window f (N.window r) s n))
  where
    new : (ls : List Line) → (Has (B.last + 1) ls → ⊥) →
        Every (λ l. in_recs (B.last + 1) (seal_rec (K.num r) (B.last + 1) l.recs) ≡ in_recs (K.num r) l.recs) ls
    new [] n = tt
    new (l ∷ ls) n = (recs_new (K.num r) (B.last + 1) l.recs (λ i. n (inl i)), new ls (λ j. n (inr j)))

-- a record out
windows_gone : (K L : View) (s : ℕ) (N : Notes) (B : Book) → Sound K → 0 < K.num s →
    Gone K L s → WindowsAgree K N B → WindowsAgree L N (rec_out B (K.num s))
unfolding rec_out
windows_gone K L s N B S hs G W t h o =
    let n : t ≡ s → ⊥ = λ i. let z : ⊥ = omega (arith, ap L.num i, G.num_s) in z in
    let ht : 0 < K.num t = omega (arith, G.num t n) in
    ap (λ m. window_with m (drop_in (K.num s) B.lines)) (G.num t n) ∙
    window_out (K.num t) (K.num s) B.lines (λ d. n (S.links.apart t s ht d)) ∙ W t ht (omega (arith, G.is_open t))

-- THE WINDOWS AGREE after an action
pub windows_done : (K : View) (a : Action) (N : Notes) (B : Book) → Sound K → Asks K a → Agree K B → WindowsAgree K N B →
    WindowsAgree (done K a) (noted K N a) (entered K.pages B K a)
unfolding begin fork erase delete
windows_done K do_b N B S q A W =
    let f : ℕ = pred (vacant K) in
    windows_line K (begin K f) f 0 N B (λ x. 0) S (grow_grown K f 0 0 (spare K q).1) A W
windows_done K (do_w s x b) N B S (a, o, hx, hb, e) A W = rw (lt-ltb x K.pages hx) (windows_paged K (write K s x b) N B s x (suc b) (write_paged K s x b) W)
windows_done K (do_e s x) N B S (a, o, hx) A W =
    rw (lt-ltb x K.pages hx) (windows_paged K (erase K s x) N B s x 0 (erase_paged K s x (K.page s x) refl) W)
windows_done K (do_s s) N B S (a, o, v) A W =
    rw (in_lines_lem (K.num s) B.lines (A.stored s a)) (windows_sealed K s (pred (vacant K)) N B S a o (spare K v).1 A W)
windows_done K (do_f s) N B S (a, o, v) A W =
    let f : ℕ = pred (vacant K) in
    rw (in_lines_lem (K.num s) B.lines (A.stored s a)) (windows_line K (fork K s f) f (K.num s) N B _ S (grow_grown K f 0 (suc s) (spare K v).1) A W)
windows_done K (do_d s) N B S (a, n) A W = windows_gone K (delete K s) s N B S a (delete_gone K s (follower K s) S refl) W

-- the window's deletes
windows_along : (vs : List ℕ) (K : View) (r : ℕ) (N : Notes) (B : Book) → MayGo K r vs → Agree K B → WindowsAgree K N B →
    WindowsAgree (steps K (map do_d vs)) N (recs_out B (map K.num vs))
unfolding steps recs_out
windows_along [] K r N B M A W = W
windows_along (v ∷ ws) K r N B M A W =
    let q : Asks K (do_d v) = (head_live K r v ws M, head_free K r v ws M) in
    let G = cut K M.sound v q.0 q.1 in
    subst (λ l. WindowsAgree (steps (delete K v) (map do_d ws)) N (recs_out (rec_out B (K.num v)) l))
    (map_ext (delete K v).num K.num ws (λ w i. G.num w (others_not K r v ws M w i)))
    (windows_along ws (delete K v) r N (rec_out B (K.num v)) (tail_may K r v ws M) (agree_done K (do_d v) B M.sound q A)
    (windows_done K (do_d v) N B M.sound q A W))

-- THE WINDOWS AGREE after the whole call S
pub seal_windows : (K : View) (N : Notes) (B : Book) (n s : ℕ) → Sound K → Asks K (do_s s) → Agree K B → WindowsAgree K N B →
    NamedAlike K N.names B →
    WindowsAgree (steps K (sealing K N.names n s)) (passed_notes N s (pred (vacant K))) (trimmed (rec_sealed B (K.num s)) n (K.num s))
unfolding sealing steps trimmed
seal_windows K N B n s S a A W alike =
    let L : View = done K (do_s s) in
    let C : Book = rec_sealed B (K.num s) in
    let (d, hf, ef, of) = seal_sealed K s S a in
    let O : OpenNext L s = record { slot = pred (vacant K); live = hf; prev = ef; is_open = of } in
    let G = done_sound K (do_s s) S a in
    let Ac = agree_sealed K s B S a A in
    let N' : Notes = passed_notes N s (pred (vacant K)) in
    subst (λ l. WindowsAgree (steps L (trimming L N.names n s)) N' (recs_out C l))
    (sym (ap (λ m. taken_out C n m) (sym (seal_num K s S a)) ∙
    book_takes L G N.names C n s Ac O (older_named K N.names B s S a A alike)))
    (windows_along (victims L N.names n s) L s N' C (victims_may L N.names n s G (just_live L G s O)) Ac
    (windows_sealed K s (pred (vacant K)) N B S a.0 a.1 (spare K a.2).1 A W))

-- ── none that counts is above 62 ──

fit_grown : (K L : View) (f o v : ℕ) (N : Notes) → (0 < K.num o → L.is_open o ≡ 0) →
    v ≤ 62 → Grown K L f o → WindowsFit K N → WindowsFit L (with_window N f v)
fit_grown K L f o v N shut k G W s h p =
    cases (same? s f)
    (λ e. omega (arith, put_at N.window f v s e))
    (λ n.
    let hs : 0 < K.num s = omega (arith, G.num s n) in
    let m : s ≡ o → ⊥ = λ i. let z : ⊥ = omega (arith, ap L.is_open i, shut (omega (arith, ap K.num i))) in z in
    omega (arith, put_other N.window f v s n, W s hs (omega (arith, G.is_open s n m))))

fit_paged : (K L : View) (r x v : ℕ) (N : Notes) → Repaged K L r x v → WindowsFit K N → WindowsFit L N
fit_paged K L r x v N R W s h o = W s (omega (arith, R.num s)) (omega (arith, R.is_open s))

-- AN ACTION KEEPS THEM SO
pub fit_done : (K : View) (a : Action) (N : Notes) → Sound K → Asks K a → WindowsFit K N → WindowsFit (done K a) (noted K N a)
unfolding begin fork erase delete
fit_done K do_b N S q W =
    let (l, e) = spare K q in
    let f : ℕ = pred (vacant K) in
    fit_grown K (begin K f) f f 0 N (λ h. absurd (let z : ⊥ = omega arith in z)) (omega arith) (grow_grown K f 0 0 e) W
fit_done K (do_w s x b) N S q W = fit_paged K (write K s x b) s x (suc b) N (write_paged K s x b) W
fit_done K (do_e s x) N S q W = fit_paged K (erase K s x) s x 0 N (erase_paged K s x (K.page s x) refl) W
fit_done K (do_s s) N S (a, o, v) W =
    let (l, e) = spare K v in
    let f : ℕ = pred (vacant K) in
    fit_grown K (seal K s f) f s (N.window s) N (λ h. sym (seal_shut K s f (λ i. let z : ⊥ = omega (arith, ap K.num i) in z))) (W s a o)
    (seal_grown K s f e) W
fit_done K (do_f s) N S (a, o, v) W =
    let (l, e) = spare K v in
    let f : ℕ = pred (vacant K) in
    fit_grown K (fork K s f) f f 0 N (λ h. absurd (let z : ⊥ = omega arith in z)) (omega arith) (grow_grown K f 0 (suc s) e) W
fit_done K (do_d s) N S (a, n) W =
    let G = delete_gone K s (follower K s) S refl in
    λ t h o. W t (omega (arith, G.num t (λ i. let z : ⊥ = omega (arith, ap (delete K s).num i, G.num_s) in z))) (omega (arith, G.is_open t))

fit_along : (vs : List ℕ) (K : View) (r : ℕ) (N : Notes) → MayGo K r vs → WindowsFit K N → WindowsFit (steps K (map do_d vs)) N
unfolding steps
fit_along [] K r N M W = W
fit_along (v ∷ ws) K r N M W =
    fit_along ws (delete K v) r N (tail_may K r v ws M) (fit_done K (do_d v) N M.sound (head_live K r v ws M, head_free K r v ws M) W)

pub seal_fit : (K : View) (N : Notes) (n s : ℕ) → Sound K → Asks K (do_s s) → WindowsFit K N →
    WindowsFit (steps K (sealing K N.names n s)) (passed_notes N s (pred (vacant K)))
unfolding sealing steps
seal_fit K N n s S a W =
    let L : View = done K (do_s s) in
    let (d, hf, ef, of) = seal_sealed K s S a in
    let O : OpenNext L s = record { slot = pred (vacant K); live = hf; prev = ef; is_open = of } in
    let G = done_sound K (do_s s) S a in
    fit_along (victims L N.names n s) L s (passed_notes N s (pred (vacant K))) (victims_may L N.names n s G (just_live L G s O))
    (fit_done K (do_s s) N S a W)
