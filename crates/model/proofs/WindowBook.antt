-- The book's window and the store's take the same records.
use mathlib.Core.Path.{◌≡◌, refl, sym, ap, ap₂, ◌∙◌, subst}
use mathlib.Core.Logic.{◌⊎◌, inl, inr}
use mathlib.Core.Bool.{Bool, true, false, cond, not, ◌&&◌, ◌||◌, true≢false}
use mathlib.Core.List.{List, [], ◌∷◌, map}
use Prim.Native.Nat.{ℕ, zero, suc, pred, ◌+◌, ◌-◌, ◌≤◌, ◌<◌}
use native.Mathlib.Omega.{arith}
use lib.Dec.{eqb, ltb}
use lib.ListN.{length, take}
use borrow.Author.Tests.{eq-eqb, ne_eqb, eqb-true, lt-ltb, le-ltb}
use Rattle.model.specs.Table.{via}
use Rattle.model.specs.View.{View, base_num}
use Rattle.model.specs.Lists.{In, keep_if, but_last, trim, on_first}
use Rattle.model.specs.Sound.{Sound}
use Rattle.model.specs.Actions.{do_s, do_d, Asks, done, forked, vacant, delete}
use Rattle.model.specs.Book.{Rec, Line, NameOn, Book, in_recs, names_moved, rec_sealed, rec_out, named_in, sealed_in, sealed_with, any_rec, fork_among}
use Rattle.model.specs.Book.{may_leave, taken_out, recs_out, trimmed}
use Rattle.model.specs.Window.{steps, older, sealed_of, bare, victims, trimming, sealing, may_go}
use Rattle.model.specs.WindowBook.{out_loop}
use Rattle.answer.proofs.Cases.{cases, either, same?, pos, lt?}
use Rattle.model.proofs.TabFacts.{via_is, via_suc}
use Rattle.model.proofs.ListFacts.{of_keep, keep_ext}
use Rattle.model.proofs.DoneSound.{spare, done_sound}
use Rattle.model.proofs.Agree.{Every, Row, Agree}
use Rattle.model.proofs.BookFacts.{LineOf, HasIn, Has, in_recs_lem, of_recs, seal_grown, agree_sealed, agree_done}
use Rattle.model.proofs.WindowLine.{Chain, sealed_is, chain_live, sealed_chain, older_live, older_less}
use Rattle.model.proofs.WindowDelete.{unforked, no_fork, cut, cut_live, of_cut, prev_stays}
use Rattle.model.proofs.WindowLists.{of_take, but_last_snoc}
use Rattle.model.proofs.WindowAlong.{MayGo, head_live, head_free, head_not, others_not, tail_may}
use Rattle.model.proofs.WindowFacts.{loose, sealed_length, of_sealed, victims_are, loop_loose, victims_may, first, next_sound, next_live}
use Rattle.model.proofs.WindowFacts.{next_loose, next_length, take_none}
use Rattle.model.proofs.WindowSeal.{seal_sealed, seal_num}

-- ── lists of numbers of slots ──

module _ (f : ℕ → ℕ) where
  map_length : (l : List ℕ) → length (map f l) ≡ length l
  map_length [] = refl
  map_length (s ∷ l) = ap suc (map_length l)

  map_take : (k : ℕ) (l : List ℕ) → take k (map f l) ≡ map f (take k l)
  map_take zero l = refl
  map_take (suc k) [] = refl
  map_take (suc k) (s ∷ l) = ap {B = List ℕ} (λ m. f s ∷ m) (map_take k l)

  map_but_last : (l : List ℕ) → but_last (map f l) ≡ map f (but_last l)
  unfolding but_last
  map_but_last [] = refl
  map_but_last (s ∷ []) = refl
  map_but_last (s ∷ t ∷ l) = ap {B = List ℕ} (λ m. f s ∷ m) (map_but_last (t ∷ l))

  map_keep : (t : ℕ → Bool) (l : List ℕ) → keep_if t (map f l) ≡ map f (keep_if (λ s. t (f s)) l)
  unfolding keep_if
  map_keep t [] = refl
  map_keep t (s ∷ l) =
      cases (either (t (f s)))
      (λ y. rw y (ap {B = List ℕ} (λ m. f s ∷ m) (map_keep t l)))
      (λ n. rw n (map_keep t l))

pub map_ext : (f g : ℕ → ℕ) (l : List ℕ) → ((s : ℕ) → In s l → f s ≡ g s) → map f l ≡ map g l
map_ext f g [] h = refl
map_ext f g (s ∷ l) h = ap₂ {C = List ℕ} (λ (n : ℕ) (m : List ℕ). n ∷ m) (h s (inl refl)) (map_ext f g l (λ t i. h t (inr i)))

of_but_last : (K : View) (r s : ℕ) → In s (but_last (sealed_of K r)) → In s (older K r)
unfolding sealed_of
of_but_last K r s i = rw (but_last_snoc (older K r) r) at i

-- ── what the book finds ──

or_true : (p q : Bool) → (p || q) ≡ true → (p ≡ true) ⊎ (q ≡ true)
or_true true q e = inl refl
or_true false q e = inr e

or_right : (p q : Bool) → q ≡ true → (p || q) ≡ true
or_right true q e = refl
or_right false q e = e

and_left : (p q : Bool) → (p && q) ≡ true → p ≡ true
and_left true q e = refl
and_left false q e = e

and_right : (p q : Bool) → (p && q) ≡ true → q ≡ true
and_right true q e = e
and_right false q e = absurd (true≢false (sym e))

not_above : (n : ℕ) → not (ltb 0 n) ≡ eqb n 0
not_above n =
    cases (lt? 0 n)
    (λ h. rw (lt-ltb 0 n h, ne_eqb n 0 (λ e. let z : ⊥ = omega arith in z)))
    (λ h. rw (le-ltb 0 n h, eq-eqb n 0 (omega arith)))

-- ── who has a name ──

-- the book has a name on a record exactly where the store's count of its slot is above 0
abbrev pub NamedAlike : View → (ℕ → ℕ) → Book → Type 0
NamedAlike K names B = (s : ℕ) → 0 < K.num s → named_in B.names (K.num s) ≡ ltb 0 (names s)

-- the same of the records with a number below that of r, where r was just sealed: the seal moves no name of theirs
abbrev pub OlderNamed : View → (ℕ → ℕ) → ℕ → Book → Type 0
OlderNamed K names r B = (s : ℕ) → 0 < K.num s → K.num s < K.num r → named_in B.names (K.num s) ≡ ltb 0 (names s)

-- names that move from number r to number m: any other number has one where it had one
pub moved_others : (ps : List NameOn) (r m n : ℕ) → (n ≡ r → ⊥) → (n ≡ m → ⊥) → named_in (names_moved ps r m) n ≡ named_in ps n
unfolding named_in names_moved
moved_others [] r m n dr dm = refl
moved_others (p ∷ ps) r m n dr dm = ap₂ (λ (b c : Bool). b || c) one (moved_others ps r m n dr dm)
  where
    one : eqb (cond (eqb p.1 r) m p.1) n ≡ eqb p.1 n
    one =
        cases (same? p.1 r)
        (λ e. rw (eq-eqb p.1 r e, ne_eqb m n (λ i. dm (sym i)), ne_eqb p.1 n (λ i. dr (sym i ∙ e))))
        (λ d. rw (ne_eqb p.1 r d))

-- right after the seal of s
pub older_named : (K : View) (names : ℕ → ℕ) (B : Book) (s : ℕ) → Sound K → Asks K (do_s s) → Agree K B → NamedAlike K names B →
    OlderNamed (done K (do_s s)) names s (rec_sealed B (K.num s))
unfolding rec_sealed
older_named K names B s S a A N t h l =
    let f : ℕ = pred (vacant K) in
    let G = seal_grown K s f (spare K a.2).1 in
    let e = seal_num K s S a in
    let given = (S.links.records s a.0).given in
    let n : t ≡ f → ⊥ = λ i. let z : ⊥ = omega (arith, ap (done K (do_s s)).num i, G.num_f) in z in
    let same = G.num t n in
    let ht : 0 < K.num t = omega arith in
    ap (named_in (names_moved B.names (K.num s) (B.last + 1))) same ∙
    moved_others B.names (K.num s) (B.last + 1) (K.num t) (λ i. let z : ⊥ = omega arith in z)
    (λ i. let z : ⊥ = omega (arith, (S.links.records t ht).given, A.last) in z) ∙
    N t ht

-- ── the book and the store agree ──

-- an open record follows r in its line: r was just sealed
pub record OpenNext (K : View) (r : ℕ) : Type 0 where
  pub slot : ℕ
  pub live : 0 < K.num slot
  pub prev : K.prev slot ≡ suc r
  pub is_open : 0 < K.is_open slot

-- nothing sealed follows r in its line
abbrev Newest : View → ℕ → Type 0
Newest K r = (t : ℕ) → 0 < K.num t → K.prev t ≡ suc r → 0 < K.is_open t

module _ (K : View) (S : Sound K) where
  newest : (r : ℕ) → OpenNext K r → Newest K r
  newest r O t h e = omega (arith, O.is_open, ap K.is_open (S.links.one t O.slot r h O.live e O.prev))

  pub just_live : (r : ℕ) → OpenNext K r → 0 < K.num r
  just_live r O = (S.links.prevs O.slot r O.live O.prev).live

  just_sealed : (r : ℕ) → OpenNext K r → K.is_open r ≡ 0
  just_sealed r O = (S.links.prevs O.slot r O.live O.prev).sealed

  -- what follows the newest sealed record is open, and nothing follows that
  open_row : (b s r : ℕ) (l : List Rec) → s ≡ r → Newest K r → Row K b (suc s) l → sealed_in l ≡ []
  unfolding sealed_in
  open_row b s r [] i N p = refl
  open_row b s r (q ∷ []) i N (t, k, p) =
      rw (ne_eqb q.is_open 0 (λ e. let z : ⊥ = omega (arith, N t k.live (k.prev ∙ ap suc i), k.is_open) in z))
  open_row b s r (q ∷ c ∷ l) i N (t, k, (u, j, p)) =
      absurd (let z : ⊥ = omega (arith, N t k.live (k.prev ∙ ap suc i), (S.links.prevs u t j.live j.prev).sealed) in z)

  -- the sealed records of a row that has r
  record Upto (r a : ℕ) (qs : List Rec) : Type 0 where
    slots : List ℕ
    chain : Chain K a slots (suc r)
    same : sealed_in qs ≡ map K.num slots

  row_upto : (r b a : ℕ) (qs : List Rec) → 0 < K.num r → K.is_open r ≡ 0 → Newest K r → Row K b a qs → HasIn (K.num r) qs → Upto r a qs
  unfolding sealed_in
  row_upto r b a [] h o N p i = absurd i
  row_upto r b a (q ∷ qs) h o N (s, k, p) i =
      cases (same? q.number (K.num r))
      (λ e.
      let d : s ≡ r = S.links.apart s r k.live (sym k.number ∙ e) in
      record {
        slots = s ∷ [];
        chain = (k.live, k.prev, ap suc d);
        same = rw (eq-eqb q.is_open 0 (k.is_open ∙ ap K.is_open d ∙ o))
            (ap₂ {C = List ℕ} (λ (n : ℕ) (m : List ℕ). n ∷ m) k.number (open_row b s r qs d N p));
      })
      (λ n.
      let j : HasIn (K.num r) qs = cases i (λ e. absurd (n e)) (λ j. j) in
      let w = row_upto r b (suc s) qs h o N p j in
      record {
        slots = s ∷ w.slots;
        chain = (k.live, k.prev, w.chain);
        same = rw (eq-eqb q.is_open 0 (k.is_open ∙ shut b s qs p j))
            (ap₂ {C = List ℕ} (λ (n : ℕ) (m : List ℕ). n ∷ m) k.number w.same);
      })
    where
      -- a record that another follows is sealed
      shut : (b s : ℕ) (l : List Rec) → Row K b (suc s) l → HasIn (K.num r) l → K.is_open s ≡ 0
      shut b s [] p j = absurd j
      shut b s (c ∷ l) (t, k, p) j = (S.links.prevs t s k.live k.prev).sealed

  lines_upto : (r : ℕ) (ls : List Line) → 0 < K.num r → K.is_open r ≡ 0 → Newest K r → Every (LineOf K) ls → Has (K.num r) ls →
      (l : List ℕ) × Chain K 0 l (suc r) × (sealed_with (K.num r) ls ≡ map K.num l)
  unfolding sealed_with
  lines_upto r [] h o N e i = absurd i
  lines_upto r (l ∷ ls) h o N e i =
      cases (either (in_recs (K.num r) l.recs))
      (λ y. let w = row_upto r l.base 0 l.recs h o N e.0 (of_recs (K.num r) l.recs y) in (w.slots, w.chain, rw y w.same))
      (λ y.
      let (m, c, d) = lines_upto r ls h o N e.1
      (cases i (λ j. absurd (true≢false (sym (in_recs_lem (K.num r) l.recs j) ∙ y))) (λ j. j)) in
      (m, c, ap (λ (b : Bool). cond b (sealed_in l.recs) (sealed_with (K.num r) ls)) y ∙ d))

  -- THE BOOK'S SEALED RECORDS of the line of r are the store's
  pub book_sealed : (B : Book) (r : ℕ) → Agree K B → OpenNext K r → sealed_with (K.num r) B.lines ≡ map K.num (sealed_of K r)
  book_sealed B r A O =
      let h = just_live r O in
      let (l, c, e) = lines_upto r B.lines h (just_sealed r O) (newest r O) A.booked (A.stored r h) in
      e ∙ ap (map K.num) (sealed_is K S r l c)

  -- ── forks ──

  -- a line with a record, of base m
  fork_line : (m : ℕ) (ls : List Line) → Every (LineOf K) ls → fork_among m ls ≡ true → (s : ℕ) × (0 < K.num s) × (base_num K s ≡ m)
  unfolding fork_among any_rec
  fork_line m [] e y = absurd (true≢false (sym y))
  fork_line m (l ∷ ls) e y =
      cases (or_true (eqb l.base m && any_rec l.recs) (fork_among m ls) y)
      (λ z. first l.recs e.0 (eqb-true l.base m (and_left (eqb l.base m) (any_rec l.recs) z)) (and_right (eqb l.base m) (any_rec l.recs) z))
      (λ z. fork_line m ls e.1 z)
    where
      first : (qs : List Rec) → Row K l.base 0 qs → l.base ≡ m → any_rec qs ≡ true → (s : ℕ) × (0 < K.num s) × (base_num K s ≡ m)
      first [] p i z = absurd (true≢false (sym z))
      first (q ∷ qs) (s, k, p) i z = (s, k.live, k.base ∙ i)

  -- a record of the line
  row_base : (n b a : ℕ) (qs : List Rec) → 0 < K.num n → Row K b a qs → HasIn (K.num n) qs → (base_num K n ≡ b) × (any_rec qs ≡ true)
  unfolding any_rec
  row_base n b a [] h p i = absurd i
  row_base n b a (q ∷ qs) h (s, k, p) i =
      cases i
      (λ e. (ap (base_num K) (S.links.apart n s h (sym e ∙ k.number)) ∙ k.base, refl))
      (λ j. ((row_base n b (suc s) qs h p j).0, refl))

  line_fork : (n m : ℕ) (ls : List Line) → 0 < K.num n → base_num K n ≡ m → Every (LineOf K) ls → Has (K.num n) ls → fork_among m ls ≡ true
  unfolding fork_among
  line_fork n m [] h d e i = absurd i
  line_fork n m (l ∷ ls) h d e i =
      cases i
      (λ j.
      let w = row_base n l.base 0 l.recs h e.0 j in
      rw (eq-eqb l.base m (sym w.0 ∙ d), w.1))
      (λ j. or_right (eqb l.base m && any_rec l.recs) (fork_among m ls) (line_fork n m ls h d e.1 j))

  -- THE BOOK'S FORKS are the store's
  pub book_forks : (B : Book) (t : ℕ) → Agree K B → 0 < K.num t → not (fork_among (K.num t) B.lines) ≡ eqb (forked K t) 0
  book_forks B t A h =
      cases (either (fork_among (K.num t) B.lines))
      (λ y.
      let (s, hs, e) = fork_line (K.num t) B.lines A.booked y in
      let (m, em) = pos (K.num t) h in
      let (u, eu, nu) = via_is K.num (K.base s) m (e ∙ em) in
      let d : u ≡ t = S.links.apart u t (S.links.bases s u hs eu).live (nu ∙ sym em) in
      rw (y, ne_eqb (forked K t) 0 (λ z. no_fork K S t z s hs (eu ∙ ap suc d))))
      (λ y.
      let z : forked K t ≡ 0 = unforked K S t (λ n hn en.
      true≢false (sym (line_fork n (K.num t) B.lines hn (ap (via K.num) en ∙ via_suc K.num t) A.booked (A.stored n hn)) ∙ y)) in
      rw (y, eq-eqb (forked K t) 0 z))

  -- SO ARE ITS RECORDS WITHOUT FORK AND NAME
  pub book_bare : (names : ℕ → ℕ) (B : Book) (r t : ℕ) → Agree K B → OlderNamed K names r B → 0 < K.num t → K.num t < K.num r →
      may_leave B (K.num t) ≡ bare K names t
  unfolding may_leave bare
  book_bare names B r t A N h l = ap₂ (λ (b c : Bool). b && c) (book_forks B t A h) (ap not (N t h l) ∙ not_above (names t))

  older_bare : (names : ℕ → ℕ) (B : Book) (r t : ℕ) → Agree K B → OlderNamed K names r B → 0 < K.num r → In t (older K r) →
      may_leave B (K.num t) ≡ bare K names t
  older_bare names B r t A N h i = book_bare names B r t A N (older_live K S r h t i) (older_less K S r h t i)

  sealed_live : (r t : ℕ) → 0 < K.num r → In t (sealed_of K r) → 0 < K.num t
  sealed_live r t h i = chain_live K S (sealed_of K r) 0 (suc r) t (sealed_chain K S r h) i

  -- THE BOOK TAKES OUT the numbers of the victims
  pub book_takes : (names : ℕ → ℕ) (B : Book) (n r : ℕ) → Agree K B → OpenNext K r → OlderNamed K names r B →
      taken_out B n (K.num r) ≡ map K.num (victims K names n r)
  unfolding taken_out victims trim
  book_takes names B zero r A O N = refl
  book_takes names B (suc n) r A O N =
      let l = sealed_of K r in
      let f = K.num in
      let may : ℕ → Bool = may_leave B in
      let k : ℕ = length l - suc n in
      ap (λ (m : List ℕ). take (length m - suc n) (keep_if may (but_last m))) (book_sealed B r A O) ∙
      ap₂ (λ (i : ℕ) (m : List ℕ). take (i - suc n) (keep_if may m)) (map_length f l) (map_but_last f l) ∙
      ap (take k) (map_keep f may (but_last l) ∙
      ap (map f) (keep_ext (λ s. may (f s)) (bare K names) (but_last l) (λ s i. older_bare names B r s A N (just_live r O) (of_but_last K r s i)))) ∙
      map_take f k (keep_if (bare K names) (but_last l))

-- the deletions, in the book
agree_along : (vs : List ℕ) (K : View) (r : ℕ) (B : Book) → MayGo K r vs → Agree K B → Agree (steps K (map do_d vs)) (recs_out B (map K.num vs))
unfolding steps recs_out
agree_along [] K r B M A = A
agree_along (v ∷ ws) K r B M A =
    let hv = head_live K r v ws M in
    let fv = head_free K r v ws M in
    let G = cut K M.sound v hv fv in
    subst (λ l. Agree (steps (delete K v) (map do_d ws)) (recs_out (rec_out B (K.num v)) l))
    (map_ext (delete K v).num K.num ws (λ w i. G.num w (others_not K r v ws M w i)))
    (agree_along ws (delete K v) r (rec_out B (K.num v)) (tail_may K r v ws M) (agree_done K (do_d v) B M.sound (hv, fv) A))

-- THE BOOK AND THE STORE AGREE AFTER A WINDOW'S DELETES
pub window_agrees : (K : View) (names : ℕ → ℕ) (B : Book) (n r : ℕ) → Sound K → Agree K B → OpenNext K r → OlderNamed K names r B →
    Agree (steps K (trimming K names n r)) (trimmed B n (K.num r))
unfolding trimmed
window_agrees K names B n r S A O N =
    subst (λ l. Agree (steps K (trimming K names n r)) (recs_out B l)) (sym (book_takes K S names B n r A O N))
    (agree_along (victims K names n r) K r B (victims_may K names n r S (just_live K S r O)) A)

-- AND AFTER THE WHOLE CALL S
pub seal_agrees : (K : View) (names : ℕ → ℕ) (B : Book) (n s : ℕ) → Sound K → Asks K (do_s s) → Agree K B → NamedAlike K names B →
    Agree (steps K (sealing K names n s)) (trimmed (rec_sealed B (K.num s)) n (K.num s))
unfolding sealing steps
seal_agrees K names B n s S a A N =
    let (d, hf, ef, of) = seal_sealed K s S a in
    subst (λ m. Agree (steps (done K (do_s s)) (trimming (done K (do_s s)) names n s)) (trimmed (rec_sealed B (K.num s)) n m)) (seal_num K s S a)
    (window_agrees (done K (do_s s)) names (rec_sealed B (K.num s)) n s (done_sound K (do_s s) S a) (agree_sealed K s B S a A)
    (record { slot = pred (vacant K); live = hf; prev = ef; is_open = of }) (older_named K names B s S a A N))

-- ── the loop, on the book ──

-- the loop's candidates
pub book_loose : (K : View) (S : Sound K) (names : ℕ → ℕ) (B : Book) (r : ℕ) → Agree K B → OpenNext K r → OlderNamed K names r B →
    keep_if (λ m. not (eqb m (K.num r)) && may_leave B m) (sealed_with (K.num r) B.lines) ≡ map K.num (loose K names r)
unfolding may_go
book_loose K S names B r A O N =
    let h = just_live K S r O in
    let t : ℕ → Bool = λ m. not (eqb m (K.num r)) && may_leave B m in
    ap (keep_if t) (book_sealed K S B r A O) ∙ map_keep K.num t (sealed_of K r) ∙
    ap (map K.num) (keep_ext (λ s. t (K.num s)) (may_go K names r) (sealed_of K r) (λ s i. same_test s i h) ∙ loop_loose K names r S h)
  where
    same_test : (s : ℕ) → In s (sealed_of K r) → 0 < K.num r → (not (eqb (K.num s) (K.num r)) && may_leave B (K.num s)) ≡ (not (eqb s r) && bare K names s)
    same_test s i h =
        cases (same? s r)
        (λ e. rw (eq-eqb s r e, eq-eqb (K.num s) (K.num r) (ap K.num e)))
        (λ n.
        let d = of_sealed K r s i n in
        rw (ne_eqb s r n, ne_eqb (K.num s) (K.num r) (λ e. let z : ⊥ = omega (arith, older_less K S r h s d) in z)) (older_bare K S names B r s A N h d))

-- after a delete before r the open record still follows r
pub next_open : (K : View) (r v : ℕ) (ws : List ℕ) → MayGo K r (v ∷ ws) → OpenNext K r → OpenNext (delete K v) r
next_open K r v ws M O =
    let S = M.sound in
    let hv = head_live K r v ws M in
    let fv = head_free K r v ws M in
    let G = cut K S v hv fv in
    let less = older_less K S r M.live v (M.before v (inl refl)) in
    let fo = (S.links.prevs O.slot r O.live O.prev).older in
    let ov : O.slot ≡ v → ⊥ = λ i. let z : ⊥ = omega (arith, ap K.num i) in z in
    record {
      slot = O.slot;
      live = cut_live K S v hv fv O.slot ov O.live;
      prev = prev_stays K S v hv fv O.slot O.live
          (λ i. let z : ⊥ = omega (arith, ap K.num (let z : r ≡ v = omega (arith, O.prev) in z)) in z) ∙ O.prev;
      is_open = omega (arith, G.is_open O.slot, O.is_open);
    }

pub open_along : (vs : List ℕ) (K : View) (r : ℕ) → MayGo K r vs → OpenNext K r → OpenNext (steps K (map do_d vs)) r
unfolding steps
open_along [] K r M O = O
open_along (v ∷ ws) K r M O = open_along ws (delete K v) r (tail_may K r v ws M) (next_open K r v ws M O)

-- and of the others that may go no number changes
pub next_numbers : (K : View) (names : ℕ → ℕ) (r v : ℕ) (c : List ℕ) → Sound K → 0 < K.num r → loose K names r ≡ v ∷ c → (j : ℕ) →
    map (delete K v).num (take j c) ≡ map K.num (take j c)
next_numbers K names r v c S h e j =
    let M = first K names r v c S h e in
    let hv = head_live K r v [] M in
    let fv = head_free K r v [] M in
    let G = cut K S v hv fv in
    let sl = next_sound K names r v c S h e in
    let hl = next_live K names r v c S h e in
    map_ext (delete K v).num K.num (take j c)
    (λ w i. G.num w (of_cut K S v hv fv w (older_live (delete K v) sl r hl w
    (of_keep (bare (delete K v) names) w (older (delete K v) r) (rw (next_loose K names r v c S h e) (of_take j c w i))).0)).1)

-- and no name: a record taken out leaves the book's names
pub next_named : (K : View) (names : ℕ → ℕ) (r v : ℕ) (ws : List ℕ) (B : Book) → MayGo K r (v ∷ ws) → OlderNamed K names r B →
    OlderNamed (delete K v) names r (rec_out B (K.num v))
unfolding rec_out
next_named K names r v ws B M N s h l =
    let S = M.sound in
    let hv = head_live K r v ws M in
    let fv = head_free K r v ws M in
    let G = cut K S v hv fv in
    let (hs, n) = of_cut K S v hv fv s h in
    ap (named_in B.names) (G.num s n) ∙ N s hs (omega (arith, G.num s n, G.num r (head_not K r v ws M)))

-- a turn
out_ends : (k n r : ℕ) (B : Book) → length (sealed_with r B.lines) ≤ n → out_loop k B n r ≡ []
unfolding out_loop
out_ends zero n r B h = refl
out_ends (suc k) n r B h = rw (le-ltb n (length (sealed_with r B.lines)) h)

out_stuck : (k n r : ℕ) (B : Book) → keep_if (λ m. not (eqb m r) && may_leave B m) (sealed_with r B.lines) ≡ [] →
    out_loop k B n r ≡ []
unfolding out_loop on_first
out_stuck zero n r B e = refl
out_stuck (suc k) n r B e = cases (either (ltb n (length (sealed_with r B.lines)))) (λ y. rw (y, e)) (λ y. rw y)

out_turn : (k n r v : ℕ) (c : List ℕ) (B : Book) → n < length (sealed_with r B.lines) →
    keep_if (λ m. not (eqb m r) && may_leave B m) (sealed_with r B.lines) ≡ v ∷ c →
    out_loop (suc k) B n r ≡ v ∷ out_loop k (rec_out B v) n r
unfolding out_loop on_first
out_turn k n r v c B h e = rw (lt-ltb n (length (sealed_with r B.lines)) h, e)

outs : (names : ℕ → ℕ) (n r : ℕ) (c : List ℕ) (k : ℕ) (K : View) (B : Book) → Sound K → Agree K B →
    OpenNext K r → OlderNamed K names r B → loose K names r ≡ c → length (sealed_of K r) ≤ k →
    out_loop k B n (K.num r) ≡ map K.num (take (length (sealed_of K r) - n) c)
outs names n r c zero K B S A O N e m = absurd (let z : ⊥ = omega (arith, sealed_length K r) in z)
outs names n r [] (suc k) K B S A O N e m =
    out_stuck (suc k) n (K.num r) B (book_loose K S names B r A O N ∙ ap (map K.num) e) ∙
    ap (map K.num) (sym (take_none (length (sealed_of K r) - n)))
outs names n r (v ∷ c) (suc k) K B S A O N e m =
    let h = just_live K S r O in
    let len = ap length (book_sealed K S B r A O) ∙ map_length K.num (sealed_of K r) in
    cases (lt? n (length (sealed_of K r)))
    (λ l.
    let M = first K names r v c S h e in
    let hv = head_live K r v [] M in
    let fv = head_free K r v [] M in
    let G = cut K S v hv fv in
    let O' = next_open K r v [] M O in
    let sl = next_sound K names r v c S h e in
    let d : length (sealed_of K r) - n ≡ suc (length (sealed_of (delete K v) r) - n) = omega (arith, next_length K names r v c S h e) in
    let ih = outs names n r c k (delete K v) (rec_out B (K.num v)) sl (agree_done K (do_d v) B S (hv, fv) A) O' (next_named K names r v [] B M N)
    (next_loose K names r v c S h e) (omega (arith, next_length K names r v c S h e)) in
    out_turn k n (K.num r) (K.num v) (map K.num c) B (omega arith) (book_loose K S names B r A O N ∙ ap (map K.num) e) ∙
    ap {B = List ℕ} (λ (l : List ℕ). K.num v ∷ l)
    (ap (out_loop k (rec_out B (K.num v)) n) (sym (G.num r (head_not K r v [] M))) ∙ ih ∙
    next_numbers K names r v c S h e (length (sealed_of (delete K v) r) - n)) ∙
    ap (λ i. map K.num (take i (v ∷ c))) (sym d))
    (λ l.
    let d : length (sealed_of K r) - n ≡ 0 = omega arith in
    out_ends (suc k) n (K.num r) B (omega arith) ∙ ap (λ i. map K.num (take i (v ∷ c))) (sym d))

-- THE PAPER'S LOOP on the book takes out what `taken_out` says
pub book_loop : (K : View) (names : ℕ → ℕ) (B : Book) (k n r : ℕ) → Sound K → Agree K B → OpenNext K r → OlderNamed K names r B →
    0 < n → length (sealed_of K r) ≤ k → out_loop k B n (K.num r) ≡ taken_out B n (K.num r)
book_loop K names B k zero r S A O N p m = absurd (let z : ⊥ = omega arith in z)
book_loop K names B k (suc n) r S A O N p m =
    outs names (suc n) r (loose K names r) k K B S A O N refl m ∙ ap (map K.num) (sym (victims_are K names n r)) ∙
    sym (book_takes K S names B (suc n) r A O N)
