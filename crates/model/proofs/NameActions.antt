-- What each action does to names: rows and counts stay sound, and the book has the names that the store has.
use mathlib.Core.Path.{◌≡◌, refl, sym, ap, ◌∙◌, subst}
use mathlib.Core.Logic.{inl, inr}
use mathlib.Core.Bool.{Bool, true, false, cond}
use mathlib.Core.List.{List, [], ◌∷◌, map}
use Prim.Native.Nat.{ℕ, suc, pred, ◌+◌, ◌<◌}
use native.Mathlib.Omega.{arith}
use lib.Dec.{ltb}
use Rattle.geometry.specs.declared.Geometry.{Geometry}
use Rattle.model.specs.Lists.{In}
use Rattle.model.specs.View.{View}
use Rattle.model.specs.Sound.{Sound}
use Rattle.model.specs.Effects.{begin, fork, erase}
use Rattle.model.specs.Actions.{Action, do_b, do_w, do_e, do_s, do_f, do_d, Asks, done, follower, vacant, delete}
use Rattle.model.specs.NamesAgree.{NamesAgree}
use Rattle.model.specs.State.{Notes, passed_notes, fresh}
use Rattle.model.specs.Window.{steps, AsksAlong, victims, sealing, WindowTakes}
use Rattle.model.specs.Book.{NameOn, Book, empty_book, in_lines, open_line, page_set, pages_of, names_moved, rec_sealed, rec_out, recs_out, taken_out, trimmed}
use Rattle.model.proofs.DoneSound.{spare, done_sound}
use Rattle.model.proofs.Agree.{Agree}
use Rattle.model.proofs.BookFacts.{Repaged, erase_paged, write_paged, Grown, grow_grown, seal_grown, seal_shut, delete_gone, in_lines_lem, entered}
use Rattle.model.proofs.Windows.{noted}
use Rattle.model.proofs.NameSteps.{Stays, Comes, Seals, Leaves, fresh_names, agree_stays, agree_comes, agree_seals}
use Rattle.model.proofs.NameSteps.{agree_leaves, two_slots, count_others}
use Rattle.model.proofs.NameBook.{SidesAgree, sides_fresh, sides_stay, sides_come, sides_seal, sides_leave}

-- rows and counts of the notes are sound; and the book has the names ps just where the rows have them
abbrev pub NamesFit : View → Notes → Type 0
NamesFit K N = NamesAgree K N.titles N.names

abbrev pub NamesTold : View → Notes → List NameOn → Type 0
NamesTold K N ps = SidesAgree K N.titles N.names ps

-- ── what the actions do to numbers and open marks ──

paged_stays : {K L : View} {r x v : ℕ} → Repaged K L r x v → Stays K L
paged_stays P = record { num = P.num; is_open = P.is_open }

grown_comes : {K L : View} {f : ℕ} → Grown K L f f → Comes K L f
grown_comes G = record { empty = G.empty; new = omega (arith, G.num_f); num = G.num; is_open = λ s n. G.is_open s n n }

begun : (K : View) → 0 < vacant K → Comes K (done K do_b) (pred (vacant K))
unfolding begin
begun K v = grown_comes (grow_grown K (pred (vacant K)) 0 0 (spare K v).1)

forked : (K : View) (s : ℕ) → 0 < vacant K → Comes K (done K (do_f s)) (pred (vacant K))
unfolding fork
forked K s v = grown_comes (grow_grown K (pred (vacant K)) 0 (suc s) (spare K v).1)

written : (K : View) (s x b : ℕ) → Stays K (done K (do_w s x b))
written K s x b = paged_stays (write_paged K s x b)

erased : (K : View) (s x : ℕ) → Stays K (done K (do_e s x))
unfolding erase
erased K s x = paged_stays (erase_paged K s x (K.page s x) refl)

sealed : (K : View) (s : ℕ) → Asks K (do_s s) → Seals K (done K (do_s s)) s (pred (vacant K))
sealed K s (a, o, v) =
    let f : ℕ = pred (vacant K) in
    let e : K.num f ≡ 0 = (spare K v).1 in
    let G = seal_grown K s f e in
    record {
      empty = e;
      live = a;
      was_open = o;
      new = omega (arith, G.num_f);
      sealed = sym (seal_shut K s f (λ d. let z : ⊥ = omega (arith, ap K.num d) in z));
      num = G.num;
      is_open = G.is_open;
    }

deleted : (K : View) (s : ℕ) → Sound K → Asks K (do_d s) → Leaves K (done K (do_d s)) s
unfolding delete
deleted K s S (a, k) =
    let G = delete_gone K s (follower K s) S refl in
    record { live = a; gone = G.num_s; num = G.num; is_open = λ t n. G.is_open t }

-- ── an action ──

-- "D of a named record" is refused with 18: a record that goes has no name
abbrev pub Nameless : Notes → Action → Type 0
Nameless N do_b = Unit {0}
Nameless N (do_w s x b) = Unit {0}
Nameless N (do_e s x) = Unit {0}
Nameless N (do_s s) = Unit {0}
Nameless N (do_f s) = Unit {0}
Nameless N (do_d s) = N.names s ≡ 0

-- EACH ACTION KEEPS THE NAMES SOUND
pub names_kept_done : (K : View) (a : Action) (N : Notes) → Sound K → Asks K a → Nameless N a → NamesFit K N → NamesFit (done K a) (noted K N a)
names_kept_done K do_b N S q n F = agree_comes F (begun K q)
names_kept_done K (do_w s x b) N S q n F = agree_stays F (written K s x b)
names_kept_done K (do_e s x) N S q n F = agree_stays F (erased K s x)
names_kept_done K (do_s s) N S q n F = agree_seals F (sealed K s q)
names_kept_done K (do_f s) N S q n F = agree_comes F (forked K s q.2)
names_kept_done K (do_d s) N S q n F = agree_leaves F (deleted K s S q) n

-- the book's names after an action other than S
either_names : (t : Bool) (A B : Book) → A.names ≡ B.names → (cond t A B).names ≡ B.names
either_names true A B e = e
either_names false A B e = refl

-- the book has the names that it had, or, after S, those of the sealed record on the new one
abbrev pub book_named : Book → View → Action → List NameOn
book_named B K do_b = B.names
book_named B K (do_w s x b) = B.names
book_named B K (do_e s x) = B.names
book_named B K (do_s s) = names_moved B.names (K.num s) (B.last + 1)
book_named B K (do_f s) = B.names
book_named B K (do_d s) = B.names

pub entered_names : (P : ℕ) (B : Book) (K : View) (a : Action) → Agree K B → Asks K a → (entered P B K a).names ≡ book_named B K a
unfolding open_line page_set rec_sealed rec_out
entered_names P B K do_b G q = refl
entered_names P B K (do_w s x b) G q = either_names (ltb x P) (page_set B (K.num s) x (suc b)) B refl
entered_names P B K (do_e s x) G q = either_names (ltb x P) (page_set B (K.num s) x 0) B refl
entered_names P B K (do_s s) G q = rw (in_lines_lem (K.num s) B.lines (G.stored s q.0))
entered_names P B K (do_f s) G q = either_names (in_lines (K.num s) B.lines) (open_line B (K.num s) (pages_of (K.num s) B.lines)) B refl
entered_names P B K (do_d s) G q = refl

-- the new record of an S has the book's next number
new_number : (K : View) (B : Book) (s : ℕ) → Agree K B → Asks K (do_s s) → (done K (do_s s)).num (pred (vacant K)) ≡ B.last + 1
new_number K B s G (a, o, v) = (seal_grown K s (pred (vacant K)) (spare K v).1).num_f ∙ ap (λ k. k + 1) (sym G.last)

-- THE TWO SIDES AGREE AFTER EACH ACTION
pub sides_kept_done : (K : View) (a : Action) (N : Notes) (B : Book) → Sound K → Asks K a → Nameless N a → Agree K B →
    NamesTold K N B.names → NamesTold (done K a) (noted K N a) (book_named B K a)
sides_kept_done K do_b N B S q n G A = sides_come A (begun K q)
sides_kept_done K (do_w s x b) N B S q n G A = sides_stay A (written K s x b)
sides_kept_done K (do_e s x) N B S q n G A = sides_stay A (erased K s x)
sides_kept_done K (do_s s) N B S q n G A =
    subst (λ m. NamesTold (done K (do_s s)) (passed_notes N s (pred (vacant K))) (names_moved B.names (K.num s) m))
    (new_number K B s G q) (sides_seal A (sealed K s q) S.links.apart)
sides_kept_done K (do_f s) N B S q n G A = sides_come A (forked K s q.2)
sides_kept_done K (do_d s) N B S q n G A = sides_leave A (deleted K s S q) n

-- the same, as the book is told of the action
pub sides_kept_entered : (K : View) (a : Action) (N : Notes) (B : Book) (P : ℕ) → Sound K → Asks K a → Nameless N a → Agree K B →
    NamesTold K N B.names → NamesTold (done K a) (noted K N a) (entered P B K a).names
sides_kept_entered K a N B P S q n G A =
    subst (NamesTold (done K a) (noted K N a)) (sym (entered_names P B K a G q)) (sides_kept_done K a N B S q n G A)

-- ── deletes one after another ──

pub names_kept_deletes : (vs : List ℕ) (K : View) (N : Notes) → Sound K → AsksAlong K (map do_d vs) → ((v : ℕ) → In v vs → N.names v ≡ 0) →
    NamesFit K N → NamesFit (steps K (map do_d vs)) N
unfolding steps
names_kept_deletes [] K N S q z F = F
names_kept_deletes (v ∷ vs) K N S (q, qs) z F =
    names_kept_deletes vs (done K (do_d v)) N (done_sound K (do_d v) S q) qs (λ w i. z w (inr i))
    (names_kept_done K (do_d v) N S q (z v (inl refl)) F)

pub sides_kept_deletes : (vs : List ℕ) (K : View) (N : Notes) (ps : List NameOn) → Sound K → AsksAlong K (map do_d vs) →
    ((v : ℕ) → In v vs → N.names v ≡ 0) → NamesTold K N ps → NamesTold (steps K (map do_d vs)) N ps
unfolding steps
sides_kept_deletes [] K N ps S q z A = A
sides_kept_deletes (v ∷ vs) K N ps S (q, qs) z A =
    sides_kept_deletes vs (done K (do_d v)) N ps (done_sound K (do_d v) S q) qs (λ w i. z w (inr i))
    (sides_leave A (deleted K v S q) (z v (inl refl)))

-- the book keeps its names when records are taken out
out_names : (l : List ℕ) (B : Book) → (recs_out B l).names ≡ B.names
unfolding recs_out rec_out
out_names [] B = refl
out_names (m ∷ l) B = out_names l (rec_out B m)

pub trimmed_names : (B : Book) (n r : ℕ) → (trimmed B n r).names ≡ B.names
unfolding trimmed
trimmed_names B n r = out_names (taken_out B n r) B

-- ── the call S: the seal, then the deletes of the window ──

module _ (K : View) (N : Notes) (s : ℕ) (S : Sound K) (q : Asks K (do_s s)) (F : NamesFit K N) where
  -- the seal moves no count of an older record
  pub count_stays : (v : ℕ) → (done K (do_s s)).num v < (done K (do_s s)).num s → (passed_notes N s (pred (vacant K))).names v ≡ N.names v
  count_stays v l =
      let f : ℕ = pred (vacant K) in
      let L : View = done K (do_s s) in
      let T = sealed K s q in
      let same : L.num s ≡ K.num s = T.num s (two_slots F T) in
      let new : L.num f ≡ K.last + 1 = (seal_grown K s f T.empty).num_f in
      count_others F T v
      (λ d. let z : ⊥ = omega (arith, ap L.num d) in z)
      (λ d. let z : ⊥ = omega (arith, ap L.num d, (S.links.records s q.0).given) in z)

  module _ (n : ℕ) (L : View) (W : WindowTakes (done K (do_s s)) L N.names n s) where
    -- what goes has no name
    victims_nameless : (v : ℕ) → In v (victims (done K (do_s s)) N.names n s) → (passed_notes N s (pred (vacant K))).names v ≡ 0
    victims_nameless v i = count_stays v (W.not_newest v i) ∙ W.nameless v i

    pub names_kept_sealing : AsksAlong K (sealing K N.names n s) → NamesFit (steps K (sealing K N.names n s)) (passed_notes N s (pred (vacant K)))
    unfolding sealing steps
    names_kept_sealing qs =
        names_kept_deletes (victims (done K (do_s s)) N.names n s) (done K (do_s s)) (passed_notes N s (pred (vacant K)))
        (done_sound K (do_s s) S q) qs.1 victims_nameless (names_kept_done K (do_s s) N S q tt F)

-- the book with any window: what it takes out has no name
pub sides_kept_sealing : (K : View) (N : Notes) (B : Book) (n s m : ℕ) → Sound K → Asks K (do_s s) → Agree K B → (L : View) →
    WindowTakes (done K (do_s s)) L N.names n s → AsksAlong K (sealing K N.names n s) → NamesTold K N B.names →
    NamesTold (steps K (sealing K N.names n s)) (passed_notes N s (pred (vacant K))) (trimmed (rec_sealed B (K.num s)) m (K.num s)).names
unfolding sealing steps rec_sealed
sides_kept_sealing K N B n s m S q G L W qs A =
    let C : Book = rec_sealed B (K.num s) in
    let M : Notes = passed_notes N s (pred (vacant K)) in
    subst (NamesTold (steps K (sealing K N.names n s)) M) (sym (trimmed_names C m (K.num s)))
    (sides_kept_deletes (victims (done K (do_s s)) N.names n s) (done K (do_s s)) M C.names (done_sound K (do_s s) S q) qs.1
    (victims_nameless K N s S q A.rows n L W) (sides_kept_done K (do_s s) N B S q tt G A))

-- ── a fresh store ──

pub fresh_names_fit : (g : Geometry) → NamesFit (fresh g).view (fresh g).notes
unfolding fresh
fresh_names_fit g = fresh_names (fresh g).view (λ s. 0) (λ s. refl)

pub fresh_names_told : (g : Geometry) → NamesTold (fresh g).view (fresh g).notes empty_book.names
unfolding fresh empty_book
fresh_names_told g = sides_fresh (fresh g).view (λ s. 0) (λ s. refl)
