-- A new record, store by store: its pages, the name that goes to it, then the rest of it.
use mathlib.Core.Path.{◌≡◌, refl, sym, ap, ap₂, ◌∙◌, fun_ext}
use mathlib.Core.List.{List, []}
use Prim.Native.Nat.{ℕ, zero, suc, ◌+◌, ◌*◌, ◌≤◌, ◌<◌}
use native.Mathlib.Numerals.{add-one}
use native.Mathlib.Omega.{arith}
use lib.ListN.{length, get_or, set, drop, replicate}
use lib.Seq.{paste}
use borrow.Rule.Slice.PartMut.{put_mid}
use borrow.Author.Tests.{eq-eqb, ne_eqb}
use Rattle.std.proofs.lemmas.List.{length-drop, length-replicate, get_or-drop, get_or-replicate}
use Rattle.std.proofs.lemmas.List.Edits.{paste_none, paste_more}
use Rattle.std.proofs.lemmas.Slice.{put_mid-paste}
use Rattle.std.specs.Prelude.{Option, Some, None}
use Rattle.answer.proofs.Cases.{cases, same?, pos}
use Rattle.geometry.specs.declared.Geometry.{Geometry}
use Rattle.model.specs.View.{View, page_of}
use Rattle.model.specs.Names.{Titles, moved, count_moved}
use Rattle.model.specs.NamesAgree.{owned}
use Rattle.model.specs.State.{State, Notes, with_view, with_notes, bare_notes, passed_notes}
use Rattle.model.specs.Table.{put, first_link}
use Rattle.model.specs.Effects.{grow, close, begin, seal, fork}
use Rattle.model.specs.Layout.{open_cell, base_cell, window_cell, name_cell, title_cell, page_cell, view_of, titles_of, state_of, stored}
use Rattle.model.proofs.TabFacts.{put_at, put_other, via_suc, via_zero}
use Rattle.model.proofs.LayoutFacts.{stored_length}
use Rattle.tables.specs.Ready.{Ready}
use Rattle.tables.specs.Puts.{with_last, with_num, with_open, with_prev, with_base, with_row, with_pages, with_list, with_window_at}
use Rattle.tables.specs.Puts.{with_count, with_rows}
use Rattle.tables.specs.Links.{link_of}
use Rattle.tables.specs.Titles.{row_with}
use Rattle.tables.proofs.Puts.{shaped_row}
use Rattle.tables.proofs.Fields
use Rattle.tables.proofs.Ranges
use Rattle.tables.proofs.TitleRows.{link_out, row_with_found, row_with_some, owned_zero, owned_once, moved_none}
use Rattle.tables.proofs.Steps.{Holds, holds_as, holds_first, holds_length, holds_says, step_last, step_num, step_open, step_prev, step_base}
use Rattle.tables.proofs.Steps.{step_window, step_names}
use Rattle.tables.proofs.TitleStores.{step_moved}
use Rattle.tables.proofs.Lists.{step_dropped, rest_said}
use Rattle.tables.proofs.Reading.{reads_last, reads_base, reads_window, reads_names, reads_page}
use Rattle.tables.proofs.Matches.{grow_is}
use Rattle.tables.proofs.Loops.{put_there, pages_none, pages_all, step_pages, row_ends}
use Rattle.lines.specs.Growing.{paged, opened, handed, renamed, passed, viewed}

module _ (g : Geometry) (t : List ℕ) where
  -- u is t with the pages of slot f as those behind the link l, and with the first x of them so
  abbrev pub Paged : ℕ → ℕ → List ℕ → Type 0
  Paged f l u = Holds g t (with_row (state_of g t) f (page_of (state_of g t).view l)) u

  abbrev pub Paging : ℕ → ℕ → ℕ → List ℕ → Type 0
  Paging f l x u = Holds g t (with_pages (state_of g t) f x (page_of (state_of g t).view l)) u

-- the state T with the number n, the links p and q, an empty deadlist, the window w and the count of names c in slot f
abbrev pub with_opened : State → ℕ → ℕ → ℕ → ℕ → ℕ → ℕ → State
with_opened T f n p q w c =
    with_count (with_window_at (with_list (with_base (with_prev (with_open (with_num (with_last T n) f n) f 1) f p) f q) f []) f w) f c

-- the state T where the names of slot s are now those of slot f, but for the count of f
abbrev pub with_passed : State → ℕ → ℕ → State
with_passed T s f = with_count (with_rows T (moved T.notes.titles s f)) s 0

-- its deadlist before it is dropped
linked_list : (T : State) (f n p q : ℕ) →
    (with_base (with_prev (with_open (with_num (with_last T n) f n) f 1) f p) f q).view.list f ≡ T.view.list f
unfolding with_base with_prev with_open with_num with_last
linked_list T f n p q = refl

-- two entries in either order
swapped : (c : ℕ → ℕ) (i j v w : ℕ) → (i ≡ j → ⊥) → put (put c i v) j w ≡ put (put c j w) i v
swapped c i j v w n = fun_ext (λ k.
    cases (same? k j)
    (λ e. put_at (put c i v) j w k e ∙ sym (put_other (put c j w) i v k (λ d. n (sym d ∙ e)) ∙ put_at c j w k e))
    (λ m. put_other (put c i v) j w k m ∙ cases (same? k i)
    (λ e. put_at c i v k e ∙ sym (put_at (put c j w) i v k e))
    (λ d. put_other c i v k d ∙ sym (put_other (put c j w) i v k d ∙ put_other c j w k m))))

-- the states that the code reaches are the model's
module _ (T : State) (f : ℕ) where
  -- with the view K and the notes N
  abbrev seen : View → Notes → State
  seen K N = with_notes (with_view T K) N

  begin_is : with_opened (with_row T f (page_of T.view 0)) f (T.view.last + 1) 0 0 0 0 ≡ seen (begin T.view f) (bare_notes T.notes f)
  unfolding begin first_link with_window_at with_count
  begin_is = ap (λ U. with_count (with_window_at U f 0) f 0) (grow_is T f 0 0)

  fork_is : (s : ℕ) →
      with_opened (with_row T f (page_of T.view (suc s))) f (T.view.last + 1) 0 (suc s) 0 0 ≡ seen (fork T.view s f) (bare_notes T.notes f)
  unfolding fork first_link with_window_at with_count
  fork_is s = ap (λ U. with_count (with_window_at U f 0) f 0) (grow_is T f 0 (suc s))

  seal_is : (s : ℕ) → (s ≡ f → ⊥) →
      let U = with_passed (with_open (with_row T f (page_of T.view (suc s))) s 0) s f in
      with_opened U f (T.view.last + 1) (suc s) (T.view.base s) (T.notes.window s) (T.notes.names s)
      ≡ seen (seal T.view s f) (passed_notes T.notes s f)
  unfolding with_count with_rows with_window_at with_list with_base with_prev with_open with_num with_last with_row grow close seal first_link count_moved
  seal_is s n =
      let N : Notes = T.notes in
      ap (λ (c : ℕ → ℕ). seen (seal T.view s f) (record { window = put N.window f (N.window s); names = c; titles = moved N.titles s f }))
      (swapped N.names s f 0 (N.names s) n)

-- ── names that go to another slot ──

-- the row that a link leads to
pub handed_none : (t : List ℕ) (r : Option ℕ) (f : ℕ) → r ≡ None → t ≡ handed t (link_of r) f
unfolding handed
handed_none t r f e = sym (ap (λ (k : Option ℕ). handed t (link_of k) f) e)

handed_row : (t : List ℕ) (l i f : ℕ) → l ≡ suc i → handed t l f ≡ set t (title_cell i) (suc f)
unfolding handed
handed_row t l i f e = ap (λ k. handed t k f) e

pub handed_some : (t : List ℕ) (r : Option ℕ) (i f v : ℕ) → r ≡ Some i → v ≡ suc f → set t (title_cell i) v ≡ handed t (link_of r) f
handed_some t r i f v n e = ap (set t (title_cell i)) e ∙ sym (handed_row t (link_of r) i f (ap link_of n ∙ add-one i))

-- what the code has done for a record with a name, and for one without
pub renamed_is : (t u : List ℕ) (s f row link : ℕ) → u ≡ handed t row f → row ≡ row_with (titles_of t) link → link ≡ suc s →
    set u (name_cell s) 0 ≡ renamed t s f
unfolding renamed
renamed_is t u s f row link e d l = ap (λ (k : List ℕ). set k (name_cell s) 0) (e ∙ ap (λ k. handed t k f) (d ∙ ap (row_with (titles_of t)) l))

pub passed_some : (t u : List ℕ) (s f : ℕ) → (get_or t (name_cell s) 0 ≡ 0 → ⊥) → u ≡ renamed t s f → u ≡ passed t s f
unfolding passed
passed_some t u s f n e = rw (ne_eqb (get_or t (name_cell s) 0) 0 n) e

pub passed_still : (t : List ℕ) (s f : ℕ) → get_or t (name_cell s) 0 ≡ 0 → t ≡ passed t s f
unfolding passed
passed_still t s f z = rw (eq-eqb (get_or t (name_cell s) 0) 0 z)

module _ {g : Geometry} {t : List ℕ} (R : Ready g t) where
  first : Holds g t (state_of g t) t
  first = holds_first R

  pub paged_holds : (f l : ℕ) (u : List ℕ) → f < g.records → u ≡ paged g t f l → Paged g t f l u
  unfolding paged
  paged_holds f l u h e = record { is = e; shaped = shaped_row g (state_of g t) first.shaped f _ h (row_ends g (state_of g t) first.shaped l) }

  -- ── the pages of slot f: the first x are written ──

  paging_next : (f l x v : ℕ) {u : List ℕ} → Paging g t f l x u → f < g.records → x < g.pages → v ≡ page_of (state_of g t).view l x →
      Paging g t f l (suc x) (set u (page_cell f x) v)
  paging_next f l x v H hf hx e = step_pages g t R.roomy (state_of g t) f x v _ H hf hx e

  -- vs are the pages of the record that the link l names
  module _ (f l : ℕ) (vs : List ℕ) (hf : f < g.records) (long : g.pages ≤ length vs)
      (e : (x : ℕ) → x < g.pages → get_or vs x 0 ≡ page_of (state_of g t).view l x) where
    paging : (x : ℕ) → x ≤ g.pages → Paging g t f l x (paste t (2048 + 256 * f) vs x)
    paging zero h = holds_as g t (sym (paste_none t (2048 + 256 * f) vs)) (sym (pages_none (state_of g t) f _)) first
    paging (suc x) h =
        let p : set (paste t (2048 + 256 * f) vs x) (page_cell f x) (get_or vs x 0) ≡ paste t (2048 + 256 * f) vs (suc x) =
        paste_more t (2048 + 256 * f) vs x 0 (omega (arith, R.roomy.inside.pages_most)) (omega arith) ∙ ap (paste t (2048 + 256 * f) vs) (add-one x) in
        rw p at (paging_next f l x _ (paging x (omega arith)) hf (omega arith) (e x (omega arith)))

    -- all are
    paging_all : (n : ℕ) → n ≡ g.pages → paste t (2048 + 256 * f) vs n ≡ paged g t f l
    unfolding paged
    paging_all n i =
        let d : with_pages (state_of g t) f n (page_of (state_of g t).view l) ≡ with_row (state_of g t) f (page_of (state_of g t).view l) =
        rw i (pages_all (state_of g t) f _ g first.shaped (row_ends g (state_of g t) first.shaped l)) in
        (holds_as g t refl d (paging n (omega arith))).is

  pub copied : (f s n : ℕ) → f < g.records → s < g.records → n ≡ g.pages →
      paste t (2048 + 256 * f) (drop (2048 + 256 * s) t) n ≡ paged g t f (suc s)
  copied f s n hf hs i =
      paging_all f (suc s) (drop (2048 + 256 * s) t) hf (omega (arith, length-drop {A = ℕ}, R.roomy.inside.pages_most))
      (λ x h. get_or-drop (2048 + 256 * s) t x 0 ∙ reads_page g t R.roomy first s x hs h ∙ sym (via_suc (λ r. (state_of g t).view.page r x) s)) n i

  pub cleared : (f k : ℕ) (ys : List ℕ) → f < g.records → k ≡ g.pages → ys ≡ replicate k 0 → put_mid (2048 + 256 * f) k t ys ≡ paged g t f 0
  cleared f k ys hf i e =
      put_mid-paste (2048 + 256 * f) k t ys (replicate k 0) k e refl (sym (length-replicate k 0)) ∙
      paging_all f 0 (replicate k 0) hf (omega (arith, length-replicate {A = ℕ}))
      (λ x h. get_or-replicate k x 0 0 (omega arith) ∙ sym (via_zero (λ r. (state_of g t).view.page r x))) k i

  -- ── the name ──

  -- the record in slot s is open, T is what u holds, and the notes are still those of t
  module _ (T : State) (u : List ℕ) (s f : ℕ) (H : Holds g t T u) (notes : T.notes ≡ (state_of g t).notes) (live : 0 < (view_of g t).num s)
      (is_open : 0 < (view_of g t).is_open s) where
    abbrev X : Titles
    X = T.notes.titles

    rows : X ≡ titles_of t
    rows = ap (λ (N : Notes). N.titles) notes ∙ Fields.titles_is g t

    rows_said : titles_of u ≡ X
    rows_said = sym (Fields.titles_is g u) ∙ ap (λ (U : State). U.notes.titles) (holds_says g t R.roomy H)

    out : (i : ℕ) → 32 ≤ i → X.owner i ≡ 0
    out i h = ap (λ (Y : Titles). Y.owner i) rows ∙ link_out t i h

    hs : s < g.records
    hs = Fields.num_in g t s live

    -- its count is that of its rows, and at most 1
    count : T.notes.names s ≡ owned X s
    count = ap (λ (N : Notes). N.names s) notes ∙ (Ranges.names R).counted s live ∙ ap (λ (Y : Titles). owned Y s) (sym rows)

    most : T.notes.names s ≤ 1
    most = omega (arith, ap (λ (N : Notes). N.names s) notes, (Ranges.names R).open_one s live is_open)

    -- it has none
    passed_none : T.notes.names s ≡ 0 → T ≡ with_passed T s f
    unfolding with_count with_rows
    passed_none z =
        ap₂ (λ (c : ℕ → ℕ) (Y : Titles). with_notes T (record { window = T.notes.window; names = c; titles = Y }))
        (sym (put_there T.notes.names s 0 (sym z)))
        (moved_none X s f (owned_zero X s out (sym count ∙ z)))

    -- it has one, in row i
    passed_one : (i : ℕ) → row_with (titles_of u) (suc s) ≡ suc i → Holds g t (with_passed T s f) (renamed u s f)
    unfolding renamed
    passed_one i e =
        let d : row_with X (suc s) ≡ suc i = ap (λ (Y : Titles). row_with Y (suc s)) (sym rows_said) ∙ e in
        let w = row_with_found X (suc s) i d in
        holds_as g t (ap (λ (k : List ℕ). set k (name_cell s) 0) (handed_row u _ i f e)) refl
        (step_names g t R.roomy
        (step_moved g t R.roomy H rows i w.0 s f w.1 (owned_once X s out (omega (arith, count, most)) i w.1)) s 0 hs)

    -- THE NAME OF SLOT s GOES TO SLOT f, if it has one
    pub passed_holds : Holds g t (with_passed T s f) (passed u s f)
    unfolding passed
    passed_holds =
        let e : get_or u (name_cell s) 0 ≡ T.notes.names s = reads_names g t R.roomy H s hs in
        cases (same? (get_or u (name_cell s) 0) 0)
        (λ z. rw (eq-eqb (get_or u (name_cell s) 0) 0 z) (holds_as g t refl (passed_none (sym e ∙ z)) H))
        (λ n.
        let some : 0 < row_with X (suc s) = row_with_some X s out (omega (arith, e, count)) in
        let (i, d) = pos (row_with (titles_of u) (suc s)) (omega (arith, some, ap (λ (Y : Titles). row_with Y (suc s)) rows_said)) in
        rw (ne_eqb (get_or u (name_cell s) 0) 0 n) (passed_one i d))

  -- ── the rest ──

  pub opened_holds : (T : State) (u : List ℕ) (f p q w c : ℕ) → Holds g t T u → f < g.records → T.view.list f ≡ (state_of g t).view.list f →
      Holds g t (with_opened T f (get_or u 6 0 + 1) p q w c) (opened u f p q w c)
  unfolding opened
  opened_holds T u f p q w c H h e =
      let n : ℕ = get_or u 6 0 + 1 in
      let r = R.roomy in
      let linked = step_base g t r (step_prev g t r (step_open g t r (step_num g t r (step_last g t r H n) f n h) f 1 h) f p h) f q h in
      step_names g t r (step_window g t r (step_dropped g t r linked f h (rest_said g t _ f h (linked_list T f n p q ∙ e) 0)) f w h) f c h

pub viewed_length : (g : Geometry) (t u : List ℕ) (K : View) (N : Notes) → u ≡ viewed g t K N → length u ≡ length t
unfolding viewed
viewed_length g t u K N e = ap length e ∙ stored_length g _ t

-- ── the three calls: p are the tables with the new pages ──

module _ {g : Geometry} {t : List ℕ} (R : Ready g t) (f : ℕ) (p : List ℕ) (hf : f < g.records) where
  abbrev T : State
  T = state_of g t

  -- the last number is still there
  pub paged_last : (l : ℕ) → p ≡ paged g t f l → get_or p 6 0 ≡ get_or t 6 0
  unfolding with_row state_of view_of
  paged_last l e = reads_last g t R.roomy (paged_holds R f l p hf e)

  -- and so is the deadlist
  paged_list : (l : ℕ) → (with_row T f (page_of T.view l)).view.list f ≡ T.view.list f
  unfolding with_row
  paged_list l = refl

  last_at : get_or t 6 0 ≡ T.view.last
  unfolding state_of view_of
  last_at = refl

  pub begun : (u : List ℕ) → p ≡ paged g t f 0 → u ≡ opened p f 0 0 0 0 → u ≡ viewed g t (begin T.view f) (bare_notes T.notes f)
  unfolding viewed
  begun u e d =
      let n : get_or p 6 0 ≡ T.view.last = paged_last 0 e ∙ last_at in
      d ∙ (opened_holds R _ p f 0 0 0 0 (paged_holds R f 0 p hf e) hf (paged_list 0)).is ∙ ap (λ U. stored g U t) (rw n (begin_is T f))

  pub forked : (s l : ℕ) (u : List ℕ) → p ≡ paged g t f (suc s) → u ≡ opened p f 0 l 0 0 → l ≡ suc s →
      u ≡ viewed g t (fork T.view s f) (bare_notes T.notes f)
  unfolding viewed
  forked s l u e d i =
      let n : get_or p 6 0 ≡ T.view.last = paged_last (suc s) e ∙ last_at in
      d ∙ (opened_holds R _ p f 0 l 0 0 (paged_holds R f (suc s) p hf e) hf (paged_list (suc s))).is ∙ ap (λ U. stored g U t) (rw (n, i) (fork_is T f s))

  -- S: v are the tables with w as the mark of s, which is 0 for sealed, and x those where its name has gone to f
  module _ (s w : ℕ) (v : List ℕ) (hs : s < g.records) (e : p ≡ paged g t f (suc s)) (a : v ≡ set p (open_cell s) w) where
    abbrev C : State
    C = with_open (with_row T f (page_of T.view (suc s))) s w

    closed : Holds g t C v
    closed = holds_as g t a refl (step_open g t R.roomy (paged_holds R f (suc s) p hf e) s w hs)

    closed_base : get_or v (base_cell s) 0 ≡ T.view.base s
    unfolding with_open with_row
    closed_base = reads_base g t R.roomy closed s hs

    closed_window : get_or v (window_cell s) 0 ≡ T.notes.window s
    unfolding with_open with_row
    closed_window = reads_window g t R.roomy closed s hs

    closed_names : get_or v (name_cell s) 0 ≡ T.notes.names s
    unfolding with_open with_row
    closed_names = reads_names g t R.roomy closed s hs

    closed_notes : C.notes ≡ T.notes
    unfolding with_open with_row
    closed_notes = refl

    module _ (live : 0 < (view_of g t).num s) (is_open : 0 < (view_of g t).is_open s) (x : List ℕ) (b : x ≡ passed v s f) where
      gone : Holds g t (with_passed C s f) x
      gone = holds_as g t b refl (passed_holds R C v s f closed closed_notes live is_open)

      pub gone_last : get_or x 6 0 ≡ get_or t 6 0
      unfolding with_count with_rows with_open with_row state_of view_of
      gone_last = reads_last g t R.roomy gone

      pub gone_length : length x ≡ length t
      gone_length = holds_length g t R.roomy gone

      gone_list : (with_passed C s f).view.list f ≡ T.view.list f
      unfolding with_count with_rows with_open with_row
      gone_list = refl

      pub sealed : (l c : ℕ) (u : List ℕ) → u ≡ opened x f l (get_or v (base_cell s) 0) (get_or v (window_cell s) 0) c →
          c ≡ get_or v (name_cell s) 0 → l ≡ suc s →
          w ≡ 0 → (s ≡ f → ⊥) → u ≡ viewed g t (seal T.view s f) (passed_notes T.notes s f)
      unfolding viewed
      sealed l c u d k i z o =
          let n : get_or x 6 0 ≡ T.view.last = gone_last ∙ last_at in
          d ∙ (opened_holds R _ x f l _ _ c gone hf gone_list).is ∙
          ap (λ U. stored g U t) (rw (n, i, z, k, closed_base, closed_window, closed_names) (seal_is T f s o))
