-- What holds of names, told of the book, wherever store and book agree.
use mathlib.Core.Path.{◌≡◌, sym, ap, ◌∙◌}
use mathlib.Core.Logic.{◌⊎◌, inl, inr, ◌↔◌}
use mathlib.Core.Bool.{true, false}
use mathlib.Core.List.{List, [], ◌∷◌}
use Prim.Native.Nat.{ℕ, suc, pred, ◌≤◌, ◌<◌}
use native.Mathlib.Omega.{arith}
use lib.Dec.{eqb, ltb}
use lib.ListN.{length, get_or}
use borrow.Author.Tests.{ne_eqb}
use Rattle.answer.specs.Reply.{accepted}
use Rattle.answer.specs.Refusal.{decide, NoneHolds}
use Rattle.answer.proofs.Cases.{cases, same?, pos}
use Rattle.answer.proofs.Decided.{decide_accepted, decide_accepts}
use Rattle.geometry.specs.declared.Geometry.{Geometry}
use Rattle.model.specs.Table.{via}
use Rattle.model.specs.View.{View}
use Rattle.model.specs.Sound.{Sound}
use Rattle.model.specs.SoundMeans.{Live}
use Rattle.model.specs.Actions.{slot_of}
use Rattle.model.specs.Names.{Titles, ValidName, row_of, owner_of, empty_row}
use Rattle.model.specs.NamesAgree.{owned}
use Rattle.model.specs.State.{State}
use Rattle.model.specs.Calls.{slot, carrier, bad_name, not_attached, unknown_name, is_named, conditions, result}
use Rattle.model.specs.Command.{Resolve}
use Rattle.model.specs.Book.{Rec, Line, Some, NameOn, Book}
use Rattle.model.specs.NameBook.{HasName, Unknown, InBook, OpenIn}
use Rattle.model.proofs.TabFacts.{via_suc}
use Rattle.model.proofs.DoneSound.{miss}
use Rattle.model.proofs.Reflect.{Says, says_eq, says_lt, says_map, says_or, ◌&◌}
use Rattle.model.proofs.Agree.{Every, Row, Agree}
use Rattle.model.proofs.Asked.{slot_named, not_zero}
use Rattle.model.proofs.NameBytes.{says_valid}
use Rattle.model.proofs.NameRows.{owned_one}
use Rattle.model.proofs.NameBook.{SidesAgree, on_record, carried_live, count_iff}
use Rattle.model.proofs.NameActions.{NamesTold}
use Rattle.model.proofs.NameFew.{known_row, row_known, unknown_iff, full_iff}

module _ {K : View} {X : Titles} {names : ℕ → ℕ} {ps : List NameOn} (A : SidesAgree K X names ps) where
  -- the number that M gives
  pub resolved : (l : List ℕ) (n : ℕ) → HasName ps l n → via K.num (owner_of X l) ≡ n
  resolved l n h = let (s, o, e) = (A.told l n).0 h in ap (via K.num) o ∙ via_suc K.num s ∙ e

  -- a name is on one record, and it is a valid one
  pub has_one : (l : List ℕ) (m n : ℕ) → HasName ps l m → HasName ps l n → m ≡ n
  has_one l m n a b = sym (resolved l m a) ∙ resolved l n b

  pub has_valid : (l : List ℕ) (n : ℕ) → HasName ps l n → ValidName l
  has_valid l n h =
      let (s, c, e) = (on_record A l n).0 h in
      rw (sym c.text) (A.rows.valid c.row s c.room c.owner)

  -- its record is in the store
  pub has_slot : (l : List ℕ) (n : ℕ) → HasName ps l n → (s : ℕ) × Live K s × (K.num s ≡ n)
  has_slot l n h = let (s, c, e) = (on_record A l n).0 h in (s, carried_live A l s c, e)

  -- "An open one has at most one" (1.10), by slots
  open_one_lem : Sound K → (s : ℕ) → Live K s → 0 < K.is_open s → (l k : List ℕ) → HasName ps l (K.num s) → HasName ps k (K.num s) → l ≡ k
  open_one_lem S s a o l k g h =
      let (t, c, e) = (on_record A l (K.num s)).0 g in
      let (u, d, f) = (on_record A k (K.num s)).0 h in
      let ts : t ≡ s = S.links.apart t s (carried_live A l t c) e in
      let us : u ≡ s = S.links.apart u s (carried_live A k u d) f in
      let few : owned X s ≤ 1 = omega (arith, A.rows.counted s a, A.rows.open_one s a o) in
      let i = owned_one X s few c.row d.row c.room d.room (c.owner ∙ ap suc ts) (d.owner ∙ ap suc us) in
      sym c.text ∙ ap X.text i ∙ d.text

-- ── the records of the book ──

module _ (K : View) where
  -- a record of the book is one of the store
  abbrev Stored : (Rec → Type 0) → Type 0
  Stored P = (s : ℕ) × (q : Rec) × (Live K s) × (q.number ≡ K.num s) × (q.is_open ≡ K.is_open s) × P q

  row_kept : (P : Rec → Type 0) (b l : ℕ) (qs : List Rec) → Row K b l qs → Some P qs → Stored P
  row_kept P b l [] w h = absurd h
  row_kept P b l (q ∷ qs) w h =
      let (s, k, rest) = w in
      cases h (λ p. (s, q, k.live, k.number, k.is_open, p)) (λ g. row_kept P b (suc s) qs rest g)

  lines_kept : (P : Rec → Type 0) (ls : List Line) → Every (λ l. Row K l.base 0 l.recs) ls → Some (λ l. Some P l.recs) ls → Stored P
  lines_kept P [] w h = absurd h
  lines_kept P (l ∷ ls) w h = cases h (row_kept P l.base 0 l.recs w.0) (lines_kept P ls w.1)

  -- what the store says of its records, the book says
  module _ (P Q : Rec → Type 0) (f : (s : ℕ) (q : Rec) → Live K s → q.number ≡ K.num s → q.is_open ≡ K.is_open s → P q → Q q) where
    row_turn : (b l : ℕ) (qs : List Rec) → Row K b l qs → Some P qs → Some Q qs
    row_turn b l [] w h = h
    row_turn b l (q ∷ qs) w h =
        let (s, k, rest) = w in
        cases h (λ p. inl (f s q k.live k.number k.is_open p)) (λ g. inr (row_turn b (suc s) qs rest g))

    lines_turn : (ls : List Line) → Every (λ l. Row K l.base 0 l.recs) ls → Some (λ l. Some P l.recs) ls → Some (λ l. Some Q l.recs) ls
    lines_turn [] w h = h
    lines_turn (l ∷ ls) w h = cases h (λ p. inl (row_turn l.base 0 l.recs w.0 p)) (λ g. inr (lines_turn ls w.1 g))

module _ (K : View) (B : Book) (S : Sound K) (G : Agree K B) where
  -- r is in the book exactly where it is in the store
  pub in_book : (r : ℕ) → InBook B r ↔ (0 < slot_of K r)
  unfolding slot_of
  in_book r = (
    λ h.
        let (s, q, a, n, o, p) = lines_kept K (λ q. q.number ≡ r) B.lines G.booked h in
        cases (same? (slot_of K r) 0)
        (λ e. absurd (miss K S K.num r e s a (sym n ∙ p)))
        (λ e. omega arith),
    λ h. let (a, d) = slot_named K S r h in let w = G.stored (pred (slot_of K r)) a in rw d at w,
  )

  -- and open there exactly where it is open in the store
  pub open_in : (r : ℕ) → 0 < slot_of K r → OpenIn B r ↔ (0 < K.is_open (pred (slot_of K r)))
  open_in r h =
      let (a, d) = slot_named K S r h in
      let t : ℕ = pred (slot_of K r) in
      let same : (s : ℕ) → Live K s → K.num s ≡ r → s ≡ t = λ s b e. S.links.apart s t b (e ∙ sym d) in (
        λ w.
            let (s, q, b, n, o, p) = lines_kept K (λ q. (q.number ≡ r) × (0 < q.is_open)) B.lines G.booked w in
            let (p0, p1) = p in
            omega (arith, o, ap K.is_open (same s b (sym n ∙ p0)), p1),
        λ o.
            lines_turn K (λ q. q.number ≡ r) (λ q. (q.number ≡ r) × (0 < q.is_open))
            (λ s q b n i p. (p, let z : 0 < q.is_open = omega (arith, i, ap K.is_open (same s b (sym n ∙ p))) in z))
            B.lines G.booked ((in_book r).1 h),
      )

-- ── the facts, of a state and a book that agree ──

module _ (T : State) (B : Book) (S : Sound T.view) (G : Agree T.view B) (A : NamesTold T.view T.notes B.names) where
  -- "A named record is not deleted": it is in the book
  pub names_stay : (l : List ℕ) (r : ℕ) → HasName B.names l r → InBook B r
  names_stay l r h = let (s, a, e) = has_slot A l r h in let w = G.stored s a in rw e at w

  -- "An open one has at most one" (1.10)
  pub names_open_one : (r : ℕ) (l k : List ℕ) → OpenIn B r → HasName B.names l r → HasName B.names k r → l ≡ k
  names_open_one r l k o g h =
      let up = (in_book T.view B S G r).0 (names_stay l r g) in
      let (a, d) = slot_named T.view S r up in
      open_one_lem A S (slot T r) a ((open_in T.view B S G r up).0 o) l k (rw (sym d) at g) (rw (sym d) at h)

  -- ── M ──

  -- "M name gives its record's number" (3.17): it is accepted and gives n exactly where the book has the name on n, for any bytes
  pub resolve_is : (l : List ℕ) (n : ℕ) →
      (NoneHolds (bad_name l ∷ unknown_name T l ∷ []) × (via T.view.num (carrier T l) ≡ n)) ↔ HasName B.names l n
  resolve_is l n = (
    λ w.
        let (none, e) = w in
        let (i, f) = pos (row_of T.notes.titles l) (not_zero (row_of T.notes.titles l) none.1.0) in
        let (m, h) = row_known A l i f in
        let d : m ≡ n = sym (resolved A l m h) ∙ e in
        rw d at h,
    λ h.
        let (i, f) = known_row A l n h in
        ((rw ((says_valid l).passes (has_valid A l n h)), (ne_eqb (row_of T.notes.titles l) 0 (λ z. let y : ⊥ = omega arith in y), tt)), resolved A l n h),
  )

  -- the same by M's reply
  pub resolve_replies : (g : Geometry) (l : List ℕ) (n : ℕ) →
      (decide (conditions g T (Resolve l)) (result g T (Resolve l)) ≡ accepted (n ∷ [])) ↔ HasName B.names l n
  resolve_replies g l n = (
    λ e.
        let (none, d) = decide_accepted (conditions g T (Resolve l)) (result g T (Resolve l)) (n ∷ []) e in
        (resolve_is l n).0 (none, ap (λ (m : List ℕ). get_or m 0 0) d),
    λ h.
        let (none, d) = (resolve_is l n).1 h in
        decide_accepts (conditions g T (Resolve l)) (result g T (Resolve l)) none ∙ ap (λ k. accepted (k ∷ [])) d,
  )

  -- ── 17 and 18, told of the book ──

  says_known : (l : List ℕ) → Says (ltb 0 (row_of T.notes.titles l)) ((n : ℕ) × HasName B.names l n)
  says_known l =
      says_map
      (λ h. let (i, e) = pos (row_of T.notes.titles l) h in row_known A l i e)
      (λ w. let (n, h) = w in let (i, e) = known_row A l n h in omega arith)
      (says_lt 0 (row_of T.notes.titles l))

  says_unknown : (l : List ℕ) → Says (unknown_name T l).1 (Unknown B.names l)
  says_unknown l = says_map (unknown_iff A l).0 (unknown_iff A l).1 (says_eq (row_of T.notes.titles l) 0)

  says_full : Says (eqb (empty_row T.notes.titles) 0) (32 ≤ length B.names)
  says_full = says_map (full_iff A).0 (full_iff A).1 (says_eq (empty_row T.notes.titles) 0)

  -- "an unknown one" (7.1)
  pub unknown_told : (l : List ℕ) → ((unknown_name T l).1 ≡ true) ↔ Unknown B.names l
  unknown_told l = ((says_unknown l).holds, (says_unknown l).passes)

  -- of a record that is there
  module _ (r : ℕ) (there : eqb (slot_of T.view r) 0 ≡ false) where
    says_open : Says (ltb 0 (T.view.is_open (slot T r))) (OpenIn B r)
    says_open =
        let i = open_in T.view B S G r (not_zero (slot_of T.view r) there) in
        says_map i.1 i.0 (says_lt 0 (T.view.is_open (slot T r)))

    says_named : Says (is_named T r).1 ((k : List ℕ) × HasName B.names k r)
    says_named =
        let (a, d) = slot_named T.view S r (not_zero (slot_of T.view r) there) in
        let i = count_iff A S (slot T r) a in
        says_map
        (λ h. let (k, g) = i.0 h in (k, rw d at g))
        (λ w. let (k, g) = w in i.1 (k, rw (sym d) at g))
        (says_lt 0 (T.notes.names (slot T r)))

    -- N's: "a name in use, …, a second on an open record or a thirty-third" (7.1)
    pub attach_told : (l : List ℕ) → ((not_attached T l r).1 ≡ true) ↔
        (((n : ℕ) × HasName B.names l n) ⊎ ((OpenIn B r × ((k : List ℕ) × HasName B.names k r)) ⊎ (32 ≤ length B.names)))
    attach_told l = let s = says_or (says_known l) (says_or (says_open & says_named) says_full) in (s.holds, s.passes)

    -- 18: "D of a named record" (7.1)
    pub named_told : ((is_named T r).1 ≡ true) ↔ ((k : List ℕ) × HasName B.names k r)
    named_told = (says_named.holds, says_named.passes)
