-- EVERY SOUND VIEW HAS A BOOK: a line for each record that none stands before, with the records that follow it; and the names of the rows in use.
use mathlib.Core.Path.{◌≡◌, refl, sym, ap, ◌∙◌, subst}
use mathlib.Core.Logic.{◌⊎◌, inl, inr}
use mathlib.Core.Bool.{Bool, true, cond, ◌&&◌, true≢false}
use mathlib.Core.List.{List, [], ◌∷◌, ◌++◌}
use Prim.Native.Nat.{ℕ, zero, suc, ◌+◌, ◌≤◌, ◌<◌}
use native.Mathlib.Omega.{arith}
use lib.Dec.{eqb, ltb}
use borrow.Author.Tests.{eq-eqb, eqb-true, lt-ltb, ltb-true}
use Rattle.answer.proofs.Cases.{cases, either, same?}
use Rattle.model.specs.Table.{via}
use Rattle.model.specs.Lists.{In, Once}
use Rattle.model.specs.View.{View, base_num}
use Rattle.model.specs.Sound.{Sound}
use Rattle.model.specs.State.{Notes}
use Rattle.model.specs.Actions.{follower}
use Rattle.model.specs.Book.{Rec, Line, Book, Some, in_recs, window_with}
use Rattle.model.proofs.Agree.{Every, Row, Agree}
use Rattle.model.proofs.BookFacts.{in_recs_lem, of_recs}
use Rattle.model.proofs.Windows.{WindowsAgree}
use Rattle.model.proofs.NameActions.{NamesFit, NamesTold}
use Rattle.model.proofs.ListFacts.{of_append, pw_append}
use Rattle.model.proofs.DoneSound.{and_l, and_r, hit, miss}
use Rattle.ledger.proofs.Numbers.{numbers_of, numbers_in, Full}
use Rattle.ledger.proofs.RowNames.{row_names, rows_agree}

-- the record in slot s
abbrev rec_at : View → ℕ → Rec
rec_at K s = record { number = K.num s; is_open = K.is_open s; page = K.page s }

-- the records of a line, from the one that the link names on, f of them at most
unfoldable chain : View → ℕ → ℕ → List Rec
chain K zero l = []
chain K (suc f) zero = []
chain K (suc f) (suc s) = rec_at K s ∷ chain K f (follower K s)

-- the window of that line: the one of its open record
unfoldable window_from : View → Notes → ℕ → ℕ → ℕ
window_from K N zero l = 0
window_from K N (suc f) zero = 0
window_from K N (suc f) (suc s) = cond (ltb 0 (K.is_open s)) (N.window s) (window_from K N f (follower K s))

-- the line whose first record is in slot s
abbrev line_at : View → Notes → ℕ → Line
line_at K N s = record { base = base_num K s; window = window_from K N (suc K.last) (suc s); recs = chain K (suc K.last) (suc s) }

abbrev is_first : View → ℕ → Bool
is_first K s = ltb 0 (K.num s) && eqb (K.prev s) 0

-- the lines whose first records are in the n slots from s on
unfoldable lines_from : View → Notes → ℕ → ℕ → List Line
lines_from K N s zero = []
lines_from K N s (suc n) = cond (is_first K s) (line_at K N s ∷ lines_from K N (suc s) n) (lines_from K N (suc s) n)

unfoldable pub book_of : View → Notes → Book
unfolding lines_from chain window_from
book_of K N = record { last = K.last; lines = lines_from K N 0 K.slots; names = row_names K N.titles 32 }

-- t is h, or comes after it in its line
data From (K : View) (h : ℕ) : ℕ → Type 0 where
  here : From K h h
  next : (p : ℕ) {t : ℕ} → K.prev t ≡ suc p → From K h p → From K h t

module _ (K : View) (N : Notes) (S : Sound K) where
  -- the slot that a follower's link names
  follows : (s n : ℕ) → follower K s ≡ suc n → (0 < K.num n) × (K.prev n ≡ suc s)
  unfolding follower
  follows s n e = hit K S K.prev (suc s) n e

  none_follows : (s t : ℕ) → follower K s ≡ 0 → 0 < K.num t → K.prev t ≡ suc s → ⊥
  unfolding follower
  none_follows s t e = miss K S K.prev (suc s) e t

  newer : (s n : ℕ) → 0 < K.num n → K.prev n ≡ suc s → K.num s < K.num n
  newer s n h e = (S.links.prevs n s h e).older

  same_base_lem : (s n : ℕ) → 0 < K.num n → K.prev n ≡ suc s → base_num K n ≡ base_num K s
  same_base_lem s n h e = ap (via K.num) (sym (S.links.prevs n s h e).base)

  used : (s : ℕ) → 0 < K.num s → K.num s ≤ K.last
  used s h = (S.links.records s h).given

  no_link : (f : ℕ) → chain K f 0 ≡ []
  unfolding chain
  no_link zero = refl
  no_link (suc f) = refl

  -- ── a line's records stand as the book wants them ──

  row : (f s b l : ℕ) → 0 < K.num s → K.prev s ≡ l → base_num K s ≡ b → Row K b l (chain K f (suc s))
  unfolding chain
  row zero s b l h e d = tt
  row (suc f) s b l h e d = (
    s,
    record { live = h; number = refl; is_open = refl; page = λ x. refl; prev = e; base = d },
    go (follower K s) refl (λ n hn pn. row f n b (suc s) hn pn (same_base_lem s n hn pn ∙ d)),
  )
    where
      go : (l : ℕ) → follower K s ≡ l → ((n : ℕ) → 0 < K.num n → K.prev n ≡ suc s → Row K b (suc s) (chain K f (suc n))) → Row K b (suc s) (chain K f l)
      go zero i rest = subst (Row K b (suc s)) (sym (no_link f)) tt
      go (suc n) i rest = let (hn, pn) = follows s n i in rest n hn pn

  rows : (n s : ℕ) → Every (λ l. Row K l.base 0 l.recs) (lines_from K N s n)
  unfolding lines_from
  rows zero s = tt
  rows (suc n) s =
      cases (either (is_first K s))
      (λ y. rw y (
        row (suc K.last) s (base_num K s) 0 (ltb-true 0 (K.num s) (and_l (ltb 0 (K.num s)) (eqb (K.prev s) 0) y))
            (eqb-true (K.prev s) 0 (and_r (ltb 0 (K.num s)) (eqb (K.prev s) 0) y)) refl,
        rows n (suc s),
      ))
      (λ z. rw z (rows n (suc s)))

  full : (n s : ℕ) → Full (lines_from K N s n)
  unfolding lines_from chain
  full zero s = tt
  full (suc n) s = cases (either (is_first K s)) (λ y. rw y (omega arith, full n (suc s))) (λ z. rw z (full n (suc s)))

  -- ── every record is in a line ──

  -- a chain has, with a record, the one that follows it
  extends : (f h p t : ℕ) → K.last < K.num h + f → 0 < K.num h → 0 < K.num t → K.prev t ≡ suc p →
      Some (λ q. q.number ≡ K.num p) (chain K f (suc h)) → Some (λ q. q.number ≡ K.num t) (chain K f (suc h))
  unfolding chain
  extends zero h p t a l k e i = absurd i
  extends (suc f) h p t a l k e i = go (follower K h) refl (λ n o hn w. extends f n p t (omega (arith, o, a)) hn k e w) i
    where
      first : (f n : ℕ) → n ≡ t → K.last < K.num h + suc f → K.num h < K.num t → Some (λ q. q.number ≡ K.num t) (chain K f (suc n))
      first zero n d a o = absurd (let z : ⊥ = omega (arith, used t k) in z)
      first (suc f) n d a o = inl (ap K.num d)

      go : (m : ℕ) → follower K h ≡ m →
          ((n : ℕ) → K.num h < K.num n → 0 < K.num n → Some (λ q. q.number ≡ K.num p) (chain K f (suc n)) →
          Some (λ q. q.number ≡ K.num t) (chain K f (suc n))) →
          (K.num h ≡ K.num p) ⊎ Some (λ q. q.number ≡ K.num p) (chain K f (follower K h)) →
          (K.num h ≡ K.num t) ⊎ Some (λ q. q.number ≡ K.num t) (chain K f (follower K h))
      go zero d rest j =
          cases j
          (λ w. absurd (none_follows h t d k (e ∙ ap suc (sym (S.links.apart h p l w)))))
          (λ w. absurd (subst (Some (λ q. q.number ≡ K.num p)) (ap (chain K f) d ∙ no_link f) w))
      go (suc n) d rest j =
          let (hn, pn) = follows h n d in
          let o = newer h n hn pn in
          cases j
          (λ w.
          let same : h ≡ p = S.links.apart h p l w in
          let it : n ≡ t = S.links.one n t h hn k pn (e ∙ ap suc (sym same)) in
          inr (subst (λ m. Some (λ q. q.number ≡ K.num t) (chain K f m)) (sym d) (first f n it a (omega (arith, o, ap K.num it)))))
          (λ w.
          inr (subst (λ m. Some (λ q. q.number ≡ K.num t) (chain K f m)) (sym d)
          (rest n o hn (subst (λ m. Some (λ q. q.number ≡ K.num p) (chain K f m)) d w))))

  -- the first record of its line
  record First (t : ℕ) : Type 0 where
    slot : ℕ
    live : 0 < K.num slot
    first : K.prev slot ≡ 0
    has : Some (λ q. q.number ≡ K.num t) (chain K (suc K.last) (suc slot))

  climb : (k t : ℕ) → K.num t ≤ k → 0 < K.num t → First t
  unfolding chain
  climb zero t h l = absurd (let z : ⊥ = omega arith in z)
  climb (suc k) t h l = go (K.prev t) refl (λ p a live. climb k p a live)
    where
      go : (p : ℕ) → K.prev t ≡ p → ((p : ℕ) → K.num p ≤ k → 0 < K.num p → First p) → First t
      go zero e up = record { slot = t; live = l; first = e; has = inl refl }
      go (suc p) e up =
          let I = up p (omega (arith, newer p t l e)) (S.links.prevs t p l e).live in
          record {
            slot = I.slot;
            live = I.live;
            first = I.first;
            has = extends (suc K.last) I.slot p t (omega (arith, I.live)) I.live l e I.has;
          }

  line_of : (P : Line → Type 0) (n a s : ℕ) → a ≤ s → s < a + n → 0 < K.num s →
      K.prev s ≡ 0 → P (line_at K N s) → Some P (lines_from K N a n)
  unfolding lines_from
  line_of P zero a s l u h e p = absurd (let z : ⊥ = omega arith in z)
  line_of P (suc n) a s l u h e p =
      cases (same? s a)
      (λ d.
      let y : is_first K a ≡ true = rw (lt-ltb 0 (K.num a) (omega (arith, ap K.num d)), eq-eqb (K.prev a) 0 (ap K.prev (sym d) ∙ e)) in
      rw y (inl (subst (λ m. P (line_at K N m)) d p)))
      (λ m.
      let I = line_of P n (suc a) s (omega arith) (omega arith) h e p in
      cases (either (is_first K a)) (λ y. rw y (inr I)) (λ z. rw z I))

  stored : (s : ℕ) → 0 < K.num s → Some (λ l. Some (λ q. q.number ≡ K.num s) l.recs) (lines_from K N 0 K.slots)
  stored s h =
      let F = climb (K.num s) s (omega arith) h in
      line_of (λ l. Some (λ q. q.number ≡ K.num s) l.recs) K.slots 0 F.slot (omega arith)
      (omega (arith, (S.links.records F.slot F.live).room)) F.live F.first F.has

  pub book_agrees : Agree K (book_of K N)
  unfolding book_of
  book_agrees = record { last = refl; booked = rows K.slots 0; stored = stored }

  pub book_full : Full (book_of K N).lines
  unfolding book_of
  book_full = full K.slots 0

  -- ── no number stands twice ──

  -- one record more ahead
  before : (h n t : ℕ) → K.prev n ≡ suc h → From K n t → From K h t
  before h n t e here = next h e here
  before h n t e (next p d w) = next p d (before h n p e w)

  same_first : (h k t : ℕ) → K.prev h ≡ 0 → K.prev k ≡ 0 → From K h t → From K k t → h ≡ k
  same_first h k t a b here here = refl
  same_first h k t a b here (next p d w) = absurd (let z : ⊥ = omega arith in z)
  same_first h k t a b (next p d w) here = absurd (let z : ⊥ = omega arith in z)
  same_first h k t a b (next p d w) (next q e v) = same_first h k p a b w (subst (From K k) (let z : q ≡ p = omega arith in z) v)

  -- a number of a chain is that of a record in it
  record Numbered (h m : ℕ) : Type 0 where
    slot : ℕ
    live : 0 < K.num slot
    number : K.num slot ≡ m
    from : From K h slot

  numbered : (f h m : ℕ) → 0 < K.num h → In m (numbers_of (chain K f (suc h))) → Numbered h m
  unfolding chain numbers_of
  numbered zero h m l i = absurd i
  numbered (suc f) h m l i = go (follower K h) refl (λ n hn w. numbered f n m hn w) i
    where
      go : (k : ℕ) → follower K h ≡ k → ((n : ℕ) → 0 < K.num n → In m (numbers_of (chain K f (suc n))) → Numbered n m) →
          (m ≡ K.num h) ⊎ In m (numbers_of (chain K f (follower K h))) → Numbered h m
      go k d rest (inl e) = record { slot = h; live = l; number = sym e; from = here }
      go zero d rest (inr w) = absurd (subst (λ c. In m (numbers_of c)) (ap (chain K f) d ∙ no_link f) w)
      go (suc n) d rest (inr w) =
          let (hn, pn) = follows h n d in
          let N = rest n hn (subst (λ c. In m (numbers_of (chain K f c))) d w) in
          record { slot = N.slot; live = N.live; number = N.number; from = before h n N.slot pn N.from }

  -- it is no older than the chain's first
  no_older : (h t : ℕ) → 0 < K.num t → From K h t → K.num h ≤ K.num t
  no_older h t l here = omega arith
  no_older h t l (next p d w) = omega (arith, newer p t l d, no_older h p (S.links.prevs t p l d).live w)

  chain_once : (f h : ℕ) → 0 < K.num h → Once (numbers_of (chain K f (suc h)))
  unfolding chain numbers_of
  chain_once zero h l = tt
  chain_once (suc f) h l = go (follower K h) refl (λ n hn. chain_once f n hn)
    where
      go : (k : ℕ) → follower K h ≡ k → ((n : ℕ) → 0 < K.num n → Once (numbers_of (chain K f (suc n)))) →
          ((c : ℕ) → In c (numbers_of (chain K f (follower K h))) → K.num h ≡ c → ⊥) × Once (numbers_of (chain K f (follower K h)))
      go zero d rest =
          subst (λ c. ((m : ℕ) → In m (numbers_of c) → K.num h ≡ m → ⊥) × Once (numbers_of c)) (sym (ap (chain K f) d ∙ no_link f)) (λ m i. absurd i, tt)
      go (suc n) d rest =
          let (hn, pn) = follows h n d in
          subst (λ k. ((m : ℕ) → In m (numbers_of (chain K f k)) → K.num h ≡ m → ⊥) × Once (numbers_of (chain K f k))) (sym d) (
            λ m i e.
                let N = numbered f n m hn i in
                let z : ⊥ = omega (arith, newer h n hn pn, no_older n N.slot N.live N.from, N.number) in z,
            rest n hn,
          )

  -- a number of the lines is that of a record in one of them
  record Lined (a m : ℕ) : Type 0 where
    slot : ℕ
    above : a ≤ slot
    first : K.prev slot ≡ 0
    has : Numbered slot m

  lined : (n a m : ℕ) → In m (numbers_in (lines_from K N a n)) → Lined a m
  unfolding lines_from numbers_in
  lined zero a m i = absurd i
  lined (suc n) a m i =
      cases (either (is_first K a))
      (λ y.
      let h = ltb-true 0 (K.num a) (and_l (ltb 0 (K.num a)) (eqb (K.prev a) 0) y) in
      let e = eqb-true (K.prev a) 0 (and_r (ltb 0 (K.num a)) (eqb (K.prev a) 0) y) in
      let j : In m (numbers_of (chain K (suc K.last) (suc a)) ++ numbers_in (lines_from K N (suc a) n)) = rw y at i in
      cases (of_append m (numbers_of (chain K (suc K.last) (suc a))) (numbers_in (lines_from K N (suc a) n)) j)
      (λ w. record { slot = a; above = omega arith; first = e; has = numbered (suc K.last) a m h w })
      (λ w. let I = lined n (suc a) m w in record { slot = I.slot; above = omega (arith, I.above); first = I.first; has = I.has }))
      (λ z.
      let j : In m (numbers_in (lines_from K N (suc a) n)) = rw z at i in
      let I = lined n (suc a) m j in record { slot = I.slot; above = omega (arith, I.above); first = I.first; has = I.has })

  lines_once : (n a : ℕ) → Once (numbers_in (lines_from K N a n))
  unfolding lines_from numbers_in
  lines_once zero a = tt
  lines_once (suc n) a =
      cases (either (is_first K a))
      (λ y.
      let h = ltb-true 0 (K.num a) (and_l (ltb 0 (K.num a)) (eqb (K.prev a) 0) y) in
      let e = eqb-true (K.prev a) 0 (and_r (ltb 0 (K.num a)) (eqb (K.prev a) 0) y) in
      rw y (pw_append (λ b c. b ≡ c → ⊥) (numbers_of (chain K (suc K.last) (suc a))) (numbers_in (lines_from K N (suc a) n))
      (chain_once (suc K.last) a h) (lines_once n (suc a))
      (λ b c i j d.
      let N = numbered (suc K.last) a b h i in
      let Q = lined n (suc a) c j in
      let t : Q.has.slot ≡ N.slot = S.links.apart Q.has.slot N.slot Q.has.live (Q.has.number ∙ sym d ∙ sym N.number) in
      let k : a ≡ Q.slot = same_first a Q.slot N.slot e Q.first N.from (subst (From K Q.slot) t Q.has.from) in
      let z : ⊥ = omega (arith, Q.above) in z)))
      (λ z. rw z (lines_once n (suc a)))

  pub book_once : Once (numbers_in (book_of K N).lines)
  unfolding book_of
  book_once = lines_once K.slots 0

  -- ── the windows ──

  -- an open record's window is that of the line that it is in
  chain_window : (f h s : ℕ) → 0 < K.num h → 0 < K.num s → 0 < K.is_open s → Some (λ q. q.number ≡ K.num s) (chain K f (suc h)) →
      window_from K N f (suc h) ≡ N.window s
  unfolding chain window_from
  chain_window zero h s l k o i = absurd i
  chain_window (suc f) h s l k o i = go (follower K h) refl (λ n hn w. chain_window f n s hn k o w) i
    where
      go : (m : ℕ) → follower K h ≡ m →
          ((n : ℕ) → 0 < K.num n → Some (λ q. q.number ≡ K.num s) (chain K f (suc n)) → window_from K N f (suc n) ≡ N.window s) →
          (K.num h ≡ K.num s) ⊎ Some (λ q. q.number ≡ K.num s) (chain K f (follower K h)) →
          cond (ltb 0 (K.is_open h)) (N.window h) (window_from K N f (follower K h)) ≡ N.window s
      go m d rest (inl e) =
          let same : h ≡ s = S.links.apart h s l e in
          rw (lt-ltb 0 (K.is_open h) (omega (arith, ap K.is_open same))) (ap N.window same)
      go zero d rest (inr w) = absurd (subst (Some (λ q. q.number ≡ K.num s)) (ap (chain K f) d ∙ no_link f) w)
      go (suc n) d rest (inr w) =
          let (hn, pn) = follows h n d in
          let shut : K.is_open h ≡ 0 = (S.links.prevs n h hn pn).sealed in
          rw (shut, d) (rest n hn (subst (λ m. Some (λ q. q.number ≡ K.num s) (chain K f m)) d w))

  -- the lines that have record r have the window w
  window_of_lem : (r w : ℕ) (ls : List Line) → Every (λ l. in_recs r l.recs ≡ true → l.window ≡ w) ls →
      Some (λ l. Some (λ q. q.number ≡ r) l.recs) ls → window_with r ls ≡ w
  unfolding window_with
  window_of_lem r w [] e i = absurd i
  window_of_lem r w (l ∷ ls) e i =
      cases (either (in_recs r l.recs))
      (λ y. rw y (e.0 y))
      (λ z. rw z (window_of_lem r w ls e.1 (cases i (λ j. absurd (true≢false (sym (in_recs_lem r l.recs j) ∙ z))) (λ j. j))))

  windows_in : (s : ℕ) → 0 < K.num s → 0 < K.is_open s → (n a : ℕ) →
      Every (λ l. in_recs (K.num s) l.recs ≡ true → l.window ≡ N.window s) (lines_from K N a n)
  unfolding lines_from
  windows_in s k o zero a = tt
  windows_in s k o (suc n) a =
      cases (either (is_first K a))
      (λ y. rw y (
        λ e. chain_window (suc K.last) a s (ltb-true 0 (K.num a) (and_l (ltb 0 (K.num a)) (eqb (K.prev a) 0) y)) k o
            (of_recs (K.num s) (chain K (suc K.last) (suc a)) e),
        windows_in s k o n (suc a),
      ))
      (λ z. rw z (windows_in s k o n (suc a)))

  pub book_windows : WindowsAgree K N (book_of K N)
  unfolding book_of
  book_windows s k o = window_of_lem (K.num s) (N.window s) (lines_from K N 0 K.slots) (windows_in s k o K.slots 0) (stored s k)

-- AND ITS NAMES, of rows and counts that agree
pub book_names : (K : View) (N : Notes) → NamesFit K N → NamesTold K N (book_of K N).names
unfolding book_of
book_names K N F = rows_agree K N.titles N.names F
