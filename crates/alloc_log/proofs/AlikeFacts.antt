-- Likeness of logs: the test says what it is to say, it is an equivalence of readable logs, and a compressed log is alike the old one,
-- so what a compaction leaves in its buffer is too.
use Rattle.std.proofs.Common.{◌≡◌, ℕ, zero, suc, ◌+◌, ◌*◌, ◌<◌, ◌≤◌, Bool, true, false, ◌||◌, eqb, ◌↔◌, List, [], ◌∷◌, length, get_or, take, drop, sym, refl, ap, ◌∙◌, subst, true≢false, arith, take_at, eq-eqb, ne_eqb, eqb-true}
use borrow.Author.Tests.{not-false}
use Rattle.answer.specs.Reply.{Reply, accepted}
use Rattle.answer.specs.Refusal.{leaves, NoneHolds}
use Rattle.answer.proofs.Cases.{cases, either, same?}
use Rattle.answer.proofs.Decided.{decide_accepted}
use Rattle.geometry.specs.declared.Geometry.{Geometry}
use Rattle.geometry.specs.Limits.{blocks, fits, Inside}
use Rattle.geometry.proofs.Made.{fits_inside}
use Rattle.alloc_log.specs.Word.{write_at, bytes_of}
use Rattle.alloc_log.specs.Marks.{mark_of, held_in, passing, held_blocks, Table}
use Rattle.alloc_log.specs.Read.{Result, read_log}
use Rattle.alloc_log.specs.Compress.{compressed}
use Rattle.alloc_log.specs.Tool.{readable, marks_of, held_at_end, agree_from, Alike!, alike?, compact_words, compact_conditions, compact_reply, compact_out}
use Rattle.alloc_log.proofs.MarksFacts.{table_mark}
use Rattle.alloc_log.proofs.Writing.{length_bytes}
use Rattle.alloc_log.proofs.RoundTrip.{read_table, compressed_same}

-- ── the blocks that pass a test, rising ──

-- whether i is in a list
abbrev is_in : ℕ → List ℕ → Bool
is_in i [] = false
is_in i (x ∷ l) = eqb i x || is_in i l

-- no block before the first one
none_before : (t : ℕ → Bool) (b n i : ℕ) → i < b → is_in i (passing t b n) ≡ false
none_before t b zero i h = refl
none_before t b (suc n) i h =
    let r = none_before t (suc b) n i (omega arith) in
    cases (either (t b))
    (λ y. rw (y, ne_eqb i b (λ e. omega arith)) r)
    (λ y. rw y r)

-- a block is in the list exactly if it passes
passing_is : (t : ℕ → Bool) (b n i : ℕ) → b ≤ i → i < b + n → is_in i (passing t b n) ≡ t i
passing_is t b zero i h k = absurd (let z : ⊥ = omega arith in z)
passing_is t b (suc n) i h k =
    cases (same? i b)
    (λ e. cases (either (t b))
    (λ y. rw (y, eq-eqb i b e) (sym (ap t e ∙ y)))
    (λ y. rw y (none_before t (suc b) n i (omega arith) ∙ sym (ap t e ∙ y))))
    (λ e.
    let r = passing_is t (suc b) n i (omega arith) (omega arith) in
    cases (either (t b))
    (λ y. rw (y, ne_eqb i b e) r)
    (λ y. rw y r))

passing_same : (t u : ℕ → Bool) (b n : ℕ) → ((i : ℕ) → b ≤ i → i < b + n → t i ≡ u i) → passing t b n ≡ passing u b n
passing_same t u b zero f = refl
passing_same t u b (suc n) f =
    rw (f b (omega arith) (omega arith), passing_same t u (suc b) n (λ i h k. f i (omega arith) (omega arith)))

-- ── marks that agree ──

agree_all : (m k : List ℕ) (b n : ℕ) → ((i : ℕ) → b ≤ i → i < b + n → get_or m i 0 ≡ get_or k i 0) → agree_from m k b n ≡ true
agree_all m k b zero f = refl
agree_all m k b (suc n) f =
    rw (eq-eqb (get_or m b 0) (get_or k b 0) (f b (omega arith) (omega arith))) (agree_all m k (suc b) n (λ i h j. f i (omega arith) (omega arith)))

agree_says : (m k : List ℕ) (b n : ℕ) → agree_from m k b n ≡ true → (i : ℕ) → b ≤ i → i < b + n → get_or m i 0 ≡ get_or k i 0
agree_says m k b zero e i h j = absurd (let z : ⊥ = omega arith in z)
agree_says m k b (suc n) e i h j =
    cases (either (eqb (get_or m b 0) (get_or k b 0)))
    (λ y. cases (same? i b)
    (λ d. rw d (eqb-true (get_or m b 0) (get_or k b 0) y))
    (λ d. agree_says m k (suc b) n (rw y at e) i (omega arith) (omega arith)))
    (λ y. absurd (true≢false (sym (rw y at e))))

-- two tables agree exactly if they hold the same blocks
tables_agree : (n : ℕ) (m k : List ℕ) → Table n m → Table n k → (agree_from m k 0 n ≡ true) ↔ (held_blocks m n ≡ held_blocks k n)
unfolding held_blocks held_in
tables_agree n m k t u = (
  λ e. passing_same (held_in m) (held_in k) 0 n (λ i h j. same_held i (agree_says m k 0 n e i h j)),
  λ e. agree_all m k 0 n (λ i h j.
      table_mark n m t i
      ∙ ap mark_of (sym (passing_is (held_in m) 0 n i h j) ∙ ap (is_in i) e ∙ passing_is (held_in k) 0 n i h j)
      ∙ sym (table_mark n k u i)),
)
  where
    same_held : (i : ℕ) → get_or m i 0 ≡ get_or k i 0 → held_in m i ≡ held_in k i
    same_held i e = rw e

-- ── likeness ──

-- the test of two readable logs is whether they end with the same held blocks
pub alike_iff : (g : Geometry) (a b : List ℕ) → Inside g → readable g a ≡ true → readable g b ≡ true → (alike? g a b ≡ true) ↔ (held_at_end g a ≡ held_at_end g b)
unfolding alike? held_at_end marks_of
alike_iff g a b i _ _ =
    tables_agree (blocks g) (marks_of g a) (marks_of g b) (read_table g.arenas g.per i.per_least a) (read_table g.arenas g.per i.per_least b)

pub alike_reflexive : (g : Geometry) (a : List ℕ) → readable g a ≡ true → Alike! g a a
alike_reflexive g a r = (r, r, refl)

pub alike_symmetric : (g : Geometry) (a b : List ℕ) → Alike! g a b → Alike! g b a
alike_symmetric g a b h = (h.1, h.0, sym h.2)

pub alike_transitive : (g : Geometry) (a b c : List ℕ) → Alike! g a b → Alike! g b c → Alike! g a c
alike_transitive g a b c h k = (h.0, k.1, h.2 ∙ k.2)

-- the log written anew, compressed, is alike the old one
pub compressed_alike : (g : Geometry) (a : List ℕ) → Inside g → readable g a ≡ true
    → Alike! g a (bytes_of (compressed g.arenas g.per (held_in (marks_of g a))))
unfolding readable held_at_end marks_of
compressed_alike g a i r =
    let m : List ℕ = (read_log g.arenas g.per a).1 in
    let e = compressed_same g.arenas g.per i.per_least i.blocks_most a m (ap (λ (t : Bool). (t, m)) r) in
    (r, ap (λ (w : Result). w.0) e, ap (λ (w : Result). held_blocks w.1 (blocks g)) (sym e))

-- ── compaction ──

head_of : List ℕ → ℕ
head_of [] = 0
head_of (n ∷ l) = n

pub one_same : (m n : ℕ) → m ∷ [] ≡ n ∷ [] → m ≡ n
unfolding head_of
one_same m n e = ap head_of e

module _ (g : Geometry) (log out : List ℕ) where
  -- what an accepted compaction shows: it gives the number of its words, and no condition is true
  accepts : (l : List ℕ) → compact_reply g log out ≡ accepted l → NoneHolds (compact_conditions g log out) × (length (compact_words g log) ∷ [] ≡ l)
  unfolding compact_reply
  accepts l e = decide_accepted (compact_conditions g log out) (length (compact_words g log) ∷ []) l e

  -- the words of an accepted compaction are a log alike the old one
  pub compact_alike : (l : List ℕ) → compact_reply g log out ≡ accepted l → Alike! g log (bytes_of (compact_words g log))
  unfolding compact_words
  compact_alike l e =
      let n = (accepts l e).0 in
      compressed_alike g log (fits_inside g (not-false (fits g) n.0)) (not-false (readable g log) n.1.1.0)

  start_is : (l : List ℕ) → compact_reply g log out ≡ accepted l → take (8 * length (compact_words g log)) (compact_out g log out) ≡ bytes_of (compact_words g log)
  unfolding compact_out write_at
  start_is l e =
      let b = bytes_of (compact_words g log) in
      ap (λ (k : Reply). take (8 * length (compact_words g log)) (leaves k out (write_at out 0 b))) e
      ∙ take_at b (drop (0 + length b) out) (8 * length (compact_words g log)) (length_bytes (compact_words g log))

  -- and it leaves them at the start of the buffer: as many words as it says
  pub compact_leaves : (n : ℕ) → compact_reply g log out ≡ accepted (n ∷ []) → Alike! g log (take (8 * n) (compact_out g log out))
  compact_leaves n e =
      let k : length (compact_words g log) ≡ n = one_same _ _ (accepts (n ∷ []) e).1 in
      subst (λ (m : ℕ). Alike! g log (take (8 * m) (compact_out g log out))) k
      (subst (Alike! g log) (sym (start_is (n ∷ []) e)) (compact_alike (n ∷ []) e))
