-- What the three entry points promise, from what their tests showed.
use Rattle.std.proofs.Common.{
  ◌≡◌,
  ℕ,
  zero,
  suc,
  ◌+◌,
  ◌*◌,
  ◌/◌,
  ◌<◌,
  ◌≤◌,
  Bool,
  true,
  false,
  cond,
  ◌&&◌,
  eqb,
  Option,
  Some,
  None,
  List,
  [],
  ◌∷◌,
  length,
  take,
  drop,
  sym,
  refl,
  ap,
  ◌∙◌,
  subst,
  arith,
  take_at,
  le-ltb,
  lt-ltb,
}
use lib.Seq.{sets, sets-eq}
use Rattle.std.specs.Prelude.{Ok, Err}
use Rattle.std.specs.Prelude as prelude
use Rattle.answer.specs.declared.Refusal.{Refusal}
use Rattle.answer.specs.declared.Refusal.TheVariants.{OutsideLimits, TooShort, NoLog}
use Rattle.answer.specs.Number.{number_of}
use Rattle.answer.specs.Reply.{Reply, accepted, refused, reply_of}
use Rattle.answer.specs.Refusal.{leaves}
use Rattle.geometry.specs.declared.Geometry.{Geometry}
use Rattle.geometry.specs.Limits.{blocks, fits, making_of, Inside}
use Rattle.geometry.proofs.Made.{made, not_made, inside_fits}
use Rattle.alloc_log.specs.Marks.{passing, held_in, held_blocks}
use Rattle.alloc_log.specs.Read.{Result, told, read_log}
use Rattle.alloc_log.specs.Settled.{up_to_barrier, settled}
use Rattle.alloc_log.specs.Word.{words, write_at, bytes_of}
use Rattle.alloc_log.specs.Compress.{compressed}
use Rattle.alloc_log.specs.Tool.{
  readable,
  marks_of,
  held_at_end,
  every_reply,
  read_reply,
  read_out,
  alike?,
  judged,
  verdict_of,
  compare_verdict,
  compact_reply_of,
  compact_words,
  compact_reply,
  compact_out,
}
use Rattle.std.specs.Cmp.Lexicographic.{pointwise}
use Rattle.alloc_log.proofs.Loops.{agree_parts}
use Rattle.alloc_log.proofs.RoundTrip.{read_table}
use Rattle.alloc_log.proofs.SettledFacts.{settled_judged}

-- ── lists ──

-- what is written at the start is what is then read there
pub take_sets : (l out : List ℕ) → length l ≤ length out → take (length l) (sets out 0 l) ≡ l
take_sets l out h = ap (take (length l)) (sets-eq l out 0 (omega arith)) ∙ take_at l (drop (0 + length l) out) (length l) refl

pub pass_length : (t : ℕ → Bool) (b n : ℕ) → length (passing t b n) ≤ n
pass_length t b zero = omega arith
pass_length t b (suc n) = go (t b) (pass_length t (suc b) n)
  where
    go : (x : Bool) → length (passing t (suc b) n) ≤ n → length (cond x (b ∷ passing t (suc b) n) (passing t (suc b) n)) ≤ suc n
    go true h = omega arith
    go false h = omega arith

-- ── a geometry that was made, or not ──

-- g was made from the numbers of `six`
pub record MadeOf (six g : Geometry) : Type 0 where
  pub is : g ≡ six
  pub inside : Inside g

abbrev of : Geometry → prelude.Result Geometry Refusal
of six = making_of six.arenas six.per six.pages six.records six.turn six.words

pub made_of : (six g : Geometry) → Ok g ≡ of six → MadeOf six g
made_of six g new =
    let m = made six.arenas six.per six.pages six.records six.turn six.words g (sym new) in
    record { is = m.0; inside = m.1 }

pub outside : (six : Geometry) {r : Refusal} → Err r ≡ of six → (r ≡ OutsideLimits) × (fits six ≡ false)
outside six {r} new = not_made six.arenas six.per six.pages six.records six.turn six.words r (sym new)

-- what holds of the made geometry, which fits, holds of the six numbers
by_made : (P : Geometry → Type 0) {six g : Geometry} → MadeOf six g → (fits g ≡ true → P g) → P six
by_made P {six} {g} m f = subst P m.is (f (inside_fits g m.inside))

-- ── the result of reading a log ──

module _ (g : Geometry) (log : List ℕ) {r : Option (List ℕ)} (read : told r ≡ read_log g.arenas g.per log) where
  unreadable_is : r ≡ None → readable g log ≡ false
  unfolding readable
  unreadable_is e = sym (ap (λ (x : Result). x.0) (rw e at read))

  module _ {marks : List ℕ} (e : r ≡ Some marks) where
    readable_is : readable g log ≡ true
    unfolding readable
    readable_is = sym (ap (λ (x : Result). x.0) (rw e at read))

    marks_are : marks ≡ marks_of g log
    unfolding marks_of
    marks_are = ap (λ (x : Result). x.1) (rw e at read)

    held_are : held_blocks marks (blocks g) ≡ held_at_end g log
    unfolding held_at_end
    held_are = ap (λ (m : List ℕ). held_blocks m (blocks g)) marks_are

-- the marks of every block are in the table that was read
pub within_table : {six g : Geometry} (log : List ℕ) {marks : List ℕ} {r : Option (List ℕ)} → MadeOf six g → told r ≡ read_log g.arenas g.per log
    → r ≡ Some marks
    → blocks g ≤ length marks
within_table {g = g} log m read e =
    let t = read_table g.arenas g.per m.inside.per_least log in
    let k = ap (λ (x : Result). length x.1) (rw e at read) in
    omega (arith, m.inside.blocks_most, t.size, k)

-- ── reading ──

-- both promises of `read_held`: its answer, and what it leaves in the result buffer
abbrev pub Answered : prelude.Result ℕ Refusal → List ℕ → Geometry → List ℕ → List ℕ → Type 0
Answered r left g log out = (reply_of r left ≡ read_reply g log out) × (left ≡ read_out g log out)

module _ (log out : List ℕ) (g : Geometry) where
  -- the held blocks of what is settled, and the buffer with them
  abbrev given : List ℕ
  given = held_at_end g (settled log)

  abbrev new : List ℕ
  new = sets out 0 given

  refuses : (n : Refusal) → read_reply g log out ≡ refused (number_of n) → Answered (Err n) out g log out
  unfolding read_out reply_of
  refuses n e = (sym e, sym (ap (λ (k : Reply). leaves k out new) e))

  held_fit : 2 * blocks g + 64 ≤ length out → length given ≤ length out
  unfolding held_at_end held_blocks
  held_fit h = omega (arith, pass_length (held_in (marks_of g (settled log))) 0 (blocks g))

  accepts : read_reply g log out ≡ accepted given → 2 * blocks g + 64 ≤ length out → Answered (Ok (length given)) new g log out
  unfolding read_out reply_of
  accepts e h = (ap accepted (take_sets given out (held_fit h)) ∙ sym e, sym (ap (λ (k : Reply). leaves k out new) e))

  pub read_outside : {r : Refusal} → Err r ≡ of g → Answered (Err r) out g log out
  unfolding every_reply
  read_outside {r} e = let o = outside g e in rw o.0 (refuses OutsideLimits (settled_judged g log out ∙ rw o.1))

  refused_3 : length out < 2 * blocks g + 64 → fits g ≡ true → Answered (Err TooShort) out g log out
  unfolding every_reply
  refused_3 h f = refuses TooShort (settled_judged g log out ∙ rw (f, lt-ltb (length out) (2 * blocks g + 64) h))

  refused_7 : 2 * blocks g + 64 ≤ length out → readable g (settled log) ≡ false → fits g ≡ true → Answered (Err NoLog) out g log out
  unfolding every_reply
  refused_7 h k f = refuses NoLog (settled_judged g log out ∙ rw (f, le-ltb (length out) (2 * blocks g + 64) h, k))

  done : 2 * blocks g + 64 ≤ length out → readable g (settled log) ≡ true → fits g ≡ true → Answered (Ok (length given)) new g log out
  unfolding every_reply
  done h k f = accepts (settled_judged g log out ∙ rw (f, le-ltb (length out) (2 * blocks g + 64) h, k)) h

-- the bytes up to where it ends are what is settled
pub settled_part : (log : List ℕ) (end : ℕ) → end ≡ 8 * up_to_barrier (words log) → take end log ≡ settled log
unfolding settled
settled_part log end e = ap (λ (n : ℕ). take n log) e

module _ (log out : List ℕ) {six g : Geometry} (m : MadeOf six g) where
  pub read_refused_3 : length out < 2 * blocks g + 64 → Answered (Err TooShort) out six log out
  read_refused_3 h = by_made (λ k. Answered (Err TooShort) out k log out) m (refused_3 log out g h)

  module _ (h : 2 * blocks g + 64 ≤ length out) {r : Option (List ℕ)} (read : told r ≡ read_log g.arenas g.per (settled log)) where
    pub read_refused_7 : r ≡ None → Answered (Err NoLog) out six log out
    read_refused_7 e = by_made (λ k. Answered (Err NoLog) out k log out) m (refused_7 log out g h (unreadable_is g (settled log) read e))

    pub read_done : {marks : List ℕ} (n : ℕ) (left : List ℕ) → r ≡ Some marks → n ≡ length (held_blocks marks (blocks g))
        → left ≡ sets out 0 (held_blocks marks (blocks g)) → Answered (Ok n) left six log out
    read_done n left e en el =
        let a = held_are g (settled log) read e in
        by_made (λ k. Answered (Ok n) left k log out) m
        (λ f. rw (en ∙ ap length a, el ∙ ap (sets out 0) a) (done log out g h (readable_is g (settled log) read e) f))

-- ── comparing ──

-- the promise of `compare`
abbrev pub Judged : prelude.Result Bool Refusal → List ℕ → List ℕ → Geometry → Type 0
Judged c first second g = verdict_of c ≡ compare_verdict g first second

module _ (first second : List ℕ) where
  pub compare_outside : (g : Geometry) {r : Refusal} → Err r ≡ of g → Judged (Err r) first second g
  unfolding compare_verdict verdict_of
  compare_outside g {r} e = let o = outside g e in rw (o.0, o.1)

  refused_one : (g : Geometry) → readable g first && readable g second ≡ false → fits g ≡ true → Judged (Err NoLog) first second g
  unfolding compare_verdict verdict_of
  refused_one g h f = rw (f, h)

  says : (g : Geometry) → readable g first ≡ true → readable g second ≡ true → fits g ≡ true → compare_verdict g first second ≡ judged (alike? g first second)
  unfolding compare_verdict
  says g h k f = rw (f, h, k)

  module _ {six g : Geometry} (m : MadeOf six g) {r : Option (List ℕ)} (one : told r ≡ read_log g.arenas g.per first) where
    pub compare_refused_first : r ≡ None → Judged (Err NoLog) first second six
    compare_refused_first e =
        by_made (Judged (Err NoLog) first second) m
        (refused_one g (ap (λ (t : Bool). t && readable g second) (unreadable_is g first one e)))

    module _ {marks : List ℕ} (fine : r ≡ Some marks) {q : Option (List ℕ)} (two : told q ≡ read_log g.arenas g.per second) where
      pub compare_refused_second : q ≡ None → Judged (Err NoLog) first second six
      compare_refused_second e =
          by_made (Judged (Err NoLog) first second) m
          (refused_one g (rw (readable_is g first one fine) (unreadable_is g second two e)))

      module _ {marks' : List ℕ} (fine' : q ≡ Some marks') {same : Bool} (equal : same ≡ pointwise eqb (take (blocks g) marks) (take (blocks g) marks')) where
        alike_is : same ≡ alike? g first second
        unfolding alike?
        alike_is =
            let a : 0 + blocks g ≤ length marks = omega (arith, within_table first m one fine) in
            let b : 0 + blocks g ≤ length marks' = omega (arith, within_table second m two fine') in
            rw (sym (marks_are g first one fine), sym (marks_are g second two fine')) (equal ∙ agree_parts marks marks' 0 (blocks g) a b)

        said : fits g ≡ true → compare_verdict g first second ≡ judged same
        said f = says g (readable_is g first one fine) (readable_is g second two fine') f ∙ ap judged (sym alike_is)

        pub compare_says : Judged (Ok same) first second six
        unfolding verdict_of
        compare_says = by_made (Judged (Ok same) first second) m (λ f. sym (said f))

-- ── compressing ──

-- both promises of `compact`: its answer, and what it leaves in the buffer
abbrev pub Compacted : prelude.Result ℕ Refusal → List ℕ → Geometry → List ℕ → List ℕ → Type 0
Compacted r left g log out = (compact_reply_of r ≡ compact_reply g log out) × (left ≡ compact_out g log out)

module _ (log out : List ℕ) (g : Geometry) where
  abbrev anew : List ℕ
  anew = write_at out 0 (bytes_of (compact_words g log))

  leaves_all : (n : Refusal) → compact_reply g log out ≡ refused (number_of n) → Compacted (Err n) out g log out
  unfolding compact_out compact_reply_of
  leaves_all n e = (sym e, sym (ap (λ (k : Reply). leaves k out anew) e))

  writes : compact_reply g log out ≡ accepted (length (compact_words g log) ∷ []) → Compacted (Ok (length (compact_words g log))) anew g log out
  unfolding compact_out compact_reply_of
  writes e = (sym e, sym (ap (λ (k : Reply). leaves k out anew) e))

  pub compact_outside : {r : Refusal} → Err r ≡ of g → Compacted (Err r) out g log out
  unfolding compact_reply
  compact_outside {r} e = let o = outside g e in rw o.0 (leaves_all OutsideLimits (rw o.1))

  too_short_lem : length out < 8 * g.words → fits g ≡ true → Compacted (Err TooShort) out g log out
  unfolding compact_reply
  too_short_lem h f = leaves_all TooShort (rw (f, lt-ltb (length out) (8 * g.words) h))

  no_log : 8 * g.words ≤ length out → readable g log ≡ false → fits g ≡ true → Compacted (Err NoLog) out g log out
  unfolding compact_reply
  no_log h k f = leaves_all NoLog (rw (f, le-ltb (length out) (8 * g.words) h, k))

  written : 8 * g.words ≤ length out → readable g log ≡ true → fits g ≡ true → Compacted (Ok (length (compact_words g log))) anew g log out
  unfolding compact_reply
  written h k f = writes (rw (f, le-ltb (length out) (8 * g.words) h, k))

eighth : (bytes n : ℕ) → bytes ≡ 8 * n → bytes / 8 ≡ n
eighth bytes n e = omega arith

module _ (log out : List ℕ) {six g : Geometry} (m : MadeOf six g) where
  pub compact_refused_3 : length out < 8 * g.words → Compacted (Err TooShort) out six log out
  compact_refused_3 h = by_made (λ k. Compacted (Err TooShort) out k log out) m (too_short_lem log out g h)

  module _ (h : 8 * g.words ≤ length out) {r : Option (List ℕ)} (read : told r ≡ read_log g.arenas g.per log) where
    pub compact_refused_7 : r ≡ None → Compacted (Err NoLog) out six log out
    compact_refused_7 e = by_made (λ k. Compacted (Err NoLog) out k log out) m (no_log log out g h (unreadable_is g log read e))

    module _ {marks : List ℕ} (fine : r ≡ Some marks) where
      words_are : compressed g.arenas g.per (held_in marks) ≡ compact_words g log
      unfolding compact_words
      words_are = ap (λ (l : List ℕ). compressed g.arenas g.per (held_in l)) (marks_are g log read fine)

      pub compact_done : (bytes : ℕ) (left : List ℕ) → bytes ≡ 8 * length (compressed g.arenas g.per (held_in marks))
          → left ≡ write_at out 0 (bytes_of (compressed g.arenas g.per (held_in marks))) → Compacted (Ok (bytes / 8)) left six log out
      compact_done bytes left en el =
          let n : bytes / 8 ≡ length (compact_words g log) = eighth bytes _ en ∙ ap length words_are in
          let l : left ≡ anew log out g = el ∙ ap (λ (w : List ℕ). write_at out 0 (bytes_of w)) words_are in
          by_made (λ k. Compacted (Ok (bytes / 8)) left k log out) m (λ f. rw (n, l) (written log out g h (readable_is g log read fine) f))
