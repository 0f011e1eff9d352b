-- What the functions on logs answer and touch.
use mathlib.Core.Path.{◌≡◌, refl, sym, ap, ap₂, ◌∙◌, subst}
use mathlib.Core.Logic.Iff
use mathlib.Core.Logic.{◌↔◌, ◌⊎◌, inl, inr}
use mathlib.Core.Bool.{Bool, true, false, not, ◌&&◌}
use mathlib.Core.List.{List, [], ◌∷◌, ◌++◌, append_assoc}
use Prim.Native.Nat.{ℕ, zero, suc, ◌+◌, ◌-◌, ◌*◌, ◌/◌, ◌%◌, ◌≤◌, ◌<◌}
use native.Mathlib.Nat.{div-div-eq-div-mul, div-one}
use native.Mathlib.Omega.{arith}
use lib.Dec.{ltb}
use lib.ListN.{length, take, drop, get_or, length-append, length-drop}
use lib.Seq.{sets, sets-eq, take_at, drop_at, length-take-le, get_or-take, get_or-drop, ext_get_or}
use borrow.Author.Tests.{ltb-true}
use Rattle.answer.specs.Reply.{Reply, accepted, refused}
use Rattle.answer.specs.Refusal.{Condition, decide, leaves}
use Rattle.answer.proofs.Decided.{accepted_not, accepted_same, refused_same}
use Rattle.geometry.specs.declared.Geometry.{Geometry}
use Rattle.geometry.specs.Limits.{Inside, blocks, fits}
use Rattle.alloc_log.specs.Word.{spell, word_bytes, bytes_of, words, write_at}
use Rattle.alloc_log.specs.Marks.{held_in, passing, held_blocks}
use Rattle.alloc_log.specs.Read.{free, Result, read_log}
use Rattle.alloc_log.specs.Entries.{Entry, allocate, release, barrier!, allocate_run, release_run, all_words, AllAllowed, behind, behind_all}
use Rattle.alloc_log.specs.Settled.{settled}
use Rattle.alloc_log.specs.Tool.{judged, turned_away, verdict_by, readable, marks_of, held_at_end, alike?, every_reply, read_reply, read_out, compare_conditions, compare_verdict, compact_words, compact_reply, compact_out}
use Rattle.alloc_log.proofs.Writing.{length_write, length_bytes}
use Rattle.alloc_log.proofs.RoundTrip.{AllFit, words_bytes, compressed_fits, compressed_length}
use Rattle.alloc_log.proofs.EntriesFacts.{reads_iff}
use Rattle.alloc_log.proofs.AlikeFacts.{alike_iff, compressed_alike}
use Rattle.alloc_log.proofs.SettledFacts.{settled_is}
use Rattle.alloc_log.proofs.Tools.{pass_length}
use Rattle.model.specs.Lists.{below?}
use Rattle.model.proofs.DoneSound.{and_l, and_r}
use Rattle.model.proofs.Reflect.{Says, ◌&◌}
use Rattle.ledger.specs.LogMeans.{Given, Within, Bytes, IsLog, holds, SettledBytes, ReadMeans, CompareMeans, Compacted, CompactMeans, ToolsMean}
use Rattle.ledger.specs.Ledger.{compressed_of}
use Rattle.alloc_log.specs.Compress.{compressed}
use Rattle.ledger.proofs.CallsTold.{compressed_of_lem}
use Rattle.ledger.proofs.BarrierBytes.{settled_by_bytes, settled_alone}
use Rattle.ledger.proofs.Exactly.{Means, less, negated, outside, apart, not_accepted, here, later}

-- ── what is changed of a piece of memory ──

pub given : (l old : List ℕ) → length l ≤ length old → Given l old (sets old 0 l)
given l old h = record { fits = h; is = sets-eq l old 0 (omega arith) ∙ ap (λ (k : ℕ). l ++ drop k old) (let z : 0 + length l ≡ length l = omega arith in z) }

-- numbers of one length that agree behind `to`
pub beyond : (to : ℕ) (old new : List ℕ) → to ≤ length old → length new ≡ length old → ((i : ℕ) → to ≤ i → get_or new i 0 ≡ get_or old i 0) → Within 0 to old new
beyond to old new h e same = record {
  fits = h;
  size = e;
  front = refl;
  back = ext_get_or 0 (drop to new) (drop to old) (simp length-drop (ap (λ (n : ℕ). n - to) e)) (λ i k. get_or-drop to new i 0 ∙ same (to + i) (omega arith) ∙ sym (get_or-drop to old i 0));
}

-- that agree but from `from` up to `to`
pub changed_between : (from to : ℕ) (old new : List ℕ) → from ≤ to → to ≤ length old → length new ≡ length old →
    ((i : ℕ) → (i < from) ⊎ (to ≤ i) → get_or new i 0 ≡ get_or old i 0) → Within from to old new
changed_between from to old new l h e same =
    let a = length-take-le from new (omega arith) in
    let b = length-take-le from old (omega arith) in
    record {
      fits = h;
      size = e;
      front = ext_get_or 0 (take from new) (take from old) (a ∙ sym b)
          (λ i k. let m : i < from = omega arith in get_or-take from new i 0 m ∙ same i (inl m) ∙ sym (get_or-take from old i 0 m));
      back = (beyond to old new h e (λ i k. same i (inr k))).back;
    }

pub unchanged : (from to : ℕ) (old new : List ℕ) → new ≡ old → to ≤ length old → Within from to old new
unchanged from to old new e h = record { fits = h; size = ap length e; front = ap (take from) e; back = ap (drop to) e }

pub within : (from to : ℕ) (old l : List ℕ) → from + length l ≡ to → to ≤ length old → Within from to old (write_at old from l)
unfolding write_at
within from to old l e h =
    let k : from ≤ length old = omega arith in
    let front = length-take-le from old k in
    let z : length (take from old ++ l) ≡ to = length-append (take from old) l ∙ omega arith in
    record {
      fits = h;
      size = length_write old from l (omega arith);
      front = take_at (take from old) _ from front;
      back = ap (drop to) (sym (append_assoc (take from old) l (drop (from + length l) old))) ∙ drop_at (take from old ++ l) _ to z ∙ ap (λ (n : ℕ). drop n old) e;
    }

-- ── bytes and words ──

-- a byte less
rest : (n x b : ℕ) → b < 256 → (x * 256 + b) / (256 * n) ≡ x / n
rest n x b h = sym (div-div-eq-div-mul (x * 256 + b) 256 n) ∙ ap (λ (y : ℕ). y / n) (let z : (x * 256 + b) / 256 ≡ x = omega arith in z)

low : (x b : ℕ) → b < 256 → (x * 256 + b) % 256 ≡ b
low x b h = omega arith

spelled : (a b c d e f g h : ℕ) → a < 256 → b < 256 → c < 256 → d < 256 → e < 256 → f < 256 → g < 256 → h < 256 →
    word_bytes (spell a b c d e f g h) ≡ a ∷ b ∷ c ∷ d ∷ e ∷ f ∷ g ∷ h ∷ []
unfolding word_bytes spell
spelled a b c d e f g h ha hb hc hd he hf hg hh =
    let t : a % 256 ≡ a = omega arith in
    simp (rest 0x1_0000_0000_0000, rest 0x100_0000_0000, rest 0x1_0000_0000, rest 0x100_0000, rest 0x1_0000, rest 0x100, rest 1, div-one, low, t)

pub bytes_words : (l : List ℕ) → Bytes l → length l % 8 ≡ 0 → bytes_of (words l) ≡ l
unfolding words
bytes_words [] k h = refl
bytes_words (a ∷ []) k h = absurd (omega arith)
bytes_words (a ∷ b ∷ []) k h = absurd (omega arith)
bytes_words (a ∷ b ∷ c ∷ []) k h = absurd (omega arith)
bytes_words (a ∷ b ∷ c ∷ d ∷ []) k h = absurd (omega arith)
bytes_words (a ∷ b ∷ c ∷ d ∷ e ∷ []) k h = absurd (omega arith)
bytes_words (a ∷ b ∷ c ∷ d ∷ e ∷ f ∷ []) k h = absurd (omega arith)
bytes_words (a ∷ b ∷ c ∷ d ∷ e ∷ f ∷ g ∷ []) k h = absurd (omega arith)
bytes_words (a ∷ b ∷ c ∷ d ∷ e ∷ f ∷ g ∷ i ∷ l) k h =
    ap₂ {C = List ℕ} (λ x y. x ++ y) (spelled a b c d e f g i (k 0) (k 1) (k 2) (k 3) (k 4) (k 5) (k 6) (k 7))
    (bytes_words l (λ n. k (suc (suc (suc (suc (suc (suc (suc (suc n))))))))) (omega arith))

-- ── a log ──

all_fit : (arenas per : ℕ) → per ≤ 1024 → arenas * per ≤ 2048 → (es : List Entry) (m : List ℕ) → AllAllowed arenas per m es → AllFit (all_words es)
unfolding AllFit
all_fit arenas per p q [] m a = tt
all_fit arenas per p q (allocate b ∷ es) m a = (omega (arith, a.0.start), all_fit arenas per p q es (behind m (allocate b)) a.1)
all_fit arenas per p q (release b ∷ es) m a = (omega (arith, a.0.start), all_fit arenas per p q es (behind m (release b)) a.1)
all_fit arenas per p q (barrier! ∷ es) m a = (omega arith, all_fit arenas per p q es m a.1)
all_fit arenas per p q (allocate_run b n ∷ es) m a =
    (omega (arith, a.0.start), (omega (arith, a.0.edge), all_fit arenas per p q es (behind m (allocate_run b n)) a.1))
all_fit arenas per p q (release_run b n ∷ es) m a =
    (omega (arith, a.0.start), (omega (arith, a.0.edge), all_fit arenas per p q es (behind m (release_run b n)) a.1))

module _ (g : Geometry) (i : Inside g) where
  -- bytes that are the words which are read in them
  is_log : (log : List ℕ) → bytes_of (words log) ≡ log → readable g log ≡ true → IsLog g log
  unfolding readable
  is_log log e r =
      let m : List ℕ = (read_log g.arenas g.per log).1 in
      let w = ((reads_iff g.arenas g.per i.per_least i.blocks_most log m).0 (ap (λ (t : Bool). (t, m)) r)).1 in
      record { entries = w.0; bytes = sym e ∙ ap bytes_of w.1; allowed = w.2 }

  log_read : (log : List ℕ) (e : IsLog g log) → read_log g.arenas g.per log ≡ (true, behind_all free e.entries)
  log_read log e =
      let ws : List ℕ = all_words e.entries in
      (reads_iff g.arenas g.per i.per_least i.blocks_most log (behind_all free e.entries)).1 (
        omega (arith, ap length e.bytes, length_bytes ws),
        (e.entries, ap words e.bytes ∙ words_bytes ws (all_fit g.arenas g.per i.per_most i.blocks_most e.entries free e.allowed), e.allowed, refl),
      )

  held_is : (log : List ℕ) (e : IsLog g log) → held_at_end g log ≡ holds g log e
  unfolding held_at_end held_blocks marks_of
  held_is log e = ap (λ (r : Result). passing (held_in r.1) 0 (blocks g)) (log_read log e)

  -- "7: bytes that are no log" (7.1)
  is_readable : (log : List ℕ) → Bytes log → Says (readable g log) (IsLog g log)
  unfolding readable
  is_readable log b = record {
    holds = λ r. is_log log (bytes_words log b ((reads_iff g.arenas g.per i.per_least i.blocks_most log _).0 (ap (λ (t : Bool). (t, (read_log g.arenas g.per log).1)) r)).0) r;
    passes = λ e. ap (λ (r : Result). r.0) (log_read log e);
  }

-- flat, as the statements have it
flat : {A B C X : Type 0} → X ↔ (A × (B × C)) → X ↔ (A × B × C)
flat e = (λ x. let w = e.0 x in (w.0, w.1.0, w.1.1), λ w. e.1 (w.0, (w.1, w.2)))

-- ── 2, 3 and 7, in this order, of a buffer of n numbers that is to have at least `least` ──

module _ (g : Geometry) (n least : ℕ) (log : List ℕ) (bytes : Bytes log) (l : List ℕ) where
  abbrev last : List Condition
  last = (7, not (readable g log)) ∷ []

  abbrev middle : List Condition
  middle = (3, ltb n least) ∷ last

  abbrev all : List Condition
  all = (2, not (fits g)) ∷ middle

  by_2 : (decide all l ≡ refused 2) ↔ (Inside g → ⊥)
  by_2 = here (outside g) 2 middle l (omega arith)

  by_3 : (decide all l ≡ refused 3) ↔ (Inside g × (n < least))
  by_3 = later (outside g) 2 middle l (refused 3) (apart (λ e. omega arith)) (λ i. here (less n least) 3 last l (omega arith))

  by_7 : (decide all l ≡ refused 7) ↔ (Inside g × (least ≤ n) × (IsLog g log → ⊥))
  by_7 =
      flat (later (outside g) 2 middle l (refused 7) (apart (λ e. omega arith))
      (λ i. later (less n least) 3 last l (refused 7) (apart (λ e. omega arith))
      (λ k. here (negated (is_readable g i log bytes)) 7 [] l tt)))

  by_none : (m : List ℕ) → (decide all l ≡ accepted m) ↔ (Inside g × (least ≤ n) × (IsLog g log × (l ≡ m)))
  by_none m =
      flat (later (outside g) 2 middle l (accepted m) not_accepted (λ i. later (less n least) 3 last l (accepted m) not_accepted
      (λ k. later (negated (is_readable g i log bytes)) 7 [] l (accepted m) not_accepted (λ e. (accepted_same, ap accepted)))))

-- ── reading: what is settled of the log, every word of it ──

-- a part of bytes is bytes
pub front_byte : (l m : List ℕ) → Bytes (l ++ m) → Bytes l
front_byte [] m k i = omega arith
front_byte (b ∷ l) m k zero = k zero
front_byte (b ∷ l) m k (suc i) = front_byte l m (λ n. k (suc n)) i

-- bytes, by the test
pub is_bytes : (l : List ℕ) → below? 256 l ≡ true → Bytes l
unfolding below?
is_bytes [] e i = omega arith
is_bytes (b ∷ l) e zero = ltb-true b 256 (and_l (ltb b 256) (below? 256 l) e)
is_bytes (b ∷ l) e (suc i) = is_bytes l (and_r (ltb b 256) (below? 256 l) e) i

settled_bytes : (log : List ℕ) → Bytes log → Bytes (settled log)
settled_bytes log b = let s = settled_is log in front_byte (settled log) s.rest (subst Bytes s.split b)

module _ (g : Geometry) (log out : List ℕ) (bytes : Bytes log) where
  abbrev need : ℕ
  need = 2 * blocks g + 64

  abbrev part : List ℕ
  part = settled log

  few : length (held_at_end g part) ≤ blocks g
  unfolding held_at_end held_blocks
  few = pass_length (held_in (marks_of g part)) 0 (blocks g)

  settled_means : ReadMeans g log (settled log) out
  unfolding read_reply every_reply read_out
  settled_means =
      let its : Bytes part = settled_bytes log bytes in
      let left : (r : Reply) → read_reply g log out ≡ r → read_out g log out ≡ leaves r out (sets out 0 (held_at_end g part)) =
      λ r e. ap (λ (r : Reply). leaves r out (sets out 0 (held_at_end g part))) e in
      record {
        two = by_2 g (length out) need part its (held_at_end g part);
        three = by_3 g (length out) need part its (held_at_end g part);
        seven = by_7 g (length out) need part its (held_at_end g part);
        done = λ l.
            let d = by_none g (length out) need part its (held_at_end g part) l in (
              λ e. let (i, k, w) = d.0 e in (i, k, (w.0, sym w.1 ∙ held_is g i part w.0)),
              λ w. d.1 (w.0, w.1, (w.2.0, held_is g w.0 part w.2.0 ∙ sym w.2.1)),
            );
        refusal = λ n e. left (refused n) e;
        gives = λ l e.
            let (i, k, w) = (by_none g (length out) need part its (held_at_end g part) l).0 e in
            subst (Given l out) (ap (sets out 0) (sym w.1) ∙ sym (left (accepted l) e)) (given l out (omega (arith, few, ap length w.1)));
      }

  -- only one part is what is settled
  read_means : (p : List ℕ) → SettledBytes log p → ReadMeans g log p out
  read_means p s = subst (λ (q : List ℕ). ReadMeans g log q out) (sym (settled_alone log p s)) settled_means

-- ── comparing ──

by_verdict : (r : Reply) (t : Bool) (n : ℕ) → (verdict_by r t ≡ turned_away n) ↔ (r ≡ refused n)
by_verdict (accepted l) t n = (λ e. absurd (let z : ◌≡◌ {A = ℕ} 0 1 = cc in omega arith), λ e. absurd (accepted_not e))
by_verdict (refused m) t n = (λ e. let z : m ≡ n = cc in ap refused z, λ e. ap turned_away (refused_same e))

by_judged : (r : Reply) (t u : Bool) → verdict_by r t ≡ judged u → (l : List ℕ) × (r ≡ accepted l) × (t ≡ u)
by_judged (accepted l) t u e = (l, refl, cc)
by_judged (refused m) t u e = absurd (let z : ◌≡◌ {A = ℕ} 0 1 = cc in omega arith)

-- tests that are true together are the same
alike : (t u : Bool) → (t ≡ true → u ≡ true) → (u ≡ true → t ≡ true) → t ≡ u
alike true u f g = sym (f refl)
alike false true f g = g refl
alike false false f g = refl

compare_means : (g : Geometry) (a b : List ℕ) → Bytes a → Bytes b → CompareMeans g a b
unfolding compare_verdict
compare_means g a b ba bb =
    let cs : List Condition = (7, not (readable g a && readable g b)) ∷ [] in
    let both : Inside g → Means (not (readable g a && readable g b)) ((IsLog g a × IsLog g b) → ⊥) (IsLog g a × IsLog g b) =
    λ i. negated (is_readable g i a ba & is_readable g i b bb) in
    let r : Reply = decide (compare_conditions g a b) [] in
    let passed : (l : List ℕ) → (r ≡ accepted l) ↔ (Inside g × ((IsLog g a × IsLog g b) × ([] ≡ l))) = λ l.
    later (outside g) 2 cs [] (accepted l) not_accepted (λ i. later (both i) 7 [] [] (accepted l) not_accepted (λ e. (accepted_same, ap accepted))) in
    let judged-by : Inside g → (x : IsLog g a) (y : IsLog g b) → (alike? g a b ≡ true) ↔ (holds g a x ≡ holds g b y) = λ i x y.
    let k = alike_iff g a b i ((is_readable g i a ba).passes x) ((is_readable g i b bb).passes y) in
    (λ z. sym (held_is g i a x) ∙ k.0 z ∙ held_is g i b y, λ z. k.1 (held_is g i a x ∙ z ∙ sym (held_is g i b y))) in
    record {
      two = Iff.trans (by_verdict r (alike? g a b) 2) (here (outside g) 2 cs [] (omega arith));
      seven = Iff.trans (by_verdict r (alike? g a b) 7) (later (outside g) 2 cs [] (refused 7) (apart (λ e. omega arith)) (λ i. here (both i) 7 [] [] tt));
      done = λ t. (
        λ e.
            let (l, d, same) = by_judged r (alike? g a b) t e in
            let (i, (logs, none)) = (passed l).0 d in
            let (x, y) = logs in
            let k = judged-by i x y in
            (i, (x, (y, (λ z. k.0 (same ∙ z), λ z. sym same ∙ k.1 z)))),
        λ w.
            let (i, (x, (y, k))) = w in
            let j = judged-by i x y in
            ap (λ (v : Reply). verdict_by v (alike? g a b)) ((passed []).1 (i, ((x, y), refl))) ∙
            ap judged (alike (alike? g a b) t (λ z. k.1 (j.0 z)) (λ z. j.1 (k.0 z))),
      );
    }

-- ── compressing ──

module _ (g : Geometry) (log out : List ℕ) (bytes : Bytes log) where
  abbrev ws : List ℕ
  ws = compact_words g log

  abbrev new : List ℕ
  new = take (8 * length ws) (write_at out 0 (bytes_of ws))

  new_is : new ≡ bytes_of ws
  unfolding write_at
  new_is = take_at (bytes_of ws) _ (8 * length ws) (length_bytes ws)

  -- what is written is a log, of the same blocks
  anew : Inside g → (e : IsLog g log) → (f : IsLog g new) × (holds g new f ≡ holds g log e)
  unfolding compact_words
  anew i e =
      let alike = compressed_alike g log i ((is_readable g i log bytes).passes e) in
      let f : IsLog g new = is_log g i new
      (ap (λ (l : List ℕ). bytes_of (words l)) new_is ∙
      ap bytes_of (words_bytes ws (compressed_fits g.arenas g.per i.per_least i.blocks_most (held_in (marks_of g log)))) ∙ sym new_is)
      (ap (readable g) new_is ∙ alike.1) in
      (f, sym (held_is g i new f) ∙ ap (held_at_end g) new_is ∙ sym alike.2 ∙ held_is g i log e)

  its_words : Inside g → (e : IsLog g log) → ws ≡ compressed_of g (held_in (behind_all free e.entries))
  unfolding compact_words marks_of
  its_words i e =
      ap (λ (r : Result). compressed g.arenas g.per (held_in r.1)) (log_read g i log e) ∙
      sym (compressed_of_lem g (held_in (behind_all free e.entries)))

  room : Inside g → 8 * g.words ≤ length out → 8 * length ws ≤ length out
  unfolding compact_words
  room i k = omega (arith, compressed_length g.arenas g.per (held_in (marks_of g log)), i.words_least)

  compact_means : CompactMeans g log out
  unfolding compact_reply compact_out
  compact_means =
      let left : (r : Reply) → compact_reply g log out ≡ r → compact_out g log out ≡ leaves r out (write_at out 0 (bytes_of ws)) =
      λ r e. ap (λ (r : Reply). leaves r out (write_at out 0 (bytes_of ws))) e in
      record {
        two = by_2 g (length out) (8 * g.words) log bytes (length ws ∷ []);
        three = by_3 g (length out) (8 * g.words) log bytes (length ws ∷ []);
        seven = by_7 g (length out) (8 * g.words) log bytes (length ws ∷ []);
        done = (
          λ w. let (l, e) = w in let (i, k, v) = (by_none g (length out) (8 * g.words) log bytes (length ws ∷ []) l).0 e in (i, k, v.0),
          λ w. let (i, k, e) = w in (length ws ∷ [], (by_none g (length out) (8 * g.words) log bytes (length ws ∷ []) (length ws ∷ [])).1 (i, k, (e, refl))),
        );
        refusal = λ n e. left (refused n) e;
        gives = λ l e.
            let (i, k, w) = (by_none g (length out) (8 * g.words) log bytes (length ws ∷ []) l).0 e in
            let (f, alike) = anew i w.0 in (
              length ws,
              (
                sym w.1,
                subst (Compacted g log (length ws) out) (sym (left (accepted l) e)) (record {
                  within = within 0 (8 * length ws) out (bytes_of ws) (omega (arith, length_bytes ws)) (room i k);
                  words = λ x. new_is ∙ ap bytes_of (its_words i x);
                  again = f;
                  same = λ x. alike ∙ sym (held_is g i log w.0) ∙ held_is g i log x;
                }),
              ),
            );
      }

-- THE FUNCTIONS ON LOGS, whatever is lent
pub tools_mean : ToolsMean
tools_mean g log bytes = record {
  settles = (settled log, settled_by_bytes log);
  reads = λ part out s. read_means g log out bytes part s;
  compares = λ other b. compare_means g log other bytes b;
  compacts = λ out. compact_means g log out bytes;
}
