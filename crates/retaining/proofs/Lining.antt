-- The records of a line are written to a buffer, newest first.
use mathlib.Core.Path.{◌≡◌, refl, sym, ap, ap₂, ◌∙◌}
use mathlib.Core.List.{List, [], ◌∷◌, ◌++◌, append_assoc}
use Prim.Native.Nat.{ℕ, zero, suc, ◌+◌, ◌-◌, ◌≤◌, ◌<◌}
use native.Mathlib.Omega.{arith}
use native.Mathlib.Numerals.{add-one}
use lib.ListN.{length, get_or, set, length-set, length-append}
use lib.Seq.{get_or-set_same, get_or-set_other}
use Rattle.geometry.specs.declared.Geometry.{Geometry}
use Rattle.model.specs.View.{View}
use Rattle.model.specs.Sound.{Sound}
use Rattle.model.specs.Window.{older, sealed_of}
use Rattle.model.specs.Layout.{prev_cell, view_of}
use Rattle.model.proofs.WindowLine.{older_next, older_none, line_short}
use Rattle.model.proofs.WindowFacts.{sealed_length}
use Rattle.tables.specs.Ready.{Ready}
use Rattle.tables.proofs.Fields
use Rattle.tables.proofs.Ranges
use Rattle.retaining.specs.Lines.{backwards, Lined}

-- ── a buffer read backwards ──

backwards_length : (line : List ℕ) (n : ℕ) → length (backwards line n) ≡ n
unfolding backwards
backwards_length line zero = refl
backwards_length line (suc n) = ap suc (backwards_length line n)

-- the last two of them
pub backwards_two : (line : List ℕ) (i : ℕ) → 0 < i → backwards line (suc i) ≡ get_or line i 0 ∷ get_or line (i - 1) 0 ∷ backwards line (i - 1)
unfolding backwards
backwards_two line zero h = absurd (let z : ⊥ = omega arith in z)
backwards_two line (suc j) h =
    ap (λ k. get_or line (suc j) 0 ∷ get_or line k 0 ∷ backwards line k) (let z : j ≡ suc j - 1 = omega arith in z)

pub backwards_one : (line : List ℕ) (i : ℕ) → backwards line (suc i) ≡ get_or line i 0 ∷ backwards line i
unfolding backwards
backwards_one line i = refl

pub backwards_last : (line : List ℕ) → backwards line 1 ≡ get_or line 0 0 ∷ []
unfolding backwards
backwards_last line = refl

-- a number after them
backwards_past : (line : List ℕ) (k n v : ℕ) → n ≤ k → backwards (set line k v) n ≡ backwards line n
unfolding backwards
backwards_past line k zero v h = refl
backwards_past line k (suc n) v h =
    ap₂ {C = List ℕ} (λ (b : ℕ) (l : List ℕ). b ∷ l)
    (get_or-set_other line k n v 0 (λ e. let z : ⊥ = omega arith in z)) (backwards_past line k n v (omega arith))

backwards_more : (line : List ℕ) (n v : ℕ) → n < length line → backwards (set line n v) (suc n) ≡ v ∷ backwards line n
unfolding backwards
backwards_more line n v h =
    ap₂ {C = List ℕ} (λ (b : ℕ) (l : List ℕ). b ∷ l) (get_or-set_same line n v 0 h) (backwards_past line n n v (omega arith))

-- ── the walk by `prev` ──

-- the records of a line up to the one that a link leads to
pub line_to : View → ℕ → List ℕ
line_to K zero = []
line_to K (suc p) = sealed_of K p

older_to : (K : View) → Sound K → (s : ℕ) → 0 < K.num s → older K s ≡ line_to K (K.prev s)
unfolding line_to
older_to K S s h = go (K.prev s) refl
  where
    go : (l : ℕ) → K.prev s ≡ l → older K s ≡ line_to K l
    go zero e = older_none K S s h e
    go (suc p) e = older_next K S s h p e

sealed_to : (K : View) → Sound K → (s : ℕ) → 0 < K.num s → sealed_of K s ≡ line_to K (K.prev s) ++ (s ∷ [])
unfolding sealed_of
sealed_to K S s h = ap {B = List ℕ} (λ (l : List ℕ). l ++ (s ∷ [])) (older_to K S s h)

-- the link l leads to p
to_last : (K : View) → Sound K → (p l : ℕ) → 0 < K.num p → l ≡ suc p → line_to K l ≡ line_to K (K.prev p) ++ (p ∷ [])
unfolding line_to
to_last K S p l h e = ap (line_to K) e ∙ sealed_to K S p h

to_none : (K : View) (l : ℕ) → l ≤ 0 → (m : List ℕ) → line_to K l ++ m ≡ m
unfolding line_to
to_none K zero h m = refl
to_none K (suc l) h m = absurd (let z : ⊥ = omega arith in z)

-- `count` records of the line of s are written, and the link leads to the one before them
pub record Lining (g : Geometry) (t : List ℕ) (s : ℕ) (line : List ℕ) (count link : ℕ) : Type 0 where
  pub long : length line ≡ 64
  pub live : (p : ℕ) → link ≡ suc p → 0 < (view_of g t).num p
  pub parts : line_to (view_of g t) link ++ backwards line count ≡ sealed_of (view_of g t) s

module _ {g : Geometry} {t : List ℕ} (R : Ready g t) (s : ℕ) (hs : 0 < (view_of g t).num s) where
  abbrev K : View
  K = view_of g t

  few : length (sealed_of K s) ≤ 64
  few = omega (arith, line_short K (Ranges.sound R) s hs, Fields.slots_is g t, R.roomy.inside.records_most)

  -- the link of a record's cell
  linked : (p l : ℕ) → 0 < K.num p → l ≡ get_or t (prev_cell p) 0 → l ≡ K.prev p
  linked p l h e = e ∙ sym (Fields.prev_is g t p (Ranges.slot_in R p h))

  pub lining_first : (line : List ℕ) (link : ℕ) → length line ≡ 64 → link ≡ get_or t (prev_cell s) 0 → Lining g t s (set line 0 s) 1 link
  unfolding backwards
  lining_first line link len e =
      let d : link ≡ K.prev s = linked s link hs e in
      record {
        long = length-set line 0 s ∙ len;
        live = λ p k. ((Ranges.sound R).links.prevs s p hs (sym d ∙ k)).live;
        parts =
            ap₂ {C = List ℕ} (λ (l : ℕ) (b : ℕ). line_to K l ++ (b ∷ [])) d (get_or-set_same line 0 s 0 (omega arith)) ∙
            sym (sealed_to K (Ranges.sound R) s hs);
      }

  module _ (line : List ℕ) (count link : ℕ) (L : Lining g t s line count link) where
    counted : length (line_to K link) + count ≡ length (sealed_of K s)
    counted =
        omega (arith, ap length L.parts, length-append (line_to K link) (backwards line count), backwards_length line count)

    pub lining_some : 0 < link → 0 < (view_of g t).num (link - 1)
    lining_some h = L.live (link - 1) (omega arith)

    pub lining_room : 0 < link → count < 64
    unfolding line_to
    lining_room h = go link counted h
      where
        go : (l : ℕ) → length (line_to K l) + count ≡ length (sealed_of K s) → 0 < l → count < 64
        go zero e k = absurd (let z : ⊥ = omega arith in z)
        go (suc p) e k = omega (arith, few, sealed_length K p)

    pub lining_next : (next : ℕ) → 0 < link → next ≡ get_or t (prev_cell (link - 1)) 0 → Lining g t s (set line count (link - 1)) (count + 1) next
    lining_next next h e =
        let p : ℕ = link - 1 in
        let hp = lining_some h in
        let d : next ≡ K.prev p = linked p next hp e in
        let one : line_to K link ≡ line_to K next ++ (p ∷ []) =
        to_last K (Ranges.sound R) p link hp (omega arith) ∙ ap {B = List ℕ} (λ (l : ℕ). line_to K l ++ (p ∷ [])) (sym d) in
        record {
          long = length-set line count p ∙ L.long;
          live = λ q k. ((Ranges.sound R).links.prevs p q hp (sym d ∙ k)).live;
          parts =
              ap {B = List ℕ} (λ (n : ℕ). line_to K next ++ backwards (set line count p) n) (add-one count) ∙
              ap {B = List ℕ} (λ (l : List ℕ). line_to K next ++ l) (backwards_more line count p (omega (arith, L.long, lining_room h))) ∙
              sym (append_assoc (line_to K next) (p ∷ []) (backwards line count)) ∙
              ap {B = List ℕ} (λ (l : List ℕ). l ++ backwards line count) (sym one) ∙ L.parts;
        }

    pub lining_last : link ≤ 0 → Lined (view_of g t) s line count
    lining_last h = record {
      live = hs;
      few = omega (arith, counted, few);
      slots = sym (to_none K link h (backwards line count)) ∙ L.parts;
    }

-- ── what such a buffer has ──

module _ {K : View} {r n : ℕ} {line : List ℕ} (L : Lined K r line n) where
  pub lined_count : n ≡ length (sealed_of K r)
  lined_count = sym (backwards_length line n) ∙ ap length L.slots

  pub lined_some : 0 < n
  lined_some = omega (arith, lined_count, sealed_length K r)

-- its first number is r, the newest
final : List ℕ → ℕ → ℕ
final [] d = d
final (b ∷ l) d = final l b

final_last : (l : List ℕ) (r d : ℕ) → final (l ++ (r ∷ [])) d ≡ r
unfolding final
final_last [] r d = refl
final_last (b ∷ l) r d = final_last l r b

final_backwards : (line : List ℕ) (n d : ℕ) → final (backwards line (suc n)) d ≡ get_or line 0 0
unfolding backwards final
final_backwards line zero d = refl
final_backwards line (suc n) d = final_backwards line n (get_or line (suc n) 0)

pub lined_newest : {K : View} {r n : ℕ} {line : List ℕ} → Lined K r line n → get_or line 0 0 ≡ r
unfolding sealed_of
lined_newest {K} {r} {n} {line} L =
    let d : suc (n - 1) ≡ n = (let h = lined_some L in let z : suc (n - 1) ≡ n = omega arith in z) in
    sym (final_backwards line (n - 1) 0) ∙ ap (λ l. final l 0) (ap (backwards line) d ∙ L.slots) ∙ final_last (older K r) r 0
