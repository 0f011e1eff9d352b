-- The window: the paper's loop deletes the victims, it stops where it should, and it takes the oldest that may go.
use mathlib.Core.Path.{◌≡◌, refl, sym, ap, ap₂, ◌∙◌, subst}
use mathlib.Core.Logic.{inl, inr, ◌↔◌}
use mathlib.Core.Bool.{Bool, true, false, not, ◌&&◌, true≢false}
use mathlib.Core.List.{List, [], ◌∷◌, ◌++◌, map, append-nil}
use Prim.Native.Nat.{ℕ, zero, suc, ◌+◌, ◌-◌, ◌≤◌, ◌<◌}
use native.Mathlib.Omega.{arith}
use lib.Dec.{eqb, ltb}
use lib.ListN.{length, take, length-append}
use borrow.Author.Tests.{eq-eqb, ne_eqb, eqb-true, lt-ltb, le-ltb}
use Rattle.model.specs.View.{View}
use Rattle.model.specs.Lists.{In, Once, elem, keep_if, trim, on_first}
use Rattle.model.specs.Sound.{Sound}
use Rattle.model.specs.Actions.{do_d, forked, delete}
use Rattle.model.specs.Held.{held_count}
use Rattle.model.specs.Window.{steps, frees_along, AsksAlong, OrderAlong, older, sealed_of, bare, victims, trimming, may_go, Trimmed}
use Rattle.model.specs.Window.{untrimmed, delete_first, trim_loop, WindowStops, WindowTakes}
use Rattle.answer.proofs.Cases.{cases, either, same?, lt?}
use Rattle.model.proofs.ListFacts.{keep_yes, keep_no, in_keep, of_keep, pw_keep, pw_map, keep_ext, keep_append, in_left, of_append}
use Rattle.model.proofs.Waiting.{not_in_elem}
use Rattle.model.proofs.WindowLine.{older_rising, older_once, older_less}
use Rattle.model.proofs.WindowDelete.{rest, cut_sound, cut_live, older_cut}
use Rattle.model.proofs.WindowLists.{of_rest, rest_length, keep_rest, of_take, pw_take, take_before, take_all_or, take_most, but_last_snoc}
use Rattle.model.proofs.WindowAlong.{MayGo, Thinned, steps_sound, head_live, head_free, head_not, head_forks, asks_along, orders_along, thinned}
use Rattle.model.proofs.WindowAlong.{frees_held}

-- ── neither a fork nor a name ──

pub bare_yes : (K : View) (names : ℕ → ℕ) (s : ℕ) → forked K s ≡ 0 → names s ≡ 0 → bare K names s ≡ true
unfolding bare
bare_yes K names s f n = rw (eq-eqb (forked K s) 0 f, eq-eqb (names s) 0 n)

pub bare_is : (K : View) (names : ℕ → ℕ) (s : ℕ) → bare K names s ≡ true → (forked K s ≡ 0) × (names s ≡ 0)
unfolding bare
bare_is K names s = go (eqb (forked K s) 0) (eqb (names s) 0) refl refl
  where
    go : (b c : Bool) → eqb (forked K s) 0 ≡ b → eqb (names s) 0 ≡ c → (b && c) ≡ true → (forked K s ≡ 0) × (names s ≡ 0)
    go true true f n e = (eqb-true (forked K s) 0 f, eqb-true (names s) 0 n)
    go true false f n e = absurd (true≢false (sym e))
    go false c f n e = absurd (true≢false (sym e))

-- names are the same all along, so it goes by the forks
pub bare_same : (K L : View) (names : ℕ → ℕ) (s : ℕ) → (forked L s ≡ 0) ↔ (forked K s ≡ 0) → bare L names s ≡ bare K names s
unfolding bare
bare_same K L names s f =
    cases (same? (forked K s) 0)
    (λ z. rw (eq-eqb (forked K s) 0 z, eq-eqb (forked L s) 0 (f.1 z)))
    (λ n. rw (ne_eqb (forked K s) 0 n, ne_eqb (forked L s) 0 (λ z. n (f.0 z))))

-- the sealed records that may go, oldest first
abbrev pub loose : View → (ℕ → ℕ) → ℕ → List ℕ
loose K names r = keep_if (bare K names) (older K r)

pub sealed_length : (K : View) (r : ℕ) → length (sealed_of K r) ≡ length (older K r) + 1
unfolding sealed_of
sealed_length K r = length-append (older K r) (r ∷ [])

-- an older sealed record is before r
pub of_sealed : (K : View) (r s : ℕ) → In s (sealed_of K r) → (s ≡ r → ⊥) → In s (older K r)
unfolding sealed_of
of_sealed K r s i d = cases (of_append s (older K r) (r ∷ []) i) (λ j. j) (λ j. cases j (λ e. absurd (d e)) (λ z. absurd z))

-- the victims are the first of these
pub victims_are : (K : View) (names : ℕ → ℕ) (n r : ℕ) → victims K names (suc n) r ≡ take (length (sealed_of K r) - suc n) (loose K names r)
unfolding victims trim sealed_of
victims_are K names n r = ap (λ l. take (length (sealed_of K r) - suc n) (keep_if (bare K names) l)) (but_last_snoc (older K r) r)

-- so are those of the loop
pub loop_loose : (K : View) (names : ℕ → ℕ) (r : ℕ) → Sound K → 0 < K.num r → keep_if (may_go K names r) (sealed_of K r) ≡ loose K names r
unfolding sealed_of may_go keep_if
loop_loose K names r S h =
    keep_append (may_go K names r) (older K r) (r ∷ []) ∙
    ap₂ {C = List ℕ} (λ (l m : List ℕ). l ++ m)
    (keep_ext (may_go K names r) (bare K names) (older K r)
    (λ s i. rw (ne_eqb s r (λ e. let z : ⊥ = omega (arith, older_less K S r h s i, ap K.num e) in z))))
    (keep_no (may_go K names r) r [] (rw (eq-eqb r r refl))) ∙
    append-nil (loose K names r)

-- ── records that may go, from a list of those that are loose ──

-- a list of loose records, in order
first_may : (K : View) (names : ℕ → ℕ) (r k : ℕ) → Sound K → 0 < K.num r → MayGo K r (take k (loose K names r))
first_may K names r k S h = record {
  sound = S;
  live = h;
  before = λ v i. (of_keep (bare K names) v (older K r) (of_take k (loose K names r) v i)).0;
  free = λ v i. (bare_is K names v (of_keep (bare K names) v (older K r) (of_take k (loose K names r) v i)).1).0;
  rising = pw_take (λ s t. K.num s < K.num t) k (loose K names r)
      (pw_keep (bare K names) (λ s t. K.num s < K.num t) (older K r) (older_rising K S r h));
}

pub victims_may : (K : View) (names : ℕ → ℕ) (n r : ℕ) → Sound K → 0 < K.num r → MayGo K r (victims K names n r)
unfolding victims
victims_may K names zero r S h = first_may K names r 0 S h
victims_may K names (suc n) r S h = subst (MayGo K r) (sym (victims_are K names n r)) (first_may K names r (length (sealed_of K r) - suc n) S h)

-- none of them has a fork or a name on it
pub victims_bare : (K : View) (names : ℕ → ℕ) (n r s : ℕ) → In s (victims K names n r) → bare K names s ≡ true
unfolding victims
victims_bare K names zero r s i = absurd i
victims_bare K names (suc n) r s i =
    (of_keep (bare K names) s (older K r)
    (of_take (length (sealed_of K r) - suc n) (loose K names r) s (rw (victims_are K names n r) at i))).1

-- EVERY DELETE OF A WINDOW IS ONE THAT THE STORE IT MEETS ALLOWS, so the store stays sound; what they free was held
pub window_asks : (K : View) (names : ℕ → ℕ) (n r : ℕ) → Sound K → 0 < K.num r → AsksAlong K (trimming K names n r)
window_asks K names n r S h = asks_along (victims K names n r) K r (victims_may K names n r S h)

-- and frees and joins in the order of rule 4.2
pub window_orders : (K : View) (names : ℕ → ℕ) (n r : ℕ) → Sound K → 0 < K.num r → OrderAlong K (victims K names n r)
window_orders K names n r S h = orders_along (victims K names n r) K r (victims_may K names n r S h)

pub window_sound : (K : View) (names : ℕ → ℕ) (n r : ℕ) → Sound K → 0 < K.num r → Sound (steps K (trimming K names n r))
window_sound K names n r S h = steps_sound K (trimming K names n r) S (window_asks K names n r S h)

pub window_held : (K : View) (names : ℕ → ℕ) (n r : ℕ) → Sound K → 0 < K.num r → length (frees_along K (trimming K names n r)) ≤ held_count K
window_held K names n r S h = omega (arith, frees_held (victims K names n r) K S (window_asks K names n r S h))

-- ── the loop ──

-- one loose record is deleted: the others are loose still, and one sealed record less is left
module _ (K : View) (names : ℕ → ℕ) (r v : ℕ) (c : List ℕ) (S : Sound K) (h : 0 < K.num r) (e : loose K names r ≡ v ∷ c) where
  pub first : MayGo K r (v ∷ [])
  first = rw e at (first_may K names r 1 S h)

  abbrev L : View
  L = delete K v

  pub next_sound : Sound L
  next_sound = cut_sound K S v (head_live K r v [] first) (head_free K r v [] first)

  pub next_live : 0 < L.num r
  next_live = cut_live K S v (head_live K r v [] first) (head_free K r v [] first) r (head_not K r v [] first) h

  next_older : older L r ≡ rest (v ∷ []) (older K r)
  next_older = older_cut K S v (head_live K r v [] first) (head_free K r v [] first) r h (head_not K r v [] first)

  same_bare : (t : ℕ) → bare L names t ≡ bare K names t
  same_bare t = bare_same K L names t (head_forks K r v [] first t)

  pub next_loose : loose L names r ≡ c
  next_loose =
      keep_ext (bare L names) (bare K names) (older L r) (λ t i. same_bare t) ∙ ap (keep_if (bare K names)) next_older ∙
      keep_rest (bare K names) v (older K r) c (older_once K S r h) e

  pub next_length : length (sealed_of K r) ≡ suc (length (sealed_of L r))
  next_length =
      let a = rest_length (v ∷ []) (older K r) (λ b i. absurd i, tt) (older_once K S r h) (λ s i. first.before s i) in
      omega (arith, sealed_length K r, sealed_length L r, ap length next_older)

-- the deletions of vs, told as the loop tells them
abbrev pub trimmed_by : View → List ℕ → Trimmed
trimmed_by K vs = record { store = steps K (map do_d vs); gone = vs; freed = frees_along K (map do_d vs) }

trimmed_none : (K : View) → untrimmed K ≡ trimmed_by K []
unfolding steps frees_along
trimmed_none K = refl

trimmed_next : (K : View) (v : ℕ) (ws : List ℕ) → delete_first K v (trimmed_by (delete K v) ws) ≡ trimmed_by K (v ∷ ws)
unfolding steps frees_along
trimmed_next K v ws = refl

-- a turn
loop_ends : (names : ℕ → ℕ) (k n r : ℕ) (K : View) → length (sealed_of K r) ≤ n → trim_loop k K names n r ≡ untrimmed K
unfolding trim_loop
loop_ends names zero n r K h = refl
loop_ends names (suc k) n r K h = rw (le-ltb n (length (sealed_of K r)) h)

loop_stuck : (names : ℕ → ℕ) (k n r : ℕ) (K : View) → keep_if (may_go K names r) (sealed_of K r) ≡ [] → trim_loop k K names n r ≡ untrimmed K
unfolding trim_loop on_first
loop_stuck names zero n r K e = refl
loop_stuck names (suc k) n r K e =
    cases (either (ltb n (length (sealed_of K r)))) (λ y. rw (y, e)) (λ y. rw y)

loop_turn : (names : ℕ → ℕ) (k n r v : ℕ) (c : List ℕ) (K : View) → n < length (sealed_of K r) → keep_if (may_go K names r) (sealed_of K r) ≡ v ∷ c →
    trim_loop (suc k) K names n r ≡ delete_first K v (trim_loop k (delete K v) names n r)
unfolding trim_loop on_first
loop_turn names k n r v c K h e = rw (lt-ltb n (length (sealed_of K r)) h, e)

pub take_none : (k : ℕ) → take {A = ℕ} k [] ≡ []
take_none zero = refl
take_none (suc k) = refl

loop_trims : (names : ℕ → ℕ) (n r : ℕ) (c : List ℕ) (k : ℕ) (K : View) → Sound K → 0 < K.num r → loose K names r ≡ c → length (sealed_of K r) ≤ k →
    trim_loop k K names n r ≡ trimmed_by K (take (length (sealed_of K r) - n) c)
loop_trims names n r c zero K S h e m = absurd (let z : ⊥ = omega (arith, sealed_length K r) in z)
loop_trims names n r [] (suc k) K S h e m =
    loop_stuck names (suc k) n r K (loop_loose K names r S h ∙ e) ∙ trimmed_none K ∙ ap (trimmed_by K) (sym (take_none (length (sealed_of K r) - n)))
loop_trims names n r (v ∷ c) (suc k) K S h e m =
    cases (lt? n (length (sealed_of K r)))
    (λ l.
    let len = next_length K names r v c S h e in
    let ih = loop_trims names n r c k (delete K v) (next_sound K names r v c S h e) (next_live K names r v c S h e) (next_loose K names r v c S h e)
    (omega arith) in
    let d : length (sealed_of K r) - n ≡ suc (length (sealed_of (delete K v) r) - n) = omega arith in
    loop_turn names k n r v c K l (loop_loose K names r S h ∙ e) ∙ ap (delete_first K v) ih ∙
    trimmed_next K v (take (length (sealed_of (delete K v) r) - n) c) ∙
    ap (λ i. trimmed_by K (take i (v ∷ c))) (sym d))
    (λ l.
    let d : length (sealed_of K r) - n ≡ 0 = omega arith in
    loop_ends names (suc k) n r K l ∙ trimmed_none K ∙ ap (λ i. trimmed_by K (take i (v ∷ c))) (sym d))

-- THE PAPER'S LOOP deletes exactly the victims, in their order, and leaves what the deletes one after another leave
pub window_loop : (K : View) (names : ℕ → ℕ) (k n r : ℕ) → Sound K → 0 < K.num r → 0 < n → length (sealed_of K r) ≤ k →
    trim_loop k K names n r ≡ record { store = steps K (trimming K names n r); gone = victims K names n r; freed = frees_along K (trimming K names n r) }
window_loop K names k zero r S h p m = absurd (let z : ⊥ = omega arith in z)
window_loop K names k (suc n) r S h p m =
    loop_trims names (suc n) r (loose K names r) k K S h refl m ∙ ap (trimmed_by K) (sym (victims_are K names n r))

-- ── where it stops, and what it takes ──

module _ (K : View) (names : ℕ → ℕ) (n r : ℕ) (S : Sound K) (h : 0 < K.num r) where
  vs : List ℕ
  vs = victims K names n r

  M : MayGo K r vs
  unfolding vs
  M = victims_may K names n r S h

  after : Thinned K (steps K (trimming K names n r)) r vs
  unfolding vs
  after = thinned (victims K names n r) K r (victims_may K names n r S h)

  less : (s : ℕ) → In s vs → K.num s < K.num r
  less s i = older_less K S r h s (M.before s i)

  r_stays : In r vs → ⊥
  r_stays i = let z : ⊥ = omega (arith, less r i) in z

  left_older : older (steps K (trimming K names n r)) r ≡ rest vs (older K r)
  left_older = after.older r h r_stays

  vs_once : Once vs
  vs_once = pw_map vs (λ b c i j l e. let z : ⊥ = omega (arith, ap K.num e) in z) M.rising

  left_length : length (sealed_of (steps K (trimming K names n r)) r) + length vs ≡ length (sealed_of K r)
  left_length =
      let a = rest_length vs (older K r) vs_once (older_once K S r h) (λ s i. M.before s i) in
      omega (arith, sealed_length K r, sealed_length (steps K (trimming K names n r)) r, ap length left_older)

  in_sealed : (s : ℕ) → In s (older K r) → In s (sealed_of K r)
  unfolding sealed_of
  in_sealed s i = in_left s (older K r) (r ∷ []) i

  left_sealed : sealed_of (steps K (trimming K names n r)) r ≡ rest vs (sealed_of K r)
  unfolding sealed_of keep_if
  left_sealed =
      ap {B = List ℕ} (λ (l : List ℕ). l ++ (r ∷ [])) left_older ∙
      ap {B = List ℕ} (λ (l : List ℕ). rest vs (older K r) ++ l) (sym (keep_yes (λ s. not (elem s vs)) r [] (rw (not_in_elem r vs r_stays)))) ∙
      sym (keep_append (λ s. not (elem s vs)) (older K r) (r ∷ []))

-- how many go, and who might have
most : (K : View) (names : ℕ → ℕ) (n r s : ℕ) → In s (victims K names n r) → length (victims K names n r) + n ≤ length (sealed_of K r)
unfolding victims
most K names zero r s i = absurd i
most K names (suc n) r s i =
    let k : ℕ = length (sealed_of K r) - suc n in
    let w = ap length (victims_are K names n r) in
    let t = take_most k (loose K names r) in
    cases (same? k 0)
    (λ e. absurd (let z : In s [] = rw (victims_are K names n r ∙ ap (λ m. take m (loose K names r)) e) at i in z))
    (λ d. omega arith)

oldest : (K : View) (names : ℕ → ℕ) (n r s t : ℕ) → Sound K → 0 < K.num r → In s (victims K names n r) →
    In t (loose K names r) → (In t (victims K names n r) → ⊥) → K.num s < K.num t
unfolding victims
oldest K names zero r s t S h i j d = absurd i
oldest K names (suc n) r s t S h i j d =
    take_before (λ s t. K.num s < K.num t) (length (sealed_of K r) - suc n) (loose K names r) s t
    (pw_keep (bare K names) (λ s t. K.num s < K.num t) (older K r) (older_rising K S r h))
    (rw (victims_are K names n r) at i) j (λ w. d (rw (victims_are K names n r) w))

-- THE WINDOW STOPS where at most n sealed records are left, or all but the newest have a fork or a name on them
pub window_stops : (K : View) (names : ℕ → ℕ) (n r : ℕ) → Sound K → 0 < K.num r → 0 < n → WindowStops (steps K (trimming K names n r)) names n r
unfolding vs
window_stops K names zero r S h p = absurd (let z : ⊥ = omega arith in z)
window_stops K names (suc n) r S h p =
    cases (take_all_or (length (sealed_of K r) - suc n) (loose K names r))
    (λ e. inr (λ s i d.
    let j = of_sealed (steps K (trimming K names (suc n) r)) r s i d in
    let w = of_rest (victims K names (suc n) r) s (older K r) (rw (left_older K names (suc n) r S h) at j) in
    cases (lt? 0 (forked (steps K (trimming K names (suc n) r)) s)) (λ f. inl f)
    (λ f. cases (lt? 0 (names s)) (λ m. inr m)
    (λ m.
    let z : forked K s ≡ 0 = ((after K names (suc n) r S h).forks s).0 (let z : forked (steps K (trimming K names (suc n) r)) s ≡ 0 = omega arith in z) in
    let c : In s (loose K names r) = in_keep (bare K names) s (older K r) w.0 (bare_yes K names s z (omega arith)) in
    absurd (w.1 (rw (victims_are K names n r ∙ e) c))))))
    (λ e. inl (omega (arith, left_length K names (suc n) r S h, ap length (victims_are K names n r))))

-- THE WINDOW TAKES the oldest that may go, and not one more than needed
pub window_takes : (K : View) (names : ℕ → ℕ) (n r : ℕ) → Sound K → 0 < K.num r → WindowTakes K (steps K (trimming K names n r)) names n r
unfolding vs
window_takes K names n r S h =
    let N = M K names n r S h in
    let T = after K names n r S h in
    record {
      sealed = λ s i. in_sealed K names n r S h s (N.before s i);
      not_newest = λ s i. less K names n r S h s i;
      unforked = λ s i. N.free s i;
      nameless = λ s i. (bare_is K names s (victims_bare K names n r s i)).1;
      rising = N.rising;
      oldest = λ s t i j d f m c. oldest K names n r s t S h i
          (in_keep (bare K names) t (older K r) (of_sealed K r t j d) (bare_yes K names t f m)) c;
      needed = λ s i. omega (arith, left_length K names n r S h, most K names n r s i);
      gone = T.gone;
      num = T.num;
      is_open = T.is_open;
      base = T.base;
      page = T.page;
      last = T.last;
      left = left_sealed K names n r S h;
      forks = T.forks;
    }
