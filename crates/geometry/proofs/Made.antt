-- What a made geometry tells, and what its making replies.
use mathlib.Core.Path.{◌≡◌, refl, sym, ap, ◌∙◌, subst}
use mathlib.Core.Bool.{Bool, true, false, cond, not, ◌&&◌}
use mathlib.Core.Logic.{◌↔◌}
use mathlib.Core.List.{[], ◌∷◌}
use Prim.Native.Nat.{ℕ, ◌≤◌}
use native.Mathlib.Omega.{arith}
use lib.Dec.{leb}
use borrow.Author.Tests.{leb-true, le-leb}
use Rattle.answer.specs.Refusal.{decide}
use Rattle.geometry.specs.declared.Geometry.{Geometry}
use Rattle.std.specs.Prelude.{Result, Ok, Err}
use Rattle.answer.specs.declared.Refusal.{Refusal}
use Rattle.answer.specs.declared.Refusal.TheVariants.{OutsideLimits}
use Rattle.geometry.specs.Limits.{min_arenas, max_arenas, min_per, max_per, max_blocks, min_pages, max_pages, min_records, max_records}
use Rattle.geometry.specs.Limits.{min_turn, max_turn, min_words, max_words, blocks, geometry_of, Inside, within, fits, making_of}
use Rattle.geometry.specs.Making.{reply_of, making}

-- ── tests ──

pub and_true : (a b : Bool) → a && b ≡ true → (a ≡ true) × (b ≡ true)
and_true true b e = (refl, e)
and_true false true e = (e, refl)
and_true false false e = (e, e)

within_true : (lo x hi : ℕ) → within lo x hi ≡ true → (lo ≤ x) × (x ≤ hi)
unfolding within
within_true lo x hi e =
    let b = and_true (leb lo x) (leb x hi) e in
    (leb-true lo x b.0, leb-true x hi b.1)

pub within_most : (lo x hi : ℕ) → within lo x hi ≡ true → x ≤ hi
within_most lo x hi e = (within_true lo x hi e).1

is_within : (lo x hi : ℕ) → lo ≤ x → x ≤ hi → within lo x hi ≡ true
unfolding within
is_within lo x hi h k = rw (le-leb lo x h, le-leb x hi k)

-- ── the limits, as a test and as facts ──

pub fits_inside : (g : Geometry) → fits g ≡ true → Inside g
unfolding fits
fits_inside g e =
    let a = and_true _ _ e in
    let b = and_true _ _ a.1 in
    let c = and_true _ _ b.1 in
    let d = and_true _ _ c.1 in
    let f = and_true _ _ d.1 in
    let h = and_true _ _ f.1 in
    let wa = within_true min_arenas g.arenas max_arenas a.0 in
    let wb = within_true min_per g.per max_per b.0 in
    let wd = within_true min_pages g.pages max_pages d.0 in
    let wf = within_true min_records g.records max_records f.0 in
    let wh = within_true min_turn g.turn max_turn h.0 in
    let ww = within_true (min_words (blocks g)) g.words max_words h.1 in
    record {
      arenas_least = wa.0;
      arenas_most = wa.1;
      per_least = wb.0;
      per_most = wb.1;
      blocks_most = leb-true _ _ c.0;
      pages_least = wd.0;
      pages_most = wd.1;
      records_least = wf.0;
      records_most = wf.1;
      turn_least = wh.0;
      turn_most = wh.1;
      words_least = ww.0;
      words_most = ww.1;
    }

pub inside_fits : (g : Geometry) → Inside g → fits g ≡ true
unfolding fits
inside_fits g i =
    rw (
      is_within min_arenas g.arenas max_arenas i.arenas_least i.arenas_most,
      is_within min_per g.per max_per i.per_least i.per_most,
      le-leb (blocks g) max_blocks i.blocks_most,
      is_within min_pages g.pages max_pages i.pages_least i.pages_most,
      is_within min_records g.records max_records i.records_least i.records_most,
      is_within min_turn g.turn max_turn i.turn_least i.turn_most,
      is_within (min_words (blocks g)) g.words max_words i.words_least i.words_most,
    )

-- the test is true exactly inside the limits
pub fits_iff : (g : Geometry) → (fits g ≡ true) ↔ Inside g
fits_iff g = (fits_inside g, inside_fits g)

-- ── a making ──

module _ (arenas per pages records turn words : ℕ) where
  abbrev it : Geometry
  it = geometry_of arenas per pages records turn words

  -- a made geometry has the six numbers, and they are inside their limits
  pub made : (g : Geometry) → making_of arenas per pages records turn words ≡ Ok g → (g ≡ geometry_of arenas per pages records turn words) × Inside g
  unfolding making_of
  made g e = go (fits it) refl e
    where
      go : (t : Bool) → fits it ≡ t → cond t (Ok it) (Err OutsideLimits) ≡ Ok g → (g ≡ it) × Inside g
      go true t f =
          let q : it ≡ g = cc in
          (sym q, subst Inside q (fits_inside it t))
      go false t f = let z : ◌≡◌ {A = ℕ} 0 1 = cc in absurd (omega arith)

  -- the refusal is 2, and the six numbers are outside
  pub not_made : (r : Refusal) → making_of arenas per pages records turn words ≡ Err r →
      (r ≡ OutsideLimits) × (fits (geometry_of arenas per pages records turn words) ≡ false)
  unfolding making_of
  not_made r e = go (fits it) refl e
    where
      go : (t : Bool) → fits it ≡ t → cond t (Ok it) (Err OutsideLimits) ≡ Err r → (r ≡ OutsideLimits) × (fits it ≡ false)
      go true t f = let z : ◌≡◌ {A = ℕ} 0 1 = cc in absurd (omega arith)
      go false t f = (cc, t)

  replies : reply_of (making_of arenas per pages records turn words) ≡ making arenas per pages records turn words
  unfolding making_of reply_of making
  replies = go (fits it)
    where
      go : (t : Bool) → reply_of (cond t (Ok it) (Err OutsideLimits)) ≡ decide ((2, not t) ∷ []) []
      go true = refl
      go false = refl

  -- what is replied follows from what is answered
  pub replied : (r : Result Geometry Refusal) → r ≡ making_of arenas per pages records turn words → reply_of r ≡ making arenas per pages records turn words
  replied r e = ap reply_of e ∙ replies
