-- The walk over the pages and deadlists of a stranger's tables.
use Rattle.std.specs.Prelude.{
  ◌≡◌,
  ℕ,
  zero,
  suc,
  ◌+◌,
  ◌-◌,
  ◌*◌,
  ◌<◌,
  ◌≤◌,
  min,
  Bool,
  true,
  false,
  cond,
  ◌&&◌,
  List,
  [],
  ◌∷◌,
  length,
  nat_le,
  nat_lt,
  slice_index,
  Option,
  Some,
  None,
}
use Rattle.choice.specs.Words.{word_of}
use Rattle.model.specs.Table.{all}
use Rattle.model.specs.Lists.{rows}
use Rattle.model.specs.View.{View, parent, pred_num, base_num, page_of}
use Rattle.model.specs.Check.{marks_of, once?, page?, own_at, gone_at, list?, empty?}
use Rattle.model.specs.Stamps.{stamped}
use Rattle.tables.specs.Rows.{differs}
use Rattle.soundness.specs.declared.pages.Kin.{Kin}

-- ── what is asked of a record at each of its pages ──

-- a link to one of R slots, else 0
unfoldable pub reached : ℕ → ℕ → ℕ
reached R l = cond (nat_le l R) l 0

abbrev pub kin_of : View → ℕ → Kin
kin_of K s = record {
  number = K.num s;
  pred = reached K.slots (parent K s);
  older = pred_num K s;
  listing = nat_lt 0 (K.prev s);
  root = base_num K s;
}

-- the block behind a link, if it is younger than the base of s's line
unfoldable pub younger : View → ℕ → ℕ → List ℕ
younger K s zero = []
younger K s (suc b) = cond (nat_lt (base_num K s) (K.birth b)) (b ∷ []) []

-- the block that was on page x of the record before s, if it is gone
abbrev pub left_at : View → ℕ → ℕ → List ℕ
left_at K s x = gone_at K s x (page_of K (K.prev s) x)

-- ── a walk ──

-- marks as a table
abbrev pub seen : List ℕ → ℕ → ℕ
seen m b = slice_index m b

-- n numbers from i on pass a test, and of their lists no number has a mark or stands twice
unfoldable pub walk : (ℕ → Bool) → (ℕ → List ℕ) → (ℕ → ℕ) → ℕ → ℕ → Bool
walk p f m i zero = true
walk p f m i (suc n) = p i && (once? m (f i) && walk p f (marks_of m (f i)) (suc i) n)

-- what a walk over pages comes to: whether they fit, the own blocks marked, those gone stamped, and how many are gone
pub record Rest : Type 0 where
  pub fits : Bool
  pub own : ℕ → ℕ
  pub gone : ℕ → ℕ
  pub count : ℕ

-- what the walk over m pages of s from x on comes to, on top of marks f, stamps h and n blocks gone
unfoldable pub rest_from : View → ℕ → (ℕ → ℕ) → (ℕ → ℕ) → ℕ → ℕ → ℕ → Rest
rest_from K s f h n x m = record {
  fits = walk (page? K s) (own_at K s) f x m;
  own = marks_of f (rows (own_at K s) x m);
  gone = stamped (suc s) h (rows (left_at K s) x m);
  count = n + length (rows (left_at K s) x m);
}

-- all pages from x on
abbrev pub rest_of : View → ℕ → List ℕ → List ℕ → ℕ → ℕ → Rest
rest_of K s own gone n x = rest_from K s (seen own) (seen gone) n x (K.pages - x)

-- the pages of s from x up to y were walked, with the answer r: where it is none the pages from x on do not fit, else those from y on come to the same
pub record Walked (K : View) (s : ℕ) (own₀ gone₀ : List ℕ) (n x : ℕ) (r : Option ℕ) (own gone : List ℕ) (y : ℕ) : Type 0 where
  pub own_size : length own ≡ 2048
  pub gone_size : length gone ≡ 2048
  pub fails : r ≡ None → (rest_of K s own₀ gone₀ n x).fits ≡ false
  pub few : (k : ℕ) → r ≡ Some k → k ≤ y
  pub fits : (k : ℕ) → r ≡ Some k → rest_of K s own gone k y ≡ rest_of K s own₀ gone₀ n x

-- the words of a row: 32 pages of s each, where they differ from those of the record behind the link l
pub record RowWords (K : View) (s l : ℕ) (words : List ℕ) : Type 0 where
  pub size : length words ≡ 8
  pub word : (k : ℕ) → 32 * k < K.pages → slice_index words k ≡ word_of (differs K s l) (32 * k) (min 32 (K.pages - 32 * k))

-- the test of a slot
unfoldable pub slot_fits : View → ℕ → Bool
slot_fits K s = cond (nat_lt 0 (K.num s)) (all K.pages (page? K s) && list? K s) (empty? K s)
