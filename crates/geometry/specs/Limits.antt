-- "A store is made from six decimal numbers: arenas 1 to 16; blocks per arena 1 to 1,024, in all N = product, at most 2,048; pages 1 to 256;
-- records in the store at one time 1 to 64; turn 1 to 4,096; log words from 2 × N + 2 to 8,192." (2.1)
use Rattle.std.specs.Prelude.{◌≡◌, ℕ, ◌+◌, ◌*◌, ◌≤◌, Bool, cond, ◌&&◌, leb, Result, Ok, Err}
use Rattle.geometry.specs.declared.Geometry.{Geometry}
use Rattle.geometry.specs.declared.Numbers.{Numbers}
use Rattle.answer.specs.declared.Refusal.{Refusal}
use Rattle.answer.specs.declared.Refusal.TheVariants.{OutsideLimits}

-- N, the number of blocks
abbrev pub blocks : Geometry → ℕ
blocks g = g.arenas * g.per

-- the six numbers as a geometry
abbrev pub geometry_of : ℕ → ℕ → ℕ → ℕ → ℕ → ℕ → Geometry
geometry_of arenas per pages records turn words =
    record { arenas = arenas; per = per; pages = pages; records = records; turn = turn; words = words }

-- six numbers that are asked for, as a geometry, inside the limits or not
abbrev pub asked : Numbers → Geometry
asked numbers = geometry_of numbers.arenas numbers.per numbers.pages numbers.records numbers.turn numbers.words

-- the numbers that a geometry was made from
abbrev pub AsksFor : Geometry → Numbers → Type 0
AsksFor g numbers = asked numbers ≡ g

-- ── the limits ──

abbrev pub min_arenas : ℕ
min_arenas = 1

abbrev pub max_arenas : ℕ
max_arenas = 16

abbrev pub min_per : ℕ
min_per = 1

abbrev pub max_per : ℕ
max_per = 1024

abbrev pub max_blocks : ℕ
max_blocks = 2048

abbrev pub min_pages : ℕ
min_pages = 1

abbrev pub max_pages : ℕ
max_pages = 256

abbrev pub min_records : ℕ
min_records = 1

abbrev pub max_records : ℕ
max_records = 64

abbrev pub min_turn : ℕ
min_turn = 1

abbrev pub max_turn : ℕ
max_turn = 4096

abbrev pub max_words : ℕ
max_words = 8192

-- the least number of log words for n blocks
abbrev pub min_words : ℕ → ℕ
min_words n = 2 * n + 2

-- all six at their least, and at their most
abbrev pub least : Geometry
least = geometry_of min_arenas min_per min_pages min_records min_turn (min_words (min_arenas * min_per))

abbrev pub largest : Geometry
largest = geometry_of max_arenas 128 max_pages max_records max_turn max_words

-- ── memory enough for every geometry ──

-- numbers of the tables
abbrev pub most_tables : ℕ
most_tables = 43008

-- bytes of the log: 8 a word
abbrev pub most_log : ℕ
most_log = 65536

-- numbers of the result buffer
abbrev pub most_out : ℕ
most_out = 4160

-- inside the limits
pub record Inside (g : Geometry) : Type 0 where
  pub arenas_least : min_arenas ≤ g.arenas
  pub arenas_most : g.arenas ≤ max_arenas
  pub per_least : min_per ≤ g.per
  pub per_most : g.per ≤ max_per
  pub blocks_most : blocks g ≤ max_blocks
  pub pages_least : min_pages ≤ g.pages
  pub pages_most : g.pages ≤ max_pages
  pub records_least : min_records ≤ g.records
  pub records_most : g.records ≤ max_records
  pub turn_least : min_turn ≤ g.turn
  pub turn_most : g.turn ≤ max_turn
  pub words_least : min_words (blocks g) ≤ g.words
  pub words_most : g.words ≤ max_words

-- x lies from lo to hi
unfoldable pub within : ℕ → ℕ → ℕ → Bool
within lo x hi = leb lo x && leb x hi

-- the same limits as a test
unfoldable pub fits : Geometry → Bool
fits g =
    within min_arenas g.arenas max_arenas &&
    (within min_per g.per max_per &&
    (leb (blocks g) max_blocks &&
    (within min_pages g.pages max_pages &&
    (within min_records g.records max_records && (within min_turn g.turn max_turn && within (min_words (blocks g)) g.words max_words)))))

-- the geometry of six numbers inside their limits, and refusal 2 of any other
unfoldable pub making_of : ℕ → ℕ → ℕ → ℕ → ℕ → ℕ → Result Geometry Refusal
making_of arenas per pages records turn words =
    let g = geometry_of arenas per pages records turn words in
    cond (fits g) (Ok g) (Err OutsideLimits)
