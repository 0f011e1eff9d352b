-- THE LAYOUT of the lent tables: one list of numbers. R record slots, N blocks.
--   0-5          the six numbers
--   6-9          last number used, counter, writes of this turn, log words used
--   10, 11       how many blocks are queued, and how many wait
--   16-31        the arenas' marks
--   64-127       free words: bit i of word k is 1 exactly where block 32 k + i may be given
--   192, 256, 320, 384, 448    columns of 64 slots: number (0: empty slot), open (1) or sealed (0), record before it in its line (a link), base
--                (a link), length of the deadlist
--   576          a column of 64 slots: the window of the line, where the record is open (0: none)
--   640          a column of 64 slots: the count of the record's names
--   768          32 rows of 40 numbers, the names: the slot of the record (a link, 0: the row is empty), the length, and from the ninth number on the
--                letters, one a number
--   2048         pages, 256 a slot (block + 1, 0 for nothing)
--   2048 + 256 R deadlists, 256 a slot: the first `length` numbers of a row are the blocks, in the order of joining
--   2048 + 512 R births (0: on no page)
--   2048 + 512 R + N, 2048 + 512 R + 2 N    the queue: its blocks in order; births of queued blocks, by the block's number (0: not in the queue)
--   2048 + 512 R + 3 N    the blocks that wait, in the order in which they were freed
-- All others are spare.
use Rattle.std.specs.Prelude.{Bool, cond, ◌&&◌, List, [], ◌∷◌, ℕ, zero, suc, ◌+◌, ◌-◌, ◌*◌, ◌/◌, ◌%◌, min, eqb, ltb, leb, length, get_or, replicate}
use Rattle.std.proofs.lemmas.List.Edits.{sets}
use Rattle.geometry.specs.declared.Geometry.{Geometry}
use Rattle.geometry.specs.Limits.{blocks}
use Rattle.choice.specs.Words.{word_of}
use Rattle.model.specs.View.{View}
use Rattle.model.specs.Queue.{Queue}
use Rattle.model.specs.Held.{available}
use Rattle.model.specs.Names.{Titles}
use Rattle.model.specs.State.{State, Notes, fresh}

-- ── where a number stands ──

abbrev pub mark_cell : ℕ → ℕ
mark_cell a = 16 + a

abbrev pub free_cell : ℕ → ℕ
free_cell k = 64 + k

abbrev pub num_cell : ℕ → ℕ
num_cell s = 192 + s

abbrev pub open_cell : ℕ → ℕ
open_cell s = 256 + s

abbrev pub prev_cell : ℕ → ℕ
prev_cell s = 320 + s

abbrev pub base_cell : ℕ → ℕ
base_cell s = 384 + s

abbrev pub length_cell : ℕ → ℕ
length_cell s = 448 + s

abbrev pub window_cell : ℕ → ℕ
window_cell s = 576 + s

abbrev pub name_cell : ℕ → ℕ
name_cell s = 640 + s

-- row i of the names, and the letters in it
abbrev pub title_cell : ℕ → ℕ
title_cell i = 768 + 40 * i

abbrev pub letters_cell : ℕ → ℕ
letters_cell i = 776 + 40 * i

abbrev pub page_cell : ℕ → ℕ → ℕ
page_cell s x = 2048 + 256 * s + x

abbrev pub list_cell : ℕ → ℕ → ℕ → ℕ
list_cell R s i = 2048 + 256 * R + 256 * s + i

abbrev pub birth_cell : ℕ → ℕ → ℕ
birth_cell R b = 2048 + 512 * R + b

-- the queue's place i, and the birth of block b where it is queued, of R slots and N blocks
abbrev pub queue_cell : ℕ → ℕ → ℕ → ℕ
queue_cell R N i = 2048 + 512 * R + N + i

abbrev pub queue_birth_cell : ℕ → ℕ → ℕ → ℕ
queue_birth_cell R N b = 2048 + 512 * R + 2 * N + b

abbrev pub wait_cell : ℕ → ℕ → ℕ → ℕ
wait_cell R N i = 2048 + 512 * R + 3 * N + i

-- how many numbers a geometry needs
abbrev pub need : Geometry → ℕ
need g = 2048 + 512 * g.records + 4 * blocks g

-- ── the free words ──

-- bit i of word k is 1 exactly where block 32 k + i may be given; no number from N on is a block
unfoldable pub free_word : State → ℕ → ℕ
free_word T k = word_of (available T) (32 * k) (min 32 (T.view.blocks - 32 * k))

-- ── what tables say ──

-- the number at an address, or 0 outside a range
unfoldable pub field : List ℕ → Bool → ℕ → ℕ
field t inside at = cond inside (get_or t at 0) 0

-- the n numbers from an address on
unfoldable pub numbers : List ℕ → ℕ → ℕ → List ℕ
numbers t at zero = []
numbers t at (suc n) = get_or t at 0 ∷ numbers t (suc at) n

unfoldable pub view_of : Geometry → List ℕ → View
view_of g t =
    record {
      slots = g.records;
      pages = g.pages;
      blocks = blocks g;
      last = get_or t 6 0;
      num = λ s. field t (ltb s g.records) (num_cell s);
      is_open = λ s. field t (ltb s g.records) (open_cell s);
      prev = λ s. field t (ltb s g.records) (prev_cell s);
      base = λ s. field t (ltb s g.records) (base_cell s);
      page = λ s x. field t (ltb s g.records && ltb x g.pages) (page_cell s x);
      list = λ s. numbers t (list_cell g.records s 0) (field t (ltb s g.records) (length_cell s));
      birth = λ b. field t (ltb b (blocks g)) (birth_cell g.records b);
    }

-- the rows of the names; an empty row has no name, whatever stands in it
unfoldable pub titles_of : List ℕ → Titles
titles_of t =
    record {
      owner = λ i. field t (ltb i 32) (title_cell i);
      text = λ i. cond (eqb (field t (ltb i 32) (title_cell i)) 0) [] (numbers t (letters_cell i) (get_or t (title_cell i + 1) 0));
    }

unfoldable pub notes_of : Geometry → List ℕ → Notes
notes_of g t =
    record {
      window = λ s. field t (ltb s g.records) (window_cell s);
      names = λ s. field t (ltb s g.records) (name_cell s);
      titles = titles_of t;
    }

unfoldable pub queue_of : Geometry → List ℕ → Queue
queue_of g t =
    record {
      list = numbers t (queue_cell g.records (blocks g) 0) (get_or t 10 0);
      birth = λ b. field t (ltb b (blocks g)) (queue_birth_cell g.records (blocks g) b);
    }

unfoldable pub state_of : Geometry → List ℕ → State
state_of g t =
    record {
      view = view_of g t;
      mark = λ a. field t (ltb a g.arenas) (mark_cell a);
      counter = get_or t 7 0;
      writes = get_or t 8 0;
      used = get_or t 9 0;
      waiting = numbers t (wait_cell g.records (blocks g) 0) (get_or t 11 0);
      queue = queue_of g t;
      notes = notes_of g t;
    }

-- ── tables that say something: every number that the layout names is written, every other stays ──

unfoldable pub header_number : Geometry → State → List ℕ → ℕ → ℕ
header_number g T t i =
    cond (eqb i 0) g.arenas
    (cond (eqb i 1) g.per
    (cond (eqb i 2) g.pages
    (cond (eqb i 3) g.records
    (cond (eqb i 4) g.turn
    (cond (eqb i 5) g.words
    (cond (eqb i 6) T.view.last
    (cond (eqb i 7) T.counter
    (cond (eqb i 8) T.writes
    (cond (eqb i 9) T.used
    (cond (eqb i 10) (length T.queue.list)
    (cond (eqb i 11) (length T.waiting)
    (cond (leb 16 i && ltb (i - 16) g.arenas) (T.mark (i - 16))
    (cond (leb 64 i && ltb (i - 64) 64) (free_word T (i - 64))
    (get_or t i 0))))))))))))))

-- number s of column f
unfoldable pub column_number : View → List ℕ → ℕ → ℕ → ℕ
column_number K t f s =
    cond (ltb s K.slots)
    (cond (eqb f 0) (K.num s)
    (cond (eqb f 1) (K.is_open s)
    (cond (eqb f 2) (K.prev s)
    (cond (eqb f 3) (K.base s) (length (K.list s))))))
    (get_or t (192 + 64 * f + s) 0)

-- number k of row i of the names: in an empty row nothing but the link is written
unfoldable pub title_number : Titles → List ℕ → ℕ → ℕ → ℕ
title_number X t i k =
    cond (eqb k 0) (X.owner i)
    (cond (eqb (X.owner i) 0) (get_or t (title_cell i + k) 0)
    (cond (eqb k 1) (length (X.text i))
    (cond (leb 8 k && ltb (k - 8) (length (X.text i))) (get_or (X.text i) (k - 8) 0) (get_or t (title_cell i + k) 0))))

-- number i of what is noted, of R slots
unfoldable pub note_number : ℕ → Notes → List ℕ → ℕ → ℕ
note_number R N t i =
    cond (leb 576 i && ltb (i - 576) R) (N.window (i - 576))
    (cond (leb 640 i && ltb (i - 640) R) (N.names (i - 640))
    (cond (leb 768 i) (title_number N.titles t ((i - 768) / 40) ((i - 768) % 40)) (get_or t i 0)))

-- number x of the pages and of the deadlist of s
unfoldable pub page_number : View → List ℕ → ℕ → ℕ → ℕ
page_number K t s x = cond (ltb x K.pages) (K.page s x) (get_or t (page_cell s x) 0)

unfoldable pub list_number : View → List ℕ → ℕ → ℕ → ℕ
list_number K t s i = cond (ltb i (length (K.list s))) (get_or (K.list s) i 0) (get_or t (list_cell K.slots s i) 0)

-- number i of a row that begins at a and has the blocks of l: those of the queue, and those that wait
unfoldable pub row_number : List ℕ → List ℕ → ℕ → ℕ → ℕ
row_number l t a i = cond (leb a i && ltb (i - a) (length l)) (get_or l (i - a) 0) (get_or t i 0)

-- number i of the tables t when they say T
unfoldable pub number_at : Geometry → State → List ℕ → ℕ → ℕ
number_at g T t i =
    cond (ltb i 192) (header_number g T t i)
    (cond (ltb i 512) (column_number T.view t ((i - 192) / 64) ((i - 192) % 64))
    (cond (ltb i 2048) (note_number g.records T.notes t i)
    (cond (ltb i (list_cell g.records 0 0)) (page_number T.view t ((i - 2048) / 256) ((i - 2048) % 256))
    (cond (ltb i (birth_cell g.records 0))
    (list_number T.view t ((i - list_cell g.records 0 0) / 256) ((i - list_cell g.records 0 0) % 256))
    (cond (ltb i (birth_cell g.records (blocks g))) (T.view.birth (i - birth_cell g.records 0))
    (cond (ltb i (queue_birth_cell g.records (blocks g) 0)) (row_number T.queue.list t (queue_cell g.records (blocks g) 0) i)
    (cond (ltb i (wait_cell g.records (blocks g) 0)) (T.queue.birth (i - queue_birth_cell g.records (blocks g) 0))
    (cond (ltb i (need g)) (row_number T.waiting t (wait_cell g.records (blocks g) 0) i)
    (get_or t i 0)))))))))

-- f at the n numbers from i on
unfoldable pub listed : (ℕ → ℕ) → ℕ → ℕ → List ℕ
listed f i zero = []
listed f i (suc n) = f i ∷ listed f (suc i) n

-- the tables t with the state T stored in them
unfoldable pub stored : Geometry → State → List ℕ → List ℕ
stored g T t = listed (number_at g T t) 0 (length t)

-- the tables of a fresh store, on any lent memory: every number that the geometry needs is 0 but the six of the making and the free words
unfoldable pub made : Geometry → List ℕ → List ℕ
made g t = stored g (fresh g) (sets t 0 (replicate (need g) 0))
