-- Worked examples, computed: a line of five sealed records with a fork on the second, and a window of 2; first with no name, then with one on the oldest.
use mathlib.Core.Path.{◌≡◌, refl}
use mathlib.Core.List.{List, [], ◌∷◌, ◌++◌, map}
use Prim.Native.Nat.{ℕ}
use lib.ListN.{drop}
use lib.Count.{count_leading_zeros}
use Rattle.answer.specs.Reply.{accepted, refused}
use Rattle.geometry.specs.declared.Geometry.{Geometry}
use Rattle.model.specs.Table.{put, put2, put_row, via, first_link, seek}
use Rattle.model.specs.Lists.{elem, keep_if, rows, cleared, but_last, trim, on_first}
use Rattle.model.specs.View.{View}
use Rattle.model.specs.Deadlists.{shard, shards}
use Rattle.model.specs.Effects.{fate, killed, grow, close, place, erase_at, erase, write, begin, seal, fork, leave, unlinked, joined, unlink, young_at}
use Rattle.model.specs.Effects.{pruned, prune}
use Rattle.model.specs.Actions.{Action, do_b, do_w, do_s, do_f, done, follower, forked, power, empty_at, vacant, delete_at, delete}
use Rattle.model.specs.Held.{freed_one, erased, deleted}
use Rattle.model.specs.Model.{history}
use Rattle.model.specs.Command.{Command}
use Rattle.model.specs.Command.{Begin, Write, Erase, Seal, Fork, Delete, Retain, Reclaim, Attach, Resolve}
use Rattle.model.specs.Book.{Book, empty_book, in_recs, in_lines, pages_in, pages_of, in_line, seal_rec, drop_rec, keep_line, drop_in, open_line}
use Rattle.model.specs.Book.{names_moved, rec_sealed, rec_out, named_in, name_added, window_with, sealed_in, sealed_with, any_rec, fork_among, may_leave, taken_out}
use Rattle.model.specs.Book.{recs_out, trimmed, accept}
use Rattle.model.specs.Window.{steps, frees_along, up_to, older, sealed_of, bare, victims, sealing, may_go, trim_loop}
use Rattle.model.specs.WindowBook.{out_loop}
use Rattle.model.proofs.PaperExample.{fine, replies_to}

-- 8 slots, 2 pages, 8 blocks
abbrev pub nothing : View
nothing = record {
  slots = 8;
  pages = 2;
  blocks = 8;
  last = 0;
  num = λ s. 0;
  is_open = λ s. 0;
  prev = λ s. 0;
  base = λ s. 0;
  page = λ s x. 0;
  list = λ s. [];
  birth = λ b. 0;
}

-- record n is in slot n - 1: records 1 to 4 are sealed, 5 is open, and 6 is a fork on 2
abbrev pub calls : List Action
calls =
    do_w 0 0 0
    ∷ do_s 0 ∷ do_w 1 0 1 ∷ do_w 1 1 2
    ∷ do_s 1 ∷ do_w 2 0 3 ∷ do_w 2 1 4
    ∷ do_s 2 ∷ do_w 3 0 5
    ∷ do_s 3 ∷ do_w 4 0 6 ∷ do_w 4 1 7
    ∷ do_f 1 ∷ []

-- the store with record 1, and after those calls: to unfold it is to unfold all that it is told by
unfoldable pub begun : View
unfolding put put_row via first_link seek count_leading_zeros power empty_at vacant grow begin
begun = done nothing do_b

unfoldable pub written : View
unfolding begun put2 fate killed close place erase_at erase write seal fork follower forked elem freed_one erased steps
written = steps begun calls

unfoldable pub before : View
unfolding written keep_if rows cleared shard shards leave unlinked joined unlink young_at pruned prune delete_at delete deleted frees_along
before = written

unfoldable pub trimmings : View
unfolding before up_to older sealed_of but_last trim bare victims sealing may_go on_first trim_loop
trimmings = before

-- no record has a name
abbrev pub none : ℕ → ℕ
none s = 0

-- record 5 is sealed: 1, 3 and 4 go, 2 has a fork on it, and 2 and 5 are left
abbrev pub after : View
after = steps before (sealing before none 2 4)

abbrev pub sealed_view : View
sealed_view = steps before (do_s 4 ∷ [])

pub example_line : sealed_of sealed_view 4 ≡ 0 ∷ 1 ∷ 2 ∷ 3 ∷ 4 ∷ []
unfolding trimmings
example_line = refl

pub example_victims : victims sealed_view none 2 4 ≡ 0 ∷ 2 ∷ 3 ∷ []
unfolding trimmings
example_victims = refl

pub example_loop : (trim_loop 5 sealed_view none 2 4).gone ≡ 0 ∷ 2 ∷ 3 ∷ []
unfolding trimmings
example_loop = refl

pub example_left : sealed_of after 4 ≡ 1 ∷ 4 ∷ []
unfolding trimmings
example_left = refl

-- 1 goes and its block 0 is queued, then block 3 of record 3, then block 4 (born in 3, which is gone by then) and block 5 of record 4; record 2 stays, with
-- blocks 1 and 2
pub example_queued : frees_along before (sealing before none 2 4) ≡ 0 ∷ 3 ∷ 4 ∷ 5 ∷ []
unfolding trimmings
example_queued = refl

-- with a second fork, on record 4, three are left: the two with a fork on them and the newest
abbrev pub forked_twice : View
forked_twice = steps before (do_f 3 ∷ [])

pub example_stops : sealed_of (steps forked_twice (sealing forked_twice none 2 4)) 4 ≡ 1 ∷ 3 ∷ 4 ∷ []
unfolding trimmings
example_stops = refl

-- ── with a name on record 1, the oldest: it is passed over, 3 and 4 go, and three are left ──

abbrev pub first : ℕ → ℕ
first = put none 0 1

pub named_victims : victims sealed_view first 2 4 ≡ 2 ∷ 3 ∷ []
unfolding trimmings
named_victims = refl

pub named_loop : (trim_loop 5 sealed_view first 2 4).gone ≡ 2 ∷ 3 ∷ []
unfolding trimmings
named_loop = refl

pub named_left : sealed_of (steps before (sealing before first 2 4)) 4 ≡ 0 ∷ 1 ∷ 4 ∷ []
unfolding trimmings
named_left = refl

-- block 0 stays, on a page of record 1
pub named_queued : frees_along before (sealing before first 2 4) ≡ 3 ∷ 4 ∷ 5 ∷ []
unfolding trimmings
named_queued = refl

-- with a window of 3 two go where no name is, the oldest and the third; with the name the third and the fourth
pub three_victims : (victims sealed_view none 3 4 ≡ 0 ∷ 2 ∷ []) × (victims sealed_view first 3 4 ≡ 2 ∷ 3 ∷ [])
unfolding trimmings
three_victims = (refl, refl)

-- ── the same in the book, by numbers ──

unfoldable pub pages : Book
unfolding put empty_book in_recs in_lines pages_in pages_of in_line seal_rec drop_rec keep_line drop_in open_line names_moved rec_sealed rec_out
pages = accept 2 (accept 2 (accept 2 (accept 2 (accept 2 (accept 2 empty_book Begin 0) (Seal 1) 0) (Seal 2) 0) (Seal 3) 0) (Seal 4) 0) (Fork 2) 0

unfoldable pub book : Book
unfolding pages keep_if on_first but_last trim named_in name_added window_with sealed_in sealed_with any_rec fork_among may_leave taken_out recs_out trimmed out_loop
book = pages

abbrev pub sealed_book : Book
sealed_book = accept 2 book (Seal 5) 0

pub example_book : taken_out sealed_book 2 5 ≡ 1 ∷ 3 ∷ 4 ∷ []
unfolding book
example_book = refl

pub example_book_loop : out_loop 5 sealed_book 2 5 ≡ 1 ∷ 3 ∷ 4 ∷ []
unfolding book
example_book_loop = refl

pub example_book_left : sealed_with 5 (trimmed sealed_book 2 5).lines ≡ 2 ∷ 5 ∷ []
unfolding book
example_book_left = refl

-- with a name on record 1, and one on the open record 5 that moves to 6: 1 is passed over, 5 is not named when it is sealed
abbrev pub named_book : Book
named_book = accept 2 (accept 2 (accept 2 book (Attach (97 ∷ []) 1) 0) (Attach (98 ∷ []) 5) 0) (Seal 5) 0

pub named_book_lem : taken_out named_book 2 5 ≡ 3 ∷ 4 ∷ []
unfolding book
named_book_lem = refl

pub named_book_loop : out_loop 5 named_book 2 5 ≡ 3 ∷ 4 ∷ []
unfolding book
named_book_loop = refl

pub named_book_left : sealed_with 5 (trimmed named_book 2 5).lines ≡ 1 ∷ 2 ∷ 5 ∷ []
unfolding book
named_book_left = refl

-- ── the calls, by the model: two windows, on a line and on its fork ──

abbrev two_lines : Geometry
two_lines = record { arenas = 1; per = 12; pages = 4; records = 12; turn = 64; words = 40 }

abbrev set_up : List Command
set_up =
    Begin ∷ Write 1 0 0 ∷ Write 1 1 0 ∷ Seal 1 ∷ Write 2 0 0 ∷ Write 2 2 0 ∷ Seal 2
    ∷ Write 3 0 0 ∷ Write 3 1 0 ∷ Seal 3 ∷ Write 4 0 0 ∷ Write 4 2 0
    ∷ Write 4 3 0 ∷ Seal 4 ∷ Write 5 0 0 ∷ Erase 5 1 ∷ Fork 2 ∷ []

-- a window of 2 on the first line, of 1 on the fork; S of the fork takes nothing yet, then its first record; S of the first line takes 1, 3 and 4, and
-- passes 2 over. It gives its number alone: the turns give what it queued.
pub example_calls : drop 17 (map (λ e. e.answer) (history two_lines (map fine (set_up ++
    (Retain 5 2 ∷ Retain 6 1 ∷ Write 6 0 0 ∷ Seal 6 ∷ Seal 7 ∷ Seal 5 ∷ Reclaim 3 ∷ Reclaim 3 ∷ Reclaim 3 ∷ Retain 9 63 ∷ Retain 1 2 ∷ Retain 2 2 ∷ []))))) ≡
    accepted [] ∷ accepted [] ∷ accepted (10 ∷ 6 ∷ []) ∷ accepted (7 ∷ []) ∷ accepted (8 ∷ [])
    ∷ accepted (9 ∷ []) ∷ accepted (0 ∷ 1 ∷ 4 ∷ 3 ∷ 5 ∷ 3 ∷ []) ∷ accepted (6 ∷ 4 ∷ []) ∷ accepted []
    ∷ refused 15 ∷ refused 8 ∷ refused 9 ∷ []
unfolding replies_to
example_calls = refl

-- the same line with a name on record 1: S takes 3 and 4, and passes 1 and 2 over. Then 1 may not be deleted, and M gives its number
pub named_calls : drop 17 (map (λ e. e.answer) (history two_lines (map fine (set_up ++
    (Retain 5 2 ∷ Attach (97 ∷ []) 1 ∷ Seal 5 ∷ Reclaim 64 ∷ Delete 1 ∷ Resolve (97 ∷ []) ∷ Delete 3 ∷ []))))) ≡
    accepted [] ∷ accepted [] ∷ accepted (7 ∷ []) ∷ accepted (4 ∷ 3 ∷ 5 ∷ 3 ∷ 6 ∷ 4 ∷ []) ∷ refused 18 ∷ accepted (1 ∷ []) ∷ refused 8 ∷ []
unfolding replies_to
named_calls = refl
