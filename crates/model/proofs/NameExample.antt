-- A worked example, computed: names on an open and on a sealed record, a seal, a fork, and what is refused.
use mathlib.Core.Path.{◌≡◌, refl}
use mathlib.Core.List.{List, [], ◌∷◌}
use Prim.Native.Nat.{ℕ}
use lib.Count.{count_leading_zeros}
use lib.ListN.{replicate}
use Rattle.answer.specs.Reply.{Reply, accepted, refused}
use Rattle.answer.specs.Refusal.{decide}
use Rattle.geometry.specs.declared.Geometry.{Geometry}
use Rattle.model.specs.Table.{put, put_row, via, first_link, seek}
use Rattle.model.specs.Effects.{grow, close, begin, seal, fork}
use Rattle.model.specs.Actions.{slot_of, follower, forked, power, empty_at, vacant}
use Rattle.model.specs.Window.{steps, frees_along, victims, sealing, queueing}
use Rattle.model.specs.Names.{no_titles, letters, valid_name, same_name, carries, row_of, owner_of, empty_row, named, unnamed, moved, one_more, one_less}
use Rattle.model.specs.Names.{count_moved}
use Rattle.model.specs.State.{State, fresh}
use Rattle.model.specs.Calls.{acted, conditions, result, effect}
use Rattle.model.specs.Command.{Command}
use Rattle.model.specs.Command.{Begin, Seal, Fork, Estimate, Attach, Detach, Resolve}
use Rattle.model.specs.Book.{Book, empty_book, in_recs, in_lines, pages_in, pages_of, in_line, seal_rec, open_line, rec_sealed, names_moved}
use Rattle.model.specs.Book.{name_added, name_off, window_with, taken_out, recs_out, trimmed, accept}

-- 8 slots, 2 pages, 8 blocks
abbrev small : Geometry
small = record { arenas = 2; per = 4; pages = 2; records = 8; turn = 2; words = 64 }

-- a store and its book
record Both : Type 0 where
  state : State
  book : Book

-- accepted calls, one after another
abbrev run : Both → List Command → Both
run T [] = T
run T (c ∷ l) = run (record { state = effect small T.state c; book = accept 2 T.book c 0 }) l

-- the reply to a call, where none of 2, 3 and 4 is true
abbrev says : Both → Command → Reply
says T c = decide (conditions small T.state c) (result small T.state c)

-- "easter", "east", "a" and "b"
abbrev easter : List ℕ
easter = 101 ∷ 97 ∷ 115 ∷ 116 ∷ 101 ∷ 114 ∷ []

abbrev east : List ℕ
east = 101 ∷ 97 ∷ 115 ∷ 116 ∷ []

abbrev a : List ℕ
a = 97 ∷ []

abbrev b : List ℕ
b = 98 ∷ []

-- to unfold it is to unfold all that the calls are told by
unfoldable begun : Both
unfolding fresh put put_row via first_link seek count_leading_zeros power empty_at vacant grow close begin seal fork slot_of follower forked acted empty_book
begun = run (record { state = fresh small; book = empty_book }) (Begin ∷ [])

unfoldable store : Both
unfolding begun steps frees_along victims sealing queueing no_titles letters valid_name same_name carries row_of owner_of empty_row named unnamed moved
store = run begun (Attach easter 1 ∷ [])

unfoldable read : Both
unfolding store one_more one_less count_moved in_recs in_lines pages_in pages_of in_line seal_rec open_line rec_sealed names_moved name_added name_off
read = store

unfoldable calls : Both
unfolding read window_with taken_out recs_out trimmed
calls = read

-- ── record 1 is open and has the name "easter" ──

easter_is_1 : says calls (Resolve easter) ≡ accepted (1 ∷ [])
unfolding calls
easter_is_1 = refl

book_easter : calls.book.names ≡ (easter, 1) ∷ []
unfolding calls
book_easter = refl

-- names are compared whole: "east" is another
east_unknown : says calls (Resolve east) ≡ refused 17
unfolding calls
east_unknown = refl

second_on_open : says calls (Attach east 1) ≡ refused 17
unfolding calls
second_on_open = refl

-- 16 is before 8, and 8 before 17
not_there : says calls (Attach easter 9) ≡ refused 8
unfolding calls
not_there = refl

capital : says calls (Attach (69 ∷ 97 ∷ []) 9) ≡ refused 16
unfolding calls
capital = refl

letters_32 : says calls (Attach (replicate 32 122) 9) ≡ refused 8
unfolding calls
letters_32 = refl

letters_33 : says calls (Attach (replicate 33 122) 9) ≡ refused 16
unfolding calls
letters_33 = refl

-- 18
named_stays : says calls (Estimate 1) ≡ refused 18
unfolding calls
named_stays = refl

-- ── 1 is sealed: the name goes to 2, and 1 may have names again, more than one ──

abbrev sealed_once : Both
sealed_once = run calls (Seal 1 ∷ [])

easter_is_2 : says sealed_once (Resolve easter) ≡ accepted (2 ∷ [])
unfolding calls
easter_is_2 = refl

book_moved : sealed_once.book.names ≡ (easter, 2) ∷ []
unfolding calls
book_moved = refl

abbrev two_names : Both
two_names = run sealed_once (Attach a 1 ∷ Attach b 1 ∷ [])

two_on_sealed : two_names.state.notes.names 0 ≡ 2
unfolding calls
two_on_sealed = refl

-- a fork has no name, and its base keeps its own
a_stays : says (run two_names (Fork 1 ∷ [])) (Resolve a) ≡ accepted (1 ∷ [])
unfolding calls
a_stays = refl

-- U takes off one name only
a_off : says (run two_names (Detach a ∷ [])) (Resolve a) ≡ refused 17
unfolding calls
a_off = refl

b_left : (run two_names (Detach a ∷ [])).book.names ≡ (b, 1) ∷ (easter, 2) ∷ []
unfolding calls
b_left = refl
