-- Worked examples, computed: what D, S and T do to the queue, which blocks a W is given meanwhile, and what C writes while blocks are queued.
use mathlib.Core.Path.{◌≡◌, refl}
use mathlib.Core.List.{List, [], ◌∷◌, ◌++◌, map}
use Prim.Native.Nat.{ℕ}
use lib.ListN.{drop}
use Rattle.answer.specs.Reply.{Reply, accepted, refused}
use Rattle.geometry.specs.declared.Geometry.{Geometry}
use Rattle.model.specs.Held.{tally, shards_above, shards_freed}
use Rattle.model.specs.State.{State}
use Rattle.model.specs.Calls.{written}
use Rattle.model.specs.Model.{state_after, history}
use Rattle.model.specs.Command.{Command}
use Rattle.model.specs.Command.{Begin, Write, Erase, Seal, Delete, Barrier, Compress, FreeList, Estimate, Retain, Reclaim}
use Rattle.model.proofs.PaperExample.{small, fine, replies_to}

-- the state after calls on a fresh store, and the replies to the calls after the first n
abbrev reached : Geometry → List Command → State
reached g cs = state_after g (map fine cs)

abbrev replies_from : ℕ → Geometry → List Command → List Reply
replies_from n g cs = drop n (map (λ e. e.answer) (history g (map fine cs)))

-- ── two lines: 1 is sealed, 2 follows it, and 3 begins a line of its own ──

-- store 1 8 4 6 64 20
abbrev shelf : Geometry
shelf = record { arenas = 1; per = 8; pages = 4; records = 6; turn = 64; words = 20 }

-- blocks 0 and 1 are born in 1; 2 and 3 in 2, which takes 0 off its page; 4 and 5 in 3. Six words.
abbrev lines : List Command
lines =
    Begin ∷ Write 1 0 0 ∷ Write 1 1 0 ∷ Seal 1 ∷ Write 2 0 0 ∷ Write 2 2 0 ∷ Begin ∷ Write 3 0 0 ∷ Write 3 1 0 ∷ []

-- D queues: the blocks of 3 by rising page, with their births. They have none in the View any more, none waits, and no word is written
pub one_delete : ((reached shelf (lines ++ (Delete 3 ∷ []))).queue.list ≡ 4 ∷ 5 ∷ []) ×
    (map (reached shelf (lines ++ (Delete 3 ∷ []))).queue.birth (0 ∷ 4 ∷ 5 ∷ []) ≡ 0 ∷ 3 ∷ 3 ∷ []) ×
    (map (reached shelf (lines ++ (Delete 3 ∷ []))).view.birth (0 ∷ 4 ∷ 5 ∷ []) ≡ 1 ∷ 0 ∷ 0 ∷ []) ×
    ((reached shelf (lines ++ (Delete 3 ∷ []))).waiting ≡ []) ×
    ((reached shelf (lines ++ (Delete 3 ∷ []))).used ≡ 6)
unfolding replies_to
one_delete = (refl, refl, refl, refl, refl)

-- ── two D's and a T between them ──

abbrev between : List Command
between = lines ++ (Delete 3 ∷ Reclaim 1 ∷ Delete 1 ∷ [])

-- the first block of 3 is freed and waits; the other stands before what the second D queued
pub turn_between : ((reached shelf between).queue.list ≡ 5 ∷ 0 ∷ []) ×
    (map (reached shelf between).queue.birth (0 ∷ 4 ∷ 5 ∷ []) ≡ 1 ∷ 0 ∷ 3 ∷ []) ×
    ((reached shelf between).waiting ≡ 4 ∷ []) ×
    ((reached shelf between).used ≡ 7)
unfolding replies_to
turn_between = (refl, refl, refl, refl)

-- the replies; Q says beforehand how many a D queues, the turn after it gives the rest, each block with its birth, and the next one nothing
pub turn_between_replies : replies_from 9 shelf (lines ++ (Estimate 3 ∷ Delete 3 ∷ Reclaim 1 ∷ Estimate 1 ∷ Delete 1 ∷ Reclaim 2 ∷ Reclaim 2 ∷ [])) ≡
    accepted (2 ∷ 0 ∷ 0 ∷ []) ∷ accepted [] ∷ accepted (4 ∷ 3 ∷ []) ∷ accepted (1 ∷ 0 ∷ 1 ∷ []) ∷ accepted [] ∷ accepted (5 ∷ 3 ∷ 0 ∷ 1 ∷ [])
    ∷ accepted [] ∷ []
unfolding replies_to shards_freed shards_above tally
turn_between_replies = refl

-- ── a T that takes fewer than k ──

abbrev fewer : List Command
fewer = lines ++ (Delete 3 ∷ Reclaim 64 ∷ [])

pub takes_fewer : ((reached shelf fewer).queue.list ≡ []) ×
    (map (reached shelf fewer).queue.birth (4 ∷ 5 ∷ []) ≡ 0 ∷ 0 ∷ []) ×
    ((reached shelf fewer).waiting ≡ 4 ∷ 5 ∷ []) ×
    ((reached shelf fewer).used ≡ 8)
unfolding replies_to
takes_fewer = (refl, refl, refl, refl)

-- 19: k outside 1 to 64
pub takes_fewer_replies : replies_from 9 shelf (lines ++ (Delete 3 ∷ Reclaim 0 ∷ Reclaim 65 ∷ Reclaim 64 ∷ Reclaim 64 ∷ [])) ≡
    accepted [] ∷ refused 19 ∷ refused 19 ∷ accepted (4 ∷ 3 ∷ 5 ∷ 3 ∷ []) ∷ accepted [] ∷ []
unfolding replies_to
takes_fewer_replies = refl

-- ── a window's deletes are queued after a D's, or before: in the order of the calls ──

-- the line of 2 has a window of 1: S of 2 takes record 1, whose block 0 is on no other page
pub window_after : ((reached shelf (lines ++ (Retain 2 1 ∷ Delete 3 ∷ Seal 2 ∷ []))).queue.list ≡ 4 ∷ 5 ∷ 0 ∷ []) ×
    ((reached shelf (lines ++ (Retain 2 1 ∷ Seal 2 ∷ Delete 3 ∷ []))).queue.list ≡ 0 ∷ 4 ∷ 5 ∷ [])
unfolding replies_to
window_after = (refl, refl)

pub window_after_replies : replies_from 9 shelf (lines ++ (Retain 2 1 ∷ Delete 3 ∷ Seal 2 ∷ Reclaim 2 ∷ Reclaim 2 ∷ [])) ≡
    accepted [] ∷ accepted [] ∷ accepted (4 ∷ []) ∷ accepted (4 ∷ 3 ∷ 5 ∷ 3 ∷ []) ∷ accepted (0 ∷ 1 ∷ []) ∷ []
unfolding replies_to
window_after_replies = refl

-- ── E and W free at once: nothing of theirs is queued ──

pub freed_at_once : ((reached shelf (lines ++ (Erase 3 0 ∷ Write 3 1 0 ∷ []))).queue.list ≡ []) ×
    ((reached shelf (lines ++ (Erase 3 0 ∷ Write 3 1 0 ∷ []))).waiting ≡ 4 ∷ 5 ∷ [])
unfolding replies_to
freed_at_once = (refl, refl)

-- ── a queued block is given to no W, and L does not list it ──

-- of the four blocks of `small` 0 and 1 are queued
abbrev queued_two : List Command
queued_two = Begin ∷ Write 1 0 0 ∷ Write 1 1 0 ∷ Delete 1 ∷ Begin ∷ []

-- with one more freed by a W no block may be given, with a Y that one; the queue stands. Freed by a T they wait, and with the next Y they may be given
pub not_given : replies_from 5 small (queued_two ++
    (FreeList ∷ Write 2 0 0 ∷ Write 2 0 0 ∷ Write 2 0 0 ∷ Barrier ∷ FreeList ∷ Write 2 1 0 ∷ Reclaim 64 ∷ FreeList ∷ Barrier ∷ FreeList ∷ [])) ≡
    accepted (2 ∷ 2 ∷ []) ∷ accepted (2 ∷ 2 ∷ []) ∷ accepted (3 ∷ 2 ∷ 2 ∷ 2 ∷ []) ∷ refused 13 ∷ accepted [] ∷ accepted (2 ∷ 1 ∷ [])
    ∷ accepted (2 ∷ 2 ∷ []) ∷ accepted (0 ∷ 1 ∷ 1 ∷ 1 ∷ []) ∷ accepted [] ∷ accepted [] ∷ accepted (0 ∷ 2 ∷ []) ∷ []
unfolding replies_to
not_given = refl

-- ── C with a queue ──

-- the queued blocks are held: C writes their run, and leaves the queue as it was
pub compressed_queue : (written small (reached small queued_two) Compress ≡ 0x4 ∷ 0x8000 ∷ 0x3 ∷ []) ×
    ((reached small (queued_two ++ (Compress ∷ []))).queue.list ≡ 0 ∷ 1 ∷ [])
unfolding replies_to
compressed_queue = (refl, refl)

-- so a T after it frees what the log has
pub compressed_replies : replies_from 5 small (queued_two ++ (Compress ∷ Reclaim 1 ∷ Compress ∷ Reclaim 1 ∷ Compress ∷ [])) ≡
    accepted (3 ∷ []) ∷ accepted (0 ∷ 1 ∷ []) ∷ accepted (2 ∷ []) ∷ accepted (1 ∷ 1 ∷ []) ∷ accepted (1 ∷ []) ∷ []
unfolding replies_to
compressed_replies = refl

-- ── a full log: D is accepted, a T is refused as a whole, and one that frees nothing is accepted ──

-- store 1 4 4 6 64 10
abbrev narrow : Geometry
narrow = record { arenas = 1; per = 4; pages = 4; records = 6; turn = 64; words = 10 }

-- three blocks, eight words
abbrev eight_words : List Command
eight_words = Begin ∷ Write 1 0 0 ∷ Write 1 1 0 ∷ Begin ∷ Write 2 0 0 ∷ Barrier ∷ Barrier ∷ Barrier ∷ Barrier ∷ Barrier ∷ []

-- no word is left, and both D's are accepted and queue; C makes room, and the turns give all
pub full_delete : replies_from 12 narrow (eight_words ++
    (Barrier ∷ Barrier ∷ Barrier ∷ Delete 1 ∷ Delete 2 ∷ Reclaim 1 ∷ Compress ∷ Reclaim 2 ∷ Reclaim 2 ∷ [])) ≡
    refused 14 ∷ accepted [] ∷ accepted [] ∷ refused 14 ∷ accepted (3 ∷ []) ∷ accepted (0 ∷ 1 ∷ 1 ∷ 1 ∷ []) ∷ accepted (2 ∷ 2 ∷ []) ∷ []
unfolding replies_to
full_delete = refl

-- with two words left a turn that would free three is refused, and frees none; one that frees two is not
pub turn_whole : replies_from 10 narrow (eight_words ++ (Delete 1 ∷ Delete 2 ∷ Reclaim 3 ∷ Reclaim 64 ∷ Reclaim 2 ∷ Reclaim 1 ∷ [])) ≡
    accepted [] ∷ accepted [] ∷ refused 14 ∷ refused 14 ∷ accepted (0 ∷ 1 ∷ 1 ∷ 1 ∷ []) ∷ refused 14 ∷ []
unfolding replies_to
turn_whole = refl

-- a turn of an empty queue needs no word
pub turn_of_nothing : replies_from 12 narrow (eight_words ++ (Barrier ∷ Barrier ∷ Reclaim 64 ∷ [])) ≡ accepted [] ∷ []
unfolding replies_to
turn_of_nothing = refl
