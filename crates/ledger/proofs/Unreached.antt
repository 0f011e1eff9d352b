-- TWO SOUND MEMORIES THAT NO STORE BEGUN FRESH REACHES.
use mathlib.Core.Path.{◌≡◌, refl}
use mathlib.Core.Bool.{Bool, true}
use mathlib.Core.List.{List, [], ◌∷◌, ◌++◌}
use Prim.Native.Nat.{ℕ}
use lib.ListN.{replicate}
use Rattle.geometry.specs.declared.Geometry.{Geometry}
use Rattle.geometry.specs.Limits.{Inside, geometry_of, within, fits}
use Rattle.geometry.proofs.Made.{fits_inside}
use Rattle.choice.specs.Words.{word_of}
use Rattle.alloc_log.specs.Word.{words}
use Rattle.alloc_log.specs.Marks.{mark_run, held_in}
use Rattle.alloc_log.specs.Read.{by_code, first_word, by_progress, read_log, free, ended}
use Rattle.alloc_log.specs.Tool.{readable, marks_of}
use Rattle.model.specs.Table.{put, via, first_link, all}
use Rattle.model.specs.Held.{on_pages, queued, held, waits, available, tally}
use Rattle.model.specs.Lists.{elem, below?, rows, on_page}
use Rattle.model.specs.Check.{imp, once?, takes?, prev?, base?, two?, linked?, like?, fits?, page?}
use Rattle.model.specs.Check.{own_at, owns, all_own, gone_at, gone, list?, slot?, empty?, good?}
use Rattle.model.specs.Names.{letters, valid_name, same_name}
use Rattle.model.specs.NamesAgree.{owned}
use Rattle.model.specs.Layout.{free_word, field, numbers, view_of, titles_of, notes_of, queue_of, state_of}
use Rattle.model.specs.Memory.{numbers?, range?, log_holds?, queue?, waiting?, windows?, other_name?, row?, count?, names?, free?, sound?}
use Rattle.model.specs.SoundStore.{SoundStore}
use Rattle.model.proofs.SoundTest.{sound_iff}
use Rattle.ledger.proofs.PaperTable.{small}

-- the test, open
unfoldable tested : Geometry → List ℕ → List ℕ → Bool
unfolding word_of words held_in read_log first_word by_code by_progress free ended readable marks_of mark_run all on_pages queued held waits available elem below?
    rows on_page imp once? takes? prev? base? two? linked? like? fits? page? own_at owns all_own gone_at gone list? slot? empty? good? free_word field numbers
    view_of queue_of state_of numbers? range? log_holds? queue? waiting? windows? free? sound? put via first_link Rattle.model.specs.Check.marks_of tally letters
    valid_name same_name owned titles_of notes_of other_name? row? count? names?
tested g t log = sound? g t log

-- six numbers as in `store 1 4 2 4 8 10`; the last number used is 2, slot 0 has the open record 2 with no page; the mark of arena 0 stands at 3, though no
-- word of the log is used, so that no write was ever logged
abbrev pub tables : List ℕ
tables =
    (1 ∷ 4 ∷ 2 ∷ 4 ∷ 8 ∷ 10 ∷ 2 ∷ replicate 9 0) ++
    ((3 ∷ replicate 47 0) ++ ((15 ∷ replicate 127 0) ++ ((2 ∷ replicate 63 0) ++ (1 ∷ replicate 3855 0))))

abbrev pub log : List ℕ
log = replicate 80 0

checked : sound? small tables log ≡ true
unfolding tested
checked = refl

pub sound_there : SoundStore small tables log
unfolding fits within
sound_there = (sound_iff small (fits_inside small refl) tables log).0 checked

-- `store 2 4 2 4 3 18`, in tables that are longer than needed. Record 3 is sealed, record 5 follows it, record 7 is a fork on it, record 8 is empty;
-- the last number used is 9. Block 0 waits, though no word of the log frees it. Block 4 is queued, born in a record 4. Records 3 and 8 have names, and no
-- row before theirs is in use
abbrev pub forked : Geometry
forked = geometry_of 2 4 2 4 3 18

abbrev pub forked_tables : List ℕ
forked_tables =
    -- the counter is 1, two writes of three were made in this turn, four words are used, one block is queued and one waits; both marks stand at 3
    (2 ∷ 4 ∷ 2 ∷ 4 ∷ 3 ∷ 18 ∷ 9 ∷ 1 ∷ 2 ∷ 4 ∷ 1 ∷ 1 ∷ replicate 4 0) ++
    ((3 ∷ 3 ∷ replicate 46 0) ++
    -- blocks 2, 3 and 7 may be given
    ((140 ∷ replicate 127 0) ++
    -- numbers; open or not; the record before; the base; the length of the deadlist
    ((3 ∷ 5 ∷ 7 ∷ 8 ∷ replicate 60 0) ++
    ((0 ∷ 1 ∷ 1 ∷ 1 ∷ replicate 60 0) ++
    ((0 ∷ 1 ∷ 0 ∷ 0 ∷ replicate 60 0) ++
    ((0 ∷ 0 ∷ 1 ∷ 0 ∷ replicate 60 0) ++
    ((0 ∷ 1 ∷ 0 ∷ 0 ∷ replicate 188 0) ++
    -- records 3 and 8 have a name: b in the fifth row, a in the second
    ((1 ∷ 0 ∷ 0 ∷ 1 ∷ replicate 164 0) ++
    ((4 ∷ 1 ∷ replicate 6 0) ++
    ((97 ∷ replicate 111 0) ++
    ((1 ∷ 1 ∷ replicate 6 0) ++
    ((98 ∷ replicate 1111 0) ++
    -- pages: blocks 5 and 6 on those of record 3, 5 and 1 on those of record 5, nothing and 6 on those of record 7
    ((6 ∷ 7 ∷ replicate 254 0) ++
    ((6 ∷ 2 ∷ replicate 254 0) ++
    ((0 ∷ 7 ∷ replicate 766 0) ++
    -- block 6 on the deadlist of record 5; births 5, 3 and 2 of blocks 1, 5 and 6
    ((6 ∷ replicate 767 0) ++
    ((0 ∷ 5 ∷ 0 ∷ 0 ∷ 0 ∷ 3 ∷ 2 ∷ 0 ∷ []) ++
    -- block 4 is queued, with birth 4; block 0 waits
    ((4 ∷ replicate 7 0) ++
    (0 ∷ 0 ∷ 0 ∷ 0 ∷ 4 ∷ replicate 12 0)))))))))))))))))))

-- blocks 5, 6, 1 and 4 were allocated; what follows counts for nothing, if anything follows
abbrev pub forked_words : List ℕ
forked_words = 0 ∷ 0 ∷ 0 ∷ 0 ∷ 0 ∷ 1 ∷ 64 ∷ 1 ∷ 0 ∷ 0 ∷ 0 ∷ 0 ∷ 0
    ∷ 1 ∷ 128 ∷ 1 ∷ 0 ∷ 0 ∷ 0 ∷ 0 ∷ 0 ∷ 0 ∷ 64 ∷ 1
    ∷ 0 ∷ 0 ∷ 0 ∷ 0 ∷ 0 ∷ 1 ∷ 0 ∷ 1 ∷ []

forked_checked : (rest : List ℕ) → sound? forked forked_tables (forked_words ++ rest) ≡ true
unfolding tested
forked_checked rest = refl

pub forked_inside : Inside forked
unfolding fits within
forked_inside = fits_inside forked refl

pub forked_sound : (rest : List ℕ) → SoundStore forked forked_tables (forked_words ++ rest)
forked_sound rest = (sound_iff forked forked_inside forked_tables (forked_words ++ rest)).0 (forked_checked rest)
