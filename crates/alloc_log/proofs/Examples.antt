-- The two logs of the listing (section 11 of the rules): "The log before C, hexadecimal: 1, 4001, 8001, 4002, 2; after it 8001, 3."
use Rattle.std.proofs.Common.{◌≡◌, ℕ, true, false, List, [], ◌∷◌, set, replicate, refl}
use Rattle.geometry.specs.declared.Geometry.{Geometry}
use Rattle.geometry.specs.Limits.{geometry_of}
use Rattle.alloc_log.specs.Word.{bytes_of, word_bytes, words, spell}
use Rattle.alloc_log.specs.Marks.{mark_run, held_in, held_blocks}
use Rattle.alloc_log.specs.Read.{read_log, free, by_progress, first_word, second_word, by_code, ended}
use Rattle.alloc_log.specs.Runs.{ending, runs_from, runs}
use Rattle.alloc_log.specs.Compress.{runs_words, compressed}
use Rattle.alloc_log.specs.Tool.{readable, marks_of, held_at_end, Alike! }

-- "store 1 4 2 4 8 10"
abbrev small : Geometry
small = geometry_of 1 4 2 4 8 10

abbrev before : List ℕ
before = bytes_of (0x1 ∷ 0x4001 ∷ 0x8001 ∷ 0x4002 ∷ 0x2 ∷ [])

abbrev after : List ℕ
after = bytes_of (0x8001 ∷ 0x3 ∷ [])

pub before_reads : read_log 1 4 before ≡ (true, set (replicate 2048 0) 2 1)
unfolding word_bytes words spell mark_run read_log free by_progress first_word second_word by_code ended
before_reads = refl

pub held_before : held_at_end small before ≡ 2 ∷ []
unfolding word_bytes words spell mark_run read_log free by_progress first_word second_word by_code ended held_at_end marks_of held_blocks held_in
held_before = refl

-- what C writes
pub written : compressed 1 4 (held_in (marks_of small before)) ≡ 0x8001 ∷ 0x3 ∷ []
unfolding word_bytes words spell mark_run read_log free by_progress first_word second_word by_code ended marks_of held_in compressed runs_words runs runs_from ending
written = refl

pub after_alike : Alike! small before after
unfolding word_bytes words spell mark_run read_log free by_progress first_word second_word by_code ended readable held_at_end marks_of held_blocks held_in
after_alike = (refl, refl, refl)

-- a free of a free block: bytes that are no log
pub freed_free : read_log 1 4 (bytes_of (0x4002 ∷ [])) ≡ (false, replicate 2048 0)
unfolding word_bytes words spell mark_run read_log free by_progress first_word second_word by_code ended
freed_free = refl
