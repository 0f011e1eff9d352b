-- SOUND STILL READS EVERY WORD: a log whose only word allocates a block, with no barrier behind it, is that of a store that holds the block, and not that
-- of a store that holds none, though reading it gives none.
use mathlib.Core.Path.{◌≡◌, refl}
use mathlib.Core.Bool.{true, false}
use mathlib.Core.List.{List, [], ◌∷◌}
use Prim.Native.Nat.{ℕ}
use Rattle.geometry.specs.declared.Geometry.{Geometry}
use Rattle.alloc_log.specs.Word.{words, spell, word_bytes, bytes_of, allocated}
use Rattle.alloc_log.specs.Marks.{held_in, mark_run}
use Rattle.alloc_log.specs.Read.{free, by_code, first_word, second_word, by_progress, ended, read_log}
use Rattle.alloc_log.specs.Settled.{up_to_barrier, settled}
use Rattle.alloc_log.specs.Tool.{readable, marks_of}
use Rattle.model.specs.Table.{put, all}
use Rattle.model.specs.View.{with_birth}
use Rattle.model.specs.Held.{on_pages, queued, held}
use Rattle.model.specs.State.{State, with_view, with_used, fresh}
use Rattle.model.specs.Memory.{log_holds?}

-- one arena of two blocks
abbrev two : Geometry
two = record { arenas = 1; per = 2; pages = 1; records = 1; turn = 1; words = 6 }

-- one log word is used, and no block is held, or block 0 is
abbrev none : State
none = with_used (fresh two) 1

abbrev one : State
one = with_view none (with_birth none.view (put none.view.birth 0 1))

abbrev log : List ℕ
log = bytes_of (allocated 0 ∷ [])

pub record EveryWord : Type 0 where
  pub holds : log_holds? two one log ≡ true
  pub lacks : log_holds? two none log ≡ false
  pub settles : settled log ≡ []

pub every_word : EveryWord
unfolding log_holds? readable marks_of read_log words spell word_bytes by_progress first_word by_code second_word mark_run held_in ended free all held on_pages queued
    fresh put settled up_to_barrier
every_word = record { holds = refl; lacks = refl; settles = refl }
