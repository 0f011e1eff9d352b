-- `row_words`: the words before k stand.
use Rattle.std.proofs.Common.{◌≡◌, ℕ, ◌-◌, ◌*◌, ◌<◌, min, length, get_or}
use Rattle.choice.specs.Words.{word_of}
use Rattle.tables.specs.Lent.{view_in}
use Rattle.tables.specs.Rows.{differs}
use Rattle.soundness.proofs.pages.row_words.Given as goal

abbrev pub invariant-loop-k : goal.invariant-loop-k
invariant-loop-k l =
    (length l.words ≡ 8)
    × ((j : ℕ) → j < l.k → get_or l.words j 0 ≡ word_of (differs (view_in l.tables) l.s l.link) (32 * j) (min 32 (l.g.pages - 32 * j)))
