-- WHAT A WRITE MAY BE GIVEN, OF THE LEDGER ALONE: "a block without a page is kept from writes exactly while queued or waiting" (5.6). For any six numbers
-- inside the limits, after any calls: the ledger's search looks at a block exactly where the page book has it on no page, and it is neither queued nor waiting
-- as these are reckoned from the calls and their replies.
use Rattle.std.specs.Prelude.{◌≡◌, ◌↔◌, false, List, ℕ, ◌<◌}
use Rattle.geometry.specs.declared.Geometry.{Geometry}
use Rattle.geometry.specs.Limits.{Inside, blocks}
use Rattle.model.specs.Lists.{In}
use Rattle.model.specs.Book.{OnPage}
use Rattle.model.specs.History.{Entry, history_from, book, queued_in, unsynced}
use Rattle.model.specs.Command.{Command}
use Rattle.ledger.specs.Ledger.{fresh, candidates, steps}
use Rattle.ledger.specs.Alone.{clerk}

-- the calls with the ledger's replies
abbrev pub said_to : Geometry → List Command → List Entry
said_to g before = history_from (clerk g) fresh before

abbrev pub CandidatesAre : Type 0
CandidatesAre = (g : Geometry) → Inside g → (before : List Command) (k b : ℕ) →
    In b (candidates g (steps g fresh before) k) ↔
    ((b < blocks g) × (OnPage (book g.pages (said_to g before)) b → ⊥) × (queued_in g.pages (said_to g before) b ≡ false) ×
    (unsynced (said_to g before) b ≡ false))
