-- DEMAND 3 AND THE TWO FACTS, OF THE LEDGER ALONE: the ledger as a store that its caller sees, with nothing of the tables behind it.
use Rattle.std.specs.Prelude.{◌≡◌, List, []}
use Rattle.answer.specs.Reply.{accepted}
use Rattle.geometry.specs.declared.Geometry.{Geometry}
use Rattle.geometry.specs.Limits.{Inside, blocks}
use Rattle.model.specs.Command.{Command}
use Rattle.model.specs.Book.{empty_book}
use Rattle.model.specs.History.{Machine, Demand3, state_from}
use Rattle.model.specs.HistoryFacts.{HistoryFacts}
use Rattle.model.specs.Memory.{Memory, make_reply, make_after}
use Rattle.model.specs.Demand.{machine, own_store}
use Rattle.ledger.specs.Ledger.{Ledger, fresh, refusals_of, says, step}
use Rattle.ledger.specs.Told.{BookKept, ledger_after, steps_to}

abbrev pub clerk : Geometry → Machine
clerk g = record { Tables = Ledger; Asked = Command; call = λ c. c; conditions = refusals_of g; answer = says g; after = step g }

-- for any six numbers inside the limits, and any calls
abbrev pub LedgerDemand : Type 0
LedgerDemand = (g : Geometry) → Inside g → (l : List Command) →
    Demand3 (clerk g) g.pages (blocks g) fresh l × HistoryFacts (clerk g) g.pages (blocks g) fresh l

-- THE BOOK INSIDE THE LEDGER IS THE PAGE BOOK, fed from the replies: of the ledger alone; of the store's history on lent memory; and of a store that keeps
-- its own log, with calls that are refused for a short buffer too
pub record LedgerBook : Type 0 where
  pub alone : (g : Geometry) → BookKept g (clerk g) fresh empty_book (state_from (clerk g) fresh)
  pub lent : (g : Geometry) (M : Memory) → make_reply g M ≡ accepted [] →
      BookKept g (machine g) (make_after g M).tables empty_book (ledger_after g (make_after g M).tables fresh)
  pub own : (g : Geometry) (M : Memory) → make_reply g M ≡ accepted [] → BookKept g (own_store g) (make_after g M) empty_book (steps_to g fresh)
