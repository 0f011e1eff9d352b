-- THE LAWS OF NAMES, OF THE LEDGER ALONE: for any six numbers inside the limits, after any calls.
use Rattle.std.specs.Prelude.{List}
use Rattle.geometry.specs.declared.Geometry.{Geometry}
use Rattle.geometry.specs.Limits.{Inside}
use Rattle.model.specs.History.{state_from}
use Rattle.model.specs.NamingLaws.{NamingLaws}
use Rattle.model.specs.Command.{Command}
use Rattle.ledger.specs.Ledger.{fresh}
use Rattle.ledger.specs.Alone.{clerk}

abbrev pub LedgerNaming : Type 0
LedgerNaming = (g : Geometry) → Inside g → (before : List Command) → NamingLaws (clerk g) (state_from (clerk g) fresh before)
