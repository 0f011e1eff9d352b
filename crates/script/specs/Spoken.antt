-- WHAT A LINE ASKS FOR: a store of six numbers, a call, with the bytes of its name where it has one, or nothing.
use Rattle.std.specs.Prelude.{ℕ, ◌+◌, List}
use Rattle.std.proofs.Math.Seq.{slice}
use Rattle.model.specs.Command.{Command, command, command_on}
use Rattle.script.specs.declared.parse.Six.{Six}
use Rattle.script.specs.declared.parse.Parsed.{Parsed}
use Rattle.script.specs.declared.parse.Parsed.TheVariants.{Store, Asks, Named}
use Rattle.script.specs.Parse.{parsed}

pub data Spoken : Type 0 where
  makes : Six → Spoken
  asks : Command → Spoken
  nothing : Spoken

-- by a text, the position of the line in it, and what the line says: a name begins at position 2 of its line
abbrev pub spoken_at : List ℕ → ℕ → Parsed → Spoken
spoken_at text at (Store x) = makes x
spoken_at text at (Asks c) = asks (command c)
spoken_at text at (Named n e) = asks (command_on n (slice (at + 2) (at + e) text))
spoken_at text at Parsed.No = nothing

-- by the line alone
unfoldable pub spoken : List ℕ → Spoken
spoken line = spoken_at line 0 (parsed line)
