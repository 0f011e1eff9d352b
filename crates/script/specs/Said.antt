-- What the line at a position of a text says, and where it ends.
use Rattle.std.specs.Prelude.{ℕ, ◌+◌, ◌<◌, ◌≤◌, List, ◌≡◌, cond, eqb, length, get_or, drop, Option, Some, None}
use Rattle.std.proofs.Math.Seq.{slice}
use Rattle.model.specs.declared.Call.{Call}
use Rattle.script.specs.declared.parse.Parsed.{Parsed}
use Rattle.script.specs.declared.parse.Parsed.TheVariants.{Store, Asks, Named}
use Rattle.script.specs.declared.said.Said.{Said}
use Rattle.script.specs.Lines.{run}
use Rattle.script.specs.Parse.{Number, digits_from, number_from, parsed}

-- the line from a position to the first line feed, or the end: what it says, and the position behind it
unfoldable pub said_at : List ℕ → ℕ → Said
said_at text at = record { says = parsed (slice at (at + run (drop at text)) text); end = at + run (drop at text) }

-- a name from position 2 of its line to position e: it has a byte, ends in the line from `at` to `end`, and so in the text
pub record NameAt (text : List ℕ) (at e end : ℕ) : Type 0 where
  pub begun : 2 < e
  pub in_line_lem : at + e ≤ end
  pub in_text : end ≤ length text

-- what a slice of the text needs where a line from `at` to `end` says this: a name lies in the line
abbrev pub NameIn : List ℕ → ℕ → Parsed → ℕ → Type 0
NameIn text at (Store x) end = Unit {0}
NameIn text at (Asks c) end = Unit {0}
NameIn text at (Named n e) end = NameAt text at e end
NameIn text at Parsed.No end = Unit {0}

-- what is read after a first digit: after a 0 nothing more
abbrev pub behind_first : List ℕ → ℕ → ℕ → Number
behind_first l first at = cond (eqb first 0) (Some (0, at)) (Some (digits_from l first 6 at))

-- what was read in a short way is what is to be read, and ends by a position. That nothing was read so says nothing
abbrev pub Agrees : Number → Number → ℕ → Type 0
Agrees (Some read) n most = (Some read ≡ n) × (read.1 ≤ most)
Agrees None n most = Unit {0}

-- a call and where its line ends, or none
abbrev pub Near : Type 0
Near = Option (Call × ℕ)

-- a call that was found in one pass is what the line says. That none was found says nothing
abbrev pub Tells : Near → Said → Type 0
Tells (Some near) said = record { says = Asks near.0; end = near.1 } ≡ said
Tells None said = Unit {0}

abbrev pub near_of : Parsed → ℕ → Near
near_of (Store s) e = None
near_of (Asks c) e = Some (c, e)
near_of (Named n k) e = None
near_of Parsed.No e = None

-- a line that begins with a letter, and room for all that is read in one pass
abbrev pub Begun : List ℕ → ℕ → ℕ → Type 0
Begun text at b = (at + 17 ≤ length text) × (b ≡ get_or text at 0)

-- a number that was read in a short way, and where it ends
abbrev pub Next : List ℕ → ℕ → ℕ → ℕ → Type 0
Next text at n end = (number_from (drop at text) at ≡ Some (n, end)) × (end ≤ at + 5)
