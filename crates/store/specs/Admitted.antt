-- What the numbers and the memory of every call are asked before it acts: "2: a geometry outside its limits. 3: tables or the store's own log space shorter
-- than the geometry needs, or a result buffer under 2 × N + 64 numbers. 4: tables that are not sound" (7.1)
use Rattle.std.specs.Prelude.{◌≡◌, true, false, Result, Ok, Err}
use Rattle.answer.specs.Reply.{refused}
use Rattle.answer.specs.Number.{number_of}
use Rattle.answer.specs.declared.Refusal.{Refusal}
use Rattle.geometry.specs.declared.Geometry.{Geometry}
use Rattle.geometry.specs.Limits.{Inside}
use Rattle.model.specs.Command.{Command}
use Rattle.model.specs.Memory.{Memory, short?, sound?, reply}

-- the six numbers and the memory are those of a sound store, of geometry g; or every call on them is refused
abbrev pub Admits : Geometry → Memory → Result Geometry Refusal → Type 0
Admits six M (Ok g) = (g ≡ six) × Inside g × (short? g M ≡ false) × (sound? g M.tables M.log ≡ true)
Admits six M (Err r) = (c : Command) → reply six M c ≡ refused (number_of r)
