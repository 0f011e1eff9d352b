-- The calls of a letter and numbers that only look: R, L and Q. (K looks too, and notes a window; M comes with a name.)
use Rattle.std.specs.Prelude.{Bool, true, false, cond}
use Rattle.std.specs.Prelude as prelude
use Rattle.std.proofs.Math.Option.{Option, none, some}
use Rattle.model.specs.declared.Call.{Call}
use Rattle.model.specs.declared.Call.TheVariants.{Begin, Write, Erase, Seal, Fork, Delete, Read, Barrier, Compress, FreeList, Estimate, Retain, Reclaim}
use Rattle.engine.specs.declared.looks.Look.{Look}
use Rattle.engine.specs.declared.looks.Look.TheVariants as look

-- the call that a look is
abbrev pub look_call : Look → Call
look_call (look.Read n x) = Read n x
look_call look.FreeList = FreeList
look_call (look.Estimate n) = Estimate n

abbrev pub looks : Call → Bool
looks Begin = false
looks (Write r x k) = false
looks (Erase r x) = false
looks (Seal r) = false
looks (Fork r) = false
looks (Delete r) = false
looks (Read r x) = true
looks Barrier = false
looks Compress = false
looks FreeList = true
looks (Estimate r) = true
looks (Retain r n) = false
looks (Reclaim k) = false

-- of what is asked, a call that only looks
abbrev pub only_looks : Option Call → Option Call
only_looks (some c) = cond (looks c) (some c) none
only_looks none = none

-- the call that an answer stands for
abbrev pub seen_call : prelude.Option Look → Option Call
seen_call (prelude.Some l) = some (look_call l)
seen_call prelude.None = none
