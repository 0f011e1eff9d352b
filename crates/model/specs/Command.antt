-- A CALL AS IT IS ASKED: its letter and numbers and, for the three calls of names, the bytes of the name. Record numbers, pages, kinds, windows and counts
-- may be any numbers; "a name is any bytes", of any length. In code a name is a slice beside the call, so code has two types, `Call` and `Naming`.
use Rattle.std.specs.Prelude.{List, ℕ}
use Rattle.model.specs.declared.Call.{Call}
use Rattle.model.specs.declared.Call.TheVariants as call
use Rattle.model.specs.declared.Naming.{Naming}
use Rattle.model.specs.declared.Naming.TheVariants as naming

pub data Command : Type 0 where
  -- B
  Begin : Command
  -- W r page kind
  Write : ℕ → ℕ → ℕ → Command
  -- E r page
  Erase : ℕ → ℕ → Command
  -- S r
  Seal : ℕ → Command
  -- F r
  Fork : ℕ → Command
  -- D r
  Delete : ℕ → Command
  -- R r page
  Read : ℕ → ℕ → Command
  -- Y, C and L
  Barrier : Command
  Compress : Command
  FreeList : Command
  -- Q r
  Estimate : ℕ → Command
  -- K r n
  Retain : ℕ → ℕ → Command
  -- T k
  Reclaim : ℕ → Command
  -- N name r
  Attach : List ℕ → ℕ → Command
  -- U name and M name
  Detach : List ℕ → Command
  Resolve : List ℕ → Command

-- the call that code has as a letter and numbers
abbrev pub command : Call → Command
command call.Begin = Begin
command (call.Write r x k) = Write r x k
command (call.Erase r x) = Erase r x
command (call.Seal r) = Seal r
command (call.Fork r) = Fork r
command (call.Delete r) = Delete r
command (call.Read r x) = Read r x
command call.Barrier = Barrier
command call.Compress = Compress
command call.FreeList = FreeList
command (call.Estimate r) = Estimate r
command (call.Retain r n) = Retain r n
command (call.Reclaim k) = Reclaim k

-- the call of the name l
abbrev pub command_on : Naming → List ℕ → Command
command_on (naming.Attach r) l = Attach l r
command_on naming.Detach l = Detach l
command_on naming.Resolve l = Resolve l
