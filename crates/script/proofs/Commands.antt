-- A command is a call of a letter and numbers, or a call on a name, and never both.
use Prim.Native.Nat.{ℕ}
use mathlib.Core.Path.{◌≡◌, refl}
use mathlib.Core.List.{List}
use Rattle.model.specs.declared.Call.{Call}
use Rattle.model.specs.declared.Call.TheVariants as call
use Rattle.model.specs.declared.Naming.{Naming}
use Rattle.model.specs.declared.Naming.TheVariants as naming
use Rattle.model.specs.Command.{Command, command, command_on}
use Rattle.model.specs.Command.{Begin, Write, Erase, Seal, Fork, Delete, Read, Barrier, Compress, FreeList, Estimate, Retain, Reclaim, Attach, Detach, Resolve}

pub data Kind : Type 0 where
  plain : Call → Kind
  on : Naming → List ℕ → Kind

abbrev pub kind : Command → Kind
kind Begin = plain call.Begin
kind (Write r x k) = plain (call.Write r x k)
kind (Erase r x) = plain (call.Erase r x)
kind (Seal r) = plain (call.Seal r)
kind (Fork r) = plain (call.Fork r)
kind (Delete r) = plain (call.Delete r)
kind (Read r x) = plain (call.Read r x)
kind Barrier = plain call.Barrier
kind Compress = plain call.Compress
kind FreeList = plain call.FreeList
kind (Estimate r) = plain (call.Estimate r)
kind (Retain r n) = plain (call.Retain r n)
kind (Reclaim k) = plain (call.Reclaim k)
kind (Attach l r) = on (naming.Attach r) l
kind (Detach l) = on naming.Detach l
kind (Resolve l) = on naming.Resolve l

abbrev pub asked : Kind → Command
asked (plain k) = command k
asked (on n l) = command_on n l

-- and so each command is asked by its kind, and no other
pub asked_kind : (c : Command) → asked (kind c) ≡ c
asked_kind Begin = refl
asked_kind (Write r x k) = refl
asked_kind (Erase r x) = refl
asked_kind (Seal r) = refl
asked_kind (Fork r) = refl
asked_kind (Delete r) = refl
asked_kind (Read r x) = refl
asked_kind Barrier = refl
asked_kind Compress = refl
asked_kind FreeList = refl
asked_kind (Estimate r) = refl
asked_kind (Retain r n) = refl
asked_kind (Reclaim k) = refl
asked_kind (Attach l r) = refl
asked_kind (Detach l) = refl
asked_kind (Resolve l) = refl

pub kind_command : (k : Call) → kind (command k) ≡ plain k
kind_command call.Begin = refl
kind_command (call.Write r x k) = refl
kind_command (call.Erase r x) = refl
kind_command (call.Seal r) = refl
kind_command (call.Fork r) = refl
kind_command (call.Delete r) = refl
kind_command (call.Read r x) = refl
kind_command call.Barrier = refl
kind_command call.Compress = refl
kind_command call.FreeList = refl
kind_command (call.Estimate r) = refl
kind_command (call.Retain r n) = refl
kind_command (call.Reclaim k) = refl

pub kind_naming : (n : Naming) (l : List ℕ) → kind (command_on n l) ≡ on n l
kind_naming (naming.Attach r) l = refl
kind_naming naming.Detach l = refl
kind_naming naming.Resolve l = refl
