-- A new record: the code stores just the numbers of `opened`.
use native.Mathlib.Omega.{arith}
use mathlib.Core.Path.{refl}
use lib.ListN.{length-set}
use Rattle.lines.specs.Growing.{opened}
use Rattle.lines.proofs.grow.open_record.Goals as goal

pub bounds-t-f : goal.bounds-t-f
bounds-t-f c = simp length-set (omega arith)

pub bounds-t-f-2 : goal.bounds-t-f-2
bounds-t-f-2 c = simp length-set (omega arith)

pub bounds-t-f-3 : goal.bounds-t-f-3
bounds-t-f-3 c = simp length-set (omega arith)

pub bounds-t-f-4 : goal.bounds-t-f-4
bounds-t-f-4 c = simp length-set (omega arith)

pub bounds-t-f-5 : goal.bounds-t-f-5
bounds-t-f-5 c = simp length-set (omega arith)

pub bounds-t-f-6 : goal.bounds-t-f-6
bounds-t-f-6 c = simp length-set (omega arith)

pub bounds-t-f-7 : goal.bounds-t-f-7
bounds-t-f-7 c = simp length-set (omega arith)

pub shape_of-t : goal.shape_of-t
shape_of-t c = simp length-set

pub returns : goal.returns
unfolding opened
returns c = record {
  is = refl;
  number = refl;
}
