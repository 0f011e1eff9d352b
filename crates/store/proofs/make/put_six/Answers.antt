-- `put_six`: six stores, one behind another.
use lib.ListN.{length-set}
use native.Mathlib.Omega.{arith}
use Rattle.store.proofs.make.put_six.Goals as goal

pub bounds-t-1 : goal.bounds-t-1
bounds-t-1 c = simp length-set (omega arith)

pub bounds-t-2 : goal.bounds-t-2
bounds-t-2 c = simp length-set (omega arith)

pub bounds-t-3 : goal.bounds-t-3
bounds-t-3 c = simp length-set (omega arith)

pub bounds-t-4 : goal.bounds-t-4
bounds-t-4 c = simp length-set (omega arith)

pub bounds-t-5 : goal.bounds-t-5
bounds-t-5 c = simp length-set (omega arith)
