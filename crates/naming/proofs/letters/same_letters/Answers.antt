-- `same_letters`: the lengths are the same, and the letters.
use mathlib.Core.Path.{◌∙◌}
use Prim.Native.Nat.{◌+◌}
use lib.ListN.{length}
use borrow.Author.Tests.{ne_eqb, tests}
use native.Mathlib.Omega.{arith}
use Rattle.std.proofs.Common.{rules}
use Rattle.std.proofs.lemmas.Iterator.{YieldsList-from_slice, YieldsList-from_zip, same_from_all}
use Rattle.std.proofs.lemmas.List.Edits.{length-between}
use Rattle.naming.proofs.Spelling.{length_differs, letters_agree}
use Rattle.naming.proofs.letters.same_letters.Goals as goal

pub returns-then-n-name : goal.returns-then-n-name
returns-then-n-name c =
    letters_agree _ _ _ _ _ c.if-n-name.true (omega arith)
    (same_from_all c.all.new.self _ _ _ c.args.name.now c.all.ensures.ran
    (YieldsList-from_zip (YieldsList-from_slice _ cc) (YieldsList-from_slice c.args.name.now cc))
    (length-between c.args.t.now c.args.at (c.args.at + c.args.n) (omega arith) ∙ omega arith)
    (λ x q k. search (rules, tests)) (λ x q k. search (rules, tests)))

pub returns-else-n-name : goal.returns-else-n-name
returns-else-n-name c =
    rw (ne_eqb c.args.n (length c.args.name.now) c.if-n-name.false) (length_differs _ _ _ _ c.if-n-name.false)
