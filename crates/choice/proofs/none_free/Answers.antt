-- The bits are 0 only where each word that was read is 0.
use borrow.Author.Tests.{eqb-true}
use Prim.Native.Nat.{◌+◌, ◌/◌}
use native.Mathlib.Omega.{arith}
use lib.ListN.{get_or}
use Rattle.std.proofs.Common.{length-take}
use Rattle.std.proofs.lemmas.List.{get_or-take}
use Rattle.choice.proofs.Gap.{word_none}
use Rattle.choice.proofs.Skips.{one_more_lem}
use Rattle.choice.proofs.none_free.Goals as goal

pub loop-word-preserved : goal.loop-word-preserved
loop-word-preserved c =
    let n = (c.args.all + 31) / 32 in
    let words = c.args.words.now in
    let same = get_or-take n words c.loop-word.word-index 0 (omega (arith, length-take n words)) in
    λ e. one_more_lem (λ i. get_or words i 0) c.loop-word.invariant (rw same at e)

pub returns : goal.returns
returns c = λ e b h.
    word_none c.args.words.now b
    (c.loop-word.invariant (eqb-true c.loop-word.bits 0 e) (b / 32) (omega (arith, length-take ((c.args.all + 31) / 32) c.args.words.now)))
